use Rattle.std.proofs.Common.{◌≡◌, ℕ, ◌+◌, ◌-◌, ◌/◌, refl, subst, arith}
use Rattle.gi_model.proofs.Folding.{IsFolded, fold, fold_peak, fold_next}
use Rattle.gi_model.proofs.pacing.luby.Goals as goal

pub returns-then-left-size : goal.returns-then-left-size
returns-then-left-size c =
    let first = c.args.place + 1 in
    let size = c.loop-k.size in
    let e = 32 - c.loop-k._k in
    let f = fold first c.loop-k.left size e c.folded-left.result c.loop-k.invariant c.folded-left.ensures in
    fold_peak first size e (size / 2 + 1) (subst (λ (x : ℕ). IsFolded first x size e) c.if-left-size.true f.0) (omega arith) refl

pub loop-k-preserved : goal.loop-k-preserved
loop-k-preserved c =
    let first = c.args.place + 1 in
    let size = c.loop-k.size in
    let e = 32 - c.loop-k._k in
    let rest = c.folded-left.result in
    let f = fold first c.loop-k.left size e rest c.loop-k.invariant c.folded-left.ensures in
    let q : e - 1 ≡ 32 - (c.loop-k._k + 1) = omega arith in
    subst (λ (x : ℕ). IsFolded first rest (size / 2) x) q (fold_next first rest size e f.0 f.1 c.if-left-size.false (omega arith))
