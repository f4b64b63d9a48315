use Rattle.std.proofs.Common.{◌≡◌, ◌==◌, ◌++◌, not, ℕ, Bool, List, take_while, ap, sym, ◌∙◌, arith}
use Rattle.gi_model.specs.State.{listed_in}
use Rattle.gi_model.specs.Tests.{before}
use Rattle.gi_reference.proofs.Explaining.{before_more, before_stops, before_ends}
use Rattle.gi_reference.proofs.reasons.before.Goals as goal

pub loop-level-init : goal.loop-level-init
loop-level-init c = ap (λ ls. ls ++ before c.args.levels.now c.args.m) c.new-all.ensures

pub returns-then-lists : goal.returns-then-lists
returns-then-lists c =
    let p : ℕ → Bool = λ x. not (x == c.args.m) in
    let more : c.append_before.new.to ≡ (c.loop-level.all ++ c.level-item.result.assumed) ++ take_while p (listed_in c.level-item.result.found) = c.in_ok-append_before.ensures ∙ ap (λ xs. xs ++ take_while p c.listed.result.now) (c.in_ok-append.ensures ∙ ap (λ xs. c.loop-level.all ++ xs) c.assumed.ensures) ∙ ap (λ xs. (c.loop-level.all ++ c.level-item.result.assumed) ++ take_while p xs) c.listed.ensures in
    before_stops c.args.levels.now c.args.m c.loop-level.level-index c.loop-level.all c.loop-level.invariant c.level-item.result c.loop-level-test.true c.level-item.is c.append_before.new.to more (sym c.if-lists.ensures)

pub loop-level-preserved : goal.loop-level-preserved
loop-level-preserved c =
    let p : ℕ → Bool = λ x. not (x == c.args.m) in
    let more : c.append_before.new.to ≡ (c.loop-level.all ++ c.level-item.result.assumed) ++ take_while p (listed_in c.level-item.result.found) = c.in_ok-append_before.ensures ∙ ap (λ xs. xs ++ take_while p c.listed.result.now) (c.in_ok-append.ensures ∙ ap (λ xs. c.loop-level.all ++ xs) c.assumed.ensures) ∙ ap (λ xs. (c.loop-level.all ++ c.level-item.result.assumed) ++ take_while p xs) c.listed.ensures in
    before_more c.args.levels.now c.args.m c.loop-level.level-index c.loop-level.all c.loop-level.invariant c.level-item.result c.loop-level-test.true c.level-item.is c.append_before.new.to more (sym c.if-lists.ensures)

pub returns : goal.returns
returns c = before_ends c.args.levels.now c.args.m c.loop-level.level-index c.loop-level.all c.loop-level.invariant (omega arith)
