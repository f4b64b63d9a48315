use Rattle.std.proofs.Common.{◌≡◌, ◌+◌, arith, ℕ, subst, sym, List, Bool}
use Rattle.gi_cdcl.specs.Values.{IsAssignment}
use Rattle.gi_cdcl.proofs.Values.{ValuesSoFar, ValuesSoFar-push, assigned}
use Rattle.gi_cdcl.proofs.decide.assignment.Goals as goal

pub returns : goal.returns
returns c =
    let all : c.loop-place.place ≡ c.args.n = omega (arith, c.loop-place-test.false, c.loop-place.auto.place-end) in
    subst (IsAssignment c.args.n c.args.trail.now.lits) (sym c.from_vec.ensures) (assigned c.args.trail.now.lits c.args.n c.loop-place.values.items c.requires.trail.consistent (subst (λ (n : ℕ). ValuesSoFar c.args.trail.now.lits n c.loop-place.values.items) all c.loop-place.invariant))

pub loop-place-preserved : goal.loop-place-preserved
loop-place-preserved c = subst (λ (bs : List Bool). ValuesSoFar c.args.trail.now.lits (c.loop-place.place + 1) bs) (sym c.in_ok-push.ensures.items) (ValuesSoFar-push c.args.trail.now.lits c.loop-place.place c.loop-place.values.items _ c.loop-place.invariant c.is_true.ensures)
