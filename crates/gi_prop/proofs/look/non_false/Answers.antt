use Rattle.std.proofs.Common.{sym, subst, Option, ℕ, ◌+◌}
use Rattle.std.proofs.lemmas.Bool.{not-true, not-false, eqb-true, eqb-false, both_ways}
use Rattle.gi_prop.proofs.Seeking.{LeftSoFar, left_two, step_false, step_new, step_same, end_none, end_some}
use Rattle.gi_prop.proofs.look.non_false.Goals as goal
use Rattle.gi_prop.proofs.look.non_false.Goals.{in-None, in-Some+else-ne}

pub returns-then-ne : goal.returns-then-ne
returns-then-ne c = left_two c.args.trail.now.lits c.args.clause.now _ _ c.loop-l-test.true c.l-item.is c.in-Some.other (rw c.in-Some.is at c.loop-l.invariant) (λ h. both_ways _ c.if-is_false.false (c.is_false.ensures.1 h)) (eqb-false _ _ (not-true _ (sym c.if-ne.ensures)))

pub loop-l-preserved-then-is_false : goal.loop-l-preserved-then-is_false
loop-l-preserved-then-is_false c = step_false _ _ _ _ c.loop-l-test.true c.l-item.is c.loop-l.left c.loop-l.invariant (c.is_false.ensures.0 c.if-is_false.true)

pub loop-l-preserved : goal.loop-l-preserved
loop-l-preserved c =
    let P : Option ℕ → Type 0 = LeftSoFar c.args.trail.now.lits c.args.clause.now (c.loop-l.l-index + 1) in
    elim c.match-left.branch [
      | in-None w ↦ subst P (sym w.left-is) (step_new c.args.trail.now.lits c.args.clause.now _ _ c.loop-l-test.true c.l-item.is (rw w.in-None.is at c.loop-l.invariant) (λ h. both_ways _ c.if-is_false.false (c.is_false.ensures.1 h)))
      | in-Some+else-ne w ↦ subst P (sym w.left-is) (step_same c.args.trail.now.lits c.args.clause.now _ _ c.loop-l-test.true c.l-item.is w.in-Some.other (rw w.in-Some.is at c.loop-l.invariant) (eqb-true _ _ (not-false _ (sym w.if-ne.ensures))))
    ]

pub returns-in-None-left : goal.returns-in-None-left
returns-in-None-left c = end_none c.args.trail.now.lits c.args.clause.now c.loop-l.l-index c.loop-l-test.false (rw c.in-None-left.is at c.loop-l.invariant)

pub returns-in-Some-left : goal.returns-in-Some-left
returns-in-Some-left c = end_some c.args.trail.now.lits c.args.clause.now c.loop-l.l-index c.in-Some-left.l c.loop-l-test.false (rw c.in-Some-left.is at c.loop-l.invariant)
