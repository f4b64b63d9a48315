use Rattle.std.proofs.Common.{◌+◌, Bool, List, sym, ◌∙◌, subst, arith}
use Rattle.gi_prop.specs.TrailView.{StandsAt, IsUnassigned}
use Rattle.gi_scopes.proofs.Tracing.{MarkedTo, marked_set, marked_skip, marked_all}
use Rattle.gi_scopes.proofs.trace.mark.Goals as goal
use Rattle.gi_scopes.proofs.trace.mark.Goals.{in-Some, in_default}

pub loop-l-preserved : goal.loop-l-preserved
loop-l-preserved c =
    let P : List Bool → Type 0 = λ bs. MarkedTo c.args.trail.now.lits c.args.lits.now (c.loop-l.l-index + 1) c.args.seen.now bs in
    elim c.match-place_of.branch [
      | in-Some w ↦
          let s : StandsAt c.args.trail.now.lits c.var.result w.in-Some.place = w.in-Some.ensures in
          subst P (sym w.seen-is) (marked_set c.args.trail.now.lits c.args.lits.now c.loop-l.l-index c.args.seen.now c.loop-l.seen c.loop-l.invariant c.l-item.result c.loop-l-test.true c.l-item.is w.in-Some.place
          (omega (arith, s.below, c.loop-l.invariant.kept.count, c.requires.count))
          (λ q r. c.level-level.ensures.trail.apart q w.in-Some.place r.below s.below (r.names ∙ sym c.var.ensures ∙ sym s.names)))
      | in_default w ↦ subst P (sym w.seen-is) (marked_skip c.args.trail.now.lits c.args.lits.now c.loop-l.l-index c.args.seen.now c.loop-l.seen c.loop-l.invariant c.l-item.result c.loop-l-test.true c.l-item.is
          (subst (IsUnassigned c.args.trail.now.lits) c.var.ensures w.in_default.ensures))
    ]

pub returns-clause-seen : goal.returns-clause-seen
returns-clause-seen c = marked_all c.args.trail.now.lits c.args.lits.now c.loop-l.l-index c.args.seen.now c.loop-l.seen c.loop-l-test.false c.loop-l.invariant
