use Rattle.std.proofs.Common.{subst, arith}
use Rattle.std.proofs.lemmas.List.{take_all}
use Rattle.gi_scopes.specs.Listing.{MarksPlaces}
use Rattle.gi_scopes.proofs.Noting.{marks_none, marks_more}
use Rattle.gi_scopes.proofs.implied.mark_places.Goals as goal

pub loop-l-init : goal.loop-l-init
loop-l-init c = marks_none c.args.trail.now.lits c.args.from c.args.marks.now

pub mark_place-requires : goal.mark_place-requires
mark_place-requires c = omega (arith, c.requires, c.loop-l.invariant.count)

pub loop-l-preserved : goal.loop-l-preserved
loop-l-preserved c = marks_more c.args.trail.now.lits c.args.from c.args.lits.now c.loop-l.l-index c.l-item.result c.loop-l-test.true c.l-item.is c.args.marks.now c.loop-l.marks c.mark_place.new.marks c.loop-l.invariant c.mark_place.ensures

pub returns : goal.returns
returns c = subst (λ xs. MarksPlaces c.args.trail.now.lits c.args.from xs c.args.marks.now c.loop-l.marks) (take_all c.loop-l.l-index c.args.lits.now c.loop-l-test.false) c.loop-l.invariant
