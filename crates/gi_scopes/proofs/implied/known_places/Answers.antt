use Rattle.std.proofs.Common.{◌+◌, ◌-◌, ◌++◌, length, take, sym, ap, subst, arith}
use Rattle.std.proofs.lemmas.List.{take_at, take_all}
use Rattle.gi_model.specs.State.{listed_in, scope_listed}
use Rattle.gi_scopes.specs.Listing.{MarksPlaces, ArePlaces}
use Rattle.gi_scopes.proofs.Noting.{places_none, places_more, places_scope, places_turned}
use Rattle.gi_scopes.proofs.implied.known_places.Goals as goal

pub loop-level-init : goal.loop-level-init
unfolding scope_listed
loop-level-init c = places_none c.args.trail.now.lits c.args.from (length c.lits.result.now - c.args.from) c.in_ok-marks.marks.items c.in_ok-marks.ensures (omega (arith, c.requires, ap length c.lits.ensures.value))

pub mark_places-requires : goal.mark_places-requires
mark_places-requires c = omega (arith, c.loop-level.invariant.count, ap length c.as_mut_slice.ensures.value)

pub loop-level-preserved : goal.loop-level-preserved
loop-level-preserved c =
    let all = c.args.trail.now.lits in
    let from = c.args.from in
    let a : MarksPlaces c.args.trail.now.lits c.args.from (listed_in c.level-item.result.found) c.as_mut_slice.result.now c.mark_places.new.marks = subst (λ xs. MarksPlaces all from xs c.as_mut_slice.result.now c.mark_places.new.marks) c.listed.ensures c.mark_places.ensures in
    let m : MarksPlaces c.args.trail.now.lits c.args.from (listed_in c.level-item.result.found) c.loop-level.marks.items c.mark_places.new.marks = subst (λ bs. MarksPlaces all from (listed_in c.level-item.result.found) bs c.mark_places.new.marks) c.as_mut_slice.ensures.value a in
    subst (ArePlaces all from (scope_listed (take (c.loop-level.level-index + 1) c.args.levels.now))) (sym (take_at c.mark_places.new.marks _ c.loop-level.marks.len (omega (arith, m.count, c.loop-level.marks.ok.0))))
    (places_scope all from c.args.levels.now c.loop-level.level-index c.level-item.result c.loop-level.marks.items c.mark_places.new.marks c.loop-level-test.true c.level-item.is c.loop-level.invariant m)

pub mark_places-requires-2 : goal.mark_places-requires-2
mark_places-requires-2 c = omega (arith, c.loop-level.invariant.count, ap length c.as_mut_slice-2.ensures.value)

pub returns : goal.returns
returns c =
    let all = c.args.trail.now.lits in
    let from = c.args.from in
    let given = c.args.given.now in
    let scs = c.args.levels.now in
    let listed : ArePlaces c.args.trail.now.lits c.args.from (scope_listed c.args.levels.now) c.loop-level.marks.items = subst (λ xs. ArePlaces all from (scope_listed xs) c.loop-level.marks.items) (take_all c.loop-level.level-index scs c.loop-level-test.false) c.loop-level.invariant in
    let m : MarksPlaces c.args.trail.now.lits c.args.from c.args.given.now c.loop-level.marks.items c.mark_places-2.new.marks = subst (λ bs. MarksPlaces all from given bs c.mark_places-2.new.marks) c.as_mut_slice-2.ensures.value c.mark_places-2.ensures in
    subst (ArePlaces all from (given ++ scope_listed scs)) (sym (take_at c.mark_places-2.new.marks _ c.loop-level.marks.len (omega (arith, m.count, c.loop-level.marks.ok.0))))
    (places_turned all from (scope_listed scs) given c.mark_places-2.new.marks (places_more all from (scope_listed scs) given c.loop-level.marks.items c.mark_places-2.new.marks listed m))
