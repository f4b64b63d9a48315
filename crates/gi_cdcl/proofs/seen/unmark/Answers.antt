use Rattle.std.proofs.Common.{◌<◌, List, ℕ, length, get_or, take, subst, arith}
use Rattle.std.proofs.lemmas.List.{take_more, take_all}
use Rattle.std.proofs.lemmas.List.Elements.{Contains-get_or}
use Rattle.gi_cdcl.proofs.Touching.{IsLess, less_none, less_one, less_all, flag_within}
use Rattle.gi_cdcl.proofs.seen.unmark.Goals as goal

pub loop-place-init : goal.loop-place-init
loop-place-init c = less_none c.args.flags.now.items

pub index_mut-requires : goal.index_mut-requires
index_mut-requires c =
    let lt = flag_within c.args.flags.now.items (get_or c.args.touched.now c.loop-place.place-index 0) (c.requires.only _ (Contains-get_or c.args.touched.now c.loop-place.place-index 0 c.loop-place-test.true)) in
    let n = c.loop-place.invariant.len in
    omega (arith, lt, n, c.loop-place.flags.ok.0)

pub loop-place-preserved : goal.loop-place-preserved
loop-place-preserved c =
    let lt = flag_within c.args.flags.now.items (get_or c.args.touched.now c.loop-place.place-index 0) (c.requires.only _ (Contains-get_or c.args.touched.now c.loop-place.place-index 0 c.loop-place-test.true)) in
    let within : get_or c.args.touched.now c.loop-place.place-index 0 < length c.loop-place.flags.items = let n = c.loop-place.invariant.len in omega (arith, lt, n) in
    rw (take_more c.args.touched.now c.loop-place.place-index 0 c.loop-place-test.true) (less_one c.args.flags.now.items c.loop-place.flags.items (take c.loop-place.place-index c.args.touched.now) (get_or c.args.touched.now c.loop-place.place-index 0) c.loop-place.invariant within)

pub returns-clause-blank : goal.returns-clause-blank
returns-clause-blank c = less_all c.args.flags.now.items c.loop-place.flags.items c.args.touched.now (subst (λ (xs : List ℕ). IsLess c.args.flags.now.items c.loop-place.flags.items xs) (take_all c.loop-place.place-index c.args.touched.now c.loop-place-test.false) c.loop-place.invariant) c.requires.all
