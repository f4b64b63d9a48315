use Rattle.std.proofs.Common.{arith}
use Rattle.gi_levels.proofs.Sorting.{count_more}
use Rattle.gi_levels.proofs.order.places.Goals as goal

pub loop-place-preserved : goal.loop-place-preserved
loop-place-preserved c =
    let i = c.loop-place.place in
    grind (arith, c.loop-place.invariant, count_more 0 i)
