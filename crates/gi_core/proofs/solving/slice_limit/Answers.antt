use Rattle.std.proofs.Common.{◌+◌, arith}
use Rattle.gi_model.proofs.Folding.{luby_low}
use Rattle.gi_core.proofs.solving.slice_limit.Goals as goal
use Rattle.gi_core.proofs.solving.slice_limit.Goals.{then-pace-gt32, else-pace-gt32}

pub returns-clause-low : goal.returns-clause-low
returns-clause-low c =
    let low = luby_low (c.args.slices + 1) c.luby-pace.result c.luby-pace.ensures in
    elim c.if-pace-gt32.branch [
      | then-pace-gt32 w ↦ (let e = w.wanted-is in omega (arith, c.min.ensures))
      | else-pace-gt32 w ↦ (let e = w.wanted-is in omega (arith, c.min.ensures))
    ]
