use Rattle.std.proofs.Common.{arith}
use Rattle.gi_core.proofs.Slices.{goes_on}
use Rattle.gi_core.proofs.machine.Machine.settle.Goals as goal

pub go_on-requires-clause-some : goal.go_on-requires-clause-some
go_on-requires-clause-some c =
    let n = c.requires.some (goes_on c.args.end c.args.mark _ c.args.run.budget c.in-None.ensures c.requires.found) in
    omega (arith, n, c.len-count.ensures)
