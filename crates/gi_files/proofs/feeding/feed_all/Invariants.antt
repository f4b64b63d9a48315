use Rattle.std.proofs.Common.{◌-◌, ◌+◌, ◌^◌, ◌<◌}
use Rattle.gi_files.proofs.Giving.{Going}
use Rattle.gi_files.proofs.feeding.feed_all.Given as goal

abbrev pub invariant-pieces : goal.invariant-pieces
invariant-pieces g l = record {
  most : l.taken < 2 ^ 62 + 4096;
  going : Going (g.L.Link.state l.fn.user) (g.L.Link.state l.user) g.V.FileValue.format l.reader l.taken;
}

abbrev pub decreases-pieces : goal.decreases-pieces
decreases-pieces g l = 2 ^ 62 - l.taken
