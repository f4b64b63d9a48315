use Rattle.std.proofs.Common.{length}
use Rattle.gi_outside.specs.Outbox.{WroteAllBut}
use Rattle.gi_outside.proofs.sending.write_all.Given as goal

abbrev pub invariant-loop-rest : goal.invariant-loop-rest
invariant-loop-rest g l = WroteAllBut (g.L.Link.state l.fn.link) (g.L.Link.state l.link) l.rest l.bytes

abbrev pub decreases-loop-rest : goal.decreases-loop-rest
decreases-loop-rest g l = length l.rest
