use Rattle.std.proofs.Common.{ℕ, List, take, ◌++◌}
use Rattle.gi_outside.specs.World.{World}
use Rattle.gi_outside.specs.Outbox.{Stands}
use Rattle.gi_outside.proofs.outbox.Outbox.put.Given as goal

abbrev pub invariant-loop-b : goal.invariant-loop-b
invariant-loop-b g l = (start : World) (text : List ℕ) → Stands start (g.L.Link.state l.fn.link) l.fn.self text → Stands start (g.L.Link.state l.link) l.self (text ++ take l.b-index l.bytes)
