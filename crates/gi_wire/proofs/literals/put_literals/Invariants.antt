use Rattle.std.proofs.Common.{ℕ, List, take, ◌++◌}
use Rattle.std.specs.List.{flat_map}
use Rattle.gi_outside.specs.Outbox.{Stands}
use Rattle.gi_outside.specs.World.{World}
use Rattle.gi_wire.specs.Literals.{literal_text}
use Rattle.gi_wire.proofs.literals.put_literals.Given as goal

abbrev pub invariant-loop-literal : goal.invariant-loop-literal
invariant-loop-literal g l = (start : World) (before : List ℕ) → Stands start (g.L.Link.state l.fn.link) l.fn.outbox before
    → Stands start (g.L.Link.state l.link) l.outbox (before ++ flat_map literal_text (take l.literal-index l.literals))
