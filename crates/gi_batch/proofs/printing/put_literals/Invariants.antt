use Rattle.std.proofs.Common.{ℕ, List, ◌∷◌, ◌++◌, take}
use Rattle.gi_outside.specs.World.{World}
use Rattle.gi_outside.specs.Outbox.{Stands}
use Rattle.gi_batch.proofs.Lines.{spaced}
use Rattle.gi_batch.proofs.printing.put_literals.Given as goal

abbrev pub invariant-loop-literal : goal.invariant-loop-literal
invariant-loop-literal g l = (start : World) (before : List ℕ) → Stands start (g.L.Link.state l.fn.user) l.fn.outbox before → Stands start (g.L.Link.state l.user) l.outbox (before ++ 118 ∷ spaced (take l.literal-index l.literals))
