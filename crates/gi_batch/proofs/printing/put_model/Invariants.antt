use Rattle.std.proofs.Common.{[], ◌++◌}
use Rattle.std.specs.List.{flat_map, range_with_len}
use Rattle.std.specs.Fork.{slice_chunk}
use Rattle.gi_outside.specs.World.{World}
use Rattle.gi_outside.specs.Outbox.{Stands}
use Rattle.gi_batch.specs.Output.{line_text, words_of}
use Rattle.gi_batch.proofs.printing.put_model.Given as goal

abbrev pub invariant-loop-i : goal.invariant-loop-i
invariant-loop-i g l = (start : World) → Stands start (g.L.Link.state l.fn.user) l.fn.outbox [] → Stands start (g.L.Link.state l.user) l.outbox ([] ++ flat_map (λ i. line_text (slice_chunk (words_of l.literals) 12 i)) (range_with_len 0 l.i))
