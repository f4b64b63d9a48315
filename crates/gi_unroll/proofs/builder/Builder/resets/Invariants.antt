use Rattle.std.proofs.Common.{◌≡◌, [], take}
use Rattle.std.specs.List.{fold}
use Rattle.gi_circuit.specs.Frames.{reset_along}
use Rattle.gi_unroll.specs.Steps.{along}
use Rattle.gi_unroll.proofs.builder.Builder.resets.Given as goal

abbrev pub invariant-loop-reset : goal.invariant-loop-reset
invariant-loop-reset l = along l.self l.edges.items ≡ fold reset_along (along l.initial.self []) (take l.reset-index l.resets)
