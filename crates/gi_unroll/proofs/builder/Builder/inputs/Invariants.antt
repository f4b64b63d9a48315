use Rattle.std.proofs.Common.{◌≡◌, []}
use Rattle.gi_circuit.specs.Frames.{input_along}
use Rattle.gi_unroll.specs.Steps.{along}
use Rattle.gi_unroll.proofs.builder.Builder.inputs.Given as goal

abbrev pub invariant-choices : goal.invariant-choices
invariant-choices l = along l.self l.edges.items ≡ input_along l._made (along l.initial.self [])
