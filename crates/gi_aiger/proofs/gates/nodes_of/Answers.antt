use Rattle.std.proofs.Common.{◌≡◌, List, length, map, take, ap, ◌∙◌, arith}
use Rattle.std.proofs.lemmas.List.{take_all}
use Rattle.gi_aiger.specs.declared.aig.AndGate.{AndGate}
use Rattle.gi_aiger.specs.Places.{node_by}
use Rattle.gi_aiger.specs.Tables.{value_of}
use Rattle.gi_aiger.proofs.Resolving.{resolved}
use Rattle.gi_aiger.proofs.gates.nodes_of.Goals as goal

pub returns : goal.returns
returns c =
    let all : take c.loop-gate.gate-index c.args.gates.now ≡ c.args.gates.now = take_all c.loop-gate.gate-index c.args.gates.now (omega (arith, c.loop-gate-test.false, c.loop-gate.auto.gate-index-end)) in
    resolved c.args.gates.now (value_of c.in_ok-places.places) c.loop-gate.nodes.items c.in_ok-places.ensures
    (c.loop-gate.invariant ∙ ap (λ (gs : List AndGate). map (node_by (value_of c.in_ok-places.places)) gs) all)
