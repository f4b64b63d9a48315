use Rattle.std.proofs.Common.{◌/◌, ◌≤◌, length, ap, arith}
use Rattle.std.proofs.lemmas.List.Elements.{All-weaker}
use Rattle.gi_circuit.specs.Nodes.{Parts}
use Rattle.gi_circuit.proofs.Wiring.{and_in-longer}
use Rattle.gi_circuit.proofs.import.Importer.gate.Goals as goal

pub invariant_of-self-2 : goal.invariant_of-self-2
invariant_of-self-2 c =
    let n = ap (λ (p : Parts). length p.nodes) c.in_ok-edge.ensures.ok.nodes in
    let l = and_in-longer c.self.inside.circuit.parts.nodes c.edge-a.result c.edge-b.result in
    All-weaker (λ e. e / 2 ≤ length c.self.inside.circuit.parts.nodes) (λ e. e / 2 ≤ length c.and.new.self.parts.nodes) (λ e h. omega (arith, n, l, h)) c.self.inside.edges c.self.invariant
