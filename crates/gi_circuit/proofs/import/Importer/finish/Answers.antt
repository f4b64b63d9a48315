use Rattle.std.proofs.Common.{ℕ, ◌/◌, ◌≤◌, List, length, get_or, sym, subst}
use Rattle.std.specs.List.{All}
use Rattle.std.proofs.lemmas.List.Elements.{All-map}
use Rattle.gi_aiger.specs.declared.aig.Latch.{Latch}
use Rattle.gi_circuit.specs.Frames.{edge_of}
use Rattle.gi_circuit.specs.Import.{Imported}
use Rattle.gi_circuit.proofs.Importing.{edge_fits}
use Rattle.gi_circuit.proofs.import.Importer.finish.Goals as goal

pub wire-requires-clause-nexts : goal.wire-requires-clause-nexts
wire-requires-clause-nexts c =
    let h : All (λ e. e / 2 ≤ length c.self.inside.circuit.parts.nodes) c.args.self.edges = subst (λ (m : Imported). All (λ e. e / 2 ≤ length c.self.inside.circuit.parts.nodes) m.edges) c.self.view_is c.self.invariant in
    subst (λ (z : List ℕ). All (λ e. e / 2 ≤ length c.self.inside.circuit.parts.nodes) z) (sym c.in_ok-nexts.ensures) (All-map (λ e. e / 2 ≤ length c.self.inside.circuit.parts.nodes) (λ (l : Latch). edge_of c.args.self.edges l.next) c.as_slice.result.now (λ k d lt. edge_fits c.args.self.edges (length c.self.inside.circuit.parts.nodes) (get_or c.as_slice.result.now k d).next h))

pub wire-requires-clause-outs : goal.wire-requires-clause-outs
wire-requires-clause-outs c =
    let h : All (λ e. e / 2 ≤ length c.self.inside.circuit.parts.nodes) c.args.self.edges = subst (λ (m : Imported). All (λ e. e / 2 ≤ length c.self.inside.circuit.parts.nodes) m.edges) c.self.view_is c.self.invariant in
    subst (λ (z : List ℕ). All (λ e. e / 2 ≤ length c.self.inside.circuit.parts.nodes) z) (sym c.in_ok-outs.ensures) (All-map (λ e. e / 2 ≤ length c.self.inside.circuit.parts.nodes) (edge_of c.args.self.edges) c.as_slice-2.result.now (λ k d lt. edge_fits c.args.self.edges (length c.self.inside.circuit.parts.nodes) (get_or c.as_slice-2.result.now k d) h))

pub wire-requires-clause-bads : goal.wire-requires-clause-bads
wire-requires-clause-bads c =
    let h : All (λ e. e / 2 ≤ length c.self.inside.circuit.parts.nodes) c.args.self.edges = subst (λ (m : Imported). All (λ e. e / 2 ≤ length c.self.inside.circuit.parts.nodes) m.edges) c.self.view_is c.self.invariant in
    subst (λ (z : List ℕ). All (λ e. e / 2 ≤ length c.self.inside.circuit.parts.nodes) z) (sym c.in_ok-bads.ensures) (All-map (λ e. e / 2 ≤ length c.self.inside.circuit.parts.nodes) (edge_of c.args.self.edges) c.as_slice-3.result.now (λ k d lt. edge_fits c.args.self.edges (length c.self.inside.circuit.parts.nodes) (get_or c.as_slice-3.result.now k d) h))

pub wire-requires-clause-cons : goal.wire-requires-clause-cons
wire-requires-clause-cons c =
    let h : All (λ e. e / 2 ≤ length c.self.inside.circuit.parts.nodes) c.args.self.edges = subst (λ (m : Imported). All (λ e. e / 2 ≤ length c.self.inside.circuit.parts.nodes) m.edges) c.self.view_is c.self.invariant in
    subst (λ (z : List ℕ). All (λ e. e / 2 ≤ length c.self.inside.circuit.parts.nodes) z) (sym c.in_ok-cons.ensures) (All-map (λ e. e / 2 ≤ length c.self.inside.circuit.parts.nodes) (edge_of c.args.self.edges) c.as_slice-4.result.now (λ k d lt. edge_fits c.args.self.edges (length c.self.inside.circuit.parts.nodes) (get_or c.as_slice-4.result.now k d) h))
