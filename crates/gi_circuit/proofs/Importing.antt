use Rattle.std.proofs.Common.{◌≡◌, ℕ, ◌+◌, ◌/◌, ◌%◌, ◌≤◌, Bool, true, false, cond, List, [], ◌∷◌, length, get_or, refl, ◌∙◌, arith, inl, inr, length-append}
use Rattle.std.specs.Prelude.{◌==◌}
use Rattle.std.specs.List.{All, fold}
use Rattle.std.proofs.lemmas.Bool.{cases_lt}
use Rattle.std.proofs.lemmas.List.{get_or_past}
use Rattle.gi_lit.specs.Literals.{opposite}
use Rattle.gi_lit.proofs.Literals.{var-opposite}
use Rattle.gi_aiger.specs.declared.aig.Latch.{Latch}
use Rattle.gi_aiger.specs.declared.aig.AndGate.{AndGate}
use Rattle.gi_circuit.specs.Frames.{edge_of}
use Rattle.gi_aiger.specs.Levels.{gate_at}
use Rattle.gi_circuit.specs.Import.{Imported, with_input_of, with_latch_of, with_gate_of}
use Rattle.gi_circuit.specs.declared.node.Node.TheVariants as nodes
use Rattle.gi_circuit.proofs.Wiring.{and_in-one}

-- how many nodes and latches there are after inputs, latches and gates
pub input_nodes : (ls : List ℕ) (m : Imported) → length (fold with_input_of m ls).system.parts.nodes ≡ length m.system.parts.nodes + length ls
input_nodes [] m = omega arith
input_nodes (l ∷ ls) m = input_nodes ls (with_input_of m l) ∙ omega (arith, length-append m.system.parts.nodes (nodes.Input m.system.parts.inputs ∷ []))

pub input_latches : (ls : List ℕ) (m : Imported) → (fold with_input_of m ls).system.parts.latches ≡ m.system.parts.latches
input_latches [] m = refl
input_latches (l ∷ ls) m = input_latches ls (with_input_of m l)

pub latch_nodes : (ls : List Latch) (m : Imported) → length (fold with_latch_of m ls).system.parts.nodes ≡ length m.system.parts.nodes + length ls
latch_nodes [] m = omega arith
latch_nodes (l ∷ ls) m = latch_nodes ls (with_latch_of m l) ∙ omega (arith, length-append m.system.parts.nodes (nodes.Latch m.system.parts.latches ∷ []))

pub latch_latches : (ls : List Latch) (m : Imported) → (fold with_latch_of m ls).system.parts.latches ≡ m.system.parts.latches + length ls
latch_latches [] m = omega arith
latch_latches (l ∷ ls) m = latch_latches ls (with_latch_of m l) ∙ omega arith

module _ (gates : List AndGate) where
  pub gate_nodes : (rs : List ℕ) (m : Imported) → length (fold (λ m (r : ℕ). with_gate_of m (gate_at gates r)) m rs).system.parts.nodes ≤ length m.system.parts.nodes + length rs
  gate_nodes [] m = omega arith
  gate_nodes (r ∷ rs) m =
      let one = and_in-one m.system.parts.nodes (edge_of m.edges (gate_at gates r).rhs0) (edge_of m.edges (gate_at gates r).rhs1) in
      let rest = gate_nodes rs (with_gate_of m (gate_at gates r)) in
      omega (arith, one, rest)

  pub gate_latches : (rs : List ℕ) (m : Imported) → (fold (λ m (r : ℕ). with_gate_of m (gate_at gates r)) m rs).system.parts.latches ≡ m.system.parts.latches
  gate_latches [] m = refl
  gate_latches (r ∷ rs) m = gate_latches rs (with_gate_of m (gate_at gates r))

-- what stands for a variable or an edge is a node that exists
pub found_fits : (es : List ℕ) (n v : ℕ) → All (λ x. x / 2 ≤ n) es → get_or es v 0 / 2 ≤ n
found_fits es n v h = elim (cases_lt v (length es)) [ inl lt ↦ h v 0 lt | inr ge ↦ let z = get_or_past es v 0 ge in omega (arith, z) ]

pub edge_fits : (es : List ℕ) (n e : ℕ) → All (λ x. x / 2 ≤ n) es → edge_of es e / 2 ≤ n
edge_fits es n e h = go (e % 2 == 0)
  where
    at : get_or es (e / 2) 0 / 2 ≤ n
    at = found_fits es n (e / 2) h

    go : (t : Bool) → cond t (get_or es (e / 2) 0) (opposite (get_or es (e / 2) 0)) / 2 ≤ n
    go true = at
    go false = let v = var-opposite (get_or es (e / 2) 0) in omega (arith, v, at)
