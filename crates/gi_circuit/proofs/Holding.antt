-- What a circuit in the making has for a variable, and that it keeps its value.
use Rattle.std.proofs.Common.{◌≡◌, ◌≢◌, ℕ, zero, suc, ◌+◌, ◌/◌, ◌%◌, ◌<◌, ◌≤◌, Bool, false, cond, Option, Some, None, List, [], ◌∷◌, ◌++◌, length, get_or, set, take, refl, sym, ap, ◌∙◌, subst, arith, inl, inr, length-append, length-set, get_or-set_other, get_or-set_same}
use Rattle.std.specs.Prelude.{◌&&◌, ◌==◌}
use Rattle.std.specs.List.{All, fold}
use Rattle.std.proofs.lemmas.Bool.{cases_eq}
use Rattle.std.proofs.lemmas.List.Elements.{All-head, All-tail}
use Rattle.gi_lit.specs.Literals.{opposite}
use Rattle.gi_aiger.specs.declared.aig.Latch.{Latch}
use Rattle.gi_aiger.specs.declared.aig.AndGate.{AndGate}
use Rattle.gi_circuit.specs.Values.{value_in}
use Rattle.gi_circuit.specs.Nodes.{Parts, node_values, IsOrdered, and_in, next_edge, folded, gate_from, gate_in, pair_of, Made}
use Rattle.gi_circuit.specs.Systems.{System, input_added, latch_added}
use Rattle.gi_circuit.specs.Frames.{edge_of}
use Rattle.gi_circuit.specs.Import.{Imported, with_input_of, with_latch_of, with_gate_of}
use Rattle.gi_circuit.specs.declared.node.Node.{Node}
use Rattle.gi_circuit.specs.declared.node.Node.TheVariants as nodes
use Rattle.gi_circuit.proofs.Gates.{and_in-folded, and_in-gate, IsOrdered-push, pair_placed, folded_differ, new_value}
use Rattle.gi_circuit.proofs.Sound.{IsOrdered-more}
use Rattle.gi_circuit.proofs.Meaning.{and_in-value, front_edge, edge_value}
use Rattle.gi_circuit.proofs.Importing.{edge_fits}

-- what stands for a literal, behind one more variable
edge_there : (es : List ℕ) (x e l : ℕ) → x < length es → l % 2 ≡ 0 → l / 2 ≡ x → edge_of (set es x e) l ≡ e
edge_there es x e l lt even at = rw even (ap (λ z. get_or (set es x e) z 0) at ∙ get_or-set_same es x e 0 lt)

edge_other : (es : List ℕ) (x e l : ℕ) → l / 2 ≢ x → edge_of (set es x e) l ≡ edge_of es l
edge_other es x e l ne = ap (λ z. cond (l % 2 == 0) z (opposite z)) (get_or-set_other es x (l / 2) e 0 ne)

-- with the nodes that were made
abbrev With : Parts → Made → Type 0
With c m = IsOrdered (record c { nodes = m.nodes })

-- a conjunction leaves each gate behind its operands
and_in-ordered : (c : Parts) (a b : ℕ) → IsOrdered c → a / 2 ≤ length c.nodes → b / 2 ≤ length c.nodes → IsOrdered (record c { nodes = (and_in c.nodes a b).nodes })
and_in-ordered c a b o al bl = go (folded a b) refl
  where
    gate : (g : Option ℕ) → folded a b ≡ None → gate_from 1 c.nodes (pair_of a b).low (pair_of a b).high ≡ g → With c (and_in c.nodes a b)
    gate (Some k) f g = subst (With c) (sym (and_in-gate c.nodes a b f ∙ ap (gate_in c.nodes (pair_of a b).low (pair_of a b).high) g)) o
    gate None f g =
        subst (With c) (sym (and_in-gate c.nodes a b f ∙ ap (gate_in c.nodes (pair_of a b).low (pair_of a b).high) g))
        (IsOrdered-push c.inputs c.latches c.nodes (nodes.Gate (pair_of a b).low (pair_of a b).high) o (pair_placed c.inputs c.latches (length c.nodes) a b (folded_differ a b f) al bl))

    go : (e : Option ℕ) → folded a b ≡ e → With c (and_in c.nodes a b)
    go (Some e) f = subst (With c) (sym (and_in-folded c.nodes a b e f)) o
    go None f = gate (gate_from 1 c.nodes (pair_of a b).low (pair_of a b).high) f refl

module _ (most : ℕ) (inputs latches : List Bool) where
  -- the value of what stands for a literal
  abbrev pub holds : Imported → ℕ → Bool
  holds m l = value_in (node_values inputs latches m.system.parts.nodes) (edge_of m.edges l)

  -- each variable has an edge of a node that exists
  pub record Fits (m : Imported) : Type 0 where
    pub len : length m.edges ≡ most + 1
    pub within : All (λ e. e / 2 ≤ length m.system.parts.nodes) m.edges
    pub ordered : IsOrdered m.system.parts

  -- a variable has an edge of this value now, and the others keep theirs
  pub record Defines (m n : Imported) (x : ℕ) (b : Bool) : Type 0 where
    pub fits : Fits n
    pub there : (l : ℕ) → l % 2 ≡ 0 → l / 2 ≡ x → holds n l ≡ b
    pub others : (l : ℕ) → l / 2 ≢ x → holds n l ≡ holds m l

  defines : (m : Imported) (s : System) (x e : ℕ) (b : Bool) (more : List Node) → Fits m → s.parts.nodes ≡ m.system.parts.nodes ++ more → IsOrdered s.parts → x ≤ most → e / 2 ≤ length s.parts.nodes → value_in (node_values inputs latches s.parts.nodes) e ≡ b
      → Defines m (record { system = s; edges = set m.edges x e }) x b
  defines m s x e b more f q o le el is =
      let inside : x < length m.edges = omega (arith, le, f.len) in
      let long = ap length q in
      record {
        fits = record {
          len = length-set m.edges x e ∙ f.len;
          within = λ k d lt. elim (cases_eq k x) [
            | inl same ↦ subst (λ (z : ℕ). z / 2 ≤ length s.parts.nodes) (sym (ap (λ z. get_or (set m.edges x e) z d) same ∙ get_or-set_same m.edges x e d inside)) el
            | inr ne ↦
                let w = f.within k d (omega (arith, lt, length-set m.edges x e)) in
                subst (λ (z : ℕ). z / 2 ≤ length s.parts.nodes) (sym (get_or-set_other m.edges x k e d ne)) (omega (arith, w, long, length-append m.system.parts.nodes more))
          ];
          ordered = o;
        };
        there = λ l even at. ap (value_in (node_values inputs latches s.parts.nodes)) (edge_there m.edges x e l inside even at) ∙ is;
        others = λ l ne.
            ap (value_in (node_values inputs latches s.parts.nodes)) (edge_other m.edges x e l ne)
            ∙ ap (λ (ns : List Node). value_in (node_values inputs latches ns) (edge_of m.edges l)) q
            ∙ front_edge inputs latches m.system.parts.nodes more (edge_of m.edges l) (edge_fits m.edges (length m.system.parts.nodes) l f.within);
      }

  -- an input, a latch, a gate
  pub input_defines : (m : Imported) (l : ℕ) → Fits m → l / 2 ≤ most → Defines m (with_input_of m l) (l / 2) (get_or inputs m.system.parts.inputs false)
  input_defines m l f le =
      let c : Parts = m.system.parts in
      defines m (input_added m.system) (l / 2) (next_edge m.system.parts) (get_or inputs m.system.parts.inputs false) (nodes.Input m.system.parts.inputs ∷ []) f refl
      (IsOrdered-push (c.inputs + 1) c.latches c.nodes (nodes.Input c.inputs) (IsOrdered-more c.inputs (c.inputs + 1) c.latches c.latches c.nodes (omega arith) (omega arith) f.ordered) (let lt : c.inputs < c.inputs + 1 = omega arith in lt))
      le (omega (arith, length-append m.system.parts.nodes (nodes.Input m.system.parts.inputs ∷ [])))
      (edge_value (node_values inputs latches (m.system.parts.nodes ++ nodes.Input m.system.parts.inputs ∷ [])) (length m.system.parts.nodes + 1) ∙ new_value inputs latches m.system.parts.nodes (nodes.Input m.system.parts.inputs) (length m.system.parts.nodes + 1) refl)

  pub latch_defines : (m : Imported) (l : Latch) → Fits m → l.lit / 2 ≤ most → Defines m (with_latch_of m l) (l.lit / 2) (get_or latches m.system.parts.latches false)
  latch_defines m l f le =
      let c : Parts = m.system.parts in
      defines m (latch_added m.system l.reset) (l.lit / 2) (next_edge m.system.parts) (get_or latches m.system.parts.latches false) (nodes.Latch m.system.parts.latches ∷ []) f refl
      (IsOrdered-push c.inputs (c.latches + 1) c.nodes (nodes.Latch c.latches) (IsOrdered-more c.inputs c.inputs c.latches (c.latches + 1) c.nodes (omega arith) (omega arith) f.ordered) (let lt : c.latches < c.latches + 1 = omega arith in lt))
      le (omega (arith, length-append m.system.parts.nodes (nodes.Latch m.system.parts.latches ∷ [])))
      (edge_value (node_values inputs latches (m.system.parts.nodes ++ nodes.Latch m.system.parts.latches ∷ [])) (length m.system.parts.nodes + 1) ∙ new_value inputs latches m.system.parts.nodes (nodes.Latch m.system.parts.latches) (length m.system.parts.nodes + 1) refl)

  pub gate_defines : (m : Imported) (g : AndGate) → Fits m → g.lhs / 2 ≤ most → Defines m (with_gate_of m g) (g.lhs / 2) (holds m g.rhs0 && holds m g.rhs1)
  gate_defines m g f le =
      let a : ℕ = edge_of m.edges g.rhs0 in
      let b : ℕ = edge_of m.edges g.rhs1 in
      let al = edge_fits m.edges (length m.system.parts.nodes) g.rhs0 f.within in
      let bl = edge_fits m.edges (length m.system.parts.nodes) g.rhs1 f.within in
      let c = and_in-value inputs latches m.system.parts f.ordered (edge_of m.edges g.rhs0) (edge_of m.edges g.rhs1) al bl in
      defines m (with_gate_of m g).system (g.lhs / 2) (and_in m.system.parts.nodes (edge_of m.edges g.rhs0) (edge_of m.edges g.rhs1)).edge (holds m g.rhs0 && holds m g.rhs1) c.more f c.nodes
      (and_in-ordered m.system.parts (edge_of m.edges g.rhs0) (edge_of m.edges g.rhs1) f.ordered al bl)
      le c.within c.value

  -- many, one after another
  module _ {X : Type 0} (step : Imported → X → Imported) (var : X → ℕ) (told : Imported → X → Bool) (Okay : X → Type 0) (one : (m : Imported) (x : X) → Fits m → Okay x → Defines m (step m x) (var x) (told m x)) where
    pub fits_all : (xs : List X) (m : Imported) → Fits m → All Okay xs → Fits (fold step m xs)
    fits_all [] m h ok = h
    fits_all (x ∷ xs) m h ok = fits_all xs (step m x) (one m x h (All-head Okay x xs ok)).fits (All-tail Okay x xs ok)

    -- what none of them defines stays
    pub stays : (xs : List X) (m : Imported) → Fits m → All Okay xs → (l : ℕ) → All (λ x. var x ≢ l / 2) xs → holds (fold step m xs) l ≡ holds m l
    stays [] m h ok l never = refl
    stays (x ∷ xs) m h ok l never =
        let d = one m x h (All-head Okay x xs ok) in
        stays xs (step m x) d.fits (All-tail Okay x xs ok) l (All-tail (λ x. var x ≢ l / 2) x xs never) ∙ d.others l (λ e. (All-head (λ x. var x ≢ l / 2) x xs never) (sym e))

    -- what none behind the first k defines stays
    pub stays_from : (xs : List X) (m : Imported) → Fits m → All Okay xs → (k l : ℕ) → ((j : ℕ) (d : X) → k ≤ j → j < length xs → var (get_or xs j d) ≢ l / 2) → holds (fold step m xs) l ≡ holds (fold step m (take k xs)) l
    stays_from xs m h ok zero l never = stays xs m h ok l (λ j d lt. never j d (omega arith) lt)
    stays_from [] m h ok (suc k) l never = refl
    stays_from (x ∷ xs) m h ok (suc k) l never = stays_from xs (step m x) (one m x h (All-head Okay x xs ok)).fits (All-tail Okay x xs ok) k l (λ j d le lt. never (suc j) d (omega arith) (omega arith))

    -- what the one at k defines, and none behind it, has the value told
    pub defined_at : (xs : List X) (m : Imported) → Fits m → All Okay xs → (k l : ℕ) (d : X) → k < length xs → l % 2 ≡ 0 → l / 2 ≡ var (get_or xs k d) → ((j : ℕ) (d : X) → k < j → j < length xs → var (get_or xs j d) ≢ l / 2)
        → holds (fold step m xs) l ≡ told (fold step m (take k xs)) (get_or xs k d)
    defined_at [] m h ok k l d lt even at never = absurd (omega arith)
    defined_at (x ∷ xs) m h ok zero l d lt even at never =
        let o = one m x h (All-head Okay x xs ok) in
        stays xs (step m x) o.fits (All-tail Okay x xs ok) l (λ j d jl. never (suc j) d (omega arith) (omega arith)) ∙ o.there l even at
    defined_at (x ∷ xs) m h ok (suc k) l d lt even at never = defined_at xs (step m x) (one m x h (All-head Okay x xs ok)).fits (All-tail Okay x xs ok) k l d (omega arith) even at (λ j d le jl. never (suc j) d (omega arith) (omega arith))
