use Rattle.std.proofs.Common.{◌≡◌, ◌≢◌, ℕ, ◌+◌, ◌*◌, ◌/◌, ◌<◌, ◌≤◌, Bool, Option, Some, None, List, [], ◌∷◌, ◌++◌, length, refl, sym, ap, ◌∙◌, subst, arith, length-append, append_assoc}
use Rattle.std.specs.Prelude.{◌&&◌}
use Rattle.std.specs.List.{All}
use Rattle.std.proofs.lemmas.List.{append-nil}
use Rattle.std.proofs.lemmas.List.Elements.{All-append, All-push, All-cons, All-nil, All-weaker}
use Rattle.gi_lit.specs.Literals.{opposite}
use Rattle.gi_lit.proofs.Literals.{var-opposite}
use Rattle.gi_circuit.specs.Values.{value_in}
use Rattle.gi_circuit.specs.Nodes.{Parts, node_values, gate_from, folded, gate_in, and_in, pair_of}
use Rattle.gi_circuit.specs.Frames.{lit_of, gate_clauses, Draft, with_gate}
use Rattle.gi_circuit.specs.Encoding.{Encodes, IsSoundDraft}
use Rattle.gi_circuit.specs.declared.node.Node.{Node}
use Rattle.gi_circuit.specs.declared.node.Node.TheVariants.{Gate}
use Rattle.gi_circuit.proofs.Gates.{and_in-folded, and_in-gate, IsOrdered-push, pair_placed, folded_differ}
use Rattle.gi_unroll.proofs.Steps.{gate_there, gate_grown, gate_new}
use Rattle.gi_unroll.proofs.Encoding.{Encodes-gate, lit_below}
use Rattle.gi_circuit.specs.Laws.{IsConjunction}
use Rattle.gi_circuit.proofs.Meaning.{and_in-value, pair_within}

-- one edge more, with a value that the choices determine
pub record AddsEdge (old new : Draft) (v : List Bool → Bool) : Type 0 where
  pub more : List Node
  pub net : new.net ≡ old.net ++ more
  pub edge : ℕ
  pub edges : new.edges ≡ old.edges ++ edge ∷ []
  pub value : (chosen : List Bool) → value_in (node_values chosen [] new.net) edge ≡ v chosen

-- what an edge that is there or a gate leaves
module _ (earlier : List (List ℕ)) (choices : ℕ) (d : Draft) (s : IsSoundDraft earlier choices d) (a b : ℕ) (al : a / 2 ≤ length d.net) (bl : b / 2 ≤ length d.net) where
  abbrev low : ℕ
  low = (pair_of a b).low

  abbrev high : ℕ
  high = (pair_of a b).high

  abbrev parts : Parts
  parts = record { inputs = choices; latches = 0; nodes = d.net }

  conjunction : (chosen : List Bool) → IsConjunction chosen [] parts a b (and_in d.net a b)
  conjunction chosen = and_in-value chosen [] parts s.ordered a b al bl

  pairs : (low / 2 ≤ length d.net) × (high / 2 ≤ length d.net)
  pairs = pair_within [] [] parts s.ordered a b al bl

  abbrev Below : ℕ → Type 0
  Below l = (1 ≤ l / 2) × (l / 2 < d.next + 1)

  x_below : Below (2 * d.next)
  x_below = let n = s.some in (omega arith, omega arith)

  edge_below : (e : ℕ) → e / 2 ≤ length d.net → Below (lit_of d.lits e)
  edge_below e le = let r = lit_below d.lits d.next e s.lits_below (omega (arith, s.count)) in (r.0, omega (arith, r.1))

  not_below : (l : ℕ) → Below l → Below (opposite l)
  not_below l h = let v = var-opposite l in (omega (arith, v, h.0), omega (arith, v, h.1))

  -- the clauses of the gate are below the variable that comes next
  gate_below : All (λ c. All Below c) (gate_clauses (2 * d.next) (lit_of d.lits low) (lit_of d.lits high))
  gate_below =
      let x : ℕ = 2 * d.next in
      let la : ℕ = lit_of d.lits low in
      let lb : ℕ = lit_of d.lits high in
      let pa : Below la = edge_below low pairs.0 in
      let pb : Below lb = edge_below high pairs.1 in
      let two : (l m : ℕ) → Below l → Below m → All Below (l ∷ m ∷ []) = λ (l m : ℕ) (p : Below l) (q : Below m). All-cons Below l (m ∷ []) p (All-cons Below m [] q (All-nil Below)) in
      let third : All Below (x ∷ opposite la ∷ opposite lb ∷ []) = All-cons Below x (opposite la ∷ opposite lb ∷ []) x_below (two (opposite la) (opposite lb) (not_below la pa) (not_below lb pb)) in
      All-cons (All Below) (opposite x ∷ la ∷ []) ((opposite x ∷ lb ∷ []) ∷ (x ∷ opposite la ∷ opposite lb ∷ []) ∷ []) (two (opposite x) la (not_below x x_below) pa)
      (All-cons (All Below) (opposite x ∷ lb ∷ []) ((x ∷ opposite la ∷ opposite lb ∷ []) ∷ []) (two (opposite x) lb (not_below x x_below) pb)
      (All-cons (All Below) (x ∷ opposite la ∷ opposite lb ∷ []) [] third (All-nil (All Below))))

  -- an edge that is there
  sound_there : (e : ℕ) → and_in d.net a b ≡ record { nodes = d.net; edge = e } → IsSoundDraft earlier choices (record d { edges = d.edges ++ e ∷ [] })
  sound_there e m = record {
    some = s.some;
    count = s.count;
    clauses_below = s.clauses_below;
    lits_below = s.lits_below;
    ordered = s.ordered;
    encodes = s.encodes;
    edges = All-push (λ e. e / 2 ≤ length d.net) d.edges e s.edges (let c = subst (IsConjunction [] [] parts a b) m (conjunction []) in c.within);
  }

  adds_there : (e : ℕ) → and_in d.net a b ≡ record { nodes = d.net; edge = e } → AddsEdge d (record d { edges = d.edges ++ e ∷ [] }) (λ chosen. value_in (node_values chosen [] d.net) a && value_in (node_values chosen [] d.net) b)
  adds_there e m = record { more = []; net = sym (append-nil d.net); edge = e; edges = refl; value = λ chosen. let c = subst (IsConjunction chosen [] parts a b) m (conjunction chosen) in c.value }

  -- a new gate
  sound_made : a ≢ b → IsSoundDraft earlier choices (gate_grown d a b)
  sound_made ne = record {
    some = omega arith;
    count = omega (arith, length-append d.lits (2 * d.next ∷ []), length-append d.net (Gate low high ∷ []), s.count);
    clauses_below = subst (All (λ c. All Below c)) (append_assoc earlier d.clauses _) (All-append (λ c. All Below c) (earlier ++ d.clauses) _ (All-weaker (λ c. All (λ l. (1 ≤ l / 2) × (l / 2 < d.next)) c) (λ c. All Below c) (λ c h k z lt. let r = h k z lt in (r.0, omega (arith, r.1))) (earlier ++ d.clauses) s.clauses_below) gate_below);
    lits_below = All-push Below d.lits (2 * d.next) (All-weaker (λ l. (1 ≤ l / 2) × (l / 2 < d.next)) Below (λ l r. (r.0, omega (arith, r.1))) d.lits s.lits_below) x_below;
    ordered = IsOrdered-push choices 0 d.net (Gate low high) s.ordered (pair_placed choices 0 (length d.net) a b ne al bl);
    encodes = subst (λ (cs : List (List ℕ)). Encodes cs (d.net ++ Gate low high ∷ []) (d.lits ++ 2 * d.next ∷ [])) (append_assoc earlier d.clauses _) (Encodes-gate (earlier ++ d.clauses) d.net d.lits d.next (record { some = s.some; count = s.count; clauses_below = s.clauses_below; lits_below = s.lits_below }) s.encodes low high pairs.0 pairs.1);
    edges = All-push (λ e. e / 2 ≤ length (d.net ++ Gate low high ∷ [])) d.edges _ (All-weaker (λ e. e / 2 ≤ length d.net) (λ e. e / 2 ≤ length (d.net ++ Gate low high ∷ [])) (λ e h. omega (arith, length-append d.net (Gate low high ∷ []))) d.edges s.edges) (omega (arith, length-append d.net (Gate low high ∷ [])));
  }

  adds_made : and_in d.net a b ≡ record { nodes = d.net ++ Gate low high ∷ []; edge = 2 * (length d.net + 1) } → AddsEdge d (gate_grown d a b) (λ chosen. value_in (node_values chosen [] d.net) a && value_in (node_values chosen [] d.net) b)
  adds_made m = record { more = Gate low high ∷ []; net = refl; edge = 2 * (length d.net + 1); edges = refl; value = λ chosen. let c = subst (IsConjunction chosen [] parts a b) m (conjunction chosen) in c.value }

  abbrev Sound : Draft → Type 0
  Sound e = IsSoundDraft earlier choices e × AddsEdge d e (λ chosen. value_in (node_values chosen [] d.net) a && value_in (node_values chosen [] d.net) b)

  -- a gate of the circuit, rebuilt in the frame
  pub IsSoundDraft-gate : Sound (with_gate d a b)
  IsSoundDraft-gate = go (folded a b) refl
    where
      gate : (g : Option ℕ) → folded a b ≡ None → gate_from 1 d.net low high ≡ g → Sound (with_gate d a b)
      gate (Some k) f g =
          let m : and_in d.net a b ≡ record { nodes = d.net; edge = 2 * k } = and_in-gate d.net a b f ∙ ap (gate_in d.net low high) g in
          subst Sound (sym (gate_there d a b (2 * k) m)) (sound_there (2 * k) m, adds_there (2 * k) m)
      gate None f g =
          let m : and_in d.net a b ≡ record { nodes = d.net ++ Gate low high ∷ []; edge = 2 * (length d.net + 1) } = and_in-gate d.net a b f ∙ ap (gate_in d.net low high) g in
          subst Sound (sym (gate_new d a b m)) (sound_made (folded_differ a b f), adds_made m)

      go : (o : Option ℕ) → folded a b ≡ o → Sound (with_gate d a b)
      go (Some e) f = let m = and_in-folded d.net a b e f in subst Sound (sym (gate_there d a b e m)) (sound_there e m, adds_there e m)
      go None f = gate (gate_from 1 d.net low high) f refl
