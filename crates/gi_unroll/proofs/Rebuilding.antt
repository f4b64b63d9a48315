use Rattle.std.proofs.Common.{◌≡◌, ℕ, ◌+◌, ◌/◌, ◌%◌, ◌<◌, ◌≤◌, Bool, true, false, not, cond, List, [], ◌∷◌, ◌++◌, length, get_or, refl, sym, ap, ◌∙◌, subst, arith, inl, inr, length-append, append_assoc}
use Rattle.std.specs.Prelude.{◌&&◌, ◌==◌, slice_index, slice_index_or}
use Rattle.std.specs.List.{fold}
use Rattle.std.proofs.lemmas.Bool.{cases_lt}
use Rattle.std.proofs.lemmas.List.{append-nil, get_or_append_left, get_or_push, get_or_at}
use Rattle.std.proofs.lemmas.List.Elements.{All-push}
use Rattle.gi_circuit.specs.Values.{value_in}
use Rattle.gi_lit.specs.Literals.{opposite}
use Rattle.gi_circuit.specs.Nodes.{and_in, value_of, node_values, IsPlaced, IsOrdered}
use Rattle.gi_circuit.specs.Frames.{edge_of, Draft, with_node, with_gate}
use Rattle.gi_circuit.specs.Encoding.{IsSoundDraft, HaveValues}
use Rattle.gi_unroll.proofs.Steps.{edge_within as within}
use Rattle.gi_unroll.proofs.Drafts.{AddsEdge}
use Rattle.gi_circuit.specs.declared.node.Node.{Node}
use Rattle.gi_circuit.specs.declared.node.Node.TheVariants.{Input, Latch, Gate}
use Rattle.gi_circuit.proofs.Gates.{old_value, new_value}
use Rattle.gi_circuit.proofs.Meaning.{front_edge, value_in-opposite}
use Rattle.gi_unroll.proofs.Steps.{edge_within as within}
use Rattle.gi_unroll.proofs.Drafts.{IsSoundDraft-gate}

-- the first nodes of a circuit are rebuilt: each has an edge with its value
pub record IsRebuilt (earlier : List (List ℕ)) (choices : ℕ) (first : Draft) (inputs latches : List Bool → List Bool) (nodes : List Node) (d : Draft) : Type 0 where
  pub sound : IsSoundDraft earlier choices d
  pub more : List Node
  pub net : d.net ≡ first.net ++ more
  pub count : length d.edges ≡ length nodes + 1
  pub right : (chosen : List Bool) (k : ℕ) → k ≤ length nodes → value_in (node_values chosen [] d.net) (slice_index d.edges k) ≡ slice_index_or (node_values (inputs chosen) (latches chosen) nodes) k false

module _ (earlier : List (List ℕ)) (choices : ℕ) (first : Draft) (inputs latches : List Bool → List Bool) (xs : List Node) (d : Draft) (r : IsRebuilt earlier choices first inputs latches xs d) where
  pub edge_within : (e : ℕ) → e / 2 ≤ length xs → edge_of d.edges e / 2 ≤ length d.net
  edge_within e le = within d (length xs) e (record { count = r.count; within = r.sound.edges }) le

  pub edge_right : (chosen : List Bool) (e : ℕ) → e / 2 ≤ length xs → value_in (node_values chosen [] d.net) (edge_of d.edges e) ≡ value_in (node_values (inputs chosen) (latches chosen) xs) e
  unfolding value_in
  edge_right chosen e le = go (e % 2 == 0)
    where
      go : (t : Bool) → value_in (node_values chosen [] d.net) (cond t (get_or d.edges (e / 2) 0) (opposite (get_or d.edges (e / 2) 0))) ≡ cond t (get_or (node_values (inputs chosen) (latches chosen) xs) (e / 2) false) (not (get_or (node_values (inputs chosen) (latches chosen) xs) (e / 2) false))
      go true = r.right chosen (e / 2) le
      go false = value_in-opposite (node_values chosen [] d.net) (get_or d.edges (e / 2) 0) ∙ ap not (r.right chosen (e / 2) le)

  -- one edge more, with the value of the next node
  pub IsRebuilt-more : (y : Node) (e : Draft) (v : List Bool → Bool) → ((chosen : List Bool) → v chosen ≡ value_of (inputs chosen) (latches chosen) (node_values (inputs chosen) (latches chosen) xs) y) → IsSoundDraft earlier choices e → AddsEdge d e v → IsRebuilt earlier choices first inputs latches (xs ++ y ∷ []) e
  IsRebuilt-more y e v told s a = record {
    sound = s;
    more = r.more ++ a.more;
    net = a.net ∙ ap (λ z. z ++ a.more) r.net ∙ append_assoc first.net r.more a.more;
    count = ap length a.edges ∙ omega (arith, length-append d.edges (a.edge ∷ []), length-append xs (y ∷ []), r.count);
    right = λ chosen k le. elim (cases_lt k (length xs + 1)) [
      | inl below ↦
          let kl : k ≤ length xs = omega arith in
          let within = r.sound.edges k 0 (omega (arith, r.count)) in
          ap (value_in (node_values chosen [] e.net)) (ap (λ z. get_or z k 0) a.edges ∙ get_or_append_left d.edges (a.edge ∷ []) 0 k (omega (arith, r.count)))
          ∙ ap (λ z. value_in (node_values chosen [] z) (get_or d.edges k 0)) a.net
          ∙ front_edge chosen [] d.net a.more (get_or d.edges k 0) within
          ∙ r.right chosen k kl
          ∙ sym (old_value (inputs chosen) (latches chosen) xs y k kl)
      | inr ge ↦
          let kl : k ≡ length xs + 1 = omega (arith, length-append xs (y ∷ [])) in
          ap (value_in (node_values chosen [] e.net)) (ap (λ z. get_or z k 0) a.edges ∙ get_or_push d.edges a.edge 0 k (r.count ∙ sym kl))
          ∙ a.value chosen
          ∙ told chosen
          ∙ sym (new_value (inputs chosen) (latches chosen) xs y k kl)
    ];
  }

  -- an edge that was there before the nodes
  given : (edges : List ℕ) (n : ℕ) (told : List Bool → List Bool) → HaveValues first.net edges n told → (j : ℕ) → j < n → IsSoundDraft earlier choices (record d { edges = d.edges ++ get_or edges j 0 ∷ [] }) × AddsEdge d (record d { edges = d.edges ++ get_or edges j 0 ∷ [] }) (λ chosen. get_or (told chosen) j false)
  given edges n told h j jl =
      let w = h.within j jl in
      let len : length d.net ≡ length first.net + length r.more = ap length r.net ∙ length-append first.net r.more in
      let within : get_or edges j 0 / 2 ≤ length d.net = omega arith in (
        record {
          some = r.sound.some;
          count = r.sound.count;
          clauses_below = r.sound.clauses_below;
          lits_below = r.sound.lits_below;
          ordered = r.sound.ordered;
          encodes = r.sound.encodes;
          edges = All-push (λ e. e / 2 ≤ length d.net) d.edges (get_or edges j 0) r.sound.edges within;
        },
        record {
          more = [];
          net = sym (append-nil d.net);
          edge = get_or edges j 0;
          edges = refl;
          value = λ chosen. ap (λ z. value_in (node_values chosen [] z) (get_or edges j 0)) r.net ∙ front_edge chosen [] first.net r.more (get_or edges j 0) w ∙ h.values chosen j jl;
        },
      )

  pub IsRebuilt-node : (n m : ℕ) (ins ls : List ℕ) → HaveValues first.net ins n inputs → HaveValues first.net ls m latches → (y : Node) → IsPlaced n m (length xs) y → IsRebuilt earlier choices first inputs latches (xs ++ y ∷ []) (with_node ins ls d y)
  IsRebuilt-node n m ins ls hi hl (Input j) p = let g = given ins n inputs hi j p in IsRebuilt-more (Input j) _ _ (λ chosen. refl) g.0 g.1
  IsRebuilt-node n m ins ls hi hl (Latch j) p = let g = given ls m latches hl j p in IsRebuilt-more (Latch j) _ _ (λ chosen. refl) g.0 g.1
  IsRebuilt-node n m ins ls hi hl (Gate a b) p =
      let ab : a < b = p.0 in
      let bl : b / 2 ≤ length xs = p.1 in
      let al : a / 2 ≤ length xs = omega arith in
      let g = IsSoundDraft-gate earlier choices d r.sound (edge_of d.edges a) (edge_of d.edges b) (edge_within a al) (edge_within b bl) in
      IsRebuilt-more (Gate a b) (with_gate d (edge_of d.edges a) (edge_of d.edges b)) _ (λ chosen.
      ap (λ t. t && value_in (node_values chosen [] d.net) (edge_of d.edges b)) (edge_right chosen a al)
      ∙ ap (λ t. value_in (node_values (inputs chosen) (latches chosen) xs) a && t) (edge_right chosen b bl)) g.0 g.1

-- all nodes
pub IsRebuilt-all : (earlier : List (List ℕ)) (choices : ℕ) (first : Draft) (inputs latches : List Bool → List Bool) (n m : ℕ) (ins ls : List ℕ) → HaveValues first.net ins n inputs → HaveValues first.net ls m latches
    → (ys xs : List Node) (d : Draft) → IsOrdered (record { inputs = n; latches = m; nodes = xs ++ ys }) → IsRebuilt earlier choices first inputs latches xs d → IsRebuilt earlier choices first inputs latches (xs ++ ys) (fold (with_node ins ls) d ys)
IsRebuilt-all earlier choices first inputs latches n m ins ls hi hl [] xs d o r = subst (λ (z : List Node). IsRebuilt earlier choices first inputs latches z d) (sym (append-nil xs)) r
IsRebuilt-all earlier choices first inputs latches n m ins ls hi hl (y ∷ ys) xs d o r =
    let at : get_or (xs ++ y ∷ ys) (length xs) (Input 0) ≡ y = get_or_at xs y ys (Input 0) (length xs) refl in
    let p : IsPlaced n m (length xs) y = subst (IsPlaced n m (length xs)) at (o.each (length xs) (omega (arith, length-append xs (y ∷ ys)))) in
    let split : (xs ++ y ∷ []) ++ ys ≡ xs ++ y ∷ ys = append_assoc xs (y ∷ []) ys in
    subst (λ (z : List Node). IsRebuilt earlier choices first inputs latches z (fold (with_node ins ls) (with_node ins ls d y) ys)) split
    (IsRebuilt-all earlier choices first inputs latches n m ins ls hi hl ys (xs ++ y ∷ []) (with_node ins ls d y) (subst (λ (z : List Node). IsOrdered (record { inputs = n; latches = m; nodes = z })) (sym split) o) (IsRebuilt-node earlier choices first inputs latches xs d r n m ins ls hi hl y p))

-- nodes of the circuit make no choice
cond_choices : (t : Bool) (x y : Draft) (c : ℕ) → x.choices ≡ c → y.choices ≡ c → (cond t x y).choices ≡ c
cond_choices true x y c p q = p
cond_choices false x y c p q = q

node_choices : (ins ls : List ℕ) (d : Draft) (y : Node) → (with_node ins ls d y).choices ≡ d.choices
node_choices ins ls d (Input j) = refl
node_choices ins ls d (Latch j) = refl
node_choices ins ls d (Gate a b) = cond_choices (length (and_in d.net (edge_of d.edges a) (edge_of d.edges b)).nodes == length d.net) _ _ d.choices refl refl

pub all_choices : (ins ls : List ℕ) (ys : List Node) (d : Draft) → (fold (with_node ins ls) d ys).choices ≡ d.choices
all_choices ins ls [] d = refl
all_choices ins ls (y ∷ ys) d = all_choices ins ls ys (with_node ins ls d y) ∙ node_choices ins ls d y
