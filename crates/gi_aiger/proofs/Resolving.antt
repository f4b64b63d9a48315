-- Levels of gates and levels of their nodes.
use Rattle.std.proofs.Common.{◌≡◌, ◌≢◌, ℕ, zero, suc, ◌+◌, ◌/◌, ◌<◌, ◌≤◌, nat_lt, max, get_or, Bool, List, [], ◌∷◌, ◌++◌, length, take, map, cond, ◌⊎◌, inl, inr, Option, Some, None, Result, Ok, Err, Vec, Global, refl, ap, sym, ◌∙◌, subst, arith}
use Rattle.std.specs.Prelude.{IfOk, IfSome, MatchOption}
use Rattle.std.specs.List.{All, range_with_len}
use Rattle.std.specs.List.Sorted.{IsPermutation}
use Rattle.std.proofs.lemmas.List.{get_or-map, get_or-take, length-take}
use Rattle.std.proofs.lemmas.List.Sorted.{All-permutation}
use Rattle.std.proofs.lemmas.Bool.{lt-ltb, le-ltb, eq-eqb, ne_eqb}
use Rattle.std.proofs.lemmas.Bool.Decides.{leb_tells, eqb_tells}
use Rattle.gi_levels.specs.declared.levels.Node.{Node}
use Rattle.gi_levels.specs.Levels as nodes
use Rattle.gi_levels.specs.Order as orders
use Rattle.gi_levels.proofs.Bounded.{found as cycle_is_found, there as levels_are_there, told_at, level_past}
use Rattle.gi_levels.proofs.Gathered.{order_is_whole as order_whole, order_rises}
use Rattle.gi_levels.proofs.Sorting.{all_below}
use Rattle.gi_aiger.specs.declared.aig.AndGate.{AndGate}
use Rattle.gi_aiger.specs.Levels.{gate_at, HasLevels, ClosesCycle, IsDistinct}
use Rattle.gi_aiger.specs.Places.{IsPlace, ArePlaces, node_by, Resolves, place_of, nodes_of, places_by_level, variable_level, AreLevels, AreByLevel, GatesHaveLevels}

pub place_or : (k n : ℕ) → (k < n) ⊎ (n ≤ k)
place_or k n = elim (leb_tells n k) [ inl t ↦ inr t.1 | inr f ↦ inl (omega (arith, f.1)) ]

same_or : (a b : ℕ) → (a ≡ b) ⊎ (a ≢ b)
same_or a b = elim (eqb_tells a b) [ inl t ↦ inl t.1 | inr f ↦ inr f.1 ]

-- the places of no gates, and of one more
pub no_places : (gates : List AndGate) (place : ℕ → ℕ) → ((v : ℕ) → place v ≡ length gates) → ArePlaces gates 0 place
no_places gates place same = record { each = λ v. inl (same v, λ o lt. absurd (omega arith)) }

pub more_places : (gates : List AndGate) (old new : ℕ → ℕ) (k v : ℕ) → ArePlaces gates k old → v ≡ (gate_at gates k).lhs / 2 → new v ≡ k → ((w : ℕ) → w ≢ v → new w ≡ old w) → ArePlaces gates (k + 1) new
more_places gates old new k v a is same other = record { each = λ w. by_test w (same_or w v) } where
  later : (w p : ℕ) → w ≢ v → IsPlace gates k w p → IsPlace gates (k + 1) w p
  later w p ne (inl h) = inl (h.0, λ o lt. by_last o (same_or o k) lt) where
    by_last : (o : ℕ) → (o ≡ k) ⊎ (o ≢ k) → o < k + 1 → (gate_at gates o).lhs / 2 ≢ w
    by_last o (inl t) lt = λ e. ne (sym e ∙ ap (λ (i : ℕ). (gate_at gates i).lhs / 2) t ∙ sym is)
    by_last o (inr f) lt = h.1 o (omega (arith, lt, f))
  later w p ne (inr h) = inr (omega (arith, h.0), h.1)

  by_test : (w : ℕ) → (w ≡ v) ⊎ (w ≢ v) → IsPlace gates (k + 1) w (new w)
  by_test w (inl t) = subst (λ (i : ℕ). IsPlace gates (k + 1) i (new i)) (sym t) (subst (λ (p : ℕ). IsPlace gates (k + 1) v p) (sym same) (inr (omega arith, sym is)))
  by_test w (inr f) = subst (λ (p : ℕ). IsPlace gates (k + 1) w p) (sym (other w f)) (later w (old w) f (a.each w))

shift : (k : ℕ) → suc (k + 1) ≡ suc k + 1
shift k = omega arith

-- one node more
pub one_node : (place : ℕ → ℕ) (gates : List AndGate) (k : ℕ) → k < length gates → map (node_by place) (take k gates) ++ node_by place (gate_at gates k) ∷ [] ≡ map (node_by place) (take (k + 1) gates)
one_node place [] k lt = absurd (omega arith)
one_node place (g ∷ gs) zero lt = refl
one_node place (g ∷ gs) (suc k) lt = ap (λ xs. node_by place g ∷ xs) (one_node place gs k (omega arith)) ∙ ap (λ (m : ℕ). map (node_by place) (take m (g ∷ gs))) (shift k)

-- the places of all gates resolve all
pub resolved : (gates : List AndGate) (place : ℕ → ℕ) (ns : List Node) → ArePlaces gates (length gates) place → ns ≡ map (node_by place) gates → Resolves gates ns
resolved gates place ns a e = record { place = place; are = a.each; nodes_are = e }

-- among the first gates
node_in : (gates : List AndGate) (ns : List Node) (r : Resolves gates ns) (c k : ℕ) → k < c → k < length gates → nodes.node_at (take c ns) k ≡ node_by r.place (gate_at gates k)
node_in gates ns r c k lt within =
    get_or-take c ns k (record { left = 0; right = 0 }) lt ∙ ap (λ (xs : List Node). nodes.node_at xs k) r.nodes_are
    ∙ get_or-map (node_by r.place) gates k (record { lhs = 0; rhs0 = 0; rhs1 = 0 }) (record { left = 0; right = 0 }) within

gate_in : (gates : List AndGate) (c k : ℕ) → k < c → gate_at (take c gates) k ≡ gate_at gates k
gate_in gates c k lt = get_or-take c gates k (record { lhs = 0; rhs0 = 0; rhs1 = 0 }) lt

len_map : (f : AndGate → Node) (gs : List AndGate) → length (map f gs) ≡ length gs
len_map f [] = refl
len_map f (g ∷ gs) = ap suc (len_map f gs)

nodes_len : (gates : List AndGate) (ns : List Node) → Resolves gates ns → length ns ≡ length gates
nodes_len gates ns r = ap length r.nodes_are ∙ len_map (node_by r.place) gates

-- levels of gates are levels of nodes
pub to_nodes : (gates : List AndGate) (ns : List Node) (c : ℕ) → Resolves gates ns → c ≤ length gates → HasLevels (take c gates) → nodes.HasLevels (take c ns)
to_nodes gates ns c r le h = record { level = λ k. h.level ((gate_at gates k).lhs / 2); falls = λ k o p. falls k o (omega (arith, p.0, len_nodes)) (omega (arith, p.1, len_nodes)) p.2 } where
  len_nodes : length (take c ns) ≡ c
  len_nodes = omega (arith, length-take c ns, nodes_len gates ns r, le)

  len_gates : length (take c gates) ≡ c
  len_gates = omega (arith, length-take c gates, le)

  left : (k : ℕ) → k < c → h.level ((gate_at gates k).rhs0 / 2) < h.level ((gate_at gates k).lhs / 2)
  left k lt = subst (λ (g : AndGate). h.level (g.rhs0 / 2) < h.level (g.lhs / 2)) (gate_in gates c k lt) (h.left k (omega (arith, lt, len_gates)))

  right : (k : ℕ) → k < c → h.level ((gate_at gates k).rhs1 / 2) < h.level ((gate_at gates k).lhs / 2)
  right k lt = subst (λ (g : AndGate). h.level (g.rhs1 / 2) < h.level (g.lhs / 2)) (gate_in gates c k lt) (h.right k (omega (arith, lt, len_gates)))

  defines : (v o : ℕ) → o < c → o ≡ r.place v → (gate_at gates o).lhs / 2 ≡ v
  defines v o lt e = by_place (r.are v) where
    by_place : IsPlace gates (length gates) v (r.place v) → (gate_at gates o).lhs / 2 ≡ v
    by_place (inl q) = absurd (omega (arith, q.0, e, lt, le))
    by_place (inr q) = ap (λ (i : ℕ). (gate_at gates i).lhs / 2) e ∙ q.1

  falls : (k o : ℕ) → k < c → o < c → (o ≡ (nodes.node_at (take c ns) k).left) ⊎ (o ≡ (nodes.node_at (take c ns) k).right) → h.level ((gate_at gates o).lhs / 2) < h.level ((gate_at gates k).lhs / 2)
  falls k o lt lt_o (inl e) =
      let place : o ≡ r.place ((gate_at gates k).rhs0 / 2) = e ∙ ap (λ (n : Node). n.left) (node_in gates ns r c k lt (omega (arith, lt, le))) in
      subst (λ (v : ℕ). h.level v < h.level ((gate_at gates k).lhs / 2)) (sym (defines ((gate_at gates k).rhs0 / 2) o lt_o place)) (left k lt)
  falls k o lt lt_o (inr e) =
      let place : o ≡ r.place ((gate_at gates k).rhs1 / 2) = e ∙ ap (λ (n : Node). n.right) (node_in gates ns r c k lt (omega (arith, lt, le))) in
      subst (λ (v : ℕ). h.level v < h.level ((gate_at gates k).lhs / 2)) (sym (defines ((gate_at gates k).rhs1 / 2) o lt_o place)) (right k lt)

-- and levels of nodes are levels of gates, where no two define the same variable
abbrev level_by : (ℕ → ℕ) → ℕ → ℕ → ℕ
level_by level c p = cond (nat_lt p c) (suc (level p)) 0

pub to_gates : (gates : List AndGate) (ns : List Node) (c : ℕ) → Resolves gates ns → IsDistinct gates → c ≤ length gates → nodes.HasLevels (take c ns) → HasLevels (take c gates)
to_gates gates ns c r d le h = record { level = level; left = λ k lt. left k (omega (arith, lt, len_gates)); right = λ k lt. right k (omega (arith, lt, len_gates)) } where
  level : ℕ → ℕ
  level = λ v. level_by h.level c (r.place v)

  len_nodes : length (take c ns) ≡ c
  len_nodes = omega (arith, length-take c ns, nodes_len gates ns r, le)

  len_gates : length (take c gates) ≡ c
  len_gates = omega (arith, length-take c gates, le)

  own : (k : ℕ) → k < c → r.place ((gate_at gates k).lhs / 2) ≡ k
  own k lt = by_place (r.are ((gate_at gates k).lhs / 2)) where
    by_place : IsPlace gates (length gates) ((gate_at gates k).lhs / 2) (r.place ((gate_at gates k).lhs / 2)) → r.place ((gate_at gates k).lhs / 2) ≡ k
    by_place (inl q) = absurd (q.1 k (omega (arith, lt, le)) refl)
    by_place (inr q) = d.apart (r.place ((gate_at gates k).lhs / 2)) k q.0 (omega (arith, lt, le)) q.1

  at_own : (k : ℕ) → k < c → level_by h.level c (r.place ((gate_at gates k).lhs / 2)) ≡ suc (h.level k)
  at_own k lt = ap (level_by h.level c) (own k lt) ∙ rw (lt-ltb k c lt) refl

  below : (k p : ℕ) → k < c → (p < c → h.level p < h.level k) → level_by h.level c p < suc (h.level k)
  below k p lt falls = elim (place_or p c) [ inl t ↦ rw (lt-ltb p c t) (omega (arith, falls t)) | inr f ↦ rw (le-ltb p c f) (omega arith) ]

  left : (k : ℕ) → k < c → level ((gate_at (take c gates) k).rhs0 / 2) < level ((gate_at (take c gates) k).lhs / 2)
  left k lt =
      let node = node_in gates ns r c k lt (omega (arith, lt, le)) in
      let falls = below k (r.place ((gate_at gates k).rhs0 / 2)) lt (λ in_c. h.falls k (r.place ((gate_at gates k).rhs0 / 2)) (omega (arith, lt, len_nodes), omega (arith, in_c, len_nodes), inl (ap (λ (n : Node). n.left) (sym node)))) in
      subst (λ (g : AndGate). level_by h.level c (r.place (g.rhs0 / 2)) < level_by h.level c (r.place (g.lhs / 2))) (sym (gate_in gates c k lt))
      (subst (λ (n : ℕ). level_by h.level c (r.place ((gate_at gates k).rhs0 / 2)) < n) (sym (at_own k lt)) falls)

  right : (k : ℕ) → k < c → level ((gate_at (take c gates) k).rhs1 / 2) < level ((gate_at (take c gates) k).lhs / 2)
  right k lt =
      let node = node_in gates ns r c k lt (omega (arith, lt, le)) in
      let falls = below k (r.place ((gate_at gates k).rhs1 / 2)) lt (λ in_c. h.falls k (r.place ((gate_at gates k).rhs1 / 2)) (omega (arith, lt, len_nodes), omega (arith, in_c, len_nodes), inr (ap (λ (n : Node). n.right) (sym node)))) in
      subst (λ (g : AndGate). level_by h.level c (r.place (g.rhs1 / 2)) < level_by h.level c (r.place (g.lhs / 2))) (sym (gate_in gates c k lt))
      (subst (λ (n : ℕ). level_by h.level c (r.place ((gate_at gates k).rhs1 / 2)) < n) (sym (at_own k lt)) falls)

take_whole : {A : Type 0} (xs : List A) (c : ℕ) → c ≡ length xs → take c xs ≡ xs
take_whole [] zero e = refl
take_whole [] (suc c) e = absurd (omega arith)
take_whole (x ∷ xs) zero e = absurd (omega arith)
take_whole (x ∷ xs) (suc c) e = ap (λ ys. x ∷ ys) (take_whole xs c (omega arith))

pub found_is : (gates : List AndGate) (ns : List Node) (found : Option ℕ) → Resolves gates ns → IsDistinct gates → MatchOption found (nodes.HasLevels ns) (nodes.ClosesCycle ns) → MatchOption found (HasLevels gates) (ClosesCycle gates)
found_is gates ns None r d h =
    subst (λ (gs : List AndGate). HasLevels gs) (take_whole gates (length gates) refl) (to_gates gates ns (length gates) r d (omega arith) (subst (λ (xs : List Node). nodes.HasLevels xs) (sym (take_whole ns (length gates) (sym (nodes_len gates ns r)))) h))
found_is gates ns (Some k) r d h =
    let within : k < length gates = omega (arith, h.within, nodes_len gates ns r) in
    record { within = within; before = to_gates gates ns k r d (omega (arith, within)) h.before; closes = λ levels. h.closes (to_nodes gates ns (k + 1) r (omega (arith, within)) levels) }

pub ok_found : {E : Type 0} (gates : List AndGate) (ns : List Node) (r : Result (Option ℕ) E) → Resolves gates ns → IsDistinct gates → IfOk r (λ found. MatchOption found (nodes.HasLevels ns) (nodes.ClosesCycle ns)) → IfOk r (λ found. MatchOption found (HasLevels gates) (ClosesCycle gates))
ok_found gates ns (Ok found) r d h = found_is gates ns found r d h
ok_found gates ns (Err e) r d h = h

-- the gates' own nodes: the first place that defines a variable is its place
record IsFirst (gates : List AndGate) (v p : ℕ) : Type 0 where
  none : (o : ℕ) → o < p → (gate_at gates o).lhs / 2 ≢ v
  place : (p ≡ length gates) ⊎ ((p < length gates) × ((gate_at gates p).lhs / 2 ≡ v))

first_here : (g : AndGate) (gs : List AndGate) (v : ℕ) → g.lhs / 2 ≡ v → IsFirst (g ∷ gs) v 0
first_here g gs v is = record { none = λ o lt. absurd (omega (arith, lt)); place = inr (omega arith, is) }

none_before : (g : AndGate) (gs : List AndGate) (v p : ℕ) → g.lhs / 2 ≢ v → ((o : ℕ) → o < p → (gate_at gs o).lhs / 2 ≢ v) → (o : ℕ) → o < suc p → (gate_at (g ∷ gs) o).lhs / 2 ≢ v
none_before g gs v p not_here none zero lt = not_here
none_before g gs v p not_here none (suc o) lt = none o (omega (arith, lt))

first_later : (g : AndGate) (gs : List AndGate) (v p : ℕ) → g.lhs / 2 ≢ v → IsFirst gs v p → IsFirst (g ∷ gs) v (suc p)
first_later g gs v p not_here f = record {
  none = none_before g gs v p not_here f.none;
  place = elim f.place [
    | inl e ↦ inl (omega (arith, e))
    | inr q ↦ let lt = q.0 in inr (omega (arith, lt), q.1)
  ];
}

place_is : (gates : List AndGate) (v : ℕ) → IsFirst gates v (place_of gates v)
unfolding place_of
place_is [] v = record { none = λ o lt. absurd (omega (arith, lt)); place = inl refl }
place_is (g ∷ gs) v = elim (same_or (g.lhs / 2) v) [
  | inl is ↦ subst (λ (b : Bool). IsFirst (g ∷ gs) v (cond b 0 (suc (place_of gs v)))) (sym (eq-eqb (g.lhs / 2) v is)) (first_here g gs v is)
  | inr not_here ↦ subst (λ (b : Bool). IsFirst (g ∷ gs) v (cond b 0 (suc (place_of gs v)))) (sym (ne_eqb (g.lhs / 2) v not_here)) (first_later g gs v (place_of gs v) not_here (place_is gs v))
]

own_place_is : (gates : List AndGate) (v p : ℕ) → IsFirst gates v p → (p ≡ length gates) ⊎ ((p < length gates) × ((gate_at gates p).lhs / 2 ≡ v)) → IsPlace gates (length gates) v p
own_place_is gates v p f (inl e) = inl (e, λ o lt. f.none o (omega (arith, lt, e)))
own_place_is gates v p f (inr q) = inr q

own_are : (gates : List AndGate) (v : ℕ) → IsPlace gates (length gates) v (place_of gates v)
own_are gates v = own_place_is gates v (place_of gates v) (place_is gates v) (place_is gates v).place

pub own_nodes : (gates : List AndGate) → Resolves gates (nodes_of gates)
own_nodes gates = record { place = place_of gates; are = own_are gates; nodes_are = refl }

-- where no two gates define the same variable there are no other nodes
one_place : (gates : List AndGate) (v p q : ℕ) → IsDistinct gates → IsPlace gates (length gates) v p → IsPlace gates (length gates) v q → p ≡ q
one_place gates v p q d (inl a) (inl b) = a.0 ∙ sym b.0
one_place gates v p q d (inl a) (inr b) = absurd (a.1 q b.0 b.1)
one_place gates v p q d (inr a) (inl b) = absurd (b.1 p a.0 a.1)
one_place gates v p q d (inr a) (inr b) = d.apart p q a.0 b.0 (a.1 ∙ sym b.1)

abbrev node_with : ℕ → ℕ → Node
node_with l r = record { left = l; right = r }

same_nodes : (f g : ℕ → ℕ) → ((v : ℕ) → f v ≡ g v) → (gates : List AndGate) → map (node_by f) gates ≡ map (node_by g) gates
same_nodes f g h [] = refl
same_nodes f g h (a ∷ gates) =
    ap (λ (l : ℕ). node_with l (f (a.rhs1 / 2)) ∷ map (node_by f) gates) (h (a.rhs0 / 2))
    ∙ ap (λ (r : ℕ). node_with (g (a.rhs0 / 2)) r ∷ map (node_by f) gates) (h (a.rhs1 / 2))
    ∙ ap (λ (ns : List Node). node_by g a ∷ ns) (same_nodes f g h gates)

pub nodes_are_own : (gates : List AndGate) (ns : List Node) → IsDistinct gates → Resolves gates ns → ns ≡ nodes_of gates
nodes_are_own gates ns d r = r.nodes_are ∙ same_nodes r.place (place_of gates) (λ v. one_place gates v (r.place v) (place_of gates v) d (r.are v) (own_are gates v)) gates

-- gates without cycles, and their nodes
pub whole_to_nodes : (gates : List AndGate) → HasLevels gates → nodes.HasLevels (nodes_of gates)
whole_to_nodes gates h =
    subst nodes.HasLevels (take_whole (nodes_of gates) (length gates) (sym (nodes_len gates (nodes_of gates) (own_nodes gates))))
    (to_nodes gates (nodes_of gates) (length gates) (own_nodes gates) (omega arith) (subst HasLevels (sym (take_whole gates (length gates) refl)) h))

pub found_own : (gates : List AndGate) → IsDistinct gates → MatchOption (orders.first_cycle (nodes_of gates)) (HasLevels gates) (ClosesCycle gates)
found_own gates d = found_is gates (nodes_of gates) (orders.first_cycle (nodes_of gates)) (own_nodes gates) d (cycle_is_found (nodes_of gates))

pub cyclic_nodes : (gates : List AndGate) (ns : List Node) → Resolves gates ns → (nodes.HasLevels ns → ⊥) → HasLevels gates → ⊥
cyclic_nodes gates ns r none h =
    none (subst nodes.HasLevels (take_whole ns (length gates) (sym (nodes_len gates ns r)))
    (to_nodes gates ns (length gates) r (omega arith) (subst HasLevels (sym (take_whole gates (length gates) refl)) h)))

-- levels of variables
pub own_place : (gates : List AndGate) → IsDistinct gates → (k : ℕ) → k < length gates → place_of gates ((gate_at gates k).lhs / 2) ≡ k
own_place gates d k lt = one_place gates ((gate_at gates k).lhs / 2) (place_of gates ((gate_at gates k).lhs / 2)) k d (own_are gates ((gate_at gates k).lhs / 2)) (inr (lt, refl))

own_node : (gates : List AndGate) (k : ℕ) → k < length gates → nodes.node_at (nodes_of gates) k ≡ node_by (place_of gates) (gate_at gates k)
own_node gates k lt = get_or-map (node_by (place_of gates)) gates k (record { lhs = 0; rhs0 = 0; rhs1 = 0 }) (record { left = 0; right = 0 }) lt

module _ (gates : List AndGate) (d : IsDistinct gates) (h : HasLevels gates) where
  own_len : length (nodes_of gates) ≡ length gates
  own_len = nodes_len gates (nodes_of gates) (own_nodes gates)

  each_level : (k : ℕ) → k < length gates → orders.level_of (nodes_of gates) k ≡ suc (max (orders.level_of (nodes_of gates) (place_of gates ((gate_at gates k).rhs0 / 2))) (orders.level_of (nodes_of gates) (place_of gates ((gate_at gates k).rhs1 / 2))))
  each_level k lt =
      let are = levels_are_there (nodes_of gates) (whole_to_nodes gates h) in
      let at = are.each k (omega (arith, lt, own_len)) in
      sym (told_at (nodes_of gates) k) ∙ at
      ∙ ap (λ (n : Node). suc (max (get_or (orders.levels_of (nodes_of gates)) n.left 0) (get_or (orders.levels_of (nodes_of gates)) n.right 0))) (own_node gates k lt)
      ∙ ap (λ (l : ℕ). suc (max l (get_or (orders.levels_of (nodes_of gates)) (place_of gates ((gate_at gates k).rhs1 / 2)) 0))) (told_at (nodes_of gates) (place_of gates ((gate_at gates k).rhs0 / 2)))
      ∙ ap (λ (l : ℕ). suc (max (orders.level_of (nodes_of gates) (place_of gates ((gate_at gates k).rhs0 / 2))) l)) (told_at (nodes_of gates) (place_of gates ((gate_at gates k).rhs1 / 2)))

  no_level : (v : ℕ) → ((k : ℕ) → k < length gates → (gate_at gates k).lhs / 2 ≢ v) → variable_level gates v ≡ 0
  no_level v none = by_place (own_are gates v) where
    by_place : IsPlace gates (length gates) v (place_of gates v) → variable_level gates v ≡ 0
    by_place (inl p) = level_past (nodes_of gates) (length (nodes_of gates)) (place_of gates v) (omega (arith, p.0, own_len))
    by_place (inr p) = absurd (none (place_of gates v) p.0 p.1)

  own_levels : AreLevels gates (variable_level gates)
  own_levels = record {
    gate = λ k lt. ap (orders.level_of (nodes_of gates)) (own_place gates d k lt) ∙ each_level k lt;
    other = no_level;
  }

  own_all : IsPermutation (range_with_len 0 (length gates)) (places_by_level gates)
  own_all = subst (λ (n : ℕ). IsPermutation (range_with_len 0 n) (places_by_level gates)) own_len (order_whole (nodes_of gates) (whole_to_nodes gates h))

  pub own_inside : All (λ k. k < length gates) (places_by_level gates)
  own_inside = All-permutation (λ k. k < length gates) (range_with_len 0 (length gates)) (places_by_level gates) own_all (all_below 0 (length gates) (length gates) (omega arith))

  own_order : AreByLevel gates (variable_level gates) (places_by_level gates)
  own_order =
      record {
        all = own_all;
        rises = λ i j e le lt.
            let p = ap (orders.level_of (nodes_of gates)) (own_place gates d (get_or (places_by_level gates) i e) (own_inside i e (omega (arith, le, lt)))) in
            let q = ap (orders.level_of (nodes_of gates)) (own_place gates d (get_or (places_by_level gates) j e) (own_inside j e lt)) in
            let r = order_rises (nodes_of gates) i j e le lt in
            omega (arith, p, q, r);
      }

pub gates_have_levels : GatesHaveLevels
gates_have_levels gates d h = (own_levels gates d h, own_order gates d h)

pub ok_order : {E : Type 0} (gates : List AndGate) (ns : List Node) (r : Result (Option (Vec ℕ Global)) E) → IsDistinct gates → Resolves gates ns → IfOk r (λ found. MatchOption found (nodes.HasLevels ns → ⊥) (λ places. places.items ≡ orders.by_level ns))
    → IfOk r (λ found. MatchOption found (HasLevels gates → ⊥) (λ places. places.items ≡ places_by_level gates))
ok_order gates ns (Ok None) d r h = cyclic_nodes gates ns r h
ok_order gates ns (Ok (Some places)) d r h = h ∙ ap orders.by_level (nodes_are_own gates ns d r)
ok_order gates ns (Err e) d r h = h

pub ok_within : {E : Type 0} (gates : List AndGate) (ns : List Node) (r : Result (Option ℕ) E) → Resolves gates ns → IfOk r (λ found. MatchOption found (nodes.HasLevels ns) (nodes.ClosesCycle ns)) → IfOk r (λ found. IfSome found (λ k. k < length gates))
ok_within gates ns (Ok None) r h = tt
ok_within gates ns (Ok (Some k)) r h = let lt = h.within in omega (arith, lt, nodes_len gates ns r)
ok_within gates ns (Err e) r h = tt
