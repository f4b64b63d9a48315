-- Levels by a bound on steps are the levels.
use Rattle.std.proofs.Common.{◌≡◌, ℕ, zero, suc, ◌+◌, ◌<◌, ◌≤◌, max, List, length, take, get_or, set, Bool, true, false, cond, ◌⊎◌, inl, inr, refl, ap, sym, ◌∙◌, subst, arith, replicate}
use Rattle.std.specs.Prelude.{◌&&◌, not, Option, Some, MatchOption}
use Rattle.std.proofs.Math.ListN.{length-set}
use Rattle.std.proofs.lemmas.Bool.{cases_lt, cases_eq, lt-ltb, le-ltb}
use Rattle.std.proofs.lemmas.List.{get_or-set_other, get_or_past, length-replicate, take_all}
use Rattle.std.proofs.lemmas.List.FromFn.{length-map-range_with_len, get_or-map-range_with_len, fill_by_all}
use Rattle.gi_levels.specs.declared.levels.Node.{Node}
use Rattle.gi_levels.specs.Levels.{node_at, IsOperand, HasLevels, AreLevels, ClosesCycle, unseen}
use Rattle.gi_levels.specs.Order.{ends_within, level_within, level_of, levels_of, all_end, is_acyclic, cycle_from, LevelsAreOne, LevelsAreThere, CycleIsFound}
use Rattle.gi_levels.proofs.Levelling.{fewer}
use Rattle.gi_levels.proofs.Visiting.{falses, all_unseen}
use Rattle.gi_levels.proofs.Prefixes.{none_has}

both : (a b : Bool) → (a && b) ≡ true → (a ≡ true) × (b ≡ true)
both true true e = (refl, refl)
both true false e = (refl, e)
both false b e = absurd (let f : false ≡ true = e in cc)

join : (a b : Bool) → a ≡ true → b ≡ true → (a && b) ≡ true
join a b e f = ap (λ x. x && b) e ∙ f

-- one step at a gate, and at what is none
ends_at : (nodes : List Node) (n k : ℕ) → k < length nodes → ends_within nodes (suc n) k ≡ (ends_within nodes n (node_at nodes k).left && ends_within nodes n (node_at nodes k).right)
unfolding ends_within
ends_at nodes n k lt = ap (λ b. cond b (ends_within nodes n (node_at nodes k).left && ends_within nodes n (node_at nodes k).right) true) (lt-ltb k (length nodes) lt)

ends_past : (nodes : List Node) (n k : ℕ) → length nodes ≤ k → ends_within nodes n k ≡ true
unfolding ends_within
ends_past nodes zero k ge = ap not (le-ltb k (length nodes) ge)
ends_past nodes (suc n) k ge = ap (λ b. cond b (ends_within nodes n (node_at nodes k).left && ends_within nodes n (node_at nodes k).right) true) (le-ltb k (length nodes) ge)

ends_none : (nodes : List Node) (k : ℕ) → k < length nodes → ends_within nodes 0 k ≡ false
unfolding ends_within
ends_none nodes k lt = ap not (lt-ltb k (length nodes) lt)

pub level_at : (nodes : List Node) (n k : ℕ) → k < length nodes → level_within nodes (suc n) k ≡ suc (max (level_within nodes n (node_at nodes k).left) (level_within nodes n (node_at nodes k).right))
unfolding level_within
level_at nodes n k lt = ap (λ b. cond b (suc (max (level_within nodes n (node_at nodes k).left) (level_within nodes n (node_at nodes k).right))) 0) (lt-ltb k (length nodes) lt)

pub level_past : (nodes : List Node) (n k : ℕ) → length nodes ≤ k → level_within nodes n k ≡ 0
unfolding level_within
level_past nodes zero k ge = refl
level_past nodes (suc n) k ge = ap (λ b. cond b (suc (max (level_within nodes n (node_at nodes k).left) (level_within nodes n (node_at nodes k).right))) 0) (le-ltb k (length nodes) ge)

ends_zero : (nodes : List Node) (k : ℕ) → ends_within nodes 0 k ≡ true → length nodes ≤ k
ends_zero nodes k e = elim (cases_lt k (length nodes)) [
  | inl lt ↦ absurd (let f = ends_none nodes k lt in cc)
  | inr ge ↦ ge
]

ends_both : (nodes : List Node) (n k : ℕ) → k < length nodes → ends_within nodes (suc n) k ≡ true → (ends_within nodes n (node_at nodes k).left ≡ true) × (ends_within nodes n (node_at nodes k).right ≡ true)
ends_both nodes n k lt e = both _ _ (sym (ends_at nodes n k lt) ∙ e)

-- a step more tells no other level where the paths have ended
pub stays : (nodes : List Node) (n k : ℕ) → ends_within nodes n k ≡ true → level_within nodes (suc n) k ≡ level_within nodes n k
stays nodes zero k e = level_past nodes 1 k (ends_zero nodes k e) ∙ sym (level_past nodes 0 k (ends_zero nodes k e))
stays nodes (suc n) k e = elim (cases_lt k (length nodes)) [
  | inl lt ↦
      let b = ends_both nodes n k lt e in
      omega (arith, level_at nodes (suc n) k lt, level_at nodes n k lt, stays nodes n (node_at nodes k).left b.0, stays nodes n (node_at nodes k).right b.1)
  | inr ge ↦ level_past nodes (suc (suc n)) k ge ∙ sym (level_past nodes (suc n) k ge)
]

-- levels are those that the steps tell, where the paths have ended
are_told : (nodes : List Node) (levels : List ℕ) → AreLevels nodes levels → (n k : ℕ) → ends_within nodes n k ≡ true → get_or levels k 0 ≡ level_within nodes n k
are_told nodes levels h zero k e =
    let ge = ends_zero nodes k e in
    get_or_past levels k 0 (omega (arith, h.len, ge)) ∙ sym (level_past nodes 0 k ge)
are_told nodes levels h (suc n) k e = elim (cases_lt k (length nodes)) [
  | inl lt ↦
      let b = ends_both nodes n k lt e in
      omega (arith, level_at nodes n k lt, h.each k lt, are_told nodes levels h n (node_at nodes k).left b.0, are_told nodes levels h n (node_at nodes k).right b.1)
  | inr ge ↦ get_or_past levels k 0 (omega (arith, h.len, ge)) ∙ sym (level_past nodes (suc n) k ge)
]

-- from a gate the paths avoid what has a greater level, so they end within as many steps as gates are unseen
module _ (nodes : List Node) (h : HasLevels nodes) where
  abbrev AreAbove : List Bool → ℕ → Type 0
  AreAbove seen k = (j : ℕ) → j < length nodes → get_or seen j false ≡ true → h.level k < h.level j

  fresh : (seen : List Bool) (k : ℕ) → k < length nodes → AreAbove seen k → (b : Bool) → b ≡ get_or seen k false → get_or seen k false ≡ false
  fresh seen k lt above true e = absurd (let x = above k lt (sym e) in omega arith)
  fresh seen k lt above false e = sym e

  below : (seen : List Bool) (k o : ℕ) → length seen ≡ length nodes → AreAbove seen k → IsOperand nodes k o → AreAbove (set seen k true) o
  below seen k o len above op j lt was = elim (cases_eq j k) [
    | inl e ↦ subst (λ (i : ℕ). h.level o < h.level i) (sym e) (h.falls k o op)
    | inr ne ↦
        let x = above j lt (sym (get_or-set_other seen k j true false ne) ∙ was) in
        let y = h.falls k o op in
        omega (arith, x, y)
  ]

  -- what is no gate has ended
  by_place : (n o : ℕ) → (o < length nodes → ends_within nodes n o ≡ true) → ends_within nodes n o ≡ true
  by_place n o f = elim (cases_lt o (length nodes)) [ inl lt ↦ f lt | inr ge ↦ ends_past nodes n o ge ]

  ends : (n k : ℕ) (seen : List Bool) → length seen ≡ length nodes → unseen seen ≤ n → AreAbove seen k → ends_within nodes n k ≡ true
  ends zero k seen len few above = elim (cases_lt k (length nodes)) [
    | inl lt ↦ absurd (let f = fewer seen k (omega (arith, len, lt)) (fresh seen k lt above (get_or seen k false) refl) in omega (arith, f, few))
    | inr ge ↦ ends_past nodes zero k ge
  ]
  ends (suc n) k seen len few above = elim (cases_lt k (length nodes)) [
    | inl lt ↦
        let f = fewer seen k (omega (arith, len, lt)) (fresh seen k lt above (get_or seen k false) refl) in
        let len' : length (set seen k true) ≡ length nodes = length-set seen k true ∙ len in
        let few' : unseen (set seen k true) ≤ n = omega (arith, f, few) in
        ends_at nodes n k lt ∙ join _ _
        (by_place n (node_at nodes k).left (λ ol. ends n (node_at nodes k).left (set seen k true) len' few' (below seen k (node_at nodes k).left len above (lt, ol, inl refl))))
        (by_place n (node_at nodes k).right (λ ol. ends n (node_at nodes k).right (set seen k true) len' few' (below seen k (node_at nodes k).right len above (lt, ol, inr refl))))
    | inr ge ↦ ends_past nodes (suc n) k ge
  ]

  pub ends_all : (k : ℕ) → ends_within nodes (length nodes) k ≡ true
  ends_all k =
      let none : AreAbove (replicate (length nodes) false) k = λ j lt was. absurd (let f = falses (length nodes) j in cc) in
      ends (length nodes) k (replicate (length nodes) false) (length-replicate (length nodes) false) (omega (arith, all_unseen (length nodes))) none

-- the function's levels
pub told_at : (nodes : List Node) (k : ℕ) → get_or (levels_of nodes) k 0 ≡ level_of nodes k
told_at nodes k = elim (cases_lt k (length nodes)) [
  | inl lt ↦ get_or-map-range_with_len (level_of nodes) 0 (length nodes) k k 0 lt (omega arith)
  | inr ge ↦
      let len = length-map-range_with_len (level_of nodes) 0 (length nodes) in
      get_or_past (levels_of nodes) k 0 (omega (arith, len, ge)) ∙ sym (level_past nodes (length nodes) k ge)
]

by_ends : (nodes : List Node) → ((k : ℕ) → ends_within nodes (length nodes) k ≡ true) → AreLevels nodes (levels_of nodes)
by_ends nodes e = record {
  len = length-map-range_with_len (level_of nodes) 0 (length nodes);
  each = λ k lt. omega (arith, told_at nodes k, told_at nodes (node_at nodes k).left, told_at nodes (node_at nodes k).right, stays nodes (length nodes) k (e k), level_at nodes (length nodes) k lt);
}

pub there : LevelsAreThere
there nodes h = by_ends nodes (ends_all nodes h)

pub has : (nodes : List Node) (levels : List ℕ) → AreLevels nodes levels → HasLevels nodes
has nodes levels h = record { level = λ k. get_or levels k 0; falls = λ k o p. falls k o p.0 p.2 } where
  falls : (k o : ℕ) → k < length nodes → (o ≡ (node_at nodes k).left) ⊎ (o ≡ (node_at nodes k).right) → get_or levels o 0 < get_or levels k 0
  falls k o lt (inl e) = subst (λ (i : ℕ). get_or levels i 0 < get_or levels k 0) (sym e) (omega (arith, h.each k lt))
  falls k o lt (inr e) = subst (λ (i : ℕ). get_or levels i 0 < get_or levels k 0) (sym e) (omega (arith, h.each k lt))

pub one : LevelsAreOne
one nodes levels h = fill_by_all (level_of nodes) levels (length nodes) 0 h.len (λ k lt. are_told nodes levels h (length nodes) k (ends_all nodes (has nodes levels h) k))

-- all of the first places end exactly where each does
each_ends : (nodes : List Node) (n : ℕ) → all_end nodes n ≡ true → (k : ℕ) → k < n → ends_within nodes (length nodes) k ≡ true
unfolding all_end
each_ends nodes zero e k lt = absurd (omega arith)
each_ends nodes (suc n) e k lt =
    let b = both (ends_within nodes (length nodes) n) (all_end nodes n) e in
    elim (cases_eq k n) [
      | inl is ↦ subst (λ (i : ℕ). ends_within nodes (length nodes) i ≡ true) (sym is) b.0
      | inr ne ↦ each_ends nodes n b.1 k (omega (arith, lt, ne))
    ]

all_of : (nodes : List Node) (n : ℕ) → ((k : ℕ) → ends_within nodes (length nodes) k ≡ true) → all_end nodes n ≡ true
unfolding all_end
all_of nodes zero e = refl
all_of nodes (suc n) e = join (ends_within nodes (length nodes) n) (all_end nodes n) (e n) (all_of nodes n e)

pub acyclic_has : (nodes : List Node) → is_acyclic nodes ≡ true → HasLevels nodes
acyclic_has nodes e = has nodes (levels_of nodes) (by_ends nodes ends) where
  ends : (k : ℕ) → ends_within nodes (length nodes) k ≡ true
  ends k = elim (cases_lt k (length nodes)) [
    | inl lt ↦ each_ends nodes (length nodes) e k lt
    | inr ge ↦ ends_past nodes (length nodes) k ge
  ]

pub has_acyclic : (nodes : List Node) → HasLevels nodes → is_acyclic nodes ≡ true
has_acyclic nodes h = all_of nodes (length nodes) (ends_all nodes h)

-- the first cycle
step : (nodes : List Node) (k : ℕ) (later : Option ℕ) → k < length nodes → HasLevels (take k nodes) → (HasLevels (take (k + 1) nodes) → MatchOption later (HasLevels nodes) (ClosesCycle nodes)) → (b : Bool) → b ≡ is_acyclic (take (k + 1) nodes)
    → MatchOption (cond b later (Some k)) (HasLevels nodes) (ClosesCycle nodes)
step nodes k later lt h next true is = next (acyclic_has (take (k + 1) nodes) (sym is))
step nodes k later lt h next false is = record { within = lt; before = h; closes = λ g. let f : false ≡ true = is ∙ has_acyclic (take (k + 1) nodes) g in cc }

finds : (nodes : List Node) (k n : ℕ) → k + n ≡ length nodes → HasLevels (take k nodes) → MatchOption (cycle_from nodes k n) (HasLevels nodes) (ClosesCycle nodes)
unfolding cycle_from
finds nodes k zero e h = subst (λ (ns : List Node). HasLevels ns) (take_all k nodes (omega (arith, e))) h
finds nodes k (suc n) e h = step nodes k (cycle_from nodes (k + 1) n) (omega (arith, e)) h (λ g. finds nodes (k + 1) n (omega (arith, e)) g) (is_acyclic (take (k + 1) nodes)) refl

pub found : CycleIsFound
found nodes = finds nodes 0 (length nodes) (omega arith) (none_has nodes)
