use Rattle.std.proofs.Common.{◌≡◌, ℕ, zero, suc, ◌-◌, ◌<◌, ◌≤◌, Option, Some, None, List, [], ◌∷◌, length, drop, get_or, refl, sym, ap, ◌∙◌, subst, arith, inl, inr, add-one, false}
use Rattle.std.specs.List.{slice_get}
use Rattle.std.proofs.lemmas.Bool.{cases_lt, eqb-true}
use Rattle.std.proofs.lemmas.Option.{slice_get_past, slice_get-get_or}
use Rattle.std.proofs.lemmas.List.{get_or_default, drop_more, drop_all, get_or-map, same_lists}
use Rattle.std.proofs.lemmas.List.{length-map}
use Rattle.std.proofs.lemmas.List.Elements.{recursion_from_All}
use Rattle.std.proofs.Common.{eqb}
use Rattle.std.proofs.lemmas.Bool.{ne_eqb}
use Rattle.std.specs.List.{IsDistinct}
use Rattle.std.specs.Option.{MatchOption}
use Rattle.std.proofs.lemmas.Map.Steps.{length-le_from_distinct_below}
use Rattle.std.proofs.lemmas.Map.Views.{Contains-from_any}
use Rattle.std.specs.List.{Contains}
use Rattle.gi_chains.specs.Lists.{items_at, StandsAt, IsFree, IsApart}
use Rattle.gi_chains.specs.Links.{no_ends, node_at, walk, walked, IsChained}
use Rattle.gi_chains.specs.declared.node.Node.{Node}
use Rattle.gi_chains.specs.declared.node.Ends.{Ends}

pub slice_get_at : (xs : List ℕ) (i : ℕ) → i < length xs → slice_get xs i ≡ Some (get_or xs i 0)
slice_get_at xs i lt = slice_get-get_or xs i 0 lt

some_injective : (a b : ℕ) → Some a ≡ Some b → a ≡ b
some_injective a b e = cc

-- places with the same element are the same
pub distinct_from : (xs : List ℕ) → ((i j : ℕ) → i < j → j < length xs → get_or xs i 0 ≡ get_or xs j 0 → ⊥) → IsDistinct eqb xs
unfolding IsDistinct
distinct_from [] h = tt
distinct_from (x ∷ xs) h = (
  recursion_from_All (λ y. eqb x y ≡ false) xs (λ k d lt. ne_eqb x (get_or xs k d) (λ e. h zero (suc k) (omega arith) (omega arith) (e ∙ get_or_default xs k d 0 lt))),
  distinct_from xs (λ i j lt jl e. h (suc i) (suc j) (omega arith) (omega arith) e),
)

module _ (ends : List Ends) (nodes : List Node) (lists : List (List ℕ)) (h : IsChained ends nodes lists) where
  pub one_list : (l i m j k : ℕ) → StandsAt lists l i k → StandsAt lists m j k → l ≡ m
  one_list l i m j k a b =
      let e : Some l ≡ Some m = ap (λ (n : Node). n.list) (sym (h.linked l i k a) ∙ h.linked m j k b) in
      some_injective l m e

  -- by the nodes before
  pub one_place : (l i j k : ℕ) → StandsAt lists l i k → StandsAt lists l j k → i ≡ j
  one_place l zero zero k a b = refl
  one_place l zero (suc j) k a b =
      let e : None ≡ slice_get (items_at lists l) j = ap (λ (n : Node). n.prev) (sym (h.linked l zero k a) ∙ h.linked l (suc j) k b) in
      let lt : suc j < length (items_at lists l) = b.place in
      let f = slice_get_at (items_at lists l) j (omega arith) in
      cc (e, f)
  one_place l (suc i) zero k a b =
      let e : slice_get (items_at lists l) i ≡ None = ap (λ (n : Node). n.prev) (sym (h.linked l (suc i) k a) ∙ h.linked l zero k b) in
      let lt : suc i < length (items_at lists l) = a.place in
      let f = slice_get_at (items_at lists l) i (omega arith) in
      cc (e, f)
  one_place l (suc i) (suc j) k a b =
      let e : slice_get (items_at lists l) i ≡ slice_get (items_at lists l) j = ap (λ (n : Node). n.prev) (sym (h.linked l (suc i) k a) ∙ h.linked l (suc j) k b) in
      let la : suc i < length (items_at lists l) = a.place in
      let lb : suc j < length (items_at lists l) = b.place in
      let il : i < length (items_at lists l) = omega arith in
      let jl : j < length (items_at lists l) = omega arith in
      let f = slice_get_at (items_at lists l) i il in
      let g = slice_get_at (items_at lists l) j jl in
      let same : get_or (items_at lists l) i 0 ≡ get_or (items_at lists l) j 0 = some_injective _ _ (sym f ∙ e ∙ g) in
      ap suc (one_place l i j (get_or (items_at lists l) i 0) (record { list = a.list; place = il; item = refl }) (record { list = a.list; place = jl; item = sym same }))

  pub apart : (n : ℕ) → length nodes ≡ n → (words : List ℕ) → length words ≡ n → IsApart (record { lists = lists; nodes = n; words = words })
  apart n e words w = record {
    within = λ l i k s. subst (λ z. k < z) e (h.within l i k s);
    same_list = one_list;
    same_place = λ l i m j k a b. let e : l ≡ m = one_list l i m j k a b in one_place m i j k (subst (λ (n : ℕ). StandsAt lists n i k) e a) b;
    worded = w;
  }

  -- what is read at a node says which list it stands in
  pub free_none : (k : ℕ) → (node_at nodes k).list ≡ None → IsFree lists k
  free_none k e l i s = let f : (node_at nodes k).list ≡ Some l = ap (λ (n : Node). n.list) (h.linked l i k s) in cc (e, f)

  pub none_free : (k : ℕ) → IsFree lists k → (node_at nodes k).list ≡ None
  none_free k f = go (node_at nodes k).list refl
    where
      go : (o : Option ℕ) → (node_at nodes k).list ≡ o → (node_at nodes k).list ≡ None
      go None e = e
      go (Some l) e = let p = h.home k l e in absurd (f l p.0 p.1)

  short : (l : ℕ) → l < length lists → length (items_at lists l) ≤ length nodes
  short l ll = length-le_from_distinct_below (items_at lists l) (length nodes)
      (distinct_from (items_at lists l) (λ i j lt jl e.
      let il : i < length (items_at lists l) = omega arith in
      let same : i ≡ j = one_place l i j (get_or (items_at lists l) j 0) (record { list = ll; place = il; item = e }) (record { list = ll; place = jl; item = refl }) in
      absurd (omega arith)))
      (λ q t. let p : Contains (items_at lists l) q = Contains-from_any {eq = eqb} eqb-true q (items_at lists l) t in h.within l p.0 q (record { list = ll; place = p.1; item = get_or_default (items_at lists l) p.0 0 q p.1 ∙ p.2 }))

  -- the walk from a place on
  walk-drop : (l : ℕ) → l < length lists → (most i : ℕ) → length (items_at lists l) - i ≤ most → walk nodes most (slice_get (items_at lists l) i) ≡ drop i (items_at lists l)
  unfolding walk
  walk-drop l ll zero i le = sym (drop_all i (items_at lists l) (omega arith))
  walk-drop l ll (suc most) i le = elim (cases_lt i (length (items_at lists l))) [
    | inl lt ↦
        let n : (node_at nodes (get_or (items_at lists l) i 0)).next ≡ slice_get (items_at lists l) (suc i) = ap (λ (n : Node). n.next) (h.linked l i (get_or (items_at lists l) i 0) (record { list = ll; place = lt; item = refl })) in
        let rest : walk nodes most (slice_get (items_at lists l) (suc i)) ≡ drop (suc i) (items_at lists l) = walk-drop l ll most (suc i) (omega arith) in
        rw (slice_get_at (items_at lists l) i lt, n, rest) (sym (rw (← add-one) (drop_more (items_at lists l) i 0 lt)))
    | inr ge ↦ rw (slice_get_past (items_at lists l) i ge) (sym (drop_all i (items_at lists l) ge))
  ]

  pub walked-same : walked ends nodes ≡ lists
  walked-same = same_lists (walked ends nodes) lists (length-map ends _ ∙ sym h.count) (λ l d lt.
      let ll : l < length lists = subst (λ (n : ℕ). l < n) (length-map ends _ ∙ sym h.count) lt in
      let le : l < length ends = subst (λ (n : ℕ). l < n) h.count ll in
      get_or-map (λ (e : Ends). walk nodes (length nodes) e.first) ends l no_ends d le
      ∙ ap (λ (e : Ends). walk nodes (length nodes) e.first) (h.each l ll)
      ∙ walk-drop l ll (length nodes) 0 (let s = short l ll in omega arith)
      ∙ get_or_default lists l [] d ll)

-- what is read at a node
pub read_list : (ends : List Ends) (nodes : List Node) (lists : List (List ℕ)) → IsChained ends nodes lists → (k : ℕ) (o : Option ℕ) → (node_at nodes k).list ≡ o → MatchOption o (IsFree lists k) (λ l. (i : ℕ) × StandsAt lists l i k)
read_list ends nodes lists h k None e = free_none ends nodes lists h k e
read_list ends nodes lists h k (Some l) e = h.home k l e
