use Rattle.std.proofs.Common.{◌≡◌, ℕ, zero, suc, ◌+◌, ◌<◌, ◌≤◌, List, [], ◌∷◌, ◌++◌, length, get_or, replicate, refl, sym, ap, ◌∙◌, subst, arith, inl, inr, length-append}
use Rattle.std.proofs.lemmas.Bool.{cases_lt}
use Rattle.std.proofs.lemmas.List.{length-replicate, get_or_past}
use Rattle.gi_chains.specs.Lists.{items_at, StandsAt}
use Rattle.gi_chains.specs.Links.{blank, no_ends, ends_of, node_in, IsChained}
use Rattle.gi_chains.specs.declared.node.Node.{Node}
use Rattle.gi_chains.specs.declared.node.Ends.{Ends}

default_at : {X : Type 0} (d : X) (m i : ℕ) → get_or (replicate m d) i d ≡ d
default_at d zero i = refl
default_at d (suc m) zero = refl
default_at d (suc m) (suc i) = default_at d m i

pub more_same : {X : Type 0} (d : X) (xs : List X) (m i : ℕ) → get_or (xs ++ replicate m d) i d ≡ get_or xs i d
more_same d [] m i = default_at d m i
more_same d (x ∷ xs) m zero = refl
more_same d (x ∷ xs) m (suc i) = more_same d xs m i

module _ (ends : List Ends) (nodes : List Node) (lists : List (List ℕ)) (h : IsChained ends nodes lists) (n m : ℕ) where
  abbrev lists' : List (List ℕ)
  lists' = lists ++ replicate n []

  old : (l i k : ℕ) → StandsAt lists' l i k → StandsAt lists l i k
  old l i k s =
      let same : items_at lists' l ≡ items_at lists l = more_same [] lists n l in
      let place : i < length (items_at lists l) = subst (λ (z : List ℕ). i < length z) same s.place in
      record {
        list = elim (cases_lt l (length lists)) [ inl lt ↦ lt | inr le ↦ absurd (let e : items_at lists l ≡ [] = get_or_past lists l [] le in let f : length (items_at lists l) ≡ 0 = ap length e in omega arith) ];
        place = place;
        item = subst (λ (z : List ℕ). get_or z i 0 ≡ k) same s.item;
      }

  new : (l i k : ℕ) → StandsAt lists l i k → StandsAt lists' l i k
  new l i k s =
      let same : items_at lists' l ≡ items_at lists l = more_same [] lists n l in
      record {
        list = (let lt : l < length lists = s.list in omega (arith, length-append lists (replicate n [])));
        place = subst (λ (z : List ℕ). i < length z) (sym same) s.place;
        item = subst (λ (z : List ℕ). get_or z i 0 ≡ k) (sym same) s.item;
      }

  ends_are : (l : ℕ) → get_or ends l no_ends ≡ ends_of (items_at lists l)
  ends_are l = elim (cases_lt l (length lists)) [
    | inl lt ↦ h.each l lt
    | inr le ↦ get_or_past ends l no_ends (subst (λ (z : ℕ). z ≤ l) h.count le) ∙ ap ends_of (sym (get_or_past lists l [] le))
  ]

  pub IsChained-grow : IsChained (ends ++ replicate n no_ends) (nodes ++ replicate m blank) lists'
  IsChained-grow = record {
    count = length-append lists (replicate n []) ∙ ap (λ z. z + length (replicate n (let z : List ℕ = [] in z))) h.count ∙ ap (λ z. length ends + z) (length-replicate n (let z : List ℕ = [] in z) ∙ sym (length-replicate n no_ends)) ∙ sym (length-append ends (replicate n no_ends));
    each = λ l lt. more_same no_ends ends n l ∙ ends_are l ∙ ap ends_of (sym (more_same [] lists n l));
    within = λ l i k s. let lt : k < length nodes = h.within l i k (old l i k s) in omega (arith, length-append nodes (replicate m blank));
    linked = λ l i k s. more_same blank nodes m k ∙ h.linked l i k (old l i k s) ∙ ap (λ z. node_in l z i) (sym (more_same [] lists n l));
    home = λ k l e. let p = h.home k l (sym (ap (λ (n : Node). n.list) (more_same blank nodes m k)) ∙ e) in (p.0, new l p.0 k p.1);
    free = λ k e. more_same blank nodes m k ∙ h.free k (sym (ap (λ (n : Node). n.list) (more_same blank nodes m k)) ∙ e);
  }
