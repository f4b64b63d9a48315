use Rattle.std.proofs.Common.{◌≡◌, ◌≢◌, ℕ, zero, suc, ◌-◌, ◌<◌, ◌≤◌, Option, Some, None, List, [], ◌∷◌, ◌++◌, length, get_or, set, refl, sym, ap, ◌∙◌, subst, arith, ◌⊎◌, inl, inr, length-append, length-set, get_or-set_other, get_or-set_same}
use Rattle.std.specs.List.{slice_get}
use Rattle.std.proofs.lemmas.Bool.{cases_lt, cases_eq}
use Rattle.std.proofs.lemmas.Option.{slice_get_past, slice_get_within, get_or_from_slice_get}
use Rattle.std.proofs.lemmas.List.{get_or_read, get_or_append_left, get_or_push}
use Rattle.gi_chains.specs.Lists.{items_at, StandsAt, IsFree}
use Rattle.gi_chains.specs.Links.{blank, no_ends, node_at, with_prev, with_next, before, node_in, ends_of, IsChained}
use Rattle.gi_chains.specs.declared.node.Node.{Node}
use Rattle.gi_chains.specs.declared.node.Ends.{Ends}
use Rattle.gi_chains.proofs.Linking.{slice_get_at, one_place, none_free}
use Rattle.std.specs.Option.{IfSome, option_or}
use Rattle.gi_chains.proofs.Editing.{IsChained-edit, prev_other, prev_same, next_other, next_same, length-with_prev, length-with_next, IsEdit}

front_ends : (k : ℕ) (xs : List ℕ) (e : Ends) (r : Option ℕ) → e ≡ ends_of xs → r ≡ option_or e.last (Some k) → record { first = Some k; last = r } ≡ ends_of (k ∷ xs)
front_ends k [] e r s t = ap (λ o. record { first = Some k; last = o }) (t ∙ ap (λ (e : Ends). option_or e.last (Some k)) s)
front_ends k (x ∷ xs) e r s t =
    let at : slice_get (x ∷ xs) (length (x ∷ xs) - 1) ≡ Some (get_or (x ∷ xs) (length (x ∷ xs) - 1) 0) = slice_get_at (x ∷ xs) (length (x ∷ xs) - 1) (omega arith) in
    let n : length (k ∷ x ∷ xs) - 1 ≡ suc (length (x ∷ xs) - 1) = omega arith in
    ap (λ o. record { first = Some k; last = o }) (t ∙ ap (λ (e : Ends). option_or e.last (Some k)) s ∙ ap (λ o. option_or o (Some k)) at ∙ sym at ∙ ap (slice_get (k ∷ x ∷ xs)) (sym n))

back_ends : (k : ℕ) (xs : List ℕ) (e : Ends) (r : Option ℕ) → e ≡ ends_of xs → r ≡ option_or e.first (Some k) → record { first = r; last = Some k } ≡ ends_of (xs ++ k ∷ [])
back_ends k [] e r s t = ap (λ o. record { first = o; last = Some k }) (t ∙ ap (λ (e : Ends). option_or e.first (Some k)) s)
back_ends k (x ∷ xs) e r s t =
    let at : slice_get (x ∷ xs ++ k ∷ []) (length (x ∷ xs ++ k ∷ []) - 1) ≡ Some k = slice_get_at (x ∷ xs ++ k ∷ []) (length (x ∷ xs ++ k ∷ []) - 1) (omega arith) ∙ ap Some (get_or_push (x ∷ xs) k 0 (length (x ∷ xs ++ k ∷ []) - 1) (omega (arith, length-append (x ∷ xs) (k ∷ [])))) in
    ap (λ o. record { first = o; last = Some k }) (t ∙ ap (λ (e : Ends). option_or e.first (Some k)) s) ∙ ap (λ o. record { first = Some x; last = o }) (sym at)

module _ (ends : List Ends) (nodes : List Node) (lists : List (List ℕ)) (h : IsChained ends nodes lists) (l : ℕ) (ll : l < length lists) (k : ℕ) (kl : k < length nodes) (f : IsFree lists k) where
  abbrev xs : List ℕ
  xs = items_at lists l

  stands : (i : ℕ) → i < length xs → StandsAt lists l i (get_or xs i 0)
  stands i lt = record { list = ll; place = lt; item = refl }

  stands_at : (i q : ℕ) → slice_get xs i ≡ Some q → StandsAt lists l i q
  stands_at i q e = record { list = ll; place = slice_get_within xs i q e; item = get_or_from_slice_get xs i q 0 e }

  in_l : (i q : ℕ) → slice_get xs i ≡ Some q → (node_at nodes q).list ≡ Some l
  in_l i q e = ap (λ (n : Node). n.list) (h.linked l i q (stands_at i q e))

  not_k : (i : ℕ) → i < length xs → get_or xs i 0 ≢ k
  not_k i lt e = f l i (record { list = ll; place = lt; item = e })

  no_list : (m : ℕ) → (node_at nodes k).list ≡ Some m → ⊥
  no_list m e = let g : (node_at nodes k).list ≡ None = none_free ends nodes lists h k f in cc (e, g)

  module _ where
    abbrev first : Option ℕ
    first = slice_get xs 0

    abbrev alone : List Node
    alone = set nodes k (record { list = Some l; prev = None; next = first })

    abbrev pub fronted : List Node
    fronted = with_prev alone first (Some k)

    inside : (j : ℕ) → j < length (k ∷ xs) → node_at fronted (get_or (k ∷ xs) j 0) ≡ node_in l (k ∷ xs) j
    inside zero lt = prev_other alone first (Some k) k (λ e. f l zero (stands_at zero k e)) ∙ get_or-set_same nodes k _ blank kl
    inside (suc zero) lt =
        let il : zero < length xs = omega arith in
        let ql : get_or xs zero 0 < length alone = subst (λ (z : ℕ). get_or xs zero 0 < z) (sym (length-set nodes k _)) (h.within l zero _ (stands zero il)) in
        ap (λ o. node_at (with_prev alone o (Some k)) (get_or xs zero 0)) (slice_get_at xs zero il)
        ∙ prev_same alone (Some k) (get_or xs zero 0) ql
        ∙ ap (λ (n : Node). record n { prev = Some k }) (get_or-set_other nodes k (get_or xs zero 0) _ blank (not_k zero il) ∙ h.linked l zero _ (stands zero il))
    inside (suc (suc i)) lt =
        let il : suc i < length xs = omega arith in
        prev_other alone first (Some k) (get_or xs (suc i) 0) (λ e. let z : zero ≡ suc i = one_place ends nodes lists h l zero (suc i) _ (stands_at zero _ e) (stands (suc i) il) in absurd (omega arith))
        ∙ get_or-set_other nodes k (get_or xs (suc i) 0) _ blank (not_k (suc i) il)
        ∙ h.linked l (suc i) _ (stands (suc i) il)

    pub front_edit : IsEdit nodes fronted lists l (k ∷ xs) k
    front_edit = record {
      len = length-with_prev alone first (Some k) ∙ length-set nodes k _;
      exists = exists';
      inside = inside;
      outside = λ q a b. prev_other alone first (Some k) q (λ e. a (in_l zero q e)) ∙ get_or-set_other nodes k q _ blank b;
      own = λ m e. absurd (no_list m e);
      left = left';
    }
      where
        exists' : (j : ℕ) → j < length (k ∷ xs) → get_or (k ∷ xs) j 0 < length nodes
        exists' zero lt = kl
        exists' (suc j) lt = let jl : j < length xs = omega arith in h.within l j _ (stands j jl)

        left' : (q : ℕ) → ((node_at nodes q).list ≡ Some l) ⊎ (q ≡ k) → ((j : ℕ) × (j < length (k ∷ xs)) × (get_or (k ∷ xs) j 0 ≡ q)) ⊎ (node_at fronted q ≡ blank)
        left' q (inl a) = let p = h.home q l a in let pl : p.0 < length xs = p.1.place in inl (suc p.0, omega arith, p.1.item)
        left' q (inr e) = inl (zero, omega arith, sym e)

  module _ where
    abbrev last : Option ℕ
    last = slice_get xs (length xs - 1)

    abbrev alone' : List Node
    alone' = set nodes k (record { list = Some l; prev = last; next = None })

    abbrev pub backed : List Node
    backed = with_next alone' last (Some k)

    -- the place of the last
    last_place : (j q : ℕ) → j < length xs → last ≡ Some q → get_or xs j 0 ≡ q → suc j ≡ length xs
    last_place j q jl e at =
        let same : j ≡ length xs - 1 = one_place ends nodes lists h l j (length xs - 1) q (record { list = ll; place = jl; item = at }) (stands_at (length xs - 1) q e) in
        omega arith

    len' : length (xs ++ k ∷ []) ≡ suc (length xs)
    len' = omega (arith, length-append xs (k ∷ []))

    slice_get_front : (j : ℕ) → j < length xs → slice_get (xs ++ k ∷ []) j ≡ slice_get xs j
    slice_get_front j jl = slice_get_at (xs ++ k ∷ []) j (omega (arith, length-append xs (k ∷ []))) ∙ ap Some (get_or_append_left xs (k ∷ []) 0 j jl) ∙ sym (slice_get_at xs j jl)

    slice_get_back : (j : ℕ) → j ≡ length xs → slice_get (xs ++ k ∷ []) j ≡ Some k
    slice_get_back j e = slice_get_at (xs ++ k ∷ []) j (omega (arith, length-append xs (k ∷ []))) ∙ ap Some (get_or_push xs k 0 j (sym e))

    before_front : (j : ℕ) → j ≤ length xs → before (xs ++ k ∷ []) j ≡ before xs j
    before_front zero le = refl
    before_front (suc j) le = slice_get_front j (omega arith)

    before_end : (n : ℕ) → n ≡ length xs → before xs n ≡ last
    before_end zero e = sym (slice_get_past xs (length xs - 1) (omega arith))
    before_end (suc n) e = ap (slice_get xs) (omega arith)

    abbrev made : Option ℕ → Option ℕ → Node
    made a b = record { list = Some l; prev = a; next = b }

    made_same : (a b c d : Option ℕ) → a ≡ c → b ≡ d → made a b ≡ made c d
    made_same a b c d e g = ap (λ o. made o b) e ∙ ap (λ o. made c o) g

    old_at : (j : ℕ) → j < length xs → node_at alone' (get_or xs j 0) ≡ node_in l xs j
    old_at j jl = get_or-set_other nodes k (get_or xs j 0) _ blank (not_k j jl) ∙ h.linked l j _ (stands j jl)

    inside' : (j : ℕ) → j < length (xs ++ k ∷ []) → node_at backed (get_or (xs ++ k ∷ []) j 0) ≡ node_in l (xs ++ k ∷ []) j
    inside' j lt = elim (cases_lt j (length xs)) [
      | inl jl ↦
          let at : get_or (xs ++ k ∷ []) j 0 ≡ get_or xs j 0 = get_or_append_left xs (k ∷ []) 0 j jl in
          elim (cases_eq (suc j) (length xs)) [
            | inl e ↦
                let is : last ≡ Some (get_or xs j 0) = ap (slice_get xs) (let z : length xs - 1 ≡ j = omega arith in z) ∙ slice_get_at xs j jl in
                ap (node_at backed) at
                ∙ ap (λ o. node_at (with_next alone' o (Some k)) (get_or xs j 0)) is
                ∙ next_same alone' (Some k) (get_or xs j 0) (subst (λ (z : ℕ). get_or xs j 0 < z) (sym (length-set nodes k _)) (h.within l j _ (stands j jl)))
                ∙ ap (λ (n : Node). record n { next = Some k }) (old_at j jl)
                ∙ made_same _ _ _ _ (sym (before_front j (omega arith))) (sym (slice_get_back (suc j) e))
            | inr n ↦
                ap (node_at backed) at
                ∙ next_other alone' last (Some k) (get_or xs j 0) (λ e. n (last_place j _ jl e refl))
                ∙ old_at j jl
                ∙ made_same _ _ _ _ (sym (before_front j (omega arith))) (sym (slice_get_front (suc j) (omega arith)))
          ]
      | inr ge ↦
          let e : j ≡ length xs = omega (arith, length-append xs (k ∷ [])) in
          ap (node_at backed) (get_or_push xs k 0 j (sym e))
          ∙ next_other alone' last (Some k) k (λ g. f l (length xs - 1) (stands_at (length xs - 1) k g))
          ∙ get_or-set_same nodes k _ blank kl
          ∙ made_same _ _ _ _ (sym (before_front j (omega arith) ∙ before_end j e)) (sym (slice_get_past (xs ++ k ∷ []) (suc j) (omega (arith, length-append xs (k ∷ [])))))
    ]

    pub back_edit : IsEdit nodes backed lists l (xs ++ k ∷ []) k
    back_edit = record {
      len = length-with_next alone' last (Some k) ∙ length-set nodes k _;
      exists = λ j lt. elim (cases_lt j (length xs)) [
        | inl jl ↦ rw (get_or_append_left xs (k ∷ []) 0 j jl) (h.within l j _ (stands j jl))
        | inr ge ↦ rw (get_or_push xs k 0 j (omega (arith, length-append xs (k ∷ [])))) kl
      ];
      inside = inside';
      outside = λ q a b. next_other alone' last (Some k) q (λ e. a (in_l (length xs - 1) q e)) ∙ get_or-set_other nodes k q _ blank b;
      own = λ m e. absurd (no_list m e);
      left = left'';
    }
      where
        left'' : (q : ℕ) → ((node_at nodes q).list ≡ Some l) ⊎ (q ≡ k) → ((j : ℕ) × (j < length (xs ++ k ∷ [])) × (get_or (xs ++ k ∷ []) j 0 ≡ q)) ⊎ (node_at backed q ≡ blank)
        left'' q (inl a) = let p = h.home q l a in let pl : p.0 < length xs = p.1.place in inl (p.0, omega (arith, length-append xs (k ∷ [])), get_or_append_left xs (k ∷ []) 0 p.0 pl ∙ p.1.item)
        left'' q (inr e) = inl (length xs, omega (arith, length-append xs (k ∷ [])), get_or_push xs k 0 (length xs) refl ∙ sym e)

  -- the ends that are read
  module _ (e : Ends) (is : e ≡ get_or ends l e) where
    e_at : e ≡ get_or ends l no_ends
    e_at = get_or_read ends l e (subst (λ (z : ℕ). l < z) h.count ll) is no_ends

    e_is : e ≡ ends_of xs
    e_is = e_at ∙ h.each l ll

    exists_at : (o : Option ℕ) (i : ℕ) → o ≡ slice_get xs i → IfSome o (λ q. q < length nodes)
    exists_at None i at = tt
    exists_at (Some q) i at = h.within l i q (stands_at i q (sym at))

    pub first_exists : IfSome e.first (λ q. q < length nodes)
    first_exists = exists_at e.first 0 (ap (λ (e : Ends). e.first) e_is)

    pub last_exists : IfSome e.last (λ q. q < length nodes)
    last_exists = exists_at e.last (length xs - 1) (ap (λ (e : Ends). e.last) e_is)

    abbrev new : Option ℕ → Option ℕ → Node
    new p n = record { list = Some l; prev = p; next = n }

    abbrev made_in : Option ℕ → Option ℕ → Option ℕ → Node
    made_in o p n = record { list = o; prev = p; next = n }

    abbrev both : Option ℕ → Option ℕ → Ends
    both f b = record { first = f; last = b }

    -- what the code leaves
    pub front_chained : (o n s t r : Option ℕ) → o ≡ Some l → n ≡ None → s ≡ Some k → t ≡ Some k → r ≡ option_or e.last (Some k) → (ms ns : List Node) → ms ≡ set nodes k (made_in o n e.first) → ns ≡ with_prev ms e.first s → IsChained (set ends l (both t r)) ns (set lists l (k ∷ xs))
    front_chained o n s t r oi ni si ti ri ms ns msi nsi =
        let same : ns ≡ fronted = nsi ∙ ap (λ (z : List Node). with_prev z e.first s) (msi ∙ ap (λ z. set nodes k (made_in z n e.first)) oi) ∙ ap (λ o. with_prev (set nodes k (new o e.first)) e.first s) ni ∙ ap (λ o. with_prev (set nodes k (new None e.first)) e.first o) si ∙ ap (λ (e : Ends). with_prev (set nodes k (new None e.first)) e.first (Some k)) e_is in
        let ends_are : both t r ≡ ends_of (k ∷ xs) = ap (λ o. both o r) ti ∙ front_ends k xs e r e_is ri in
        subst (λ (z : List Node). IsChained (set ends l (both t r)) z (set lists l (k ∷ xs))) (sym same)
        (subst (λ (z : Ends). IsChained (set ends l z) fronted (set lists l (k ∷ xs))) (sym ends_are) (IsChained-edit ends nodes lists h fronted l ll (k ∷ xs) k front_edit))

    pub back_chained : (o n s t r : Option ℕ) → o ≡ Some l → n ≡ None → s ≡ Some k → t ≡ Some k → r ≡ option_or e.first (Some k) → (ms ns : List Node) → ms ≡ set nodes k (made_in o e.last n) → ns ≡ with_next ms e.last s → IsChained (set ends l (both r t)) ns (set lists l (xs ++ k ∷ []))
    back_chained o n s t r oi ni si ti ri ms ns msi nsi =
        let same : ns ≡ backed = nsi ∙ ap (λ (z : List Node). with_next z e.last s) (msi ∙ ap (λ z. set nodes k (made_in z e.last n)) oi) ∙ ap (λ o. with_next (set nodes k (new e.last o)) e.last s) ni ∙ ap (λ o. with_next (set nodes k (new e.last None)) e.last o) si ∙ ap (λ (e : Ends). with_next (set nodes k (new e.last None)) e.last (Some k)) e_is in
        let ends_are : both r t ≡ ends_of (xs ++ k ∷ []) = ap (both r) ti ∙ back_ends k xs e r e_is ri in
        subst (λ (z : List Node). IsChained (set ends l (both r t)) z (set lists l (xs ++ k ∷ []))) (sym same)
        (subst (λ (z : Ends). IsChained (set ends l z) backed (set lists l (xs ++ k ∷ []))) (sym ends_are) (IsChained-edit ends nodes lists h backed l ll (xs ++ k ∷ []) k back_edit))
