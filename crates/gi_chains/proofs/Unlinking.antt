use Rattle.std.proofs.Common.{◌≡◌, ◌≢◌, ℕ, zero, suc, ◌+◌, ◌-◌, ◌<◌, ◌≤◌, Option, Some, None, List, [], ◌∷◌, length, get_or, set, refl, sym, ap, ◌∙◌, subst, arith, ◌⊎◌, inl, inr, length-set, get_or-set_other, get_or-set_same, add-one}
use Rattle.std.specs.List.{slice_get, remove}
use Rattle.std.proofs.lemmas.Bool.{cases_lt, cases_eq}
use Rattle.std.proofs.lemmas.Option.{slice_get_past, slice_get_within, get_or_from_slice_get}
use Rattle.std.proofs.lemmas.List.{get_or_read, get_or_default}
use Rattle.std.proofs.lemmas.List.Edits.{length-remove, get_or-remove_below, get_or-remove_above}
use Rattle.gi_chains.specs.Lists.{items_at, StandsAt, IsLinked}
use Rattle.gi_chains.specs.Links.{blank, no_ends, node_at, with_prev, with_next, before, node_in, ends_of, IsChained}
use Rattle.gi_chains.specs.declared.node.Node.{Node}
use Rattle.gi_chains.specs.declared.node.Ends.{Ends}
use Rattle.gi_chains.proofs.Linking.{slice_get_at, one_place}
use Rattle.gi_chains.specs.Words.{kept_if_some}
use Rattle.std.specs.Option.{IfSome}
use Rattle.gi_chains.proofs.Editing.{IsChained-edit, prev_other, prev_same, next_other, next_same, length-with_prev, length-with_next, IsEdit}

pub slice_get-remove_below : (xs : List ℕ) (i j : ℕ) → j < i → i < length xs → slice_get (remove xs i) j ≡ slice_get xs j
slice_get-remove_below [] i j lt il = absurd (omega arith)
slice_get-remove_below (x ∷ xs) zero j lt il = absurd (omega arith)
slice_get-remove_below (x ∷ xs) (suc i) zero lt il = refl
slice_get-remove_below (x ∷ xs) (suc i) (suc j) lt il = slice_get-remove_below xs i j (omega arith) (omega arith)

pub slice_get-remove_above : (xs : List ℕ) (i j : ℕ) → i ≤ j → i < length xs → slice_get (remove xs i) j ≡ slice_get xs (suc j)
slice_get-remove_above [] i j le il = absurd (omega arith)
slice_get-remove_above (x ∷ xs) zero j le il = refl
slice_get-remove_above (x ∷ xs) (suc i) zero le il = absurd (omega arith)
slice_get-remove_above (x ∷ xs) (suc i) (suc j) le il = slice_get-remove_above xs i j (omega arith) (omega arith)

before-remove_below : (xs : List ℕ) (i j : ℕ) → j ≤ i → i < length xs → before (remove xs i) j ≡ before xs j
before-remove_below xs i zero le il = refl
before-remove_below xs i (suc j) le il = slice_get-remove_below xs i j (omega arith) il

before-remove_above : (xs : List ℕ) (i j : ℕ) → i < j → i < length xs → before (remove xs i) j ≡ slice_get xs j
before-remove_above xs i zero lt il = absurd (omega arith)
before-remove_above xs i (suc j) lt il = slice_get-remove_above xs i j (omega arith) il

before_is : (xs : List ℕ) (i q : ℕ) → before xs i ≡ Some q → (p : ℕ) × (suc p ≡ i) × (slice_get xs p ≡ Some q)
before_is xs zero q e = absurd (let f : None ≡ Some q = e in cc)
before_is xs (suc i) q e = (i, refl, e)

before_at : (xs : List ℕ) (i p : ℕ) → suc p ≡ i → before xs i ≡ slice_get xs p
before_at xs i p e = ap (before xs) (sym e)

first_kept : (xs : List ℕ) (i : ℕ) → i < length xs → kept_if_some (before xs i) (slice_get xs 0) (slice_get xs (suc i)) ≡ slice_get (remove xs i) 0
first_kept xs zero il = sym (slice_get-remove_above xs zero zero (omega arith) il)
first_kept xs (suc i) il = ap (λ o. kept_if_some o (slice_get xs 0) (slice_get xs (suc (suc i)))) (slice_get_at xs i (omega arith)) ∙ sym (slice_get-remove_below xs (suc i) zero (omega arith) il)

last_kept : (xs : List ℕ) (i : ℕ) → i < length xs → kept_if_some (slice_get xs (suc i)) (slice_get xs (length xs - 1)) (before xs i) ≡ slice_get (remove xs i) (length (remove xs i) - 1)
last_kept xs i il = elim (cases_lt (suc i) (length xs)) [
  | inl lt ↦
      let len = length-remove xs i il in
      ap (λ o. kept_if_some o (slice_get xs (length xs - 1)) (before xs i)) (slice_get_at xs (suc i) lt)
      ∙ ap (slice_get xs) (let e : length xs - 1 ≡ suc (length (remove xs i) - 1) = omega arith in e)
      ∙ sym (slice_get-remove_above xs i (length (remove xs i) - 1) (omega arith) il)
  | inr ge ↦ ap (λ o. kept_if_some o (slice_get xs (length xs - 1)) (before xs i)) (slice_get_past xs (suc i) ge) ∙ end i il ge
]
  where
    end : (i : ℕ) → i < length xs → length xs ≤ suc i → before xs i ≡ slice_get (remove xs i) (length (remove xs i) - 1)
    end zero il ge = let len = length-remove xs zero il in sym (slice_get_past (remove xs zero) (length (remove xs zero) - 1) (omega arith))
    end (suc i) il ge =
        let len = length-remove xs (suc i) il in
        sym (slice_get-remove_below xs (suc i) i (omega arith) il) ∙ ap (slice_get (remove xs (suc i))) (let e : i ≡ length (remove xs (suc i)) - 1 = omega arith in e)

module _ (ends : List Ends) (nodes : List Node) (lists : List (List ℕ)) (h : IsChained ends nodes lists) (l i k : ℕ) (s : StandsAt lists l i k) where
  abbrev xs : List ℕ
  xs = items_at lists l

  abbrev pub shut : List Node
  shut = with_prev (with_next nodes (before xs i) (slice_get xs (suc i))) (slice_get xs (suc i)) (before xs i)

  abbrev pub unlinked : List Node
  unlinked = set shut k blank

  il : i < length xs
  il = s.place

  stands : (j : ℕ) → j < length xs → StandsAt lists l j (get_or xs j 0)
  stands j lt = record { list = s.list; place = lt; item = refl }

  stands_at : (j q : ℕ) → slice_get xs j ≡ Some q → StandsAt lists l j q
  stands_at j q e = record { list = s.list; place = slice_get_within xs j q e; item = get_or_from_slice_get xs j q 0 e }

  in_l : (j q : ℕ) → slice_get xs j ≡ Some q → (node_at nodes q).list ≡ Some l
  in_l j q e = ap (λ (n : Node). n.list) (h.linked l j q (stands_at j q e))

  kl : k < length nodes
  kl = h.within l i k s

  -- the node at another place
  module _ (j : ℕ) (jl : j < length xs) (other : j ≢ i) where
    abbrev q : ℕ
    q = get_or xs j 0

    not_k : q ≢ k
    not_k e = other (one_place ends nodes lists h l j i k (record { list = s.list; place = jl; item = e }) s)

    not_next : j ≢ suc i → slice_get xs (suc i) ≢ Some q
    not_next n e = n (sym (one_place ends nodes lists h l (suc i) j q (stands_at (suc i) q e) (stands j jl)))

    not_prev : suc j ≢ i → before xs i ≢ Some q
    not_prev n e = let p = before_is xs i q e in n (ap suc (sym (one_place ends nodes lists h l p.0 j q (stands_at p.0 q p.2) (stands j jl))) ∙ p.1)

    in_range : (o n : Option ℕ) → q < length (with_next nodes o n)
    in_range o n = subst (λ (z : ℕ). q < z) (sym (length-with_next nodes o n)) (h.within l j q (stands j jl))

    last' : node_at unlinked q ≡ node_at shut q
    last' = get_or-set_other shut k q blank blank not_k

    far : j ≢ suc i → suc j ≢ i → node_at unlinked q ≡ node_in l xs j
    far n p = last' ∙ prev_other _ _ _ q (not_next n) ∙ next_other nodes _ _ q (not_prev p) ∙ h.linked l j q (stands j jl)

    just_before : suc j ≡ i → node_at unlinked q ≡ record (node_in l xs j) { next = slice_get xs (suc i) }
    just_before e =
        let b : before xs i ≡ Some q = before_at xs i j e ∙ slice_get_at xs j jl in
        last'
        ∙ prev_other _ _ _ q (not_next (λ g. omega arith))
        ∙ ap (λ o. node_at (with_next nodes o (slice_get xs (suc i))) q) b
        ∙ next_same nodes (slice_get xs (suc i)) q (h.within l j q (stands j jl))
        ∙ ap (λ (n : Node). record n { next = slice_get xs (suc i) }) (h.linked l j q (stands j jl))

    just_behind : j ≡ suc i → node_at unlinked q ≡ record (node_in l xs j) { prev = before xs i }
    just_behind e =
        let b : slice_get xs (suc i) ≡ Some q = ap (slice_get xs) (sym e) ∙ slice_get_at xs j jl in
        last'
        ∙ ap (λ o. node_at (with_prev (with_next nodes (before xs i) (slice_get xs (suc i))) o (before xs i)) q) b
        ∙ prev_same (with_next nodes (before xs i) (slice_get xs (suc i))) (before xs i) q (in_range _ _)
        ∙ ap (λ (n : Node). record n { prev = before xs i }) (next_other nodes _ _ q (not_prev (λ g. omega arith)) ∙ h.linked l j q (stands j jl))

  abbrev made : Option ℕ → Option ℕ → Node
  made a b = record { list = Some l; prev = a; next = b }

  node_same : (a b c d : Option ℕ) → a ≡ c → b ≡ d → made a b ≡ made c d
  node_same a b c d e g = ap (λ o. made o b) e ∙ ap (λ o. made c o) g

  inside : (j : ℕ) → j < length (remove xs i) → node_at unlinked (get_or (remove xs i) j 0) ≡ node_in l (remove xs i) j
  inside j lt = elim (cases_lt j i) [
    | inl below ↦
        let jl : j < length xs = omega (arith, il) in
        let ne : j ≢ i = omega arith in
        let at : get_or (remove xs i) j 0 ≡ get_or xs j 0 = get_or-remove_below xs i 0 j below il in
        elim (cases_eq (suc j) i) [
          | inl e ↦
              ap (node_at unlinked) at
              ∙ just_before j jl ne e
              ∙ node_same _ _ _ _ (sym (before-remove_below xs i j (omega arith) il)) (sym (slice_get-remove_above xs i (suc j) (omega arith) il ∙ ap (λ z. slice_get xs (suc z)) e))
          | inr n ↦
              ap (node_at unlinked) at
              ∙ far j jl ne (omega arith) n
              ∙ node_same _ _ _ _ (sym (before-remove_below xs i j (omega arith) il)) (sym (slice_get-remove_below xs i (suc j) (omega arith) il))
        ]
    | inr above ↦
        let len = length-remove xs i il in
        let jl : suc j < length xs = omega arith in
        let ne : suc j ≢ i = omega arith in
        let at : get_or (remove xs i) j 0 ≡ get_or xs (suc j) 0 = get_or-remove_above xs i 0 j above il ∙ ap (λ z. get_or xs z 0) (add-one j) in
        elim (cases_eq j i) [
          | inl e ↦
              ap (node_at unlinked) at
              ∙ just_behind (suc j) jl ne (ap suc e)
              ∙ node_same _ _ _ _ (sym (before-remove_below xs i j (omega arith) il ∙ ap (before xs) e)) (sym (slice_get-remove_above xs i (suc j) (omega arith) il))
          | inr n ↦
              ap (node_at unlinked) at
              ∙ far (suc j) jl ne (λ g. n (omega arith)) (omega arith)
              ∙ node_same _ _ _ _ (sym (before-remove_above xs i j (omega arith) il)) (sym (slice_get-remove_above xs i (suc j) (omega arith) il))
        ]
  ]

  length-shut : length shut ≡ length nodes
  length-shut = length-with_prev (with_next nodes (before xs i) (slice_get xs (suc i))) (slice_get xs (suc i)) (before xs i) ∙ length-with_next nodes (before xs i) (slice_get xs (suc i))

  at_k : node_at unlinked k ≡ blank
  at_k = get_or-set_same shut k blank blank (subst (λ (z : ℕ). k < z) (sym length-shut) kl)

  pub unlink_edit : IsEdit nodes unlinked lists l (remove xs i) k
  unlink_edit = record {
    len = length-set shut k blank ∙ length-shut;
    exists = exists';
    inside = inside;
    outside = λ q a b. get_or-set_other shut k q blank blank b ∙ prev_other _ _ _ q (λ e. a (in_l (suc i) q e)) ∙ next_other nodes _ _ q (λ e. let p = before_is xs i q e in a (in_l p.0 q p.2));
    own = λ m e. let g : Some l ≡ Some m = ap (λ (n : Node). n.list) (sym (h.linked l i k s)) ∙ e in cc;
    left = left';
  }
    where
      exists' : (j : ℕ) → j < length (remove xs i) → get_or (remove xs i) j 0 < length nodes
      exists' j lt =
          let len = length-remove xs i il in
          elim (cases_lt j i) [
            | inl below ↦ rw (get_or-remove_below xs i 0 j below il) (h.within l j _ (stands j (omega (arith, il))))
            | inr above ↦ rw (get_or-remove_above xs i 0 j above il) (h.within l (j + 1) _ (stands (j + 1) (omega arith)))
          ]

      left' : (q : ℕ) → ((node_at nodes q).list ≡ Some l) ⊎ (q ≡ k) → ((j : ℕ) × (j < length (remove xs i)) × (get_or (remove xs i) j 0 ≡ q)) ⊎ (node_at unlinked q ≡ blank)
      left' q (inr e) = inr (ap (node_at unlinked) e ∙ at_k)
      left' q (inl a) = go p.0 p.1 (cases_lt p.0 i)
        where
          p : (j : ℕ) × StandsAt lists l j q
          p = h.home q l a

          go : (j : ℕ) → StandsAt lists l j q → (j < i) ⊎ (i ≤ j) → ((j : ℕ) × (j < length (remove xs i)) × (get_or (remove xs i) j 0 ≡ q)) ⊎ (node_at unlinked q ≡ blank)
          go j t (inl below) = let len = length-remove xs i il in inl (j, (let jl : j < length xs = t.place in omega (arith, il)), get_or-remove_below xs i 0 j below il ∙ t.item)
          go zero t (inr le) = let e : zero ≡ i = omega arith in let item : get_or xs zero 0 ≡ q = t.item in inr (ap (node_at unlinked) (sym item ∙ ap (λ z. get_or xs z 0) e ∙ s.item) ∙ at_k)
          go (suc j) t (inr le) = elim (cases_eq (suc j) i) [
            | inl e ↦ let item : get_or xs (suc j) 0 ≡ q = t.item in inr (ap (node_at unlinked) (sym item ∙ ap (λ z. get_or xs z 0) e ∙ s.item) ∙ at_k)
            | inr n ↦ let len = length-remove xs i il in inl (j, (let jl : suc j < length xs = t.place in omega arith), get_or-remove_above xs i 0 j (omega arith) il ∙ ap (λ z. get_or xs z 0) (add-one j) ∙ t.item)
          ]

  abbrev cut_ends : Node → Ends → Ends
  cut_ends n e = record { first = kept_if_some n.prev e.first n.next; last = kept_if_some n.next e.last n.prev }

  abbrev cut_nodes : Node → List Node
  cut_nodes n = with_prev (with_next nodes n.prev n.next) n.next n.prev

  -- what the code leaves
  module _ (n : Node) (ni : n ≡ get_or nodes k n) (d : Node) (m : ℕ) (mi : (get_or nodes k d).list ≡ Some m) (e : Ends) (ei : e ≡ get_or ends m e) where
    node : n ≡ node_in l xs i
    node = get_or_read nodes k n kl ni blank ∙ h.linked l i k s

    same : l ≡ m
    same =
        let list : Some l ≡ Some m = sym (ap (λ (n : Node). n.list) (get_or_default nodes k d blank kl ∙ h.linked l i k s)) ∙ mi in
        cc

    at : e ≡ ends_of xs
    at =
        let ml : m < length ends = subst (λ z. z < length ends) same (subst (λ z. l < z) h.count s.list) in
        get_or_read ends m e ml ei no_ends ∙ ap (λ z. get_or ends z no_ends) (sym same) ∙ h.each l s.list

    both : Option ℕ → Option ℕ → Ends
    both f b = record { first = f; last = b }

    pub cut_chained : (f b o p q : Option ℕ) → f ≡ kept_if_some n.prev e.first n.next → b ≡ kept_if_some n.next e.last n.prev → o ≡ None → p ≡ None → q ≡ None → (ms ns os : List Node) → ms ≡ with_next nodes n.prev n.next → ns ≡ with_prev ms n.next n.prev → os ≡ set ns k (record { list = o; prev = p; next = q }) → IsChained (set ends m (record { first = f; last = b })) os (set lists l (remove xs i))
    cut_chained f b o p q fi bi oi pi qi ms ns os msi nsi osi =
        let new : Ends = record { first = f; last = b } in
        let gone : Option ℕ → Option ℕ → Option ℕ → Node = λ o p q. record { list = o; prev = p; next = q } in
        let ends_are : new ≡ ends_of (remove xs i) =
        ap (λ o. let z : Ends = record { first = o; last = b } in z) fi
        ∙ ap (λ o. let z : Ends = record { first = kept_if_some n.prev e.first n.next; last = o } in z) bi
        ∙ ap (λ n. cut_ends n e) node
        ∙ ap (cut_ends (node_in l xs i)) at
        ∙ ap (λ o. let z : Ends = record { first = o; last = kept_if_some (slice_get xs (suc i)) (slice_get xs (length xs - 1)) (before xs i) } in z) (first_kept xs i il)
        ∙ ap (λ o. let z : Ends = record { first = slice_get (remove xs i) 0; last = o } in z) (last_kept xs i il) in
        let nodes_are : os ≡ unlinked =
        osi
        ∙ ap (λ z. set ns k (gone z p q)) oi
        ∙ ap (λ z. set ns k (gone None z q)) pi
        ∙ ap (λ z. set ns k (gone None None z)) qi
        ∙ ap (λ (z : List Node). set z k blank) (nsi ∙ ap (λ (z : List Node). with_prev z n.next n.prev) msi ∙ ap cut_nodes node) in
        subst (λ (z : ℕ). IsChained (set ends z new) os (set lists l (remove xs i))) same
        (subst (λ (z : List Node). IsChained (set ends l new) z (set lists l (remove xs i))) (sym nodes_are)
        (subst (λ (z : Ends). IsChained (set ends l z) unlinked (set lists l (remove xs i))) (sym ends_are) (IsChained-edit ends nodes lists h unlinked l s.list (remove xs i) k unlink_edit)))

some_if : (P : ℕ → Type 0) (o : Option ℕ) → ((q : ℕ) → o ≡ Some q → P q) → IfSome o P
some_if P None h = tt
some_if P (Some q) h = h q refl

module _ (ends : List Ends) (nodes : List Node) (lists : List (List ℕ)) (h : IsChained ends nodes lists) (k : ℕ) (linked : IsLinked lists k) where
  abbrev s : StandsAt lists linked.0 linked.1 k
  s = linked.2

  exists : k < length nodes
  exists = h.within linked.0 linked.1 k s

  list_is : (node_at nodes k).list ≡ Some linked.0
  list_is = ap (λ (n : Node). n.list) (h.linked linked.0 linked.1 k s)

  pub list_read : (d : Node) → (get_or nodes k d).list ≡ Some linked.0
  list_read d = ap (λ (n : Node). n.list) (get_or_default nodes k d blank exists) ∙ list_is

  pub list_exists : (d : Node) (m : ℕ) → (get_or nodes k d).list ≡ Some m → m < length ends
  list_exists d m e = let same : linked.0 ≡ m = (let f : Some linked.0 ≡ Some m = sym (list_read d) ∙ e in cc) in subst (λ (z : ℕ). z < length ends) same (subst (λ (z : ℕ). linked.0 < z) h.count s.list)

  item_exists : (i q : ℕ) → slice_get (items_at lists linked.0) i ≡ Some q → q < length nodes
  item_exists i q e = h.within linked.0 i q (record { list = s.list; place = slice_get_within (items_at lists linked.0) i q e; item = get_or_from_slice_get (items_at lists linked.0) i q 0 e })

  node_is : (n : Node) → n ≡ get_or nodes k n → n ≡ node_in linked.0 (items_at lists linked.0) linked.1
  node_is n r = get_or_read nodes k n exists r blank ∙ h.linked linked.0 linked.1 k s

  pub prev_exists : (n : Node) → n ≡ get_or nodes k n → IfSome n.prev (λ q. q < length nodes)
  prev_exists n r = some_if (λ q. q < length nodes) n.prev (λ q e.
      let b : before (items_at lists linked.0) linked.1 ≡ Some q = ap (λ (n : Node). n.prev) (sym (node_is n r)) ∙ e in
      let p = before_is (items_at lists linked.0) linked.1 q b in item_exists p.0 q p.2)

  pub next_exists : (n : Node) → n ≡ get_or nodes k n → IfSome n.next (λ q. q < length nodes)
  next_exists n r = some_if (λ q. q < length nodes) n.next (λ q e. item_exists (suc linked.1) q (ap (λ (n : Node). n.next) (sym (node_is n r)) ∙ e))

-- what is read where a node exists
pub read_at : (nodes : List Node) (k : ℕ) (n : Node) → k < length nodes → n ≡ node_at nodes k → n ≡ get_or nodes k n
read_at nodes k n lt e = e ∙ sym (get_or_default nodes k n blank lt)
