use Rattle.std.proofs.Common.{◌≡◌, ◌≢◌, ℕ, ◌<◌, Option, Some, None, List, [], length, get_or, set, refl, sym, ap, ◌∙◌, subst, ◌⊎◌, inl, inr, length-set, get_or-set_other, get_or-set_same}
use Rattle.std.proofs.lemmas.Bool.{cases_eq}
use Rattle.gi_chains.specs.Lists.{items_at, StandsAt}
use Rattle.gi_chains.specs.Links.{blank, no_ends, node_at, with_prev, with_next, node_in, ends_of, IsChained}
use Rattle.gi_chains.specs.declared.node.Node.{Node}
use Rattle.gi_chains.specs.declared.node.Ends.{Ends}

-- what a node says after a neighbor was told
pub prev_other : (nodes : List Node) (o p : Option ℕ) (q : ℕ) → o ≢ Some q → node_at (with_prev nodes o p) q ≡ node_at nodes q
prev_other nodes None p q n = refl
prev_other nodes (Some k) p q n = get_or-set_other nodes k q _ blank (λ e. n (ap Some (sym e)))

pub prev_same : (nodes : List Node) (p : Option ℕ) (q : ℕ) → q < length nodes → node_at (with_prev nodes (Some q) p) q ≡ record (node_at nodes q) { prev = p }
prev_same nodes p q lt = get_or-set_same nodes q _ blank lt

pub next_other : (nodes : List Node) (o p : Option ℕ) (q : ℕ) → o ≢ Some q → node_at (with_next nodes o p) q ≡ node_at nodes q
next_other nodes None p q n = refl
next_other nodes (Some k) p q n = get_or-set_other nodes k q _ blank (λ e. n (ap Some (sym e)))

pub next_same : (nodes : List Node) (p : Option ℕ) (q : ℕ) → q < length nodes → node_at (with_next nodes (Some q) p) q ≡ record (node_at nodes q) { next = p }
next_same nodes p q lt = get_or-set_same nodes q _ blank lt

pub length-with_prev : (nodes : List Node) (o p : Option ℕ) → length (with_prev nodes o p) ≡ length nodes
length-with_prev nodes None p = refl
length-with_prev nodes (Some k) p = length-set nodes k _

pub length-with_next : (nodes : List Node) (o p : Option ℕ) → length (with_next nodes o p) ≡ length nodes
length-with_next nodes None p = refl
length-with_next nodes (Some k) p = length-set nodes k _

-- a list with other items, and nodes that say so: k is the node that comes or goes
pub record IsEdit (nodes nodes' : List Node) (lists : List (List ℕ)) (l : ℕ) (ys : List ℕ) (k : ℕ) : Type 0 where
  pub len : length nodes' ≡ length nodes
  pub exists : (j : ℕ) → j < length ys → get_or ys j 0 < length nodes
  pub inside : (j : ℕ) → j < length ys → node_at nodes' (get_or ys j 0) ≡ node_in l ys j
  pub outside : (q : ℕ) → (node_at nodes q).list ≢ Some l → q ≢ k → node_at nodes' q ≡ node_at nodes q
  pub own : (m : ℕ) → (node_at nodes k).list ≡ Some m → m ≡ l
  pub left : (q : ℕ) → ((node_at nodes q).list ≡ Some l) ⊎ (q ≡ k) → ((j : ℕ) × (j < length ys) × (get_or ys j 0 ≡ q)) ⊎ (node_at nodes' q ≡ blank)

some_differs : (a b : ℕ) → a ≢ b → Some a ≢ Some b
some_differs a b n e = let f : a ≡ b = cc in n f

none_differs : (a : ℕ) → None ≢ Some a
none_differs a e = cc

-- which list a node is in
pub in_list : (o : Option ℕ) (l : ℕ) → (o ≡ Some l) ⊎ (o ≢ Some l)
in_list None l = inr (none_differs l)
in_list (Some m) l = elim (cases_eq m l) [ inl e ↦ inl (ap Some e) | inr n ↦ inr (some_differs m l n) ]

module _ (ends : List Ends) (nodes : List Node) (lists : List (List ℕ)) (h : IsChained ends nodes lists) (nodes' : List Node) (l : ℕ) (ll : l < length lists) (ys : List ℕ) (k : ℕ) (e : IsEdit nodes nodes' lists l ys k) where
  items_same : items_at (set lists l ys) l ≡ ys
  items_same = get_or-set_same lists l ys [] ll

  items_other : (m : ℕ) → m ≢ l → items_at (set lists l ys) m ≡ items_at lists m
  items_other m n = get_or-set_other lists l m ys [] n

  old_place : (m i q : ℕ) → m ≢ l → StandsAt (set lists l ys) m i q → StandsAt lists m i q
  old_place m i q n s = record {
    list = subst (λ (z : ℕ). m < z) (length-set lists l ys) s.list;
    place = subst (λ (xs : List ℕ). i < length xs) (items_other m n) s.place;
    item = subst (λ (xs : List ℕ). get_or xs i 0 ≡ q) (items_other m n) s.item;
  }

  new_place : (m i q : ℕ) → m ≢ l → StandsAt lists m i q → StandsAt (set lists l ys) m i q
  new_place m i q n s = record {
    list = subst (λ (z : ℕ). m < z) (sym (length-set lists l ys)) s.list;
    place = subst (λ (xs : List ℕ). i < length xs) (sym (items_other m n)) s.place;
    item = subst (λ (xs : List ℕ). get_or xs i 0 ≡ q) (sym (items_other m n)) s.item;
  }

  here : (j : ℕ) → j < length ys → StandsAt (set lists l ys) l j (get_or ys j 0)
  here j lt = record {
    list = subst (λ (z : ℕ). l < z) (sym (length-set lists l ys)) ll;
    place = subst (λ (xs : List ℕ). j < length xs) (sym items_same) lt;
    item = ap (λ xs. get_or xs j 0) items_same;
  }

  -- a node of another list stays as it is
  stays : (m i q : ℕ) → m ≢ l → StandsAt lists m i q → node_at nodes' q ≡ node_at nodes q
  stays m i q n s =
      let f : (node_at nodes q).list ≡ Some m = ap (λ (n : Node). n.list) (h.linked m i q s) in
      e.outside q (λ g. some_differs m l n (sym f ∙ g)) (λ g. n (e.own m (subst (λ (z : ℕ). (node_at nodes z).list ≡ Some m) g f)))

  linked' : (m i q : ℕ) → StandsAt (set lists l ys) m i q → (q < length nodes') × (node_at nodes' q ≡ node_in m (items_at (set lists l ys) m) i)
  linked' m i q s = elim (cases_eq m l) [
    | inl same ↦
        let it : items_at (set lists l ys) m ≡ ys = ap (items_at (set lists l ys)) same ∙ items_same in
        let lt : i < length ys = subst (λ (xs : List ℕ). i < length xs) it s.place in
        let at : get_or ys i 0 ≡ q = subst (λ (xs : List ℕ). get_or xs i 0 ≡ q) it s.item in (
          subst (λ (z : ℕ). q < z) (sym e.len) (subst (λ (z : ℕ). z < length nodes) at (e.exists i lt)),
          sym (ap (node_at nodes') at) ∙ e.inside i lt ∙ ap (λ z. node_in z ys i) (sym same) ∙ ap (λ xs. node_in m xs i) (sym it),
        )
    | inr other ↦
        let old = old_place m i q other s in (
          subst (λ (z : ℕ). q < z) (sym e.len) (h.within m i q old),
          stays m i q other old ∙ h.linked m i q old ∙ ap (λ xs. node_in m xs i) (sym (items_other m other)),
        )
  ]

  home' : (q m : ℕ) → (node_at nodes' q).list ≡ Some m → (i : ℕ) × StandsAt (set lists l ys) m i q
  home' q m f = go (in_list (node_at nodes q).list l) (cases_eq q k)
    where
      mine : ((j : ℕ) × (j < length ys) × (get_or ys j 0 ≡ q)) ⊎ (node_at nodes' q ≡ blank) → (i : ℕ) × StandsAt (set lists l ys) m i q
      mine (inl p) =
          let g : Some l ≡ Some m = sym (ap (λ (n : Node). n.list) (e.inside p.0 p.1)) ∙ ap (λ z. (node_at nodes' z).list) p.2 ∙ f in
          let same : l ≡ m = cc in
          (p.0, subst (λ (z : ℕ). StandsAt (set lists l ys) z p.0 q) same (subst (λ (z : ℕ). StandsAt (set lists l ys) l p.0 z) p.2 (here p.0 p.1)))
      mine (inr b) = absurd (none_differs m (sym (ap (λ (n : Node). n.list) b) ∙ f))

      go : ((node_at nodes q).list ≡ Some l) ⊎ ((node_at nodes q).list ≢ Some l) → (q ≡ k) ⊎ (q ≡ k → ⊥) → (i : ℕ) × StandsAt (set lists l ys) m i q
      go (inl a) b = mine (e.left q (inl a))
      go (inr a) (inl b) = mine (e.left q (inr b))
      go (inr a) (inr b) =
          let g : (node_at nodes q).list ≡ Some m = sym (ap (λ (n : Node). n.list) (e.outside q a b)) ∙ f in
          let p = h.home q m g in
          (p.0, new_place m p.0 q (λ s. a (g ∙ ap Some s)) p.1)

  free' : (q : ℕ) → (node_at nodes' q).list ≡ None → node_at nodes' q ≡ blank
  free' q f = go (in_list (node_at nodes q).list l) (cases_eq q k)
    where
      mine : ((j : ℕ) × (j < length ys) × (get_or ys j 0 ≡ q)) ⊎ (node_at nodes' q ≡ blank) → node_at nodes' q ≡ blank
      mine (inl p) = absurd (none_differs l (sym f ∙ ap (λ z. (node_at nodes' z).list) (sym p.2) ∙ ap (λ (n : Node). n.list) (e.inside p.0 p.1)))
      mine (inr b) = b

      go : ((node_at nodes q).list ≡ Some l) ⊎ ((node_at nodes q).list ≢ Some l) → (q ≡ k) ⊎ (q ≡ k → ⊥) → node_at nodes' q ≡ blank
      go (inl a) b = mine (e.left q (inl a))
      go (inr a) (inl b) = mine (e.left q (inr b))
      go (inr a) (inr b) = let o = e.outside q a b in o ∙ h.free q (sym (ap (λ (n : Node). n.list) o) ∙ f)

  each' : (m : ℕ) → m < length (set lists l ys) → get_or (set ends l (ends_of ys)) m no_ends ≡ ends_of (items_at (set lists l ys) m)
  each' m ml = elim (cases_eq m l) [
    | inl same ↦
        let le : l < length ends = subst (λ (z : ℕ). l < z) h.count ll in
        subst (λ (z : ℕ). get_or (set ends l (ends_of ys)) z no_ends ≡ ends_of (items_at (set lists l ys) z)) (sym same) (get_or-set_same ends l (ends_of ys) no_ends le ∙ ap ends_of (sym items_same))
    | inr other ↦ get_or-set_other ends l m (ends_of ys) no_ends other ∙ h.each m (subst (λ (z : ℕ). m < z) (length-set lists l ys) ml) ∙ ap ends_of (sym (items_other m other))
  ]

  pub IsChained-edit : IsChained (set ends l (ends_of ys)) nodes' (set lists l ys)
  IsChained-edit = record {
    count = length-set lists l ys ∙ h.count ∙ sym (length-set ends l (ends_of ys));
    each = each';
    within = λ m i q s. (linked' m i q s).0;
    linked = λ m i q s. (linked' m i q s).1;
    home = home';
    free = free';
  }
