use Rattle.std.proofs.Common.{◌≡◌, ◌≢◌, ℕ, zero, suc, ◌+◌, ◌<◌, ◌≤◌, Option, Some, None, List, [], ◌∷◌, length, get_or, set, refl, sym, ap, ◌∙◌, subst, arith, ◌⊎◌, inl, inr, length-set, get_or-set_other, get_or-set_same, add-one}
use Rattle.std.specs.List.{remove}
use Rattle.std.proofs.lemmas.Bool.{cases_lt, cases_eq}
use Rattle.std.proofs.lemmas.List.Edits.{length-remove, get_or-remove_below, get_or-remove_above}
use Rattle.gi_chains.specs.Lists.{Lists, items_at, StandsAt, IsApart}
use Rattle.gi_prop.specs.Watched.{IsIn}
use Rattle.gi_prop.specs.Watching.{moved, IsMoved, AreLinked, LeavesAside}

-- one node moves from place i of list f to the front of list m
module _ (lists : List (List ℕ)) (n : ℕ) (words : List ℕ) (apart : IsApart (record { lists = lists; nodes = n; words = words })) (f i k m : ℕ) (s : StandsAt lists f i k) (ml : m < length lists) (other : m ≢ f) where
  abbrev xs : List ℕ
  xs = items_at lists f

  abbrev cut : List (List ℕ)
  cut = set lists f (remove (items_at lists f) i)

  abbrev new : List (List ℕ)
  new = moved lists f i m k

  length-new : length new ≡ length lists
  length-new = length-set cut m _ ∙ length-set lists f _

  items_m : items_at new m ≡ k ∷ items_at lists m
  items_m = get_or-set_same cut m _ [] (subst (λ (z : ℕ). m < z) (sym (length-set lists f _)) ml) ∙ ap (λ z. k ∷ z) (get_or-set_other lists f m _ [] other)

  pub items_f : items_at new f ≡ remove (items_at lists f) i
  items_f = get_or-set_other cut m f _ [] (λ e. other (sym e)) ∙ get_or-set_same lists f _ [] s.list

  items_other : (a : ℕ) → a ≢ f → a ≢ m → items_at new a ≡ items_at lists a
  items_other a nf nm = get_or-set_other cut m a _ [] nm ∙ get_or-set_other lists f a _ [] nf

  -- from the items of a list to a place
  placed : (a j q : ℕ) (ys : List ℕ) → a < length lists → items_at new a ≡ ys → j < length ys → get_or ys j 0 ≡ q → StandsAt new a j q
  placed a j q ys al e jl at = record {
    list = subst (λ (z : ℕ). a < z) (sym length-new) al;
    place = subst (λ (z : List ℕ). j < length z) (sym e) jl;
    item = ap (λ z. get_or z j 0) e ∙ at;
  }

  pub now_there : StandsAt new m 0 k
  now_there = placed m 0 k (k ∷ items_at lists m) ml items_m (omega arith) refl

  pub stays : (a j q : ℕ) → q ≢ k → StandsAt lists a j q → (p : ℕ) × StandsAt new a p q
  stays a j q ne t = go (cases_eq a f) (cases_eq a m)
    where
      here : (j : ℕ) → StandsAt lists f j q → (j < i) ⊎ (i ≤ j) → (p : ℕ) × StandsAt new f p q
      here j t (inl below) = let len = length-remove xs i s.place in let jl : j < length xs = t.place in let il : i < length xs = s.place in (j, placed f j q (remove xs i) s.list items_f (omega arith) (get_or-remove_below xs i 0 j below s.place ∙ t.item))
      here zero t (inr le) = let e : zero ≡ i = omega arith in absurd (ne (sym t.item ∙ ap (λ z. get_or xs z 0) e ∙ s.item))
      here (suc j) t (inr le) = elim (cases_eq (suc j) i) [
        | inl e ↦ absurd (ne (sym t.item ∙ ap (λ z. get_or xs z 0) e ∙ s.item))
        | inr n ↦ let len = length-remove xs i s.place in let jl : suc j < length xs = t.place in (j, placed f j q (remove xs i) s.list items_f (omega arith) (get_or-remove_above xs i 0 j (omega arith) s.place ∙ ap (λ z. get_or xs z 0) (add-one j) ∙ t.item))
      ]

      go : (a ≡ f) ⊎ (a ≡ f → ⊥) → (a ≡ m) ⊎ (a ≡ m → ⊥) → (p : ℕ) × StandsAt new a p q
      go (inl e) b = let r = here j (subst (λ (z : ℕ). StandsAt lists z j q) e t) (cases_lt j i) in (r.0, subst (λ (z : ℕ). StandsAt new z r.0 q) (sym e) r.1)
      go (inr nf) (inl e) =
          let t' : StandsAt lists m j q = subst (λ (z : ℕ). StandsAt lists z j q) e t in
          let jl : j < length (items_at lists m) = t'.place in
          (suc j, subst (λ (z : ℕ). StandsAt new z (suc j) q) (sym e) (placed m (suc j) q (k ∷ items_at lists m) ml items_m (omega arith) t'.item))
      go (inr nf) (inr nm) = (j, placed a j q (items_at lists a) t.list (items_other a nf nm) t.place t.item)

  -- where a node was that stands somewhere now
  pub came : (a j q : ℕ) → StandsAt new a j q → ((q ≡ k) × (a ≡ m)) ⊎ ((q ≢ k) × ((p : ℕ) × StandsAt lists a p q × (a ≡ f → j < i → p ≡ j)))
  came a j q t = go (cases_eq a f) (cases_eq a m)
    where
      al : a < length lists
      al = subst (λ (z : ℕ). a < z) length-new t.list

      not_k : (b p q : ℕ) → StandsAt lists b p q → (b ≢ f) ⊎ (p ≢ i) → q ≢ k
      not_k b p q u (inl n) e = n (apart.same_list b p f i k (subst (λ (z : ℕ). StandsAt lists b p z) e u) s)
      not_k b p q u (inr n) e = n (apart.same_place b p f i k (subst (λ (z : ℕ). StandsAt lists b p z) e u) s)

      in_f : StandsAt new f j q → (q ≢ k) × ((p : ℕ) × StandsAt lists f p q × (j < i → p ≡ j))
      in_f u =
          let jl : j < length (remove xs i) = subst (λ (z : List ℕ). j < length z) items_f u.place in
          let at : get_or (remove xs i) j 0 ≡ q = sym (ap (λ z. get_or z j 0) items_f) ∙ u.item in
          let len = length-remove xs i s.place in
          elim (cases_lt j i) [
            | inl below ↦
                let old : StandsAt lists f j q = record { list = s.list; place = omega arith; item = sym (get_or-remove_below xs i 0 j below s.place) ∙ at } in
                (not_k f j q old (inr (omega arith)), (j, old, λ _. refl))
            | inr above ↦
                let old : StandsAt lists f (j + 1) q = record { list = s.list; place = omega arith; item = sym (get_or-remove_above xs i 0 j above s.place) ∙ at } in
                (not_k f (j + 1) q old (inr (omega arith)), (j + 1, old, λ b. absurd (omega arith)))
          ]

      in_m : (j : ℕ) → StandsAt new m j q → ((q ≡ k) × (m ≡ m)) ⊎ ((q ≢ k) × ((p : ℕ) × StandsAt lists m p q))
      in_m zero u = inl (sym (sym (ap (λ z. get_or z zero 0) items_m) ∙ u.item), refl)
      in_m (suc j) u =
          let jl : suc j < length (k ∷ items_at lists m) = subst (λ (z : List ℕ). suc j < length z) items_m u.place in
          let old : StandsAt lists m j q = record { list = ml; place = omega arith; item = sym (ap (λ z. get_or z (suc j) 0) items_m) ∙ u.item } in
          inr (not_k m j q old (inl other), (j, old))

      go : (a ≡ f) ⊎ (a ≡ f → ⊥) → (a ≡ m) ⊎ (a ≡ m → ⊥) → ((q ≡ k) × (a ≡ m)) ⊎ ((q ≢ k) × ((p : ℕ) × StandsAt lists a p q × (a ≡ f → j < i → p ≡ j)))
      go (inl e) b = let r = in_f (subst (λ (z : ℕ). StandsAt new z j q) e t) in inr (r.0, (r.1.0, subst (λ (z : ℕ). StandsAt lists z r.1.0 q) (sym e) r.1.1, λ _ lt. r.1.2 lt))
      go (inr nf) (inl e) = elim (in_m j (subst (λ (z : ℕ). StandsAt new z j q) e t)) [
        | inl r ↦ inl (r.0, e)
        | inr r ↦ inr (r.0, (r.1.0, subst (λ (z : ℕ). StandsAt lists z r.1.0 q) (sym e) r.1.1, λ g _. absurd (nf g)))
      ]
      go (inr nf) (inr nm) =
          let old : StandsAt lists a j q = record {
            list = al;
            place = subst (λ (z : List ℕ). j < length z) (items_other a nf nm) t.place;
            item = sym (ap (λ z. get_or z j 0) (items_other a nf nm)) ∙ t.item;
          } in
          inr (not_k a j q old (inl nf), (j, old, λ g _. absurd (nf g)))

-- the lists after a move
pub items_moved : (old now : Lists) (from i to node : ℕ) → IsApart old → StandsAt old.lists from i node → to < length old.lists → to ≢ from → IsMoved old now to node → items_at now.lists from ≡ remove (items_at old.lists from) i
items_moved old now from i to node apart s ml ne mv = ap (λ (z : List (List ℕ)). items_at z from) (mv.each from i s) ∙ items_f old.lists old.nodes old.words apart from i node to s ml ne

-- a node that is before the place was there
pub before_moved : (old now : Lists) (from i to node : ℕ) → IsApart old → StandsAt old.lists from i node → to < length old.lists → to ≢ from → IsMoved old now to node → (j k : ℕ) → j < i → StandsAt now.lists from j k → StandsAt old.lists from j k × (k ≢ node)
before_moved old now from i to node apart s ml ne mv j k jl st = elim (came old.lists old.nodes old.words apart from i node to s ml ne from j k (subst (λ (z : List (List ℕ)). StandsAt z from j k) (mv.each from i s) st)) [
  | inl r ↦ absurd (ne (sym r.1))
  | inr r ↦ (subst (λ (z : ℕ). StandsAt old.lists from z k) (r.1.2 refl jl) r.1.1, r.0)
]

module _ (old new : Lists) (from to node : ℕ) (apart : IsApart old) (here : IsIn old from node) (ml : to < length old.lists) (ne : to ≢ from) (mv : IsMoved old new to node) where
  abbrev is : new.lists ≡ moved old.lists from here.place to node
  is = mv.each from here.place here.stands

  pub moved_there : IsIn new to node
  moved_there = record { place = 0; stands = subst (λ (z : List (List ℕ)). StandsAt z to 0 node) (sym is) (now_there old.lists old.nodes old.words apart from here.place node to here.stands ml ne) }

  pub moved_stays : (list k : ℕ) → k ≢ node → IsIn old list k → IsIn new list k
  moved_stays list k n h = let r = stays old.lists old.nodes old.words apart from here.place node to here.stands ml ne list h.place k n h.stands in record { place = r.0; stands = subst (λ (z : List (List ℕ)). StandsAt z list r.0 k) (sym is) r.1 }

  pub moved_came : (list k : ℕ) → IsIn new list k → ((k ≡ node) × (list ≡ to)) ⊎ ((k ≢ node) × IsIn old list k)
  moved_came list k h = elim (came old.lists old.nodes old.words apart from here.place node to here.stands ml ne list h.place k (subst (λ (z : List (List ℕ)). StandsAt z list h.place k) is h.stands)) [
    | inl r ↦ inl r
    | inr r ↦ inr (r.0, record { place = r.1.0; stands = r.1.1 })
  ]

  pub moved_length : length new.lists ≡ length old.lists
  moved_length = ap length is ∙ length-set _ to _ ∙ length-set old.lists from _

  pub moved_linked : (slots : List (Option ℕ)) → AreLinked slots old → AreLinked slots new
  moved_linked slots l = record {
    linked = λ k h. elim (cases_eq k node) [
      | inl e ↦ (to, subst (IsIn new to) (sym e) moved_there)
      | inr n ↦ let r = l.linked k h in (r.0, moved_stays r.0 k n r.1)
    ];
    attached = λ k list h. elim (moved_came list k h) [
      | inl r ↦ subst (λ (z : ℕ). get_or slots z None ≡ Some z) (sym r.0) (l.attached node from here)
      | inr r ↦ l.attached k list r.1
    ];
    apart = mv.apart;
  }

  pub moved_aside : 3 ≤ to → LeavesAside old new
  moved_aside big = record {
    each = λ list k low h. elim (moved_came list k h) [
      | inl r ↦ absurd (omega (arith, r.1))
      | inr r ↦ r.1
    ];
  }

pub aside_same : (old : Lists) → LeavesAside old old
aside_same old = record { each = λ list k low h. h }

pub aside_on : (a b c : Lists) → LeavesAside a b → LeavesAside b c → LeavesAside a c
aside_on a b c x y = record { each = λ list k low h. x.each list k low (y.each list k low h) }

-- the lists as they were
pub in_kept : (old new : Lists) → new.lists ≡ old.lists → (list k : ℕ) → IsIn old list k → IsIn new list k
in_kept old new e list k h = record { place = h.place; stands = subst (λ (z : List (List ℕ)). StandsAt z list h.place k) (sym e) h.stands }

pub aside_kept : (a b c : Lists) → LeavesAside a b → c.lists ≡ b.lists → LeavesAside a c
aside_kept a b c x e = record { each = λ list k low h. x.each list k low (in_kept c b (sym e) list k h) }

pub linked_kept : (slots : List (Option ℕ)) (old new : Lists) → new.lists ≡ old.lists → IsApart new → AreLinked slots old → AreLinked slots new
linked_kept slots old new e apart l = record {
  linked = λ k h. let r = l.linked k h in (r.0, in_kept old new e r.0 k r.1);
  attached = λ k list h. l.attached k list (in_kept new old (sym e) list k h);
  apart = apart;
}

-- a node stands in one list
pub one_list : (c : Lists) (l m k : ℕ) → IsApart c → IsIn c l k → IsIn c m k → l ≡ m
one_list c l m k apart x y = apart.same_list l x.place m y.place k x.stands y.stands
