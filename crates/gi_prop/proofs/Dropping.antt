use Rattle.std.proofs.Common.{◌≡◌, ◌≢◌, ℕ, zero, suc, ◌+◌, ◌<◌, ◌≤◌, Option, None, List, [], length, get_or, set, sym, ap, ◌∙◌, subst, arith, ◌⊎◌, inl, inr, length-set, get_or-set_other, get_or-set_same, add-one}
use Rattle.std.specs.List.{remove}
use Rattle.std.proofs.lemmas.Bool.{cases_lt, cases_eq}
use Rattle.std.proofs.lemmas.List.Edits.{length-remove, get_or-remove_below, get_or-remove_above}
use Rattle.gi_store.specs.StoreView.{StoreView}
use Rattle.gi_chains.specs.Lists.{Lists, items_at, StandsAt, IsApart, with_list}
use Rattle.gi_prop.specs.TrailView.{TrailView}
use Rattle.gi_prop.specs.Attached.{Attached, Goes, KeepsWatches}
use Rattle.gi_prop.specs.Watched.{IsIn}
use Rattle.gi_prop.specs.Watching.{AreLinked, AreKept}
use Rattle.gi_prop.proofs.Keys.{keyed_chains, goes_keyed, goes_by}
use Rattle.gi_prop.proofs.Slots.{attached_at, attached_by, numbered_unset, slot_stays, slot_from}

-- the node stands nowhere any more, and the others stand where they stood
pub record IsDropped (old new : Lists) (node : ℕ) : Type 0 where
  pub others : (l k : ℕ) → k ≢ node → IsIn old l k → IsIn new l k
  pub came : (l k : ℕ) → IsIn new l k → (k ≢ node) × IsIn old l k
  pub lists : length new.lists ≡ length old.lists
  pub words : (k : ℕ) → get_or new.words k 0 ≡ get_or old.words k 0
  pub apart : IsApart new

-- a node goes from place i of list f
module _ (lists : List (List ℕ)) (n : ℕ) (words : List ℕ) (apart : IsApart (record { lists = lists; nodes = n; words = words })) (f i k : ℕ) (s : StandsAt lists f i k) where
  abbrev xs : List ℕ
  xs = items_at lists f

  abbrev cut : List (List ℕ)
  cut = set lists f (remove (items_at lists f) i)

  items_cut : items_at cut f ≡ remove xs i
  items_cut = get_or-set_same lists f _ [] s.list

  other_cut : (a : ℕ) → a ≢ f → items_at cut a ≡ items_at lists a
  other_cut a nf = get_or-set_other lists f a _ [] nf

  placed : (a j q : ℕ) (ys : List ℕ) → a < length lists → items_at cut a ≡ ys → j < length ys → get_or ys j 0 ≡ q → StandsAt cut a j q
  placed a j q ys al e jl at = record {
    list = subst (λ (z : ℕ). a < z) (sym (length-set lists f (remove (items_at lists f) i))) al;
    place = subst (λ (z : List ℕ). j < length z) (sym e) jl;
    item = ap (λ z. get_or z j 0) e ∙ at;
  }

  here : (j q : ℕ) → q ≢ k → StandsAt lists f j q → (j < i) ⊎ (i ≤ j) → (p : ℕ) × StandsAt cut f p q
  here j q ne t (inl below) = let len = length-remove xs i s.place in let jl : j < length xs = t.place in let il : i < length xs = s.place in (j, placed f j q (remove xs i) s.list items_cut (omega arith) (get_or-remove_below xs i 0 j below s.place ∙ t.item))
  here zero q ne t (inr le) = let e : zero ≡ i = omega arith in absurd (ne (sym t.item ∙ ap (λ z. get_or xs z 0) e ∙ s.item))
  here (suc j) q ne t (inr le) = elim (cases_eq (suc j) i) [
    | inl e ↦ absurd (ne (sym t.item ∙ ap (λ z. get_or xs z 0) e ∙ s.item))
    | inr m ↦ let len = length-remove xs i s.place in let jl : suc j < length xs = t.place in (j, placed f j q (remove xs i) s.list items_cut (omega arith) (get_or-remove_above xs i 0 j (omega arith) s.place ∙ ap (λ z. get_or xs z 0) (add-one j) ∙ t.item))
  ]

  cut_stays : (a j q : ℕ) → q ≢ k → StandsAt lists a j q → (p : ℕ) × StandsAt cut a p q
  cut_stays a j q ne t = elim (cases_eq a f) [
    | inl e ↦ let r = here j q ne (subst (λ (z : ℕ). StandsAt lists z j q) e t) (cases_lt j i) in (r.0, subst (λ (z : ℕ). StandsAt cut z r.0 q) (sym e) r.1)
    | inr nf ↦ (j, placed a j q (items_at lists a) t.list (other_cut a nf) t.place t.item)
  ]

  not_k : (b p q : ℕ) → StandsAt lists b p q → (b ≢ f) ⊎ (p ≢ i) → q ≢ k
  not_k b p q u (inl m) e = m (apart.same_list b p f i k (subst (λ (z : ℕ). StandsAt lists b p z) e u) s)
  not_k b p q u (inr m) e = m (apart.same_place b p f i k (subst (λ (z : ℕ). StandsAt lists b p z) e u) s)

  in_f : (j q : ℕ) → StandsAt cut f j q → (q ≢ k) × ((p : ℕ) × StandsAt lists f p q)
  in_f j q u =
      let jl : j < length (remove xs i) = subst (λ (z : List ℕ). j < length z) items_cut u.place in
      let at : get_or (remove xs i) j 0 ≡ q = sym (ap (λ z. get_or z j 0) items_cut) ∙ u.item in
      let len = length-remove xs i s.place in
      elim (cases_lt j i) [
        | inl below ↦
            let old : StandsAt lists f j q = record { list = s.list; place = omega arith; item = sym (get_or-remove_below xs i 0 j below s.place) ∙ at } in
            (not_k f j q old (inr (omega arith)), (j, old))
        | inr above ↦
            let old : StandsAt lists f (j + 1) q = record { list = s.list; place = omega arith; item = sym (get_or-remove_above xs i 0 j above s.place) ∙ at } in
            (not_k f (j + 1) q old (inr (omega arith)), (j + 1, old))
      ]

  cut_came : (a j q : ℕ) → StandsAt cut a j q → (q ≢ k) × ((p : ℕ) × StandsAt lists a p q)
  cut_came a j q t = elim (cases_eq a f) [
    | inl e ↦ let r = in_f j q (subst (λ (z : ℕ). StandsAt cut z j q) e t) in (r.0, (r.1.0, subst (λ (z : ℕ). StandsAt lists z r.1.0 q) (sym e) r.1.1))
    | inr nf ↦
        let old : StandsAt lists a j q = record {
          list = subst (λ (z : ℕ). a < z) (length-set lists f (remove (items_at lists f) i)) t.list;
          place = subst (λ (z : List ℕ). j < length z) (other_cut a nf) t.place;
          item = sym (ap (λ z. get_or z j 0) (other_cut a nf)) ∙ t.item;
        } in
        (not_k a j q old (inl nf), (j, old))
  ]

pub dropped_is : (old now : Lists) (f node : ℕ) → IsApart old → IsIn old f node → ((l i : ℕ) → StandsAt old.lists l i node → now ≡ with_list old l (remove (items_at old.lists l) i)) → IsApart now → IsDropped old now node
dropped_is old now f node apart h after apart' = record {
  others = λ l k ne x. let r = cut_stays old.lists old.nodes old.words apart f h.place node h.stands l x.place k ne x.stands in record { place = r.0; stands = subst (λ (z : Lists). StandsAt z.lists l r.0 k) (sym e) r.1 };
  came = λ l k x. let r = cut_came old.lists old.nodes old.words apart f h.place node h.stands l x.place k (subst (λ (z : Lists). StandsAt z.lists l x.place k) e x.stands) in (r.0, record { place = r.1.0; stands = r.1.1 });
  lists = ap (λ (z : Lists). length z.lists) e ∙ length-set old.lists f (remove (items_at old.lists f) h.place);
  words = λ k. ap (λ (z : Lists). get_or z.words k 0) e;
  apart = apart';
}
  where
    e : now ≡ with_list old f (remove (items_at old.lists f) h.place)
    e = after f h.place h.stands

linked_drop : (slots : List (Option ℕ)) (a b : Lists) (key : ℕ) → key < length slots → IsDropped a b key → AreLinked slots a → AreLinked (set slots key None) b
linked_drop slots a b key lt d l = record {
  linked = λ k h. let f = slot_from slots key lt k h in let r = l.linked k f.1 in (r.0, d.others r.0 k f.0 r.1);
  attached = λ k list h. let r = d.came list k h in slot_stays slots key lt k r.0 ∙ l.attached k list r.1;
  apart = d.apart;
}

pub kept_drop : (slots : List (Option ℕ)) (first second first' second' : Lists) (key : ℕ) → key < length slots → IsDropped first first' key → IsDropped second second' key → AreKept slots first second → AreKept (set slots key None) first' second'
kept_drop slots first second first' second' key lt a b k = record {
  numbered = numbered_unset slots k.numbered key lt;
  first_linked = linked_drop slots first first' key lt a k.first_linked;
  second_linked = linked_drop slots second second' key lt b k.second_linked;
}

module _ (p q : Attached) (key : ℕ) (lt : key < length p.slots) (is : q.slots ≡ set p.slots key None) (a : IsDropped p.first q.first key) (b : IsDropped p.second q.second key) where
  pub goes_drop : (s : StoreView) (t : TrailView) → Goes p s t → Goes q s t
  goes_drop s t g = goes_by q s t (λ k h.
      let r = slot_from p.slots key lt k (ap (λ (xs : List (Option ℕ)). get_or xs k None) (sym is) ∙ attached_at q k h) in
      let la : length q.first.lists ≡ length p.first.lists = a.lists in
      let lb : length q.second.lists ≡ length p.second.lists = b.lists in
      keyed_chains p.first p.second q.first q.second s t t.head t.head k (omega arith) (omega arith) (λ l x. a.others l k r.0 x) (λ l x. b.others l k r.0 x) (a.words k) (b.words k) (goes_keyed p s t g k (attached_by p k r.1)))

  pub watches_drop : (k : ℕ) → k ≢ key → KeepsWatches p q k
  watches_drop k n = record {
    kept = λ u v w. record { first = a.others (u + 1) k n w.first; second = b.others (v + 1) k n w.second; first_literal = w.first_literal; second_literal = w.second_literal };
    others = λ u v w. record { first = (a.came (u + 1) k w.first).1; second = (b.came (v + 1) k w.second).1; first_literal = w.first_literal; second_literal = w.second_literal };
  }

-- the same where the node is the key's number
pub dropped_as : (old now : Lists) (f key node : ℕ) → node ≡ key → IsApart old → IsIn old f key → ((l i : ℕ) → StandsAt old.lists l i node → now ≡ with_list old l (remove (items_at old.lists l) i)) → IsApart now → IsDropped old now key
dropped_as old now f key node e apart h after apart' = dropped_is old now f key apart h (λ l i s. after l i (subst (λ (n : ℕ). StandsAt old.lists l i n) (sym e) s)) apart'
