use Rattle.std.proofs.Common.{◌≡◌, ◌≢◌, ℕ, ◌<◌, Option, Some, None, List, ◌++◌, length, get_or, set, replicate, sym, ap, ◌∙◌, subst, inl, inr, get_or-set_other, get_or-set_same}
use Rattle.std.proofs.lemmas.Bool.{cases_eq}
use Rattle.gi_prop.specs.Attached.{Attached, IsAttached, HasSameKeys, Attaches, Detaches}
use Rattle.gi_prop.specs.Watching.{AreNumbered}
use Rattle.gi_prop.proofs.Indexing.{none_more, in_range}

pub attached_at : (p : Attached) (k : ℕ) → IsAttached p k → get_or p.slots k None ≡ Some k
unfolding IsAttached
attached_at p k h = h

pub attached_by : (p : Attached) (k : ℕ) → get_or p.slots k None ≡ Some k → IsAttached p k
unfolding IsAttached
attached_by p k h = h

-- the slots alone matter
pub attached_same : (p q : Attached) (k : ℕ) → q.slots ≡ p.slots → IsAttached p k → IsAttached q k
attached_same p q k e h = attached_by q k (ap (λ (xs : List (Option ℕ)). get_or xs k None) e ∙ attached_at p k h)

pub same_keys : (p q : Attached) → q.slots ≡ p.slots → HasSameKeys p q
same_keys p q e = record { kept = λ k h. attached_same p q k e h; others = λ k h. attached_same q p k (sym e) h }

pub slot_below : (slots : List (Option ℕ)) (k : ℕ) → get_or slots k None ≡ Some k → k < length slots
slot_below slots k h = in_range slots k k h

module _ (slots : List (Option ℕ)) (n : AreNumbered slots) where
  pub numbered_more : (m : ℕ) → AreNumbered (slots ++ replicate m None)
  numbered_more m = record { each = λ i k e. n.each i k (sym (none_more slots m i) ∙ e) }

  pub numbered_set : (key : ℕ) → key < length slots → AreNumbered (set slots key (Some key))
  numbered_set key lt = record {
    each = λ i k e. elim (cases_eq i key) [
      | inl same ↦ let a : get_or (set slots key (Some key)) key None ≡ Some key = get_or-set_same slots key (Some key) None lt in let b : get_or (set slots key (Some key)) key None ≡ Some k = rw same at e in let z : k ≡ key = cc in z ∙ sym same
      | inr other ↦ n.each i k (sym (get_or-set_other slots key i (Some key) None other) ∙ e)
    ];
  }

  pub numbered_unset : (key : ℕ) → key < length slots → AreNumbered (set slots key None)
  numbered_unset key lt = record {
    each = λ i k e. elim (cases_eq i key) [
      | inl same ↦ let a : get_or (set slots key None) key None ≡ None = get_or-set_same slots key None None lt in let b : get_or (set slots key None) key None ≡ Some k = rw same at e in absurd (let z : None ≡ Some k = sym a ∙ b in cc)
      | inr other ↦ n.each i k (sym (get_or-set_other slots key i None None other) ∙ e)
    ];
  }

-- one key more in the slots, of which there may be more
module _ (slots new : List (Option ℕ)) (m key : ℕ) (lt : key < length new) (is : new ≡ slots ++ replicate m None) where
  pub slot_there : get_or (set new key (Some key)) key None ≡ Some key
  slot_there = get_or-set_same new key (Some key) None lt

  pub slot_other : (k : ℕ) → k ≢ key → get_or (set new key (Some key)) k None ≡ get_or slots k None
  slot_other k ne = get_or-set_other new key k (Some key) None ne ∙ ap (λ (xs : List (Option ℕ)). get_or xs k None) is ∙ none_more slots m k

  pub numbered_attached : AreNumbered slots → AreNumbered (set new key (Some key))
  numbered_attached n = numbered_set new (subst AreNumbered (sym is) (numbered_more slots n m)) key lt

  pub attaches : (p q : Attached) → p.slots ≡ slots → q.slots ≡ set new key (Some key) → Attaches key p q
  attaches p q ep eq = record {
    there = attached_by q key (ap (λ (xs : List (Option ℕ)). get_or xs key None) eq ∙ slot_there);
    kept = λ k h. attached_by q k (ap (λ (xs : List (Option ℕ)). get_or xs k None) eq ∙ elim (cases_eq k key) [
      | inl same ↦ rw same slot_there
      | inr other ↦ slot_other k other ∙ ap (λ (xs : List (Option ℕ)). get_or xs k None) (sym ep) ∙ attached_at p k h
    ]);
    others = λ k h. elim (cases_eq k key) [
      | inl same ↦ inl same
      | inr other ↦ inr (attached_by p k (ap (λ (xs : List (Option ℕ)). get_or xs k None) ep ∙ sym (slot_other k other) ∙ ap (λ (xs : List (Option ℕ)). get_or xs k None) (sym eq) ∙ attached_at q k h))
    ];
  }

-- one key less
module _ (slots : List (Option ℕ)) (key : ℕ) (lt : key < length slots) where
  pub slot_gone : get_or (set slots key None) key None ≡ None
  slot_gone = get_or-set_same slots key None None lt

  pub slot_stays : (k : ℕ) → k ≢ key → get_or (set slots key None) k None ≡ get_or slots k None
  slot_stays k ne = get_or-set_other slots key k None None ne

  -- what a slot has after, it had before, and isn't this key
  pub slot_from : (k : ℕ) → get_or (set slots key None) k None ≡ Some k → (k ≢ key) × (get_or slots k None ≡ Some k)
  slot_from k h = elim (cases_eq k key) [
    | inl same ↦ let b : get_or (set slots key None) key None ≡ Some k = subst (λ (j : ℕ). get_or (set slots key None) j None ≡ Some k) same h in absurd (let z : None ≡ Some k = sym slot_gone ∙ b in cc)
    | inr other ↦ (other, sym (slot_stays k other) ∙ h)
  ]

  pub detaches : (p q : Attached) → p.slots ≡ slots → q.slots ≡ set slots key None → Detaches key p q
  detaches p q ep eq = record {
    gone = λ h. let r = slot_from key (ap (λ (xs : List (Option ℕ)). get_or xs key None) (sym eq) ∙ attached_at q key h) in r.0 (let z : key ≡ key = (λ i. key) in z);
    kept = λ k ne h. attached_by q k (ap (λ (xs : List (Option ℕ)). get_or xs k None) eq ∙ slot_stays k ne ∙ ap (λ (xs : List (Option ℕ)). get_or xs k None) (sym ep) ∙ attached_at p k h);
    others = λ k h. attached_by p k (ap (λ (xs : List (Option ℕ)). get_or xs k None) ep ∙ (slot_from k (ap (λ (xs : List (Option ℕ)). get_or xs k None) (sym eq) ∙ attached_at q k h)).1);
  }
