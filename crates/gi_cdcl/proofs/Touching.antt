-- Marks on places, one more and one less.
use Rattle.std.proofs.Common.{◌≡◌, ℕ, zero, suc, ◌+◌, ◌<◌, ◌≤◌, Bool, true, false, nat_lt, List, [], ◌∷◌, ◌++◌, length, get_or, set, sym, ap, ◌∙◌, subst, arith, inl, inr, length-set, length-append, get_or-set_same, get_or-set_other}
use Rattle.std.specs.List.{Contains}
use Rattle.std.proofs.lemmas.Bool.{cases_eq, cases_Bool, false≢true, lt-ltb}
use Rattle.std.proofs.lemmas.List.Elements.{Contains-append_left, Contains-push, Contains-push_cases}
use Rattle.gi_cdcl.specs.Marks.{marked}
use Rattle.gi_cdcl.specs.Touched.{IsTouched, IsBlank}
use Rattle.gi_cdcl.proofs.Lists.{Contains-nil}
use Rattle.gi_cdcl.proofs.Counts.{marked-le, marked-set, marked_blank}

pub touched_none : (flags : List Bool) (capacity : ℕ) → IsBlank flags → length flags ≤ capacity → length flags ≤ 4294967295 → IsTouched flags [] capacity
touched_none flags capacity b le few = record {
  all = λ k e. absurd (false≢true (sym (b k) ∙ e));
  only = λ k c. absurd (Contains-nil k c);
  count = sym (marked_blank flags b (length flags));
  room = le;
  few = few;
}

pub flag_within : (bs : List Bool) (k : ℕ) → get_or bs k false ≡ true → k < length bs
flag_within [] k e = absurd (false≢true e)
flag_within (b ∷ bs) zero e = omega arith
flag_within (b ∷ bs) (suc k) e = omega (arith, flag_within bs k e)

module _ (flags : List Bool) (touched : List ℕ) (capacity p : ℕ) (h : IsTouched flags touched capacity) (lt : p < length flags) (free : get_or flags p false ≡ false) where
  one_more : marked (length flags) (set flags p true) ≡ marked (length flags) flags + 1
  one_more = let n : nat_lt p (length flags) ≡ true = lt-ltb p (length flags) lt in rw n at (marked-set (length flags) flags p lt free)

  pub touched_room : length touched < capacity
  touched_room = let r = h.room in omega (arith, one_more, h.count, r, marked-le (length flags) (set flags p true))

  pub touched_set : IsTouched (set flags p true) (touched ++ p ∷ []) capacity
  touched_set = record {
    all = λ k e. elim (cases_eq k p) [
      | inl same ↦ subst (Contains (touched ++ p ∷ [])) (sym same) (Contains-push touched p)
      | inr other ↦ Contains-append_left touched (p ∷ []) k (h.all k (sym (get_or-set_other flags p k true false other) ∙ e))
    ];
    only = λ k c. elim (cases_eq k p) [
      | inl same ↦ rw same (get_or-set_same flags p true false lt)
      | inr other ↦ elim (Contains-push_cases touched p k c) [
        | inl old ↦ get_or-set_other flags p k true false other ∙ h.only k old
        | inr e ↦ absurd (other (sym e))
      ]
    ];
    count = rw (length-set flags p true) (omega (arith, one_more, h.count, length-append touched (p ∷ [])));
    room = rw (length-set flags p true) h.room;
    few = rw (length-set flags p true) h.few;
  }

-- marks were taken away, so far those of these places
pub record IsLess (old new : List Bool) (gone : List ℕ) : Type 0 where
  pub len : length new ≡ length old
  pub keeps : (k : ℕ) → get_or new k false ≡ true → get_or old k false ≡ true
  pub gone_are : (k : ℕ) → Contains gone k → get_or new k false ≡ false

pub less_none : (old : List Bool) → IsLess old old []
less_none old = record { len = λ i. length old; keeps = λ k e. e; gone_are = λ k c. absurd (Contains-nil k c) }

pub less_one : (old new : List Bool) (gone : List ℕ) (p : ℕ) → IsLess old new gone → p < length new → IsLess old (set new p false) (gone ++ p ∷ [])
less_one old new gone p h lt = record {
  len = length-set new p false ∙ h.len;
  keeps = λ k e. elim (cases_eq k p) [
    | inl same ↦ absurd (false≢true (sym (get_or-set_same new p false false lt) ∙ ap (λ n. get_or (set new p false) n false) (sym same) ∙ e))
    | inr other ↦ h.keeps k (sym (get_or-set_other new p k false false other) ∙ e)
  ];
  gone_are = λ k c. elim (cases_eq k p) [
    | inl same ↦ rw same (get_or-set_same new p false false lt)
    | inr other ↦ elim (Contains-push_cases gone p k c) [ inl old' ↦ get_or-set_other new p k false false other ∙ h.gone_are k old' | inr e ↦ absurd (other (sym e)) ]
  ];
}

pub less_all : (old new : List Bool) (touched : List ℕ) → IsLess old new touched → ((k : ℕ) → get_or old k false ≡ true → Contains touched k) → IsBlank new
less_all old new touched h all k = elim (cases_Bool (get_or new k false)) [ inl up ↦ absurd (false≢true (sym (h.gone_are k (all k (h.keeps k up))) ∙ up)) | inr down ↦ down ]
