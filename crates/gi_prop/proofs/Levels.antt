use Rattle.std.proofs.Common.{◌≡◌, ℕ, ◌+◌, ◌<◌, ◌≤◌, List, [], ◌∷◌, ◌++◌, length, take, get_or, refl, sym, ◌∙◌, arith, inl, inr, length-append}
use Rattle.std.proofs.lemmas.Bool.{cases_lt}
use Rattle.std.proofs.lemmas.List.{get_or-take, get_or_append_left, get_or_push, length-take, length-take-le}
use Rattle.gi_prop.specs.TrailView.{AreLevels}

module _ (lits level_starts : List ℕ) (head : ℕ) (qheads : List ℕ) (h : AreLevels lits level_starts head qheads) where
  pub AreLevels-push : (l : ℕ) → AreLevels (lits ++ l ∷ []) level_starts head qheads
  AreLevels-push l = record {
    aligned = h.aligned;
    limit = h.limit;
    within = λ j jl. omega (arith, h.within j jl, length-append lits (l ∷ []));
    ordered = h.ordered;
    seen = h.seen;
    rising = h.rising;
    looked = h.looked;
    high = omega (arith, h.high, length-append lits (l ∷ []));
  }

  -- one literal more is looked at
  pub AreLevels-next : head < length lits → AreLevels lits level_starts (head + 1) qheads
  AreLevels-next lt = record {
    aligned = h.aligned;
    limit = h.limit;
    within = h.within;
    ordered = h.ordered;
    seen = h.seen;
    rising = h.rising;
    looked = λ j jl. omega (arith, h.looked j jl);
    high = omega arith;
  }

  pub AreLevels-mark : length level_starts < 4294967295 → AreLevels lits (level_starts ++ length lits ∷ []) head (qheads ++ head ∷ [])
  AreLevels-mark below = record {
    aligned = omega (arith, h.aligned, length-append level_starts (length lits ∷ []), length-append qheads (head ∷ []));
    limit = omega (arith, length-append level_starts (length lits ∷ []));
    within = within';
    ordered = ordered';
    seen = seen';
    rising = rising';
    looked = looked';
    high = h.high;
  }
    where
      old : (j : ℕ) → j < length level_starts → get_or (level_starts ++ length lits ∷ []) j 0 ≡ get_or level_starts j 0
      old j jl = get_or_append_left level_starts (length lits ∷ []) 0 j jl

      new : (j : ℕ) → length level_starts ≤ j → j < length (level_starts ++ length lits ∷ []) → get_or (level_starts ++ length lits ∷ []) j 0 ≡ length lits
      new j le jl = get_or_push level_starts (length lits) 0 j (omega (arith, length-append level_starts (length lits ∷ [])))

      old_head : (j : ℕ) → j < length level_starts → get_or (qheads ++ head ∷ []) j 0 ≡ get_or qheads j 0
      old_head j jl = get_or_append_left qheads (head ∷ []) 0 j (omega (arith, h.aligned))

      new_head : (j : ℕ) → length level_starts ≤ j → j < length (level_starts ++ length lits ∷ []) → get_or (qheads ++ head ∷ []) j 0 ≡ head
      new_head j le jl = get_or_push qheads head 0 j (omega (arith, h.aligned, length-append level_starts (length lits ∷ [])))

      within' : (j : ℕ) → j < length (level_starts ++ length lits ∷ []) → get_or (level_starts ++ length lits ∷ []) j 0 ≤ length lits
      within' j jl = elim (cases_lt j (length level_starts)) [ inl b ↦ rw (old j b) (h.within j b) | inr le ↦ rw (new j le jl) (omega arith) ]

      ordered' : (i j : ℕ) → i ≤ j → j < length (level_starts ++ length lits ∷ []) → get_or (level_starts ++ length lits ∷ []) i 0 ≤ get_or (level_starts ++ length lits ∷ []) j 0
      ordered' i j le jl = elim (cases_lt j (length level_starts)) [
        | inl b ↦ let a : i < length level_starts = omega arith in rw (old i a, old j b) (h.ordered i j le b)
        | inr high ↦ rw (new j high jl) (within' i (omega arith))
      ]

      seen' : (j : ℕ) → j < length (level_starts ++ length lits ∷ []) → get_or (qheads ++ head ∷ []) j 0 ≤ get_or (level_starts ++ length lits ∷ []) j 0
      seen' j jl = elim (cases_lt j (length level_starts)) [ inl b ↦ rw (old j b, old_head j b) (h.seen j b) | inr le ↦ rw (new j le jl, new_head j le jl) h.high ]

      looked' : (j : ℕ) → j < length (level_starts ++ length lits ∷ []) → get_or (qheads ++ head ∷ []) j 0 ≤ head
      looked' j jl = elim (cases_lt j (length level_starts)) [ inl b ↦ rw (old_head j b) (h.looked j b) | inr le ↦ rw (new_head j le jl) (omega arith) ]

      rising' : (i j : ℕ) → i ≤ j → j < length (level_starts ++ length lits ∷ []) → get_or (qheads ++ head ∷ []) i 0 ≤ get_or (qheads ++ head ∷ []) j 0
      rising' i j le jl = elim (cases_lt j (length level_starts)) [
        | inl b ↦ let a : i < length level_starts = omega arith in rw (old_head i a, old_head j b) (h.rising i j le b)
        | inr high ↦ rw (new_head j high jl) (looked' i (omega arith))
      ]

  pub AreLevels-cut : (level : ℕ) → level < length level_starts → AreLevels (take (get_or level_starts level 0) lits) (take level level_starts) (get_or qheads level 0) (take level qheads)
  AreLevels-cut level lt = record {
    aligned = length-take-le level qheads (omega (arith, h.aligned)) ∙ sym (length-take-le level level_starts (omega arith));
    limit = omega (arith, h.limit, length-take level level_starts);
    within = λ j jl. rw (mark j (below j jl), len) (h.ordered j level (let b = below j jl in omega arith) lt);
    ordered = λ i j le jl. let b = below j jl in let a : i < level = omega arith in rw (mark i a, mark j b) (h.ordered i j le (omega arith));
    seen = λ j jl. let b = below j jl in rw (mark j b, head_of j b) (h.seen j (omega arith));
    rising = λ i j le jl. let b = below j jl in let a : i < level = omega arith in rw (head_of i a, head_of j b) (h.rising i j le (omega arith));
    looked = λ j jl. let b = below j jl in rw (head_of j b) (h.rising j level (omega arith) lt);
    high = rw len (h.seen level lt);
  }
    where
      len : length (take (get_or level_starts level 0) lits) ≡ get_or level_starts level 0
      len = length-take-le (get_or level_starts level 0) lits (h.within level lt)

      below : (j : ℕ) → j < length (take level level_starts) → j < level
      below j jl = omega (arith, length-take level level_starts)

      mark : (j : ℕ) → j < level → get_or (take level level_starts) j 0 ≡ get_or level_starts j 0
      mark j jl = get_or-take level level_starts j 0 jl

      head_of : (j : ℕ) → j < level → get_or (take level qheads) j 0 ≡ get_or qheads j 0
      head_of j jl = get_or-take level qheads j 0 jl

-- with nothing there
pub AreLevels-none : AreLevels [] [] 0 []
AreLevels-none = record {
  aligned = refl;
  limit = omega arith;
  within = λ j jl. absurd (omega arith);
  ordered = λ i j le jl. absurd (omega arith);
  seen = λ j jl. absurd (omega arith);
  rising = λ i j le jl. absurd (omega arith);
  looked = λ j jl. absurd (omega arith);
  high = omega arith;
}
