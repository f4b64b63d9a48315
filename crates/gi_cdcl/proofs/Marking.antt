-- Marking the places of a clause's variables, literal by literal.
use Rattle.std.proofs.Common.{◌≡◌, ℕ, ◌+◌, ◌/◌, ◌<◌, ◌≤◌, Bool, true, false, cond, nat_lt, List, length, take, get_or, set, refl, sym, ◌∙◌, subst, arith, ◌⊎◌, inl, inr, length-set, get_or-set_same, get_or-set_other}
use Rattle.std.specs.List.{All, Contains}
use Rattle.std.proofs.lemmas.Bool.{cases_eq, lt-ltb}
use Rattle.std.proofs.lemmas.List.{get_or_read, take_all}
use Rattle.std.proofs.lemmas.List.Elements.{All-more, Contains-get_or}
use Rattle.gi_prop.specs.TrailView.{StandsAt, IsUnassigned}
use Rattle.gi_cdcl.specs.Marks.{marked, Marks, IsPlaceIn}
use Rattle.gi_cdcl.proofs.Counts.{marked-set}

-- the literal's place before `end` is marked
abbrev pub IsSeen : List ℕ → ℕ → List Bool → ℕ → Type 0
IsSeen lits end new m = (p : ℕ) → p < end → StandsAt lits (m / 2) p → get_or new p false ≡ true

pub record MarksSoFar (lits clause : List ℕ) (i start end : ℕ) (old new : List Bool) (more : ℕ) : Type 0 where
  pub len : length new ≡ length old
  pub keeps : (k : ℕ) → get_or old k false ≡ true → get_or new k false ≡ true
  pub all : All (IsSeen lits end new) (take i clause)
  pub only : (k : ℕ) → get_or new k false ≡ true → (get_or old k false ≡ true) ⊎ ((k < end) × IsPlaceIn lits clause k)
  pub count : marked end new + marked start old ≡ marked end old + marked start new + more
  pub few : more ≤ i

pub Marks-none : (lits clause : List ℕ) (start end : ℕ) (old : List Bool) → MarksSoFar lits clause 0 start end old old 0
Marks-none lits clause start end old = record { len = refl; keeps = λ k h. h; all = λ k d lt. absurd (omega arith); only = λ k h. inl h; count = omega arith; few = omega arith }

pub Marks-done : (lits clause : List ℕ) (i start end : ℕ) (old new : List Bool) (more : ℕ) → length clause ≤ i → MarksSoFar lits clause i start end old new more → Marks lits clause start end old new more
Marks-done lits clause i start end old new more le h = record {
  len = h.len;
  keeps = h.keeps;
  all = subst (All (IsSeen lits end new)) (take_all i clause le) h.all;
  only = h.only;
  count = h.count;
}

-- no place of an unassigned variable
pub unseen : (lits : List ℕ) (v p : ℕ) → IsUnassigned lits v → StandsAt lits v p → ⊥
unseen lits v p u s = u p 0 s.below s.names

module _ (lits clause : List ℕ) (i start end : ℕ) (old new : List Bool) (more : ℕ) (h : MarksSoFar lits clause i start end old new more) (x : ℕ) (lt : i < length clause) (item : x ≡ get_or clause i x) where
  -- the literal's place is marked already, or isn't to be
  pub Marks-skip : IsSeen lits end new x → MarksSoFar lits clause (i + 1) start end old new more
  Marks-skip s = record {
    len = h.len;
    keeps = h.keeps;
    all = All-more (IsSeen lits end new) clause i 0 lt h.all (rw (sym (get_or_read clause i x lt item 0)) s);
    only = h.only;
    count = h.count;
    few = let f = h.few in omega arith;
  }

  pub Marks-set : (p m : ℕ) → StandsAt lits (x / 2) p → ((q : ℕ) → StandsAt lits (x / 2) q → q ≡ p) → p < end → p < length new → get_or new p false ≡ false → m + cond (nat_lt p start) 1 0 ≡ more + 1 → MarksSoFar lits clause (i + 1) start end old (set new p true) m
  Marks-set p m at apart below within e count = record {
    len = length-set new p true ∙ h.len;
    keeps = λ k q. stays k (h.keeps k q);
    all = All-more (IsSeen lits end (set new p true)) clause i 0 lt
        (λ k d kl q ql s. stays q (h.all k d kl q ql s))
        (rw (sym (get_or_read clause i x lt item 0)) here);
    only = λ k q. elim (cases_eq k p) [
      | inl same ↦ inr (rw same below, record { lit = x; stands = subst (Contains clause) (sym item) (Contains-get_or clause i x lt); at = rw same at })
      | inr other ↦ h.only k (sym (get_or-set_other new p k true false other) ∙ q)
    ];
    count =
        let a : marked end (set new p true) ≡ marked end new + 1 = rw (lt-ltb p end below) at (marked-set end new p within e) in
        omega (arith, marked-set start new p within e, h.count);
    few = let f = h.few in omega arith;
  }
    where
      stays : (k : ℕ) → get_or new k false ≡ true → get_or (set new p true) k false ≡ true
      stays k q = elim (cases_eq k p) [ inl same ↦ rw same (get_or-set_same new p true false within) | inr other ↦ get_or-set_other new p k true false other ∙ q ]

      here : IsSeen lits end (set new p true) x
      here q ql s = rw (apart q s) (get_or-set_same new p true false within)
