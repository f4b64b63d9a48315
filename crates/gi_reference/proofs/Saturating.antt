-- Unit closure by looking through the clauses again and again.
use Rattle.std.proofs.Common.{◌≡◌, ◌≢◌, ℕ, ◌+◌, ◌<◌, ◌≤◌, ◌↔◌, Bool, true, false, not, ◌&&◌, cond, nat_eq, ◌==◌, IsTrue, List, [], ◌∷◌, ◌++◌, length, get_or, refl, sym, ap, ◌∙◌, subst, arith, ◌⊎◌, inl, inr}
use Rattle.std.specs.List.{All, Contains, list_any}
use Rattle.std.proofs.lemmas.Bool.{both_ways, cases_Bool, cases_eq, and_parts, and_from, not-true, not-false, not_from_false, eqb-true, eqb-false, eq-eqb, ne_eqb, false_from_ne_true, and_cases}
use Rattle.std.proofs.lemmas.List.Elements.{All-contains, Contains-get_or, Contains-append_left, Contains-append_right, Contains-push, All-weaker}
use Rattle.gi_lit.specs.Literals.{opposite}
use Rattle.gi_lit.specs.Problem.{has}
use Rattle.gi_lit.specs.Closure.{Forces, IsFalsified, IsDerivation, Clashes, Conflicts, InClosure, IsSettled, has_true, has_two, IsClosed, IsConsistent}
use Rattle.gi_lit.proofs.Vars.{Contains-from_has, has-from_Contains, lacks, lacks_none}
use Rattle.gi_lit.proofs.Closing.{closure_inside, nothing_conflicts}
use Rattle.gi_lit.proofs.Closure.{IsDerivation-push}
use Rattle.gi_reference.specs.Search.{IsForced}
use Rattle.gi_reference.proofs.Deciding.{any_decides, cons_cases}

-- a test on the elements of a list that none passes
pub none_passes : {X : Type 0} (p : X → Bool) (xs : List X) → list_any p xs ≡ false → (x : X) → Contains xs x → p x ≡ false
none_passes p xs e x h = false_from_ne_true (p x) (λ t. both_ways (list_any p xs) e ((any_decides p xs).1 (x, h, t)))

module _ (lits clause : List ℕ) where
  pub settled_true : list_any (has lits) clause ≡ true → IsSettled lits clause
  settled_true h = let a = (any_decides (has lits) clause).0 h in has_true a.0 a.1 (Contains-from_has lits a.0 a.2)

  pub falsified : All (λ l. has lits (opposite l) ≡ true) clause → IsFalsified lits clause
  falsified h = λ k d lt. Contains-from_has lits (opposite (get_or clause k d)) (h k d lt)

  module _ (l : ℕ) (inside : Contains clause l) (free : has lits (opposite l) ≡ false) where
    pub settled_two : list_any (λ m. not (l == m) && not (has lits (opposite m))) clause ≡ true → IsSettled lits clause
    settled_two h =
        let a = (any_decides (λ m. not (l == m) && not (has lits (opposite m))) clause).0 h in
        let t = and_parts (not (l == a.0)) (not (has lits (opposite a.0))) a.2 in
        has_two l a.0 inside a.1 (eqb-false l a.0 (not-true (l == a.0) t.0)) (lacks_none lits (opposite l) free) (lacks_none lits (opposite a.0) (not-true _ t.1))

    pub forces : list_any (λ m. not (l == m) && not (has lits (opposite m))) clause ≡ false → Forces clause l lits
    forces h = record { stands = inside; others = λ k d lt. other (get_or clause k d) (Contains-get_or clause k d lt) }
      where
        other : (m : ℕ) → Contains clause m → (m ≡ l) ⊎ Contains lits (opposite m)
        other m c = elim (and_cases (not (l == m)) (not (has lits (opposite m))) (none_passes (λ m. not (l == m) && not (has lits (opposite m))) clause h m c)) [
          | inl e ↦ inl (sym (eqb-true l m (not-false (l == m) e)))
          | inr e ↦ inr (Contains-from_has lits (opposite m) (not-false _ e))
        ]

-- tests of opposites
pub inconsistent : (lits : List ℕ) → list_any (λ l. has lits (opposite l)) lits ≡ true → (l : ℕ) × Contains lits l × Contains lits (opposite l)
inconsistent lits h = let a = (any_decides (λ l. has lits (opposite l)) lits).0 h in (a.0, a.1, Contains-from_has lits (opposite a.0) a.2)

pub consistent : (lits : List ℕ) → list_any (λ l. has lits (opposite l)) lits ≡ false → IsConsistent lits
consistent lits h = record { each = λ l c. lacks_none lits (opposite l) (none_passes (λ l. has lits (opposite l)) lits h l c) }

-- how many clauses have none of the literals
pub unmet_count : List ℕ → List (List ℕ) → ℕ
unmet_count lits [] = 0
unmet_count lits (c ∷ cs) = cond (list_any (has lits) c) (unmet_count lits cs) (1 + unmet_count lits cs)

module _ (lits : List ℕ) (l : ℕ) where
  met_more : (c : List ℕ) → list_any (has lits) c ≡ true → list_any (has (lits ++ l ∷ [])) c ≡ true
  met_more c h =
      let a = (any_decides (has lits) c).0 h in
      (any_decides (has (lits ++ l ∷ [])) c).1 (a.0, a.1, has-from_Contains (lits ++ l ∷ []) a.0 (Contains-append_left lits (l ∷ []) a.0 (Contains-from_has lits a.0 a.2)))

  met_now : (c : List ℕ) → Contains c l → list_any (has (lits ++ l ∷ [])) c ≡ true
  met_now c h = (any_decides (has (lits ++ l ∷ [])) c).1 (l, h, has-from_Contains (lits ++ l ∷ []) l (Contains-push lits l))

  unmet-le : (cs : List (List ℕ)) → unmet_count (lits ++ l ∷ []) cs ≤ unmet_count lits cs
  unfolding unmet_count
  unmet-le [] = omega arith
  unmet-le (c ∷ cs) = elim (cases_Bool (list_any (has lits) c)) [
    | inl met ↦ rw (met, met_more c met) (unmet-le cs)
    | inr un ↦ elim (cases_Bool (list_any (has (lits ++ l ∷ [])) c)) [
      | inl t ↦ rw (un, t) (omega (arith, unmet-le cs))
      | inr f ↦ rw (un, f) (omega (arith, unmet-le cs))
    ]
  ]

  -- a clause more is met by a literal that it forced
  unmet-lt : (cs : List (List ℕ)) (c : List ℕ) → Contains cs c → Contains c l → list_any (has lits) c ≡ false → unmet_count (lits ++ l ∷ []) cs < unmet_count lits cs
  unfolding unmet_count
  unmet-lt [] c h i un = absurd (let a = h.1 in omega arith)
  unmet-lt (d ∷ cs) c h i un = elim (cons_cases d cs c h) [
    | inl e ↦ first (ap (list_any (has lits)) e ∙ un) (ap (list_any (has (lits ++ l ∷ []))) e ∙ met_now c i)
    | inr r ↦ elim (cases_Bool (list_any (has lits) d)) [
      | inl met ↦ rw (met, met_more d met) (unmet-lt cs c r i un)
      | inr u ↦ elim (cases_Bool (list_any (has (lits ++ l ∷ [])) d)) [
        | inl t ↦ rw (u, t) (omega (arith, unmet-lt cs c r i un))
        | inr f ↦ rw (u, f) (omega (arith, unmet-lt cs c r i un))
      ]
    ]
  ]
    where
      first : list_any (has lits) d ≡ false → list_any (has (lits ++ l ∷ [])) d ≡ true → unmet_count (lits ++ l ∷ []) (d ∷ cs) < unmet_count lits (d ∷ cs)
      first a b = rw (a, b) (omega (arith, unmet-le cs))

pub fewer_unmet : (clauses : List (List ℕ)) (lits : List ℕ) (l : ℕ) → IsForced clauses lits l → unmet_count (lits ++ l ∷ []) clauses < unmet_count lits clauses
fewer_unmet clauses lits l f = unmet-lt lits l clauses f.clause f.stands f.forces.stands f.unmet

-- what the closure has found where nothing more follows
pub whole : (clauses : List (List ℕ)) (given lits : List ℕ) → IsDerivation clauses given lits → All (Contains lits) given → IsClosed clauses lits × IsConsistent lits → (¬ Conflicts clauses given) × ((m : ℕ) → InClosure clauses given m ↔ Contains lits m)
whole clauses given lits d h c = (nothing_conflicts clauses given lits c.0 c.1 h, λ m. (closure_inside clauses given lits c.0 c.1 h m, λ i. record { lits = lits; derived = d; stands = i }))

pub clashes : (clauses : List (List ℕ)) (given lits : List ℕ) → IsDerivation clauses given lits → Clashes clauses lits → Conflicts clauses given
clashes clauses given lits d c = record { lits = lits; derived = d; clash = c }

pub pushed : (clauses : List (List ℕ)) (given lits : List ℕ) (l : ℕ) → IsDerivation clauses given lits → IsForced clauses lits l → IsDerivation clauses given (lits ++ l ∷ [])
pushed clauses given lits l d f = IsDerivation-push clauses given lits l d (inr (f.clause, f.stands, f.forces))

pub still_given : (given lits : List ℕ) (l : ℕ) → All (Contains lits) given → All (Contains (lits ++ l ∷ [])) given
still_given given lits l h = All-weaker (Contains lits) (Contains (lits ++ l ∷ [])) (λ m c. Contains-append_left lits (l ∷ []) m c) given h
