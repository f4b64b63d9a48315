-- A closed list without opposites has the whole unit closure, and then nothing conflicts.
use Rattle.std.proofs.Common.{◌≡◌, ℕ, zero, suc, List, length, take, get_or, sym, ◌∙◌, subst, arith, ◌⊎◌, inl, inr, add-one}
use Rattle.std.specs.List.{All, Contains}
use Rattle.std.proofs.lemmas.Bool.{cases_lt}
use Rattle.std.proofs.lemmas.List.{take_all}
use Rattle.std.proofs.lemmas.List.Elements.{All-contains, All-more, All-nil}
use Rattle.gi_lit.specs.Literals.{opposite}
use Rattle.gi_lit.specs.Closure.{Forces, IsFalsified, IsStep, IsDerivation, Clashes, Conflicts, IsSettled, has_true, has_two, IsClosed, IsConsistent, InClosure}

module _ (clauses : List (List ℕ)) (given lits : List ℕ) (closed : IsClosed clauses lits) (free : IsConsistent lits) (has : All (Contains lits) given) where
  -- of a settled clause all of whose other literals are false, the one that is left is there
  forced : (c : List ℕ) (l : ℕ) (earlier : List ℕ) → IsSettled lits c → Forces c l earlier → All (Contains lits) earlier → Contains lits l
  forced c l earlier (has_true m inside true) f e = elim (All-contains (λ m. (m ≡ l) ⊎ Contains earlier (opposite m)) c m f.others inside) [
    | inl same ↦ subst (Contains lits) same true
    | inr false ↦ absurd (free.each m true (All-contains (Contains lits) earlier (opposite m) e false))
  ]
  forced c l earlier (has_two m n a b different x y) f e = elim (All-contains (λ m. (m ≡ l) ⊎ Contains earlier (opposite m)) c m f.others a) [
    | inl p ↦ elim (All-contains (λ m. (m ≡ l) ⊎ Contains earlier (opposite m)) c n f.others b) [
      | inl q ↦ absurd (different (p ∙ sym q))
      | inr false ↦ absurd (y (All-contains (Contains lits) earlier (opposite n) e false))
    ]
    | inr false ↦ absurd (x (All-contains (Contains lits) earlier (opposite m) e false))
  ]

  step : (earlier : List ℕ) (l : ℕ) → IsStep clauses given earlier l → All (Contains lits) earlier → Contains lits l
  step earlier l (inl h) e = All-contains (Contains lits) given l has h
  step earlier l (inr h) e = forced h.0 l earlier (All-contains (IsSettled lits) clauses h.0 closed.each h.1) h.2 e

  front : (d : List ℕ) → IsDerivation clauses given d → (n : ℕ) → All (Contains lits) (take n d)
  front d h zero = All-nil (Contains lits)
  front d h (suc n) = elim (cases_lt n (length d)) [
    | inl lt ↦ rw (← add-one) (All-more (Contains lits) d n 0 lt (front d h n) (step (take n d) (get_or d n 0) (h.each n lt) (front d h n)))
    | inr le ↦ let e : take (suc n) d ≡ take n d = take_all (suc n) d (omega arith) ∙ sym (take_all n d le) in subst (All (Contains lits)) (sym e) (front d h n)
  ]

  -- each literal of a derivation is there
  pub derivation_inside : (d : List ℕ) → IsDerivation clauses given d → All (Contains lits) d
  derivation_inside d h = subst (All (Contains lits)) (take_all (length d) d (omega arith)) (front d h (length d))

  pub closure_inside : (m : ℕ) → InClosure clauses given m → Contains lits m
  closure_inside m c = All-contains (Contains lits) c.lits m (derivation_inside c.lits c.derived) c.stands

  settled_not_false : (c : List ℕ) → IsSettled lits c → IsFalsified lits c → ⊥
  settled_not_false c (has_true m a t) f = free.each m t (All-contains (λ m. Contains lits (opposite m)) c m f a)
  settled_not_false c (has_two m n a b d x y) f = x (All-contains (λ m. Contains lits (opposite m)) c m f a)

  pub nothing_conflicts : ¬ Conflicts clauses given
  nothing_conflicts c = go c.clash
    where
      go : Clashes clauses c.lits → ⊥
      go (inl h) = free.each h.0 (All-contains (Contains lits) c.lits h.0 (derivation_inside c.lits c.derived) h.1) (All-contains (Contains lits) c.lits (opposite h.0) (derivation_inside c.lits c.derived) h.2)
      go (inr h) = settled_not_false h.0 (All-contains (IsSettled lits) clauses h.0 closed.each h.1) (λ k d lt. All-contains (Contains lits) c.lits _ (derivation_inside c.lits c.derived) (h.2 k d lt))
