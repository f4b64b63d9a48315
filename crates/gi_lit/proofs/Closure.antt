use Rattle.std.proofs.Common.{◌≡◌, ℕ, zero, suc, ◌<◌, ◌≤◌, Bool, true, false, not, List, [], ◌∷◌, ◌++◌, length, take, get_or, refl, sym, ap, ◌∙◌, subst, arith, ◌⊎◌, inl, inr}
use Rattle.std.specs.List.{All}
use Rattle.std.proofs.lemmas.List.Elements.{All-contains, All-more, All-nil, All-map, Contains-get_or, Contains-append_left}
use Rattle.std.proofs.lemmas.List.Folds.{list_any_none, list_any_at}
use Rattle.std.proofs.lemmas.Bool.{false≢true, cases_lt, cases_Bool}
use Rattle.std.proofs.lemmas.List.{take_all, take_at, take-append-le, get_or_append_left, get_or_push}
use Rattle.std.proofs.Common.{add-one, length-append, map}
use Rattle.gi_lit.specs.Literals.{opposite}
use Rattle.gi_lit.specs.Truth.{true_in, clause_true, Satisfies, MakesTrue, Fail}
use Rattle.gi_lit.specs.Closure.{Forces, IsFalsified, IsStep, IsDerivation, Clashes, Conflicts}
use Rattle.gi_lit.proofs.Literals.{true_in-opposite}

-- a literal is false where its opposite is true
false_from_opposite : (values : List Bool) (l : ℕ) → true_in values (opposite l) ≡ true → true_in values l ≡ false
false_from_opposite values l h = go (true_in values l) (sym (true_in-opposite values l) ∙ h)
  where
    go : (b : Bool) → not b ≡ true → b ≡ false
    go true e = sym e
    go false e = refl

-- a clause that is true, all of whose other literals are false, makes the one that is left true
pub forced_true : (values : List Bool) (clause : List ℕ) (l : ℕ) (earlier : List ℕ) → clause_true values clause ≡ true → MakesTrue values earlier → Forces clause l earlier → true_in values l ≡ true
forced_true values clause l earlier c e f = go (true_in values l) refl
  where
    go : (b : Bool) → true_in values l ≡ b → true_in values l ≡ true
    go true h = h
    go false h = absurd (false≢true (sym (list_any_none (true_in values) clause (λ k d lt.
        elim (f.others k d lt) [
          | inl same ↦ ap (true_in values) same ∙ h
          | inr before ↦ false_from_opposite values (get_or clause k d) (All-contains (λ m. true_in values m ≡ true) earlier _ e.each before)
        ])) ∙ c))

pub falsified_false : (values : List Bool) (clause lits : List ℕ) → MakesTrue values lits → IsFalsified lits clause → clause_true values clause ≡ false
falsified_false values clause lits e f = list_any_none (true_in values) clause (λ k d lt.
    false_from_opposite values (get_or clause k d) (All-contains (λ m. true_in values m ≡ true) lits _ e.each (f k d lt)))

module _ (clauses : List (List ℕ)) (given lits : List ℕ) (d : IsDerivation clauses given lits) (values : List Bool) (s : Satisfies values clauses) (g : MakesTrue values given) where
  step_true : (k : ℕ) → k < length lits → MakesTrue values (take k lits) → true_in values (get_or lits k 0) ≡ true
  step_true k lt before = elim (d.each k lt) [
    | inl h ↦ All-contains (λ m. true_in values m ≡ true) given _ g.each h
    | inr h ↦ forced_true values h.0 _ (take k lits) (All-contains (λ c. clause_true values c ≡ true) clauses _ s.each h.1) before h.2
  ]

  front_true : (n : ℕ) → MakesTrue values (take n lits)
  front_true zero = record { each = All-nil (λ l. true_in values l ≡ true) }
  front_true (suc n) = elim (cases_lt n (length lits)) [
    | inl lt ↦ record { each = rw (← add-one) (All-more (λ l. true_in values l ≡ true) lits n 0 lt (front_true n).each (step_true n lt (front_true n))) }
    | inr le ↦ let e : take (suc n) lits ≡ take n lits = take_all (suc n) lits (omega arith) ∙ sym (take_all n lits le) in subst (MakesTrue values) (sym e) (front_true n)
  ]

  pub derived_true : MakesTrue values lits
  derived_true = subst (MakesTrue values) (take_all (length lits) lits (omega arith)) (front_true (length lits))

-- no values make both a literal and its opposite true, nor a clause true all of whose literals are false
pub clash_fails : (clauses : List (List ℕ)) (values : List Bool) → Satisfies values clauses → (lits : List ℕ) → MakesTrue values lits → Clashes clauses lits → ⊥
clash_fails clauses values s lits t (inl h) = false≢true (sym (false_from_opposite values h.0 (All-contains (λ m. true_in values m ≡ true) lits _ t.each h.2)) ∙ All-contains (λ m. true_in values m ≡ true) lits _ t.each h.1)
clash_fails clauses values s lits t (inr h) = false≢true (sym (falsified_false values h.0 lits t h.2) ∙ All-contains (λ c. clause_true values c ≡ true) clauses _ s.each h.1)

pub conflicts_fail : (clauses : List (List ℕ)) (given : List ℕ) → Conflicts clauses given → Fail clauses given
conflicts_fail clauses given h values s g = clash_fails clauses values s h.lits (derived_true clauses given h.lits h.derived values s g) h.clash

-- what is given is a derivation
pub given_derives : (clauses : List (List ℕ)) (given : List ℕ) → IsDerivation clauses given given
given_derives clauses given = record { each = λ k lt. inl (Contains-get_or given k 0 lt) }

pub IsDerivation-push : (clauses : List (List ℕ)) (given lits : List ℕ) (l : ℕ) → IsDerivation clauses given lits → IsStep clauses given lits l → IsDerivation clauses given (lits ++ l ∷ [])
IsDerivation-push clauses given lits l d s = record { each = λ k kl. go k kl (cases_lt k (length lits)) }
  where
    go : (k : ℕ) → k < length (lits ++ l ∷ []) → (k < length lits) ⊎ (length lits ≤ k) → IsStep clauses given (take k (lits ++ l ∷ [])) (get_or (lits ++ l ∷ []) k 0)
    go k kl (inl lt) = rw (get_or_append_left lits (l ∷ []) 0 k lt, take-append-le k lits (l ∷ []) (omega arith)) (d.each k lt)
    go k kl (inr le) =
        let e : length lits ≡ k = omega (arith, length-append lits (l ∷ [])) in
        rw (get_or_push lits l 0 k e, take_at lits (l ∷ []) k e) s

-- a clause whose negation conflicts is true wherever the clauses are
pub derived_implied : (clauses : List (List ℕ)) (clause : List ℕ) → Conflicts clauses (map opposite clause) → (values : List Bool) → Satisfies values clauses → clause_true values clause ≡ true
derived_implied clauses clause c values s = go (clause_true values clause) refl
  where
    go : (b : Bool) → clause_true values clause ≡ b → b ≡ true
    go true e = refl
    go false e = absurd (conflicts_fail clauses (map opposite clause) c values s (record { each = All-map (λ l. true_in values l ≡ true) opposite clause (λ k d lt. opposite_true (get_or clause k d) (all_false k d lt)) }))
      where
        opposite_true : (l : ℕ) → true_in values l ≡ false → true_in values (opposite l) ≡ true
        opposite_true l h = true_in-opposite values l ∙ ap not h

        all_false : All (λ l. true_in values l ≡ false) clause
        all_false k d lt = elim (cases_Bool (true_in values (get_or clause k d))) [ inl t ↦ absurd (false≢true (sym e ∙ list_any_at (true_in values) clause k d lt t)) | inr f ↦ f ]

-- more clauses conflict too
pub Conflicts-more : (clauses more : List (List ℕ)) (given : List ℕ) → Conflicts clauses given → Conflicts (clauses ++ more) given
Conflicts-more clauses more given c = record { lits = c.lits; derived = record { each = λ k lt. step k (c.derived.each k lt) }; clash = go c.clash }
  where
    step : (k : ℕ) → IsStep clauses given (take k c.lits) (get_or c.lits k 0) → IsStep (clauses ++ more) given (take k c.lits) (get_or c.lits k 0)
    step k (inl h) = inl h
    step k (inr h) = inr (h.0, Contains-append_left clauses more h.0 h.1, h.2)

    go : Clashes clauses c.lits → Clashes (clauses ++ more) c.lits
    go (inl h) = inl h
    go (inr h) = inr (h.0, Contains-append_left clauses more h.0 h.1, h.2)
