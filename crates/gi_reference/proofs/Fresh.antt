-- What may be learnt.
use Rattle.std.proofs.Common.{◌≡◌, ℕ, ◌+◌, ◌/◌, ◌<◌, ◌≤◌, ◌↔◌, Bool, true, false, not, ◌||◌, IsTrue, Result, Ok, Err, IfOk, List, [], ◌∷◌, ◌++◌, length, map, take, drop, get_or, refl, sym, ap, ◌∙◌, subst, arith, ◌⊎◌, inl, inr, append_assoc}
use Rattle.std.specs.List.{All, Contains, list_all, list_any}
use Rattle.std.proofs.lemmas.Bool.{both_ways, cases_Bool, or_cases, or_left, or_right, false≢true}
use Rattle.std.proofs.lemmas.List.{at_drop_more, drop_all, take_more}
use Rattle.std.proofs.lemmas.List.Elements.{All-head, All-tail, All-cons, All-nil, All-map, All-contains, Contains-get_or}
use Rattle.gi_lit.specs.Literals.{opposite, IsSubsetOf}
use Rattle.gi_lit.specs.Problem.{Problem, full, has, is_problem_var, IsProblemVar}
use Rattle.gi_lit.specs.Truth.{true_in, clause_true, Satisfies, MakesTrue, Fail}
use Rattle.gi_lit.specs.Closure.{Conflicts}
use Rattle.gi_lit.specs.Learnt.{IsImplied, IsFresh, IsDerived, AreFresh}
use Rattle.gi_lit.proofs.Literals.{true_in-opposite}
use Rattle.gi_reference.proofs.Deciding.{like, all_decides, has_decides, has_all_decides, any_decides, yes, no}
use Rattle.gi_reference.proofs.Saturating.{none_passes, inconsistent, consistent}

all_unmapped : (P : ℕ → Type 0) (f : ℕ → ℕ) (xs : List ℕ) → All P (map f xs) → All (λ x. P (f x)) xs
all_unmapped P f [] h = All-nil (λ x. P (f x))
all_unmapped P f (x ∷ xs) h = All-cons (λ x. P (f x)) x xs (All-head P (f x) (map f xs) h) (all_unmapped P f xs (All-tail P (f x) (map f xs) h))

-- where a clause is false, its opposites are true
negation_true : (values : List Bool) (clause : List ℕ) → clause_true values clause ≡ false → MakesTrue values (map opposite clause)
negation_true values clause u = record { each = All-map (λ l. true_in values l ≡ true) opposite clause (λ k d lt. true_in-opposite values (get_or clause k d) ∙ ap not (none_passes (true_in values) clause u (get_or clause k d) (Contains-get_or clause k d lt))) }

module _ (p : Problem) (clause : List ℕ) where
  to_implied : Fail (full p) (map opposite clause) → IsImplied p clause
  to_implied f = record { each = λ values s. elim (cases_Bool (clause_true values clause)) [ inl t ↦ t | inr u ↦ absurd (f values s (negation_true values clause u)) ] }

  from_implied : IsImplied p clause → Fail (full p) (map opposite clause)
  from_implied i values s m =
      let a = (any_decides (true_in values) clause).0 (i.each values s) in
      let o : true_in values (opposite a.0) ≡ true = All-contains (λ l. true_in values (opposite l) ≡ true) clause a.0 (all_unmapped (λ l. true_in values l ≡ true) opposite clause m.each) a.1 in
      false≢true (sym (ap not a.2) ∙ sym (true_in-opposite values a.0) ∙ o)

  abbrev IsLive : ℕ → Type 0
  IsLive l = IsProblemVar p (l / 2) ⊎ Contains p.active (l / 2)

  live_decides : IsTrue (list_all (λ l. is_problem_var p (l / 2) || has p.active (l / 2)) clause) ↔ All IsLive clause
  live_decides = all_decides (λ l. is_problem_var p (l / 2) || has p.active (l / 2)) IsLive (λ l. (to l, from l)) clause
    where
      to : (l : ℕ) → IsTrue (is_problem_var p (l / 2) || has p.active (l / 2)) → IsLive l
      to l h = elim (or_cases (is_problem_var p (l / 2)) (has p.active (l / 2)) h) [ inl a ↦ inl a | inr b ↦ inr ((has_decides p.active (l / 2)).0 b) ]

      from : (l : ℕ) → IsLive l → IsTrue (is_problem_var p (l / 2) || has p.active (l / 2))
      from l (inl a) = or_left (is_problem_var p (l / 2)) (has p.active (l / 2)) a
      from l (inr b) = or_right (is_problem_var p (l / 2)) (has p.active (l / 2)) ((has_decides p.active (l / 2)).1 b)

  module _ (known : List (List ℕ)) where
    -- the clause may be learnt
    abbrev pub IsNew : Type 0
    IsNew = IsFresh p known clause × IsDerived p known clause

    pub not_live : false ≡ list_all (λ l. is_problem_var p (l / 2) || has p.active (l / 2)) clause → ¬ IsNew
    not_live e h = both_ways _ (sym e) (live_decides.1 h.0.within)

    pub opposed : true ≡ list_any (λ l. has clause (opposite l)) clause → ¬ IsNew
    opposed e h = let a = inconsistent clause (sym e) in h.0.plain a.0 a.1 a.2

    module _ (all : List (List ℕ)) (is_all : all ≡ full p ++ known) where
      pub covered : true ≡ list_any (λ c. list_all (has clause) c) all → ¬ IsNew
      covered e h =
          let a = (any_decides (λ c. list_all (has clause) c) all).0 (sym e) in
          h.0.no_subset a.0 (subst (λ cs. Contains cs a.0) is_all a.1) ((has_all_decides clause a.0).0 a.2)

      uncovered : false ≡ list_any (λ c. list_all (has clause) c) all → (c : List ℕ) → Contains (full p ++ known) c → ¬ IsSubsetOf c clause
      uncovered e c h s = both_ways _ (none_passes (λ c. list_all (has clause) c) all (sym e) c (subst (λ cs. Contains cs c) (sym is_all) h)) ((has_all_decides clause c).1 s)

      module _ (whole : List (List ℕ)) (negation : List ℕ) (is_whole : whole ≡ full p) (is_negation : negation ≡ map opposite clause) where
        same_fails : Fail whole negation → Fail (full p) (map opposite clause)
        same_fails f = subst (λ cs. Fail cs (map opposite clause)) is_whole (subst (Fail whole) is_negation f)

        fails_same : Fail (full p) (map opposite clause) → Fail whole negation
        fails_same f = subst (λ cs. Fail cs negation) (sym is_whole) (subst (Fail (full p)) (sym is_negation) f)

        pub not_implied : ¬ Fail whole negation → ¬ IsNew
        not_implied n h = n (fails_same (from_implied h.0.implied))

        pub is_new : Fail whole negation → true ≡ list_all (λ l. is_problem_var p (l / 2) || has p.active (l / 2)) clause → false ≡ list_any (λ l. has clause (opposite l)) clause → false ≡ list_any (λ c. list_all (has clause) c) all → Conflicts all negation → IsNew
        is_new f l o u c = (record { implied = to_implied (same_fails f); within = live_decides.0 (sym l); plain = (consistent clause (sym o)).each; no_subset = uncovered u }, subst (λ cs. Conflicts cs (map opposite clause)) is_all (subst (Conflicts all) is_negation c))

        pub new_conflicts : IsNew → Conflicts all negation
        new_conflicts h = subst (λ cs. Conflicts cs negation) (sym is_all) (subst (Conflicts (full p ++ known)) (sym is_negation) h.1)

module _ (p : Problem) (known news : List (List ℕ)) (i : ℕ) where
  module _ (c : List ℕ) (lt : i < length news) (is : c ≡ get_or news i c) where
    rest : drop i news ≡ c ∷ drop (i + 1) news
    rest = at_drop_more (λ zs. zs) news i c lt ∙ ap (λ z. z ∷ drop (i + 1) news) (sym is)

    pub learnt_more : (known ++ take i news) ++ c ∷ [] ≡ known ++ take (i + 1) news
    learnt_more = append_assoc known (take i news) (c ∷ []) ∙ ap (λ xs. known ++ xs) (sym (take_more news i c lt ∙ ap (λ z. take i news ++ z ∷ []) (sym is)))

    pub fresh_more : IsNew p c (known ++ take i news) → AreFresh p (known ++ take i news) (drop i news) ↔ AreFresh p (known ++ take (i + 1) news) (drop (i + 1) news)
    fresh_more h = subst (λ ns. AreFresh p (known ++ take i news) ns ↔ AreFresh p (known ++ take (i + 1) news) (drop (i + 1) news)) (sym rest)
        (λ a. subst (λ ks. AreFresh p ks (drop (i + 1) news)) learnt_more a.2, λ a. (h.0, h.1, subst (λ ks. AreFresh p ks (drop (i + 1) news)) (sym learnt_more) a))

    pub fresh_stops : ¬ IsNew p c (known ++ take i news) → ¬ AreFresh p (known ++ take i news) (drop i news)
    fresh_stops n a = let b = subst (AreFresh p (known ++ take i news)) rest a in n (b.0, b.1)

  pub fresh_ends : length news ≤ i → AreFresh p (known ++ take i news) (drop i news)
  fresh_ends le = subst (AreFresh p (known ++ take i news)) (sym (drop_all i news le)) tt
