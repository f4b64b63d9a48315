-- What a test may list.
use Rattle.std.proofs.Common.{◌≡◌, ◌≢◌, ℕ, ◌+◌, ◌/◌, ◌<◌, ◌≤◌, ◌↔◌, ◌==◌, Bool, true, false, not, ◌&&◌, ◌||◌, IsTrue, Result, IfOk, List, [], ◌∷◌, ◌++◌, length, take, get_or, refl, sym, ap, ◌∙◌, subst, arith, ◌⊎◌, inl, inr, append_assoc, below_more}
use Rattle.std.specs.List.{All, Contains, list_all, list_any}
use Rattle.std.proofs.lemmas.Bool.{both_ways, or_cases, or_left, or_right, eqb-true, eq-eqb}
use Rattle.std.proofs.lemmas.List.{take_more, take_all}
use Rattle.std.proofs.lemmas.List.Elements.{All-contains, All-more, All-weaker, Contains-get_or, at_read}
use Rattle.gi_lit.specs.Literals.{opposite}
use Rattle.gi_lit.specs.Lists.{IsDistinct}
use Rattle.gi_lit.specs.Truth.{IsConsequence}
use Rattle.gi_lit.specs.Problem.{Problem, full, in_force, has, is_problem_var, IsProblemVar}
use Rattle.gi_lit.specs.Closure.{Forces, InClosure, Conflicts}
use Rattle.gi_lit.proofs.Vars.{Contains-from_has, has-from_Contains}
use Rattle.gi_model.specs.State.{State, Scope, Found, listed, failing, scope_listed, all_assumed}
use Rattle.gi_model.specs.Tests.{IsListed, Implies, MustFail, SomeFailed, HasFailed}
use Rattle.gi_reference.specs.Found.{has_failed}
use Rattle.gi_reference.specs.Search.{forces, HaveCauses}
use Rattle.gi_reference.proofs.Deciding.{both, like, ok_like, all_decides, has_decides, has_all_decides, any_decides}
use Rattle.gi_reference.proofs.Saturating.{none_passes}

pub forces_decides : (c : List ℕ) (l : ℕ) (e : List ℕ) → IsTrue (forces c l e) ↔ Forces c l e
unfolding forces
forces_decides c l e = like (has c l && list_all (λ m. (l == m) || has e (opposite m)) c) (both (has c l) (list_all (λ m. (l == m) || has e (opposite m)) c) (has_decides c l) (all_decides (λ m. (l == m) || has e (opposite m)) (λ m. (m ≡ l) ⊎ Contains e (opposite m)) (λ m. (to m, from m)) c))
    (λ h. record { stands = h.0; others = h.1 }) (λ f. (f.stands, f.others))
  where
    to : (m : ℕ) → IsTrue ((l == m) || has e (opposite m)) → (m ≡ l) ⊎ Contains e (opposite m)
    to m h = elim (or_cases (l == m) (has e (opposite m)) h) [ inl a ↦ inl (sym (eqb-true l m a)) | inr b ↦ inr (Contains-from_has e (opposite m) b) ]

    from : (m : ℕ) → (m ≡ l) ⊎ Contains e (opposite m) → IsTrue ((l == m) || has e (opposite m))
    from m (inl a) = or_left (l == m) (has e (opposite m)) (eq-eqb l m (sym a))
    from m (inr b) = or_right (l == m) (has e (opposite m)) (has-from_Contains e (opposite m) b)

module _ (clauses : List (List ℕ)) (start lits : List ℕ) where
  -- the literal at place k is forced by a clause
  abbrev pub HasForced : ℕ → Type 0
  HasForced k = (c : List ℕ) × Contains clauses c × Forces c (get_or lits k 0) (start ++ take k lits)

  module _ (i l : ℕ) (lt : i < length lits) (is : l ≡ get_or lits i 0) where
    pub started_more : (start ++ take i lits) ++ l ∷ [] ≡ start ++ take (i + 1) lits
    started_more = append_assoc start (take i lits) (l ∷ []) ∙ ap (λ xs. start ++ xs) (ap (λ z. take i lits ++ z ∷ []) is ∙ sym (take_more lits i 0 lt))

    pub forced_more : true ≡ list_any (λ c. forces c l (start ++ take i lits)) clauses → ((k : ℕ) → k < i → HasForced k) → (k : ℕ) → k < i + 1 → HasForced k
    forced_more e before =
        let a = (any_decides (λ c. forces c l (start ++ take i lits)) clauses).0 (sym e) in
        let f : Forces a.0 l (start ++ take i lits) = (forces_decides a.0 l (start ++ take i lits)).0 a.2 in
        below_more HasForced i before (a.0, a.1, subst (λ m. Forces a.0 m (start ++ take i lits)) is f)

    pub forced_stops : false ≡ list_any (λ c. forces c l (start ++ take i lits)) clauses → ¬ HaveCauses clauses start lits
    forced_stops e h =
        let a = h i lt in
        both_ways _ (sym e) ((any_decides (λ c. forces c l (start ++ take i lits)) clauses).1 (a.0, a.1, (forces_decides a.0 l (start ++ take i lits)).1 (subst (λ m. Forces a.0 m (start ++ take i lits)) (sym is) a.2)))

  pub all_forced : (i : ℕ) → length lits ≤ i → ((k : ℕ) → k < i → HasForced k) → HaveCauses clauses start lits
  all_forced i le h = λ k lt. h k (omega arith)

module _ (p : Problem) (given earlier ls : List ℕ) where
  plain_decides : IsTrue (list_all (λ l. is_problem_var p (l / 2)) ls) ↔ All (λ m. IsProblemVar p (m / 2)) ls
  plain_decides = all_decides (λ l. is_problem_var p (l / 2)) (λ m. IsProblemVar p (m / 2)) (λ l. (λ h. h, λ h. h)) ls

  pub not_plain : false ≡ list_all (λ l. is_problem_var p (l / 2)) ls → ¬ IsListed p given earlier ls
  not_plain e h = both_ways _ (sym e) (plain_decides.1 h.plain)

  module _ (whole : List (List ℕ)) (start : List ℕ) (is_whole : whole ≡ full p) (is_start : start ≡ given ++ earlier) where
    causes_of : IsListed p given earlier ls → HaveCauses whole start ls
    causes_of h = subst (λ cs. HaveCauses cs start ls) (sym is_whole) (subst (λ st. HaveCauses (full p) st ls) (sym is_start)
        (λ k lt. let a = h.causes k lt in (a.0, a.1, subst (Forces a.0 (get_or ls k 0)) (sym (append_assoc given earlier (take k ls))) a.2)))

    of_causes : HaveCauses whole start ls → (k : ℕ) → k < length ls → (c : List ℕ) × Contains (full p) c × Forces c (get_or ls k 0) (given ++ (earlier ++ take k ls))
    of_causes h =
        let g = subst (λ st. HaveCauses (full p) st ls) is_start (subst (λ cs. HaveCauses cs start ls) is_whole h) in
        λ k lt. let a = g k lt in (a.0, a.1, subst (Forces a.0 (get_or ls k 0)) (append_assoc given earlier (take k ls)) a.2)

    pub listed_like : {E : Type 0} (r : Result Bool E) → true ≡ list_all (λ l. is_problem_var p (l / 2)) ls → All (IsConsequence (in_force p given) given) ls → IfOk r (λ b. IsTrue b ↔ HaveCauses whole start ls) → IfOk r (λ b. IsTrue b ↔ IsListed p given earlier ls)
    listed_like r e c h = ok_like r (λ f. record { plain = plain_decides.0 (sym e); consequences = c; causes = of_causes f }) causes_of h

  -- nothing conflicts, and a test may list these
  abbrev pub MayImply : Type 0
  MayImply = (¬ Conflicts (in_force p given) given) × Implies p given earlier ls

  module _ (there : List ℕ) (is_there : there ≡ given ++ earlier) where
    pub seen : true ≡ list_any (has there) ls → ¬ MayImply
    seen e h =
        let a = (any_decides (has there) ls).0 (sym e) in
        All-contains (λ m. ¬ Contains (given ++ earlier) m) ls a.0 h.1.new a.1 (subst (λ ts. Contains ts a.0) is_there (Contains-from_has there a.0 a.2))

    pub unseen : false ≡ list_any (has there) ls → All (λ m. ¬ Contains (given ++ earlier) m) ls
    unseen e = λ k d lt c. both_ways _ (none_passes (has there) ls (sym e) (get_or ls k d) (Contains-get_or ls k d lt)) (has-from_Contains there (get_or ls k d) (subst (λ ts. Contains ts (get_or ls k d)) (sym is_there) c))

  module _ (all closed : List ℕ) (is_all : all ≡ given ++ (earlier ++ ls)) (whole : (m : ℕ) → InClosure (in_force p given) given m ↔ Contains closed m) where
    pub left_out : false ≡ list_all (has all) closed → ¬ MayImply
    left_out e h = both_ways _ (sym e) ((has_all_decides all closed).1 (λ k d lt. subst (λ xs. Contains xs (get_or closed k d)) (sym is_all) (h.1.covers (get_or closed k d) ((whole (get_or closed k d)).1 (Contains-get_or closed k d lt)))))

    pub implies_like : {E : Type 0} (r : Result Bool E) → (¬ Conflicts (in_force p given) given) → IsDistinct ls → All (λ m. ¬ Contains (given ++ earlier) m) ls → true ≡ list_all (has all) closed → IfOk r (λ b. IsTrue b ↔ IsListed p given earlier ls) → IfOk r (λ b. IsTrue b ↔ MayImply)
    implies_like r n d u e h = ok_like r (λ l. (n, record { distinct = d; new = u; listed = l; covers = covers })) (λ m. m.1.listed) h
      where
        covers : (m : ℕ) → InClosure (in_force p given) given m → Contains (given ++ (earlier ++ ls)) m
        covers m c = subst (λ xs. Contains xs m) is_all (All-contains (Contains all) closed m ((has_all_decides all closed).0 (sym e)) ((whole m).0 c))

failed_step : (sc : Scope) (scs : List Scope) → IsTrue (list_any (λ (sc : Scope). has_failed sc.found) scs) ↔ SomeFailed scs → IsTrue (list_any (λ (sc : Scope). has_failed sc.found) (sc ∷ scs)) ↔ SomeFailed (sc ∷ scs)
failed_step sc scs d = (λ h. elim (or_cases (has_failed sc.found) (list_any (λ (sc : Scope). has_failed sc.found) scs) h) [ inl a ↦ inl (to sc.found a) | inr b ↦ inr (d.0 b) ], from)
  where
    to : (f : Found) → has_failed f ≡ true → HasFailed f
    to (listed ls) e = absurd cc
    to (failing w) e = tt

    back : (f : Found) → HasFailed f → has_failed f ≡ true
    back (listed ls) h = absurd h
    back (failing w) h = refl

    from : HasFailed sc.found ⊎ SomeFailed scs → IsTrue (list_any (λ (sc : Scope). has_failed sc.found) (sc ∷ scs))
    from (inl a) = or_left (has_failed sc.found) (list_any (λ (sc : Scope). has_failed sc.found) scs) (back sc.found a)
    from (inr b) = or_right (has_failed sc.found) (list_any (λ (sc : Scope). has_failed sc.found) scs) (d.1 b)

-- the test of some scope failed
pub failed_decides : (scs : List Scope) → IsTrue (list_any (λ (sc : Scope). has_failed sc.found) scs) ↔ SomeFailed scs
failed_decides [] = (λ e. absurd cc, λ h. absurd h)
failed_decides (sc ∷ scs) = failed_step sc scs (failed_decides scs)
