-- What stays when a guard is dropped.
use Rattle.std.proofs.Common.{◌≡◌, ◌≢◌, ℕ, ◌+◌, ◌-◌, ◌*◌, ◌/◌, ◌≤◌, Bool, true, false, not, List, [], ◌∷◌, ◌++◌, map, get_or, set, refl, sym, ap, ◌∙◌, subst, arith, inl, inr, get_or-set_other, ◌==◌}
use Rattle.std.specs.List.{All, Contains, filter}
use Rattle.std.proofs.lemmas.Bool.{eqb-true, eq-eqb, ne_eqb, not-true, not_from_false, both_ways}
use Rattle.std.proofs.lemmas.List.Elements.{All-head, All-tail, All-append, All-cons, All-contains, All-weaker, All-filter, filter_passes, Contains-get_or, Contains-append_left, Contains-append_right, Contains-append_cases}
use Rattle.std.proofs.lemmas.List.Folds.{list_any_at, Any-from_list_any}
use Rattle.gi_lit.specs.Truth.{true_in, clause_true, Satisfies}
use Rattle.gi_lit.specs.Problem.{Group, has, negatives, guarded, Problem, full, names, without, without_var, without_groups, without_guard, IsProblemVar, IsPlain, IsGroup, IsWellFormed, IsLiveVar, IsAssumable}
use Rattle.gi_lit.specs.Guards.{IsGuardedLit}
use Rattle.gi_lit.specs.Learnt.{IsImplied}
use Rattle.gi_lit.proofs.Lists.{Contains-map, Contains-unmap}
use Rattle.gi_lit.proofs.Guarding.{true_clause, same_truth, negative_true, unset_at}
use Rattle.gi_lit.proofs.Resting.{rests}
use Rattle.gi_lit.proofs.Vars.{var_facts, var_from, guard_facts, guard_from, lacks, lacks_none}
use Rattle.gi_lit.proofs.Distinct.{Contains-filter, filter-has, Contains-cons_cases, IsDistinct-moved, IsDistinct-apart}

-- a literal of another variable keeps its truth when g is made false
pub same_at : (g : ℕ) (v : List Bool) (l : ℕ) → 1 ≤ g → 1 ≤ l / 2 → l / 2 ≢ g → true_in (set v (g - 1) false) l ≡ true_in v l
same_at g v l g1 l1 n = same_truth v (set v (g - 1) false) l (get_or-set_other v (g - 1) (l / 2 - 1) false false (λ e. n (omega arith)))

pub clause_same_at : (g : ℕ) (v : List Bool) (c : List ℕ) → 1 ≤ g → All (λ l. (1 ≤ l / 2) × (l / 2 ≢ g)) c → clause_true (set v (g - 1) false) c ≡ clause_true v c
clause_same_at g v [] g1 a = refl
clause_same_at g v (l ∷ c) g1 a =
    let h = All-head (λ l. (1 ≤ l / 2) × (l / 2 ≢ g)) l c a in
    rw (same_at g v l g1 h.0 h.1, clause_same_at g v c g1 (All-tail (λ l. (1 ≤ l / 2) × (l / 2 ≢ g)) l c a)) refl

module _ (g : ℕ) (p : Problem) (h : IsWellFormed p) (act : Contains p.active g) where
  low_g : 1 ≤ g
  low_g = All-contains (λ x. 1 ≤ x) (p.freed ++ p.active) g h.low (Contains-append_right p.freed p.active g act)

  not_named : (c : List ℕ) → names g c ≡ false → All (λ l. l / 2 ≢ g) c
  not_named c n k d lt e = both_ways (names g c) n (list_any_at (λ l. l / 2 == g) c k d lt (eq-eqb (get_or c k d / 2) g e))

  -- a group's clause names each of its guards
  unnamed : (q : Group) → names g (guarded q) ≡ false → not (has q.guards g) ≡ true
  unnamed q n = not_from_false _ (lacks q.guards g (λ c.
      both_ways (names g (guarded q)) n (named_at (guarded q) (2 * g + 1) (Contains-append_right q.clause (negatives q.guards) (2 * g + 1) (Contains-map (λ x. 2 * x + 1) q.guards g c)) (omega arith))))
    where
      named_at : (c : List ℕ) (l : ℕ) → Contains c l → l / 2 ≡ g → names g c ≡ true
      named_at c l h e = list_any_at (λ m. m / 2 == g) c h.0 l h.1 (eq-eqb (get_or c h.0 l / 2) g (ap (λ m. m / 2) h.2 ∙ e))

  -- a full clause that doesn't name g is one of the smaller problem
  pub full_kept : (c : List ℕ) → Contains (full p) c → names g c ≡ false → Contains (full (without_guard g p)) c
  unfolding full without_groups
  full_kept c a n = elim (Contains-append_cases p.plain (map guarded p.groups) c a) [
    | inl x ↦ Contains-append_left p.plain (map guarded fewer) c x
    | inr y ↦
        let u = Contains-unmap guarded p.groups c y in
        Contains-append_right p.plain (map guarded fewer) c (subst (Contains (map guarded fewer)) u.2 (Contains-map guarded fewer u.0
        (filter-has (λ (r : Group). not (has r.guards g)) p.groups u.0 (unnamed u.0 (subst (λ x. names g x ≡ false) (sym u.2) n)) u.1)))
  ]
    where
      fewer : List Group
      fewer = filter (λ (r : Group). not (has r.guards g)) p.groups

  -- whoever satisfies the smaller problem satisfies all of it with g made false
  pub satisfied : (v : List Bool) → Satisfies v (full (without_guard g p)) → Satisfies (set v (g - 1) false) (full p)
  satisfied v s = record { each = λ k d lt. go (get_or (full p) k d) (Contains-get_or (full p) k d lt) (names g (get_or (full p) k d)) refl }
    where
      lits : (c : List ℕ) → Contains (full p) c → All (IsGuardedLit p) c
      lits c a = All-contains (All (IsGuardedLit p)) (full p) c (rests p [] h).lits a

      go : (c : List ℕ) → Contains (full p) c → (b : Bool) → names g c ≡ b → clause_true (set v (g - 1) false) c ≡ true
      go c a true e =
          let x = Any-from_list_any (λ l. l / 2 == g) c e in
          let at : Contains c x.1 = (x.0, x.2, x.3) in
          let var : x.1 / 2 ≡ g = eqb-true (x.1 / 2) g x.4 in
          let odd : x.1 ≡ 2 * g + 1 = (All-contains (IsGuardedLit p) c x.1 (lits c a) at).negative (subst (Contains p.active) (sym var) act) ∙ ap (λ n. 2 * n + 1) var in
          true_clause (set v (g - 1) false) c (2 * g + 1) (subst (Contains c) odd at) (negative_true (set v (g - 1) false) g (unset_at v (g - 1)))
      go c a false e =
          clause_same_at g v c low_g (λ k d lt. ((lits c a k d lt).low, not_named c e k d lt))
          ∙ All-contains (λ c. clause_true v c ≡ true) (full (without_guard g p)) c s.each (full_kept c a e)

  pub implied_kept : (c : List ℕ) → All (λ l. 1 ≤ l / 2) c → names g c ≡ false → IsImplied p c → IsImplied (without_guard g p) c
  implied_kept c a n i = record { each = λ v s. sym (clause_same_at g v c low_g (λ k d lt. (a k d lt, not_named c n k d lt))) ∙ i.each (set v (g - 1) false) (satisfied v s) }

  vars_kept : (v : ℕ) → IsProblemVar p v → IsProblemVar (without_guard g p) v
  unfolding without
  vars_kept v x =
      let f = var_facts p v x in
      var_from (without_guard g p) v (record { low = f.low; high = f.high; inactive = λ c. f.inactive (Contains-filter (λ y. not (y == g)) p.active v c); unfreed = λ c. elim (Contains-cons_cases g p.freed v c) [ inl e ↦ f.inactive (subst (Contains p.active) e act) | inr b ↦ f.unfreed b ] })

  pub IsWellFormed-dropped : IsWellFormed (without_guard g p)
  unfolding without without_groups
  IsWellFormed-dropped = record {
    plain = All-weaker (IsPlain p) (IsPlain (without_guard g p)) clause p.plain h.plain;
    groups = λ k d lt. group _ (All-filter (λ (q : Group). not (has q.guards g)) (IsGroup p) p.groups h.groups k d lt) (filter_passes (λ (q : Group). not (has q.guards g)) p.groups k d lt);
    distinct = (λ c. elim (Contains-append_cases p.freed (filter (λ y. not (y == g)) p.active) g c) [ inl a ↦ IsDistinct-apart p.freed p.active g h.distinct a act | inr b ↦ gone b ], IsDistinct-moved (λ y. not (y == g)) p.freed p.active h.distinct);
    low = All-cons (λ x. 1 ≤ x) g (p.freed ++ filter (λ y. not (y == g)) p.active) low_g (moved (λ x. 1 ≤ x) h.low);
    high = All-cons (λ x. x ≤ p.vars) g (p.freed ++ filter (λ y. not (y == g)) p.active) (All-contains (λ x. x ≤ p.vars) (p.freed ++ p.active) g h.high (Contains-append_right p.freed p.active g act)) (moved (λ x. x ≤ p.vars) h.high);
  }
    where
      clause : (c : List ℕ) → IsPlain p c → IsPlain (without_guard g p) c
      clause c a k d lt = vars_kept (get_or c k d / 2) (a k d lt)

      guard : (x : ℕ) → Contains p.active x → x ≢ g → Contains (filter (λ y. not (y == g)) p.active) x
      guard x a n = filter-has (λ y. not (y == g)) p.active x (not_from_false _ (ne_eqb x g n)) a

      group : (q : Group) → IsGroup p q → not (has q.guards g) ≡ true → IsGroup (without_guard g p) q
      group q a e = (clause q.clause a.0, λ k d lt. guard (get_or q.guards k d) (a.1 k d lt) (λ same. lacks_none q.guards g (not-true _ e) (subst (Contains q.guards) same (Contains-get_or q.guards k d lt))), a.2)

      gone : ¬ Contains (filter (λ y. not (y == g)) p.active) g
      gone c = let e : not (g == g) ≡ true = All-contains (λ y. not (y == g) ≡ true) (filter (λ y. not (y == g)) p.active) g (filter_passes (λ y. not (y == g)) p.active) c in both_ways (g == g) (not-true (g == g) e) (eq-eqb g g refl)

      moved : (P : ℕ → Type 0) → All P (p.freed ++ p.active) → All P (p.freed ++ filter (λ y. not (y == g)) p.active)
      moved P a = All-append P p.freed (filter (λ y. not (y == g)) p.active)
          (λ k d lt. All-contains P (p.freed ++ p.active) _ a (Contains-append_left p.freed p.active _ (Contains-get_or p.freed k d lt)))
          (All-filter (λ y. not (y == g)) P p.active (λ k d lt. All-contains P (p.freed ++ p.active) _ a (Contains-append_right p.freed p.active _ (Contains-get_or p.active k d lt))))

  pub assumable_kept : (l : ℕ) → l ≢ 2 * g → IsAssumable p l → IsAssumable (without_guard g p) l
  unfolding without
  assumable_kept l n (inl a) = inl (vars_kept (l / 2) a)
  assumable_kept l n (inr b) =
      let f = guard_facts p l b in
      let o : l / 2 ≢ g = λ e. n (f.even ∙ ap (λ x. 2 * x) e) in
      inr (guard_from (without_guard g p) l (record { even = f.even; active = filter-has (λ y. not (y == g)) p.active (l / 2) (not_from_false _ (ne_eqb (l / 2) g o)) f.active }))

  pub live_kept : (v : ℕ) → v ≢ g → IsLiveVar p v → IsLiveVar (without_guard g p) v
  live_kept v n a = (a.0, a.1, λ c. elim (Contains-cons_cases g p.freed v c) [ inl e ↦ n (sym e) | inr b ↦ a.2 b ])

  -- the clauses that don't name g
  pub known_kept : (cs : List (List ℕ)) → All (λ c. All (λ l. IsLiveVar p (l / 2)) c) cs → All (λ c. All (λ l. IsLiveVar (without_guard g p) (l / 2)) c) (without_var g cs)
  unfolding without_var
  known_kept cs a k d lt =
      let x = All-filter (λ c. not (names g c)) (λ c. All (λ l. IsLiveVar p (l / 2)) c) cs a k d lt in
      let y = filter_passes (λ c. not (names g c)) cs k d lt in
      λ i e m. live_kept _ (not_named _ (not-true _ y) i e m) (x i e m)

  pub known_implied : (cs : List (List ℕ)) → All (λ c. All (λ l. IsLiveVar p (l / 2)) c) cs → All (IsImplied p) cs → All (IsImplied (without_guard g p)) (without_var g cs)
  unfolding without_var
  known_implied cs a i k d lt =
      let x = All-filter (λ c. not (names g c)) (λ c. All (λ l. IsLiveVar p (l / 2)) c) cs a k d lt in
      let y = filter_passes (λ c. not (names g c)) cs k d lt in
      let z = All-filter (λ c. not (names g c)) (IsImplied p) cs i k d lt in
      implied_kept _ (λ i e m. (x i e m).0) (not-true _ y) z
