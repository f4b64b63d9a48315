-- What a problem keeps when it grows.
use Rattle.std.proofs.Common.{◌≡◌, ℕ, ◌+◌, ◌/◌, ◌<◌, ◌≤◌, Bool, true, false, cond, List, [], ◌∷◌, ◌++◌, length, map, get_or, refl, sym, ap, subst, arith, ◌⊎◌, inl, inr}
use Rattle.std.specs.List.{All, Contains}
use Rattle.std.proofs.lemmas.List.Elements.{All-head, All-tail, All-contains, All-weaker, All-push, Contains-get_or, Contains-append_left, Contains-append_right, Contains-append_cases, Contains-push_cases}
use Rattle.gi_lit.specs.Truth.{clause_true, Satisfies, Fail}
use Rattle.gi_lit.specs.Problem.{Group, are_given, forced, guarded, Problem, in_force, full, top, grown, with_clause, with_group, IsProblemVar, IsPlain, IsGroup, IsWellFormed, IsLiveVar, IsAssumable, guard_made}
use Rattle.gi_lit.specs.Learnt.{IsImplied}
use Rattle.gi_lit.specs.Lists.{IsDistinct}
use Rattle.gi_lit.proofs.Tops.{top_bounds}
use Rattle.gi_lit.proofs.Vars.{var_facts, var_from, guard_facts, guard_from}
use Rattle.std.proofs.Common.{append_assoc}
use Rattle.gi_lit.proofs.Distinct.{IsDistinct-push, IsDistinct-turned, Contains-head, Contains-tail}

-- no less is there: variables, guards, and clauses in whichever guards are given
pub record Grows (p q : Problem) : Type 0 where
  pub vars : (v : ℕ) → IsProblemVar p v → IsProblemVar q v
  pub live : (v : ℕ) → IsLiveVar p v → IsLiveVar q v
  pub active : (g : ℕ) → Contains p.active g → Contains q.active g
  pub full : (c : List ℕ) → Contains (full p) c → Contains (full q) c
  pub in_force : (given c : List ℕ) → Contains (in_force p given) c → Contains (in_force q given) c

pub Satisfies-fewer : (cs ds : List (List ℕ)) (values : List Bool) → ((c : List ℕ) → Contains cs c → Contains ds c) → Satisfies values ds → Satisfies values cs
Satisfies-fewer cs ds values f s = record { each = λ k d lt. All-contains (λ c. clause_true values c ≡ true) ds _ s.each (f _ (Contains-get_or cs k d lt)) }

module _ (p q : Problem) (g : Grows p q) where
  pub assumable_grows : (l : ℕ) → IsAssumable p l → IsAssumable q l
  assumable_grows l (inl h) = inl (g.vars (l / 2) h)
  assumable_grows l (inr h) = let f = guard_facts p l h in inr (guard_from q l (record { even = f.even; active = g.active (l / 2) f.active }))

  pub implied_grows : (c : List ℕ) → IsImplied p c → IsImplied q c
  implied_grows c h = record { each = λ values s. h.each values (Satisfies-fewer (full p) (full q) values g.full s) }

  pub fails_more : (w : List ℕ) → Fail (in_force p w) w → Fail (in_force q w) w
  fails_more w h values s t = h values (Satisfies-fewer (in_force p w) (in_force q w) values (g.in_force w) s) t

  pub plain_grows : (c : List ℕ) → IsPlain p c → IsPlain q c
  plain_grows c h = All-weaker (λ l. IsProblemVar p (l / 2)) (λ l. IsProblemVar q (l / 2)) (λ l. g.vars (l / 2)) c h

  pub group_grows : (r : Group) → IsGroup p r → IsGroup q r
  group_grows r h = (plain_grows r.clause h.0, All-weaker (Contains p.active) (Contains q.active) g.active r.guards h.1, h.2)

-- variables
pub grows_grown : (n : ℕ) (p : Problem) → Grows p (grown n p)
unfolding full in_force
grows_grown n p = record {
  vars = λ v h. let f = var_facts p v h in var_from (grown n p) v (record { low = f.low; high = omega arith; inactive = f.inactive; unfreed = f.unfreed });
  live = λ v h. let a = h.1 in (h.0, omega arith, h.2);
  active = λ g h. h;
  full = λ c h. h;
  in_force = λ given c h. h;
}

pub IsWellFormed-grown : (n : ℕ) (p : Problem) → IsWellFormed p → IsWellFormed (grown n p)
IsWellFormed-grown n p h = record {
  plain = All-weaker (IsPlain p) (IsPlain (grown n p)) (plain_grows p (grown n p) (grows_grown n p)) p.plain h.plain;
  groups = All-weaker (IsGroup p) (IsGroup (grown n p)) (group_grows p (grown n p) (grows_grown n p)) p.groups h.groups;
  distinct = h.distinct;
  low = h.low;
  high = λ k d lt. let a = h.high k d lt in omega arith;
}

abbrev pub IsUsable : Problem → ℕ → Type 0
IsUsable p l = IsProblemVar p (l / 2) ⊎ (p.vars < l / 2)

-- a usable literal is one of the grown problem
pub usable_grown : (n : ℕ) (p : Problem) (l : ℕ) → IsWellFormed p → IsUsable p l → l / 2 ≤ n → IsProblemVar (grown n p) (l / 2)
usable_grown n p l h (inl a) le = (grows_grown n p).vars (l / 2) a
usable_grown n p l h (inr lt) le = var_from (grown n p) (l / 2) (record {
  low = omega arith;
  high = omega arith;
  inactive = λ c. let b : l / 2 ≤ p.vars = All-contains (λ g. g ≤ p.vars) (p.freed ++ p.active) _ h.high (Contains-append_right p.freed p.active _ c) in omega arith;
  unfreed = λ c. let b : l / 2 ≤ p.vars = All-contains (λ g. g ≤ p.vars) (p.freed ++ p.active) _ h.high (Contains-append_left p.freed p.active _ c) in omega arith;
})

pub usable_plain : (p : Problem) (c : List ℕ) → IsWellFormed p → All (IsUsable p) c → IsPlain (grown (top c) p) c
usable_plain p c h u = λ k d lt. usable_grown (top c) p (get_or c k d) h (u k d lt) (top_bounds c k d lt)

-- a clause more
pub grows_clause : (c : List ℕ) (p : Problem) → Grows p (with_clause c p)
unfolding full in_force
grows_clause c p = record {
  vars = (grows_grown (top c) p).vars;
  live = (grows_grown (top c) p).live;
  active = λ g h. h;
  full = λ d h. elim (Contains-append_cases p.plain (map guarded p.groups) d h) [
    | inl a ↦ Contains-append_left (p.plain ++ c ∷ []) (map guarded p.groups) d (Contains-append_left p.plain (c ∷ []) d a)
    | inr b ↦ Contains-append_right (p.plain ++ c ∷ []) (map guarded p.groups) d b
  ];
  in_force = λ given d h. elim (Contains-append_cases p.plain (forced given p.groups) d h) [
    | inl a ↦ Contains-append_left (p.plain ++ c ∷ []) (forced given p.groups) d (Contains-append_left p.plain (c ∷ []) d a)
    | inr b ↦ Contains-append_right (p.plain ++ c ∷ []) (forced given p.groups) d b
  ];
}

pub IsWellFormed-clause : (c : List ℕ) (p : Problem) → All (IsUsable p) c → IsWellFormed p → IsWellFormed (with_clause c p)
IsWellFormed-clause c p u h =
    let g = IsWellFormed-grown (top c) p h in
    record { plain = All-push (IsPlain (with_clause c p)) p.plain c g.plain (usable_plain p c h u); groups = g.groups; distinct = g.distinct; low = g.low; high = g.high }

-- a group more
map_push : (qs : List Group) (q : Group) (d : List ℕ) → Contains (map guarded qs) d → Contains (map guarded (qs ++ q ∷ [])) d
map_push qs q d h = subst (λ cs. Contains cs d) (sym (same qs)) (Contains-append_left (map guarded qs) (guarded q ∷ []) d h)
  where
    same : (rs : List Group) → map guarded (rs ++ q ∷ []) ≡ map guarded rs ++ guarded q ∷ []
    same [] = refl
    same (r ∷ rs) = ap (λ cs. guarded r ∷ cs) (same rs)

forced_push : (given : List ℕ) (qs : List Group) (q : Group) → forced given (qs ++ q ∷ []) ≡ forced given qs ++ forced given (q ∷ [])
forced_push given [] q = refl
forced_push given (p ∷ ps) q = go (are_given given p.guards) (forced_push given ps q)
  where
    go : (b : Bool) → forced given (ps ++ q ∷ []) ≡ forced given ps ++ forced given (q ∷ [])
        → cond b (p.clause ∷ forced given (ps ++ q ∷ [])) (forced given (ps ++ q ∷ [])) ≡ cond b (p.clause ∷ forced given ps) (forced given ps) ++ forced given (q ∷ [])
    go true e = ap (λ cs. p.clause ∷ cs) e
    go false e = e

pub grows_group : (gs c : List ℕ) (p : Problem) → Grows p (with_group gs c p)
unfolding full in_force
grows_group gs c p = record {
  vars = (grows_grown (top c) p).vars;
  live = (grows_grown (top c) p).live;
  active = λ g h. h;
  full = λ d h. elim (Contains-append_cases p.plain (map guarded p.groups) d h) [
    | inl a ↦ Contains-append_left p.plain (map guarded (with_group gs c p).groups) d a
    | inr b ↦ Contains-append_right p.plain (map guarded (with_group gs c p).groups) d (map_push p.groups _ d b)
  ];
  in_force = λ given d h. elim (Contains-append_cases p.plain (forced given p.groups) d h) [
    | inl a ↦ Contains-append_left p.plain (forced given (with_group gs c p).groups) d a
    | inr b ↦ Contains-append_right p.plain (forced given (with_group gs c p).groups) d (subst (λ cs. Contains cs d) (sym (forced_push given p.groups _)) (Contains-append_left (forced given p.groups) _ d b))
  ];
}

pub IsWellFormed-group : (gs c : List ℕ) (p : Problem) → 0 < length gs → All (Contains p.active) gs → All (IsUsable p) c → IsWellFormed p → IsWellFormed (with_group gs c p)
IsWellFormed-group gs c p some a u h =
    let w = IsWellFormed-grown (top c) p h in
    record { plain = w.plain; groups = All-push (IsGroup (with_group gs c p)) p.groups _ w.groups (usable_plain p c h u, a, some); distinct = w.distinct; low = w.low; high = w.high }

-- a guard more
pub grows_guard : (p : Problem) (fs : List ℕ) → p.freed ≡ fs → IsWellFormed p → Grows p (guard_made p fs)
unfolding full in_force
grows_guard p [] e h = record {
  vars = λ v x. let f = var_facts p v x in var_from (guard_made p []) v (record { low = f.low; high = let b = f.high in omega arith; inactive = λ c. elim (Contains-push_cases p.active (p.vars + 1) v c) [ inl a ↦ f.inactive a | inr q ↦ let b = f.high in omega arith ]; unfreed = f.unfreed });
  live = λ v x. let b = x.1 in (x.0, omega arith, x.2);
  active = λ g c. Contains-append_left p.active ((p.vars + 1) ∷ []) g c;
  full = λ c x. x;
  in_force = λ given c x. x;
}
grows_guard p (g ∷ gs) e h = record {
  vars = λ v x. let f = var_facts p v x in var_from (guard_made p (g ∷ gs)) v (record { low = f.low; high = f.high; inactive = λ c. elim (Contains-push_cases p.active g v c) [ inl a ↦ f.inactive a | inr q ↦ f.unfreed (rw e (subst (Contains (g ∷ gs)) q (Contains-head g gs))) ]; unfreed = λ c. f.unfreed (rw e (Contains-tail g gs v c)) });
  live = λ v x. (x.0, x.1, λ c. x.2 (rw e (Contains-tail g gs v c)));
  active = λ a c. Contains-append_left p.active (g ∷ []) a c;
  full = λ c x. x;
  in_force = λ given c x. x;
}

pub IsWellFormed-guard : (p : Problem) (fs : List ℕ) → p.freed ≡ fs → IsWellFormed p → IsWellFormed (guard_made p fs)
IsWellFormed-guard p [] e h =
    let g = grows_guard p [] e h in
    let d : IsDistinct p.active = rw e at h.distinct in
    let lo : All (λ x. 1 ≤ x) p.active = rw e at h.low in
    let hi : All (λ x. x ≤ p.vars) p.active = rw e at h.high in
    record {
      plain = All-weaker (IsPlain p) (IsPlain (guard_made p [])) (plain_grows p (guard_made p []) g) p.plain h.plain;
      groups = All-weaker (IsGroup p) (IsGroup (guard_made p [])) (group_grows p (guard_made p []) g) p.groups h.groups;
      distinct = rw e (IsDistinct-push p.active (p.vars + 1) (λ c. let b : p.vars + 1 ≤ p.vars = All-contains (λ x. x ≤ p.vars) p.active _ hi c in omega arith) d);
      low = rw e (All-push (λ x. 1 ≤ x) p.active (p.vars + 1) lo (omega arith));
      high = rw e (All-push (λ x. x ≤ p.vars + 1) p.active (p.vars + 1) (All-weaker (λ x. x ≤ p.vars) (λ x. x ≤ p.vars + 1) (λ x b. omega arith) p.active hi) (omega arith));
    }
IsWellFormed-guard p (g ∷ gs) e h =
    let w = grows_guard p (g ∷ gs) e h in
    let d : IsDistinct (g ∷ (gs ++ p.active)) = rw e at h.distinct in
    record {
      plain = All-weaker (IsPlain p) (IsPlain (guard_made p (g ∷ gs))) (plain_grows p (guard_made p (g ∷ gs)) w) p.plain h.plain;
      groups = All-weaker (IsGroup p) (IsGroup (guard_made p (g ∷ gs))) (group_grows p (guard_made p (g ∷ gs)) w) p.groups h.groups;
      distinct = IsDistinct-turned g gs p.active d;
      low = turned (λ x. 1 ≤ x) (rw e at h.low);
      high = turned (λ x. x ≤ p.vars) (rw e at h.high);
    }
  where
    turned : (P : ℕ → Type 0) → All P (g ∷ (gs ++ p.active)) → All P (gs ++ (p.active ++ g ∷ []))
    turned P a = rw (← append_assoc gs p.active (g ∷ [])) (All-push P (gs ++ p.active) g (All-tail P g (gs ++ p.active) a) (All-head P g (gs ++ p.active) a))
