-- What a store keeps when it is edited.
use Rattle.std.proofs.Common.{◌≡◌, ℕ, ◌+◌, ◌-◌, ◌/◌, ◌<◌, ◌≤◌, ◌==◌, not, List, [], ◌∷◌, ◌++◌, length, map, max, get_or, set, replicate, refl, sym, ap, ◌∙◌, subst, arith, inl, inr, get_or-set_other, get_or-set_same}
use Rattle.std.specs.List.{All, Contains}
use Rattle.std.proofs.lemmas.Bool.{cases_lt, cases_eq, ne_eqb, not_from_false}
use Rattle.std.proofs.lemmas.List.{map_push, get_or_append_left, get_or_push, drop-map, get_or-append_right, get_or-replicate}
use Rattle.std.proofs.lemmas.List.Elements.{All-push, All-weaker, All-filter, All-drop, All-contains, Contains-append_left, Contains-append_right, Contains-push, Contains-push_cases}
use Rattle.gi_lit.specs.Literals.{max_var}
use Rattle.gi_lit.specs.Problem.{Problem, Group, has, IsPlain, IsGroup, IsWellFormed, names, without, without_groups, without_var, without_guard, guard_made}
use Rattle.gi_lit.proofs.Vars.{var_facts, var_from}
use Rattle.gi_lit.proofs.Growing.{grows_grown, IsWellFormed-grown, IsWellFormed-guard}
use Rattle.gi_lit.proofs.Dropping.{IsWellFormed-dropped}
use Rattle.gi_lit.proofs.Distinct.{filter-has, IsDistinct-apart}
use Rattle.slab.proofs.SlabLemmas.{Contains-cons, Contains-cons_cases}
use Rattle.gi_store.specs.StoreView.{Entry, GroupEntry, StoreView, problem_of, known_of, IsWithin, with_plain, with_under, with_learnt, with_new_guard, without_guard_of, trimmed}
use Rattle.gi_store.specs.Whole.{IsWhole, IsKind, IsTable}
use Rattle.gi_store.specs.declared.kind.VarKind.{VarKind}
use Rattle.gi_store.specs.declared.kind.VarKind.TheVariants as kind
use Rattle.gi_store.proofs.Lists.{filter_of_map, Contains-head, Contains-filter}

abbrev lits_of : Entry → List ℕ
lits_of e = e.lits

abbrev key_of : Entry → ℕ
key_of e = e.key

abbrev pub group_in : GroupEntry → Group
group_in q = record { guards = q.guards; clause = q.clause }

-- the kinds of the same variables and guards are the same
pub kind_same : (h i : StoreView) (v : ℕ) (k : VarKind) → i.vars ≡ h.vars → i.active ≡ h.active → i.freed ≡ h.freed → IsKind h v k → IsKind i v k
kind_same h i v kind.Problem a b c x = let f = var_facts (problem_of h) v x in var_from (problem_of i) v (record { low = f.low; high = rw a f.high; inactive = rw b f.inactive; unfreed = rw c f.unfreed })
kind_same h i v kind.Active a b c x = rw b x
kind_same h i v kind.Freed a b c x = rw c x
kind_same h i v kind.Beyond a b c x = rw a x

pub table_same : (h i : StoreView) (kinds : List VarKind) → i.vars ≡ h.vars → i.active ≡ h.active → i.freed ≡ h.freed → IsTable h kinds → IsTable i kinds
table_same h i kinds a b c t = record { each = λ v low high. kind_same h i v (get_or kinds (v - 1) kind.Problem) a b c (t.each v low (rw (← a) high)) }

-- one clause more
module _ (h : StoreView) (w : IsWhole h) (key : ℕ) (c : List ℕ) where
  pub whole_plain : IsPlain (problem_of h) c → IsWhole (with_plain key c h)
  whole_plain p = record {
    well_formed = record {
      plain = rw (map_push lits_of h.plain (record { key = key; lits = c })) (All-push (IsPlain (problem_of h)) (map lits_of h.plain) c w.well_formed.plain p);
      groups = w.well_formed.groups;
      distinct = w.well_formed.distinct;
      low = w.well_formed.low;
      high = w.well_formed.high;
    };
    limit = w.limit;
    known = w.known;
  }

  pub whole_under : (gs : List ℕ) → 0 < length gs → All (Contains h.active) gs → IsPlain (problem_of h) c → IsWhole (with_under key gs c h)
  whole_under gs some a p = record {
    well_formed = record {
      plain = w.well_formed.plain;
      groups = rw (map_push group_in h.groups (record { key = key; guards = gs; clause = c })) (All-push (IsGroup (problem_of h)) (map group_in h.groups) (record { guards = gs; clause = c }) w.well_formed.groups (p, a, some));
      distinct = w.well_formed.distinct;
      low = w.well_formed.low;
      high = w.well_formed.high;
    };
    limit = w.limit;
    known = w.known;
  }

  pub whole_learnt : IsWithin h.vars c → IsWhole (with_learnt key c h)
  whole_learnt p = record {
    well_formed = w.well_formed;
    limit = w.limit;
    known = rw (map_push lits_of h.learnt (record { key = key; lits = c })) (All-push (IsWithin h.vars) (map lits_of h.learnt) c w.known p);
  }

within_more : (n m : ℕ) → n ≤ m → (c : List ℕ) → IsWithin n c → IsWithin m c
within_more n m le c = All-weaker (λ l. (1 ≤ l / 2) × (l / 2 ≤ n)) (λ l. (1 ≤ l / 2) × (l / 2 ≤ m)) (λ l x. let b = x.1 in (x.0, omega arith)) c

pub known_more : (n m : ℕ) → n ≤ m → (cs : List (List ℕ)) → All (IsWithin n) cs → All (IsWithin m) cs
known_more n m le cs = All-weaker (IsWithin n) (IsWithin m) (within_more n m le) cs

-- more variables
module _ (h : StoreView) (w : IsWhole h) (n : ℕ) (limit : n ≤ max_var) where
  pub whole_grown : IsWhole (record h { vars = max h.vars n })
  whole_grown = record { well_formed = IsWellFormed-grown n (problem_of h) w.well_formed; limit = omega (arith, w.limit); known = known_more h.vars (max h.vars n) (omega arith) (known_of h) w.known }

  pub table_grown : (kinds : List VarKind) → length kinds ≡ h.vars → IsTable h kinds → IsTable (record h { vars = max h.vars n }) (kinds ++ replicate (n - h.vars) kind.Problem)
  table_grown kinds len t = record {
    each = λ v low high. elim (cases_lt (v - 1) (length kinds)) [
      | inl lt ↦ subst (IsKind (record h { vars = max h.vars n }) v) (sym (get_or_append_left kinds (replicate (n - h.vars) kind.Problem) kind.Problem (v - 1) lt)) (more v (omega (arith, len)) _ (t.each v low (omega (arith, len))))
      | inr le ↦ subst (IsKind (record h { vars = max h.vars n }) v) (sym (get_or-append_right kinds (replicate (n - h.vars) kind.Problem) (length kinds) (v - 1) kind.Problem refl le ∙ get_or-replicate (n - h.vars) (v - 1 - length kinds) kind.Problem kind.Problem (omega (arith, len))))
          (var_from (problem_of (record h { vars = max h.vars n })) v (record {
            low = low;
            high = high;
            inactive = λ c. let b = guards_high v (Contains-append_right h.freed h.active v c) in omega (arith, len, b);
            unfreed = λ c. let b = guards_high v (Contains-append_left h.freed h.active v c) in omega (arith, len, b);
          }))
    ];
  }
    where
      guards_high : (v : ℕ) → Contains (h.freed ++ h.active) v → v ≤ h.vars
      guards_high v c = All-contains (λ g. g ≤ h.vars) (h.freed ++ h.active) v w.well_formed.high c

      more : (v : ℕ) → v ≤ h.vars → (k : VarKind) → IsKind h v k → IsKind (record h { vars = max h.vars n }) v k
      more v le kind.Problem x = (grows_grown n (problem_of h)).vars v x
      more v le kind.Active x = x
      more v le kind.Freed x = x
      more v le kind.Beyond x = absurd (omega arith)

-- an active guard goes
pub problem_without : (g : ℕ) (h : StoreView) → problem_of (without_guard_of g h) ≡ without_guard g (problem_of h)
unfolding without_groups
problem_without g h = ap (λ (qs : List Group). make qs) (sym (filter_of_map group_in (λ (q : Group). not (has q.guards g)) h.groups))
  where
    make : List Group → Problem
    make qs = record { vars = h.vars; plain = map lits_of h.plain; groups = qs; active = without g h.active; freed = g ∷ h.freed }

pub known_without : (g : ℕ) (h : StoreView) → known_of (without_guard_of g h) ≡ without_var g (known_of h)
unfolding without_var
known_without g h = sym (filter_of_map lits_of (λ c. not (names g c)) h.learnt)

module _ (h : StoreView) (w : IsWhole h) (g : ℕ) (act : Contains h.active g) where
  pub whole_without : IsWhole (without_guard_of g h)
  unfolding without_var
  whole_without = record {
    well_formed = subst IsWellFormed (sym (problem_without g h)) (IsWellFormed-dropped g (problem_of h) w.well_formed act);
    limit = w.limit;
    known = rw (known_without g h) (All-filter (λ c. not (names g c)) (IsWithin h.vars) (known_of h) w.known);
  }

  g_low : 1 ≤ g
  g_low = All-contains (λ x. 1 ≤ x) (h.freed ++ h.active) g w.well_formed.low (Contains-append_right h.freed h.active g act)

  pub g_high : g ≤ h.vars
  g_high = All-contains (λ x. x ≤ h.vars) (h.freed ++ h.active) g w.well_formed.high (Contains-append_right h.freed h.active g act)

  pub table_without : (kinds : List VarKind) → length kinds ≡ h.vars → IsTable h kinds → IsTable (without_guard_of g h) (set kinds (g - 1) kind.Freed)
  unfolding without
  table_without kinds len t = record {
    each = λ v low high. elim (cases_eq v g) [
      | inl e ↦ subst (IsKind (without_guard_of g h) v) (sym (ap (λ i. get_or (set kinds (g - 1) kind.Freed) (i - 1) kind.Problem) e ∙ get_or-set_same kinds (g - 1) kind.Freed kind.Problem (omega (arith, len, g_low, g_high)))) (subst (Contains (g ∷ h.freed)) (sym e) (Contains-head g h.freed))
      | inr n ↦ subst (IsKind (without_guard_of g h) v) (sym (get_or-set_other kinds (g - 1) (v - 1) kind.Freed kind.Problem (λ x. n (omega (arith, x, low, g_low))))) (other v n _ (t.each v low high))
    ];
  }
    where
      other : (v : ℕ) → (v ≡ g → ⊥) → (k : VarKind) → IsKind h v k → IsKind (without_guard_of g h) v k
      other v n kind.Problem x =
          let f = var_facts (problem_of h) v x in
          var_from (problem_of (without_guard_of g h)) v (record {
            low = f.low;
            high = f.high;
            inactive = λ c. let a = Contains-filter (λ y. not (y == g)) h.active v c in f.inactive a.0;
            unfreed = λ c. elim (Contains-cons_cases g v h.freed c) [ inl e ↦ n (sym e) | inr r ↦ f.unfreed r ];
          })
      other v n kind.Active x = filter-has (λ y. not (y == g)) h.active v (not_from_false _ (ne_eqb v g n)) x
      other v n kind.Freed x = Contains-cons g v h.freed x
      other v n kind.Beyond x = x

-- a guard comes
module _ (h : StoreView) (w : IsWhole h) where
  abbrev made : List ℕ → Problem
  made fs = record {
    vars = (guard_made (problem_of h) fs).vars;
    plain = map lits_of h.plain;
    groups = map group_in h.groups;
    active = (guard_made (problem_of h) fs).active;
    freed = (guard_made (problem_of h) fs).freed;
  }

  pub whole_next : h.freed ≡ [] → h.vars < max_var → IsWhole (with_new_guard h)
  whole_next e lt = record {
    well_formed = subst (λ fs. IsWellFormed (made fs)) (sym e) (IsWellFormed-guard (problem_of h) [] e w.well_formed);
    limit = rw e (omega arith);
    known = known_more h.vars (with_new_guard h).vars (rw e (omega arith)) (known_of h) w.known;
  }

  pub whole_again : (g : ℕ) (gs : List ℕ) → h.freed ≡ g ∷ gs → IsWhole (with_new_guard h)
  whole_again g gs e = record {
    well_formed = subst (λ fs. IsWellFormed (made fs)) (sym e) (IsWellFormed-guard (problem_of h) (g ∷ gs) e w.well_formed);
    limit = rw e w.limit;
    known = rw e w.known;
  }

  abbrev next_held : StoreView
  next_held = record h { vars = h.vars + 1; active = h.active ++ (h.vars + 1) ∷ []; freed = [] }

  pub table_next : h.freed ≡ [] → (kinds : List VarKind) → length kinds ≡ h.vars → IsTable h kinds → IsTable next_held (kinds ++ kind.Active ∷ [])
  table_next e kinds len t = record {
    each = λ v low high. elim (cases_lt (v - 1) (length kinds)) [
      | inl lt ↦ subst (IsKind next_held v) (sym (get_or_append_left kinds (kind.Active ∷ []) kind.Problem (v - 1) lt)) (more v (omega (arith, len)) _ (t.each v low (omega (arith, len))))
      | inr le ↦ subst (IsKind next_held v) (sym (get_or_push kinds kind.Active kind.Problem (v - 1) (omega (arith, len, high))))
          (subst (Contains next_held.active) (let q : h.vars + 1 ≡ v = omega (arith, len, high) in q) (Contains-push h.active (h.vars + 1)))
    ];
  }
    where
      more : (v : ℕ) → v ≤ h.vars → (k : VarKind) → IsKind h v k → IsKind next_held v k
      more v le kind.Problem x =
          let f = var_facts (problem_of h) v x in
          var_from (problem_of next_held) v (record {
            low = f.low;
            high = omega (arith, f.high);
            inactive = λ c. elim (Contains-push_cases h.active (h.vars + 1) v c) [ inl a ↦ f.inactive a | inr q ↦ omega arith ];
            unfreed = λ c. omega (arith, c.1);
          })
      more v le kind.Active x = Contains-append_left h.active ((h.vars + 1) ∷ []) v x
      more v le kind.Freed x = rw e at x
      more v le kind.Beyond x = absurd (omega arith)

  module _ (g : ℕ) (gs : List ℕ) (e : h.freed ≡ g ∷ gs) where
    abbrev again_held : StoreView
    again_held = record h { active = h.active ++ g ∷ []; freed = gs }

    in_freed : Contains h.freed g
    in_freed = rw e (Contains-head g gs)

    f_low : 1 ≤ g
    f_low = All-contains (λ x. 1 ≤ x) (h.freed ++ h.active) g w.well_formed.low (Contains-append_left h.freed h.active g in_freed)

    pub f_high : g ≤ h.vars
    f_high = All-contains (λ x. x ≤ h.vars) (h.freed ++ h.active) g w.well_formed.high (Contains-append_left h.freed h.active g in_freed)

    pub table_again : (kinds : List VarKind) → length kinds ≡ h.vars → IsTable h kinds → IsTable again_held (set kinds (g - 1) kind.Active)
    table_again kinds len t = record {
      each = λ v low high. elim (cases_eq v g) [
        | inl q ↦ subst (IsKind again_held v) (sym (ap (λ i. get_or (set kinds (g - 1) kind.Active) (i - 1) kind.Problem) q ∙ get_or-set_same kinds (g - 1) kind.Active kind.Problem (omega (arith, len, f_low, f_high)))) (subst (Contains again_held.active) (sym q) (Contains-push h.active g))
        | inr n ↦ subst (IsKind again_held v) (sym (get_or-set_other kinds (g - 1) (v - 1) kind.Active kind.Problem (λ x. n (omega (arith, x, low, f_low))))) (other v n _ (t.each v low high))
      ];
    }
      where
        other : (v : ℕ) → (v ≡ g → ⊥) → (k : VarKind) → IsKind h v k → IsKind again_held v k
        other v n kind.Problem x =
            let f = var_facts (problem_of h) v x in
            var_from (problem_of again_held) v (record {
              low = f.low;
              high = f.high;
              inactive = λ c. elim (Contains-push_cases h.active g v c) [ inl a ↦ f.inactive a | inr q ↦ n (sym q) ];
              unfreed = λ c. f.unfreed (rw e (Contains-cons g v gs c));
            })
        other v n kind.Active x = Contains-append_left h.active (g ∷ []) v x
        other v n kind.Freed x = elim (Contains-cons_cases g v gs (rw e at x)) [ inl q ↦ absurd (n (sym q)) | inr r ↦ r ]
        other v n kind.Beyond x = x

-- the older learnt clauses go
pub whole_trimmed : (h : StoreView) → IsWhole h → IsWhole (trimmed h)
whole_trimmed h w = record { well_formed = w.well_formed; limit = w.limit; known = rw (← drop-map lits_of (length h.learnt / 2) h.learnt) (All-drop (IsWithin h.vars) (length h.learnt / 2) (known_of h) w.known) }

-- what is of another kind is no active guard
pub not_active : (h : StoreView) → IsWhole h → (v : ℕ) (k : VarKind) → IsKind h v k → (k ≡ kind.Active → ⊥) → ¬ Contains h.active v
not_active h w v kind.Problem x n m = let f = var_facts (problem_of h) v x in f.inactive m
not_active h w v kind.Active x n m = n refl
not_active h w v kind.Freed x n m = IsDistinct-apart h.freed h.active v w.well_formed.distinct x m
not_active h w v kind.Beyond x n m = let b = All-contains (λ g. g ≤ h.vars) (h.freed ++ h.active) v w.well_formed.high (Contains-append_right h.freed h.active v m) in omega (arith, x, b)
