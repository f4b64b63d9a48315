-- Tests of variables and what they mean.
use Rattle.std.proofs.Common.{◌≡◌, ℕ, ◌*◌, ◌/◌, ◌<◌, ◌≤◌, true, false, nat_eq, List, get_or, sym, subst, ◌⊎◌, inl, inr}
use Rattle.std.specs.List.{Contains}
use Rattle.std.proofs.lemmas.Bool.{eqb-true, eq-eqb, both_ways, and_parts, and_from, leb-true, leb-false, le-leb, not-true, not_from_false, false_from_ne_true, or_cases}
use Rattle.std.proofs.lemmas.List.Folds.{list_any_at, Any-from_list_any}
use Rattle.gi_lit.specs.Problem.{Problem, has, is_usable, is_guard_lit, IsProblemVar}

pub Contains-from_has : (xs : List ℕ) (x : ℕ) → has xs x ≡ true → Contains xs x
Contains-from_has xs x h =
    let a = Any-from_list_any (nat_eq x) xs h in
    let e : x ≡ a.1 = eqb-true x a.1 a.4 in
    let c : Contains xs a.1 = (a.0, a.2, a.3) in
    subst (Contains xs) (sym e) c

pub has-from_Contains : (xs : List ℕ) (x : ℕ) → Contains xs x → has xs x ≡ true
has-from_Contains xs x h = list_any_at (nat_eq x) xs h.0 x h.1 (eq-eqb x (get_or xs h.0 x) (sym h.2))

pub lacks : (xs : List ℕ) (x : ℕ) → ¬ Contains xs x → has xs x ≡ false
lacks xs x n = false_from_ne_true (has xs x) (λ h. n (Contains-from_has xs x h))

pub lacks_none : (xs : List ℕ) (x : ℕ) → has xs x ≡ false → ¬ Contains xs x
lacks_none xs x e c = both_ways (has xs x) e (has-from_Contains xs x c)

pub record IsVar (p : Problem) (v : ℕ) : Type 0 where
  pub low : 1 ≤ v
  pub high : v ≤ p.vars
  pub inactive : ¬ Contains p.active v
  pub unfreed : ¬ Contains p.freed v

pub var_facts : (p : Problem) (v : ℕ) → IsProblemVar p v → IsVar p v
var_facts p v h =
    let a = and_parts _ _ h in
    let b = and_parts _ _ a.0 in
    let c = and_parts _ _ b.0 in
    record { low = leb-true 1 v c.0; high = leb-true v p.vars c.1; inactive = lacks_none p.active v (not-true _ b.1); unfreed = lacks_none p.freed v (not-true _ a.1) }

pub var_from : (p : Problem) (v : ℕ) → IsVar p v → IsProblemVar p v
var_from p v h = and_from _ _ (and_from _ _ (and_from _ _ (le-leb 1 v h.low) (le-leb v p.vars h.high)) (not_from_false _ (lacks p.active v h.inactive))) (not_from_false _ (lacks p.freed v h.unfreed))

pub record IsGuard (p : Problem) (l : ℕ) : Type 0 where
  pub even : l ≡ 2 * (l / 2)
  pub active : Contains p.active (l / 2)

pub guard_facts : (p : Problem) (l : ℕ) → is_guard_lit p l ≡ true → IsGuard p l
guard_facts p l h =
    let a = and_parts _ _ h in
    record { even = eqb-true l (2 * (l / 2)) a.0; active = Contains-from_has p.active (l / 2) a.1 }

pub guard_from : (p : Problem) (l : ℕ) → IsGuard p l → is_guard_lit p l ≡ true
guard_from p l h = and_from _ _ (eq-eqb l (2 * (l / 2)) h.even) (has-from_Contains p.active (l / 2) h.active)

-- a usable literal is of a problem variable once its variable is there
pub usable_facts : (p : Problem) (l : ℕ) → is_usable p l ≡ true → IsProblemVar p (l / 2) ⊎ (p.vars < l / 2)
usable_facts p l h = elim (or_cases _ _ h) [ inl a ↦ inl a | inr b ↦ inr (leb-false (l / 2) p.vars (not-true _ b)) ]
