-- What is true of the clauses that a store has.
use Rattle.std.proofs.Common.{ℕ, ◌/◌, ◌≤◌, List, [], ◌++◌, sym, subst, arith, inl, inr}
use Rattle.std.specs.List.{All, Contains}
use Rattle.std.proofs.lemmas.List.Elements.{All-append, All-weaker, All-contains, Contains-append_right}
use Rattle.gi_lit.specs.Problem.{IsWellFormed, full}
use Rattle.gi_lit.specs.Guards.{IsGuardedLit}
use Rattle.gi_lit.proofs.Resting.{rests, problem_or_guard}
use Rattle.gi_lit.proofs.Vars.{var_facts}
use Rattle.gi_store.specs.StoreView.{StoreView, Holds, IsWithin, problem_of, known_of}
use Rattle.gi_store.specs.Whole.{IsWhole}
use Rattle.gi_cdcl.specs.Sound.{stored, IsUsed}
use Rattle.gi_cdcl.proofs.Uip.{holds_stored}
use Rattle.gi_cdcl.proofs.Teaching.{stored_is}

module _ (h : StoreView) (w : IsWellFormed (problem_of h)) where
  -- the full clauses are of problem variables and active guards
  pub full_used : All (All (IsUsed h)) (full (problem_of h))
  full_used = All-weaker (All (IsGuardedLit (problem_of h))) (All (IsUsed h)) (λ c a. All-weaker (IsGuardedLit (problem_of h)) (IsUsed h) (problem_or_guard (problem_of h)) c a) (full (problem_of h)) (rests (problem_of h) [] w).lits

  pub used_within : (l : ℕ) → IsUsed h l → (1 ≤ l / 2) × (l / 2 ≤ h.vars)
  used_within l (inl v) = let f = var_facts (problem_of h) (l / 2) v in (f.low, f.high)
  used_within l (inr g) =
      let there : Contains (h.freed ++ h.active) (l / 2) = Contains-append_right h.freed h.active (l / 2) g in
      (All-contains (λ g. 1 ≤ g) (h.freed ++ h.active) (l / 2) w.low there, All-contains (λ g. g ≤ h.vars) (h.freed ++ h.active) (l / 2) w.high there)

-- and the learnt ones too, where these are
pub all_used : (h : StoreView) → IsWellFormed (problem_of h) → All (All (IsUsed h)) (known_of h) → All (All (IsUsed h)) (stored h)
all_used h w k = subst (All (All (IsUsed h))) (sym (stored_is h)) (All-append (All (IsUsed h)) (full (problem_of h)) (known_of h) (full_used h w) k)

-- each stored clause is of variables of the store
pub all_within : (h : StoreView) → IsWhole h → All (IsWithin h.vars) (stored h)
all_within h w = subst (All (IsWithin h.vars)) (sym (stored_is h)) (All-append (IsWithin h.vars) (full (problem_of h)) (known_of h) (λ k d lt i e il. used_within h w.well_formed _ (full_used h w.well_formed k d lt i e il)) w.known)

pub all_within_more : (h : StoreView) → IsWhole h → (n : ℕ) → h.vars ≤ n → All (IsWithin n) (stored h)
all_within_more h w n le = λ k d lt i e il. let r = all_within h w k d lt i e il in (r.0, omega (arith, r.1, le))

pub holds_within : (h : StoreView) → IsWhole h → (key : ℕ) (c : List ℕ) → Holds h key c → (n : ℕ) → h.vars ≤ n → IsWithin n c
holds_within h w key c held n le = λ k d lt. let r = All-contains (IsWithin h.vars) (stored h) c (all_within h w) (holds_stored h key c held) k d lt in (r.0, omega (arith, r.1, le))
