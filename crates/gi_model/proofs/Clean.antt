-- A guard that is handed out is clean; histories that go on.
use Rattle.std.proofs.Common.{◌≡◌, ◌≢◌, ℕ, ◌+◌, ◌*◌, ◌/◌, ◌≤◌, Option, Some, None, List, [], ◌∷◌, ◌++◌, map, get_or, refl, arith, inl, inr}
use Rattle.std.specs.List.{All, Contains}
use Rattle.std.proofs.lemmas.List.Elements.{All-append, All-cons, All-nil, All-contains, All-weaker, All-map, Contains-append_right}
use Rattle.gi_lit.specs.Problem.{Problem, Group, negatives, guarded, full, guard_next, guard_made, next_guard, with_guard, IsProblemVar, IsPlain, IsLiveVar, IsAssumable, IsGroup, IsWellFormed}
use Rattle.gi_lit.proofs.Vars.{var_facts, guard_facts}
use Rattle.gi_lit.proofs.Distinct.{IsDistinct-apart, Contains-head}
use Rattle.gi_model.specs.State.{State, scope_assumed}
use Rattle.gi_model.specs.Refusals.{refuses}
use Rattle.gi_model.specs.Effects.{after, edited, with_problem}
use Rattle.gi_model.specs.History.{Allows, Replied}
use Rattle.gi_model.specs.Kept.{run_assumed, IsKept}
use Rattle.gi_model.specs.Laws.{IsWithout, IsClean}
use Rattle.gi_model.specs.declared.calls.Call.TheVariants.{NewGuard}
use Rattle.gi_model.specs.declared.replies.Reply.TheVariants as reply
use Rattle.gi_model.specs.declared.refusal.Refusal.{Refusal}
use Rattle.gi_model.proofs.Keeping.{run_edited}

-- a number that is neither a problem variable, nor an active guard, nor a variable of a learnt clause
record IsUnused (p : Problem) (g : ℕ) : Type 0 where
  plain : (v : ℕ) → IsProblemVar p v → v ≢ g
  active : (v : ℕ) → Contains p.active v → v ≢ g
  live : (v : ℕ) → IsLiveVar p v → v ≢ g

unused : (p : Problem) (fs : List ℕ) → p.freed ≡ fs → IsWellFormed p → IsUnused p (guard_next p.vars fs)
unused p [] e h = record {
  plain = λ v a q. let b : v ≤ p.vars = (var_facts p v a).high in omega arith;
  active = λ v a q. let b : v ≤ p.vars = All-contains (λ x. x ≤ p.vars) (p.freed ++ p.active) v h.high (Contains-append_right p.freed p.active v a) in omega arith;
  live = λ v a q. let b = a.1 in omega arith;
}
unused p (g ∷ gs) e h = record {
  plain = λ v a q. (var_facts p v a).unfreed (freed v q);
  active = λ v a q. IsDistinct-apart p.freed p.active v h.distinct (freed v q) a;
  live = λ v a q. a.2 (freed v q);
}
  where
    freed : (v : ℕ) → v ≡ g → Contains p.freed v
    freed v q = rw (e, q) (Contains-head g gs)

full_made : (p : Problem) (fs : List ℕ) → full (guard_made p fs) ≡ full p
unfolding full
full_made p [] = refl
full_made p (g ∷ gs) = refl

groups_made : (p : Problem) (fs : List ℕ) → (guard_made p fs).groups ≡ p.groups
groups_made p [] = refl
groups_made p (g ∷ gs) = refl

module _ (s : State) (k : IsKept s) where
  u : IsUnused s.problem (next_guard s.problem)
  u = unused s.problem s.problem.freed refl k.clauses

  assumable : (l : ℕ) → IsAssumable s.problem l → l / 2 ≢ next_guard s.problem
  assumable l (inl a) = u.plain (l / 2) a
  assumable l (inr b) = u.active (l / 2) (guard_facts s.problem l b).active

  without : (ls : List ℕ) → All (IsAssumable s.problem) ls → IsWithout (next_guard s.problem) ls
  without ls a = All-weaker (IsAssumable s.problem) (λ l. l / 2 ≢ next_guard s.problem) assumable ls a

  plain : (c : List ℕ) → IsPlain s.problem c → IsWithout (next_guard s.problem) c
  plain c a = All-weaker (λ l. IsProblemVar s.problem (l / 2)) (λ l. l / 2 ≢ next_guard s.problem) (λ l. u.plain (l / 2)) c a

  unnamed : (q : Group) → IsGroup s.problem q → ¬ Contains q.guards (next_guard s.problem)
  unnamed q h c = u.active (next_guard s.problem) (All-contains (Contains s.problem.active) q.guards (next_guard s.problem) h.1 c) refl

  negative : (gs : List ℕ) → All (Contains s.problem.active) gs → IsWithout (next_guard s.problem) (negatives gs)
  negative gs a = All-map (λ l. l / 2 ≢ next_guard s.problem) (λ g. 2 * g + 1) gs (λ i d lt e. u.active (get_or gs i d) (a i d lt) (omega arith))

  group : (q : Group) → IsGroup s.problem q → IsWithout (next_guard s.problem) (guarded q)
  group q h = All-append (λ l. l / 2 ≢ next_guard s.problem) q.clause (negatives q.guards) (plain q.clause h.0) (negative q.guards h.1)

  groups : All (λ (q : Group). ¬ Contains q.guards (next_guard s.problem)) s.problem.groups
  groups = All-weaker (IsGroup s.problem) (λ (q : Group). ¬ Contains q.guards (next_guard s.problem)) unnamed s.problem.groups k.clauses.groups

  clauses : All (IsWithout (next_guard s.problem)) (full s.problem)
  unfolding full
  clauses = All-append (IsWithout (next_guard s.problem)) s.problem.plain (map guarded s.problem.groups)
      (All-weaker (IsPlain s.problem) (IsWithout (next_guard s.problem)) plain s.problem.plain k.clauses.plain)
      (All-map (IsWithout (next_guard s.problem)) guarded s.problem.groups (λ i d lt. group (get_or s.problem.groups i d) (k.clauses.groups i d lt)))

  pub clean : IsClean (with_problem (with_guard s.problem) s) (next_guard s.problem)
  clean = record {
    groups = rw (groups_made s.problem s.problem.freed) groups;
    clauses = rw (full_made s.problem s.problem.freed) clauses;
    known = All-weaker (λ c. All (λ l. IsLiveVar s.problem (l / 2)) c) (IsWithout (next_guard s.problem)) (λ c a. All-weaker (λ l. IsLiveVar s.problem (l / 2)) (λ l. l / 2 ≢ next_guard s.problem) (λ l. u.live (l / 2)) c a) s.known k.known_live;
    pending = without s.pending k.pending;
    scopes = without (scope_assumed s.scopes) k.assumed;
    run = without (run_assumed (edited s.solve)) (run_edited s.solve (IsAssumable s.problem) k.run);
  }

given_guard : (s : State) (g : ℕ) → Allows s NewGuard (reply.Guard g) → g ≡ next_guard s.problem
given_guard s g a = go (refuses s NewGuard) a.replied
  where
    go : (o : Option Refusal) → Replied s NewGuard (reply.Guard g) o → g ≡ next_guard s.problem
    go (Some r) (inl x) = absurd cc
    go (Some r) (inr x) = absurd (cc x.0)
    go None (inl x) = cc
    go None (inr x) = absurd (cc x.0)

pub clean_after : (s : State) (g : ℕ) → IsKept s → Allows s NewGuard (reply.Guard g) → IsClean (after s NewGuard (reply.Guard g)) g
unfolding after
clean_after s g k a = rw (given_guard s g a) (clean s k)
