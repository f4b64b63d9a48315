-- How a call moves the machine.
use Rattle.std.proofs.Common.{◌≡◌, ℕ, ◌/◌, ◌<◌, ◌≤◌, ◌==◌, ◌&&◌, true, false, nat_le, Option, Some, None, List, [], ◌∷◌, ◌++◌, length, get_or, refl, sym, ap, ◌∙◌, subst, arith, inl, inr}
use Rattle.std.specs.List.{All}
use Rattle.std.specs.Option.{is_some}
use Rattle.std.proofs.lemmas.List.Elements.{All-contains, All-cons, All-nil, Contains-append_right}
use Rattle.std.proofs.lemmas.Bool.{both_ways, and_from, leb-false, ltb-false, cases_Bool}
use Rattle.gi_lit.specs.Problem.{Problem, without_guard, without_var, IsAssumable, IsWellFormed}
use Rattle.gi_lit.proofs.Vars.{var_facts, guard_facts}
use Rattle.gi_lit.proofs.Growing.{Grows}
use Rattle.gi_store.specs.StoreView.{IsWithin}
use Rattle.gi_lit.specs.Literals.{max_var}
use Rattle.gi_model.specs.State.{State, Scope, Found, listed, failing, listed_in, Solve, no_solve, running, paused, ended, Run, live_run, scope_listed, dead_state}
use Rattle.gi_model.specs.Replies.{waited}
use Rattle.gi_model.specs.Refusals.{refuses, is_none_yet, is_scoped}
use Rattle.gi_model.specs.Effects.{after, edited, with_problem, sliced}
use Rattle.gi_model.specs.Work.{Works}
use Rattle.gi_model.specs.Kept.{IsKept, AreScopesSound, IsFoundSound}
use Rattle.gi_model.specs.History.{MayCome, Answers, Step, takes_memory}
use Rattle.gi_model.specs.declared.calls.Call.{Call}
use Rattle.gi_model.specs.declared.calls.Call.TheVariants as call
use Rattle.gi_model.specs.declared.replies.Reply.{Reply}
use Rattle.gi_model.specs.declared.replies.Reply.TheVariants as reply
use Rattle.gi_model.specs.declared.replies.Now.{Now}
use Rattle.gi_model.specs.declared.replies.Verdict.TheVariants.{Sat, Unsat, Unknown}
use Rattle.gi_model.proofs.Accepting.{accepted_facts}
use Rattle.gi_model.proofs.Stepping.{step_done, step_dead}
use Rattle.gi_model.proofs.Histories.{allowed_kept}
use Rattle.gi_scopes.specs.Open.{Open, AreReasoned, StillFail, FoundFails, ScopeFails}
use Rattle.gi_scopes.specs.Laws.{MoreClausesKeepReasons}
use Rattle.gi_core.specs.Content.{Content}
use Rattle.gi_model.specs.Views.{solve_of}
use Rattle.gi_core.specs.View.{state_of, IsBacked, IsBlank, IsMachine, Moves}
use Rattle.gi_model.specs.declared.solve.Solve.{Solve as SolveCode}
use Rattle.gi_core.specs.declared.machine.Machine.{Machine}

-- a step keeps what every history keeps
pub moves_whole : (old new : Machine) (c : Call) (answer : Reply) → Moves old c answer new → IsMachine old → IsMachine new
moves_whole old new c answer m w = record { kept = subst IsKept (sym m.step.new_is) (allowed_kept (state_of old) c answer m.step.allowed w.kept); backed = m.backed w.backed }

-- a call that changes no part that the state shows
pub moves_same : (m : Machine) (c : Call) (answer : Reply) → Step (state_of m) c answer (state_of m) → Moves m c answer m
moves_same m c answer s = record { step = s; backed = λ b. b }

pub blank_backed : (c : Content) (o : Open) → IsBlank o → IsBacked c o
blank_backed c o h = record { reasoned = h.reasoned c.problem; served = rw h.unkept tt }

-- want of memory
pub moves_dead : (m n : Machine) (c : Call) (answer : Reply) → MayCome (state_of m) c → refuses (state_of m) c ≡ None → takes_memory (state_of m) c ≡ true → answer ≡ reply.NoMemory → state_of n ≡ dead_state → IsBlank n.scopes → Moves m c answer n
moves_dead m n c answer may free takes ea es all = record { step = rw (ea, es) (step_dead (state_of m) c may free takes); backed = λ b. blank_backed n.solver n.scopes all }

-- an edit of the problem
pub moves_edit : (law : MoreClausesKeepReasons) (m : Machine) (e : Content) (t : SolveCode) (q : Problem) (c : Call) (answer : Reply) → MayCome (state_of m) c → refuses (state_of m) c ≡ None → Answers (state_of m) c answer → after (state_of m) c answer ≡ with_problem q (state_of m)
    → e ≡ record m.solver { problem = q } → solve_of t ≡ edited (solve_of m.solve) → Grows m.solver.problem q → Moves m c answer (record m { solver = e; solve = t })
moves_edit law m e t q c answer may free a aft ee et g = record {
  step = step_done (state_of m) c answer (state_of (record m { solver = e; solve = t })) may free a (rw (ee, et) (sym aft));
  backed = λ b. subst (λ (k : Content). IsBacked k m.scopes) (sym ee) (record { reasoned = law m.solver.problem q m.scopes g.full b.reasoned; served = b.served });
}

-- the scopes as an edit of clauses leaves them: no trail is kept
abbrev pub unkept : Open → Open
unkept o = record o { kept = None }

-- an edit of the clauses
pub moves_clauses : (law : MoreClausesKeepReasons) (m : Machine) (e : Content) (o : Open) (t : SolveCode) (q : Problem) (c : Call) (answer : Reply) → MayCome (state_of m) c → refuses (state_of m) c ≡ None → Answers (state_of m) c answer → after (state_of m) c answer ≡ with_problem q (state_of m)
    → e ≡ record m.solver { problem = q; base = e.base } → o ≡ unkept m.scopes → solve_of t ≡ edited (solve_of m.solve) → Grows m.solver.problem q → Moves m c answer (record m { solver = e; scopes = o; solve = t })
moves_clauses law m e o t q c answer may free a aft ee eo et g = record {
  step = step_done (state_of m) c answer (state_of (record m { solver = e; scopes = o; solve = t })) may free a (rw (ee, eo, et) (sym aft));
  backed = λ b. rw eo (record { reasoned = subst (λ (p : Problem). AreReasoned p (unkept m.scopes)) (sym (ap (λ (k : Content). k.problem) ee)) (law m.solver.problem q m.scopes g.full b.reasoned); served = tt });
}

-- without open scopes nothing is listed
none_listed : (p q : Problem) (o : Open) → o.scopes ≡ [] → AreReasoned p o → AreReasoned q o
unfolding scope_listed
none_listed p q o e r = record { count = r.count; each = λ k lt. absurd (let z : length (scope_listed o.scopes) ≡ 0 = ap (λ scs. length (scope_listed scs)) e in omega arith) }

no_scopes : (scs : List Scope) (g : ℕ) → is_scoped scs (call.DropGuard g) ≡ false → scs ≡ []
no_scopes [] g e = refl
no_scopes (sc ∷ scs) g e = absurd (let b = ltb-false 0 (length (sc ∷ scs)) e in omega arith)

pub moves_drop : (m : Machine) (e : Content) (o : Open) (t : SolveCode) (g : ℕ) → refuses (state_of m) (call.DropGuard g) ≡ None → e ≡ record { problem = without_guard g m.solver.problem; known = without_var g m.solver.known; base = e.base } → o ≡ unkept m.scopes → solve_of t ≡ edited (solve_of m.solve) → Moves m (call.DropGuard g) reply.Done (record m { solver = e; scopes = o; solve = t })
unfolding after
moves_drop m e o t g free ee eo et = record {
  step = step_done (state_of m) (call.DropGuard g) reply.Done (state_of (record m { solver = e; scopes = o; solve = t })) refl free refl (rw (ee, eo, et) refl);
  backed = λ b. rw eo (record { reasoned = none_listed m.solver.problem e.problem m.scopes (no_scopes m.scopes.scopes g (accepted_facts (state_of m) (call.DropGuard g) refl free).unscoped) b.reasoned; served = tt });
}

-- a guard is left to hand out
pub guard_left : (p : Problem) → ((length p.freed == 0) && nat_le max_var p.vars) ≡ false → p.freed ≡ [] → p.vars < max_var
guard_left p w e = elim (cases_Bool (nat_le max_var p.vars)) [
  | inl t ↦ absurd (both_ways _ w (and_from _ _ (rw e refl) t))
  | inr f ↦ leb-false max_var p.vars f
]

-- the answer to a wait
pub wait_step : (s : State) (answer : Reply) → MayCome s call.Wait → refuses s call.Wait ≡ None → answer ≡ waited s.solve → Step s call.Wait answer s
unfolding after
wait_step s answer may free a = go s.solve refl (accepted_facts s call.Wait refl free).has_solve
  where
    go : (v : Solve) → s.solve ≡ v → is_none_yet s.solve ≡ false → Step s call.Wait answer s
    go no_solve e n = absurd (let x : true ≡ false = rw e at n in cc)
    go (running r) e n = subst (λ (z : Reply). Step s call.Wait z s) (sym (a ∙ ap waited e)) (step_done s call.Wait (waited (running r)) s may free (sym (ap waited e)) refl)
    go (paused r) e n = subst (λ (z : Reply). Step s call.Wait z s) (sym (a ∙ ap waited e)) (step_done s call.Wait (waited (paused r)) s may free (sym (ap waited e)) refl)
    go (ended k (Sat values)) e n = subst (λ (z : Reply). Step s call.Wait z s) (sym (a ∙ ap waited e)) (step_done s call.Wait (waited (ended k (Sat values))) s may free (sym (ap waited e)) refl)
    go (ended k (Unsat w)) e n = subst (λ (z : Reply). Step s call.Wait z s) (sym (a ∙ ap waited e)) (step_done s call.Wait (waited (ended k (Unsat w))) s may free (sym (ap waited e)) refl)
    go (ended k (Unknown x)) e n = subst (λ (z : Reply). Step s call.Wait z s) (sym (a ∙ ap waited e)) (step_done s call.Wait (waited (ended k (Unknown x))) s may free (sym (ap waited e)) refl)

-- what may be assumed is within the variables
pub assumed_within : (p : Problem) (ls : List ℕ) → IsWellFormed p → All (IsAssumable p) ls → IsWithin p.vars ls
assumed_within p ls w a k d lt = go (a k d lt)
  where
    l : ℕ
    l = get_or ls k d

    go : IsAssumable p l → (1 ≤ l / 2) × (l / 2 ≤ p.vars)
    go (inl v) = let f = var_facts p (l / 2) v in (f.low, f.high)
    go (inr g) =
        let f = guard_facts p l g in
        let m = Contains-append_right p.freed p.active (l / 2) f.active in
        (All-contains (λ v. 1 ≤ v) (p.freed ++ p.active) (l / 2) w.low m, All-contains (λ v. v ≤ p.vars) (p.freed ++ p.active) (l / 2) w.high m)

-- each failing set of a sound scope fails
pub still_fail : (p : Problem) (given earlier : List ℕ) (scs : List Scope) → AreScopesSound p given earlier scs → StillFail p scs
still_fail p given earlier [] h = All-nil (ScopeFails p)
still_fail p given earlier (sc ∷ scs) h = All-cons (ScopeFails p) sc scs (one sc h.0) (still_fail p (given ++ sc.assumed) (earlier ++ listed_in sc.found) scs h.1)
  where
    one : (x : Scope) → IsFoundSound p (given ++ sc.assumed) earlier x.found → ScopeFails p x
    one x f = found x.found f
      where
        found : (f : Found) → IsFoundSound p (given ++ sc.assumed) earlier f → FoundFails p f
        found (listed ls) y = tt
        found (failing w) y = y.1

-- work
pub idle_step : (s : State) (mark : ℕ) → live_run s ≡ None → Step s (call.Work mark) reply.Idle s
unfolding refuses after
idle_step s mark e = step_done s (call.Work mark) reply.Idle s tt refl (rw e refl) (rw e refl)

pub work_step : (s t : State) (r : Run) (mark : ℕ) (news : List (List ℕ)) (now : Now) → live_run s ≡ Some r → Works s r mark news now → t ≡ record s { known = s.known ++ news; solve = sliced r (length news) now } → Step s (call.Work mark) (reply.Worked news now) t
unfolding refuses after
work_step s t r mark news now e w q = step_done s (call.Work mark) (reply.Worked news now) t tt refl (rw e w) (q ∙ rw e refl)

pub not_some : {X : Type 0} (o : Option X) → is_some o ≡ false → o ≡ None
not_some None e = refl
not_some (Some x) e = absurd cc
