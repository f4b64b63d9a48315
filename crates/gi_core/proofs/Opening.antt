-- How assumptions, tests and starts move the machine.
use Rattle.std.proofs.Common.{◌≡◌, ℕ, Bool, ◌+◌, ◌-◌, ◌<◌, ◌≤◌, None, List, [], ◌∷◌, ◌++◌, length, take, refl, sym, ap, ◌∙◌, subst, arith}
use Rattle.std.proofs.lemmas.Bool.{eqb-false, leb-false}
use Rattle.gi_lit.specs.Problem.{Problem, grown, top}
use Rattle.gi_lit.proofs.Growing.{grows_grown}
use Rattle.gi_model.specs.Limits.{most_scopes}
use Rattle.gi_model.specs.State.{Found, listed, failing, Run, Solve, running, ended, all_assumed}
use Rattle.gi_model.specs.Refusals.{refuses}
use Rattle.gi_model.specs.Effects.{after, edited, opened, trimmed}
use Rattle.gi_model.specs.Replies.{model_of}
use Rattle.gi_model.specs.declared.replies.Verdict.TheVariants.{Sat}
use Rattle.gi_model.specs.Tests.{AnswersTest, Explains}
use Rattle.gi_model.specs.History.{MayCome, AnswersModel}
use Rattle.gi_model.specs.declared.calls.Call.TheVariants as call
use Rattle.gi_model.specs.declared.replies.Reply.{Reply}
use Rattle.gi_model.specs.declared.replies.Reply.TheVariants as reply
use Rattle.gi_model.proofs.Accepting.{accepted_facts}
use Rattle.gi_model.proofs.Stepping.{step_done, start_step}
use Rattle.gi_scopes.specs.Open.{Open, asked}
use Rattle.gi_scopes.specs.Laws.{MoreClausesKeepReasons}
use Rattle.gi_core.specs.Content.{Content}
use Rattle.gi_model.specs.Views.{run_of, solve_of, IsModelOf}
use Rattle.gi_model.specs.declared.run.Run.{Run as RunCode}
use Rattle.gi_core.specs.View.{state_of, Moves, IsBacked}
use Rattle.gi_model.specs.declared.solve.Solve.{Solve as SolveCode}
use Rattle.gi_model.specs.declared.solve.Solve.TheVariants.{Running}
use Rattle.gi_core.specs.declared.machine.Machine.{Machine}

pub moves_assume : (law : MoreClausesKeepReasons) (m : Machine) (e : Content) (t : SolveCode) (ls pending : List ℕ) → refuses (state_of m) (call.Assume ls) ≡ None → pending ≡ m.pending ++ ls → e ≡ record m.solver { problem = grown (top ls) m.solver.problem } → solve_of t ≡ edited (solve_of m.solve)
    → Moves m (call.Assume ls) reply.Done (record m { solver = e; pending = pending; solve = t })
unfolding after
moves_assume law m e t ls pending free ep ee et = record {
  step = step_done (state_of m) (call.Assume ls) reply.Done (state_of (record m { solver = e; pending = pending; solve = t })) refl free refl (rw (ep, ee, et) refl);
  backed = λ b. subst (λ (k : Content). IsBacked k m.scopes) (sym ee) (record { reasoned = law m.solver.problem (grown (top ls) m.solver.problem) m.scopes (grows_grown (top ls) m.solver.problem).full b.reasoned; served = b.served });
}

pub moves_tested : (m : Machine) (o : Open) (t : SolveCode) (pending : List ℕ) (f : Found) (answer : Reply) → refuses (state_of m) call.Test ≡ None → AnswersTest (state_of m) answer → after (state_of m) call.Test answer ≡ opened f (state_of m)
    → o.scopes ≡ m.scopes.scopes ++ record { assumed = m.pending; found = f } ∷ [] → pending ≡ [] → solve_of t ≡ edited (solve_of m.solve) → (IsBacked m.solver m.scopes → IsBacked m.solver o)
    → Moves m call.Test answer (record m { scopes = o; pending = pending; solve = t })
moves_tested m o t pending f answer free a aft eo ep et rs = record {
  step = step_done (state_of m) call.Test answer (state_of (record m { scopes = o; pending = pending; solve = t })) refl free a (rw (eo, ep, et) (sym aft));
  backed = rs;
}

pub moves_untest : (m : Machine) (o : Open) (t : SolveCode) → refuses (state_of m) call.Untest ≡ None → o.scopes ≡ take (length m.scopes.scopes - 1) m.scopes.scopes → solve_of t ≡ edited (solve_of m.solve) → (IsBacked m.solver m.scopes → IsBacked m.solver o)
    → Moves m call.Untest reply.Done (record m { scopes = o; solve = t })
unfolding after
moves_untest m o t free eo et rs = record {
  step = step_done (state_of m) call.Untest reply.Done (state_of (record m { scopes = o; solve = t })) refl free refl (rw (eo, et) refl);
  backed = rs;
}

pub some_scope : (m : Machine) → refuses (state_of m) call.Untest ≡ None → 1 ≤ length m.scopes.scopes
some_scope m free = let e = eqb-false (length m.scopes.scopes) 0 (accepted_facts (state_of m) call.Untest refl free).has_scope in omega arith

pub scope_left : (m : Machine) → refuses (state_of m) call.Test ≡ None → length m.scopes.scopes < 4294967295
scope_left m free = let b = leb-false most_scopes (length m.scopes.scopes) (accepted_facts (state_of m) call.Test refl free).within in omega arith

pub moves_start : (m n : Machine) (run : RunCode) (budget : ℕ) (assumed : List ℕ) (e : Content) → MayCome (state_of m) (call.Solve budget) → refuses (state_of m) (call.Solve budget) ≡ None → assumed ≡ all_assumed (state_of m) → e ≡ record m.solver { known = trimmed m.solver.known }
    → run_of run ≡ record { serial = m.serial + 1; assumed = assumed; budget = budget; spent = 0; slices = 0 } → n ≡ record m { solver = e; pending = []; serial = m.serial + 1; solve = Running run } → Moves m (call.Solve budget) (reply.Started (m.serial + 1)) n
moves_start m n run budget assumed e may free ea ee er en = record {
  step = start_step (state_of m) (state_of n) budget may free (rw (en, ee) (ap (λ (r : Run). record (state_of m) { known = trimmed m.solver.known; pending = []; solve = running r; serial = m.serial + 1 }) (er ∙ ap (λ (ls : List ℕ). record (run_of run) { serial = m.serial + 1; assumed = ls; budget = budget; spent = 0; slices = 0 }) ea)));
  backed = λ b. rw (en, ee) (record { reasoned = b.reasoned; served = b.served });
}

-- reasons look at the problem and the scopes alone
pub explained : (m : Machine) (l : ℕ) (rs : List ℕ) → Explains (asked m.solver.problem m.scopes.scopes []) l rs → Explains (state_of m) l rs
explained m l rs e = record { clause = e.clause; stands = e.stands; holds = e.holds; others = e.others; distinct = e.distinct; earlier = e.earlier }

pub moves_implied : (m : Machine) (o : Open) (t : SolveCode) (p : Problem) (assumed pending ls : List ℕ) → p ≡ m.solver.problem → assumed ≡ m.pending → pending ≡ [] → refuses (state_of m) call.Test ≡ None → AnswersTest (asked p m.scopes.scopes assumed) (reply.Implied ls)
    → o.scopes ≡ m.scopes.scopes ++ record { assumed = assumed; found = listed ls } ∷ [] → solve_of t ≡ edited (solve_of m.solve) → (IsBacked m.solver m.scopes → IsBacked m.solver o) → Moves m call.Test (reply.Implied ls) (record m { scopes = o; pending = pending; solve = t })
unfolding after
moves_implied m o t p assumed pending ls ep ea en free a eo et rs = moves_tested m o t pending (listed ls) (reply.Implied ls) free
    (subst (λ (x : List ℕ). AnswersTest (asked m.solver.problem m.scopes.scopes x) (reply.Implied ls)) ea (subst (λ (q : Problem). AnswersTest (asked q m.scopes.scopes assumed) (reply.Implied ls)) ep a)) refl
    (subst (λ (x : List ℕ). o.scopes ≡ m.scopes.scopes ++ record { assumed = x; found = listed ls } ∷ []) ea eo) en et rs

pub moves_failed : (m : Machine) (o : Open) (t : SolveCode) (p : Problem) (assumed pending w : List ℕ) → p ≡ m.solver.problem → assumed ≡ m.pending → pending ≡ [] → refuses (state_of m) call.Test ≡ None → AnswersTest (asked p m.scopes.scopes assumed) (reply.Failed w)
    → o.scopes ≡ m.scopes.scopes ++ record { assumed = assumed; found = failing w } ∷ [] → solve_of t ≡ edited (solve_of m.solve) → (IsBacked m.solver m.scopes → IsBacked m.solver o) → Moves m call.Test (reply.Failed w) (record m { scopes = o; pending = pending; solve = t })
unfolding after
moves_failed m o t p assumed pending w ep ea en free a eo et rs = moves_tested m o t pending (failing w) (reply.Failed w) free
    (subst (λ (x : List ℕ). AnswersTest (asked m.solver.problem m.scopes.scopes x) (reply.Failed w)) ea (subst (λ (q : Problem). AnswersTest (asked q m.scopes.scopes assumed) (reply.Failed w)) ep a)) refl
    (subst (λ (x : List ℕ). o.scopes ≡ m.scopes.scopes ++ record { assumed = x; found = failing w } ∷ []) ea eo) en et rs

-- the model that was found
pub moves_model : (m : Machine) (values : List Bool) (ls : List ℕ) → refuses (state_of m) call.Model ≡ None → IsModelOf (solve_of m.solve) values → ls ≡ model_of m.solver.problem values → Moves m call.Model (reply.Model ls) m
unfolding after
moves_model m values ls free h e = record { step = step_done (state_of m) call.Model (reply.Model ls) (state_of m) refl free (go (solve_of m.solve) h) refl; backed = λ b. b }
  where
    go : (v : Solve) → IsModelOf v values → AnswersModel (state_of m) v (reply.Model ls)
    go (ended n (Sat told)) q = ap reply.Model (e ∙ ap (model_of m.solver.problem) (sym q))
    go other q = elim q [ ]
