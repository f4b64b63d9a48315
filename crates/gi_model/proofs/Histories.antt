-- Every legal history keeps the machine's invariant.
use Rattle.std.proofs.Common.{◌≡◌, ◌≢◌, ℕ, ◌/◌, ◌≤◌, true, false, not, Option, Some, None, List, [], ◌∷◌, length, refl, sym, ap, subst, arith, ◌⊎◌, inl, inr, ◌==◌}
use Rattle.std.specs.List.{All}
use Rattle.std.proofs.lemmas.Bool.{both_ways, not-true, eq-eqb, ltb-true}
use Rattle.std.proofs.lemmas.List.Elements.{All-nil}
use Rattle.gi_lit.specs.Problem.{IsPlain, IsLiveVar, IsAssumable, lit_count}
use Rattle.gi_lit.specs.Learnt.{IsImplied}
use Rattle.gi_model.specs.State.{State, listed, failing, Run, Solve, no_solve, running, paused, ended, Life, alive, shut, dead, live_run, scope_assumed, dead_state, opening}
use Rattle.gi_model.specs.Replies.{status_of}
use Rattle.gi_model.specs.Refusals.{refuses, is_work}
use Rattle.gi_model.specs.Effects.{after, accepted, pausing, resuming, stopping}
use Rattle.gi_model.specs.Work.{AnswersWork}
use Rattle.gi_model.specs.Tests.{AnswersTest}
use Rattle.gi_model.specs.History.{MayCome, Allows, Answers, Replied, Entry, after_all, IsLegalFrom, IsLegal}
use Rattle.gi_model.specs.Kept.{run_assumed, IsSolveSound, IsProblemWithin, IsKept}
use Rattle.gi_model.specs.declared.calls.Call.{Call}
use Rattle.gi_model.specs.declared.calls.Call.TheVariants as call
use Rattle.gi_model.specs.declared.replies.Reply.{Reply}
use Rattle.gi_model.specs.declared.replies.Reply.TheVariants as reply
use Rattle.gi_model.specs.declared.refusal.Refusal.{Refusal}
use Rattle.gi_model.proofs.Accepting.{IsAccepted, accepted_facts}
use Rattle.gi_model.proofs.Loading.{load_kept}
use Rattle.gi_model.proofs.Keeping.{vars_kept, add_kept, under_kept, new_guard_kept, drop_kept, assume_kept, solve_kept, opened_kept, untest_kept, work_kept}

-- the solve alone changes, and assumes no more
solve_changed : (s : State) (v : Solve) → All (IsAssumable s.problem) (run_assumed v) → IsSolveSound s.problem s.serial v → IsKept s → IsKept (record s { solve = v })
solve_changed s v a b k = record { clauses = k.clauses; within = k.within; known_live = k.known_live; known_implied = k.known_implied; pending = k.pending; assumed = k.assumed; run = a; scopes = k.scopes; solve = b; few_pending = k.few_pending; few_scopes = k.few_scopes; few_solves = k.few_solves }

pausing_kept : (s : State) (v : Solve) → All (IsAssumable s.problem) (run_assumed v) → IsSolveSound s.problem s.serial v → IsKept s → IsKept (record s { solve = pausing v })
pausing_kept s no_solve a b k = solve_changed s no_solve a b k
pausing_kept s (running r) a b k = solve_changed s (paused r) a b k
pausing_kept s (paused r) a b k = solve_changed s (paused r) a b k
pausing_kept s (ended n w) a b k = solve_changed s (ended n w) a b k

resuming_kept : (s : State) (v : Solve) → All (IsAssumable s.problem) (run_assumed v) → IsSolveSound s.problem s.serial v → IsKept s → IsKept (record s { solve = resuming v })
resuming_kept s no_solve a b k = solve_changed s no_solve a b k
resuming_kept s (running r) a b k = solve_changed s (running r) a b k
resuming_kept s (paused r) a b k = solve_changed s (running r) a b k
resuming_kept s (ended n w) a b k = solve_changed s (ended n w) a b k

stopping_kept : (s : State) (v : Solve) → All (IsAssumable s.problem) (run_assumed v) → IsSolveSound s.problem s.serial v → IsKept s → IsKept (record s { solve = stopping v })
stopping_kept s no_solve a b k = solve_changed s no_solve a b k
stopping_kept s (running r) a b k = solve_changed s (stopping (running r)) (All-nil (IsAssumable s.problem)) (b.low, b.last, tt) k
stopping_kept s (paused r) a b k = solve_changed s (stopping (paused r)) (All-nil (IsAssumable s.problem)) (b.low, b.last, tt) k
stopping_kept s (ended n w) a b k = solve_changed s (ended n w) a b k

-- an answer that tells a status is a refusal only without a solve
pub after_status : (s : State) (c : Call) (v : Solve) (P : State → Type 0) → P s → P (accepted s c (status_of v)) → P (after s c (status_of v))
unfolding after
after_status s c no_solve P h a = h
after_status s c (running r) P h a = a
after_status s c (paused r) P h a = a
after_status s c (ended n v) P h a = a

pub live_is : (s : State) (r : Run) → live_run s ≡ Some r → s.solve ≡ running r
live_is s r e = go s.life s.solve e
  where
    go : (l : Life) (v : Solve) → live_run (record s { life = l; solve = v }) ≡ Some r → v ≡ running r
    go alive (running q) e = ap running cc
    go alive no_solve e = absurd cc
    go alive (paused q) e = absurd cc
    go alive (ended n v) e = absurd cc
    go shut v e = absurd cc
    go dead v e = absurd cc

pub dead_kept : IsKept dead_state
unfolding scope_assumed lit_count
dead_kept = record {
  clauses = record { plain = All-nil (IsPlain dead_state.problem); groups = λ k d lt. absurd (omega arith); distinct = tt; low = All-nil (λ g. 1 ≤ g); high = All-nil (λ g. g ≤ 0) };
  within = within;
  known_live = All-nil (λ c. All (λ l. IsLiveVar dead_state.problem (l / 2)) c);
  known_implied = All-nil (IsImplied dead_state.problem);
  pending = All-nil (IsAssumable dead_state.problem);
  assumed = All-nil (IsAssumable dead_state.problem);
  run = All-nil (IsAssumable dead_state.problem);
  scopes = tt;
  solve = tt;
  few_pending = omega arith;
  few_scopes = omega arith;
  few_solves = omega arith;
}
  where
    within : IsProblemWithin dead_state.problem
    within = record { vars = omega arith; clauses = omega arith; lits = omega arith }

tested_kept : (s : State) (answer : Reply) → IsAccepted s call.Test → AnswersTest s answer → IsKept s → IsKept (after s call.Test answer)
unfolding after
tested_kept s (reply.Implied ls) a h k = opened_kept s (listed ls) a h.1.listed k
tested_kept s (reply.Failed w) a h k = opened_kept s (failing w) a (h.1, h.2) k
tested_kept s other a h k = elim h [ ]

work_answer_kept : (s : State) (mark : ℕ) (answer : Reply) (o : Option Run) → live_run s ≡ o → AnswersWork s o mark answer → IsKept s → IsKept (after s (call.Work mark) answer)
unfolding after
work_answer_kept s mark (reply.Worked news now) (Some r) e h k = rw e (work_kept s r mark news now (live_is s r e) h k)
work_answer_kept s mark other (Some r) e h k = elim h [ ]
work_answer_kept s mark answer None e h k = subst (λ a. IsKept (after s (call.Work mark) a)) (sym h) (rw e k)

-- calls that change nothing, whatever they answer
same_kept : (s : State) (c : Call) (answer : Reply) → accepted s c answer ≡ s → IsKept s → IsKept (after s c answer)
unfolding after
same_kept s c (reply.Refused r) e k = k
same_kept s c reply.NoMemory e k = dead_kept
same_kept s c other e k = subst IsKept (sym e) k

budget_low : (b : ℕ) → not (b == 0) ≡ true → b ≢ 0
budget_low b e q = both_ways _ (not-true _ e) (eq-eqb b 0 q)

-- a call that isn't refused keeps it, whatever it answers
answer_kept : (s : State) (c : Call) (answer : Reply) → is_work c ≡ false → MayCome s c → IsAccepted s c → Answers s c answer → IsKept s → IsKept (after s c answer)
unfolding after
answer_kept s (call.Vars n) answer w m a h k = subst (λ a. IsKept (after s (call.Vars n) a)) (sym h) (vars_kept s n a k)
answer_kept s (call.Add c) answer w m a h k = subst (λ r. IsKept (after s (call.Add c) r)) (sym h) (add_kept s c a k)
answer_kept s call.NewGuard answer w m a h k = subst (λ r. IsKept (after s call.NewGuard r)) (sym h) (new_guard_kept s a k)
answer_kept s (call.Under gs c) answer w m a h k = subst (λ r. IsKept (after s (call.Under gs c) r)) (sym h) (under_kept s gs c (ltb-true 0 (length gs) m) a k)
answer_kept s (call.DropGuard g) answer w m a h k = subst (λ r. IsKept (after s (call.DropGuard g) r)) (sym h) (drop_kept s g a k)
answer_kept s (call.Assume ls) answer w m a h k = subst (λ r. IsKept (after s (call.Assume ls) r)) (sym h) (assume_kept s ls a k)
answer_kept s (call.LoadCnf bytes) answer w m a h k = subst (λ r. IsKept (after s (call.LoadCnf bytes) r)) (sym h) (load_kept s bytes a k)
answer_kept s call.Test answer w m a h k = tested_kept s answer a h k
answer_kept s call.Untest answer w m a h k = subst (λ r. IsKept (after s call.Untest r)) (sym h) (untest_kept s k)
answer_kept s (call.Reasons m) answer w n a h k = same_kept s (call.Reasons m) answer refl k
answer_kept s (call.Solve b) answer w m a h k = subst (λ r. IsKept (after s (call.Solve b) r)) (sym h) (solve_kept s b (budget_low b m) a k)
answer_kept s call.Pause answer w m a h k = subst (λ r. IsKept (after s call.Pause r)) (sym h) (after_status s call.Pause (pausing s.solve) IsKept k (pausing_kept s s.solve k.run k.solve k))
answer_kept s call.Resume answer w m a h k = subst (λ r. IsKept (after s call.Resume r)) (sym h) (after_status s call.Resume (resuming s.solve) IsKept k (resuming_kept s s.solve k.run k.solve k))
answer_kept s call.Stop answer w m a h k = subst (λ r. IsKept (after s call.Stop r)) (sym h) (after_status s call.Stop (stopping s.solve) IsKept k (stopping_kept s s.solve k.run k.solve k))
answer_kept s call.Poll answer w m a h k = same_kept s call.Poll answer refl k
answer_kept s call.Wait answer w m a h k = same_kept s call.Wait answer refl k
answer_kept s call.Model answer w m a h k = same_kept s call.Model answer refl k
answer_kept s call.Known answer w m a h k = same_kept s call.Known answer refl k
answer_kept s (call.KnownClause i) answer w m a h k = same_kept s (call.KnownClause i) answer refl k
answer_kept s call.Bye answer w m a h k = same_kept s call.Bye answer refl k
answer_kept s call.Shut answer w m a h k = subst (λ r. IsKept (after s call.Shut r)) (sym h) (record { clauses = k.clauses; within = k.within; known_live = k.known_live; known_implied = k.known_implied; pending = k.pending; assumed = k.assumed; run = k.run; scopes = k.scopes; solve = k.solve; few_pending = k.few_pending; few_scopes = k.few_scopes; few_solves = k.few_solves })
answer_kept s (call.Work mark) answer w m a h k = absurd cc

pub work_or_not : (c : Call) → ((mark : ℕ) × (c ≡ call.Work mark)) ⊎ (is_work c ≡ false)
work_or_not (call.Work mark) = inl (mark, refl)
work_or_not other = inr refl

-- an entry that is allowed keeps it
pub allowed_kept : (s : State) (c : Call) (answer : Reply) → Allows s c answer → IsKept s → IsKept (after s c answer)
unfolding after
allowed_kept s c answer a k = go (refuses s c) refl a.replied
  where
    go : (o : Option Refusal) → refuses s c ≡ o → Replied s c answer o → IsKept (after s c answer)
    go (Some r) e (inl x) = subst (λ q. IsKept (after s c q)) (sym x) k
    go (Some r) e (inr x) = subst (λ q. IsKept (after s c q)) (sym x.0) dead_kept
    go None e (inr x) = subst (λ q. IsKept (after s c q)) (sym x.0) dead_kept
    go None e (inl x) = elim (work_or_not c) [
      | inl w ↦ (let P : Call → Type 0 = λ d. Answers s d answer → IsKept (after s d answer) in subst P (sym w.1) (λ h. work_answer_kept s w.0 answer (live_run s) refl h k)) x
      | inr n ↦ answer_kept s c answer n a.may_come (accepted_facts s c n e) x k
    ]

pub legal_from_kept : (es : List Entry) (s : State) → IsLegalFrom s es → IsKept s → IsKept (after_all s es)
unfolding after_all
legal_from_kept [] s h k = k
legal_from_kept (e ∷ es) s h k = legal_from_kept es (after s e.call e.reply) h.1 (allowed_kept s e.call e.reply h.0 k)

pub opening_kept : IsKept opening
opening_kept = record { clauses = dead_kept.clauses; within = dead_kept.within; known_live = dead_kept.known_live; known_implied = dead_kept.known_implied; pending = dead_kept.pending; assumed = dead_kept.assumed; run = dead_kept.run; scopes = dead_kept.scopes; solve = dead_kept.solve; few_pending = dead_kept.few_pending; few_scopes = dead_kept.few_scopes; few_solves = dead_kept.few_solves }

pub histories_kept : (es : List Entry) → IsLegal es → IsKept (after_all opening es)
histories_kept es h = legal_from_kept es opening h.each opening_kept
