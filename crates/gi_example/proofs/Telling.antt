-- What the machine's answers tell, and what its calls leave.
use Rattle.std.proofs.Common.{◌≡◌, ◌≢◌, ℕ, ◌⊎◌, inl, inr, Bool, Option, Some, None, List, refl, sym, ap, subst, ◌∙◌}
use Rattle.gi_lit.specs.Problem.{Problem, grown, in_force, next_guard, with_guard}
use Rattle.gi_lit.specs.Truth.{Fail}
use Rattle.gi_model.specs.Effects.{accepted, after}
use Rattle.gi_model.specs.History.{Answers, AnswersModel, Replied, Step}
use Rattle.gi_model.specs.Kept.{IsKept, IsSolveSound}
use Rattle.gi_model.specs.Refusals.{refuses}
use Rattle.gi_model.specs.Replies.{waited}
use Rattle.gi_model.specs.State.{Run, Solve, State, no_solve, running, paused, ended}
use Rattle.gi_model.specs.declared.calls.Call.{Call}
use Rattle.gi_model.specs.declared.calls.Call.TheVariants as call
use Rattle.gi_model.specs.declared.refusal.Refusal.{Refusal}
use Rattle.gi_model.specs.declared.replies.Reply.{Reply}
use Rattle.gi_model.specs.declared.replies.Reply.TheVariants as reply
use Rattle.gi_model.specs.declared.replies.Verdict.{Verdict}
use Rattle.gi_model.specs.declared.replies.Verdict.TheVariants.{Sat, Unsat, Unknown}
use Rattle.gi_example.specs.Told.{HasEdited, IsTrueOf}
use Rattle.gi_example.specs.declared.found.Found.TheVariants.{Model, Failed}

-- neither a refusal nor want of memory
record IsProper (answer : Reply) : Type 0 where
  memory : answer ≢ reply.NoMemory
  taken : (r : Refusal) → answer ≢ reply.Refused r

-- such an answer is one to the call
answered : (s : State) (c : Call) (answer : Reply) (refused : Option Refusal) → IsProper answer → Replied s c answer refused → Answers s c answer
answered s c answer None proper (inl is) = is
answered s c answer None proper (inr none) = absurd (proper.memory none.0)
answered s c answer (Some r) proper (inl is) = absurd (proper.taken r is)
answered s c answer (Some r) proper (inr none) = absurd (proper.memory none.0)

proper_done : IsProper reply.Done
proper_done = record { memory = λ e. cc; taken = λ r e. cc }

proper_vars : (n : ℕ) → IsProper (reply.Vars n)
proper_vars n = record { memory = λ e. cc; taken = λ r e. cc }

proper_guard : (n : ℕ) → IsProper (reply.Guard n)
proper_guard n = record { memory = λ e. cc; taken = λ r e. cc }

proper_unsat : (n : ℕ) (w : List ℕ) → IsProper (reply.Unsat n w)
proper_unsat n w = record { memory = λ e. cc; taken = λ r e. cc }

proper_model : (ls : List ℕ) → IsProper (reply.Model ls)
proper_model ls = record { memory = λ e. cc; taken = λ r e. cc }

-- a call that is done leaves what it leaves where it isn't refused
pub done_leaves : (s : State) (c : Call) (new : State) → Step s c reply.Done new → new ≡ accepted s c reply.Done
unfolding after
done_leaves s c new step = step.new_is

pub vars_leave : (s : State) (k n : ℕ) (new : State) → Step s (call.Vars k) (reply.Vars n) new → HasEdited (grown k) s new
unfolding after
vars_leave s k n new step = step.new_is

pub guard_leaves : (s : State) (g : ℕ) (new : State) → Step s call.NewGuard (reply.Guard g) new → HasEdited with_guard s new
unfolding after
guard_leaves s g new step = step.new_is

-- the guard that is told is the next one
pub guard_is : (s : State) (g : ℕ) (new : State) → Step s call.NewGuard (reply.Guard g) new → g ≡ next_guard s.problem
guard_is s g new step =
    let is : reply.Guard g ≡ reply.Guard (next_guard s.problem) = answered s call.NewGuard (reply.Guard g) (refuses s call.NewGuard) (proper_guard g) step.allowed.replied in
    cc

wait_leaves : (s : State) (n : ℕ) (w : List ℕ) (new : State) → Step s call.Wait (reply.Unsat n w) new → new ≡ s
unfolding after
wait_leaves s n w new step = step.new_is

model_leaves : (s : State) (ls : List ℕ) (new : State) → Step s call.Model (reply.Model ls) new → new ≡ s
unfolding after
model_leaves s ls new step = step.new_is

-- a failing set that a solve ended with fails
waited_fails : (p : Problem) (serial n : ℕ) (w : List ℕ) (v : Solve) → IsSolveSound p serial v → reply.Unsat n w ≡ waited v → Fail (in_force p w) w
waited_fails p serial n w no_solve sound is = absurd cc
waited_fails p serial n w (running r) sound is = absurd cc
waited_fails p serial n w (paused r) sound is = absurd cc
waited_fails p serial n w (ended k (Sat values)) sound is = absurd cc
waited_fails p serial n w (ended k (Unknown c)) sound is = absurd cc
waited_fails p serial n w (ended k (Unsat w')) sound is =
    let same : w' ≡ w = cc in
    subst (λ x. Fail (in_force p x) x) same sound.2

-- a failing set that is told fails
pub unsat_is_true : (s : State) (n : ℕ) (w : List ℕ) (new : State) → IsKept s → Step s call.Wait (reply.Unsat n w) new → IsTrueOf new.problem (Failed w)
unsat_is_true s n w new kept step =
    rw (wait_leaves s n w new step)
    (waited_fails s.problem s.serial n w s.solve kept.solve (answered s call.Wait (reply.Unsat n w) (refuses s call.Wait) (proper_unsat n w) step.allowed.replied))

answered_model : (s : State) (ls : List ℕ) (v : Solve) → IsSolveSound s.problem s.serial v → AnswersModel s v (reply.Model ls) → IsTrueOf s.problem (Model ls)
answered_model s ls no_solve sound is = absurd is
answered_model s ls (running r) sound is = absurd is
answered_model s ls (paused r) sound is = absurd is
answered_model s ls (ended k (Unsat w)) sound is = absurd is
answered_model s ls (ended k (Unknown c)) sound is = absurd is
answered_model s ls (ended k (Sat values)) sound is = (values, sound.2.1, cc)

-- a model that is told is one
pub model_is_true : (s : State) (ls : List ℕ) (new : State) → IsKept s → Step s call.Model (reply.Model ls) new → IsTrueOf new.problem (Model ls)
model_is_true s ls new kept step =
    rw (model_leaves s ls new step)
    (answered_model s ls s.solve kept.solve (answered s call.Model (reply.Model ls) (refuses s call.Model) (proper_model ls) step.allowed.replied))
