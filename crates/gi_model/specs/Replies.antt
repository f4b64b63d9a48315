-- Answers that the state determines.
use Rattle.std.specs.Prelude.{ℕ, ◌+◌, ◌*◌, Bool, if◌then◌else◌, List, [], ◌∷◌}
use Rattle.gi_lit.specs.Problem.{Problem, is_problem_var}
use Rattle.gi_model.specs.State.{Solve, no_solve, running, paused, ended}
use Rattle.gi_model.specs.declared.replies.Reply.{Reply}
use Rattle.gi_model.specs.declared.replies.Reply.TheVariants as reply
use Rattle.gi_model.specs.declared.replies.Status.{Status}
use Rattle.gi_model.specs.declared.replies.Status.TheVariants as status
use Rattle.gi_model.specs.declared.replies.Why.{Why}
use Rattle.gi_model.specs.declared.replies.Why.TheVariants as why
use Rattle.gi_model.specs.declared.replies.Cause.{Cause}
use Rattle.gi_model.specs.declared.replies.Cause.TheVariants.{Stopped, Budget}
use Rattle.gi_model.specs.declared.replies.Verdict.{Verdict}
use Rattle.gi_model.specs.declared.replies.Verdict.TheVariants.{Sat, Unsat, Unknown}
use Rattle.gi_model.specs.declared.refusal.Refusal.TheVariants.{NoSolve}

abbrev pub why_of : Cause → Why
why_of (Stopped mark) = why.Stopped
why_of (Budget b) = why.Budget

abbrev pub verdict_status : Verdict → Status
verdict_status (Sat values) = status.Sat
verdict_status (Unsat w) = status.Unsat
verdict_status (Unknown c) = status.Unknown (why_of c)

-- how a solve stands; without one the calls that ask are refused
abbrev pub status_of : Solve → Reply
status_of no_solve = reply.Refused NoSolve
status_of (running r) = reply.Status r.serial (status.Running r.spent)
status_of (paused r) = reply.Status r.serial (status.Paused r.spent)
status_of (ended n v) = reply.Status n (verdict_status v)

-- the answer of a wait, which also tells a failing set
abbrev pub waited : Solve → Reply
waited (ended n (Unsat w)) = reply.Unsat n w
waited solve = status_of solve

-- the true literal of each problem variable from v on, rising
unfoldable pub model_from : Problem → ℕ → List Bool → List ℕ
model_from p v [] = []
model_from p v (b ∷ bs) = if is_problem_var p v
    then (if b then 2 * v else 2 * v + 1) ∷ model_from p (v + 1) bs else model_from p (v + 1) bs

-- the true literal of each problem variable, rising
abbrev pub model_of : Problem → List Bool → List ℕ
model_of p values = model_from p 1 values
