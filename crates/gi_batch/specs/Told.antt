-- What a machine was told, and what it learnt, by the entries of its history.
use Rattle.std.specs.Prelude.{ℕ, max, List, [], ◌∷◌, ◌++◌}
use Rattle.gi_lit.specs.Problem.{Problem, top}
use Rattle.gi_model.specs.History.{Entry}
use Rattle.gi_model.specs.declared.calls.Call.{Call}
use Rattle.gi_model.specs.declared.calls.Call.TheVariants as call
use Rattle.gi_model.specs.declared.replies.Reply.{Reply}
use Rattle.gi_model.specs.declared.replies.Reply.TheVariants as reply
use Rattle.gi_batch.specs.Steps.{BatchStep, Vars, Clause, Assume, Solve}

-- the variables and clauses so far, the assumptions for the next solve, and those of the last
pub record Told : Type 0 where
  pub vars : ℕ
  pub clauses : List (List ℕ)
  pub pending : List ℕ
  pub assumed : List ℕ

abbrev pub nothing_told : Told
nothing_told = record { vars = 0; clauses = []; pending = []; assumed = [] }

-- after one more call
abbrev pub told_on : Told → Call → Told
told_on t (call.Vars n) = record t { vars = max t.vars n }
told_on t (call.Add c) = record t { vars = max t.vars (top c); clauses = t.clauses ++ c ∷ [] }
told_on t (call.Assume ls) = record t { vars = max t.vars (top ls); pending = t.pending ++ ls }
told_on t (call.Solve budget) = record t { pending = []; assumed = t.pending }
told_on t other = t

-- after all calls
unfoldable pub told_by : Told → List Entry → Told
told_by t [] = t
told_by t (e ∷ es) = told_by (told_on t e.call) es

abbrev pub told : List Entry → Told
told es = told_by nothing_told es

-- after one more step
abbrev pub told_step : Told → BatchStep → Told
told_step t (Vars n) = told_on t (call.Vars n)
told_step t (Clause c) = told_on t (call.Add c)
told_step t (Assume ls) = told_on t (call.Assume ls)
told_step t Solve = record t { pending = []; assumed = t.pending }

-- what steps tell
unfoldable pub told_steps : Told → List BatchStep → Told
told_steps t [] = t
told_steps t (step ∷ steps) = told_steps (told_step t step) steps

-- the problem of the variables and clauses
abbrev pub problem_of : Told → Problem
problem_of t = record { vars = t.vars; plain = t.clauses; groups = []; active = []; freed = [] }

-- what the last solve has learnt, after one more reply
abbrev pub news_on : List (List ℕ) → Reply → List (List ℕ)
news_on news (reply.Worked more now) = news ++ more
news_on news (reply.Started serial) = []
news_on news other = news

-- the clauses that work has learnt since the last start
unfoldable pub news_since : List (List ℕ) → List Entry → List (List ℕ)
news_since news [] = news
news_since news (e ∷ es) = news_since (news_on news e.reply) es
