-- What the entries alone tell of the learnt clauses, and of what the last solve has spent.
use Rattle.std.specs.Prelude.{◌≡◌, ℕ, ◌+◌, List, [], ◌∷◌, ◌++◌, length}
use Rattle.gi_lit.specs.Problem.{without_var}
use Rattle.gi_model.specs.State.{Solve, no_solve, running, paused, ended}
use Rattle.gi_model.specs.Effects.{trimmed}
use Rattle.gi_model.specs.History.{Entry}
use Rattle.gi_model.specs.declared.calls.Call.{Call}
use Rattle.gi_model.specs.declared.calls.Call.TheVariants.{DropGuard}
use Rattle.gi_model.specs.declared.replies.Reply.{Reply}
use Rattle.gi_model.specs.declared.replies.Reply.TheVariants as reply
use Rattle.gi_model.specs.declared.replies.Verdict.TheVariants.{Unknown}
use Rattle.gi_model.specs.declared.replies.Cause.TheVariants.{Budget}

-- after one more entry: news are learnt, a start trims, a dropped guard takes the clauses that name
-- it, and want of memory takes all
abbrev pub known_on : List (List ℕ) → Call → Reply → List (List ℕ)
known_on known call reply.NoMemory = []
known_on known call (reply.Worked news now) = known ++ news
known_on known call (reply.Started n) = trimmed known
known_on known (DropGuard g) reply.Done = without_var g known
known_on known call other = known

-- the news of all work in order, less those that a start or a drop took away
unfoldable pub told_known : List (List ℕ) → List Entry → List (List ℕ)
told_known known [] = known
told_known known (e ∷ es) = told_known (known_on known e.call e.reply) es

-- how many clauses the last solve has learnt after one more entry
abbrev pub spent_on : ℕ → Reply → ℕ
spent_on spent (reply.Worked news now) = spent + length news
spent_on spent (reply.Started n) = 0
spent_on spent other = spent

-- the news since the last start
unfoldable pub told_spent : ℕ → List Entry → ℕ
told_spent spent [] = spent
told_spent spent (e ∷ es) = told_spent (spent_on spent e.reply) es

-- so much is what a solve under way has spent, and what one that ran out of budget had for its
-- budget
abbrev pub HasSpent : Solve → ℕ → Type 0
HasSpent no_solve n = Unit {0}
HasSpent (running r) n = r.spent ≡ n
HasSpent (paused r) n = r.spent ≡ n
HasSpent (ended k (Unknown (Budget b))) n = b ≡ n
HasSpent (ended k v) n = Unit {0}
