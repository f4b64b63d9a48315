-- What an entry changes.
use Rattle.std.specs.Prelude.{ℕ, ◌+◌, ◌-◌, ◌/◌, nat_lt, if◌then◌else◌, Option, Some, List, [], ◌∷◌, ◌++◌, length, take, drop}
use Rattle.gi_lit.specs.Problem.{Problem, grown, with_clause, with_group, with_guard, without_guard, without_var, top}
use Rattle.gi_model.specs.Limits.{most_untrimmed}
use Rattle.gi_model.specs.Loads.{loaded, with_file}
use Rattle.gi_model.specs.State.{State, Found, listed, failing, Run, Solve, no_solve, running, paused, ended, shut, dead_state, live_run, all_assumed}
use Rattle.gi_model.specs.declared.calls.Call.{Call}
use Rattle.gi_model.specs.declared.calls.Call.TheVariants.{Vars, Add, NewGuard, Under, DropGuard, Assume, Test, Untest, Reasons, Solve as Start, Pause, Resume, Stop, Poll, Wait, Model, Known, KnownClause, LoadCnf, Bye, Shut, Work}
use Rattle.gi_model.specs.declared.replies.Reply.{Reply}
use Rattle.gi_model.specs.declared.replies.Reply.TheVariants as reply
use Rattle.gi_model.specs.declared.replies.Now.{Now}
use Rattle.gi_model.specs.declared.replies.Now.TheVariants.{Live, Ended}
use Rattle.gi_model.specs.declared.replies.Verdict.TheVariants.{Unknown}
use Rattle.gi_model.specs.declared.replies.Cause.TheVariants.{Stopped}

-- after an edit an ended solve is none
abbrev pub edited : Solve → Solve
edited (ended n v) = no_solve
edited no_solve = no_solve
edited (running r) = running r
edited (paused r) = paused r

-- a running solve rests
abbrev pub pausing : Solve → Solve
pausing (running r) = paused r
pausing (paused r) = paused r
pausing no_solve = no_solve
pausing (ended n v) = ended n v

-- a paused solve goes on
abbrev pub resuming : Solve → Solve
resuming (paused r) = running r
resuming (running r) = running r
resuming no_solve = no_solve
resuming (ended n v) = ended n v

-- a running or paused solve ends, stopped
abbrev pub stopping : Solve → Solve
stopping (running r) = ended r.serial (Unknown (Stopped r.serial))
stopping (paused r) = ended r.serial (Unknown (Stopped r.serial))
stopping no_solve = no_solve
stopping (ended n v) = ended n v

-- where there are too many learnt clauses the oldest half, rounded down, goes
abbrev pub trimmed : List (List ℕ) → List (List ℕ)
trimmed known = if nat_lt most_untrimmed (length known) then drop (length known / 2) known
    else known

-- an edit of the problem
abbrev pub with_problem : Problem → State → State
with_problem p s = record s { problem = p; solve = edited s.solve }

-- assumptions more; their variables are there from then on
abbrev pub assuming : List ℕ → State → State
assuming ls s = record s {
  problem = grown (top ls) s.problem;
  pending = s.pending ++ ls;
  solve = edited s.solve;
}

-- a scope with the pending assumptions is opened
abbrev pub opened : Found → State → State
opened f s = record s {
  scopes = s.scopes ++ record { assumed = s.pending; found = f } ∷ [];
  pending = [];
  solve = edited s.solve;
}

-- a scope with what the test answered
abbrev pub tested : Reply → State → State
tested (reply.Implied ls) s = opened (listed ls) s
tested (reply.Failed w) s = opened (failing w) s
tested other s = s

-- the last scope goes, and nothing else of the problem, the learnt clauses and the other scopes
abbrev pub untested : State → State
untested s = record s { scopes = take (length s.scopes - 1) s.scopes; solve = edited s.solve }

-- a solve is started; this alone trims
abbrev pub started : ℕ → State → State
started budget s = record s {
  known = trimmed s.known;
  pending = [];
  solve = running (record {
    serial = s.serial + 1;
    assumed = all_assumed s;
    budget = budget;
    spent = 0;
    slices = 0;
  });
  serial = s.serial + 1;
}

-- a guard is dropped, with the groups that name it and with what was learnt about it
abbrev pub dropped : ℕ → State → State
dropped g s = record s {
  problem = without_guard g s.problem;
  known = without_var g s.known;
  solve = edited s.solve;
}

-- what a slice leaves of the solve
abbrev pub sliced : Run → ℕ → Now → Solve
sliced r news Live = running (record r { spent = r.spent + news; slices = r.slices + 1 })
sliced r news (Ended verdict) = ended r.serial verdict

-- the news are learnt; without a solve to work on nothing changes
abbrev pub worked : Option Run → Reply → State → State
worked (Some r) (reply.Worked news now) s =
    record s { known = s.known ++ news; solve = sliced r (length news) now }
worked run answer s = s

-- what a call changes that isn't refused
abbrev pub accepted : State → Call → Reply → State
accepted s (Vars k) answer = with_problem (grown k s.problem) s
accepted s (Add c) answer = with_problem (with_clause c s.problem) s
accepted s NewGuard answer = with_problem (with_guard s.problem) s
accepted s (Under gs c) answer = with_problem (with_group gs c s.problem) s
accepted s (DropGuard g) answer = dropped g s
accepted s (Assume ls) answer = assuming ls s
accepted s (LoadCnf bytes) answer = with_problem (with_file (loaded bytes) s.problem) s
accepted s Test answer = tested answer s
accepted s Untest answer = untested s
accepted s (Start budget) answer = started budget s
accepted s Pause answer = record s { solve = pausing s.solve }
accepted s Resume answer = record s { solve = resuming s.solve }
accepted s Stop answer = record s { solve = stopping s.solve }
accepted s Shut answer = record s { life = shut }
accepted s (Work mark) answer = worked (live_run s) answer s
accepted s (Reasons m) answer = s
accepted s Poll answer = s
accepted s Wait answer = s
accepted s Model answer = s
accepted s Known answer = s
accepted s (KnownClause i) answer = s
accepted s Bye answer = s

-- the state after an entry: a refusal changes nothing, and want of memory leaves a new machine, but
-- dead
unfoldable pub after : State → Call → Reply → State
after s call (reply.Refused r) = s
after s call reply.NoMemory = dead_state
after s call answer = accepted s call answer
