-- The machine's state.
use Rattle.std.specs.Prelude.{ℕ, List, [], ◌∷◌, ◌++◌, Option, Some, None}
use Rattle.gi_lit.specs.Problem.{Problem, empty_problem}
use Rattle.gi_model.specs.declared.replies.Verdict.{Verdict}
use Rattle.gi_model.specs.declared.phase.Phase.{Phase}
use Rattle.gi_model.specs.declared.phase.Phase.TheVariants as phase

-- what a test found: the literals that it listed, or a failing set
pub data Found : Type 0 where
  listed : List ℕ → Found
  failing : List ℕ → Found

-- a scope: the assumptions with which a test opened it, and what the test found
pub record Scope : Type 0 where
  pub assumed : List ℕ
  pub found : Found

-- a solve under way: its serial, its assumptions, how many clauses it may learn, how many it has
-- learnt, and in how many slices of work
pub record Run : Type 0 where
  pub serial : ℕ
  pub assumed : List ℕ
  pub budget : ℕ
  pub spent : ℕ
  pub slices : ℕ

-- the solve
pub data Solve : Type 0 where
  no_solve : Solve
  running : Run → Solve
  paused : Run → Solve
  ended : (serial : ℕ) → Verdict → Solve

-- whether calls are still taken: shut by a caller, dead for want of memory
pub data Life : Type 0 where
  alive : Life
  shut : Life
  dead : Life

pub record State : Type 0 where
  pub problem : Problem
  pub known : List (List ℕ)  -- the learnt clauses, the oldest first
  pub pending : List ℕ  -- assumptions for the next test or solve
  pub scopes : List Scope  -- the open ones, the oldest first
  pub solve : Solve
  pub serial : ℕ  -- that of the last solve, 0 before the first
  pub life : Life

-- a new machine
abbrev pub opening : State
opening = record {
  problem = empty_problem;
  known = [];
  pending = [];
  scopes = [];
  solve = no_solve;
  serial = 0;
  life = alive;
}

-- what want of memory leaves
abbrev pub dead_state : State
dead_state = record opening { life = dead }

abbrev pub solve_phase : Solve → Phase
solve_phase no_solve = phase.Idle
solve_phase (running r) = phase.Live
solve_phase (paused r) = phase.Paused
solve_phase (ended n v) = phase.Ended

-- what callers see at a glance
abbrev pub phase_of : State → Phase
phase_of s = of s.life
  where
    of : Life → Phase
    of alive = solve_phase s.solve
    of shut = phase.Shut
    of dead = phase.Dead

-- the solve that a slice works on: a running one of a machine that is alive
abbrev pub live_run : State → Option Run
live_run s = of s.life s.solve
  where
    of : Life → Solve → Option Run
    of alive (running r) = Some r
    of life solve = None

-- the literals that a scope lists; none where its test failed
abbrev pub listed_in : Found → List ℕ
listed_in (listed ls) = ls
listed_in (failing w) = []

-- the assumptions of scopes, in order
unfoldable pub scope_assumed : List Scope → List ℕ
scope_assumed [] = []
scope_assumed (sc ∷ scs) = sc.assumed ++ scope_assumed scs

-- the literals that scopes list, in order
unfoldable pub scope_listed : List Scope → List ℕ
scope_listed [] = []
scope_listed (sc ∷ scs) = listed_in sc.found ++ scope_listed scs

-- the assumptions of all open scopes, then the pending ones
abbrev pub all_assumed : State → List ℕ
all_assumed s = scope_assumed s.scopes ++ s.pending
