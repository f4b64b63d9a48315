-- What a slice leaves of its solve, and what it answers.
use Rattle.std.specs.Prelude.{◌≡◌, ℕ, ◌<◌, ◌==◌, if◌then◌else◌, Option, Some, None, List, length}
use Rattle.gi_model.specs.State.{dead_state}
use Rattle.gi_model.specs.Effects.{sliced}
use Rattle.gi_model.specs.Views.{run_of}
use Rattle.gi_model.specs.declared.run.Run.{Run}
use Rattle.gi_model.specs.declared.replies.Reply.{Reply}
use Rattle.gi_model.specs.declared.replies.Reply.TheVariants as reply
use Rattle.gi_model.specs.declared.replies.Now.{Now}
use Rattle.gi_model.specs.declared.replies.Now.TheVariants.{Live, Ended}
use Rattle.gi_model.specs.declared.replies.Verdict.{Verdict}
use Rattle.gi_model.specs.declared.replies.Verdict.TheVariants as verdict
use Rattle.gi_model.specs.declared.replies.Cause.TheVariants.{Stopped, Budget}
use Rattle.gi_cdcl.specs.declared.slice.Slice.{Slice}
use Rattle.gi_cdcl.specs.declared.slice.Slice.TheVariants as slice
use Rattle.gi_core.specs.View.{state_of, IsBlank}
use Rattle.gi_core.specs.declared.machine.Machine.{Machine}

-- the verdict of a slice after which so much is spent of a budget; none where the solve goes on
abbrev pub verdict_of : Slice → ℕ → ℕ → ℕ → Option Verdict
verdict_of slice.Braked mark spent budget = Some (verdict.Unknown (Stopped mark))
verdict_of slice.Learned mark spent budget = if spent == budget
    then Some (verdict.Unknown (Budget budget)) else None
verdict_of (slice.Sat values) mark spent budget = Some (verdict.Sat values)
verdict_of (slice.Unsat w) mark spent budget = Some (verdict.Unsat w)
verdict_of slice.NoMemory mark spent budget = None

abbrev pub now_of : Option Verdict → Now
now_of None = Live
now_of (Some v) = Ended v

-- the news and what became of the solve are told, and nothing else changes but the solve
pub record IsSettled (old : Machine) (run : Run) (news : List (List ℕ)) (v : Option Verdict)
    (told : List (List ℕ)) (now : Now) (new : Machine) : Type 0 where
  pub news_are : told ≡ news
  pub now_is : now ≡ now_of v
  pub state : state_of new ≡ record (state_of old) { solve = sliced (run_of run) (length news) now }
  pub scopes : new.scopes ≡ old.scopes
  pub solver : new.solver ≡ old.solver

-- or memory was wanting
abbrev pub Settles : Machine → Run → List (List ℕ) → Option Verdict → Reply → Machine → Type 0
Settles old run news v (reply.Worked told now) new = IsSettled old run news v told now new
Settles old run news v reply.NoMemory new = (state_of new ≡ dead_state) × IsBlank new.scopes
Settles old run news v answer new = ⊥

-- fewer news than so many
abbrev pub IsNews : ℕ → Reply → Type 0
IsNews asks (reply.Worked news now) = length news < asks
IsNews asks answer = Unit {0}
