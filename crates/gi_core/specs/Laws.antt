-- What the steps of a new machine make, one after the other.
use Rattle.std.specs.Prelude.{◌≡◌, ℕ, List, [], ◌∷◌, All}
use Rattle.gi_lit.specs.Learnt.{IsImplied}
use Rattle.gi_model.specs.State.{State, opening}
use Rattle.gi_model.specs.History.{Entry, Step, IsLegal, after_all}
use Rattle.gi_model.specs.Kept.{IsKept}
use Rattle.gi_model.specs.Told.{told_known, told_spent, HasSpent}
use Rattle.gi_model.specs.Laws.{IsClean}
use Rattle.gi_model.specs.declared.calls.Call.TheVariants.{NewGuard}
use Rattle.gi_model.specs.declared.replies.Reply.TheVariants as reply

-- each entry is a step from the state before it
abbrev pub Runs : State → List Entry → State → Type 0
Runs s [] t = t ≡ s
Runs s (e ∷ es) t = (m : State) × Step s e.call e.reply m × Runs m es t

-- the entries are a legal history, and the state is the one after it
pub record IsAfter (es : List Entry) (s : State) : Type 0 where
  pub legal : IsLegal es
  pub state : s ≡ after_all opening es

abbrev pub StepsAreLegal : Type 0
StepsAreLegal = (es : List Entry) (s : State) → Runs opening es s → IsAfter es s

-- the invariant of all legal histories holds, and each learnt clause is implied
pub record IsStateSound (s : State) : Type 0 where
  pub kept : IsKept s
  pub implied : All (IsImplied s.problem) s.known

abbrev pub StepsKeep : Type 0
StepsKeep = (es : List Entry) (s : State) → Runs opening es s → IsStateSound s

-- the learnt clauses, and what a solve under way has spent, are those that the entries alone tell
pub record IsTold (es : List Entry) (s : State) : Type 0 where
  pub known : s.known ≡ told_known [] es
  pub spent : HasSpent s.solve (told_spent 0 es)

abbrev pub StepsTell : Type 0
StepsTell = (es : List Entry) (s : State) → Runs opening es s → IsTold es s

-- nothing names a guard that is handed out, the second time either
abbrev pub StepsGiveCleanGuards : Type 0
StepsGiveCleanGuards = (es : List Entry) (s t : State) (g : ℕ) → Runs opening es s
    → Step s NewGuard (reply.Guard g) t → IsClean t g
