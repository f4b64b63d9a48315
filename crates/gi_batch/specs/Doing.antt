-- Which calls do steps.
use Rattle.std.specs.Prelude.{◌≡◌, ℕ, List, [], ◌∷◌, ◌++◌}
use Rattle.gi_model.specs.History.{Entry}
use Rattle.gi_model.specs.declared.calls.Call.{Call}
use Rattle.gi_model.specs.declared.calls.Call.TheVariants as call
use Rattle.gi_model.specs.declared.replies.Reply.{Reply}
use Rattle.gi_model.specs.declared.replies.Reply.TheVariants as reply
use Rattle.gi_model.specs.declared.replies.Status.TheVariants as status
use Rattle.gi_batch.specs.Steps.{BatchStep, Vars, Clause, Assume, Solve}

-- one call
pub record IsCalled (what : Call) (calls : List Entry) : Type 0 where
  pub entry : Entry
  pub only : calls ≡ entry ∷ []
  pub is : entry.call ≡ what

-- the model is asked for exactly where the wait was answered that there is one
abbrev pub AsksModel : Reply → List Entry → Type 0
AsksModel (reply.Status serial status.Sat) calls = IsCalled call.Model calls
AsksModel other calls = calls ≡ []

-- a solve with the budget, a wait, and the model where there is one
pub record IsSolved (budget : ℕ) (calls : List Entry) : Type 0 where
  pub start : Entry
  pub wait : Entry
  pub shown : List Entry
  pub are : calls ≡ start ∷ wait ∷ shown
  pub starts : start.call ≡ call.Solve budget
  pub waits : wait.call ≡ call.Wait
  pub shows : AsksModel wait.reply shown

abbrev pub DoesStep : ℕ → BatchStep → List Entry → Type 0
DoesStep budget (Vars n) calls = IsCalled (call.Vars n) calls
DoesStep budget (Clause c) calls = IsCalled (call.Add c) calls
DoesStep budget (Assume lits) calls = IsCalled (call.Assume lits) calls
DoesStep budget Solve calls = IsSolved budget calls

-- the calls do the steps, one after another
abbrev pub Does : ℕ → List BatchStep → List Entry → Type 0
Does budget [] calls = calls ≡ []
Does budget (step ∷ steps) calls = (first : List Entry) × (rest : List Entry)
    × (calls ≡ first ++ rest) × DoesStep budget step first × Does budget steps rest
