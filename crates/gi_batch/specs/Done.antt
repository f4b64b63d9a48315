-- Steps that were done, and steps that weren't.
use Rattle.std.specs.Prelude.{◌≡◌, ◌≢◌, ℕ, ◌<◌, ◌⊎◌, Bool, true, false, is_some, List, [], ◌∷◌, ◌++◌, length, Result, Ok, Err}
use Rattle.std.specs.List.{AllByRecursion}
use Rattle.gi_outside.specs.World.{World, Wrote, WroteCut}
use Rattle.gi_model.specs.History.{Entry}
use Rattle.gi_model.specs.declared.calls.Call.{Call}
use Rattle.gi_model.specs.declared.calls.Call.TheVariants as call
use Rattle.gi_model.specs.declared.replies.Reply.{Reply}
use Rattle.gi_model.specs.declared.replies.Reply.TheVariants as reply
use Rattle.gi_net.specs.Standing.{Standing}
use Rattle.gi_batch.specs.declared.answer.Answer.{Answer}
use Rattle.gi_batch.specs.declared.answer.Stop.{Stop}
use Rattle.gi_batch.specs.declared.answer.Stop.TheVariants as stops
use Rattle.gi_batch.specs.Steps.{BatchStep}
use Rattle.gi_batch.specs.Grown.{Grown}
use Rattle.gi_batch.specs.Doing.{Does}
use Rattle.gi_batch.specs.Output.{answer_of, call_text, output, last_answer}

-- neither a refusal nor want of memory
abbrev pub goes_on : Reply → Bool
goes_on reply.NoMemory = false
goes_on (reply.Refused refusal) = false
goes_on other = true

abbrev pub is_model : Reply → Bool
is_model (reply.Model literals) = true
is_model other = false

-- a reply after which the next call is made: a wait has an answer, and a model its literals
abbrev pub is_proper : Call → Reply → Bool
is_proper call.Wait r = is_some (answer_of r)
is_proper call.Model r = is_model r
is_proper other r = goes_on r

abbrev pub AreProper : List Entry → Type 0
AreProper calls = AllByRecursion (λ (e : Entry). is_proper e.call e.reply ≡ true) calls

-- the steps were done, their output was written, and this is the last answer
pub record IsDone (budget : ℕ) (steps : List BatchStep) (v w : World) (h k : Standing)
    (before answer : Answer) : Type 0 where
  pub calls : List Entry
  pub grown : Grown h k calls
  pub does : Does budget steps calls
  pub proper : AreProper calls
  pub wrote : Wrote v w (output calls)
  pub answer_is : last_answer before calls ≡ answer

-- the last call's reply was another than a proper one
pub record EndsImproper (calls : List Entry) : Type 0 where
  pub before : List Entry
  pub last : Entry
  pub split : calls ≡ before ++ last ∷ []
  pub proper : AreProper before
  pub improper : is_proper last.call last.reply ≡ false

-- memory was wanting for a call, or for its entry
abbrev pub LacksMemory : List Entry → Type 0
LacksMemory calls = AreProper calls
    ⊎ ((ends : EndsImproper calls) × (ends.last.reply ≡ reply.NoMemory))

-- the last call was refused, or answered otherwise than the call is
abbrev pub IsDenied : List Entry → Type 0
IsDenied calls = (ends : EndsImproper calls) × (ends.last.reply ≢ reply.NoMemory)

-- the output of all calls but the last was written, and that of the last was cut: no call was made
-- behind it
pub record IsCutShort (calls : List Entry) (v w : World) : Type 0 where
  pub before : List Entry
  pub last : Entry
  pub split : calls ≡ before ++ last ∷ []
  pub mid : World
  pub wrote : Wrote v mid (output before)
  pub cut : WroteCut mid w (call_text last.call last.reply)

-- why these calls are all, where others were to come: their output was cut, no call was left, the
-- last was denied, or memory was wanting
abbrev pub StopsBy : Stop → List Entry → List Entry → World → World → Standing → Type 0
StopsBy stops.WriteFault calls rest v w k = AreProper calls × WroteCut v w (output calls)
    × IsCutShort calls v w
StopsBy stops.TooMuch calls rest v w k = AreProper calls × Wrote v w (output calls)
    × (0 < length rest) × (k.left ≡ 0)
StopsBy stops.Denied calls rest v w k = IsDenied calls × Wrote v w (output calls)
StopsBy stops.NoMemory calls rest v w k = LacksMemory calls × Wrote v w (output calls)

-- the steps were begun: with the rest the calls would do them
pub record IsBegun (by : Stop) (budget : ℕ) (steps : List BatchStep) (v w : World)
    (h k : Standing) : Type 0 where
  pub calls : List Entry
  pub rest : List Entry
  pub grown : Grown h k calls
  pub does : Does budget steps (calls ++ rest)
  pub cause : StopsBy by calls rest v w k

-- what came of steps
abbrev pub Goes : Result Answer Stop → ℕ → List BatchStep → World → World → Standing → Standing
    → Answer → Type 0
Goes (Ok answer) budget steps v w h k before = IsDone budget steps v w h k before answer
Goes (Err by) budget steps v w h k before = IsBegun by budget steps v w h k
