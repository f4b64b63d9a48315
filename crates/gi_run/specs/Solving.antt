-- How solving a file ends the program.
use Rattle.std.specs.Prelude.{◌≡◌, ◌≢◌, ℕ, ◌<◌, ◌^◌, ◌⊎◌, true, false, List, [], ◌∷◌, ◌++◌, length, Option, Some, None}
use Rattle.gi_lit.specs.Truth.{Fail}
use Rattle.gi_outside.specs.Link.{Rose}
use Rattle.gi_outside.specs.World.{World}
use Rattle.gi_dimacs.specs.declared.fault.CnfFault.{CnfFault}
use Rattle.gi_files.specs.declared.form.Form.{Form}
use Rattle.gi_model.specs.History.{Entry, IsLegal}
use Rattle.gi_model.specs.declared.calls.Call.TheVariants as call
use Rattle.gi_model.specs.declared.replies.Reply.TheVariants as reply
use Rattle.gi_model.specs.declared.replies.Status.TheVariants as status
use Rattle.gi_model.specs.declared.replies.Why.{Why}
use Rattle.gi_net.specs.Entries.{is_work}
use Rattle.gi_batch.specs.Done.{is_proper}
use Rattle.gi_batch.specs.Laws.{has_failed, IsModelOf, IsSpent}
use Rattle.gi_batch.specs.Solves.{Solves}
use Rattle.gi_batch.specs.Steps.{HasSteps, BatchStep, Solve}
use Rattle.gi_batch.specs.Told.{nothing_told, told, told_step, told_steps}
use Rattle.gi_batch.specs.declared.answer.Solved.{Solved}
use Rattle.gi_batch.specs.declared.answer.Solved.TheVariants as solved
use Rattle.gi_room.specs.Calls.{HoldsAsBefore}
use Rattle.gi_room.specs.Seen.{Seen}
use Rattle.gi_host.specs.Visits.{standing_of}
use Rattle.gi_run.specs.Kept.{IsHistory, IsNew}
use Rattle.gi_run.specs.Shutting.{HasLostWork}

-- the exit status that tells how it ended: 10 and 20 by the last answer; a new machine denies only
-- what it has no memory for
abbrev pub solved_status : Solved → ℕ
solved_status solved.Sat = 10
solved_status solved.Unsat = 20
solved_status solved.Unknown = 0
solved_status (solved.Refused fault) = 1
solved_status solved.NoMemory = 3
solved_status solved.Denied = 3
solved_status solved.ReadFault = 4
solved_status solved.WriteFault = 5
solved_status solved.TooMuch = 8

-- the fault of an input that was refused
abbrev pub solved_refusal : Solved → Option CnfFault
solved_refusal (solved.Refused fault) = Some fault
solved_refusal other = None

-- what the entries tell is true, of each with those before it
pub record AreTrue (budget : ℕ) (es : List Entry) : Type 0 where
  -- no call is refused, and each is answered as it is meant, unless memory was wanting for it or
  -- before
  pub answered : (before after : List Entry) (e : Entry) → es ≡ before ++ e ∷ after
      → is_work e.call ≡ false → (is_proper e.call e.reply ≡ true)
      ⊎ (has_failed (before ++ e ∷ []) ≡ true)
  -- a model is of all clauses so far and of the assumptions
  pub models : (before after : List Entry) (e : Entry) (literals : List ℕ)
      → es ≡ before ++ e ∷ after → e.call ≡ call.Model → e.reply ≡ reply.Model literals
      → IsModelOf before literals
  -- where there is said to be none there is none
  pub failures : (before after : List Entry) (e : Entry) (serial : ℕ) (failed : List ℕ)
      → es ≡ before ++ e ∷ after → e.call ≡ call.Wait → e.reply ≡ reply.Unsat serial failed
      → Fail (told before).clauses (told before).assumed
  -- and it isn't known only where the budget was spent, by fresh clauses
  pub unknown : (before after : List Entry) (e : Entry) (serial : ℕ) (because : Why)
      → es ≡ before ++ e ∷ after → e.call ≡ call.Wait
      → e.reply ≡ reply.Status serial (status.Unknown because) → IsSpent budget before

-- the machine was told the steps up to a solve of the file that the bytes are, and nothing else: so
-- the clauses so far are those that stand before that solve, and the assumptions are those of its
-- ask
pub record IsAsked (form : Form) (bytes : List ℕ) (before : List Entry) : Type 0 where
  pub steps : List BatchStep
  pub are : HasSteps form bytes steps
  pub front : List BatchStep
  pub rest : List BatchStep
  pub split : steps ≡ front ++ Solve ∷ rest
  pub told_is : told before ≡ told_step (told_steps nothing_told front) Solve

-- so it was before each wait, and before each model
abbrev pub AreAsked : Form → List ℕ → List Entry → Type 0
AreAsked form bytes es = (before after : List Entry) (e : Entry) → es ≡ before ++ e ∷ after
    → (e.call ≡ call.Wait) ⊎ (e.call ≡ call.Model) → IsAsked form bytes before

-- the premises of complete solves: no fault, no want of memory, not too many bytes, calls left
pub record IsUndisturbed (by : Solved) (bytes : List ℕ) (old new : World)
    (after : Seen) : Type 0 where
  pub reads : ¬ Rose old.failed_reads new.failed_reads
  pub writes : ¬ Rose old.failed_writes new.failed_writes
  pub memory : by ≢ solved.NoMemory
  pub work : ¬ HasLostWork after.history
  pub bytes_are_few : length bytes < 2 ^ 62
  pub calls : 0 < after.left

-- every solve was answered, or the input was refused
abbrev pub IsAnswered : Solved → Type 0
IsAnswered by = (by ≡ solved.Sat) ⊎ (by ≡ solved.Unsat) ⊎ (by ≡ solved.Unknown)
    ⊎ ((fault : CnfFault) × (by ≡ solved.Refused fault))

-- the input was read, calls were made on the pass, and their output was written
pub record HasSolved (by : Solved) (form : Form) (budget : ℕ) (old new : World)
    (before after : Seen) : Type 0 where
  pub solves : Solves by form budget old new (standing_of before) (standing_of after)
  -- the pass is the same but for its calls left and its history, which is a legal one; so nothing
  -- was asked
  pub holds : HoldsAsBefore before after
  pub legal : IsLegal after.history
  -- on a new machine all entries are the pass's own
  pub kept : IsNew before → IsHistory after.number after.history
  pub truths : IsNew before → AreTrue budget after.history
  -- and the clauses and assumptions that they are true of are the file's
  pub asks : IsNew before → AreAsked form solves.bytes after.history
  -- a new machine denies a call only where work found no memory
  pub denied : IsNew before → by ≡ solved.Denied → HasLostWork after.history
  pub whole : IsNew before → IsUndisturbed by solves.bytes old new after → IsAnswered by

-- so it was, and the status tells how it ended
pub record SolvesFile (form : Form) (budget : ℕ) (old new : World) (before after : Seen)
    (status : ℕ) (refusal : Option CnfFault) : Type 0 where
  pub by : Solved
  pub has : HasSolved by form budget old new before after
  pub status_is : status ≡ solved_status by
  pub refusal_is : refusal ≡ solved_refusal by
