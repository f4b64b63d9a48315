-- What solving a file does.
use Rattle.std.specs.Prelude.{◌≡◌, ℕ, ◌⊎◌, List, Result, Ok, Err}
use Rattle.gi_outside.specs.Link.{Rose}
use Rattle.gi_outside.specs.World.{World, Wrote, WroteCut}
use Rattle.gi_dimacs.specs.Answers.{IsFault}
use Rattle.gi_files.specs.Commands.{format_of}
use Rattle.gi_dimacs.specs.declared.fault.CnfFault.{CnfFault}
use Rattle.gi_files.specs.Texts.{refused_text}
use Rattle.gi_files.specs.Input.{AreBounded, AreTooMany, Gave, IsAll}
use Rattle.gi_files.specs.declared.form.Form.{Form}
use Rattle.gi_net.specs.Standing.{Standing}
use Rattle.gi_batch.specs.declared.answer.Answer.{Answer}
use Rattle.gi_batch.specs.declared.answer.Answer.TheVariants as answers
use Rattle.gi_batch.specs.declared.answer.Stop.{Stop}
use Rattle.gi_batch.specs.declared.answer.Stop.TheVariants as stops
use Rattle.gi_batch.specs.declared.answer.Solved.{Solved}
use Rattle.gi_batch.specs.declared.answer.Solved.TheVariants as solved
use Rattle.gi_batch.specs.Steps.{BatchStep, HasSteps}
use Rattle.gi_batch.specs.Done.{IsDone, IsBegun}

-- the bytes are a file, its steps were done, and this is the last answer; where nothing was asked
-- it is unknown
pub record AnswersSolve (answer : Answer) (form : Form) (budget : ℕ) (old mid new : World)
    (before after : Standing) (bytes : List ℕ) : Type 0 where
  pub all : IsAll old mid bytes
  pub steps : List BatchStep
  pub are : HasSteps form bytes steps
  pub done : IsDone budget steps mid new before after answers.Unknown answer

-- the bytes are a file, and its steps were begun
pub record Stops (by : Stop) (form : Form) (budget : ℕ) (old mid new : World)
    (before after : Standing) (bytes : List ℕ) : Type 0 where
  pub all : IsAll old mid bytes
  pub steps : List BatchStep
  pub are : HasSteps form bytes steps
  pub begun : IsBegun by budget steps mid new before after

-- the bytes are no file of the form, and this is their first fault; no call was made
pub record IsRefused (form : Form) (old mid : World) (before after : Standing) (bytes : List ℕ)
    (fault : CnfFault) : Type 0 where
  pub all : IsAll old mid bytes
  pub faulty : IsFault (format_of form) fault bytes
  pub same : after ≡ before

-- How it ends: the link as it was, as it was when the bytes had come, and as it is.
abbrev pub SolveEnds : Solved → Form → ℕ → World → World → World → Standing → Standing → List ℕ
    → Type 0
SolveEnds solved.Sat form budget old mid new before after bytes =
    AnswersSolve answers.Sat form budget old mid new before after bytes
SolveEnds solved.Unsat form budget old mid new before after bytes =
    AnswersSolve answers.Unsat form budget old mid new before after bytes
SolveEnds solved.Unknown form budget old mid new before after bytes =
    AnswersSolve answers.Unknown form budget old mid new before after bytes
SolveEnds (solved.Refused fault) form budget old mid new before after bytes =
    IsRefused form old mid before after bytes fault × Wrote mid new (refused_text fault)
SolveEnds solved.ReadFault form budget old mid new before after bytes =
    Rose old.failed_reads mid.failed_reads × (new ≡ mid) × (after ≡ before)
SolveEnds solved.WriteFault form budget old mid new before after bytes =
    ((fault : CnfFault) × IsRefused form old mid before after bytes fault
    × WroteCut mid new (refused_text fault))
    ⊎ Stops stops.WriteFault form budget old mid new before after bytes
SolveEnds solved.NoMemory form budget old mid new before after bytes =
    ((new ≡ mid) × (after ≡ before))
    ⊎ Stops stops.NoMemory form budget old mid new before after bytes
SolveEnds solved.TooMuch form budget old mid new before after bytes =
    (AreTooMany bytes × (new ≡ mid) × (after ≡ before))
    ⊎ Stops stops.TooMuch form budget old mid new before after bytes
SolveEnds solved.Denied form budget old mid new before after bytes =
    Stops stops.Denied form budget old mid new before after bytes

-- bytes came, and then calls were made and their output written
pub record Solves (result : Solved) (form : Form) (budget : ℕ) (old new : World)
    (before after : Standing) : Type 0 where
  pub bytes : List ℕ
  -- the link when the bytes had come
  pub mid : World
  pub gave : Gave old mid bytes
  pub bounded : AreBounded bytes
  pub ends : SolveEnds result form budget old mid new before after bytes

-- the end that tells what came of a file's steps
abbrev pub solved_of : Result Answer Stop → Solved
solved_of (Ok answers.Sat) = solved.Sat
solved_of (Ok answers.Unsat) = solved.Unsat
solved_of (Ok answers.Unknown) = solved.Unknown
solved_of (Err stops.NoMemory) = solved.NoMemory
solved_of (Err stops.WriteFault) = solved.WriteFault
solved_of (Err stops.TooMuch) = solved.TooMuch
solved_of (Err stops.Denied) = solved.Denied

-- a refusal was printed, or cut
abbrev pub PrintsRefusal : Solved → CnfFault → World → World → Type 0
PrintsRefusal (solved.Refused told) fault v w = (told ≡ fault) × Wrote v w (refused_text fault)
PrintsRefusal solved.WriteFault fault v w = WroteCut v w (refused_text fault)
PrintsRefusal other fault v w = ⊥
