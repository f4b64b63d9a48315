-- Solving a file that nothing disturbs.
use Rattle.std.specs.Prelude.{◌≡◌, ◌≢◌, ℕ, ◌<◌, ◌^◌, List, length, Ok}
use Rattle.gi_outside.specs.Link.{Rose}
use Rattle.gi_outside.specs.World.{World, Wrote}
use Rattle.gi_dimacs.specs.Answers.{IsFault}
use Rattle.gi_dimacs.specs.declared.fault.CnfFault.{CnfFault}
use Rattle.gi_files.specs.Commands.{format_of}
use Rattle.gi_files.specs.Texts.{refused_text}
use Rattle.gi_files.specs.Input.{IsAll}
use Rattle.gi_files.specs.declared.form.Form.{Form}
use Rattle.gi_net.specs.Standing.{Standing}
use Rattle.gi_batch.specs.declared.answer.Answer.{Answer}
use Rattle.gi_batch.specs.declared.answer.Answer.TheVariants as answers
use Rattle.gi_batch.specs.declared.answer.Solved.{Solved}
use Rattle.gi_batch.specs.declared.answer.Solved.TheVariants as solved
use Rattle.gi_batch.specs.Steps.{BatchStep, HasSteps}
use Rattle.gi_batch.specs.Done.{IsDone}
use Rattle.gi_batch.specs.Solves.{Solves, solved_of}

-- no fault, no want of memory, not too many bytes, no call that was denied, and calls left
pub record Undisturbed (result : Solved) (form : Form) (budget : ℕ) (old new : World)
    (before after : Standing) (s : Solves result form budget old new before after) : Type 0 where
  pub reads : ¬ Rose old.failed_reads new.failed_reads
  pub writes : ¬ Rose old.failed_writes new.failed_writes
  pub memory : result ≢ solved.NoMemory
  pub bytes : length s.bytes < 2 ^ 62
  pub alive : result ≢ solved.Denied
  pub calls : 0 < after.left

-- all steps of the file that the bytes are were done
pub record IsAnswered (result : Solved) (budget : ℕ) (steps : List BatchStep) (v w : World)
    (before after : Standing) : Type 0 where
  pub answer : Answer
  pub done : IsDone budget steps v w before after answers.Unknown answer
  pub told : result ≡ solved_of (Ok answer)

-- the whole input was read; a file's steps were all done, and of what is no file the refusal was
-- printed
pub record IsAnsweredWhole (result : Solved) (form : Form) (budget : ℕ) (old new : World)
    (before after : Standing) (s : Solves result form budget old new before after) : Type 0 where
  pub all : IsAll old s.mid s.bytes
  pub accepted : (steps : List BatchStep) → HasSteps form s.bytes steps
      → IsAnswered result budget steps s.mid new before after
  pub refused : (fault : CnfFault) → IsFault (format_of form) fault s.bytes
      → (result ≡ solved.Refused fault) × Wrote s.mid new (refused_text fault)

abbrev pub UndisturbedIsWhole : Type 0
UndisturbedIsWhole = (result : Solved) (form : Form) (budget : ℕ) (old new : World)
    (before after : Standing) (s : Solves result form budget old new before after)
    → Undisturbed result form budget old new before after s
    → IsAnsweredWhole result form budget old new before after s
