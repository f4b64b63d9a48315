-- A command that nothing disturbs.
use Rattle.std.specs.Prelude.{◌≡◌, ◌≢◌, ℕ, ◌<◌, ◌^◌, ◌⊎◌, List, length}
use Rattle.gi_outside.specs.Link.{Rose}
use Rattle.gi_outside.specs.World.{World, Wrote}
use Rattle.gi_dimacs.specs.Answers.{IsFault}
use Rattle.gi_dimacs.specs.declared.fault.CnfFault.{CnfFault}
use Rattle.gi_files.specs.declared.command.Command.{Command}
use Rattle.gi_files.specs.declared.form.Form.{Form}
use Rattle.gi_files.specs.declared.commands.Done.{Done}
use Rattle.gi_files.specs.declared.commands.Done.TheVariants as done
use Rattle.gi_files.specs.Commands.{Accepts, Does, format_of}
use Rattle.gi_files.specs.Input.{IsAll}
use Rattle.gi_files.specs.Texts.{refused_text}

-- no fault, no want of memory, not too many bytes
pub record Undisturbed (command : Command) (form : Form) (answer : Done) (old new : World)
    (d : Does command form answer old new) : Type 0 where
  pub reads : ¬ Rose old.failed_reads new.failed_reads
  pub writes : ¬ Rose old.failed_writes new.failed_writes
  pub memory : answer ≢ done.NoMemory
  pub bytes : length d.bytes < 2 ^ 62

-- the whole input was read, and exactly its output was written: of its value where it has one, else
-- of its fault
pub record IsAnswered (command : Command) (form : Form) (answer : Done) (old new : World)
    (d : Does command form answer old new) : Type 0 where
  pub ends : (answer ≡ done.Accepted) ⊎ ((fault : CnfFault) × (answer ≡ done.Refused fault))
  pub all : IsAll old d.mid d.bytes
  pub accepted : (text : List ℕ) → Accepts command form d.bytes text
      → (answer ≡ done.Accepted) × Wrote d.mid new text
  pub refused : (fault : CnfFault) → IsFault (format_of form) fault d.bytes
      → (answer ≡ done.Refused fault) × Wrote d.mid new (refused_text fault)

abbrev pub UndisturbedIsAnswered : Type 0
UndisturbedIsAnswered = (command : Command) (form : Form) (answer : Done) (old new : World)
    (d : Does command form answer old new)
    → Undisturbed command form answer old new d → IsAnswered command form answer old new d
