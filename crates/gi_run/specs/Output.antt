-- How a command over an input ends the program.
use Rattle.std.specs.Prelude.{◌≡◌, ℕ, Option, Some, None}
use Rattle.gi_outside.specs.World.{World}
use Rattle.gi_dimacs.specs.declared.fault.CnfFault.{CnfFault}
use Rattle.gi_files.specs.Commands.{Does}
use Rattle.gi_files.specs.Completeness.{Undisturbed, IsAnswered}
use Rattle.gi_files.specs.declared.command.Command.{Command}
use Rattle.gi_files.specs.declared.commands.Done.{Done}
use Rattle.gi_files.specs.declared.commands.Done.TheVariants as done
use Rattle.gi_files.specs.declared.form.Form.{Form}

-- the exit status that tells how it ended
abbrev pub done_status : Done → ℕ
done_status done.Accepted = 0
done_status (done.Refused fault) = 1
done_status done.NoMemory = 3
done_status done.ReadFault = 4
done_status done.WriteFault = 5
done_status done.TooMuch = 8

-- the fault of an input that was refused
abbrev pub done_refusal : Done → Option CnfFault
done_refusal (done.Refused fault) = Some fault
done_refusal other = None

-- the input was read, its output was written, and the status tells how that ended
pub record Prints (command : Command) (form : Form) (old new : World) (status : ℕ)
    (refusal : Option CnfFault) : Type 0 where
  pub by : Done
  pub does : Does command form by old new
  pub status_is : status ≡ done_status by
  pub refusal_is : refusal ≡ done_refusal by
  -- where nothing disturbs it, the output is whole: that of the value where there is one, else the
  -- refusal
  pub whole : Undisturbed command form by old new does → IsAnswered command form by old new does
