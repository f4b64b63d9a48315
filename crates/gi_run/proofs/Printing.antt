-- How a command over an input ends the program.
use Rattle.std.proofs.Common.{◌≡◌, ℕ, Option}
use Rattle.gi_outside.specs.World.{World}
use Rattle.gi_dimacs.specs.declared.fault.CnfFault.{CnfFault}
use Rattle.gi_files.specs.Commands.{Does}
use Rattle.gi_files.specs.Completeness.{UndisturbedIsAnswered}
use Rattle.gi_files.specs.declared.command.Command.{Command}
use Rattle.gi_files.specs.declared.commands.Done.{Done}
use Rattle.gi_files.specs.declared.form.Form.{Form}
use Rattle.gi_run.specs.Output.{Prints, done_refusal, done_status}

module _ (command : Command) (form : Form) (by : Done) (old new : World) (d : Does command form by old new) where
  pub printed : (status : ℕ) (refusal : Option CnfFault) → status ≡ done_status by → refusal ≡ done_refusal by → UndisturbedIsAnswered → Prints command form old new status refusal
  printed status refusal e f law = record { by = by; does = d; status_is = e; refusal_is = f; whole = law command form by old new d }
