-- What the program does, by its command.
use Rattle.std.specs.Prelude.{◌≡◌, ℕ, ◌⊎◌, List, Option, Some, None}
use Rattle.gi_outside.specs.World.{World}
use Rattle.gi_files.specs.declared.command.Command.TheVariants as file
use Rattle.gi_command.specs.Words.{command_of}
use Rattle.gi_command.specs.declared.command.Command.{Command}
use Rattle.gi_command.specs.declared.command.Command.TheVariants.{Run, Check, Convert, Solve, Drill}
use Rattle.gi_dimacs.specs.declared.fault.CnfFault.{CnfFault}
use Rattle.gi_run.specs.Outcome.{Runs}
use Rattle.gi_run.specs.Output.{Prints}
use Rattle.gi_run.specs.Drilling.{Drills}
use Rattle.gi_run.specs.Solving.{SolvesFile}
use Rattle.gi_room.specs.Seen.{Seen}

-- words that are no command change nothing; a session is served on the pass; an input is read and
-- its output printed, or solved by calls on the pass; the drill is served on the pass
abbrev pub Performs : Option Command → World → World → Seen → Seen → ℕ → Option CnfFault → Type 0
Performs None old new before after status refusal = (status ≡ 2) × (refusal ≡ None)
    × (after ≡ before) × (new ≡ old)
Performs (Some (Run quiet)) old new before after status refusal =
    Runs quiet old new before after status × (refusal ≡ None)
Performs (Some (Check form)) old new before after status refusal =
    Prints file.Check form old new status refusal × (after ≡ before)
Performs (Some (Convert form)) old new before after status refusal =
    Prints file.Convert form old new status refusal × (after ≡ before)
Performs (Some (Solve form budget)) old new before after status refusal =
    SolvesFile form budget old new before after status refusal
Performs (Some (Drill rounds)) old new before after status refusal =
    Drills rounds old new before after status × (refusal ≡ None)

-- no memory was found while the words were read, and nothing was done
pub record IsUnread (old new : World) (before after : Seen) (status : ℕ)
    (refusal : Option CnfFault) : Type 0 where
  pub status_is : status ≡ 3
  pub none : refusal ≡ None
  pub pass : after ≡ before
  pub link : new ≡ old

-- what words ask for was done
abbrev pub DoesWords : List (List ℕ) → World → World → Seen → Seen → ℕ → Option CnfFault → Type 0
DoesWords words old new before after status refusal =
    Performs (command_of words) old new before after status refusal
    ⊎ IsUnread old new before after status refusal
