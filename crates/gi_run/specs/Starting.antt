-- How the program starts and ends, by its words.
use Rattle.std.specs.Prelude.{◌≡◌, ℕ, List, map, Option, Some, None}
use Rattle.std.specs.String.{string_bytes}
use Rattle.gi_outside.specs.World.{World}
use Rattle.gi_dimacs.specs.declared.fault.CnfFault.{CnfFault}
use Rattle.gi_command.specs.Pages.{PrintsPage, page_asked}
use Rattle.gi_command.specs.declared.page.Page.{Page}
use Rattle.gi_command.specs.declared.words.Words.{Words}
use Rattle.gi_command.specs.declared.words.Words.TheVariants.{Taken, NotText, NoMemory}
use Rattle.gi_run.specs.Performing.{DoesWords}
use Rattle.gi_room.specs.Seen.{Seen}

-- nothing was read, written or called
pub record IsIdle (old new : World) (refusal : Option CnfFault) : Type 0 where
  pub link : new ≡ old
  pub none : refusal ≡ None

-- what words ask for was done, on a pass if there is one
abbrev pub Begins : Option Page → List (List ℕ) → Option Seen → World → World → ℕ → Option CnfFault
    → Type 0
Begins (Some page) words opened old new status refusal = PrintsPage page old new status
    × (refusal ≡ None)
Begins None words None old new status refusal = (status ≡ 3) × IsIdle old new refusal
Begins None words (Some before) old new status refusal = (after : Seen)
    × DoesWords words old new before after status refusal

-- How the program ends. Words that ask for a page are answered by it alone; other words are run on
-- the pass that was opened, and where none was, for want of memory, nothing is; words that can't be
-- taken are none of a command's.
abbrev pub Starts : Words → Option Seen → World → World → ℕ → Option CnfFault → Type 0
Starts NotText opened old new status refusal = (status ≡ 2) × IsIdle old new refusal
Starts NoMemory opened old new status refusal = (status ≡ 3) × IsIdle old new refusal
Starts (Taken words) opened old new status refusal =
    let texts = map (λ word. string_bytes word) words.items in
    Begins (page_asked texts) texts opened old new status refusal
