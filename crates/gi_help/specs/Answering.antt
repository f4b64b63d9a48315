-- What is answered to the words.
use Rattle.std.specs.Prelude.{◌≡◌, ℕ, map, Option, Some, None}
use Rattle.std.specs.String.{string_bytes}
use Rattle.gi_outside.specs.World.{World}
use Rattle.gi_command.specs.Pages.{PrintsPage, page_asked}
use Rattle.gi_command.specs.declared.page.Page.{Page}
use Rattle.gi_command.specs.declared.words.Words.{Words}
use Rattle.gi_command.specs.declared.words.Words.TheVariants.{Taken, NotText, NoMemory}

-- the page was printed, or none was
abbrev pub PrintsAsked : Option Page → World → World → ℕ → Type 0
PrintsAsked (Some page) old new status = PrintsPage page old new status
PrintsAsked None old new status = (status ≡ 2) × (new ≡ old)

-- the page that the words ask for was printed; words that can't be taken ask for none
abbrev pub AnswersWords : Words → World → World → ℕ → Type 0
AnswersWords (Taken words) old new status =
    PrintsAsked (page_asked (map (λ word. string_bytes word) words.items)) old new status
AnswersWords NotText old new status = (status ≡ 2) × (new ≡ old)
AnswersWords NoMemory old new status = (status ≡ 2) × (new ≡ old)
