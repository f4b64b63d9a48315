-- The pages that people ask for.
use Rattle.std.specs.Prelude.{◌≡◌, ℕ, ◌==◌, ◌⊎◌, Bool, false, List, [], ◌∷◌, codes, filter, Option, Some, None, if◌then◌else◌}
use Rattle.std.specs.Str.{bytes_eq}
use Rattle.clap.specs.Walk.{Text}
use Rattle.gi_outside.specs.World.{World, Wrote, WroteCut}
use Rattle.gi_command.specs.declared.page.Page.{Page}
use Rattle.gi_command.specs.declared.page.Page.TheVariants.{Help, Version}
use Rattle.gi_command.specs.declared.help.TheConstants.{HELP, VERSION}

-- a word that begins with '-'
abbrev pub is_option : Text → Bool
is_option [] = false
is_option (first ∷ rest) = first == 45

-- the page of that name
unfoldable pub page_named : Text → Option Page
page_named word = if bytes_eq word (codes "--help") then Some Help
    else if bytes_eq word (codes "-h") then Some Help
    else if bytes_eq word (codes "--version") then Some Version
    else if bytes_eq word (codes "-V") then Some Version else None

-- the page of the only option
abbrev pub page_of : List Text → Option Page
page_of (word ∷ []) = page_named word
page_of options = None

-- the page that words ask for
unfoldable pub page_asked : List Text → Option Page
page_asked words = page_of (filter is_option words)

-- what is printed for it
unfoldable pub page_text : Page → Text
page_text Help = HELP.now
page_text Version = VERSION.now

-- the page was printed, or was cut by a fault
abbrev pub PrintsPage : Page → World → World → ℕ → Type 0
PrintsPage page old new status = ((status ≡ 0) × Wrote old new (page_text page))
    ⊎ ((status ≡ 5) × WroteCut old new (page_text page))
