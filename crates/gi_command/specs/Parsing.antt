-- What is read of words, by a simple command.
use Rattle.std.specs.Prelude.{List, [], ◌∷◌, Option, Some, None, true, codes}
use Rattle.clap.specs.Faults.{fault_of}
use Rattle.clap.specs.Kinds.{Kinds}
use Rattle.clap.specs.Walk.{Row, Rule, Text}
use Rattle.clap.specs.Simple.{App, matches_of, new_app, new_rule, on_top, with_rule}
use Rattle.clap.specs.declared.builder.action.ArgAction.TheVariants.{Append, Set, SetTrue}

-- words without an option, one after the other
abbrev pub words_rule : Rule
words_rule = record (new_rule (codes "words")) { action = Some Append }

-- the flag -q
abbrev pub quiet_rule : Rule
quiet_rule = record (new_rule (codes "quiet")) { short = Some 113; action = Some SetTrue }

-- the option --budget with a value
abbrev pub budget_rule : Rule
budget_rule = record (new_rule (codes "budget")) { long = Some (codes "budget"); action = Some Set }

-- a program without its name as first word, and without a help of its own
abbrev pub bare_program : App
bare_program = on_top (λ s. record s { no_binary_name = true; disable_help_flag = true })
    (new_app (codes "gi_tool"))

-- the simple command of these
unfoldable pub program : App
program = with_rule (with_rule (with_rule bare_program words_rule) quiet_rule) budget_rule

-- rows, unless there is a fault
abbrev pub rows_unless : Kinds → List Row → Option (List Row)
rows_unless [] rows = Some rows
rows_unless (fault ∷ faults) rows = None

-- what it reads of words, unless it refuses them
unfoldable pub rows_read : List Text → Option (List Row)
rows_read words = rows_unless (fault_of program words) (matches_of program words)
