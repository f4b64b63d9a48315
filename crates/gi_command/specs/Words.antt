-- The words of a command line.
use Rattle.std.specs.Prelude.{ℕ, ℤ, pos, negsuc, nat_le, ◌&&◌, Bool, true, false, List, [], ◌∷◌, codes, Option, Some, None, option_map, option_and_then, if◌then◌else◌}
use Rattle.std.specs.Option.{option_map_or}
use Rattle.std.specs.Str.{bytes_eq}
use Rattle.clap.specs.Walk.{Row, Text, all_of, first_of}
use Rattle.gi_files.specs.declared.form.Form.{Form}
use Rattle.gi_files.specs.declared.form.Form.TheVariants.{Cnf, Icnf}
use Rattle.gi_text.specs.Numbers.{number_of}
use Rattle.gi_command.specs.Parsing.{rows_read}
use Rattle.gi_command.specs.declared.command.Command.{Command}
use Rattle.gi_command.specs.declared.command.Command.TheVariants.{Run, Check, Convert, Solve, Drill}

-- a number without a sign, within these bounds
abbrev pub unsigned_in : ℕ → ℕ → Option ℤ → Option ℕ
unsigned_in least most None = None
unsigned_in least most (Some (pos n)) = if nat_le least n && nat_le n most then Some n else None
unsigned_in least most (Some (negsuc n)) = None

abbrev pub number_in : ℕ → ℕ → Text → Option ℕ
number_in least most word = unsigned_in least most (number_of word)

-- the form of that name
unfoldable pub form_at : Text → Option Form
form_at word = if bytes_eq word (codes "cnf") then Some Cnf
    else if bytes_eq word (codes "icnf") then Some Icnf else None

-- `run` alone, or with -q
unfoldable pub one_word : Text → Bool → Option Text → Option Command
one_word name quiet None = if bytes_eq name (codes "run") then Some (Run quiet) else None
one_word name quiet (Some budget) = None

-- a name with a form or a number behind it
unfoldable pub two_words : Text → Text → Option Command
two_words name word = if bytes_eq name (codes "check") then option_map Check (form_at word)
    else if bytes_eq name (codes "convert") then option_map Convert (form_at word)
    else if bytes_eq name (codes "solve")
    then option_map (λ form. Solve form 4294967295) (form_at word)
    else if bytes_eq name (codes "drill") then option_map Drill (number_in 0 10000 word) else None

-- a solve of that form, with that budget
abbrev pub solve_with : Option Form → Option ℕ → Option Command
solve_with (Some form) (Some budget) = Some (Solve form budget)
solve_with (Some form) None = None
solve_with None budget = None

-- `solve` with a form behind it, and a budget
unfoldable pub with_budget : Text → Text → Text → Option Command
with_budget name form number = if bytes_eq name (codes "solve")
    then solve_with (form_at form) (number_in 1 4294967295 number) else None

-- two words without -q
abbrev pub two_at : Text → Text → Bool → Option Text → Option Command
two_at name word true budget = None
two_at name word false None = two_words name word
two_at name word false (Some number) = with_budget name word number

-- the command of a line of words, with -q or without, and with that budget or without one
abbrev pub command_at : List Text → Bool → Option Text → Option Command
command_at (name ∷ []) quiet budget = one_word name quiet budget
command_at (name ∷ word ∷ []) quiet budget = two_at name word quiet budget
command_at other quiet budget = None

-- the words that are no options
abbrev pub words_in : List Row → Option (List Text)
words_in rows = all_of (codes "words") rows

-- whether -q was among them
abbrev pub quiet_in : List Row → Bool
quiet_in rows = option_map_or (λ text. bytes_eq text (codes "true")) (first_of (codes "quiet") rows)
    false

-- the value of --budget
abbrev pub budget_in : List Row → Option Text
budget_in rows = first_of (codes "budget") rows

-- the command of what was read
unfoldable pub command_in : List Row → Option Command
command_in rows = option_and_then (λ words. command_at words (quiet_in rows) (budget_in rows))
    (words_in rows)

-- the command that words are: none where they aren't read, or what was read is no command's line
unfoldable pub command_of : List Text → Option Command
command_of words = option_and_then command_in (rows_read words)
