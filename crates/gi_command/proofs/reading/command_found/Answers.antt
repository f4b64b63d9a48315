use Rattle.std.proofs.Common.{rules, codes}
use Rattle.clap.proofs.WalkLemmas.{first_value-rows, raw_values-rows}
use Rattle.clap.specs.Words.{found_of}
use Rattle.gi_command.specs.Words.{command_in}
use Rattle.gi_command.proofs.reading.command_found.Goals as goal

pub returns-in_err-words-clause-command : goal.returns-in_err-words-clause-command
unfolding command_in
returns-in_err-words-clause-command c = rw (← raw_values-rows (found_of c.args.matches.now) (codes "words"), ← c.get_raw.ensures, c.in_err-words.was) (search rules)

pub returns-clause-command : goal.returns-clause-command
unfolding command_in
returns-clause-command c = rw (← raw_values-rows (found_of c.args.matches.now) (codes "words"), ← c.get_raw.ensures, c.in_ok-words.was, ← first_value-rows (found_of c.args.matches.now) (codes "budget"), ← c.get_str.ensures, ← c.is_quiet.ensures) c.line_of.ensures.command
