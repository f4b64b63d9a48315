use Rattle.std.proofs.Common.{rules}
use Rattle.gi_command.specs.Words.{command_of}
use Rattle.gi_command.proofs.reading.read_words.Goals as goal

pub returns-in-Some-clause-command : goal.returns-in-Some-clause-command
unfolding command_of
returns-in-Some-clause-command c = rw (← c.in_ok-matches.ensures, c.in-Some.is) c.command_found.ensures.command

pub returns-in-None-clause-command : goal.returns-in-None-clause-command
unfolding command_of
returns-in-None-clause-command c = rw (← c.in_ok-matches.ensures, c.in-None.is) (search rules)
