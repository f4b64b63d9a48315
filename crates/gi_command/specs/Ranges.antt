-- The ranges of a command's numbers.
use Rattle.std.specs.Prelude.{◌≤◌}
use Rattle.gi_command.specs.declared.command.Command.{Command}
use Rattle.gi_command.specs.declared.command.Command.TheVariants.{Solve, Drill}

-- a budget is at least 1, and rounds are at most 10,000
abbrev pub IsInRange : Command → Type 0
IsInRange (Solve form budget) = 1 ≤ budget
IsInRange (Drill rounds) = rounds ≤ 10000
IsInRange other = Unit {0}
