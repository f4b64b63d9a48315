use Rattle.std.proofs.Common.{◌≡◌, ◌++◌, map}
use Rattle.std.specs.List.{flat_map, range_with_len}
use Rattle.gi_drill.specs.Script.{lines_text, round, variable_of}
use Rattle.gi_drill.proofs.script.put_rounds.Given as goal

abbrev pub invariant-loop-i : goal.invariant-loop-i
invariant-loop-i l = l.out ≡ l.fn.out ++ lines_text (flat_map round (map variable_of (range_with_len 0 l.i)))
