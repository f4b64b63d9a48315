use Rattle.std.proofs.Common.{◌<◌, ℕ, length, [], get_or}
use Rattle.gi_cdcl.specs.Sound.{stored}
use Rattle.gi_cdcl.proofs.empty.has_empty_in_problem.Given as goal

abbrev pub invariant-loop-i : goal.invariant-loop-i
invariant-loop-i l = (j : ℕ) → j < l.i → 0 < length (get_or (stored l.store) j [])
