use Rattle.std.proofs.Common.{◌≡◌, ◌≤◌, take}
use Rattle.gi_lit.specs.Literals.{max_var}
use Rattle.gi_lit.specs.Problem.{top}
use Rattle.gi_lit.proofs.top.top_variable.Given as goal

abbrev pub invariant-loop-l : goal.invariant-loop-l
invariant-loop-l l = (l.greatest ≡ top (take l.l-index l.lits)) × (l.greatest ≤ max_var)
