use Rattle.std.proofs.Common.{take}
use Rattle.std.specs.List.{All}
use Rattle.gi_lit.specs.Truth.{IsConsequence}
use Rattle.gi_reference.proofs.listing.are_consequences.Given as goal

abbrev pub invariant-loop-l : goal.invariant-loop-l
invariant-loop-l l = All (IsConsequence l.clauses l.given) (take l.l-index l.lits)
