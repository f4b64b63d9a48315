use Rattle.std.specs.List.{All, Contains}
use Rattle.gi_lit.specs.Closure.{IsDerivation}
use Rattle.gi_reference.proofs.Saturating.{unmet_count}
use Rattle.gi_reference.proofs.closure.closure.Given as goal

abbrev pub invariant-loop-lits : goal.invariant-loop-lits
invariant-loop-lits l = record { derived : IsDerivation l.clauses l.given l.lits; whole : All (Contains l.lits) l.given }

abbrev pub decreases-loop-lits : goal.decreases-loop-lits
decreases-loop-lits l = unmet_count l.lits l.clauses
