use Rattle.std.proofs.Common.{take}
use Rattle.gi_scopes.specs.Listing.{MarksPlaces}
use Rattle.gi_scopes.proofs.implied.mark_places.Given as goal

abbrev pub invariant-loop-l : goal.invariant-loop-l
invariant-loop-l l = MarksPlaces l.trail.lits l.from (take l.l-index l.lits) l.fn.marks l.marks
