use Rattle.gi_aiger.specs.Places.{ArePlaces}
use Rattle.gi_aiger.specs.Tables.{value_of}
use Rattle.gi_aiger.proofs.gates.places_of.Given as goal

abbrev pub invariant-loop-place : goal.invariant-loop-place
invariant-loop-place l = ArePlaces l.gates l.place (value_of l.places)
