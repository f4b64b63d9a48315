use Rattle.gi_text.proofs.Magnitudes.{SoFar}
use Rattle.gi_text.proofs.numbers.read_magnitude.Given as goal

abbrev pub invariant-loop-b : goal.invariant-loop-b
invariant-loop-b l = SoFar l.digits l.b-index l.m
