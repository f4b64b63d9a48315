use Rattle.gi_reference.proofs.truth.+fails_from.Given as goal

abbrev pub decreases-fails_from : goal.decreases-fails_from
decreases-fails_from l = l.free
