use Rattle.gi_reference.proofs.Leaving.{HasMet}
use Rattle.gi_reference.proofs.lists.is_sublist.Given as goal

abbrev pub invariant-loop-l : goal.invariant-loop-l
invariant-loop-l l = HasMet l.part l.whole l.met l.l-index
