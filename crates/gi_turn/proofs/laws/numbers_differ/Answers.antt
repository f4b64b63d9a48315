use Rattle.gi_turn.proofs.Numbers.{child_above, child_same}
use Rattle.gi_turn.proofs.laws.numbers_differ.Goals as goal

pub returns-clause-differ : goal.returns-clause-differ
returns-clause-differ c = child_same

pub returns-clause-grow : goal.returns-clause-grow
returns-clause-grow c = child_above
