use Rattle.gi_lit.proofs.Closing.{derivation_inside, nothing_conflicts}
use Rattle.gi_lit.proofs.laws.closed_lists_are_whole.Goals as goal

pub returns-clause-whole : goal.returns-clause-whole
returns-clause-whole c = derivation_inside

pub returns-clause-free : goal.returns-clause-free
returns-clause-free c = nothing_conflicts
