use Rattle.gi_lit.proofs.Resting.{problems_rest}
use Rattle.gi_lit.proofs.laws.problems_rest_on_guards.Goals as goal

pub returns : goal.returns
returns c = problems_rest
