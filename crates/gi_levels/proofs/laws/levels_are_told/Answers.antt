use Rattle.gi_levels.proofs.Bounded as bounded
use Rattle.gi_levels.proofs.laws.levels_are_told.Goals as goal

pub returns-clause-one : goal.returns-clause-one
returns-clause-one c = bounded.one

pub returns-clause-there : goal.returns-clause-there
returns-clause-there c = bounded.there

pub returns-clause-found : goal.returns-clause-found
returns-clause-found c = bounded.found
