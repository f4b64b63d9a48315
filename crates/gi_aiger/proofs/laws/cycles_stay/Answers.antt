use Rattle.gi_aiger.proofs.OneCycle as cycles
use Rattle.gi_aiger.proofs.laws.cycles_stay.Goals as goal

pub returns-clause-one : goal.returns-clause-one
returns-clause-one c = cycles.one

pub returns-clause-stay : goal.returns-clause-stay
returns-clause-stay c = cycles.stay
