use Rattle.gi_wire.proofs.CallsBack.{back, back_alone}
use Rattle.gi_wire.proofs.laws.calls_are_read_back.Goals as goal

pub returns-clause-front : goal.returns-clause-front
returns-clause-front c = back

pub returns-clause-alone : goal.returns-clause-alone
returns-clause-alone c = back_alone
