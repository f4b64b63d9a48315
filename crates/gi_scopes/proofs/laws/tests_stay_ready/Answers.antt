use Rattle.gi_scopes.proofs.Ready.{stays_ready, closed_ready}
use Rattle.gi_scopes.proofs.laws.tests_stay_ready.Goals as goal

pub returns-clause-tests : goal.returns-clause-tests
returns-clause-tests c = stays_ready

pub returns-clause-untests : goal.returns-clause-untests
returns-clause-untests c = closed_ready
