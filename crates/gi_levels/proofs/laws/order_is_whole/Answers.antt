use Rattle.gi_levels.proofs.Gathered as gathered
use Rattle.gi_levels.proofs.Standing.{order_stands}
use Rattle.gi_levels.proofs.laws.order_is_whole.Goals as goal

pub returns-clause-whole : goal.returns-clause-whole
returns-clause-whole c = gathered.order_is_whole

pub returns-clause-rises : goal.returns-clause-rises
returns-clause-rises c = gathered.order_rises

pub returns-clause-stands : goal.returns-clause-stands
returns-clause-stands c = order_stands
