use Rattle.gi_model.specs.State.{opening}
use Rattle.gi_model.proofs.Entering.{legal_push, after_push}
use Rattle.gi_model.proofs.laws.histories_go_on.Goals as goal

pub returns-clause-legal : goal.returns-clause-legal
returns-clause-legal c es e h a = record { each = legal_push es e opening h.each a }

pub returns-clause-state : goal.returns-clause-state
returns-clause-state c es e = after_push es e opening
