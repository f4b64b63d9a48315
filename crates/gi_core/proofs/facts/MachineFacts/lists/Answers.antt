use Rattle.gi_core.proofs.Reading.{same_has}
use Rattle.gi_core.proofs.facts.MachineFacts.lists.Goals as goal

pub returns : goal.returns
returns c = same_has _ _ _ c.lists.ensures
