use Rattle.gi_tool.proofs.Opening.{of_room}
use Rattle.gi_tool.proofs.answering.open.Goals as goal

pub returns-clause-of : goal.returns-clause-of
returns-clause-of c = of_room c.open.result c.open.ensures
