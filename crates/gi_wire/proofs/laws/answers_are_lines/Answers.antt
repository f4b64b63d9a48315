use Rattle.gi_wire.proofs.AnswerLines.{lines}
use Rattle.gi_wire.proofs.laws.answers_are_lines.Goals as goal

pub returns : goal.returns
returns c = lines
