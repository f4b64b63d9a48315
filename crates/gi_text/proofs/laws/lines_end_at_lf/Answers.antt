use Rattle.std.proofs.Common.{ap, ◌∙◌}
use Rattle.gi_text.specs.Lines.{line_at}
use Rattle.gi_text.proofs.Splits.{line_of_parts, parts_of}
use Rattle.gi_text.proofs.laws.lines_end_at_lf.Goals as goal

pub returns : goal.returns
returns c = λ bytes line rest. (parts_of bytes (line, rest), λ (e, all). ap line_at e ∙ line_of_parts line rest all)
