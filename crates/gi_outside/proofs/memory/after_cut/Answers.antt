use Rattle.std.proofs.Common.{sym}
use Rattle.std.proofs.lemmas.List.{drop-drop}
use Rattle.gi_outside.proofs.memory.after_cut.Goals as goal

pub returns-then-cut-cuts : goal.returns-then-cut-cuts
returns-then-cut-cuts c = sym (drop-drop 1 c.args.cut c.args.cuts.now)
