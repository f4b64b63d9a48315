use Rattle.std.proofs.Common.{sym, ◌∙◌, ◌%◌, arith}
use Rattle.std.proofs.lemmas.Bool.{eqb-false}
use Rattle.gi_example.proofs.Places.{place_of}
use Rattle.gi_example.proofs.lift.is_at.Goals as goal

pub returns : goal.returns
returns c = place_of c.args.steps c.args.literal (omega arith) (eqb-false (c.args.literal % 2) 1 (sym c.is_negative.ensures ∙ c.if-is_negative.false)) (omega arith)
