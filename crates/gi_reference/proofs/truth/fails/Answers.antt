use Rattle.std.proofs.Common.{arith}
use Rattle.gi_reference.proofs.Trying.{all_tried}
use Rattle.gi_reference.proofs.truth.fails.Goals as goal

pub returns : goal.returns
returns c = all_tried c.args.clauses.now c.args.lits.now c.as_mut_slice.result.now c.top_of-count.result c.fails_from.result (omega (arith, c.as_mut_slice.ensures.len, c.in_ok-values.ensures.len)) c.fails_from.ensures.fails
