use Rattle.gi_unroll.proofs.Chosen.{none_kept}
use Rattle.gi_unroll.proofs.unroll.Unroll.new.Goals as goal

pub invariant_of-result : goal.invariant_of-result
invariant_of-result c = none_kept c.args.circuit c.new.result c.new-2.result.items c.new.ensures
