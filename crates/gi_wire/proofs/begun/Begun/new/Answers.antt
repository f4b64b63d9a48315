use Rattle.std.proofs.Common.{arith}
use Rattle.gi_wire.proofs.Joining.{holds_none, is_alone}
use Rattle.gi_wire.proofs.begun.Begun.new.Goals as goal

pub invariant_of-result : goal.invariant_of-result
invariant_of-result c = holds_none c.new.result 0 c.new.ensures (omega arith)

pub returns : goal.returns
returns c = is_alone c.args.first c.new.result c.new.ensures
