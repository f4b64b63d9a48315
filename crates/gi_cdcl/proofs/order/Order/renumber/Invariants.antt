use Rattle.std.proofs.Common.{◌<◌}
use Rattle.std.specs.Option.{IfSome}
use Rattle.gi_cdcl.proofs.order.Order.renumber.Given as goal

abbrev pub invariant-loop-i : goal.invariant-loop-i
invariant-loop-i l = IfSome l.at (λ v. v < l.self.list)
