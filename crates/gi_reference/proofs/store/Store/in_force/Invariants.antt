use Rattle.std.proofs.Common.{◌≡◌, take, ◌++◌}
use Rattle.gi_lit.specs.Problem.{forced}
use Rattle.gi_reference.proofs.store.Store.in_force.Given as goal

abbrev pub invariant-loop-group : goal.invariant-loop-group
invariant-loop-group l = l.all.items ≡ l.self.plain ++ forced l.given (take l.group-index l.self.groups)
