use Rattle.std.proofs.Common.{◌≡◌, take, ◌++◌, map}
use Rattle.gi_lit.specs.Problem.{guarded}
use Rattle.gi_reference.proofs.store.Store.full.Given as goal

abbrev pub invariant-loop-group : goal.invariant-loop-group
invariant-loop-group l = l.all.items ≡ l.self.plain ++ map guarded (take l.group-index l.self.groups)
