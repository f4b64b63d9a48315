use Rattle.std.proofs.Common.{◌≡◌, ◌++◌, ◌↔◌, take, drop}
use Rattle.gi_lit.specs.Learnt.{AreFresh}
use Rattle.gi_reference.proofs.store.Store.are_fresh.Given as goal

abbrev pub invariant-loop-clause : goal.invariant-loop-clause
invariant-loop-clause l = record { learnt : l.learnt.items ≡ l.known ++ take l.clause-index l.news; same : AreFresh l.self l.known l.news ↔ AreFresh l.self (l.known ++ take l.clause-index l.news) (drop l.clause-index l.news) }
