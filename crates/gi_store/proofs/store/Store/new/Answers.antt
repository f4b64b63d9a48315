use Rattle.std.proofs.Common.{rules, refl}
use Rattle.gi_lit.specs.Problem.{lit_count}
use Rattle.gi_store.proofs.store.Store.new.Goals as goal

pub invariant_of-result : goal.invariant_of-result
unfolding lit_count
invariant_of-result c = record { kept = search rules; count = rw (c.new-5.ensures.items, c.new-6.ensures.items) refl }
