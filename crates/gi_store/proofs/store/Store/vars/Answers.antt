use Rattle.std.proofs.Common.{subst, length}
use Rattle.gi_lit.specs.Lists.{IsDistinct}
use Rattle.gi_store.specs.StoreView.{StoreView, keys_of}
use Rattle.gi_store.proofs.Reading.{distinct_keys}
use Rattle.gi_store.proofs.store.Store.vars.Goals as goal

pub returns-clause-keys : goal.returns-clause-keys
returns-clause-keys c = subst (λ (h : StoreView). IsDistinct (keys_of h)) c.self.view_is (distinct_keys c.self.inside.slots _ _ _ (length c.self.inside.kinds.items) c.self.inside.active.items c.self.inside.freed.items c.self.invariant.kept.stored)
