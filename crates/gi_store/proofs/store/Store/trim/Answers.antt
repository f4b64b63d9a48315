use Rattle.std.proofs.Common.{◌≡◌, ◌/◌, length, arith, sym, subst}
use Rattle.gi_lit.specs.Lists.{IsDistinct}
use Rattle.gi_store.specs.StoreView.{StoreView, Keeps, keys_of}
use Rattle.gi_store.proofs.Counted.{counted_trimmed}
use Rattle.gi_store.proofs.Removing.{held_trimmed, keeps_trimmed}
use Rattle.gi_store.proofs.Reading.{distinct_keys}
use Rattle.gi_store.proofs.store.Store.trim.Goals as goal

pub invariant_of-self : goal.invariant_of-self
invariant_of-self c =
    let half : c.len-half.result / 2 ≡ length c.self.inside.learnt.items / 2 = omega (arith, c.len-half.ensures, c.self.inside.learnt.ok.0) in
    rw c.forget_first.ensures.kept (counted_trimmed c.self.inside.kinds.items c.self.inside.slots c.forget_first.new.slots _ _ _ _ _ _ _ c.self.invariant (c.len-half.result / 2) half c.forget_first.ensures.others)

pub returns-clause-after : goal.returns-clause-after
returns-clause-after c =
    let half : c.len-half.result / 2 ≡ length c.self.inside.learnt.items / 2 = omega (arith, c.len-half.ensures, c.self.inside.learnt.ok.0) in
    rw (c.forget_first.ensures.kept, ← c.self.view_is) (held_trimmed c.self.inside.slots c.forget_first.new.slots _ _ _ (c.len-half.result / 2) c.self.invariant.kept.stored c.forget_first.ensures.others (length c.self.inside.kinds.items) c.self.inside.active.items c.self.inside.freed.items half)

pub returns-clause-keeps : goal.returns-clause-keeps
returns-clause-keeps c = subst (Keeps c.args.self.now) (sym (returns-clause-after c)) (keeps_trimmed c.args.self.now (subst (λ (h : StoreView). IsDistinct (keys_of h)) c.self.view_is (distinct_keys c.self.inside.slots _ _ _ (length c.self.inside.kinds.items) c.self.inside.active.items c.self.inside.freed.items c.self.invariant.kept.stored)))
