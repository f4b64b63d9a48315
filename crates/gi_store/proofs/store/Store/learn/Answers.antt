use Rattle.std.proofs.Common.{◌≡◌, length, sym, ◌∙◌, subst}
use Rattle.gi_store.specs.StoreView.{StoreView, IsLive, Keeps, IsWithin}
use Rattle.gi_store.proofs.Counted.{counted_learnt, counted_same}
use Rattle.gi_store.proofs.Views.{held_learnt, was_free}
use Rattle.gi_store.proofs.Removing.{keeps_learnt, live_learnt}
use Rattle.gi_store.proofs.store.Store.learn.Goals as goal

pub invariant_of-self : goal.invariant_of-self
invariant_of-self c = rw c.in_err-key.ensures.err.0 (counted_same c.self.inside.kinds.items c.self.inside.slots c.insert.new.slots _ _ _ _ _ _ _ c.self.invariant c.in_err-key.ensures.err.1)

pub invariant_of-self-2 : goal.invariant_of-self-2
invariant_of-self-2 c =
    let e : c.from_vec-clause.result ≡ c.args.c.now = c.from_vec-clause.ensures ∙ c.in_ok-from_slice.ensures.items in
    rw c.in_ok-key.ensures.keys (counted_learnt c.self.inside.kinds.items c.self.inside.slots c.insert.new.slots _ _ _ _ _ _ _ c.self.invariant c.in_ok-key.key c.from_vec-clause.result c.in_ok-key.ensures.vacant c.in_ok-key.ensures.updates (subst (λ (h : StoreView). IsWithin h.vars c.from_vec-clause.result) (sym c.self.view_is) (subst (λ xs. IsWithin c.args.self.now.vars xs) (sym e) c.requires)))

pub returns-clause-ok : goal.returns-clause-ok
returns-clause-ok c =
    let e : c.from_vec-clause.result ≡ c.args.c.now = c.from_vec-clause.ensures ∙ c.in_ok-from_slice.ensures.items in
    rw (c.in_ok-key.ensures.keys, ← c.self.view_is, ← e) (held_learnt c.self.inside.slots c.insert.new.slots c.in_ok-key.key c.from_vec-clause.result c.in_ok-key.ensures.vacant c.in_ok-key.ensures.updates _ _ _ c.self.invariant.kept.stored (length c.self.inside.kinds.items) c.self.inside.active.items c.self.inside.freed.items)

pub returns-clause-fresh : goal.returns-clause-fresh
returns-clause-fresh c = subst (λ h. ¬ IsLive h c.in_ok-key.key) c.self.view_is (was_free c.self.inside.slots c.insert.new.slots c.in_ok-key.key c.from_vec-clause.result c.in_ok-key.ensures.vacant c.in_ok-key.ensures.updates _ _ _ c.self.invariant.kept.stored (length c.self.inside.kinds.items) c.self.inside.active.items c.self.inside.freed.items)

pub returns-clause-keeps : goal.returns-clause-keeps
returns-clause-keeps c = subst (Keeps c.args.self.now) (sym (returns-clause-ok c)) (keeps_learnt c.in_ok-key.key c.args.c.now c.args.self.now)

pub returns-clause-live : goal.returns-clause-live
returns-clause-live c = subst (λ (h : StoreView). IsLive h c.in_ok-key.key) (sym (returns-clause-ok c)) (live_learnt c.in_ok-key.key c.args.c.now c.args.self.now)
