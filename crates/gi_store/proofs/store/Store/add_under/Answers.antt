use Rattle.std.proofs.Common.{arith, ◌+◌, ◌*◌, length, sym, ap, subst, length-append}
use Rattle.std.specs.List.{All, Contains}
use Rattle.std.proofs.lemmas.List.{length-map}
use Rattle.gi_lit.specs.Problem.{IsPlain, negatives}
use Rattle.gi_store.specs.StoreView.{StoreView, problem_of, IsLive, Keeps}
use Rattle.gi_store.proofs.Counted.{counted_group, counted_same}
use Rattle.gi_store.proofs.Views.{held_group, was_free}
use Rattle.gi_store.proofs.Removing.{keeps_under, live_under}
use Rattle.gi_store.proofs.store.Store.add_under.Goals as goal

pub invariant_of-self : goal.invariant_of-self
invariant_of-self c = rw c.in_err-key.ensures.err.0 (counted_same c.self.inside.kinds.items c.self.inside.slots c.insert_group.new.slots _ _ _ _ _ _ _ c.self.invariant c.in_err-key.ensures.err.1)

pub invariant_of-self-2 : goal.invariant_of-self-2
invariant_of-self-2 c =
    let l = ap length c.in_ok-clause.ensures in
    rw c.in_ok-key.ensures.groups (counted_group c.self.inside.kinds.items c.self.inside.slots c.insert_group.new.slots _ _ _ _ _ _ _ c.self.invariant c.in_ok-key.key c.in_ok-clause.clause c.in_ok-key.ensures.vacant c.in_ok-key.ensures.updates c.args.guards.now c.args.c.now c.in_ok-clause.ensures c.requires.some
    (subst (λ (h : StoreView). All (Contains h.active) c.args.guards.now) (sym c.self.view_is) c.requires.guards) (subst (λ (h : StoreView). IsPlain (problem_of h) c.args.c.now) (sym c.self.view_is) c.requires.plain) _
    (omega (arith, l, c.len.ensures, c.requires.some, length-append c.args.c.now (negatives c.args.guards.now), length-map c.args.guards.now (λ g. 2 * g + 1), c.in_ok-more.ensures.ok)))

pub returns-clause-ok : goal.returns-clause-ok
returns-clause-ok c =
    rw (c.in_ok-key.ensures.groups, ← c.self.view_is) (held_group c.self.inside.slots c.insert_group.new.slots c.in_ok-key.key c.in_ok-clause.clause c.in_ok-key.ensures.vacant c.in_ok-key.ensures.updates _ _ _ c.self.invariant.kept.stored c.args.guards.now c.args.c.now c.in_ok-clause.ensures (length c.self.inside.kinds.items) c.self.inside.active.items c.self.inside.freed.items)

pub returns-clause-fresh : goal.returns-clause-fresh
returns-clause-fresh c = subst (λ h. ¬ IsLive h c.in_ok-key.key) c.self.view_is (was_free c.self.inside.slots c.insert_group.new.slots c.in_ok-key.key c.in_ok-clause.clause c.in_ok-key.ensures.vacant c.in_ok-key.ensures.updates _ _ _ c.self.invariant.kept.stored (length c.self.inside.kinds.items) c.self.inside.active.items c.self.inside.freed.items)

pub returns-clause-keeps : goal.returns-clause-keeps
returns-clause-keeps c = subst (Keeps c.args.self.now) (sym (returns-clause-ok c)) (keeps_under c.in_ok-key.key c.args.guards.now c.args.c.now c.args.self.now)

pub returns-clause-live : goal.returns-clause-live
returns-clause-live c = subst (λ (h : StoreView). IsLive h c.in_ok-key.key) (sym (returns-clause-ok c)) (live_under c.in_ok-key.key c.args.guards.now c.args.c.now c.args.self.now)
