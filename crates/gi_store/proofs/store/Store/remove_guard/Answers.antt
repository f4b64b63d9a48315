use Rattle.std.proofs.Common.{length, arith, sym, ap, refl, subst}
use Rattle.std.specs.List.{Contains, sum_by}
use Rattle.gi_store.specs.Stored.{group_length, keys_in}
use Rattle.gi_lit.specs.Lists.{IsDistinct}
use Rattle.gi_lit.proofs.Distinct.{IsDistinct-append_left}
use Rattle.gi_store.specs.StoreView.{StoreView, Keeps, keys_of}
use Rattle.gi_store.proofs.Lists.{IsDistinct-append_right}
use Rattle.gi_store.proofs.Kept.{without_held}
use Rattle.gi_store.proofs.Counted.{counted_without, groups_within}
use Rattle.gi_store.proofs.Edits.{g_high}
use Rattle.gi_store.proofs.Removing.{keeps_without}
use Rattle.gi_store.proofs.Sizes.{without_less}
use Rattle.gi_store.proofs.Reading.{distinct_keys}
use Rattle.gi_store.proofs.store.Store.remove_guard.Goals as goal

pub forget_groups-requires-clause-distinct : goal.forget_groups-requires-clause-distinct
forget_groups-requires-clause-distinct c = IsDistinct-append_left (keys_in c.self.inside.groups.items) c.self.inside.learnt.items (IsDistinct-append_right c.self.inside.plain.items _ c.self.invariant.kept.stored.keys.distinct)

pub forget_groups-requires-clause-fits : goal.forget_groups-requires-clause-fits
forget_groups-requires-clause-fits c =
    let w = groups_within c.self.inside.kinds.items c.self.inside.slots _ _ _ _ _ _ _ c.self.invariant in
    omega (arith, w, c.self.ranges)

pub forget_naming-requires : goal.forget_naming-requires
forget_naming-requires c = record { distinct = IsDistinct-append_right (keys_in c.self.inside.groups.items) c.self.inside.learnt.items (IsDistinct-append_right c.self.inside.plain.items _ c.self.invariant.kept.stored.keys.distinct) }

pub overflow_sub-self : goal.overflow_sub-self
overflow_sub-self c =
    let w = groups_within c.self.inside.kinds.items c.self.inside.slots _ _ _ _ _ _ _ c.self.invariant in
    let e = c.forget_groups.ensures.gone in
    omega (arith, w, e)

pub index_mut-requires : goal.index_mut-requires
index_mut-requires c =
    let a : Contains c.self.inside.active.items c.args.guard = subst (λ (h : StoreView). Contains h.active c.args.guard) (sym c.self.view_is) c.requires in
    let high = g_high _ c.self.invariant.kept.whole c.args.guard a in
    omega (arith, high, c.index.ensures.value, c.index.ensures.low, c.self.inside.kinds.ok.0)

pub push_reserved-requires : goal.push_reserved-requires
push_reserved-requires c =
    let a : Contains c.self.inside.active.items c.args.guard = subst (λ (h : StoreView). Contains h.active c.args.guard) (sym c.self.view_is) c.requires in
    let less = without_less c.args.guard c.self.inside.active.items a in
    omega (arith, less, c.self.invariant.kept.rooms, c.self.inside.freed.ok.0)

pub invariant_of-self : goal.invariant_of-self
invariant_of-self c =
    let a : Contains c.self.inside.active.items c.args.guard = subst (λ (h : StoreView). Contains h.active c.args.guard) (sym c.self.view_is) c.requires in
    let less = without_less c.args.guard c.self.inside.active.items a in
    let e = ap (sum_by (group_length c.self.inside.slots)) (sym c.forget_groups.ensures.kept) in
    let gone = c.forget_groups.ensures.gone in
    rw (c.index.ensures.value, c.forget_groups.ensures.kept, c.forget_naming.ensures.kept, c.drop_var.ensures.items, c.push_reserved.ensures.items, c.push_reserved.ensures.capacity)
    (counted_without c.self.inside.kinds.items c.self.inside.slots c.forget_groups.new.slots c.forget_naming.new.slots _ _ _ _ _ _ _ c.self.invariant c.args.guard a c.forget_groups.ensures.others c.forget_naming.ensures.others _ _ c.forget_groups.result (omega (arith, less, c.self.invariant.kept.rooms))
    (omega (arith, e, gone)) refl)

pub returns-clause-after : goal.returns-clause-after
returns-clause-after c =
    let a : Contains c.self.inside.active.items c.args.guard = subst (λ (h : StoreView). Contains h.active c.args.guard) (sym c.self.view_is) c.requires in
    rw (c.index.ensures.value, c.forget_groups.ensures.kept, c.forget_naming.ensures.kept, c.drop_var.ensures.items, c.push_reserved.ensures.items, ← c.self.view_is)
    (without_held c.self.inside.kinds.items c.self.inside.slots c.forget_groups.new.slots c.forget_naming.new.slots _ _ _ _ _ _ c.self.invariant.kept c.args.guard a c.forget_groups.ensures.others c.forget_naming.ensures.others)

pub returns-clause-keeps : goal.returns-clause-keeps
returns-clause-keeps c = subst (Keeps c.args.self.now) (sym (returns-clause-after c)) (keeps_without c.args.guard c.args.self.now (subst (λ (h : StoreView). IsDistinct (keys_of h)) c.self.view_is (distinct_keys c.self.inside.slots _ _ _ (length c.self.inside.kinds.items) c.self.inside.active.items c.self.inside.freed.items c.self.invariant.kept.stored)))
