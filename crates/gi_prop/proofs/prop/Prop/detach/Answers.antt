use Rattle.std.proofs.Common.{◌≡◌, ℕ, Some, None, get_or, set, sym, ap, subst, arith}
use Rattle.gi_prop.specs.Attached.{Attached, IsAttached, Goes, KeepsWatches}
use Rattle.gi_prop.proofs.Slots.{attached_at, slot_below, detaches}
use Rattle.gi_prop.proofs.Dropping.{dropped_as, kept_drop, goes_drop, watches_drop}
use Rattle.gi_prop.proofs.prop.Prop.detach.Goals as goal

pub index_mut-requires : goal.index_mut-requires
index_mut-requires c =
    let at : get_or c.self.inside.slots.items c.args.key None ≡ Some c.args.key = attached_at _ c.args.key (subst (λ (p : Attached). IsAttached p c.args.key) (sym c.self.view_is) c.requires) in
    let below = slot_below c.self.inside.slots.items c.args.key at in
    omega (arith, below, c.number-node.ensures.value, c.self.inside.slots.ok.0)

pub unlink-requires : goal.unlink-requires
unlink-requires c =
    let at : get_or c.self.inside.slots.items c.args.key None ≡ Some c.args.key = attached_at _ c.args.key (subst (λ (p : Attached). IsAttached p c.args.key) (sym c.self.view_is) c.requires) in
    let l = c.self.invariant.first_linked.linked c.args.key at in
    rw c.number-node.ensures.value (l.0, l.1.place, l.1.stands)

pub unlink-requires-2 : goal.unlink-requires-2
unlink-requires-2 c =
    let at : get_or c.self.inside.slots.items c.args.key None ≡ Some c.args.key = attached_at _ c.args.key (subst (λ (p : Attached). IsAttached p c.args.key) (sym c.self.view_is) c.requires) in
    let l = c.self.invariant.second_linked.linked c.args.key at in
    rw c.number-node.ensures.value (l.0, l.1.place, l.1.stands)

pub invariant_of-self : goal.invariant_of-self
invariant_of-self c =
    let at : get_or c.self.inside.slots.items c.args.key None ≡ Some c.args.key = attached_at _ c.args.key (subst (λ (p : Attached). IsAttached p c.args.key) (sym c.self.view_is) c.requires) in
    let below = slot_below c.self.inside.slots.items c.args.key at in
    let f = c.self.invariant.first_linked.linked c.args.key at in
    let s = c.self.invariant.second_linked.linked c.args.key at in
    let df = dropped_as c.self.inside.first c.unlink.new.self f.0 c.args.key c.number-node.result c.number-node.ensures.value c.self.invariant.first_linked.apart f.1 c.unlink.ensures.after c.unlink.ensures.apart in
    let ds = dropped_as c.self.inside.second c.unlink-2.new.self s.0 c.args.key c.number-node.result c.number-node.ensures.value c.self.invariant.second_linked.apart s.1 c.unlink-2.ensures.after c.unlink-2.ensures.apart in
    rw c.number-node.ensures.value (kept_drop c.self.inside.slots.items _ _ _ _ c.args.key below df ds c.self.invariant)

pub returns : goal.returns
returns c =
    let at : get_or c.self.inside.slots.items c.args.key None ≡ Some c.args.key = attached_at _ c.args.key (subst (λ (p : Attached). IsAttached p c.args.key) (sym c.self.view_is) c.requires) in
    let below = slot_below c.self.inside.slots.items c.args.key at in
    let gone = ap (λ (n : ℕ). set c.self.inside.slots.items n None) c.number-node.ensures.value in
    let old : Attached = record { slots = c.self.inside.slots.items; first = c.self.inside.first; second = c.self.inside.second } in
    let new : Attached = record { slots = set c.self.inside.slots.items c.number-node.result None; first = c.unlink.new.self; second = c.unlink-2.new.self } in
    let f = c.self.invariant.first_linked.linked c.args.key at in
    let s = c.self.invariant.second_linked.linked c.args.key at in
    let df = dropped_as c.self.inside.first c.unlink.new.self f.0 c.args.key c.number-node.result c.number-node.ensures.value c.self.invariant.first_linked.apart f.1 c.unlink.ensures.after c.unlink.ensures.apart in
    let ds = dropped_as c.self.inside.second c.unlink-2.new.self s.0 c.args.key c.number-node.result c.number-node.ensures.value c.self.invariant.second_linked.apart s.1 c.unlink-2.ensures.after c.unlink-2.ensures.apart in
    record {
      detached = detaches c.self.inside.slots.items c.args.key below _ _ (sym (ap (λ (z : Attached). z.slots) c.self.view_is)) gone;
      goes = λ h t g. goes_drop old new c.args.key below gone df ds h t (subst (λ (z : Attached). Goes z h t) (sym c.self.view_is) g);
      others = λ k ne. subst (λ (z : Attached). KeepsWatches z new k) c.self.view_is (watches_drop old new c.args.key below gone df ds k ne);
    }
