use Rattle.std.proofs.Common.{◌≡◌, ◌+◌, Some, None, get_or, sym, subst}
use Rattle.gi_prop.specs.Attached.{Attached, IsAttached, Goes, Watches, HasWatches}
use Rattle.gi_prop.specs.Watched.{IsIn}
use Rattle.gi_prop.proofs.Slots.{attached_at}
use Rattle.gi_prop.proofs.Closing.{watches_of}
use Rattle.gi_prop.proofs.prop.Prop.watches.Goals as goal

pub watch_in-requires : goal.watch_in-requires
watch_in-requires c =
    let at : get_or c.self.inside.slots.items c.args.key None ≡ Some c.args.key = attached_at _ c.args.key (subst (λ (p : Attached). IsAttached p c.args.key) (sym c.self.view_is) c.requires) in
    let l = c.self.invariant.first_linked.linked c.args.key at in
    rw c.number-node.ensures.value (c.self.invariant.first_linked.apart.within _ _ _ l.1.stands)

pub watch_in-requires-in-Some : goal.watch_in-requires-in-Some
watch_in-requires-in-Some c =
    let at : get_or c.self.inside.slots.items c.args.key None ≡ Some c.args.key = attached_at _ c.args.key (subst (λ (p : Attached). IsAttached p c.args.key) (sym c.self.view_is) c.requires) in
    let l = c.self.invariant.second_linked.linked c.args.key at in
    rw c.number-node.ensures.value (c.self.invariant.second_linked.apart.within _ _ _ l.1.stands)

pub returns-in-None-clause-value : goal.returns-in-None-clause-value
returns-in-None-clause-value c = λ h.
    let w = subst (λ (z : Attached). HasWatches z c.args.key) (sym c.self.view_is) h in
    c.in-None.ensures w.a w.watches.first_literal (rw c.number-node.ensures.value w.watches.first)

pub returns-in-None-watch_in-clause-value : goal.returns-in-None-watch_in-clause-value
returns-in-None-watch_in-clause-value c = λ h.
    let w = subst (λ (z : Attached). HasWatches z c.args.key) (sym c.self.view_is) h in
    c.in-None-watch_in.ensures w.b w.watches.second_literal (rw c.number-node.ensures.value w.watches.second)

pub returns-in-Some-watch_in-clause-value : goal.returns-in-Some-watch_in-clause-value
returns-in-Some-watch_in-clause-value c =
    let a : IsIn c.self.inside.first (c.in-Some.first + 1) c.args.key = subst (IsIn c.self.inside.first (c.in-Some.first + 1)) c.number-node.ensures.value c.in-Some.ensures.1 in
    let b : IsIn c.self.inside.second (c.in-Some-watch_in.second + 1) c.args.key = subst (IsIn c.self.inside.second (c.in-Some-watch_in.second + 1)) c.number-node.ensures.value c.in-Some-watch_in.ensures.1 in
    subst (λ (z : Attached). Watches z c.args.key c.in-Some.first c.in-Some-watch_in.second) c.self.view_is (record { first = a; second = b; first_literal = c.in-Some.ensures.0; second_literal = c.in-Some-watch_in.ensures.0 })

pub returns-in-Some-watch_in-clause-literals : goal.returns-in-Some-watch_in-clause-literals
returns-in-Some-watch_in-clause-literals c =
    let a : IsIn c.self.inside.first (c.in-Some.first + 1) c.args.key = subst (IsIn c.self.inside.first (c.in-Some.first + 1)) c.number-node.ensures.value c.in-Some.ensures.1 in
    let b : IsIn c.self.inside.second (c.in-Some-watch_in.second + 1) c.args.key = subst (IsIn c.self.inside.second (c.in-Some-watch_in.second + 1)) c.number-node.ensures.value c.in-Some-watch_in.ensures.1 in
    λ s t g. watches_of (record { slots = c.self.inside.slots.items; first = c.self.inside.first; second = c.self.inside.second }) s t c.args.key c.in-Some.first c.in-Some-watch_in.second c.self.invariant.first_linked.apart c.self.invariant.second_linked.apart (subst (λ (p : Attached). IsAttached p c.args.key) (sym c.self.view_is) c.requires) (subst (λ (z : Attached). Goes z s t) (sym c.self.view_is) g) (record { first = a; second = b; first_literal = c.in-Some.ensures.0; second_literal = c.in-Some-watch_in.ensures.0 })
