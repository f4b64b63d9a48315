use Rattle.std.proofs.Common.{◌≡◌, ◌<◌, ◌-◌, ◌++◌, Some, length, arith, sym, ap, ◌∙◌, subst}
use Rattle.std.specs.List.{Contains}
use Rattle.std.proofs.lemmas.List.Elements.{Contains-append_right}
use Rattle.gi_store.specs.StoreView.{StoreView, Holds, IsLive, known_of, at_place}
use Rattle.gi_store.specs.Stored.{clause_at, keys_in}
use Rattle.gi_store.proofs.Reading.{key_live, holds_slot, known_read, at_number}
use Rattle.gi_store.proofs.store.Store.known_at.Goals as goal

pub clause-requires : goal.clause-requires
clause-requires c =
    let lt : c.args.i - 1 < length c.self.inside.learnt.items = omega (arith, c.if-place-len.false, c.len.ensures, c.self.inside.learnt.ok.0) in
    let m : Contains c.self.inside.learnt.items c.index.result.now = (c.args.i - 1, lt, sym c.index.ensures) in
    subst (λ (h : StoreView). IsLive h c.index.result.now) c.self.view_is (key_live c.self.inside.slots c.self.inside.plain.items c.self.inside.groups.items c.self.inside.learnt.items (length c.self.inside.kinds.items) c.self.inside.active.items c.self.inside.freed.items c.self.invariant.kept.stored c.index.result.now
    (Contains-append_right c.self.inside.plain.items (keys_in c.self.inside.groups.items ++ c.self.inside.learnt.items) c.index.result.now (Contains-append_right (keys_in c.self.inside.groups.items) c.self.inside.learnt.items c.index.result.now m)))

pub returns : goal.returns
returns c =
    let lt : c.args.i - 1 < length c.self.inside.learnt.items = omega (arith, c.if-place-len.false, c.len.ensures, c.self.inside.learnt.ok.0) in
    let m : Contains c.self.inside.learnt.items c.index.result.now = (c.args.i - 1, lt, sym c.index.ensures) in
    let live = key_live c.self.inside.slots c.self.inside.plain.items c.self.inside.groups.items c.self.inside.learnt.items (length c.self.inside.kinds.items) c.self.inside.active.items c.self.inside.freed.items c.self.invariant.kept.stored c.index.result.now
    (Contains-append_right c.self.inside.plain.items (keys_in c.self.inside.groups.items ++ c.self.inside.learnt.items) c.index.result.now (Contains-append_right (keys_in c.self.inside.groups.items) c.self.inside.learnt.items c.index.result.now m)) in
    let holds = subst (λ (h : StoreView). Holds h c.index.result.now (clause_at c.self.inside.slots c.index.result.now)) c.self.view_is (holds_slot c.self.inside.slots c.self.inside.plain.items c.self.inside.groups.items c.self.inside.learnt.items (length c.self.inside.kinds.items) c.self.inside.active.items c.self.inside.freed.items c.self.invariant.kept.stored c.index.result.now live) in
    let e : c.clause.result.now ≡ clause_at c.self.inside.slots c.index.result.now = c.clause.ensures.only _ holds in
    subst (λ (h : StoreView). Some c.clause.result.now ≡ at_place (known_of h) c.args.i) c.self.view_is
    (at_number _ c.args.i (Some c.clause.result.now) c.if-i-eq0.false (ap Some e ∙ known_read c.self.inside.slots c.self.inside.learnt.items (c.args.i - 1) c.index.result.now lt c.index.ensures))
