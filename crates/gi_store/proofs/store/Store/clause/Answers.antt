use Rattle.std.proofs.Common.{◌≡◌, ℕ, List, [], Some, None, Option, length, sym, ap, ◌∙◌, subst}
use Rattle.std.specs.Option.{IsSome, unwrap_or, option_copied}
use Rattle.std.proofs.lemmas.Bool.{false≢true}
use Rattle.slab.specs.Slab.{get}
use Rattle.gi_store.specs.StoreView.{StoreView, Holds, IsLive}
use Rattle.gi_store.specs.Stored.{clause_at, held_of}
use Rattle.gi_store.proofs.Reading.{has_slot, holds_slot, holds_only}
use Rattle.gi_store.proofs.store.Store.clause.Goals as goal

holds_as : (h : StoreView) (k : ℕ) (c d : List ℕ) → c ≡ d → Holds h k c → Holds h k d
holds_as h k c d e x = subst (Holds h k) e x

pub unreachable-requires : goal.unreachable-requires
unreachable-requires c =
    let l = subst (λ (h : StoreView). IsLive h c.args.key) (sym c.self.view_is) c.requires in
    let s = has_slot c.self.inside.slots _ _ _ (length c.self.inside.kinds.items) c.self.inside.active.items c.self.inside.freed.items c.self.invariant.kept.stored c.args.key l in
    let n : get c.self.inside.slots c.args.key ≡ None = ap (get c.self.inside.slots) (sym c.slot.ensures) ∙ sym c.get.ensures ∙ ap option_copied c.in-None.is in
    false≢true (subst (λ (o : Option (List ℕ)). IsSome o) n s)

pub returns-clause-holds : goal.returns-clause-holds
returns-clause-holds c =
    let l = subst (λ (h : StoreView). IsLive h c.args.key) (sym c.self.view_is) c.requires in
    let n : get c.self.inside.slots c.args.key ≡ Some c.as_slice.result.now = ap (get c.self.inside.slots) (sym c.slot.ensures) ∙ sym c.get.ensures ∙ ap option_copied c.in-Some.is ∙ ap Some (sym c.as_slice.ensures) in
    let e : clause_at c.self.inside.slots c.args.key ≡ c.as_slice.result.now = ap (λ (o : Option (List ℕ)). unwrap_or o []) n in
    subst (λ (h : StoreView). Holds h c.args.key c.as_slice.result.now) c.self.view_is (holds_as (held_of (length c.self.inside.kinds.items) c.self.inside.slots c.self.inside.plain.items c.self.inside.groups.items c.self.inside.learnt.items c.self.inside.active.items c.self.inside.freed.items) c.args.key _ _ e (holds_slot c.self.inside.slots _ _ _ (length c.self.inside.kinds.items) c.self.inside.active.items c.self.inside.freed.items c.self.invariant.kept.stored c.args.key l))

pub returns-clause-only : goal.returns-clause-only
returns-clause-only c = λ d x.
    let l = subst (λ (h : StoreView). IsLive h c.args.key) (sym c.self.view_is) c.requires in
    let n : get c.self.inside.slots c.args.key ≡ Some c.as_slice.result.now = ap (get c.self.inside.slots) (sym c.slot.ensures) ∙ sym c.get.ensures ∙ ap option_copied c.in-Some.is ∙ ap Some (sym c.as_slice.ensures) in
    ap (λ (o : Option (List ℕ)). unwrap_or o []) (sym n) ∙ holds_only c.self.inside.slots _ _ _ (length c.self.inside.kinds.items) c.self.inside.active.items c.self.inside.freed.items c.self.invariant.kept.stored c.args.key l d (subst (λ (h : StoreView). Holds h c.args.key d) (sym c.self.view_is) x)
