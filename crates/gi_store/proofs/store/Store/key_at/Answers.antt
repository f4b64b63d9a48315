use Rattle.std.proofs.Common.{◌≡◌, ◌<◌, ◌≤◌, ◌-◌, ◌++◌, Some, None, length, arith, sym, ap, ◌∙◌, subst}
use Rattle.std.specs.List.{slice_get}
use Rattle.std.proofs.lemmas.List.{length-map}
use Rattle.gi_store.specs.StoreView.{StoreView, keys_of, at_place}
use Rattle.gi_store.specs.declared.group_key.GroupKey.{GroupKey}
use Rattle.gi_store.specs.Stored.{keys_in}
use Rattle.gi_store.proofs.Reading.{get_map, get_left, get_right, get_read, get_past, key_read}
use Rattle.gi_store.proofs.store.Store.key_at.Goals as goal

pub returns-then-place-len : goal.returns-then-place-len
returns-then-place-len c =
    let lt : c.args.i - 1 < length c.self.inside.plain.items = omega (arith, c.if-place-len.true, c.len.ensures, c.self.inside.plain.ok.0) in
    subst (λ (h : StoreView). Some c.index.result.now ≡ at_place (keys_of h) c.args.i) c.self.view_is (key_read c.self.inside.slots _ _ _ (length c.self.inside.kinds.items) c.self.inside.active.items c.self.inside.freed.items c.self.invariant.kept.stored c.args.i _ c.if-i-eq0.false
    (get_read c.self.inside.plain.items (c.args.i - 1) c.index.result.now lt c.index.ensures ∙ sym (get_left c.self.inside.plain.items (keys_in c.self.inside.groups.items ++ c.self.inside.learnt.items) (c.args.i - 1) lt)))

pub returns-then-place-len-2 : goal.returns-then-place-len-2
returns-then-place-len-2 c =
    let past : length c.self.inside.plain.items ≤ c.args.i - 1 = omega (arith, c.if-place-len.false, c.len.ensures, c.self.inside.plain.ok.0) in
    let at : c.args.i - 1 - c.len-2.result ≡ c.args.i - 1 - length c.self.inside.plain.items = omega (arith, c.len-2.ensures, c.self.inside.plain.ok.0) in
    let lt : c.args.i - 1 - c.len-2.result < length c.self.inside.groups.items = omega (arith, c.if-place-len-2.true, c.len-3.ensures, c.self.inside.groups.ok.0) in
    let long : length (keys_in c.self.inside.groups.items) ≡ length c.self.inside.groups.items = length-map c.self.inside.groups.items (λ (g : GroupKey). g.key) in
    subst (λ (h : StoreView). Some c.index-then-place-len-2.result.now.key ≡ at_place (keys_of h) c.args.i) c.self.view_is (key_read c.self.inside.slots _ _ _ (length c.self.inside.kinds.items) c.self.inside.active.items c.self.inside.freed.items c.self.invariant.kept.stored c.args.i _ c.if-i-eq0.false
    (get_map (λ (g : GroupKey). g.key) c.self.inside.groups.items (c.args.i - 1 - c.len-2.result) c.index-then-place-len-2.result.now lt c.index-then-place-len-2.ensures
    ∙ sym (get_left (keys_in c.self.inside.groups.items) c.self.inside.learnt.items (c.args.i - 1 - c.len-2.result) (omega (arith, lt, long)))
    ∙ ap (slice_get (keys_in c.self.inside.groups.items ++ c.self.inside.learnt.items)) at
    ∙ sym (get_right c.self.inside.plain.items (keys_in c.self.inside.groups.items ++ c.self.inside.learnt.items) (c.args.i - 1) past)))

pub returns-then-place-len-3 : goal.returns-then-place-len-3
returns-then-place-len-3 c =
    let past : length c.self.inside.plain.items ≤ c.args.i - 1 = omega (arith, c.if-place-len.false, c.len.ensures, c.self.inside.plain.ok.0) in
    let long : length (keys_in c.self.inside.groups.items) ≡ length c.self.inside.groups.items = length-map c.self.inside.groups.items (λ (g : GroupKey). g.key) in
    let further : length (keys_in c.self.inside.groups.items) ≤ c.args.i - 1 - length c.self.inside.plain.items = omega (arith, long, c.if-place-len-2.false, c.len-2.ensures, c.len-3.ensures, c.self.inside.plain.ok.0, c.self.inside.groups.ok.0) in
    let at : c.args.i - 1 - c.len-2.result - c.len-4.result ≡ c.args.i - 1 - length c.self.inside.plain.items - length (keys_in c.self.inside.groups.items) = omega (arith, long, c.len-2.ensures, c.len-4.ensures, c.self.inside.plain.ok.0, c.self.inside.groups.ok.0) in
    let lt : c.args.i - 1 - c.len-2.result - c.len-4.result < length c.self.inside.learnt.items = omega (arith, c.if-place-len-3.true, c.len-5.ensures, c.self.inside.learnt.ok.0) in
    subst (λ (h : StoreView). Some c.index-then-place-len-3.result.now ≡ at_place (keys_of h) c.args.i) c.self.view_is (key_read c.self.inside.slots _ _ _ (length c.self.inside.kinds.items) c.self.inside.active.items c.self.inside.freed.items c.self.invariant.kept.stored c.args.i _ c.if-i-eq0.false
    (get_read c.self.inside.learnt.items _ c.index-then-place-len-3.result.now lt c.index-then-place-len-3.ensures
    ∙ ap (slice_get c.self.inside.learnt.items) at
    ∙ sym (get_right (keys_in c.self.inside.groups.items) c.self.inside.learnt.items (c.args.i - 1 - length c.self.inside.plain.items) further)
    ∙ sym (get_right c.self.inside.plain.items (keys_in c.self.inside.groups.items ++ c.self.inside.learnt.items) (c.args.i - 1) past)))

pub returns : goal.returns
returns c =
    let past : length c.self.inside.plain.items ≤ c.args.i - 1 = omega (arith, c.if-place-len.false, c.len.ensures, c.self.inside.plain.ok.0) in
    let long : length (keys_in c.self.inside.groups.items) ≡ length c.self.inside.groups.items = length-map c.self.inside.groups.items (λ (g : GroupKey). g.key) in
    let further : length (keys_in c.self.inside.groups.items) ≤ c.args.i - 1 - length c.self.inside.plain.items = omega (arith, long, c.if-place-len-2.false, c.len-2.ensures, c.len-3.ensures, c.self.inside.plain.ok.0, c.self.inside.groups.ok.0) in
    let out : length c.self.inside.learnt.items ≤ c.args.i - 1 - length c.self.inside.plain.items - length (keys_in c.self.inside.groups.items) = omega (arith, long, c.if-place-len-3.false, c.len-2.ensures, c.len-4.ensures, c.len-5.ensures, c.self.inside.plain.ok.0, c.self.inside.groups.ok.0, c.self.inside.learnt.ok.0) in
    subst (λ (h : StoreView). None ≡ at_place (keys_of h) c.args.i) c.self.view_is (key_read c.self.inside.slots _ _ _ (length c.self.inside.kinds.items) c.self.inside.active.items c.self.inside.freed.items c.self.invariant.kept.stored c.args.i _ c.if-i-eq0.false
    (get_past c.self.inside.learnt.items _ out
    ∙ sym (get_right (keys_in c.self.inside.groups.items) c.self.inside.learnt.items (c.args.i - 1 - length c.self.inside.plain.items) further)
    ∙ sym (get_right c.self.inside.plain.items (keys_in c.self.inside.groups.items ++ c.self.inside.learnt.items) (c.args.i - 1) past)))
