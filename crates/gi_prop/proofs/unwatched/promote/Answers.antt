use Rattle.std.proofs.Common.{◌≡◌, ◌<◌, ◌≤◌, ◌+◌, ◌/◌, ℕ, Some, None, List, get_or, refl, sym, ◌∙◌, subst, arith, length}
use Rattle.std.specs.List.{Contains}
use Rattle.std.proofs.lemmas.List.Elements.{All-contains}
use Rattle.gi_lit.specs.Literals.{IsLiteral}
use Rattle.gi_store.specs.StoreView.{StoreView, Holds, IsLive, IsWithin}
use Rattle.gi_prop.specs.Attached.{IsAttached, keys_alone}
use Rattle.gi_prop.specs.Watched.{IsPair}
use Rattle.gi_prop.proofs.Adding.{held_live}
use Rattle.gi_prop.proofs.Guards.{guarded_free}
use Rattle.gi_prop.proofs.Slots.{attached_by}
use Rattle.gi_prop.proofs.Settling.{read_is, added_none, added_one, moved_as, last_true}
use Rattle.gi_prop.proofs.Passing.{at_aside, promoted, promoted_aside, others_pushed, some_true, forced_aside}
use Rattle.gi_prop.proofs.unwatched.promote.Goals as goal

pub key_of-key-requires : goal.key_of-key-requires
key_of-key-requires c = c.requires.watched.kept.first_linked.attached c.args.node _ c.requires.linked.2

pub clause-clause-requires : goal.clause-clause-requires
clause-clause-requires c =
    let w = at_aside _ _ _ _ _ _ _ _ _ c.requires.watched c.requires.linked.1 c.requires.linked.2 in
    subst (IsLive c.args.store.now) (sym c.key_of-key.ensures) (held_live c.args.store.now c.args.node w.clause w.held)

pub non_false-requires : goal.non_false-requires
non_false-requires c =
    let w = at_aside _ _ _ _ _ _ _ _ _ c.requires.watched c.requires.linked.1 c.requires.linked.2 in
    let r = read_is c.args.store.now c.key_of-key.result c.args.node w.clause c.clause-clause.result.now c.key_of-key.ensures w.held c.clause-clause.ensures.only in
    subst (IsWithin c.args.trail.now.vars) (sym r) w.within

pub move_to-requires-clause-list : goal.move_to-requires-clause-list
move_to-requires-clause-list c =
    let w = at_aside _ _ _ _ _ _ _ _ _ c.requires.watched c.requires.linked.1 c.requires.linked.2 in
    let r = read_is c.args.store.now c.key_of-key.result c.args.node w.clause c.clause-clause.result.now c.key_of-key.ensures w.held c.clause-clause.ensures.only in
    let p = subst (λ (z : List ℕ). IsPair z c.in-Two.a c.in-Two.b) r c.in-Two.ensures.0 in
    let x = All-contains (λ l. l + 1 < length c.args.first.now.lists) w.clause c.in-Two.a w.first_lists p.first in
    omega (arith, x, c.list_of.ensures.value)

pub move_to-requires-in-Two-clause-linked : goal.move_to-requires-in-Two-clause-linked
move_to-requires-in-Two-clause-linked c =
    let w = at_aside _ _ _ _ _ _ _ _ _ c.requires.watched c.requires.linked.1 c.requires.linked.2 in
    (_, w.there.place, w.there.stands)

pub move_to-requires-in-Two-clause-list : goal.move_to-requires-in-Two-clause-list
move_to-requires-in-Two-clause-list c =
    let w = at_aside _ _ _ _ _ _ _ _ _ c.requires.watched c.requires.linked.1 c.requires.linked.2 in
    let r = read_is c.args.store.now c.key_of-key.result c.args.node w.clause c.clause-clause.result.now c.key_of-key.ensures w.held c.clause-clause.ensures.only in
    let p = subst (λ (z : List ℕ). IsPair z c.in-Two.a c.in-Two.b) r c.in-Two.ensures.0 in
    let x = All-contains (λ l. l + 1 < length c.args.second.now.lists) w.clause c.in-Two.b w.second_lists p.second in
    omega (arith, x, c.list_of-in-Two.ensures.value)

pub value-requires : goal.value-requires
value-requires c =
    let w = at_aside _ _ _ _ _ _ _ _ _ c.requires.watched c.requires.linked.1 c.requires.linked.2 in
    let r = read_is c.args.store.now c.key_of-key.result c.args.node w.clause c.clause-clause.result.now c.key_of-key.ensures w.held c.clause-clause.ensures.only in
    (All-contains (λ l. (1 ≤ l / 2) × (l / 2 ≤ c.args.trail.now.vars)) w.clause c.in-One.l w.within (subst (λ (z : List ℕ). Contains z c.in-One.l) r c.in-One.ensures.0)).1

pub assign-requires-clause-within : goal.assign-requires-clause-within
assign-requires-clause-within c =
    let w = at_aside _ _ _ _ _ _ _ _ _ c.requires.watched c.requires.linked.1 c.requires.linked.2 in
    let r = read_is c.args.store.now c.key_of-key.result c.args.node w.clause c.clause-clause.result.now c.key_of-key.ensures w.held c.clause-clause.ensures.only in
    (All-contains (λ l. (1 ≤ l / 2) × (l / 2 ≤ c.args.trail.now.vars)) w.clause c.in-One.l w.within (subst (λ (z : List ℕ). Contains z c.in-One.l) r c.in-One.ensures.0)).1

pub returns-in-Two-clause-watched : goal.returns-in-Two-clause-watched
returns-in-Two-clause-watched c =
    let w = at_aside _ _ _ _ _ _ _ _ _ c.requires.watched c.requires.linked.1 c.requires.linked.2 in
    let r = read_is c.args.store.now c.key_of-key.result c.args.node w.clause c.clause-clause.result.now c.key_of-key.ensures w.held c.clause-clause.ensures.only in
    let p = subst (λ (z : List ℕ). IsPair z c.in-Two.a c.in-Two.b) r c.in-Two.ensures.0 in
    promoted _ _ _ _ _ _ _ _ _ _ c.requires.watched c.requires.linked.1 c.requires.linked.2 w c.in-Two.a c.in-Two.b p (guarded_free _ _ _ _ c.in-Two.ensures.1) (guarded_free _ _ _ _ c.in-Two.ensures.2) (moved_as _ _ _ _ _ c.list_of.ensures.value c.move_to.ensures.moved) (moved_as _ _ _ _ _ c.list_of-in-Two.ensures.value c.move_to-in-Two.ensures.moved) (c.move_to.ensures.word ∙ c.code.ensures.value) (c.move_to-in-Two.ensures.word ∙ c.code-in-Two.ensures.value)

pub returns-in-Two-clause-added : goal.returns-in-Two-clause-added
returns-in-Two-clause-added c = added_none c.args.slots.now c.args.store.now c.args.trail.now

pub returns-in-Two-clause-aside : goal.returns-in-Two-clause-aside
returns-in-Two-clause-aside c =
    let w = at_aside _ _ _ _ _ _ _ _ _ c.requires.watched c.requires.linked.1 c.requires.linked.2 in
    let r = read_is c.args.store.now c.key_of-key.result c.args.node w.clause c.clause-clause.result.now c.key_of-key.ensures w.held c.clause-clause.ensures.only in
    let p = subst (λ (z : List ℕ). IsPair z c.in-Two.a c.in-Two.b) r c.in-Two.ensures.0 in
    promoted_aside _ _ _ c.move_to.new.chains _ _ _ _ _ _ c.requires.watched c.requires.linked.1 c.requires.linked.2 w c.in-Two.a c.in-Two.b p (guarded_free _ _ _ _ c.in-Two.ensures.1) (guarded_free _ _ _ _ c.in-Two.ensures.2) (moved_as _ _ _ _ _ c.list_of.ensures.value c.move_to.ensures.moved) (moved_as _ _ _ _ _ c.list_of-in-Two.ensures.value c.move_to-in-Two.ensures.moved) (c.move_to.ensures.word ∙ c.code.ensures.value) (c.move_to-in-Two.ensures.word ∙ c.code-in-Two.ensures.value)

pub returns-in-Two-clause-step : goal.returns-in-Two-clause-step
returns-in-Two-clause-step c =
    let w = at_aside _ _ _ _ _ _ _ _ _ c.requires.watched c.requires.linked.1 c.requires.linked.2 in
    let r = read_is c.args.store.now c.key_of-key.result c.args.node w.clause c.clause-clause.result.now c.key_of-key.ensures w.held c.clause-clause.ensures.only in
    let p = subst (λ (z : List ℕ). IsPair z c.in-Two.a c.in-Two.b) r c.in-Two.ensures.0 in
    let x = All-contains (λ l. l + 1 < length c.args.first.now.lists) w.clause c.in-Two.a w.first_lists p.first in
    let b = All-contains IsLiteral w.clause c.in-Two.a w.literals p.first in
    (c.in-Two.a, b.0, x, moved_as _ _ _ _ _ c.list_of.ensures.value c.move_to.ensures.moved)

pub returns-in-None-clause-added : goal.returns-in-None-clause-added
returns-in-None-clause-added c =
    let at = c.requires.watched.kept.first_linked.attached c.args.node _ c.requires.linked.2 in
    added_one c.args.slots.now c.args.store.now c.args.trail.now c.assign.new.self c.in-One.l c.key_of-key.result c.clause-clause.result.now c.requires.watched.trail (subst (λ (k : ℕ). get_or c.args.slots.now k None ≡ Some k) (sym c.key_of-key.ensures) at) c.clause-clause.ensures.holds (record { stands = c.in-One.ensures.0; others = c.in-One.ensures.2 }) c.assign.ensures.added

pub returns-in-Some-clause-added : goal.returns-in-Some-clause-added
returns-in-Some-clause-added c = added_none c.args.slots.now c.args.store.now c.args.trail.now

pub returns-in-Nothing-clause-added : goal.returns-in-Nothing-clause-added
returns-in-Nothing-clause-added c = added_none c.args.slots.now c.args.store.now c.args.trail.now

pub returns-in-Nothing-clause-step : goal.returns-in-Nothing-clause-step
returns-in-Nothing-clause-step c =
    let at = attached_by (keys_alone c.args.slots.now) c.args.node (c.requires.watched.kept.first_linked.attached c.args.node _ c.requires.linked.2) in
    (refl, record { attached = subst (IsAttached (keys_alone c.args.slots.now)) (sym c.key_of-key.ensures) at; clause = c.clause-clause.result.now; held = c.clause-clause.ensures.holds; falsified = c.in-Nothing.ensures })

held_at : (s : StoreView) (key node : ℕ) (clause : List ℕ) → key ≡ node → Holds s key clause → Holds s node clause
held_at s key node clause e h = subst (λ (k : ℕ). Holds s k clause) e h

only_at : (s : StoreView) (key node : ℕ) (clause : List ℕ) → key ≡ node → ((c : List ℕ) → Holds s key c → clause ≡ c) → (c : List ℕ) → Holds s node c → clause ≡ c
only_at s key node clause e only c h = only c (subst (λ (k : ℕ). Holds s k c) (sym e) h)

pub watch_late-requires-clause-watched : goal.watch_late-requires-clause-watched
watch_late-requires-clause-watched c = forced_aside _ _ _ _ _ _ _ _ c.requires.watched c.assign.ensures.added c.assign.ensures.trail

pub watch_late-requires-clause-linked : goal.watch_late-requires-clause-linked
watch_late-requires-clause-linked c = c.requires.linked

pub watch_late-requires-clause-held : goal.watch_late-requires-clause-held
watch_late-requires-clause-held c = held_at c.args.store.now c.key_of-key.result c.args.node c.clause-clause.result.now c.key_of-key.ensures c.clause-clause.ensures.holds

pub watch_late-requires-clause-only : goal.watch_late-requires-clause-only
watch_late-requires-clause-only c = only_at c.args.store.now c.key_of-key.result c.args.node c.clause-clause.result.now c.key_of-key.ensures c.clause-clause.ensures.only

pub watch_late-requires-in-Some-clause-only : goal.watch_late-requires-in-Some-clause-only
watch_late-requires-in-Some-clause-only c = only_at c.args.store.now c.key_of-key.result c.args.node c.clause-clause.result.now c.key_of-key.ensures c.clause-clause.ensures.only

pub watch_late-requires-clause-stands : goal.watch_late-requires-clause-stands
watch_late-requires-clause-stands c = c.in-One.ensures.0

pub watch_late-requires-clause-is_true : goal.watch_late-requires-clause-is_true
watch_late-requires-clause-is_true c = last_true c.args.trail.now c.assign.new.self c.in-One.l _ c.assign.ensures.added

pub watch_late-requires-clause-others : goal.watch_late-requires-clause-others
watch_late-requires-clause-others c = others_pushed c.args.trail.now c.assign.new.self c.clause-clause.result.now c.in-One.l _ c.assign.ensures.added c.in-One.ensures.2

pub watch_late-requires-in-Some-clause-linked : goal.watch_late-requires-in-Some-clause-linked
watch_late-requires-in-Some-clause-linked c = c.requires.linked

pub watch_late-requires-in-Some-clause-held : goal.watch_late-requires-in-Some-clause-held
watch_late-requires-in-Some-clause-held c = held_at c.args.store.now c.key_of-key.result c.args.node c.clause-clause.result.now c.key_of-key.ensures c.clause-clause.ensures.holds

pub watch_late-requires-in-Some-clause-is_true : goal.watch_late-requires-in-Some-clause-is_true
watch_late-requires-in-Some-clause-is_true c = some_true c.args.trail.now.lits c.in-One.l _ c.in-Some.ensures c.in-One.ensures.1
