use Rattle.std.proofs.Common.{◌≡◌, ◌≤◌, ◌/◌, ℕ, Some, None, get_or, List, refl, sym, ◌∙◌, subst, arith}
use Rattle.std.specs.List.{Contains}
use Rattle.gi_store.specs.StoreView.{IsLive, IsWithin}
use Rattle.gi_prop.specs.Attached.{IsAttached, keys_alone}
use Rattle.gi_prop.proofs.Adding.{held_live}
use Rattle.gi_prop.proofs.Slots.{attached_by}
use Rattle.gi_prop.proofs.Settling.{watch_at, read_is, other_is, list_is, other_literal, other_within, list_exists, added_none, added_one, moved_as, settle_moved, step_moved, settle_forced, step_forced, step_blocked, word_within, worded_watched, worded_step, lists_same, lists_worded, word_now}
use Rattle.gi_prop.proofs.follow.settle.Goals as goal

pub key_of-key-requires : goal.key_of-key-requires
key_of-key-requires g c = c.requires.0.kept.first_linked.attached c.args.node _ c.requires.1.1.0

pub list_of-requires : goal.list_of-requires
list_of-requires g c =
    let w = watch_at _ _ _ _ _ _ _ _ _ c.requires.0 c.requires.1.0 c.requires.1.1.0 in
    c.requires.0.kept.second_linked.apart.within _ _ _ w.there.stands

pub unreachable-requires : goal.unreachable-requires
unreachable-requires g c =
    let w = watch_at _ _ _ _ _ _ _ _ _ c.requires.0 c.requires.1.0 c.requires.1.1.0 in
    c.in_default.ensures.value _ _ w.there.stands

pub unreachable-requires-in_default-watched_lit : goal.unreachable-requires-in_default-watched_lit
unreachable-requires-in_default-watched_lit g c =
    let w = watch_at _ _ _ _ _ _ _ _ _ c.requires.0 c.requires.1.0 c.requires.1.1.0 in
    let l = other_literal _ _ _ _ _ _ _ _ w in
    let e = list_is c.args.theirs.now c.in-Some.list w.other c.args.node c.requires.0.kept.second_linked.apart c.in-Some.ensures.value w.there in
    c.in_default-watched_lit.ensures (omega (arith, e, l.0), omega (arith, e, l.1))

pub clause-requires : goal.clause-requires
clause-requires g c =
    let w = watch_at _ _ _ _ _ _ _ _ _ c.requires.0 c.requires.1.0 c.requires.1.1.0 in
    subst (IsLive c.args.store.now) (sym c.key_of-key.ensures) (held_live c.args.store.now c.args.node w.clause w.held)

pub look_at-requires-clause-within : goal.look_at-requires-clause-within
look_at-requires-clause-within g c =
    let w = watch_at _ _ _ _ _ _ _ _ _ c.requires.0 c.requires.1.0 c.requires.1.1.0 in
    let r = read_is c.args.store.now c.key_of-key.result c.args.node w.clause c.clause.result.now c.key_of-key.ensures w.held c.clause.ensures.only in
    subst (IsWithin c.args.trail.now.vars) (sym r) w.within

pub look_at-requires-clause-other : goal.look_at-requires-clause-other
look_at-requires-clause-other g c =
    let w = watch_at _ _ _ _ _ _ _ _ _ c.requires.0 c.requires.1.0 c.requires.1.1.0 in
    let r = read_is c.args.store.now c.key_of-key.result c.args.node w.clause c.clause.result.now c.key_of-key.ensures w.held c.clause.ensures.only in
    let o = other_is c.args.theirs.now c.in-Some.list c.in-Some-watched_lit.other w.other c.args.node c.requires.0.kept.second_linked.apart c.in-Some.ensures.value c.in-Some-watched_lit.ensures.1 w.there in
    subst (λ (z : List ℕ). Contains z c.in-Some-watched_lit.other) (sym r) (subst (Contains w.clause) (sym o) w.pair.second)

pub move_to-requires-clause-list : goal.move_to-requires-clause-list
move_to-requires-clause-list g c =
    let w = watch_at _ _ _ _ _ _ _ _ _ c.requires.0 c.requires.1.0 c.requires.1.1.0 in
    let r = read_is c.args.store.now c.key_of-key.result c.args.node w.clause c.clause.result.now c.key_of-key.ensures w.held c.clause.ensures.only in
    let m = subst (λ (z : List ℕ). Contains z c.in-Move.l) r c.in-Move.ensures.0 in
    let x = list_exists _ _ _ _ _ _ _ _ w c.in-Move.l m in
    omega (arith, x, c.list_of-in-Move.ensures.value)

pub move_to-requires-clause-linked : goal.move_to-requires-clause-linked
move_to-requires-clause-linked g c = (_, c.requires.1.1.0.place, c.requires.1.1.0.stands)

pub move_to-requires-clause-apart : goal.move_to-requires-clause-apart
move_to-requires-clause-apart g c = c.requires.0.kept.first_linked.apart

pub assign-requires-clause-within : goal.assign-requires-clause-within
assign-requires-clause-within g c =
    let w = watch_at _ _ _ _ _ _ _ _ _ c.requires.0 c.requires.1.0 c.requires.1.1.0 in
    let o = other_is c.args.theirs.now c.in-Some.list c.in-Some-watched_lit.other w.other c.args.node c.requires.0.kept.second_linked.apart c.in-Some.ensures.value c.in-Some-watched_lit.ensures.1 w.there in
    subst (λ (z : ℕ). z / 2 ≤ c.args.trail.now.vars) (sym o) (other_within _ _ _ _ _ _ _ _ w).1

pub returns-in-Keep-clause-added : goal.returns-in-Keep-clause-added
returns-in-Keep-clause-added g c = added_none c.args.slots.now c.args.store.now c.args.trail.now

pub set_word-requires : goal.set_word-requires
set_word-requires g c = c.requires.0.kept.first_linked.apart.within _ _ _ c.requires.1.1.0.stands

pub returns-in-Keep-clause-watched : goal.returns-in-Keep-clause-watched
returns-in-Keep-clause-watched g c =
    let w = watch_at _ _ _ _ _ _ _ _ _ c.requires.0 c.requires.1.0 c.requires.1.1.0 in
    let o = other_is c.args.theirs.now c.in-Some.list c.in-Some-watched_lit.other w.other c.args.node c.requires.0.kept.second_linked.apart c.in-Some.ensures.value c.in-Some-watched_lit.ensures.1 w.there in
    let e = lists_worded c.args.ours.now c.set_word.new.self c.args.node c.code.result c.set_word.ensures.after c.set_word.ensures.apart in
    let word : get_or c.set_word.new.self.words c.args.node 0 ≡ w.other = word_now c.args.ours.now c.set_word.new.self c.args.node c.code.result c.set_word.ensures.after c.requires.0.kept.first_linked.apart (c.requires.0.kept.first_linked.apart.within _ _ _ c.requires.1.1.0.stands) ∙ c.code.ensures.value ∙ o in
    worded_watched _ _ _ _ _ _ _ _ _ c.requires.0 w c.requires.1.1.0 e word

pub returns-in-Keep-clause-step : goal.returns-in-Keep-clause-step
returns-in-Keep-clause-step g c =
    let w = watch_at _ _ _ _ _ _ _ _ _ c.requires.0 c.requires.1.0 c.requires.1.1.0 in
    let o = other_is c.args.theirs.now c.in-Some.list c.in-Some-watched_lit.other w.other c.args.node c.requires.0.kept.second_linked.apart c.in-Some.ensures.value c.in-Some-watched_lit.ensures.1 w.there in
    let e = lists_worded c.args.ours.now c.set_word.new.self c.args.node c.code.result c.set_word.ensures.after c.set_word.ensures.apart in
    let word : get_or c.set_word.new.self.words c.args.node 0 ≡ w.other = word_now c.args.ours.now c.set_word.new.self c.args.node c.code.result c.set_word.ensures.after c.requires.0.kept.first_linked.apart (c.requires.0.kept.first_linked.apart.within _ _ _ c.requires.1.1.0.stands) ∙ c.code.ensures.value ∙ o in
    worded_step _ _ _ _ _ _ _ _ _ c.requires.0 w c.requires.1.1.0 e word (subst (Contains c.args.trail.now.lits) o c.in-Keep.ensures)

pub returns-in-Move-clause-watched : goal.returns-in-Move-clause-watched
returns-in-Move-clause-watched g c =
    let w = watch_at _ _ _ _ _ _ _ _ _ c.requires.0 c.requires.1.0 c.requires.1.1.0 in
    let r = read_is c.args.store.now c.key_of-key.result c.args.node w.clause c.clause.result.now c.key_of-key.ensures w.held c.clause.ensures.only in
    let o = other_is c.args.theirs.now c.in-Some.list c.in-Some-watched_lit.other w.other c.args.node c.requires.0.kept.second_linked.apart c.in-Some.ensures.value c.in-Some-watched_lit.ensures.1 w.there in
    settle_moved _ _ _ _ _ _ _ _ _ c.requires.0 c.requires.1.0 c.requires.1.1.0 c.in-Move.l w (subst (λ (z : List ℕ). Contains z c.in-Move.l) r c.in-Move.ensures.0) (λ e. c.in-Move.ensures.1 (e ∙ sym o)) c.in-Move.ensures.2 (moved_as _ _ _ _ _ c.list_of-in-Move.ensures.value c.move_to.ensures.moved) (c.move_to.ensures.word ∙ c.code-in-Move.ensures.value ∙ o)

pub returns-in-Move-clause-added : goal.returns-in-Move-clause-added
returns-in-Move-clause-added g c = added_none c.args.slots.now c.args.store.now c.args.trail.now

pub returns-in-Move-clause-step : goal.returns-in-Move-clause-step
returns-in-Move-clause-step g c =
    let w = watch_at _ _ _ _ _ _ _ _ _ c.requires.0 c.requires.1.0 c.requires.1.1.0 in
    let r = read_is c.args.store.now c.key_of-key.result c.args.node w.clause c.clause.result.now c.key_of-key.ensures w.held c.clause.ensures.only in
    let o = other_is c.args.theirs.now c.in-Some.list c.in-Some-watched_lit.other w.other c.args.node c.requires.0.kept.second_linked.apart c.in-Some.ensures.value c.in-Some-watched_lit.ensures.1 w.there in
    step_moved _ _ _ _ _ _ _ _ _ c.requires.0 c.requires.1.0 c.requires.1.1.0 c.in-Move.l w (subst (λ (z : List ℕ). Contains z c.in-Move.l) r c.in-Move.ensures.0) (λ e. c.in-Move.ensures.1 (e ∙ sym o)) c.in-Move.ensures.2 (moved_as _ _ _ _ _ c.list_of-in-Move.ensures.value c.move_to.ensures.moved) (c.move_to.ensures.word ∙ c.code-in-Move.ensures.value ∙ o)

pub returns-in-Force-clause-watched : goal.returns-in-Force-clause-watched
returns-in-Force-clause-watched g c = settle_forced _ _ _ _ _ _ _ _ _ c.requires.0 c.requires.1.0 c.requires.1.1.0 _ _ c.assign.ensures.added c.assign.ensures.trail c.requires.1.1.1

pub returns-in-Force-clause-added : goal.returns-in-Force-clause-added
returns-in-Force-clause-added g c =
    let at = c.requires.0.kept.first_linked.attached c.args.node _ c.requires.1.1.0 in
    added_one c.args.slots.now c.args.store.now c.args.trail.now c.assign.new.self c.in-Some-watched_lit.other c.key_of-key.result c.clause.result.now c.requires.0.trail (subst (λ (k : ℕ). get_or c.args.slots.now k None ≡ Some k) (sym c.key_of-key.ensures) at) c.clause.ensures.holds c.in-Force.ensures.0 c.assign.ensures.added

pub returns-in-Force-clause-step : goal.returns-in-Force-clause-step
returns-in-Force-clause-step g c =
    let w = watch_at _ _ _ _ _ _ _ _ _ c.requires.0 c.requires.1.0 c.requires.1.1.0 in
    let o = other_is c.args.theirs.now c.in-Some.list c.in-Some-watched_lit.other w.other c.args.node c.requires.0.kept.second_linked.apart c.in-Some.ensures.value c.in-Some-watched_lit.ensures.1 w.there in
    (lists_same c.args.ours.now c.args.node c.requires.0.kept.first_linked.apart, step_forced _ _ _ _ _ _ _ _ _ c.requires.0 c.requires.1.0 c.requires.1.1.0 _ _ c.assign.ensures.added c.assign.ensures.trail c.requires.1.1.1 (returns-in-Force-clause-added g c) w.other w.there o)

pub returns-in-Conflict-clause-added : goal.returns-in-Conflict-clause-added
returns-in-Conflict-clause-added g c = added_none c.args.slots.now c.args.store.now c.args.trail.now

pub returns-in-Conflict-clause-step : goal.returns-in-Conflict-clause-step
returns-in-Conflict-clause-step g c =
    let at = attached_by (keys_alone c.args.slots.now) c.args.node (c.requires.0.kept.first_linked.attached c.args.node _ c.requires.1.1.0) in
    (refl, record { attached = subst (IsAttached (keys_alone c.args.slots.now)) (sym c.key_of-key.ensures) at; clause = c.clause.result.now; held = c.clause.ensures.holds; falsified = c.in-Conflict.ensures })

pub is_blocked-requires-clause-node : goal.is_blocked-requires-clause-node
is_blocked-requires-clause-node g c = c.requires.0.kept.first_linked.apart.within _ _ _ c.requires.1.1.0.stands

pub is_blocked-requires-clause-within : goal.is_blocked-requires-clause-within
is_blocked-requires-clause-within g c = word_within _ _ _ _ _ _ _ _ c.requires.0 c.requires.1.0 c.requires.1.1.0

pub returns-then-is_blocked-clause-added : goal.returns-then-is_blocked-clause-added
returns-then-is_blocked-clause-added g c = added_none c.args.slots.now c.args.store.now c.args.trail.now

pub returns-then-is_blocked-clause-step : goal.returns-then-is_blocked-clause-step
returns-then-is_blocked-clause-step g c = (lists_same c.args.ours.now c.args.node c.requires.0.kept.first_linked.apart, step_blocked _ _ _ _ _ _ _ _ c.requires.0 c.requires.1.0 c.requires.1.1.0 (c.is_blocked.ensures c.if-is_blocked.true))
