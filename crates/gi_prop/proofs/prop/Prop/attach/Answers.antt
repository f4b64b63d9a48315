use Rattle.std.proofs.Common.{Result, Ok, Err, OnErr, ◌≡◌, ◌+◌, ◌*◌, ◌++◌, ◌<◌, ℕ, Some, None, List, get_or, set, replicate, sym, ap, ◌∙◌, subst, arith}
use Rattle.std.specs.Prelude.{◌↔◌}
use Rattle.gi_store.specs.StoreView.{StoreView}
use Rattle.gi_chains.specs.Lists.{Lists, IsFree}
use Rattle.gi_prop.specs.TrailView.{TrailView}
use Rattle.gi_prop.specs.Attached.{Attached, IsAttached, Goes, HasWatches, KeepsWatches, HasTwoLeft}
use Rattle.gi_prop.proofs.Slots.{attached_by}
use Rattle.gi_prop.proofs.Rooms.{put_as, put_word}
use Rattle.gi_prop.proofs.Attaching.{free_at, free_more, listed, are_literals, home_lists, more_attached, goes_more, watches_more, kept_more, IsAttaching, attaching_kept, attaching_goes, attaching_others, attaching_watched, attaching_attaches, attaching_keyed}
use Rattle.gi_prop.proofs.prop.Prop.attach.Goals as goal

on_err : {A E : Type 0} (r : Result A E) (P : Type 0) → P → OnErr r P
on_err (Ok x) P p = tt
on_err (Err e) P p = p

pub make_room-requires-clause-first_apart : goal.make_room-requires-clause-first_apart
make_room-requires-clause-first_apart c = c.self.invariant.first_linked.apart

pub make_room-requires-clause-second_apart : goal.make_room-requires-clause-second_apart
make_room-requires-clause-second_apart c = c.self.invariant.second_linked.apart

pub invariant_of-self : goal.invariant_of-self
invariant_of-self c = let m = c.in_err-make_room.ensures.slots in kept_more c.self.inside.slots.items _ m.0 _ _ _ _ m.1 c.in_err-make_room.ensures.first c.in_err-make_room.ensures.second c.self.invariant

pub returns-in_err-make_room-clause-goes : goal.returns-in_err-make_room-clause-goes
returns-in_err-make_room-clause-goes c =
    let m = c.in_err-make_room.ensures.slots in
    goes_more (record { slots = c.self.inside.slots.items; first = c.self.inside.first; second = c.self.inside.second }) _ m.0 m.1 c.in_err-make_room.ensures.first c.in_err-make_room.ensures.second c.args.store.now c.args.trail.now (subst (λ (z : Attached). Goes z c.args.store.now c.args.trail.now) (sym c.self.view_is) c.requires.goes)

pub returns-in_err-make_room-clause-err : goal.returns-in_err-make_room-clause-err
returns-in_err-make_room-clause-err c =
    let m = c.in_err-make_room.ensures.slots in
    on_err c.from_residual.result _ (more_attached c.args.self.now (record { slots = c.make_room.new.slots.items; first = c.make_room.new.first; second = c.make_room.new.second }) m.0 (m.1 ∙ ap (λ (z : Attached). z.slots ++ replicate m.0 None) c.self.view_is))

pub returns-in_err-make_room-clause-err_goes : goal.returns-in_err-make_room-clause-err_goes
returns-in_err-make_room-clause-err_goes c =
    let m = c.in_err-make_room.ensures.slots in
    on_err c.from_residual.result _ (λ (s : StoreView) (t : TrailView) (g : Goes c.args.self.now s t). goes_more (record { slots = c.self.inside.slots.items; first = c.self.inside.first; second = c.self.inside.second }) (record { slots = c.make_room.new.slots.items; first = c.make_room.new.first; second = c.make_room.new.second }) m.0 m.1 c.in_err-make_room.ensures.first c.in_err-make_room.ensures.second s t (subst (λ (z : Attached). Goes z s t) (sym c.self.view_is) g))

pub returns-in_err-make_room-clause-others : goal.returns-in_err-make_room-clause-others
returns-in_err-make_room-clause-others c =
    let m = c.in_err-make_room.ensures.slots in
    let q : Attached = record { slots = c.make_room.new.slots.items; first = c.make_room.new.first; second = c.make_room.new.second } in
    λ k ne. subst (λ (z : Attached). KeepsWatches z q k) c.self.view_is (watches_more (record { slots = c.self.inside.slots.items; first = c.self.inside.first; second = c.self.inside.second }) q m.0 m.1 c.in_err-make_room.ensures.first c.in_err-make_room.ensures.second k)

pub returns-in_err-make_room-clause-err_watched : goal.returns-in_err-make_room-clause-err_watched
returns-in_err-make_room-clause-err_watched c =
    let m = c.in_err-make_room.ensures.slots in
    let q : Attached = record { slots = c.make_room.new.slots.items; first = c.make_room.new.first; second = c.make_room.new.second } in
    on_err c.from_residual.result _ (subst (λ (z : Attached). KeepsWatches z q c.args.key) c.self.view_is (watches_more (record { slots = c.self.inside.slots.items; first = c.self.inside.first; second = c.self.inside.second }) q m.0 m.1 c.in_err-make_room.ensures.first c.in_err-make_room.ensures.second c.args.key))

pub initial_watches-home-requires : goal.initial_watches-home-requires
initial_watches-home-requires c = c.requires.within _ c.clause-clause.ensures.holds

pub index_mut-requires : goal.index_mut-requires
index_mut-requires c = let l = c.in_ok-make_room.ensures.long in omega (arith, l, c.make_room.new.slots.ok.0)

pub push_front-requires-clause-list : goal.push_front-requires-clause-list
push_front-requires-clause-list c =
    let l = c.in_ok-make_room.ensures.lists in
    let ls = listed c.clause-clause.result.now c.top_variable.result (2 * c.top_variable.result + 3) c.top_variable.ensures.within (omega arith) in
    let h = home_lists c.args.trail.now.lits c.clause-clause.result.now c.initial_watches-home.result.0 c.initial_watches-home.result.1 (2 * c.top_variable.result + 3) ls (omega arith) c.initial_watches-home.ensures in
    omega (arith, h.0, l.0)

pub push_front-requires-clause-node : goal.push_front-requires-clause-node
push_front-requires-clause-node c = c.in_ok-make_room.ensures.nodes.0

pub push_front-requires-clause-free : goal.push_front-requires-clause-free
push_front-requires-clause-free c =
    let f = free_at c.self.inside.slots.items c.self.inside.first c.args.key c.self.invariant.first_linked (λ h. c.requires.free (subst (λ (z : Attached). IsAttached z c.args.key) c.self.view_is (attached_by (record { slots = c.self.inside.slots.items; first = c.self.inside.first; second = c.self.inside.second }) c.args.key h))) in
    subst (λ (n : ℕ). IsFree c.make_room.new.first.lists n) (sym c.number-node.ensures.value) (free_more _ _ c.args.key c.in_ok-make_room.ensures.first f)

pub push_front-requires-2-clause-list : goal.push_front-requires-2-clause-list
push_front-requires-2-clause-list c =
    let l = c.in_ok-make_room.ensures.lists in
    let ls = listed c.clause-clause.result.now c.top_variable.result (2 * c.top_variable.result + 3) c.top_variable.ensures.within (omega arith) in
    let h = home_lists c.args.trail.now.lits c.clause-clause.result.now c.initial_watches-home.result.0 c.initial_watches-home.result.1 (2 * c.top_variable.result + 3) ls (omega arith) c.initial_watches-home.ensures in
    omega (arith, h.1, l.1)

pub push_front-requires-2-clause-node : goal.push_front-requires-2-clause-node
push_front-requires-2-clause-node c = c.in_ok-make_room.ensures.nodes.1

pub push_front-requires-2-clause-free : goal.push_front-requires-2-clause-free
push_front-requires-2-clause-free c =
    let f = free_at c.self.inside.slots.items c.self.inside.second c.args.key c.self.invariant.second_linked (λ h. c.requires.free (subst (λ (z : Attached). IsAttached z c.args.key) c.self.view_is (attached_by (record { slots = c.self.inside.slots.items; first = c.self.inside.first; second = c.self.inside.second }) c.args.key h))) in
    subst (λ (n : ℕ). IsFree c.make_room.new.second.lists n) (sym c.number-node.ensures.value) (free_more _ _ c.args.key c.in_ok-make_room.ensures.second f)

first_node : (c : goal.After-set_word-2) → c.number-node.result < c.push_front.new.self.nodes
first_node c = subst (λ (v : Lists). c.number-node.result < v.nodes) (sym c.push_front.ensures.after) c.in_ok-make_room.ensures.nodes.0

second_node : (c : goal.After-set_word-2) → c.number-node.result < c.push_front-2.new.self.nodes
second_node c = subst (λ (v : Lists). c.number-node.result < v.nodes) (sym c.push_front-2.ensures.after) c.in_ok-make_room.ensures.nodes.1

pub set_word-requires : goal.set_word-requires
set_word-requires c = subst (λ (v : Lists). c.number-node.result < v.nodes) (sym c.push_front.ensures.after) c.in_ok-make_room.ensures.nodes.0

pub set_word-requires-2 : goal.set_word-requires-2
set_word-requires-2 c = subst (λ (v : Lists). c.number-node.result < v.nodes) (sym c.push_front-2.ensures.after) c.in_ok-make_room.ensures.nodes.1

abbrev old_of : goal.After-set_word-2 → Attached
old_of c = record { slots = c.self.inside.slots.items; first = c.self.inside.first; second = c.self.inside.second }

abbrev new_of : goal.After-set_word-2 → Attached
new_of c = record { slots = set c.make_room.new.slots.items c.number-node.result (Some c.args.key); first = c.set_word.new.self; second = c.set_word-2.new.self }

attaching : (c : goal.After-set_word-2) → IsAttaching (old_of c) (new_of c) c.initial_watches-home.result.0 c.initial_watches-home.result.1 c.args.key
attaching c =
    let l = c.in_ok-make_room.ensures.lists in
    let ls = listed c.clause-clause.result.now c.top_variable.result (2 * c.top_variable.result + 3) c.top_variable.ensures.within (omega arith) in
    let h = home_lists c.args.trail.now.lits c.clause-clause.result.now c.initial_watches-home.result.0 c.initial_watches-home.result.1 (2 * c.top_variable.result + 3) ls (omega arith) c.initial_watches-home.ensures in
    let out = λ (e : get_or c.self.inside.slots.items c.args.key None ≡ Some c.args.key). c.requires.free (subst (λ (z : Attached). IsAttached z c.args.key) c.self.view_is (attached_by (old_of c) c.args.key e)) in
    record {
      slots = c.make_room.new.slots.items;
      first = c.make_room.new.first;
      second = c.make_room.new.second;
      m = c.in_ok-make_room.ensures.slots.0;
      below = (let b = c.in_ok-make_room.ensures.long in omega (arith, b, c.number-node.ensures.value));
      more = c.in_ok-make_room.ensures.slots.1;
      is = ap (λ (n : ℕ). set c.make_room.new.slots.items n (Some c.args.key)) c.number-node.ensures.value;
      first_more = c.in_ok-make_room.ensures.first;
      second_more = c.in_ok-make_room.ensures.second;
      first_put = put_as c.make_room.new.first c.push_front.new.self c.set_word.new.self c.initial_watches-home.result.0 c.args.key c.number-node.result _ c.number-node.ensures.value (omega (arith, h.0, l.0)) (free_more _ _ c.args.key c.in_ok-make_room.ensures.first (free_at c.self.inside.slots.items c.self.inside.first c.args.key c.self.invariant.first_linked out)) c.push_front.ensures.after c.set_word.ensures.after c.set_word.ensures.apart;
      second_put = put_as c.make_room.new.second c.push_front-2.new.self c.set_word-2.new.self c.initial_watches-home.result.1 c.args.key c.number-node.result _ c.number-node.ensures.value (omega (arith, h.1, l.1)) (free_more _ _ c.args.key c.in_ok-make_room.ensures.second (free_at c.self.inside.slots.items c.self.inside.second c.args.key c.self.invariant.second_linked out)) c.push_front-2.ensures.after c.set_word-2.ensures.after c.set_word-2.ensures.apart;
      first_word = put_word c.push_front.new.self c.set_word.new.self c.args.key c.number-node.result _ c.number-node.ensures.value (first_node c) c.push_front.ensures.apart c.set_word.ensures.after ∙ c.saturating_sub.ensures;
      second_word = put_word c.push_front-2.new.self c.set_word-2.new.self c.args.key c.number-node.result _ c.number-node.ensures.value (second_node c) c.push_front-2.ensures.apart c.set_word-2.ensures.after ∙ c.saturating_sub-2.ensures;
    }

pub invariant_of-self-2 : goal.invariant_of-self-2
invariant_of-self-2 c = attaching_kept (old_of c) (new_of c) _ _ c.args.key (attaching c) c.self.invariant

pub returns-clause-attached : goal.returns-clause-attached
returns-clause-attached c = attaching_attaches (old_of c) (new_of c) _ _ c.args.key (attaching c) c.args.self.now (sym (ap (λ (z : Attached). z.slots) c.self.view_is))

pub returns-clause-goes : goal.returns-clause-goes
unfolding attaching
returns-clause-goes c =
    let l = c.in_ok-make_room.ensures.lists in
    let own = attaching_keyed (old_of c) (new_of c) _ _ c.args.key (attaching c) c.args.store.now c.args.trail.now c.clause-clause.result.now c.top_variable.result c.clause-clause.ensures.holds (c.requires.within _ c.clause-clause.ensures.holds) c.top_variable.ensures.within c.top_variable.ensures.high l.0 l.1 c.initial_watches-home.ensures in
    attaching_goes (old_of c) (new_of c) _ _ c.args.key (attaching c) c.args.store.now c.args.trail.now own (subst (λ (z : Attached). Goes z c.args.store.now c.args.trail.now) (sym c.self.view_is) c.requires.goes)

pub returns-clause-watched : goal.returns-clause-watched
returns-clause-watched c = λ clause held.
    let lit = are_literals c.clause-clause.result.now c.top_variable.result c.args.trail.now.vars c.top_variable.ensures.within c.top_variable.ensures.high (c.requires.within _ c.clause-clause.ensures.holds) in
    subst (λ (z : List ℕ). HasWatches (new_of c) c.args.key ↔ HasTwoLeft c.args.trail.now.lits z) (c.clause-clause.ensures.only clause held) (attaching_watched (old_of c) (new_of c) _ _ c.args.key (attaching c) c.args.trail.now.lits c.clause-clause.result.now lit c.initial_watches-home.ensures)

pub returns-clause-others : goal.returns-clause-others
returns-clause-others c = λ k ne. subst (λ (z : Attached). KeepsWatches z (new_of c) k) c.self.view_is (attaching_others (old_of c) (new_of c) _ _ c.args.key (attaching c) k ne)
