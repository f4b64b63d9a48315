use Rattle.std.proofs.Common.{◌≡◌, ◌<◌, ℕ, Option, List, length, sym, ap, subst, arith}
use Rattle.gi_prop.specs.Attached.{Attached, Goes, HasWatches, IsConflict, AreSettled, AreWatched, keys_alone}
use Rattle.gi_prop.specs.Watching.{AreKept, IsWatched, ArePassed}
use Rattle.gi_prop.proofs.Moves.{aside_on}
use Rattle.gi_prop.proofs.Slots.{attached_same, same_keys}
use Rattle.gi_prop.proofs.Adding.{AddsForced-keys, AddsForced-trans}
use Rattle.gi_prop.proofs.Passing.{if_none, if_some, passed_on}
use Rattle.gi_prop.proofs.Closing.{watched_goes, goes_watched, are_settled, are_watched, watches_stay, conflict_keys}
use Rattle.gi_prop.proofs.Holding.{has_only}
use Rattle.gi_prop.proofs.prop.Prop.propagate.Goals as goal

pub scan_all-requires : goal.scan_all-requires
scan_all-requires c =
    let p : Attached = record { slots = c.self.inside.slots.items; first = c.self.inside.first; second = c.self.inside.second } in
    subst (λ (xs : List (Option ℕ)). IsWatched xs c.self.inside.first c.self.inside.second c.args.store.now c.args.trail.now c.args.trail.now.head c.args.trail.now.head) (sym c.as_slice-slots.ensures.value) (watched_goes p c.args.store.now c.args.trail.now c.self.invariant c.level.ensures.trail (subst (λ (z : Attached). Goes z c.args.store.now c.args.trail.now) (sym c.self.view_is) c.requires))

pub follow-requires : goal.follow-requires
follow-requires c = c.scan_all.ensures.watched

pub invariant_of-self : goal.invariant_of-self
invariant_of-self c = subst (λ (xs : List (Option ℕ)). AreKept xs c.scan_all.new.first c.scan_all.new.second) c.as_slice-slots.ensures.value c.scan_all.ensures.watched.kept

pub invariant_of-self-2 : goal.invariant_of-self-2
invariant_of-self-2 c = subst (λ (xs : List (Option ℕ)). AreKept xs c.follow.new.first c.follow.new.second) c.as_slice-slots.ensures.value c.follow.ensures.watched.kept

abbrev some_of : goal.In-Some → Attached
some_of c = record { slots = c.self.inside.slots.items; first = c.scan_all.new.first; second = c.scan_all.new.second }

some_watched : (c : goal.In-Some) → IsWatched c.self.inside.slots.items c.scan_all.new.first c.scan_all.new.second c.args.store.now c.scan_all.new.trail c.scan_all.new.trail.head c.scan_all.new.trail.head
some_watched c = subst (λ (xs : List (Option ℕ)). IsWatched xs c.scan_all.new.first c.scan_all.new.second c.args.store.now c.scan_all.new.trail c.scan_all.new.trail.head c.scan_all.new.trail.head) c.as_slice-slots.ensures.value c.scan_all.ensures.watched

pub returns-in-Some-clause-keys : goal.returns-in-Some-clause-keys
returns-in-Some-clause-keys c = same_keys c.args.self.now (some_of c) (ap (λ (z : Attached). z.slots) c.self.view_is)

pub returns-in-Some-clause-goes : goal.returns-in-Some-clause-goes
returns-in-Some-clause-goes c = goes_watched (some_of c) c.args.store.now c.scan_all.new.trail (some_watched c)

pub returns-in-Some-clause-adds : goal.returns-in-Some-clause-adds
returns-in-Some-clause-adds c = AddsForced-keys (keys_alone c.as_slice-slots.result.now) (some_of c) _ _ _ (λ k h. attached_same (keys_alone c.as_slice-slots.result.now) (some_of c) k (sym c.as_slice-slots.ensures.value) h) c.scan_all.ensures.added.adds

pub returns-in-Some-clause-conflict : goal.returns-in-Some-clause-conflict
returns-in-Some-clause-conflict c = conflict_keys (keys_alone c.as_slice-slots.result.now) (some_of c) _ _ _ (sym c.as_slice-slots.ensures.value) c.in-Some.ensures.conflict

pub returns-in-Some-clause-stays : goal.returns-in-Some-clause-stays
returns-in-Some-clause-stays c = λ k h ws. watches_stay (record { slots = c.self.inside.slots.items; first = c.self.inside.first; second = c.self.inside.second }) (some_of c) c.args.store.now c.scan_all.new.trail _ _ k c.self.invariant.first_linked.apart (some_watched c) (attached_same c.args.self.now (some_of c) k (ap (λ (z : Attached). z.slots) c.self.view_is) h) c.scan_all.ensures.first_aside (subst (λ (z : Attached). HasWatches z k) (sym c.self.view_is) ws)

abbrev new_of : goal.After-follow → Attached
new_of c = record { slots = c.self.inside.slots.items; first = c.follow.new.first; second = c.follow.new.second }

watched : (c : goal.After-follow) → IsWatched c.self.inside.slots.items c.follow.new.first c.follow.new.second c.args.store.now c.follow.new.trail c.follow.new.trail.head c.follow.new.trail.head
watched c = subst (λ (xs : List (Option ℕ)). IsWatched xs c.follow.new.first c.follow.new.second c.args.store.now c.follow.new.trail c.follow.new.trail.head c.follow.new.trail.head) c.as_slice-slots.ensures.value c.follow.ensures.watched

passed : (c : goal.After-follow) → (list : ℕ) → list < 3 → ArePassed c.follow.new.first c.args.store.now c.follow.new.trail.lits list
passed c list low = passed_on c.as_slice-slots.result.now c.scan_all.new.first c.follow.new.first c.args.store.now c.scan_all.new.trail c.follow.new.trail list low c.follow.ensures.first_aside c.follow.ensures.adds (c.in_default.ensures.passed list low)

pub returns-clause-keys : goal.returns-clause-keys
returns-clause-keys c = same_keys c.args.self.now (new_of c) (ap (λ (z : Attached). z.slots) c.self.view_is)

pub returns-clause-goes : goal.returns-clause-goes
returns-clause-goes c = goes_watched (new_of c) c.args.store.now c.follow.new.trail (watched c)

pub returns-clause-adds : goal.returns-clause-adds
returns-clause-adds c = AddsForced-keys (keys_alone c.as_slice-slots.result.now) (new_of c) _ _ _ (λ k h. attached_same (keys_alone c.as_slice-slots.result.now) (new_of c) k (sym c.as_slice-slots.ensures.value) h) (AddsForced-trans (keys_alone c.as_slice-slots.result.now) c.args.store.now c.args.trail.now c.scan_all.new.trail c.follow.new.trail c.scan_all.ensures.watched.trail.reasons c.scan_all.ensures.added.adds c.follow.ensures.adds)

pub returns-clause-looked : goal.returns-clause-looked
returns-clause-looked c = c.follow.ensures.looked

pub returns-clause-closed : goal.returns-clause-closed
returns-clause-closed c = if_none c.follow.result (c.follow.new.trail.head ≡ length c.follow.new.trail.lits) (AreSettled (new_of c) c.args.store.now c.follow.new.trail.lits) (λ e. are_settled (new_of c) c.args.store.now c.follow.new.trail (has_only c.args.store.now c.vars.ensures.keys) (watched c) (omega (arith, e)) (passed c)) c.follow.ensures.looked

pub returns-clause-conflict : goal.returns-clause-conflict
returns-clause-conflict c = if_some c.follow.result (IsConflict (keys_alone c.as_slice-slots.result.now) c.args.store.now c.follow.new.trail.lits) (IsConflict (new_of c) c.args.store.now c.follow.new.trail.lits) (λ k x. conflict_keys (keys_alone c.as_slice-slots.result.now) (new_of c) c.args.store.now c.follow.new.trail.lits k (sym c.as_slice-slots.ensures.value) x) c.follow.ensures.conflict

pub returns-clause-watched : goal.returns-clause-watched
returns-clause-watched c = if_none c.follow.result (c.follow.new.trail.head ≡ length c.follow.new.trail.lits) (AreWatched (new_of c) c.args.store.now c.follow.new.trail.lits) (λ e. are_watched (new_of c) c.args.store.now c.follow.new.trail (has_only c.args.store.now c.vars.ensures.keys) (watched c) (omega (arith, e)) (passed c)) c.follow.ensures.looked

pub returns-clause-stays : goal.returns-clause-stays
returns-clause-stays c = λ k h ws. watches_stay (record { slots = c.self.inside.slots.items; first = c.self.inside.first; second = c.self.inside.second }) (new_of c) c.args.store.now c.follow.new.trail _ _ k c.self.invariant.first_linked.apart (watched c) (attached_same c.args.self.now (new_of c) k (ap (λ (z : Attached). z.slots) c.self.view_is) h) (aside_on _ _ _ c.scan_all.ensures.first_aside c.follow.ensures.first_aside) (subst (λ (z : Attached). HasWatches z k) (sym c.self.view_is) ws)
