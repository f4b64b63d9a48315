use Rattle.std.proofs.Common.{◌+◌, sym, subst, arith}
use Rattle.gi_prop.specs.Watching.{IsWatched}
use Rattle.gi_prop.proofs.Adding.{AddsForced-refl}
use Rattle.gi_prop.specs.Attached.{keys_alone}
use Rattle.gi_prop.proofs.Moves.{aside_same, aside_on}
use Rattle.gi_prop.proofs.Settling.{looking_added}
use Rattle.gi_prop.proofs.Following.{watched_swap, watched_less, looking_at, adds_on, follow_on, follow_fewer, head_below}
use Rattle.gi_prop.proofs.follow.follow.Goals as goal

pub trail-init : goal.trail-init
trail-init c = record {
  watched = c.requires;
  adds = AddsForced-refl (keys_alone c.args.slots.now) c.args.store.now c.args.trail.now;
  first_aside = aside_same c.args.first.now;
  second_aside = aside_same c.args.second.now;
}

pub visit-requires : goal.visit-requires
visit-requires c = (c.trail.invariant.watched, (looking_at _ _ _ c.trail.invariant.watched.trail c.not-falsified.ensures c.in-Some.ensures.value, c.trail.invariant.watched.trail.levels.high))

pub returns-in-Some-visit-clause-watched : goal.returns-in-Some-visit-clause-watched
returns-in-Some-visit-clause-watched c = subst (IsWatched c.args.slots.now c.visit.new.ours c.trail.second c.args.store.now c.visit.new.trail c.visit.new.trail.head) (sym c.visit.ensures.added.head) c.visit.ensures.watched

pub returns-in-Some-visit-clause-adds : goal.returns-in-Some-visit-clause-adds
returns-in-Some-visit-clause-adds c = adds_on _ _ _ _ _ c.trail.invariant.watched.trail c.trail.invariant.adds c.visit.ensures.added

pub returns-in-Some-visit-clause-first_aside : goal.returns-in-Some-visit-clause-first_aside
returns-in-Some-visit-clause-first_aside c = aside_on _ _ _ c.trail.invariant.first_aside c.visit.ensures.aside

pub visit_other-requires-clause-watched : goal.visit_other-requires-clause-watched
visit_other-requires-clause-watched c = watched_swap _ _ _ _ _ _ _ (subst (IsWatched c.args.slots.now c.visit.new.ours c.trail.second c.args.store.now c.visit.new.trail (c.visit.new.trail.head + 1)) (sym c.visit.ensures.added.head) c.in_default-visit.ensures.closed)

pub visit_other-requires-clause-looking : goal.visit_other-requires-clause-looking
visit_other-requires-clause-looking c = looking_added _ _ _ _ _ c.visit.ensures.added (looking_at _ _ _ c.trail.invariant.watched.trail c.not-falsified.ensures c.in-Some.ensures.value)

pub returns-in-Some-visit_other-clause-watched : goal.returns-in-Some-visit_other-clause-watched
returns-in-Some-visit_other-clause-watched c = watched_less _ _ _ _ _ _ _ _ _ (omega arith) (omega arith) (watched_swap _ _ _ _ _ _ _ c.visit_other.ensures.watched)

pub returns-in-Some-visit_other-clause-adds : goal.returns-in-Some-visit_other-clause-adds
returns-in-Some-visit_other-clause-adds c = adds_on _ _ _ _ _ c.visit.ensures.watched.trail (adds_on _ _ _ _ _ c.trail.invariant.watched.trail c.trail.invariant.adds c.visit.ensures.added) c.visit_other.ensures.added

pub advance-requires : goal.advance-requires
advance-requires c = head_below _ _ _ _ c.visit_other.ensures.added (head_below _ _ _ _ c.visit.ensures.added c.in-Some.ensures.value.below)

pub trail-smaller : goal.trail-smaller
trail-smaller c = follow_fewer _ _ _ _ _ _ c.in-Some.ensures.value.below c.trail.invariant.watched.trail c.visit.ensures.added c.visit_other.ensures.added c.advance.ensures.after

pub trail-preserved : goal.trail-preserved
trail-preserved c = follow_on _ _ _ _ _ _ _ _ _ _ _ _ _ c.trail.invariant c.visit.ensures.added c.visit.ensures.aside c.visit.ensures.watched.trail c.in_default-visit_other.ensures.closed c.visit_other.ensures.added c.visit_other.ensures.aside c.advance.ensures.after c.advance.ensures.trail
