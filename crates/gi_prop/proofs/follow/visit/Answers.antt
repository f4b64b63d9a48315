use Rattle.std.proofs.Common.{◌+◌, ℕ, sym, ap, ◌∙◌, subst, arith}
use Rattle.std.specs.List.{slice_get}
use Rattle.gi_chains.specs.Lists.{items_at}
use Rattle.gi_prop.specs.Watching.{LeavesAside}
use Rattle.gi_prop.proofs.Moves.{aside_same}
use Rattle.gi_prop.proofs.Settling.{added_none}
use Rattle.gi_prop.proofs.Visiting.{standing, all_seen, visit_kept, visit_gone, none_seen, fewer_on, fewer_gone, added_on}
use Rattle.gi_prop.proofs.follow.visit.Goals as goal

pub returns-then-list-lists-clause-watched : goal.returns-then-list-lists-clause-watched
returns-then-list-lists-clause-watched g c = c.requires.0

pub returns-then-list-lists-clause-added : goal.returns-then-list-lists-clause-added
returns-then-list-lists-clause-added g c = added_none c.args.slots.now c.args.store.now c.args.trail.now

pub returns-then-list-lists-clause-aside : goal.returns-then-list-lists-clause-aside
returns-then-list-lists-clause-aside g c = aside_same c.args.ours.now

pub returns-then-list-lists-clause-closed : goal.returns-then-list-lists-clause-closed
returns-then-list-lists-clause-closed g c =
    let t = c.if-list-lists.true in
    none_seen _ _ _ _ _ _ _ c.requires.0 c.requires.1.0 (omega (arith, t, c.list_of-list.ensures.value, c.lists.ensures))

pub nodes-init : goal.nodes-init
nodes-init g c = let f = c.if-list-lists.false in record {
  watched = c.requires.0;
  added = added_none c.args.slots.now c.args.store.now c.args.trail.now;
  aside = aside_same c.args.ours.now;
  looking = c.requires.1.0;
  high = c.requires.1.1;
  place = 0;
  walking = record {
    exists = omega (arith, f, c.list_of-list.ensures.value, c.lists.ensures);
    apart = c.requires.0.kept.first_linked.apart;
    at_is = c.first-at.ensures.value ∙ ap (λ (z : ℕ). slice_get (items_at c.args.ours.now.lists z) 0) c.list_of-list.ensures.value;
  };
  done = λ j k jl st. absurd (omega arith);
}

pub next-next-requires : goal.next-next-requires
next-next-requires g c = c.nodes.invariant.walking.apart.within _ _ _ (standing _ _ _ _ c.nodes.invariant.walking _ c.in-Some.is)

pub settle-requires : goal.settle-requires
settle-requires g c = (c.nodes.invariant.watched, (c.nodes.invariant.looking, (record { place = c.nodes.invariant.place; stands = standing _ _ _ _ c.nodes.invariant.walking _ c.in-Some.is }, c.nodes.invariant.high)))

pub returns-in-Failed-clause-watched : goal.returns-in-Failed-clause-watched
returns-in-Failed-clause-watched g c = c.in-Failed.ensures.watched

pub returns-in-Failed-clause-added : goal.returns-in-Failed-clause-added
returns-in-Failed-clause-added g c = added_on _ _ _ _ _ c.nodes.invariant.watched.trail.reasons c.nodes.invariant.added c.in-Failed.ensures.added

pub returns-in-Failed-clause-aside : goal.returns-in-Failed-clause-aside
returns-in-Failed-clause-aside g c = subst (LeavesAside c.args.ours.now) (sym c.in-Failed.ensures.step.0) c.nodes.invariant.aside

pub returns-in-Failed-clause-conflict : goal.returns-in-Failed-clause-conflict
returns-in-Failed-clause-conflict g c = c.in-Failed.ensures.step.1

pub nodes-smaller-in-Kept : goal.nodes-smaller-in-Kept
nodes-smaller-in-Kept g c =
    let v = c.nodes.invariant in
    let s = standing _ _ _ _ v.walking _ c.in-Some.is in
    fewer_on _ _ _ _ _ v.walking _ c.in-Some.is _ (c.next-next.ensures.linked _ _ s) c.in-Kept.ensures.step.0.lists c.in-Kept.ensures.step.0.apart

pub nodes-preserved-in-Kept : goal.nodes-preserved-in-Kept
nodes-preserved-in-Kept g c =
    let v = c.nodes.invariant in
    let s = standing _ _ _ _ v.walking _ c.in-Some.is in
    visit_kept _ _ _ _ _ _ _ _ _ _ v _ c.in-Some.is _ (c.next-next.ensures.linked _ _ s) _ _ c.in-Kept.ensures.watched c.in-Kept.ensures.added c.in-Kept.ensures.step

pub nodes-smaller : goal.nodes-smaller
nodes-smaller g c =
    let v = c.nodes.invariant in
    let s = standing _ _ _ _ v.walking _ c.in-Some.is in
    let m = c.in-Moved.ensures.step in
    fewer_gone _ _ _ _ _ v.walking _ c.in-Some.is (m.0 + 1) m.3 (λ q. m.2 (omega arith)) m.4 _ (c.next-next.ensures.linked _ _ s)

pub nodes-preserved : goal.nodes-preserved
nodes-preserved g c =
    let v = c.nodes.invariant in
    let s = standing _ _ _ _ v.walking _ c.in-Some.is in
    let m = c.in-Moved.ensures.step in
    visit_gone _ _ _ _ _ _ _ _ _ _ v _ c.in-Some.is _ (c.next-next.ensures.linked _ _ s) _ _ c.in-Moved.ensures.watched c.in-Moved.ensures.added m.0 m.1 m.2 m.3 m.4

pub returns-clause-watched : goal.returns-clause-watched
returns-clause-watched g c = c.nodes.invariant.watched

pub returns-clause-added : goal.returns-clause-added
returns-clause-added g c = c.nodes.invariant.added

pub returns-clause-aside : goal.returns-clause-aside
returns-clause-aside g c = c.nodes.invariant.aside

pub returns-clause-closed : goal.returns-clause-closed
returns-clause-closed g c = all_seen _ _ _ _ _ _ _ _ _ _ c.nodes.invariant c.in_default.is
