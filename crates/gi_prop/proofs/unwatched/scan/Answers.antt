use Rattle.std.proofs.Common.{◌+◌, sym, ap, subst, arith}
use Rattle.gi_chains.specs.Lists.{Lists, IsApart}
use Rattle.gi_prop.specs.Watching.{LeavesAside}
use Rattle.gi_prop.proofs.Moves.{aside_same, aside_on}
use Rattle.gi_prop.proofs.Settling.{added_none}
use Rattle.gi_prop.proofs.Visiting.{standing, fewer_on, fewer_gone, added_on}
use Rattle.gi_prop.proofs.Passing.{all_passed, pass_kept, pass_gone, none_passed}
use Rattle.gi_prop.proofs.unwatched.scan.Goals as goal

pub returns-then-list-lists-clause-watched : goal.returns-then-list-lists-clause-watched
returns-then-list-lists-clause-watched c = c.requires.watched

pub returns-then-list-lists-clause-added : goal.returns-then-list-lists-clause-added
returns-then-list-lists-clause-added c = added_none c.args.slots.now c.args.store.now c.args.trail.now

pub returns-then-list-lists-clause-first_aside : goal.returns-then-list-lists-clause-first_aside
returns-then-list-lists-clause-first_aside c = aside_same c.args.first.now

pub returns-then-list-lists-clause-second_aside : goal.returns-then-list-lists-clause-second_aside
returns-then-list-lists-clause-second_aside c = aside_same c.args.second.now

pub returns-then-list-lists-clause-passed : goal.returns-then-list-lists-clause-passed
returns-then-list-lists-clause-passed c = let t = c.if-list-lists.true in none_passed c.args.first.now c.args.store.now c.args.trail.now.lits c.args.list (omega (arith, t, c.lists.ensures))

pub nodes-init : goal.nodes-init
nodes-init c = let f = c.if-list-lists.false in record {
  watched = c.requires.watched;
  added = added_none c.args.slots.now c.args.store.now c.args.trail.now;
  first_aside = aside_same c.args.first.now;
  second_aside = aside_same c.args.second.now;
  low = c.requires.list;
  place = 0;
  walking = record { exists = omega (arith, f, c.lists.ensures); apart = c.requires.watched.kept.first_linked.apart; at_is = c.first-at.ensures.value };
  done = λ j k jl st. absurd (omega arith);
}

pub next-next-requires : goal.next-next-requires
next-next-requires c = c.nodes.invariant.walking.apart.within _ _ _ (standing _ _ _ _ c.nodes.invariant.walking _ c.in-Some.is)

pub promote-requires-clause-watched : goal.promote-requires-clause-watched
promote-requires-clause-watched c = c.nodes.invariant.watched

pub promote-requires-clause-linked : goal.promote-requires-clause-linked
promote-requires-clause-linked c = (c.args.list, c.nodes.invariant.low, record { place = c.nodes.invariant.place; stands = standing _ _ _ _ c.nodes.invariant.walking _ c.in-Some.is })

pub returns-in-Failed-clause-watched : goal.returns-in-Failed-clause-watched
returns-in-Failed-clause-watched c = c.in-Failed.ensures.watched

pub returns-in-Failed-clause-added : goal.returns-in-Failed-clause-added
returns-in-Failed-clause-added c = added_on _ _ _ _ _ c.nodes.invariant.watched.trail.reasons c.nodes.invariant.added c.in-Failed.ensures.added

pub returns-in-Failed-clause-first_aside : goal.returns-in-Failed-clause-first_aside
returns-in-Failed-clause-first_aside c = subst (LeavesAside c.args.first.now) (sym c.in-Failed.ensures.step.0) c.nodes.invariant.first_aside

pub returns-in-Failed-clause-second_aside : goal.returns-in-Failed-clause-second_aside
returns-in-Failed-clause-second_aside c = aside_on _ _ _ c.nodes.invariant.second_aside c.in-Failed.ensures.aside

pub returns-in-Failed-clause-conflict : goal.returns-in-Failed-clause-conflict
returns-in-Failed-clause-conflict c = c.in-Failed.ensures.step.1

pub nodes-smaller-in-Kept : goal.nodes-smaller-in-Kept
nodes-smaller-in-Kept c =
    let v = c.nodes.invariant in
    let s = standing _ _ _ _ v.walking _ c.in-Some.is in
    fewer_on _ _ _ _ _ v.walking _ c.in-Some.is _ (c.next-next.ensures.linked _ _ s) (ap (λ (z : Lists). z.lists) c.in-Kept.ensures.step.0) (subst IsApart (sym c.in-Kept.ensures.step.0) v.walking.apart)

pub nodes-preserved-in-Kept : goal.nodes-preserved-in-Kept
nodes-preserved-in-Kept c =
    let v = c.nodes.invariant in
    let s = standing _ _ _ _ v.walking _ c.in-Some.is in
    pass_kept _ _ _ _ _ _ _ _ _ _ v _ c.in-Some.is _ (c.next-next.ensures.linked _ _ s) _ _ _ c.in-Kept.ensures.watched c.in-Kept.ensures.added c.in-Kept.ensures.aside c.in-Kept.ensures.step

pub nodes-smaller : goal.nodes-smaller
nodes-smaller c =
    let v = c.nodes.invariant in
    let s = standing _ _ _ _ v.walking _ c.in-Some.is in
    let m = c.in-Moved.ensures.step in
    let low = v.low in
    fewer_gone _ _ _ _ _ v.walking _ c.in-Some.is (m.0 + 1) m.2 (λ q. let big = m.1 in absurd (omega arith)) m.3 _ (c.next-next.ensures.linked _ _ s)

pub nodes-preserved : goal.nodes-preserved
nodes-preserved c =
    let v = c.nodes.invariant in
    let s = standing _ _ _ _ v.walking _ c.in-Some.is in
    let m = c.in-Moved.ensures.step in
    pass_gone _ _ _ _ _ _ _ _ _ _ v _ c.in-Some.is _ (c.next-next.ensures.linked _ _ s) _ _ _ c.in-Moved.ensures.watched c.in-Moved.ensures.added c.in-Moved.ensures.aside m.0 m.1 m.2 m.3

pub returns-clause-watched : goal.returns-clause-watched
returns-clause-watched c = c.nodes.invariant.watched

pub returns-clause-added : goal.returns-clause-added
returns-clause-added c = c.nodes.invariant.added

pub returns-clause-first_aside : goal.returns-clause-first_aside
returns-clause-first_aside c = c.nodes.invariant.first_aside

pub returns-clause-second_aside : goal.returns-clause-second_aside
returns-clause-second_aside c = c.nodes.invariant.second_aside

pub returns-clause-passed : goal.returns-clause-passed
returns-clause-passed c = all_passed _ _ _ _ _ _ _ _ _ _ c.nodes.invariant c.in_default.is
