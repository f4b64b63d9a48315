use Rattle.std.proofs.Common.{◌≡◌, ◌++◌, ℕ, Option, None, List, length, replicate, refl, sym, ap, ◌∙◌, arith, length-append}
use Rattle.std.proofs.lemmas.List.{append-nil, length-replicate}
use Rattle.gi_prop.proofs.Rooms.{more_grown, more_same_lists, grown_lists, grown_node}
use Rattle.gi_prop.proofs.room.make_room.Goals as goal

same : (xs ys : List (Option ℕ)) → ys ≡ xs → (m : ℕ) × (ys ≡ xs ++ replicate m None)
same xs ys e = (0, e ∙ sym (append-nil xs))

pub returns-in_err-more-clause-first : goal.returns-in_err-more-clause-first
returns-in_err-more-clause-first c = more_same_lists _ _ refl c.requires.first_apart

pub returns-in_err-more-clause-second : goal.returns-in_err-more-clause-second
returns-in_err-more-clause-second c = more_same_lists _ _ refl c.requires.second_apart

pub returns-in_err-more-clause-slots : goal.returns-in_err-more-clause-slots
returns-in_err-more-clause-slots c = same _ _ c.reserve_slots.ensures.slots

pub returns-in_err-grow-clause-first : goal.returns-in_err-grow-clause-first
returns-in_err-grow-clause-first c = more_same_lists _ _ c.in_err-grow.ensures.err c.requires.first_apart

pub returns-in_err-grow-clause-second : goal.returns-in_err-grow-clause-second
returns-in_err-grow-clause-second c = more_same_lists _ _ refl c.requires.second_apart

pub returns-in_err-grow-clause-slots : goal.returns-in_err-grow-clause-slots
returns-in_err-grow-clause-slots c = same _ _ c.reserve_slots.ensures.slots

pub returns-in_err-grow-2-clause-first : goal.returns-in_err-grow-2-clause-first
returns-in_err-grow-2-clause-first c = more_grown _ _ _ _ c.in_ok-grow.ensures.ok c.in_ok-grow.ensures.apart

pub returns-in_err-grow-2-clause-second : goal.returns-in_err-grow-2-clause-second
returns-in_err-grow-2-clause-second c = more_same_lists _ _ c.in_err-grow-2.ensures.err c.requires.second_apart

pub returns-in_err-grow-2-clause-slots : goal.returns-in_err-grow-2-clause-slots
returns-in_err-grow-2-clause-slots c = same _ _ c.reserve_slots.ensures.slots

pub returns-clause-first : goal.returns-clause-first
returns-clause-first c = more_grown _ _ _ _ c.in_ok-grow.ensures.ok c.in_ok-grow.ensures.apart

pub returns-clause-second : goal.returns-clause-second
returns-clause-second c = more_grown _ _ _ _ c.in_ok-grow-2.ensures.ok c.in_ok-grow-2.ensures.apart

pub returns-clause-slots : goal.returns-clause-slots
returns-clause-slots c = (c.in_ok-more.more, c.add_slots.ensures ∙ ap (λ xs. xs ++ replicate c.in_ok-more.more None) c.reserve_slots.ensures.slots)

pub returns-clause-long : goal.returns-clause-long
returns-clause-long c =
    let e = ap length c.add_slots.ensures in
    omega (arith, e, c.in_ok-more.ensures.long, length-append c.reserve_slots.new.slots.items (replicate c.in_ok-more.more None), length-replicate c.in_ok-more.more (let o : Option ℕ = None in o), c.reserve_slots.new.slots.ok.0)

pub returns-clause-nodes : goal.returns-clause-nodes
returns-clause-nodes c = (grown_node c.args.first.now c.grow.new.self c.args.lists c.args.node c.in_ok-grow.ensures.ok, grown_node c.args.second.now c.grow-2.new.self c.args.lists c.args.node c.in_ok-grow-2.ensures.ok)

pub returns-clause-lists : goal.returns-clause-lists
returns-clause-lists c = (grown_lists _ _ _ _ c.in_ok-grow.ensures.ok, grown_lists _ _ _ _ c.in_ok-grow-2.ensures.ok)
