use Rattle.std.proofs.Common.{◌≤◌, Bool, List, length, ap, arith, vec_capacity}
use Rattle.gi_cdcl.proofs.Touching.{touched_none}
use Rattle.gi_cdcl.proofs.seen.Seen.start_over.Goals as goal

pub invariant_of-self : goal.invariant_of-self
invariant_of-self c =
    let le : length c.unmark.new.flags.items ≤ vec_capacity c.reserve.new.self = let r = c.self.invariant.room in omega (arith, c.unmark.ensures.len, r, c.clear.ensures.capacity, c.reserve.ensures.capacity) in
    rw (c.reserve.ensures.items, c.clear.ensures.items) (touched_none c.unmark.new.flags.items (vec_capacity c.reserve.new.self) c.unmark.ensures.blank le (let f = c.self.invariant.few in omega (arith, f, c.unmark.ensures.len)))

pub invariant_of-self-in_err-reserve-2 : goal.invariant_of-self-in_err-reserve-2
invariant_of-self-in_err-reserve-2 c =
    let le : length c.unmark.new.flags.items ≤ vec_capacity c.reserve.new.self = let r = c.self.invariant.room in omega (arith, c.unmark.ensures.len, r, c.clear.ensures.capacity, c.reserve.ensures.capacity) in
    rw (c.reserve-2.ensures.items, c.reserve.ensures.items, c.clear.ensures.items) (touched_none c.unmark.new.flags.items (vec_capacity c.reserve.new.self) c.unmark.ensures.blank le (let f = c.self.invariant.few in omega (arith, f, c.unmark.ensures.len)))

pub invariant_of-self-2 : goal.invariant_of-self-2
invariant_of-self-2 c =
    let le : length c.add_flags.new.flags.items ≤ vec_capacity c.reserve.new.self =
    let r = c.self.invariant.room in
    let same = ap (λ (xs : List Bool). length xs) c.reserve-2.ensures.items in
    omega (arith, c.unmark.ensures.len, r, c.clear.ensures.capacity, c.reserve.ensures.capacity, c.in_ok-reserve.ensures.ok, same, c.add_flags.ensures.len, c.saturating_sub-more.ensures, c.len.ensures, c.unmark.new.flags.ok.0) in
    let few : length c.add_flags.new.flags.items ≤ 4294967295 =
    let f = c.self.invariant.few in
    let same = ap (λ (xs : List Bool). length xs) c.reserve-2.ensures.items in
    omega (arith, f, c.unmark.ensures.len, same, c.add_flags.ensures.len, c.saturating_sub-more.ensures, c.len.ensures, c.requires) in
    rw (c.reserve.ensures.items, c.clear.ensures.items) (touched_none c.add_flags.new.flags.items (vec_capacity c.reserve.new.self) c.add_flags.ensures.blank le few)
