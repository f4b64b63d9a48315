use Rattle.std.proofs.Common.{◌∙◌, ◌<◌, ◌≤◌, ℕ, List, length, get_or, ap, sym, subst}
use Rattle.std.specs.List.{range_with_len}
use Rattle.gi_levels.specs.Levels.{AreLevels}
use Rattle.gi_levels.specs.Found.{FindsLevels}
use Rattle.gi_levels.specs.Order.{up_to_level}
use Rattle.gi_levels.proofs.Bounded.{one, has}
use Rattle.gi_levels.proofs.Sorting.{levels_bound, same_order}
use Rattle.gi_levels.proofs.order.by_level.Goals as goal

pub in_order-requires : goal.in_order-requires
in_order-requires c =
    let are : AreLevels c.args.nodes.now c.in-Found.levels.items = subst (FindsLevels c.args.nodes.now) c.in-Found.is c.in_ok-levels.ensures in
    subst (λ (ls : List ℕ). (k : ℕ) → k < length ls → (0 < get_or ls k 0) × (get_or ls k 0 ≤ length ls)) (sym c.deref.ensures.value)
    (levels_bound c.args.nodes.now c.in-Found.levels.items are (one c.args.nodes.now c.in-Found.levels.items are))

pub returns-in_ok-in_order-in-Found-clause-order : goal.returns-in_ok-in_order-in-Found-clause-order
returns-in_ok-in_order-in-Found-clause-order c =
    let are : AreLevels c.args.nodes.now c.in-Found.levels.items = subst (FindsLevels c.args.nodes.now) c.in-Found.is c.in_ok-levels.ensures in
    c.in_ok-in_order-in-Found.ensures
    ∙ ap (λ (ls : List ℕ). up_to_level (λ k. get_or ls k 0) (range_with_len 0 (length ls)) (length ls)) c.deref.ensures.value
    ∙ same_order c.args.nodes.now c.in-Found.levels.items are (one c.args.nodes.now c.in-Found.levels.items are)

pub returns-in_ok-in_order-in-Found-clause-acyclic : goal.returns-in_ok-in_order-in-Found-clause-acyclic
returns-in_ok-in_order-in-Found-clause-acyclic c = has c.args.nodes.now c.in-Found.levels.items (subst (FindsLevels c.args.nodes.now) c.in-Found.is c.in_ok-levels.ensures)
