-- Gates whose levels don't fall as they stand are in order.
use Rattle.std.proofs.Common.{◌≡◌, ℕ, ◌+◌, ◌<◌, ◌≤◌, List, length, get_or, refl, ap, sym, ◌∙◌, arith}
use Rattle.std.specs.List.Sorted.{IsNonDecreasingBy}
use Rattle.std.proofs.lemmas.List.FromFn.{length-range_with_len, get_or-range_with_len}
use Rattle.std.proofs.lemmas.List.Sorted.{IsPermutation-refl}
use Rattle.gi_levels.specs.declared.levels.Node.{Node}
use Rattle.gi_levels.specs.Order.{level_of, places_of, OrderStands}
use Rattle.gi_levels.proofs.Bounded.{ends_all, stays, level_at}
use Rattle.gi_levels.proofs.Sorting.{sorted_is, all_bound, within_bound}

places_rise : (nodes : List Node) → ((j k : ℕ) → j ≤ k → k < length nodes → level_of nodes j ≤ level_of nodes k) → IsNonDecreasingBy (level_of nodes) (places_of nodes)
places_rise nodes up i j d le lt =
    let n = length-range_with_len 0 (length nodes) in
    let p = get_or-range_with_len 0 (length nodes) i d (omega (arith, le, lt, n)) in
    let q = get_or-range_with_len 0 (length nodes) j d (omega (arith, lt, n)) in
    let same : get_or (places_of nodes) i d ≡ i = omega (arith, p) in
    let other : get_or (places_of nodes) j d ≡ j = omega (arith, q) in
    let r = up i j le (omega (arith, lt, n)) in
    omega (arith, r, ap (level_of nodes) same, ap (level_of nodes) other)

pub order_stands : OrderStands
order_stands nodes h up =
    let bound = all_bound (level_of nodes) 0 (length nodes) (length nodes) (omega arith) (λ k lt.
    let at = level_at nodes (length nodes) k lt in
    let still = stays nodes (length nodes) k (ends_all nodes h k) in
    (omega (arith, at, still), within_bound nodes (length nodes) k)) in
    sym (sorted_is (level_of nodes) (places_of nodes) (places_of nodes) (length nodes) bound (IsPermutation-refl (places_of nodes)) (places_rise nodes up) (λ x. refl))
