use Rattle.std.proofs.Common.{◌∙◌, ◌<◌, ◌≤◌, ℕ, List, length, get_or, ap, sym, subst, arith, rules}
use Rattle.std.specs.List.{All}
use Rattle.std.proofs.lemmas.List.Sorted.{IsNonDecreasingBy-from_sort_by_key}
use Rattle.std.proofs.lemmas.Fn.{always_returns_same}
use Rattle.gi_levels.specs.Order.{up_to_level}
use Rattle.gi_levels.proofs.Sorting.{sorted_is, all_bound}
use Rattle.gi_levels.proofs.order.in_order.Goals as goal

pub returns : goal.returns
returns c =
    let counted = c.in_ok-places.ensures in
    let bound = subst (λ (xs : List ℕ). All (λ k. (0 < get_or c.args.levels.now k 0) × (get_or c.args.levels.now k 0 ≤ length c.args.levels.now)) xs) (sym counted) (all_bound (λ k. get_or c.args.levels.now k 0) 0 (length c.args.levels.now) (length c.args.levels.now) (omega arith) c.requires) in
    let up = IsNonDecreasingBy-from_sort_by_key (λ k. get_or c.args.levels.now k 0) _ c.in_ok-sort_by_key.ensures.sorted (λ a r q k. search rules) in
    let still = c.in_ok-sort_by_key.ensures.stable (λ k. get_or c.args.levels.now k 0) (always_returns_same _ _ _ (λ a r q k. search rules)) in
    sorted_is (λ k. get_or c.args.levels.now k 0) c.in_ok-places.places.items c.sort_by_key.new.self.items (length c.args.levels.now) bound c.in_ok-sort_by_key.ensures.permutation up still
    ∙ ap (λ (xs : List ℕ). up_to_level (λ k. get_or c.args.levels.now k 0) xs (length c.args.levels.now)) counted
