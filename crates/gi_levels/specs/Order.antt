-- Levels, the gates by level, and the first cycle, as functions of the gates, by a bound on steps.
use Rattle.std.specs.Prelude.{◌≡◌, ℕ, zero, suc, ◌+◌, ◌<◌, ◌≤◌, ◌==◌, ◌&&◌, not, nat_lt, max, if◌then◌else◌, Bool, true, List, [], ◌++◌, length, map, take, filter, Option, Some, None, MatchOption}
use Rattle.std.specs.List.{range_with_len}
use Rattle.std.specs.List.Sorted.{IsPermutation, IsNonDecreasingBy}
use Rattle.gi_levels.specs.declared.levels.Node.{Node}
use Rattle.gi_levels.specs.Levels.{node_at, HasLevels, AreLevels, ClosesCycle}

-- whether all paths from a place leave the gates within so many steps
unfoldable pub ends_within : List Node → ℕ → ℕ → Bool
ends_within nodes zero k = not (nat_lt k (length nodes))
ends_within nodes (suc n) k = if nat_lt k (length nodes)
    then ends_within nodes n (node_at nodes k).left && ends_within nodes n (node_at nodes k).right
    else true

-- the level of a place, as far as so many steps tell
unfoldable pub level_within : List Node → ℕ → ℕ → ℕ
level_within nodes zero k = 0
level_within nodes (suc n) k = if nat_lt k (length nodes)
    then suc (max (level_within nodes n (node_at nodes k).left)
    (level_within nodes n (node_at nodes k).right)) else 0

-- the level of a place: without cycles no path has more steps than there are gates
abbrev pub level_of : List Node → ℕ → ℕ
level_of nodes k = level_within nodes (length nodes) k

-- the places from 0 on
abbrev pub places_of : List Node → List ℕ
places_of nodes = range_with_len 0 (length nodes)

abbrev pub levels_of : List Node → List ℕ
levels_of nodes = map (level_of nodes) (places_of nodes)

-- those of level 1 in their order, then those of level 2, and so on up to a level
unfoldable pub up_to_level : (ℕ → ℕ) → List ℕ → ℕ → List ℕ
up_to_level level places zero = []
up_to_level level places (suc n) = up_to_level level places n
    ++ filter (λ k. level k == suc n) places

-- all places by level, and within a level in their order
abbrev pub by_level : List Node → List ℕ
by_level nodes = up_to_level (level_of nodes) (places_of nodes) (length nodes)

-- whether the paths from all of the first places end
unfoldable pub all_end : List Node → ℕ → Bool
all_end nodes zero = true
all_end nodes (suc k) = ends_within nodes (length nodes) k && all_end nodes k

abbrev pub is_acyclic : List Node → Bool
is_acyclic nodes = all_end nodes (length nodes)

-- the first of so many places, from place k on, up to which the gates have a cycle
unfoldable pub cycle_from : List Node → ℕ → ℕ → Option ℕ
cycle_from nodes k zero = None
cycle_from nodes k (suc n) = if is_acyclic (take (k + 1) nodes) then cycle_from nodes (k + 1) n
    else Some k

-- the gate that closes the first cycle
abbrev pub first_cycle : List Node → Option ℕ
first_cycle nodes = cycle_from nodes 0 (length nodes)

-- levels are those of the function, and where there are levels those are
abbrev pub LevelsAreOne : Type 0
LevelsAreOne = (nodes : List Node) (levels : List ℕ) → AreLevels nodes levels
    → levels ≡ levels_of nodes

abbrev pub LevelsAreThere : Type 0
LevelsAreThere = (nodes : List Node) → HasLevels nodes → AreLevels nodes (levels_of nodes)

-- the first cycle is that of the function, and there is none exactly where there are levels
abbrev pub CycleIsFound : Type 0
CycleIsFound = (nodes : List Node)
    → MatchOption (first_cycle nodes) (HasLevels nodes) (ClosesCycle nodes)

-- where there are no cycles the order has each place once, and nothing else
abbrev pub OrderIsWhole : Type 0
OrderIsWhole = (nodes : List Node) → HasLevels nodes
    → IsPermutation (places_of nodes) (by_level nodes)

-- levels don't fall along it
abbrev pub OrderRises : Type 0
OrderRises = (nodes : List Node) → IsNonDecreasingBy (level_of nodes) (by_level nodes)

-- where levels don't fall from place to place, the order is that of the places
abbrev pub OrderStands : Type 0
OrderStands = (nodes : List Node) → HasLevels nodes
    → ((j k : ℕ) → j ≤ k → k < length nodes → level_of nodes j ≤ level_of nodes k)
    → by_level nodes ≡ places_of nodes
