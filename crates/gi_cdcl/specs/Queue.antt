-- The list of all variables, from which decisions are taken.
use Rattle.std.specs.Prelude.{◌≡◌, ℕ, ◌<◌, ◌≤◌, length, Contains}
use Rattle.gi_chains.specs.Lists.{Lists, items_at, IsApart}

-- one list has each of the nodes below n, once
pub record IsQueue (c : Lists) (n : ℕ) : Type 0 where
  pub nodes : c.nodes ≡ n
  pub small : n ≤ 4294967295
  pub few : length c.lists ≤ 1
  pub each : (k : ℕ) → k < n → Contains (items_at c.lists 0) k
  pub apart : IsApart c

-- of the nodes below n it has those below `from`, and those from `at` on
pub record IsLinkedFrom (c : Lists) (from at n : ℕ) : Type 0 where
  pub nodes : c.nodes ≡ n
  pub one : length c.lists ≡ 1
  pub low : (k : ℕ) → k < from → Contains (items_at c.lists 0) k
  pub high : (k : ℕ) → at ≤ k → k < n → Contains (items_at c.lists 0) k
  pub free : (k : ℕ) → from ≤ k → k < at → ¬ Contains (items_at c.lists 0) k
  pub apart : IsApart c
