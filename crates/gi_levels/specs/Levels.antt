-- Gates as nodes: the places of a gate's operands. A place past the last is no gate.
use Rattle.std.specs.Prelude.{◌≡◌, ◌≢◌, ℕ, suc, ◌+◌, ◌-◌, ◌*◌, ◌<◌, ◌≤◌, max, List, [], length, take, slice_index, slice_index_or, ◌⊎◌, Bool, true, false, sum_by, if◌then◌else◌}
use Rattle.gi_levels.specs.declared.levels.Node.{Node}

abbrev pub node_at : List Node → ℕ → Node
node_at nodes k = slice_index_or nodes k (record { left = 0; right = 0 })

abbrev pub IsOperand : List Node → ℕ → ℕ → Type 0
IsOperand nodes k o = (k < length nodes) × (o < length nodes)
    × ((o ≡ (node_at nodes k).left) ⊎ (o ≡ (node_at nodes k).right))

-- there are no cycles: some level falls from each gate to its operands
pub record HasLevels (nodes : List Node) : Type 0 where
  pub level : ℕ → ℕ
  pub falls : (k o : ℕ) → IsOperand nodes k o → level o < level k

-- a gate's level is one more than the greater level of its operands; what is no gate has level 0
pub record AreLevels (nodes : List Node) (levels : List ℕ) : Type 0 where
  pub len : length levels ≡ length nodes
  pub each : (k : ℕ) → k < length nodes
      → slice_index levels k ≡ suc (max (slice_index levels (node_at nodes k).left)
      (slice_index levels (node_at nodes k).right))

-- what is known so far: the level of a gate is 0 as long as it isn't known
abbrev pub IsKnown : List Node → List ℕ → ℕ → Type 0
IsKnown nodes levels o = o < length nodes → slice_index levels o ≢ 0

pub record Exact (nodes : List Node) (levels : List ℕ) (k : ℕ) : Type 0 where
  pub value : slice_index levels k
      ≡ suc (max (slice_index levels (node_at nodes k).left)
      (slice_index levels (node_at nodes k).right))
  pub left : IsKnown nodes levels (node_at nodes k).left
  pub right : IsKnown nodes levels (node_at nodes k).right

-- how many are false
abbrev pub unseen : List Bool → ℕ
unseen flags = sum_by (λ b. if b then 0 else 1) flags

pub record Searching (nodes : List Node) (seen : List Bool) (levels stack : List ℕ)
    (fresh : ℕ) : Type 0 where
  pub seen_len : length seen ≡ length nodes
  pub levels_len : length levels ≡ length nodes
  pub within : (j : ℕ) → j < length stack → slice_index stack j < length nodes
  pub path : (j : ℕ) → j + 1 < length stack
      → IsOperand nodes (slice_index stack j) (slice_index stack (j + 1))
  pub on_stack : (k : ℕ) → k < length nodes → slice_index_or seen k false ≡ true
      → slice_index levels k ≡ 0 → (j : ℕ) × (j < length stack) × (slice_index stack j ≡ k)
  pub exact : (k : ℕ) → k < length nodes → slice_index levels k ≢ 0 → Exact nodes levels k
  pub fits : (k : ℕ) → slice_index levels k + fresh + length stack ≤ length nodes
  pub count : fresh ≡ unseen seen

-- the path begins at the root, or the root's level is known
abbrev pub Rooted : ℕ → List ℕ → List ℕ → Type 0
Rooted root stack levels = ((0 < length stack) × (slice_index stack 0 ≡ root))
    ⊎ (slice_index levels root ≢ 0)

abbrev pub Keeps : List ℕ → List ℕ → Type 0
Keeps old new = (k : ℕ) → slice_index old k ≢ 0 → slice_index new k ≢ 0

-- the last of the path
pub record IsLast (stack : List ℕ) (top : ℕ) : Type 0 where
  pub some : 0 < length stack
  pub last : slice_index stack (length stack - 1) ≡ top

-- one step of the search
pub record Advances (nodes : List Node) (old_levels old_stack : List ℕ) (old_fresh : ℕ)
    (seen : List Bool) (levels stack : List ℕ) (fresh : ℕ) : Type 0 where
  pub sound : Searching nodes seen levels stack fresh
  pub rooted : (root : ℕ) → Rooted root old_stack old_levels → Rooted root stack levels
  pub keeps : Keeps old_levels levels
  pub falls : 2 * fresh + length stack < 2 * old_fresh + length old_stack

-- a root was visited
pub record Visited (nodes : List Node) (root : ℕ) (start : List ℕ) (seen : List Bool)
    (levels stack : List ℕ) (fresh : ℕ) : Type 0 where
  pub sound : Searching nodes seen levels stack fresh
  pub none : stack ≡ []
  pub keeps : Keeps start levels
  pub known : slice_index levels root ≢ 0

-- this gate closes a cycle with the gates before it, and those have none
pub record ClosesCycle (nodes : List Node) (k : ℕ) : Type 0 where
  pub within : k < length nodes
  pub before : HasLevels (take k nodes)
  pub closes : HasLevels (take (k + 1) nodes) → ⊥
