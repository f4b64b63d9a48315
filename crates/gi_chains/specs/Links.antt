use Rattle.std.specs.Prelude.{◌≡◌, ℕ, zero, suc, ◌-◌, ◌<◌, List, [], ◌∷◌, Option, Some, None, length, map, slice_get, slice_index_or, slice_set}
use Rattle.gi_chains.specs.Lists.{items_at, StandsAt}
use Rattle.gi_chains.specs.declared.node.Node.{Node}
use Rattle.gi_chains.specs.declared.node.Ends.{Ends}

-- a node in no list
abbrev pub blank : Node
blank = record { list = None; prev = None; next = None }

-- the ends of an empty list
abbrev pub no_ends : Ends
no_ends = record { first = None; last = None }

-- what is kept of a node; of one that is not there, as of a node in no list
abbrev pub node_at : List Node → ℕ → Node
node_at nodes k = slice_index_or nodes k blank

-- the node, if any, is told which one stands before it
abbrev pub with_prev : List Node → Option ℕ → Option ℕ → List Node
with_prev nodes None p = nodes
with_prev nodes (Some k) p = slice_set nodes k (record (node_at nodes k) { prev = p })

-- the node, if any, is told which one follows
abbrev pub with_next : List Node → Option ℕ → Option ℕ → List Node
with_next nodes None n = nodes
with_next nodes (Some k) n = slice_set nodes k (record (node_at nodes k) { next = n })

-- the nodes from one on, at most so many
unfoldable pub walk : List Node → ℕ → Option ℕ → List ℕ
walk nodes zero at = []
walk nodes (suc most) None = []
walk nodes (suc most) (Some k) = k ∷ walk nodes most (node_at nodes k).next

-- the lists, each walked from its first node
abbrev pub walked : List Ends → List Node → List (List ℕ)
walked ends nodes = map (λ (e : Ends). walk nodes (length nodes) e.first) ends

-- what stands before place i
abbrev pub before : List ℕ → ℕ → Option ℕ
before xs zero = None
before xs (suc i) = slice_get xs i

-- what the node at place i of list l says
abbrev pub node_in : ℕ → List ℕ → ℕ → Node
node_in l xs i = record { list = Some l; prev = before xs i; next = slice_get xs (suc i) }

-- the first and the last of a list
abbrev pub ends_of : List ℕ → Ends
ends_of xs = record { first = slice_get xs 0; last = slice_get xs (length xs - 1) }

-- the nodes link these lists
pub record IsChained (ends : List Ends) (nodes : List Node) (lists : List (List ℕ)) : Type 0 where
  pub count : length lists ≡ length ends
  pub each : (l : ℕ) → l < length lists → slice_index_or ends l no_ends ≡ ends_of (items_at lists l)
  pub within : (l i k : ℕ) → StandsAt lists l i k → k < length nodes
  pub linked : (l i k : ℕ) → StandsAt lists l i k → node_at nodes k ≡ node_in l (items_at lists l) i
  pub home : (k l : ℕ) → (node_at nodes k).list ≡ Some l → (i : ℕ) × StandsAt lists l i k
  pub free : (k : ℕ) → (node_at nodes k).list ≡ None → node_at nodes k ≡ blank
