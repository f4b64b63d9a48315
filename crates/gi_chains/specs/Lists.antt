use Rattle.std.specs.Prelude.{◌≡◌, ℕ, ◌-◌, ◌<◌, List, [], ◌++◌, length, max, replicate, slice_index, slice_index_or, slice_set}

-- what contracts see of the chains: the lists, each from its first node on, how many nodes there
-- are, and the word of each
pub record Lists : Type 0 where
  pub lists : List (List ℕ)
  pub nodes : ℕ
  pub words : List ℕ

-- the nodes of a list, in order; none past the last list
abbrev pub items_at : List (List ℕ) → ℕ → List ℕ
items_at lists l = slice_index_or lists l []

-- the node stands at place i of list l
pub record StandsAt (lists : List (List ℕ)) (l i node : ℕ) : Type 0 where
  pub list : l < length lists
  pub place : i < length (items_at lists l)
  pub item : slice_index (items_at lists l) i ≡ node

-- the node stands in a list
abbrev pub IsLinked : List (List ℕ) → ℕ → Type 0
IsLinked lists node = (l : ℕ) × (i : ℕ) × StandsAt lists l i node

-- the node stands in no list
abbrev pub IsFree : List (List ℕ) → ℕ → Type 0
IsFree lists node = (l i : ℕ) → ¬ StandsAt lists l i node

-- each node of a list exists, and stands nowhere else; each node has a word
pub record IsApart (c : Lists) : Type 0 where
  pub within : (l i k : ℕ) → StandsAt c.lists l i k → k < c.nodes
  pub same_list : (l i m j k : ℕ) → StandsAt c.lists l i k → StandsAt c.lists m j k → l ≡ m
  pub same_place : (l i m j k : ℕ) → StandsAt c.lists l i k → StandsAt c.lists m j k → i ≡ j
  pub worded : length c.words ≡ c.nodes

-- list l is exchanged, and all else stays
abbrev pub with_list : Lists → ℕ → List ℕ → Lists
with_list c l items = record c { lists = slice_set c.lists l items }

-- the word of a node is exchanged, and all else stays
abbrev pub with_word : Lists → ℕ → ℕ → Lists
with_word c node word = record c { words = slice_set c.words node word }

-- empty lists follow until there are so many, and free nodes with the word 0 likewise; none goes
abbrev pub grown : Lists → ℕ → ℕ → Lists
grown c lists nodes = record {
  lists = c.lists ++ replicate (lists - length c.lists) [];
  nodes = max c.nodes nodes;
  words = c.words ++ replicate (nodes - c.nodes) 0;
}
