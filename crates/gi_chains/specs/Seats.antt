-- The nodes of the chains, each with a word of the user's.
use Rattle.std.specs.Prelude.{ℕ, ◌<◌, ◌^◌, List, length, map}
use Rattle.gi_chains.specs.Links.{blank, walked, IsChained}
use Rattle.gi_chains.specs.declared.node.Node.{Node}
use Rattle.gi_chains.specs.declared.node.Seat.{Seat}
use Rattle.gi_chains.specs.declared.node.Ends.{Ends}

-- the nodes alone
abbrev pub nodes_of : List Seat → List Node
nodes_of = map (λ (s : Seat). s.node)

-- the words alone
abbrev pub words_of : List Seat → List ℕ
words_of = map (λ (s : Seat). s.word)

-- a node in no list, with the word 0
abbrev pub blank_seat : Seat
blank_seat = record { node = blank; word = 0 }

-- the nodes link the lists that are walked, and lists and nodes are so few that a link fits its
-- word
pub record IsCompact (ends : List Ends) (seats : List Seat) : Type 0 where
  pub chained : IsChained ends (nodes_of seats) (walked ends (nodes_of seats))
  pub few_lists : length ends < 2 ^ 32
  pub few_nodes : length seats < 2 ^ 32
