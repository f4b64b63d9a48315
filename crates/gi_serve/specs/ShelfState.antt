-- What is known of a shelf.
use Rattle.std.specs.Prelude.{ℕ, List, Option}
use Rattle.gi_room.specs.Seen.{Seen}

pub record ShelfState : Type 0 where
  -- the passes that were put on it, in order, where they are told
  pub shelved : Option (List Seen)
  -- how many passes found no place there
  pub lost : ℕ
