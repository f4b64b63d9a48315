-- What is known of a door.
use Rattle.std.specs.Prelude.{ℕ, Bool, List, Option}

pub record DoorState (L : Type 0) : Type 0 where
  pub faults : ℕ
  -- whether it has answered Closed
  pub ended : Bool
  -- how many links came in and were not hung up, where that is told
  pub out : Option ℕ
  -- the links that were hung up, in order, where they are told
  pub hung : Option (List L)
