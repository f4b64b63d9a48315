-- What is known of a caller.
use Rattle.std.specs.Prelude.{ℕ, List}
use Rattle.gi_model.specs.History.{Entry}

pub record Standing : Type 0 where
  -- its number among the callers
  pub number : ℕ
  -- the history that it has seen
  pub history : List Entry
  -- how many entries it may still make
  pub left : ℕ
