-- What is known of a dial.
use Rattle.std.specs.Prelude.{ℕ, ◌<◌, ◌≤◌, List, length, Option, IfSome}

pub record DialState (L : Type 0) : Type 0 where
  pub faults : ℕ
  -- how many links it gave, where that is told
  pub given : Option ℕ
  -- the links that were hung up, in order, where they are told
  pub hung : Option (List L)

-- of the links that it gave not all were hung up, where that is told
abbrev pub HasLinkOut : {L : Type 0} → DialState L → Type 0
HasLinkOut d = IfSome d.given (λ given. IfSome d.hung (λ links. length links < given))

-- no more were hung up than it gave, where that is told
abbrev pub HungWereGiven : {L : Type 0} → DialState L → Type 0
HungWereGiven d = IfSome d.given (λ given. IfSome d.hung (λ links. length links ≤ given))
