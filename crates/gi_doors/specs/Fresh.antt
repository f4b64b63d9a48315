-- What is known of a link that a door or a dial gives.
use Rattle.std.specs.Prelude.{◌≡◌, [], IfSome}
use Rattle.gi_outside.specs.World.{World}

-- nothing has gone through it, and nothing has failed
pub record IsFresh (w : World) : Type 0 where
  pub reads : w.failed_reads ≡ 0
  pub writes : w.failed_writes ≡ 0
  pub tape : IfSome w.tape (λ pieces. pieces ≡ [])
