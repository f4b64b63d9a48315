-- What is known of a link, and what writing does to it.
use Rattle.std.specs.Prelude.{◌≡◌, ℕ, ◌≤◌, ◌<◌, Bool, List, ◌++◌, length, map, Option}
use Rattle.std.specs.List.{flat_map}
use Rattle.gi_outside.specs.Link.{Rose}
use Rattle.gi_outside.specs.Told.{Adds}
use Rattle.gi_outside.specs.declared.link.Piece.{Piece}
use Rattle.gi_outside.specs.declared.link.Piece.TheVariants.{Out}

pub record World : Type 0 where
  -- the pieces so far, where they are told
  pub tape : Option (List Piece)
  -- the bytes still to come, where they are told
  pub rest : Option (List ℕ)
  pub failed_reads : ℕ
  pub failed_writes : ℕ
  -- whether the last read answered End
  pub ended : Bool

-- these bytes were written, in some pieces, and nothing was read
pub record Wrote (old new : World) (bytes : List ℕ) : Type 0 where
  pub pieces : List (List ℕ)
  pub joined : flat_map (λ piece. piece) pieces ≡ bytes
  pub tape : Adds old.tape new.tape (map Out pieces)
  pub rest : new.rest ≡ old.rest
  pub ended : new.ended ≡ old.ended
  pub reads : new.failed_reads ≡ old.failed_reads
  pub writes : old.failed_writes ≤ new.failed_writes

-- a front of a text that lacks at least its last byte
abbrev pub IsCutFrom : List ℕ → List ℕ → Type 0
IsCutFrom front text = (missing : List ℕ) × (0 < length missing) × (front ++ missing ≡ text)

-- such a front of the text was written, and a write has failed
pub record WroteCut (old new : World) (text : List ℕ) : Type 0 where
  pub sent : List ℕ
  pub wrote : Wrote old new sent
  pub cut : IsCutFrom sent text
  pub cause : Rose old.failed_writes new.failed_writes
