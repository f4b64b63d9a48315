-- What is read of a link's input.
use Rattle.std.specs.Prelude.{◌≡◌, ℕ, ◌+◌, ◌^◌, ◌<◌, ◌≤◌, true, List, length, map, IfSome}
use Rattle.std.specs.List.{flat_map}
use Rattle.gi_outside.specs.Link.{Rose}
use Rattle.gi_outside.specs.Told.{Adds, Takes}
use Rattle.gi_outside.specs.World.{World}
use Rattle.gi_outside.specs.declared.link.Piece.TheVariants.{In}
use Rattle.gi_dimacs.specs.Answers.{IsFault}
use Rattle.gi_dimacs.specs.Content.{File}
use Rattle.gi_dimacs.specs.Relation.{IsFile}
use Rattle.gi_dimacs.specs.declared.content.Format.{Format}
use Rattle.gi_files.specs.declared.reading.FileInput.{FileInput}
use Rattle.gi_files.specs.declared.reading.FileInput.TheVariants as input

-- a link gave these bytes, in some pieces, and nothing was written
pub record Gave (old new : World) (bytes : List ℕ) : Type 0 where
  pub pieces : List (List ℕ)
  pub joined : flat_map (λ piece. piece) pieces ≡ bytes
  pub tape : Adds old.tape new.tape (map In pieces)
  pub rest : Takes old.rest new.rest bytes
  pub reads : old.failed_reads ≤ new.failed_reads
  pub writes : new.failed_writes ≡ old.failed_writes

-- the bytes are the whole input: the link has ended, and they are all that it held
pub record IsAll (old new : World) (bytes : List ℕ) : Type 0 where
  pub ended : new.ended ≡ true
  pub all : IfSome old.rest (λ held. held ≡ bytes)

-- so many bytes that no more are read
abbrev pub AreTooMany : List ℕ → Type 0
AreTooMany bytes = 2 ^ 62 ≤ length bytes

-- no more bytes than those and one read's
abbrev pub AreBounded : List ℕ → Type 0
AreBounded bytes = length bytes < 2 ^ 62 + 4096

-- what the answer says of the bytes that came
abbrev pub IsInput : {V : Type 0} → Format → (V → File) → FileInput V → World → World → List ℕ
    → Type 0
IsInput format file (input.Value v) old new bytes = IsAll old new bytes × IsFile (file v) bytes
IsInput format file (input.Refused fault) old new bytes = IsAll old new bytes
    × IsFault format fault bytes
IsInput format file input.NoMemory old new bytes = Unit {0}
IsInput format file input.ReadFault old new bytes = Rose old.failed_reads new.failed_reads
IsInput format file input.TooMuch old new bytes = AreTooMany bytes

-- bytes came, and the answer is about them
pub record Reads {V : Type 0} (format : Format) (file : V → File) (answer : FileInput V)
    (old new : World) : Type 0 where
  pub bytes : List ℕ
  pub gave : Gave old new bytes
  pub bounded : AreBounded bytes
  pub is : IsInput format file answer old new bytes
