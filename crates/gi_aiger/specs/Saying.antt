-- Files say values.
use Rattle.std.specs.Prelude.{◌≡◌, ℕ, List, Ok}
use Rattle.gi_aiger.specs.declared.aig.Aig.{Aig}
use Rattle.gi_aiger.specs.Files.{read_file}
use Rattle.gi_aiger.specs.Levels.{HasLevels}
use Rattle.gi_aiger.specs.Relation.{IsAscii, IsAig}
use Rattle.gi_aiger.specs.Texts.{ascii_text}
use Rattle.gi_aiger.specs.Good.{IsGood}
use Rattle.gi_aiger.specs.declared.read.AigRead.{AigRead}
use Rattle.gi_aiger.specs.declared.read.AigRead.TheVariants as reads

-- a value that a file says is read
abbrev pub SaidIsRead : Type 0
SaidIsRead = (v : Aig) (bytes : List ℕ) → IsAig v bytes → (read_file bytes).read ≡ Ok v

-- a value that is read is what the file says, if its gates have no cycles
abbrev pub ReadIsSaid : Type 0
ReadIsSaid = (v : Aig) (bytes : List ℕ) → (read_file bytes).read ≡ Ok v → HasLevels v.gates → IsAig v bytes

-- a value that is answered is what the file says, and where a fault is answered it says none
abbrev pub IsSaid : AigRead → List ℕ → Type 0
IsSaid (reads.Aig v) bytes = IsAig v bytes
IsSaid (reads.Fault fault) bytes = (v : Aig) → IsAig v bytes → ⊥
IsSaid reads.NoMemory bytes = Unit {0}

-- what is written of a value that some file says, says the value
abbrev pub WrittenIsSaid : Type 0
WrittenIsSaid = (v : Aig) → IsGood v → IsAscii v (ascii_text v)

-- and is read as it
abbrev pub WrittenIsRead : Type 0
WrittenIsRead = (v : Aig) → IsGood v → (read_file (ascii_text v)).read ≡ Ok v

-- what a file says is written, read, and written again as the same bytes
abbrev pub WrittenAgain : Type 0
WrittenAgain = (v w : Aig) (bytes : List ℕ) → IsAig v bytes → (read_file (ascii_text v)).read ≡ Ok w → ascii_text w ≡ ascii_text v

-- only good values are said
abbrev pub SaidIsGood : Type 0
SaidIsGood = (v : Aig) (bytes : List ℕ) → IsAig v bytes → IsGood v
