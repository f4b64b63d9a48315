-- What a reader answers of all bytes that it was fed.
use Rattle.std.specs.Prelude.{◌≡◌, ℕ, ◌+◌, ◌⊎◌, List, Option, Some, None, Result, Ok, Err}
use Rattle.gi_levels.specs.Order.{first_cycle}
use Rattle.gi_aiger.specs.declared.aig.Aig.{Aig}
use Rattle.gi_aiger.specs.declared.fault.AigCode.TheVariants.{Cycle}
use Rattle.gi_aiger.specs.declared.fault.AigFault.{AigFault}
use Rattle.gi_aiger.specs.declared.read.AigRead.{AigRead}
use Rattle.gi_aiger.specs.declared.read.AigRead.TheVariants as reads
use Rattle.gi_aiger.specs.Files.{Told, read_file}
use Rattle.gi_aiger.specs.Levels.{HasLevels, ClosesCycle}
use Rattle.gi_aiger.specs.Places.{nodes_of}

-- what is read of what a file says: a gate that closes a cycle stands before every other fault
abbrev pub Answer : Told → Result Aig AigFault → Type 0
Answer told read = (HasLevels told.gates × (read ≡ told.read)) ⊎ ((k : ℕ) × ClosesCycle told.gates k × (read ≡ Err (record { line = told.first + k; gate = 0; code = Cycle })))

-- the same as a function: the gate that closes the first cycle is at fault, or else what was read is the answer
abbrev pub answer_by : Option ℕ → Told → Result Aig AigFault
answer_by None told = told.read
answer_by (Some k) told = Err (record { line = told.first + k; gate = 0; code = Cycle })

abbrev pub answer_to : Told → Result Aig AigFault
answer_to told = answer_by (first_cycle (nodes_of told.gates)) told

-- the value that bytes say, or their first fault
unfoldable pub read_aig : List ℕ → Result Aig AigFault
read_aig bytes = answer_to (read_file bytes)

-- it is answered, unless memory ran out
abbrev pub TellsAig : AigRead → Told → Type 0
TellsAig (reads.Aig v) told = Answer told (Ok v)
TellsAig (reads.Fault fault) told = Answer told (Err fault)
TellsAig reads.NoMemory told = Unit {0}

-- a value or a fault is answered, unless memory ran out
abbrev pub Reads : AigRead → Result Aig AigFault → Type 0
Reads (reads.Aig v) read = read ≡ Ok v
Reads (reads.Fault fault) read = read ≡ Err fault
Reads reads.NoMemory read = Unit {0}

-- a cycle is answered
abbrev pub IsCycleAt : AigRead → ℕ → Type 0
IsCycleAt (reads.Aig v) line = ⊥
IsCycleAt (reads.Fault fault) line = fault ≡ record { line = line; gate = 0; code = Cycle }
IsCycleAt reads.NoMemory line = Unit {0}
