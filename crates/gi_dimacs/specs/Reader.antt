-- What a reader of pieces has before it.
use Rattle.std.specs.Prelude.{◌≡◌, ℕ, ◌⊎◌, Bool, true, List, ◌++◌, Result}
use Rattle.gi_dimacs.specs.declared.fault.CnfFault.{CnfFault}
use Rattle.gi_dimacs.specs.declared.content.Format.{Format}
use Rattle.gi_dimacs.specs.declared.machine.Machine.{Machine}
use Rattle.gi_dimacs.specs.Content.{File}
use Rattle.gi_dimacs.specs.Files.{read_file}
use Rattle.gi_dimacs.specs.Machine.{LacksMemory, run, answer}

-- a reader: its machine, and whether memory has failed it
pub record Reading : Type 0 where
  pub machine : Machine
  pub broken : Bool

-- what is read where so many more bytes come
unfoldable pub reads : Reading → List ℕ → Result File CnfFault
reads r more = answer (run r.machine more)

-- the reader has been fed these bytes of a file: whatever comes, it is read behind them
pub record HasRead (format : Format) (r : Reading) (bytes : List ℕ) : Type 0 where
  pub each : (more : List ℕ) → reads r more ≡ read_file format (bytes ++ more)

-- memory may be wanting at the end: it has failed the reader before, or is asked for now
abbrev pub WantsMemory : Reading → Type 0
WantsMemory r = (r.broken ≡ true) ⊎ LacksMemory r.machine
