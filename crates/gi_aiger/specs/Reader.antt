-- What a reader of pieces has before it.
use Rattle.std.specs.Prelude.{◌≡◌, ℕ, Bool, List, ◌++◌}
use Rattle.gi_aiger.specs.declared.machine.Machine.{Machine}
use Rattle.gi_aiger.specs.Files.{Told, read_file}
use Rattle.gi_aiger.specs.Machine.{run, answer}

-- a reader: its machine, and whether memory has failed it
pub record Reading : Type 0 where
  pub machine : Machine
  pub broken : Bool

-- what is read where so many more bytes come
unfoldable pub reads : Reading → List ℕ → Told
reads r more = answer (run r.machine more)

-- the reader has been fed these bytes: whatever comes, it is read behind them
pub record HasRead (r : Reading) (bytes : List ℕ) : Type 0 where
  pub each : (more : List ℕ) → reads r more ≡ read_file (bytes ++ more)
