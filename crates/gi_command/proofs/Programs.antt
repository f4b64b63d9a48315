-- The program's command line is a simple one.
use Rattle.std.proofs.Common.{◌≡◌, ◌≢◌, inl, inr, List, [], ◌∷◌, None, true, refl}
use Rattle.clap.specs.Faults.{is_simple_and_free}
use Rattle.clap.specs.Kinds.{HasKind, Kinds}
use Rattle.clap.specs.Simple.{is_simple}
use Rattle.clap.specs.Values.{kind_of}
use Rattle.clap.specs.Walk.{Row}
use Rattle.clap.specs.declared.error.Error.{Error}
use Rattle.clap.specs.declared.error.kind.ErrorKind.TheVariants.{OutOfMemory}
use Rattle.gi_command.specs.Parsing.{program, rows_unless}

pub simple : is_simple program ≡ true
unfolding program
simple = refl

pub free : is_simple_and_free program ≡ true
unfolding program
free = refl

-- an error that isn't want of memory has a kind, so there are faults
pub faulty : (kinds : Kinds) (e : Error) (rows : List Row) → HasKind kinds e → kind_of e ≢ OutOfMemory → None ≡ rows_unless kinds rows
faulty [] e rows (inl memory) other = absurd (other memory)
faulty [] e rows (inr among) other = absurd among
faulty (k ∷ ks) e rows has other = refl
