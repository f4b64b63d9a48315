-- What a file that was read makes of a machine.
use Rattle.std.specs.Prelude.{◌≡◌, ℕ, true, None, List}
use Rattle.gi_dimacs.specs.Relation.{IsCnf}
use Rattle.gi_dimacs.specs.declared.cnf.Cnf.{Cnf}
use Rattle.gi_model.specs.Early.{early}
use Rattle.gi_model.specs.Fits.{fits}
use Rattle.gi_model.specs.declared.calls.Call.TheVariants.{LoadCnf}
use Rattle.gi_model.specs.declared.replies.Reply.{Reply}
use Rattle.gi_core.specs.View.{state_of, Moves}
use Rattle.gi_core.specs.declared.machine.Machine.{Machine}

-- an admitted load of any bytes that say the file
abbrev pub TakesFile : Machine → Cnf → Reply → Machine → Type 0
TakesFile old file answer new = (bytes : List ℕ) → IsCnf file bytes → fits (LoadCnf bytes) ≡ true
    → early (state_of old) (LoadCnf bytes) ≡ None → Moves old (LoadCnf bytes) answer new
