-- Waits.
use Rattle.std.specs.Prelude.{Bool, true, false}
use Rattle.gi_model.specs.declared.calls.Call.{Call}
use Rattle.gi_model.specs.declared.calls.Call.TheVariants.{Wait}

abbrev pub is_wait : Call → Bool
is_wait Wait = true
is_wait call = false
