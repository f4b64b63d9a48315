-- The refusals that are told before a payload is read, and the last ones of the table.
use Rattle.std.specs.Prelude.{◌&&◌, not, if◌then◌else◌, Option, Some, None}
use Rattle.gi_model.specs.Loads.{bad_payload}
use Rattle.gi_model.specs.State.{State}
use Rattle.gi_model.specs.Refusals.{refuses, is_over, admits, lacks_scope, is_unlisted, needs_solve, is_none_yet, lacks_model, lacks_clause}
use Rattle.gi_model.specs.History.{is_load}
use Rattle.gi_model.specs.declared.calls.Call.{Call}
use Rattle.gi_model.specs.declared.refusal.Refusal.{Refusal}
use Rattle.gi_model.specs.declared.refusal.Refusal.TheVariants as refusal

-- those of a machine that doesn't admit the call
abbrev pub unadmitted : State → Call → Option Refusal
unadmitted s call = if is_over s.life then Some refusal.Dead else if not (admits s.solve call)
    then Some refusal.Busy else None

-- these alone where there is a payload, else all of the table
abbrev pub early : State → Call → Option Refusal
early s call = if is_load call then unadmitted s call else refuses s call

-- what the call speaks of isn't there, or its payload is wrong
unfoldable pub lacking : State → Call → Option Refusal
lacking s call =
    if lacks_scope s.scopes call then Some refusal.NoScope else
    if is_unlisted s.scopes call then Some refusal.NotImplied else
    if needs_solve call && is_none_yet s.solve then Some refusal.NoSolve else
    if lacks_model s.solve call then Some refusal.NoModel else
    if lacks_clause s.known call then Some refusal.NoClause else bad_payload call
