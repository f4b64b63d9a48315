use Rattle.std.specs.Prelude.{Bool, true, false, not, nat_lt, nat_le, length, ◌==◌}
use Rattle.gi_model.specs.Limits.{most_payload}
use Rattle.gi_model.specs.declared.calls.Call.{Call}
use Rattle.gi_model.specs.declared.calls.Call.TheVariants.{Under, Solve, LoadCnf, Work}

-- a call that a caller may make: a group has a guard, a solve has a budget, a payload isn't too
-- long, and work is the machine's own
abbrev pub fits : Call → Bool
fits (Under gs c) = nat_lt 0 (length gs)
fits (Solve budget) = not (budget == 0)
fits (LoadCnf bytes) = nat_le (length bytes) most_payload
fits (Work mark) = false
fits call = true
