use Rattle.std.specs.Prelude.{ℕ}
use Rattle.gi_model.specs.declared.refusal.Refusal.{Refusal}
use Rattle.gi_model.specs.declared.refusal.Refusal.TheVariants.{Syntax, Long, Dead, Busy, Scoped, Lit, NotGuard, Held, Limit, NoScope, NotImplied, NoSolve, NoModel, NoClause, Payload}

-- the refusals in the order in which their conditions are tried, but that Long goes before Syntax
abbrev pub refusal_number : Refusal → ℕ
refusal_number Syntax = 1
refusal_number Long = 2
refusal_number Dead = 3
refusal_number Busy = 4
refusal_number Scoped = 5
refusal_number Lit = 6
refusal_number NotGuard = 7
refusal_number Held = 8
refusal_number Limit = 9
refusal_number NoScope = 10
refusal_number NotImplied = 11
refusal_number NoSolve = 12
refusal_number NoModel = 13
refusal_number NoClause = 14
refusal_number (Payload line gate code) = 16
