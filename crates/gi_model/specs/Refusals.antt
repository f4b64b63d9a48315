-- The refusal table: which refusal a call meets in a state, if any.
use Rattle.std.specs.Prelude.{ℕ, ◌+◌, ◌*◌, Bool, true, false, not, ◌&&◌, ◌||◌, nat_lt, nat_le, if◌then◌else◌, Option, Some, None, List, [], ◌∷◌, length, ◌==◌}
use Rattle.std.specs.List.{list_any}
use Rattle.gi_lit.specs.Problem.{Problem, has, is_usable, is_guard_lit, as_given, lit_count, clause_count, top}
use Rattle.gi_model.specs.Limits.{most_clauses, most_lits, most_pending, most_scopes, most_solves}
use Rattle.gi_lit.specs.Literals.{max_var}
use Rattle.gi_model.specs.Loads.{loaded, file_clauses, with_file, bad_payload}
use Rattle.gi_model.specs.State.{State, Scope, Solve, no_solve, running, paused, ended, Life, alive, shut, dead, scope_listed}
use Rattle.gi_model.specs.declared.calls.Call.{Call}
use Rattle.gi_model.specs.declared.calls.Call.TheVariants.{Vars, Add, NewGuard, Under, DropGuard, Assume, Test, Untest, Reasons, Solve as Start, Pause, Resume, Stop, Poll, Wait, Model, Known, KnownClause, LoadCnf, Bye, Shut, Work}
use Rattle.gi_model.specs.declared.refusal.Refusal.{Refusal}
use Rattle.gi_model.specs.declared.refusal.Refusal.TheVariants as refusal
use Rattle.gi_model.specs.declared.replies.Verdict.TheVariants.{Sat}

-- Dead: the machine is shut, or dead for want of memory
abbrev pub is_over : Life → Bool
is_over alive = false
is_over shut = true
is_over dead = true

-- what a running solve admits
abbrev pub while_running : Call → Bool
while_running Pause = true
while_running Resume = true
while_running Stop = true
while_running Poll = true
while_running Wait = true
while_running Model = true
while_running Known = true
while_running (KnownClause i) = true
while_running (Reasons m) = true
while_running Bye = true
while_running Shut = true
while_running call = false

-- what a paused solve admits: edits of the problem besides
abbrev pub while_paused : Call → Bool
while_paused (Vars k) = true
while_paused (Add c) = true
while_paused NewGuard = true
while_paused (Under gs c) = true
while_paused (DropGuard g) = true
while_paused call = while_running call

-- Busy is the refusal of what the solve doesn't admit; without a solve and after its end everything
-- is admitted
abbrev pub admits : Solve → Call → Bool
admits (running r) call = while_running call
admits (paused r) call = while_paused call
admits no_solve call = true
admits (ended n v) call = true

-- Scoped: a guard is to be dropped while a scope is open
abbrev pub is_scoped : List Scope → Call → Bool
is_scoped scopes (DropGuard g) = nat_lt 0 (length scopes)
is_scoped scopes call = false

-- some literal is of a guard
abbrev pub some_unusable : Problem → List ℕ → Bool
some_unusable p ls = list_any (λ l. not (is_usable p l)) ls

-- Lit: a literal is neither of a problem variable nor of one that isn't there yet; Assume also
-- takes an active guard's positive one
abbrev pub has_bad_lit : Problem → Call → Bool
has_bad_lit p (Add c) = some_unusable p c
has_bad_lit p (Under gs c) = some_unusable p c
has_bad_lit p (Assume ls) = list_any (λ l. not (is_usable p l || is_guard_lit p l)) ls
has_bad_lit p (Reasons m) = not (is_usable p m)
has_bad_lit p (LoadCnf bytes) = list_any (some_unusable p) (file_clauses (loaded bytes))
has_bad_lit p call = false

-- NotGuard: a named guard isn't active
abbrev pub is_not_guard : Problem → Call → Bool
is_not_guard p (Under gs c) = list_any (λ g. not (has p.active g)) gs
is_not_guard p (DropGuard g) = not (has p.active g)
is_not_guard p call = false

-- the assumptions of a paused solve
abbrev pub paused_assumed : Solve → List ℕ
paused_assumed (paused r) = r.assumed
paused_assumed (running r) = []
paused_assumed no_solve = []
paused_assumed (ended n v) = []

-- Held: the guard to drop is a pending assumption, or one of the paused solve
abbrev pub is_held : State → Call → Bool
is_held s (DropGuard g) = has s.pending (2 * g) || has (paused_assumed s.solve) (2 * g)
is_held s call = false

-- one clause more, of these literals and with so many as given, would be too much
abbrev pub is_full : Problem → List ℕ → ℕ → Bool
is_full p c lits = nat_lt max_var (top c) || nat_lt most_clauses (clause_count p + 1)
    || nat_lt most_lits (lit_count p + lits)

-- the problem is greater than a machine may hold
abbrev pub is_past : Problem → Bool
is_past p = nat_lt max_var p.vars || nat_lt most_clauses (clause_count p)
    || nat_lt most_lits (lit_count p)

-- Limit: the call would pass a limit
abbrev pub is_beyond : State → Call → Bool
is_beyond s (Vars k) = nat_lt max_var k
is_beyond s (Add c) = is_full s.problem c (length c)
is_beyond s NewGuard = (length s.problem.freed == 0) && nat_le max_var s.problem.vars
is_beyond s (Under gs c) = is_full s.problem c (as_given (record { guards = gs; clause = c }))
is_beyond s (Assume ls) = nat_lt max_var (top ls)
    || nat_lt most_pending (length s.pending + length ls)
is_beyond s Test = nat_le most_scopes (length s.scopes)
is_beyond s (Start budget) = nat_le most_solves s.serial
is_beyond s (LoadCnf bytes) = is_past (with_file (loaded bytes) s.problem)
is_beyond s call = false

-- NoScope: no scope is open to be closed
abbrev pub lacks_scope : List Scope → Call → Bool
lacks_scope scopes Untest = length scopes == 0
lacks_scope scopes call = false

-- NotImplied: no open scope lists the literal
abbrev pub is_unlisted : List Scope → Call → Bool
is_unlisted scopes (Reasons m) = not (has (scope_listed scopes) m)
is_unlisted scopes call = false

-- the calls that speak of a solve
abbrev pub needs_solve : Call → Bool
needs_solve Pause = true
needs_solve Resume = true
needs_solve Stop = true
needs_solve Poll = true
needs_solve Wait = true
needs_solve call = false

-- NoSolve: there is no solve to speak of
abbrev pub is_none_yet : Solve → Bool
is_none_yet no_solve = true
is_none_yet (running r) = false
is_none_yet (paused r) = false
is_none_yet (ended n v) = false

-- whether the solve ended with a model
abbrev pub has_model : Solve → Bool
has_model (ended n (Sat values)) = true
has_model solve = false

-- NoModel: there is no model to tell
abbrev pub lacks_model : Solve → Call → Bool
lacks_model solve Model = not (has_model solve)
lacks_model solve call = false

-- NoClause: there is no learnt clause of that number, counted from 1
abbrev pub lacks_clause : List (List ℕ) → Call → Bool
lacks_clause known (KnownClause i) = (i == 0) || nat_lt (length known) i
lacks_clause known call = false

-- the conditions of the refusals but the last, in the order in which they are tried
abbrev pub tests : State → Call → List (Bool × Refusal)
tests s call =
    (is_over s.life, refusal.Dead)
    ∷ (not (admits s.solve call), refusal.Busy)
    ∷ (is_scoped s.scopes call, refusal.Scoped)
    ∷ (has_bad_lit s.problem call, refusal.Lit)
    ∷ (is_not_guard s.problem call, refusal.NotGuard)
    ∷ (is_held s call, refusal.Held)
    ∷ (is_beyond s call, refusal.Limit)
    ∷ (lacks_scope s.scopes call, refusal.NoScope)
    ∷ (is_unlisted s.scopes call, refusal.NotImplied)
    ∷ (needs_solve call && is_none_yet s.solve, refusal.NoSolve)
    ∷ (lacks_model s.solve call, refusal.NoModel)
    ∷ (lacks_clause s.known call, refusal.NoClause)
    ∷ []

-- the first whose condition holds, else the last
abbrev pub first_of : List (Bool × Refusal) → Option Refusal → Option Refusal
first_of [] last = last
first_of (t ∷ ts) last = if t.0 then Some t.1 else first_of ts last

abbrev pub is_work : Call → Bool
is_work (Work mark) = true
is_work call = false

-- the refusal that the state has for the call; work is never refused
unfoldable pub refuses : State → Call → Option Refusal
refuses s call = if is_work call then None else first_of (tests s call) (bad_payload call)
