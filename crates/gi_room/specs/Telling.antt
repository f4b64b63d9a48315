-- An entry as lists of numbers, and read back from them. This is of proofs alone: nothing of it is
-- computed where the program runs.
use Rattle.std.specs.Prelude.{ℕ, Bool, true, false, if◌then◌else◌, List, [], ◌∷◌, map, ◌==◌}
use Rattle.gi_dimacs.specs.declared.fault.CnfCode.TheVariants as code
use Rattle.gi_model.specs.declared.calls.Call.{Call}
use Rattle.gi_model.specs.declared.calls.Call.TheVariants as call
use Rattle.gi_model.specs.declared.replies.Reply.{Reply}
use Rattle.gi_model.specs.declared.replies.Reply.TheVariants as reply
use Rattle.gi_model.specs.declared.replies.Status.{Status}
use Rattle.gi_model.specs.declared.replies.Status.TheVariants as status
use Rattle.gi_model.specs.declared.replies.Why.TheVariants as why
use Rattle.gi_model.specs.declared.replies.Now.{Now}
use Rattle.gi_model.specs.declared.replies.Now.TheVariants as now
use Rattle.gi_model.specs.declared.replies.Verdict.TheVariants as verdict
use Rattle.gi_model.specs.declared.replies.Cause.TheVariants as cause
use Rattle.gi_model.specs.declared.refusal.Refusal.{Refusal}
use Rattle.gi_model.specs.declared.refusal.Refusal.TheVariants as refusal
use Rattle.gi_model.specs.declared.refusal.PayloadCode.{PayloadCode}
use Rattle.gi_model.specs.declared.refusal.PayloadCode.TheVariants as payload

-- what a value is told as: which of its type it is, three numbers, a list, and a list of lists
pub record Tale : Type 0 where
  pub kind : ℕ
  pub one : ℕ
  pub two : ℕ
  pub three : ℕ
  pub row : List ℕ
  pub rows : List (List ℕ)

-- of a kind alone; with a number; with a list; with a number and a list
abbrev pub plain : ℕ → Tale
plain k = record { kind = k; one = 0; two = 0; three = 0; row = []; rows = [] }

abbrev pub number : ℕ → ℕ → Tale
number k n = record { kind = k; one = n; two = 0; three = 0; row = []; rows = [] }

abbrev pub listed : ℕ → ℕ → List ℕ → Tale
listed k n ns = record { kind = k; one = n; two = 0; three = 0; row = ns; rows = [] }

-- calls
abbrev pub call_tale : Call → Tale
call_tale (call.Vars n) = number 0 n
call_tale (call.Add c) = listed 1 0 c
call_tale call.NewGuard = plain 2
call_tale (call.Under gs c) = listed 3 0 c
call_tale (call.DropGuard g) = number 4 g
call_tale (call.Assume ls) = listed 5 0 ls
call_tale call.Test = plain 6
call_tale call.Untest = plain 7
call_tale (call.Reasons m) = number 8 m
call_tale (call.Solve b) = number 9 b
call_tale call.Pause = plain 10
call_tale call.Resume = plain 11
call_tale call.Stop = plain 12
call_tale call.Poll = plain 13
call_tale call.Wait = plain 14
call_tale call.Model = plain 15
call_tale call.Known = plain 16
call_tale (call.KnownClause i) = number 17 i
call_tale (call.LoadCnf bytes) = listed 18 0 bytes
call_tale call.Bye = plain 19
call_tale call.Shut = plain 20
call_tale (call.Work mark) = number 21 mark

-- the list of guards that a call has beside its other one
abbrev pub call_guards : Call → List ℕ
call_guards (call.Under gs c) = gs
call_guards other = []

abbrev pub call_at : ℕ → List ℕ → Tale → Call
call_at k guards t =
    if k == 0 then call.Vars t.one else
    if k == 1 then call.Add t.row else
    if k == 2 then call.NewGuard else
    if k == 3 then call.Under guards t.row else
    if k == 4 then call.DropGuard t.one else
    if k == 5 then call.Assume t.row else
    if k == 6 then call.Test else
    if k == 7 then call.Untest else
    if k == 8 then call.Reasons t.one else
    if k == 9 then call.Solve t.one else
    if k == 10 then call.Pause else
    if k == 11 then call.Resume else
    if k == 12 then call.Stop else
    if k == 13 then call.Poll else
    if k == 14 then call.Wait else
    if k == 15 then call.Model else
    if k == 16 then call.Known else
    if k == 17 then call.KnownClause t.one else
    if k == 18 then call.LoadCnf t.row else
    if k == 19 then call.Bye else
    if k == 20 then call.Shut else call.Work t.one

-- refusals, of which one has three numbers
abbrev pub code_number : PayloadCode → ℕ
code_number (payload.Cnf code.Header) = 0
code_number (payload.Cnf code.Word) = 1
code_number (payload.Cnf code.Number) = 2
code_number (payload.Cnf code.Limit) = 3
code_number (payload.Cnf code.Unterminated) = 4

abbrev pub code_at : ℕ → PayloadCode
code_at n =
    if n == 0 then payload.Cnf code.Header else
    if n == 1 then payload.Cnf code.Word else
    if n == 2 then payload.Cnf code.Number else
    if n == 3 then payload.Cnf code.Limit else payload.Cnf code.Unterminated

abbrev pub refusal_tale : Refusal → Tale
refusal_tale refusal.Syntax = plain 30
refusal_tale refusal.Long = plain 31
refusal_tale refusal.Dead = plain 32
refusal_tale refusal.Busy = plain 33
refusal_tale refusal.Scoped = plain 34
refusal_tale refusal.Lit = plain 35
refusal_tale refusal.NotGuard = plain 36
refusal_tale refusal.Held = plain 37
refusal_tale refusal.Limit = plain 38
refusal_tale refusal.NoScope = plain 39
refusal_tale refusal.NotImplied = plain 40
refusal_tale refusal.NoSolve = plain 41
refusal_tale refusal.NoModel = plain 42
refusal_tale refusal.NoClause = plain 43
refusal_tale (refusal.Payload line gate c) =
    record (plain 44) { one = line; two = gate; three = code_number c }

abbrev pub refusal_at : ℕ → Tale → Refusal
refusal_at k t =
    if k == 30 then refusal.Syntax else
    if k == 31 then refusal.Long else
    if k == 32 then refusal.Dead else
    if k == 33 then refusal.Busy else
    if k == 34 then refusal.Scoped else
    if k == 35 then refusal.Lit else
    if k == 36 then refusal.NotGuard else
    if k == 37 then refusal.Held else
    if k == 38 then refusal.Limit else
    if k == 39 then refusal.NoScope else
    if k == 40 then refusal.NotImplied else
    if k == 41 then refusal.NoSolve else
    if k == 42 then refusal.NoModel else
    if k == 43 then refusal.NoClause else refusal.Payload t.one t.two (code_at t.three)

-- truth values as numbers
abbrev pub bit : Bool → ℕ
bit true = 1
bit false = 0

abbrev pub bit_at : ℕ → Bool
bit_at n = n == 1

-- replies
abbrev pub status_tale : ℕ → Status → Tale
status_tale s (status.Running n) = record (number 7 s) { two = n }
status_tale s (status.Paused n) = record (number 8 s) { two = n }
status_tale s status.Sat = number 9 s
status_tale s status.Unsat = number 10 s
status_tale s (status.Unknown why.Budget) = number 11 s
status_tale s (status.Unknown why.Stopped) = number 12 s

abbrev pub worked_tale : List (List ℕ) → Now → Tale
worked_tale news now.Live = record (plain 20) { rows = news }
worked_tale news (now.Ended (verdict.Sat values)) =
    record (listed 21 0 (map bit values)) { rows = news }
worked_tale news (now.Ended (verdict.Unsat w)) = record (listed 22 0 w) { rows = news }
worked_tale news (now.Ended (verdict.Unknown (cause.Stopped mark))) =
    record (number 23 mark) { rows = news }
worked_tale news (now.Ended (verdict.Unknown (cause.Budget b))) =
    record (number 24 b) { rows = news }

abbrev pub reply_tale : Reply → Tale
reply_tale reply.Done = plain 0
reply_tale (reply.Vars n) = number 1 n
reply_tale (reply.Guard g) = number 2 g
reply_tale (reply.Implied ls) = listed 3 0 ls
reply_tale (reply.Failed ls) = listed 4 0 ls
reply_tale (reply.Reasons ls) = listed 5 0 ls
reply_tale (reply.Started s) = number 6 s
reply_tale (reply.Status s t) = status_tale s t
reply_tale (reply.Unsat s ls) = listed 13 s ls
reply_tale (reply.Model ls) = listed 14 0 ls
reply_tale (reply.Known n) = number 15 n
reply_tale (reply.Clause ls) = listed 16 0 ls
reply_tale (reply.LoadedCnf v c) = record (number 17 v) { two = c }
reply_tale reply.Bye = plain 18
reply_tale reply.Idle = plain 19
reply_tale (reply.Worked news n) = worked_tale news n
reply_tale reply.NoMemory = plain 25
reply_tale reply.Spent = plain 26
reply_tale (reply.Refused r) = refusal_tale r

abbrev pub reply_at : ℕ → Tale → Reply
reply_at k t =
    if k == 0 then reply.Done else
    if k == 1 then reply.Vars t.one else
    if k == 2 then reply.Guard t.one else
    if k == 3 then reply.Implied t.row else
    if k == 4 then reply.Failed t.row else
    if k == 5 then reply.Reasons t.row else
    if k == 6 then reply.Started t.one else
    if k == 7 then reply.Status t.one (status.Running t.two) else
    if k == 8 then reply.Status t.one (status.Paused t.two) else
    if k == 9 then reply.Status t.one status.Sat else
    if k == 10 then reply.Status t.one status.Unsat else
    if k == 11 then reply.Status t.one (status.Unknown why.Budget) else
    if k == 12 then reply.Status t.one (status.Unknown why.Stopped) else
    if k == 13 then reply.Unsat t.one t.row else
    if k == 14 then reply.Model t.row else
    if k == 15 then reply.Known t.one else
    if k == 16 then reply.Clause t.row else
    if k == 17 then reply.LoadedCnf t.one t.two else
    if k == 18 then reply.Bye else
    if k == 19 then reply.Idle else
    if k == 20 then reply.Worked t.rows now.Live else
    if k == 21 then reply.Worked t.rows (now.Ended (verdict.Sat (map bit_at t.row))) else
    if k == 22 then reply.Worked t.rows (now.Ended (verdict.Unsat t.row)) else
    if k == 23 then reply.Worked t.rows (now.Ended (verdict.Unknown (cause.Stopped t.one))) else
    if k == 24 then reply.Worked t.rows (now.Ended (verdict.Unknown (cause.Budget t.one))) else
    if k == 25 then reply.NoMemory else
    if k == 26 then reply.Spent else reply.Refused (refusal_at k t)

-- a tale as lists
abbrev pub lists_of : Tale → List (List ℕ)
lists_of t = (t.kind ∷ t.one ∷ t.two ∷ t.three ∷ []) ∷ t.row ∷ t.rows

abbrev pub tale_at : List (List ℕ) → Tale
tale_at ((k ∷ a ∷ b ∷ c ∷ []) ∷ row ∷ rows) =
    record { kind = k; one = a; two = b; three = c; row = row; rows = rows }
tale_at other = plain 0

-- an entry: its call, which has one number and two lists, and then its reply
unfoldable pub told_of : Call → Reply → List (List ℕ)
told_of c r = (let t = call_tale c in (t.kind ∷ t.one ∷ []) ∷ t.row ∷ call_guards c
    ∷ lists_of (reply_tale r))

unfoldable pub call_in : List (List ℕ) → Call
call_in ((k ∷ n ∷ []) ∷ row ∷ guards ∷ rest) = call_at k guards (listed k n row)
call_in other = call.Bye

unfoldable pub reply_in : List (List ℕ) → Reply
reply_in (head ∷ row ∷ guards ∷ rest) = let t = tale_at rest in reply_at t.kind t
reply_in other = reply.Spent
