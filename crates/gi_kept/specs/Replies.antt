-- Which answers a call can have.
use Rattle.std.specs.Prelude.{Bool, true, false}
use Rattle.gi_model.specs.declared.calls.Call.{Call}
use Rattle.gi_model.specs.declared.calls.Call.TheVariants as calls
use Rattle.gi_model.specs.declared.refusal.PayloadCode.TheVariants.{Cnf}
use Rattle.gi_model.specs.declared.refusal.Refusal.{Refusal}
use Rattle.gi_model.specs.declared.refusal.Refusal.TheVariants as refusal
use Rattle.gi_model.specs.declared.replies.Reply.{Reply}
use Rattle.gi_model.specs.declared.replies.Reply.TheVariants as reply

abbrev pub is_done : Reply → Bool
is_done reply.Done = true
is_done other = false

abbrev pub tells_vars : Reply → Bool
tells_vars (reply.Vars n) = true
tells_vars other = false

abbrev pub tells_guard : Reply → Bool
tells_guard (reply.Guard g) = true
tells_guard other = false

-- of a test
abbrev pub tells_test : Reply → Bool
tells_test (reply.Implied ls) = true
tells_test (reply.Failed ls) = true
tells_test other = false

abbrev pub tells_reasons : Reply → Bool
tells_reasons (reply.Reasons ls) = true
tells_reasons other = false

abbrev pub tells_start : Reply → Bool
tells_start (reply.Started serial) = true
tells_start other = false

-- how a solve stands, in each form
abbrev pub tells_status : Reply → Bool
tells_status (reply.Status serial status) = true
tells_status other = false

-- the same, and the failing assumptions
abbrev pub tells_end : Reply → Bool
tells_end (reply.Status serial status) = true
tells_end (reply.Unsat serial failed) = true
tells_end other = false

abbrev pub tells_model : Reply → Bool
tells_model (reply.Model ls) = true
tells_model other = false

abbrev pub tells_known : Reply → Bool
tells_known (reply.Known n) = true
tells_known other = false

abbrev pub tells_clause : Reply → Bool
tells_clause (reply.Clause ls) = true
tells_clause other = false

abbrev pub tells_load : Reply → Bool
tells_load (reply.LoadedCnf vars clauses) = true
tells_load other = false

abbrev pub is_bye : Reply → Bool
is_bye reply.Bye = true
is_bye other = false

-- the answer to a call that was accepted
abbrev pub is_own : Call → Reply → Bool
is_own (calls.Vars n) answer = tells_vars answer
is_own (calls.Add c) answer = is_done answer
is_own calls.NewGuard answer = tells_guard answer
is_own (calls.Under gs c) answer = is_done answer
is_own (calls.DropGuard g) answer = is_done answer
is_own (calls.Assume ls) answer = is_done answer
is_own calls.Test answer = tells_test answer
is_own calls.Untest answer = is_done answer
is_own (calls.Reasons l) answer = tells_reasons answer
is_own (calls.Solve budget) answer = tells_start answer
is_own calls.Pause answer = tells_status answer
is_own calls.Resume answer = tells_status answer
is_own calls.Stop answer = tells_status answer
is_own calls.Poll answer = tells_status answer
is_own calls.Wait answer = tells_end answer
is_own calls.Model answer = tells_model answer
is_own calls.Known answer = tells_known answer
is_own (calls.KnownClause i) answer = tells_clause answer
is_own (calls.LoadCnf bytes) answer = tells_load answer
is_own calls.Bye answer = is_bye answer
is_own calls.Shut answer = false
is_own (calls.Work mark) answer = false

-- a payload is refused of a load alone, with a code of its own format
abbrev pub has_payload : Call → Bool
has_payload (calls.LoadCnf bytes) = true
has_payload other = false

abbrev pub may_refuse : Call → Refusal → Bool
may_refuse call (refusal.Payload line gate (Cnf code)) = has_payload call
may_refuse call other = true

-- a call can have its own answers, each refusal, and want of memory
unfoldable pub may_answer : Call → Reply → Bool
may_answer call (reply.Refused r) = may_refuse call r
may_answer call reply.NoMemory = true
may_answer call answer = is_own call answer
