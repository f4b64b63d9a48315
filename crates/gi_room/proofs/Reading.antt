-- What an entry tells can be read back.
use Rattle.std.proofs.Common.{◌≡◌, ℕ, Bool, true, false, List, [], ◌∷◌, map, refl, ap}
use Rattle.gi_dimacs.specs.declared.fault.CnfCode.TheVariants as code
use Rattle.gi_model.specs.declared.calls.Call.{Call}
use Rattle.gi_model.specs.declared.calls.Call.TheVariants as call
use Rattle.gi_model.specs.declared.replies.Reply.{Reply}
use Rattle.gi_model.specs.declared.replies.Reply.TheVariants as reply
use Rattle.gi_model.specs.declared.replies.Status.{Status}
use Rattle.gi_model.specs.declared.replies.Status.TheVariants as status
use Rattle.gi_model.specs.declared.replies.Why.TheVariants as why
use Rattle.gi_model.specs.declared.replies.Now.{Now}
use Rattle.gi_model.specs.declared.replies.Now.TheVariants as now
use Rattle.gi_model.specs.declared.replies.Verdict.TheVariants as verdict
use Rattle.gi_model.specs.declared.replies.Cause.TheVariants as cause
use Rattle.gi_model.specs.declared.refusal.Refusal.{Refusal}
use Rattle.gi_model.specs.declared.refusal.Refusal.TheVariants as refusal
use Rattle.gi_model.specs.declared.refusal.PayloadCode.{PayloadCode}
use Rattle.gi_model.specs.declared.refusal.PayloadCode.TheVariants as payload
use Rattle.gi_room.specs.Telling.{code_number, code_at, refusal_tale, bit, bit_at, status_tale, worked_tale, reply_tale, reply_at, told_of, call_in, reply_in}

pub read_call : (c : Call) (r : Reply) → call_in (told_of c r) ≡ c
unfolding told_of call_in
read_call (call.Vars n) r = refl
read_call (call.Add c) r = refl
read_call call.NewGuard r = refl
read_call (call.Under gs c) r = refl
read_call (call.DropGuard g) r = refl
read_call (call.Assume ls) r = refl
read_call call.Test r = refl
read_call call.Untest r = refl
read_call (call.Reasons m) r = refl
read_call (call.Solve b) r = refl
read_call call.Pause r = refl
read_call call.Resume r = refl
read_call call.Stop r = refl
read_call call.Poll r = refl
read_call call.Wait r = refl
read_call call.Model r = refl
read_call call.Known r = refl
read_call (call.KnownClause i) r = refl
read_call (call.LoadCnf bytes) r = refl
read_call call.Bye r = refl
read_call call.Shut r = refl
read_call (call.Work mark) r = refl

bits_back : (bs : List Bool) → map bit_at (map bit bs) ≡ bs
bits_back [] = refl
bits_back (true ∷ bs) = ap (λ xs. true ∷ xs) (bits_back bs)
bits_back (false ∷ bs) = ap (λ xs. false ∷ xs) (bits_back bs)

code_back : (c : PayloadCode) → code_at (code_number c) ≡ c
code_back (payload.Cnf code.Header) = refl
code_back (payload.Cnf code.Word) = refl
code_back (payload.Cnf code.Number) = refl
code_back (payload.Cnf code.Limit) = refl
code_back (payload.Cnf code.Unterminated) = refl

refusal_back : (x : Refusal) → reply_at (refusal_tale x).kind (refusal_tale x) ≡ reply.Refused x
refusal_back refusal.Syntax = refl
refusal_back refusal.Long = refl
refusal_back refusal.Dead = refl
refusal_back refusal.Busy = refl
refusal_back refusal.Scoped = refl
refusal_back refusal.Lit = refl
refusal_back refusal.NotGuard = refl
refusal_back refusal.Held = refl
refusal_back refusal.Limit = refl
refusal_back refusal.NoScope = refl
refusal_back refusal.NotImplied = refl
refusal_back refusal.NoSolve = refl
refusal_back refusal.NoModel = refl
refusal_back refusal.NoClause = refl
refusal_back (refusal.Payload line gate c) = ap (λ k. reply.Refused (refusal.Payload line gate k)) (code_back c)

status_back : (s : ℕ) (t : Status) → reply_at (status_tale s t).kind (status_tale s t) ≡ reply.Status s t
status_back s (status.Running n) = refl
status_back s (status.Paused n) = refl
status_back s status.Sat = refl
status_back s status.Unsat = refl
status_back s (status.Unknown why.Budget) = refl
status_back s (status.Unknown why.Stopped) = refl

worked_back : (news : List (List ℕ)) (n : Now) → reply_at (worked_tale news n).kind (worked_tale news n) ≡ reply.Worked news n
worked_back news now.Live = refl
worked_back news (now.Ended (verdict.Sat values)) = ap (λ vs. reply.Worked news (now.Ended (verdict.Sat vs))) (bits_back values)
worked_back news (now.Ended (verdict.Unsat w)) = refl
worked_back news (now.Ended (verdict.Unknown (cause.Stopped mark))) = refl
worked_back news (now.Ended (verdict.Unknown (cause.Budget b))) = refl

reply_back : (r : Reply) → reply_at (reply_tale r).kind (reply_tale r) ≡ r
reply_back reply.Done = refl
reply_back (reply.Vars n) = refl
reply_back (reply.Guard g) = refl
reply_back (reply.Implied ls) = refl
reply_back (reply.Failed ls) = refl
reply_back (reply.Reasons ls) = refl
reply_back (reply.Started s) = refl
reply_back (reply.Status s t) = status_back s t
reply_back (reply.Unsat s ls) = refl
reply_back (reply.Model ls) = refl
reply_back (reply.Known n) = refl
reply_back (reply.Clause ls) = refl
reply_back (reply.LoadedCnf v c) = refl
reply_back reply.Bye = refl
reply_back reply.Idle = refl
reply_back (reply.Worked news n) = worked_back news n
reply_back reply.NoMemory = refl
reply_back reply.Spent = refl
reply_back (reply.Refused x) = refusal_back x

pub read_reply : (c : Call) (r : Reply) → reply_in (told_of c r) ≡ r
unfolding told_of reply_in
read_reply c r = reply_back r
