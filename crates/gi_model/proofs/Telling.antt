-- The entries alone tell what was learnt and spent.
use Rattle.std.proofs.Common.{◌≡◌, ℕ, ◌+◌, Option, Some, None, List, [], ◌∷◌, length, refl, sym, ap, ◌∙◌, subst, inl, inr}
use Rattle.gi_model.specs.State.{State, Run, Solve, no_solve, running, paused, ended, live_run}
use Rattle.gi_model.specs.Replies.{status_of, waited}
use Rattle.gi_model.specs.Refusals.{refuses}
use Rattle.gi_model.specs.Effects.{after, accepted, edited, pausing, resuming, stopping, sliced}
use Rattle.gi_model.specs.Work.{AnswersWork, EndsWork}
use Rattle.gi_model.specs.Tests.{AnswersTest, AnswersReasons}
use Rattle.gi_model.specs.History.{Allows, Answers, AnswersModel, Replied, Entry, after_all, IsLegalFrom}
use Rattle.gi_model.specs.Told.{known_on, told_known, spent_on, told_spent, HasSpent}
use Rattle.gi_model.specs.declared.calls.Call.{Call}
use Rattle.gi_model.specs.declared.calls.Call.TheVariants as call
use Rattle.gi_model.specs.declared.replies.Reply.{Reply}
use Rattle.gi_model.specs.declared.replies.Reply.TheVariants as reply
use Rattle.gi_model.specs.declared.replies.Now.{Now}
use Rattle.gi_model.specs.declared.replies.Now.TheVariants.{Live, Ended}
use Rattle.gi_model.specs.declared.replies.Verdict.TheVariants.{Sat, Unsat, Unknown}
use Rattle.gi_model.specs.declared.replies.Cause.TheVariants.{Stopped, Budget}
use Rattle.gi_model.specs.declared.refusal.Refusal.{Refusal}
use Rattle.gi_model.proofs.Histories.{live_is}

-- the state has learnt these, and its solve has spent so much
record Agrees (s : State) (known : List (List ℕ)) (spent : ℕ) : Type 0 where
  known_is : s.known ≡ known
  spent_is : HasSpent s.solve spent

-- after an entry it agrees with what the entry tells
abbrev AgreesOn : State → Call → Reply → ℕ → Type 0
AgreesOn s c answer spent = Agrees (after s c answer) (known_on s.known c answer) (spent_on spent answer)

spent_edited : (v : Solve) (n : ℕ) → HasSpent v n → HasSpent (edited v) n
spent_edited no_solve n h = tt
spent_edited (running r) n h = h
spent_edited (paused r) n h = h
spent_edited (ended k v) n h = tt

-- a rest, its end and a stop
spent_turned : (v : Solve) (n : ℕ) → HasSpent v n → HasSpent (pausing v) n × HasSpent (resuming v) n × HasSpent (stopping v) n
spent_turned no_solve n h = (tt, tt, tt)
spent_turned (running r) n h = (h, h, tt)
spent_turned (paused r) n h = (h, h, tt)
spent_turned (ended k v) n h = (h, h, h)

-- a status tells nothing of what was learnt
status_tells : (s : State) (c : Call) (v w : Solve) (spent : ℕ) → HasSpent s.solve spent → HasSpent w spent → accepted s c (status_of v) ≡ record s { solve = w } → AgreesOn s c (status_of v) spent
unfolding after
status_tells s c no_solve w spent h i e = record { known_is = refl; spent_is = h }
status_tells s c (running r) w spent h i e = let P : State → Type 0 = λ t. Agrees t s.known spent in subst P (sym e) (record { known_is = refl; spent_is = i })
status_tells s c (paused r) w spent h i e = let P : State → Type 0 = λ t. Agrees t s.known spent in subst P (sym e) (record { known_is = refl; spent_is = i })
status_tells s c (ended k v) w spent h i e = let P : State → Type 0 = λ t. Agrees t s.known spent in subst P (sym e) (record { known_is = refl; spent_is = i })

waited_tells : (s : State) (v : Solve) (spent : ℕ) → HasSpent s.solve spent → AgreesOn s call.Wait (waited v) spent
unfolding after
waited_tells s no_solve spent h = record { known_is = refl; spent_is = h }
waited_tells s (running r) spent h = record { known_is = refl; spent_is = h }
waited_tells s (paused r) spent h = record { known_is = refl; spent_is = h }
waited_tells s (ended k (Sat values)) spent h = record { known_is = refl; spent_is = h }
waited_tells s (ended k (Unsat w)) spent h = record { known_is = refl; spent_is = h }
waited_tells s (ended k (Unknown c)) spent h = record { known_is = refl; spent_is = h }

test_tells : (s : State) (answer : Reply) (spent : ℕ) → HasSpent s.solve spent → AnswersTest s answer → AgreesOn s call.Test answer spent
unfolding after
test_tells s (reply.Implied ls) spent h a = record { known_is = refl; spent_is = spent_edited s.solve spent h }
test_tells s (reply.Failed w) spent h a = record { known_is = refl; spent_is = spent_edited s.solve spent h }
test_tells s other spent h a = elim a [ ]

reasons_tell : (s : State) (m : ℕ) (answer : Reply) (spent : ℕ) → HasSpent s.solve spent → AnswersReasons s m answer → AgreesOn s (call.Reasons m) answer spent
unfolding after
reasons_tell s m (reply.Reasons rs) spent h a = record { known_is = refl; spent_is = h }
reasons_tell s m other spent h a = elim a [ ]

model_tells : (s : State) (answer : Reply) (spent : ℕ) (v : Solve) → HasSpent s.solve spent → AnswersModel s v answer → AgreesOn s call.Model answer spent
unfolding after
model_tells s answer spent (ended k (Sat values)) h a = subst (λ r. AgreesOn s call.Model r spent) (sym a) (record { known_is = refl; spent_is = h })
model_tells s answer spent other h a = elim a [ ]

spent_sliced : (s : State) (r : Run) (mark spent : ℕ) (news : List (List ℕ)) (now : Now) → r.spent ≡ spent → EndsWork s r mark news now → HasSpent (sliced r (length news) now) (spent + length news)
spent_sliced s r mark spent news Live e h = ap (λ n. n + length news) e
spent_sliced s r mark spent news (Ended (Sat values)) e h = tt
spent_sliced s r mark spent news (Ended (Unsat w)) e h = tt
spent_sliced s r mark spent news (Ended (Unknown (Stopped k))) e h = tt
spent_sliced s r mark spent news (Ended (Unknown (Budget b))) e h = h.2 ∙ sym h.1.0 ∙ ap (λ n. n + length news) e

work_tells : (s : State) (mark : ℕ) (answer : Reply) (spent : ℕ) (o : Option Run) → live_run s ≡ o → HasSpent s.solve spent → AnswersWork s o mark answer → AgreesOn s (call.Work mark) answer spent
unfolding after
work_tells s mark (reply.Worked news now) spent (Some r) e h a =
    let P : Solve → Type 0 = λ v. HasSpent v spent in
    rw e (record { known_is = refl; spent_is = spent_sliced s r mark spent news now (subst P (live_is s r e) h) a.ends })
work_tells s mark other spent (Some r) e h a = elim a [ ]
work_tells s mark answer spent None e h a = subst (λ r. AgreesOn s (call.Work mark) r spent) (sym a) (rw e (record { known_is = refl; spent_is = h }))

-- an answer that the state determines
told : (s : State) (c : Call) (answer is : Reply) (spent : ℕ) → answer ≡ is → AgreesOn s c is spent → AgreesOn s c answer spent
told s c answer is spent e h = subst (λ r. AgreesOn s c r spent) (sym e) h

answer_tells : (s : State) (c : Call) (answer : Reply) (spent : ℕ) → Answers s c answer → HasSpent s.solve spent → AgreesOn s c answer spent
unfolding after
answer_tells s (call.Vars n) answer spent a h = told s (call.Vars n) answer _ spent a (record { known_is = refl; spent_is = spent_edited s.solve spent h })
answer_tells s (call.Add c) answer spent a h = told s (call.Add c) answer _ spent a (record { known_is = refl; spent_is = spent_edited s.solve spent h })
answer_tells s call.NewGuard answer spent a h = told s call.NewGuard answer _ spent a (record { known_is = refl; spent_is = spent_edited s.solve spent h })
answer_tells s (call.Under gs c) answer spent a h = told s (call.Under gs c) answer _ spent a (record { known_is = refl; spent_is = spent_edited s.solve spent h })
answer_tells s (call.DropGuard g) answer spent a h = told s (call.DropGuard g) answer _ spent a (record { known_is = refl; spent_is = spent_edited s.solve spent h })
answer_tells s (call.Assume ls) answer spent a h = told s (call.Assume ls) answer _ spent a (record { known_is = refl; spent_is = spent_edited s.solve spent h })
answer_tells s call.Test answer spent a h = test_tells s answer spent h a
answer_tells s call.Untest answer spent a h = told s call.Untest answer _ spent a (record { known_is = refl; spent_is = spent_edited s.solve spent h })
answer_tells s (call.Reasons m) answer spent a h = reasons_tell s m answer spent h a
answer_tells s (call.Solve b) answer spent a h = told s (call.Solve b) answer _ spent a (record { known_is = refl; spent_is = refl })
answer_tells s call.Pause answer spent a h = told s call.Pause answer _ spent a (status_tells s call.Pause (pausing s.solve) (pausing s.solve) spent h (spent_turned s.solve spent h).0 refl)
answer_tells s call.Resume answer spent a h = told s call.Resume answer _ spent a (status_tells s call.Resume (resuming s.solve) (resuming s.solve) spent h (spent_turned s.solve spent h).1 refl)
answer_tells s call.Stop answer spent a h = told s call.Stop answer _ spent a (status_tells s call.Stop (stopping s.solve) (stopping s.solve) spent h (spent_turned s.solve spent h).2 refl)
answer_tells s call.Poll answer spent a h = told s call.Poll answer _ spent a (status_tells s call.Poll s.solve s.solve spent h h refl)
answer_tells s call.Wait answer spent a h = told s call.Wait answer _ spent a (waited_tells s s.solve spent h)
answer_tells s call.Model answer spent a h = model_tells s answer spent s.solve h a
answer_tells s call.Known answer spent a h = told s call.Known answer _ spent a (record { known_is = refl; spent_is = h })
answer_tells s (call.KnownClause i) answer spent a h = told s (call.KnownClause i) answer _ spent a (record { known_is = refl; spent_is = h })
answer_tells s (call.LoadCnf bytes) answer spent a h = told s (call.LoadCnf bytes) answer _ spent a (record { known_is = refl; spent_is = spent_edited s.solve spent h })
answer_tells s call.Bye answer spent a h = told s call.Bye answer _ spent a (record { known_is = refl; spent_is = h })
answer_tells s call.Shut answer spent a h = told s call.Shut answer _ spent a (record { known_is = refl; spent_is = h })
answer_tells s (call.Work mark) answer spent a h = work_tells s mark answer spent (live_run s) refl h a

allowed_tells : (s : State) (c : Call) (answer : Reply) (spent : ℕ) → Allows s c answer → HasSpent s.solve spent → AgreesOn s c answer spent
unfolding after
allowed_tells s c answer spent a h = go (refuses s c) a.replied
  where
    go : (o : Option Refusal) → Replied s c answer o → AgreesOn s c answer spent
    go (Some r) (inl x) = told s c answer (reply.Refused r) spent x (record { known_is = refl; spent_is = h })
    go (Some r) (inr x) = told s c answer reply.NoMemory spent x.0 (record { known_is = refl; spent_is = tt })
    go None (inr x) = told s c answer reply.NoMemory spent x.0 (record { known_is = refl; spent_is = tt })
    go None (inl x) = answer_tells s c answer spent x h

pub tells_known : (es : List Entry) (s : State) (spent : ℕ) → IsLegalFrom s es → HasSpent s.solve spent → (after_all s es).known ≡ told_known s.known es
unfolding after_all told_known
tells_known [] s spent l h = refl
tells_known (e ∷ es) s spent l h =
    let a = allowed_tells s e.call e.reply spent l.0 h in
    tells_known es (after s e.call e.reply) (spent_on spent e.reply) l.1 a.spent_is ∙ ap (λ k. told_known k es) a.known_is

pub tells_spent : (es : List Entry) (s : State) (spent : ℕ) → IsLegalFrom s es → HasSpent s.solve spent → HasSpent (after_all s es).solve (told_spent spent es)
unfolding after_all told_spent
tells_spent [] s spent l h = h
tells_spent (e ∷ es) s spent l h = tells_spent es (after s e.call e.reply) (spent_on spent e.reply) l.1 (allowed_tells s e.call e.reply spent l.0 h).spent_is
