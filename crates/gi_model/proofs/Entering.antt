-- Which entries there are.
use Rattle.std.proofs.Common.{◌≡◌, ◌≢◌, ℕ, Bool, true, false, cond, Option, Some, None, Result, Ok, Err, List, [], ◌∷◌, ◌++◌, refl, sym, ap, subst, arith, inl, inr}
use Rattle.std.specs.List.{AllByRecursion}
use Rattle.std.proofs.lemmas.Bool.{cases_Bool}
use Rattle.gi_model.specs.State.{State, Run, Solve, no_solve, running, paused, ended, Life, alive, shut, dead, live_run, phase_of}
use Rattle.gi_model.specs.Fits.{fits}
use Rattle.gi_dimacs.specs.Content.{File}
use Rattle.gi_dimacs.specs.declared.fault.CnfFault.{CnfFault}
use Rattle.gi_model.specs.Number.{refusal_number}
use Rattle.gi_model.specs.Loads.{loaded, file_refused, bad_payload}
use Rattle.gi_model.specs.declared.refusal.Refusal.TheVariants.{Payload}
use Rattle.gi_model.specs.declared.refusal.PayloadCode.TheVariants.{Cnf}
use Rattle.gi_model.specs.Replies.{status_of, waited}
use Rattle.gi_model.specs.Refusals.{refuses, tests, first_of, is_work, is_none_yet}
use Rattle.gi_model.specs.Effects.{after, pausing, resuming, stopping}
use Rattle.gi_model.specs.Work.{AnswersWork}
use Rattle.gi_model.specs.Tests.{AnswersTest, AnswersReasons}
use Rattle.gi_model.specs.History.{MayCome, Allows, Answers, AnswersModel, Replied, Entry, IsLegalFrom, after_all}
use Rattle.gi_model.specs.declared.calls.Call.{Call}
use Rattle.gi_model.specs.declared.calls.Call.TheVariants as call
use Rattle.gi_model.specs.declared.phase.Phase.TheVariants as phase
use Rattle.gi_model.specs.declared.replies.Reply.{Reply}
use Rattle.gi_model.specs.declared.replies.Reply.TheVariants as reply
use Rattle.gi_model.specs.declared.replies.Verdict.TheVariants.{Sat, Unsat, Unknown}
use Rattle.gi_model.specs.declared.refusal.Refusal.{Refusal}
use Rattle.gi_model.specs.declared.refusal.Refusal.TheVariants as refusal
use Rattle.gi_model.proofs.Accepting.{IsAccepted, accepted_facts}

-- answers that no entry has beside the refusals that the table names
abbrev IsOutside : Reply → Type 0
IsOutside reply.Spent = Unit {0}
IsOutside (reply.Refused r) = Unit {0}
IsOutside other = ⊥

status_inside : (v : Solve) → is_none_yet v ≡ false → ¬ IsOutside (status_of v)
status_inside no_solve e h = absurd cc
status_inside (running r) e h = h
status_inside (paused r) e h = h
status_inside (ended n w) e h = h

pub some_pausing : (v : Solve) → is_none_yet v ≡ false → is_none_yet (pausing v) ≡ false
some_pausing no_solve e = e
some_pausing (running r) e = refl
some_pausing (paused r) e = refl
some_pausing (ended n v) e = refl

pub some_resuming : (v : Solve) → is_none_yet v ≡ false → is_none_yet (resuming v) ≡ false
some_resuming no_solve e = e
some_resuming (running r) e = refl
some_resuming (paused r) e = refl
some_resuming (ended n v) e = refl

pub some_stopping : (v : Solve) → is_none_yet v ≡ false → is_none_yet (stopping v) ≡ false
some_stopping no_solve e = e
some_stopping (running r) e = refl
some_stopping (paused r) e = refl
some_stopping (ended n v) e = refl

waited_inside : (v : Solve) → is_none_yet v ≡ false → ¬ IsOutside (waited v)
waited_inside no_solve e h = absurd cc
waited_inside (running r) e h = h
waited_inside (paused r) e h = h
waited_inside (ended n (Sat values)) e h = h
waited_inside (ended n (Unsat w)) e h = h
waited_inside (ended n (Unknown c)) e h = h

test_inside : (s : State) (answer : Reply) → AnswersTest s answer → ¬ IsOutside answer
test_inside s (reply.Implied ls) a h = h
test_inside s (reply.Failed w) a h = h
test_inside s other a h = elim a [ ]

reasons_inside : (s : State) (m : ℕ) (answer : Reply) → AnswersReasons s m answer → ¬ IsOutside answer
reasons_inside s m (reply.Reasons rs) a h = h
reasons_inside s m other a h = elim a [ ]

model_inside : (s : State) (v : Solve) (answer : Reply) → AnswersModel s v answer → ¬ IsOutside answer
model_inside s (ended n (Sat values)) answer a h = (let P : Reply → Type 0 = λ r. IsOutside r → ⊥ in subst P (sym a) (λ x. x)) h
model_inside s other answer a h = elim a [ ]

work_inside : (s : State) (o : Option Run) (mark : ℕ) (answer : Reply) → AnswersWork s o mark answer → ¬ IsOutside answer
work_inside s (Some r) mark (reply.Worked news now) a h = h
work_inside s (Some r) mark other a h = elim a [ ]
work_inside s None mark answer a h = (let P : Reply → Type 0 = λ r. IsOutside r → ⊥ in subst P (sym a) (λ x. x)) h

by_is : (answer is : Reply) → answer ≡ is → ¬ IsOutside is → ¬ IsOutside answer
by_is answer is e n = let P : Reply → Type 0 = λ r. ¬ IsOutside r in subst P (sym e) n

answer_inside : (s : State) (c : Call) (answer : Reply) → is_work c ≡ false → IsAccepted s c → Answers s c answer → ¬ IsOutside answer
answer_inside s (call.Vars n) answer w f a = by_is answer _ a (λ x. x)
answer_inside s (call.Add c) answer w f a = by_is answer _ a (λ x. x)
answer_inside s call.NewGuard answer w f a = by_is answer _ a (λ x. x)
answer_inside s (call.Under gs c) answer w f a = by_is answer _ a (λ x. x)
answer_inside s (call.DropGuard g) answer w f a = by_is answer _ a (λ x. x)
answer_inside s (call.Assume ls) answer w f a = by_is answer _ a (λ x. x)
answer_inside s call.Test answer w f a = test_inside s answer a
answer_inside s call.Untest answer w f a = by_is answer _ a (λ x. x)
answer_inside s (call.Reasons m) answer w f a = reasons_inside s m answer a
answer_inside s (call.Solve b) answer w f a = by_is answer _ a (λ x. x)
answer_inside s call.Pause answer w f a = by_is answer _ a (status_inside (pausing s.solve) (some_pausing s.solve f.has_solve))
answer_inside s call.Resume answer w f a = by_is answer _ a (status_inside (resuming s.solve) (some_resuming s.solve f.has_solve))
answer_inside s call.Stop answer w f a = by_is answer _ a (status_inside (stopping s.solve) (some_stopping s.solve f.has_solve))
answer_inside s call.Poll answer w f a = by_is answer _ a (status_inside s.solve f.has_solve)
answer_inside s call.Wait answer w f a = by_is answer _ a (waited_inside s.solve f.has_solve)
answer_inside s call.Model answer w f a = model_inside s s.solve answer a
answer_inside s call.Known answer w f a = by_is answer _ a (λ x. x)
answer_inside s (call.KnownClause i) answer w f a = by_is answer _ a (λ x. x)
answer_inside s (call.LoadCnf bytes) answer w f a = by_is answer _ a (λ x. x)
answer_inside s call.Bye answer w f a = by_is answer _ a (λ x. x)
answer_inside s call.Shut answer w f a = by_is answer _ a (λ x. x)
answer_inside s (call.Work mark) answer w f a = absurd cc

any_inside : (s : State) (c : Call) (answer : Reply) → refuses s c ≡ None → Answers s c answer → ¬ IsOutside answer
any_inside s (call.Work mark) answer e a = work_inside s (live_run s) mark answer a
any_inside s (call.Vars n) answer e a = answer_inside s (call.Vars n) answer refl (accepted_facts s (call.Vars n) refl e) a
any_inside s (call.Add c) answer e a = answer_inside s (call.Add c) answer refl (accepted_facts s (call.Add c) refl e) a
any_inside s other answer e a = answer_inside s other answer refl (accepted_facts s other refl e) a

-- a refusal is the one that the table names
pub refused_is : (s : State) (c : Call) (r : Refusal) → Allows s c (reply.Refused r) → refuses s c ≡ Some r
refused_is s c r a = go (refuses s c) refl a.replied
  where
    go : (o : Option Refusal) → refuses s c ≡ o → Replied s c (reply.Refused r) o → o ≡ Some r
    go (Some q) e (inl x) = cc
    go (Some q) e (inr x) = absurd (cc x.0)
    go None e (inl x) = absurd (any_inside s c (reply.Refused r) e x tt)
    go None e (inr x) = absurd (cc x.0)

pub never_spent : (s : State) (c : Call) → ¬ Allows s c reply.Spent
never_spent s c a = go (refuses s c) refl a.replied
  where
    go : (o : Option Refusal) → refuses s c ≡ o → Replied s c reply.Spent o → ⊥
    go (Some q) e (inl x) = absurd cc
    go (Some q) e (inr x) = absurd (cc x.0)
    go None e (inl x) = any_inside s c reply.Spent e x tt
    go None e (inr x) = absurd (cc x.0)

-- what no test of the table names isn't named
unnamed : (x : Refusal) (ts : List (Bool × Refusal)) (last : Option Refusal) → last ≢ Some x → AllByRecursion (λ (t : Bool × Refusal). t.1 ≢ x) ts → first_of ts last ≢ Some x
unnamed x [] last n a e = n e
unnamed x (t ∷ ts) last n a e = go (unnamed x ts last n a.1) t.0 e
  where
    go : first_of ts last ≢ Some x → (b : Bool) → cond b (Some t.1) (first_of ts last) ≡ Some x → ⊥
    go rest true q = a.0 cc
    go rest false q = rest q

file_unnamed : (file : Result File CnfFault) (x : Refusal) → refusal_number x ≢ 16 → file_refused file ≢ Some x
file_unnamed (Ok f) x n e = absurd cc
file_unnamed (Err fault) x n e = n (ap refusal_number (sym (let q : Payload fault.line 0 (Cnf fault.code) ≡ x = cc in q)))

payload_unnamed : (c : Call) (x : Refusal) → refusal_number x ≢ 16 → bad_payload c ≢ Some x
payload_unnamed (call.LoadCnf bytes) x n e = file_unnamed (loaded bytes) x n e
payload_unnamed other x n e = absurd cc

abbrev IsNeverNamed : Refusal → Type 0
IsNeverNamed x = (s : State) (c : Call) → refuses s c ≢ Some x

pub syntax_unnamed : IsNeverNamed refusal.Syntax
unfolding refuses
syntax_unnamed s c e = elim (cases_Bool (is_work c)) [
  | inl t ↦ (let q : None ≡ Some refusal.Syntax = rw t at e in absurd cc)
  | inr f ↦ unnamed refusal.Syntax (tests s c) (bad_payload c) (payload_unnamed c refusal.Syntax (λ q. omega arith)) ((λ q. cc), ((λ q. cc), ((λ q. cc), ((λ q. cc), ((λ q. cc), ((λ q. cc), ((λ q. cc), ((λ q. cc), ((λ q. cc), ((λ q. cc), ((λ q. cc), ((λ q. cc), tt)))))))))))) (rw f at e)
]

pub long_unnamed : IsNeverNamed refusal.Long
unfolding refuses
long_unnamed s c e = elim (cases_Bool (is_work c)) [
  | inl t ↦ (let q : None ≡ Some refusal.Long = rw t at e in absurd cc)
  | inr f ↦ unnamed refusal.Long (tests s c) (bad_payload c) (payload_unnamed c refusal.Long (λ q. omega arith)) ((λ q. cc), ((λ q. cc), ((λ q. cc), ((λ q. cc), ((λ q. cc), ((λ q. cc), ((λ q. cc), ((λ q. cc), ((λ q. cc), ((λ q. cc), ((λ q. cc), ((λ q. cc), tt)))))))))))) (rw f at e)
]

-- a wait may come where callers see no live phase
not_live : (s : State) → phase_of s ≢ phase.Live → live_run s ≡ None
not_live s n = go s.life s.solve n
  where
    go : (l : Life) (v : Solve) → phase_of (record s { life = l; solve = v }) ≢ phase.Live → live_run (record s { life = l; solve = v }) ≡ None
    go alive (running r) n = absurd (n refl)
    go alive no_solve n = refl
    go alive (paused r) n = refl
    go alive (ended k v) n = refl
    go shut v n = refl
    go dead v n = refl

pub may_come : (s : State) (c : Call) → fits c ≡ true → (c ≡ call.Wait → phase_of s ≢ phase.Live) → MayCome s c
may_come s (call.Work mark) f w = tt
may_come s call.Wait f w = not_live s (w refl)
may_come s (call.Under gs c) f w = f
may_come s (call.Solve b) f w = f
may_come s (call.LoadCnf bytes) f w = f
may_come s other f w = refl

pub legal_push : (es : List Entry) (e : Entry) (s : State) → IsLegalFrom s es → Allows (after_all s es) e.call e.reply → IsLegalFrom s (es ++ e ∷ [])
unfolding after_all
legal_push [] e s h a = (a, tt)
legal_push (x ∷ es) e s h a = (h.0, legal_push es e (after s x.call x.reply) h.1 a)

pub after_push : (es : List Entry) (e : Entry) (s : State) → after_all s (es ++ e ∷ []) ≡ after (after_all s es) e.call e.reply
unfolding after_all
after_push [] e s = refl
after_push (x ∷ es) e s = after_push es e (after s x.call x.reply)
