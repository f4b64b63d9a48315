-- What the machine may answer to a caller.
use Rattle.std.proofs.Common.{◌≡◌, ◌≢◌, true, Option, Some, None, ℕ, refl, sym, ◌∙◌, ap, subst, ◌⊎◌, inl, inr}
use Rattle.gi_model.specs.State.{State, Solve, no_solve, running, paused, ended, Life, alive, shut, dead}
use Rattle.gi_model.specs.Fits.{fits}
use Rattle.gi_model.specs.Refusals.{refuses}
use Rattle.gi_model.specs.Replies.{status_of, waited}
use Rattle.gi_model.specs.Effects.{pausing, resuming, stopping}
use Rattle.gi_model.specs.Tests.{AnswersTest, AnswersReasons}
use Rattle.gi_model.specs.History.{Allows, Answers, AnswersModel, Replied}
use Rattle.gi_model.specs.declared.calls.Call.{Call}
use Rattle.gi_model.specs.declared.calls.Call.TheVariants as call
use Rattle.gi_model.specs.declared.replies.Reply.{Reply}
use Rattle.gi_model.specs.declared.replies.Reply.TheVariants as reply
use Rattle.gi_model.specs.declared.replies.Verdict.TheVariants.{Sat, Unsat, Unknown}
use Rattle.gi_model.specs.declared.refusal.Refusal.{Refusal}
use Rattle.gi_model.specs.declared.refusal.Refusal.TheVariants as refusal
use Rattle.gi_wire.specs.Text.{is_answer}
use Rattle.gi_net.specs.Calls.{IsReplyTo}

-- a line can have it, and bye alone is answered bye
record Suits (c : Call) (r : Reply) : Type 0 where
  told : is_answer r ≡ true
  only_bye : r ≡ reply.Bye → c ≡ call.Bye

suits_as : (c : Call) (r is : Reply) → r ≡ is → Suits c is → Suits c r
suits_as c r is e h = subst (Suits c) (sym e) h

other : (c : Call) (r : Reply) → is_answer r ≡ true → r ≢ reply.Bye → Suits c r
other c r told never = record { told = told; only_bye = λ e. absurd (never e) }

status_suits : (c : Call) (v : Solve) → Suits c (status_of v)
status_suits c no_solve = other c _ refl (λ e. cc)
status_suits c (running r) = other c _ refl (λ e. cc)
status_suits c (paused r) = other c _ refl (λ e. cc)
status_suits c (ended n w) = other c _ refl (λ e. cc)

waited_suits : (c : Call) (v : Solve) → Suits c (waited v)
waited_suits c no_solve = other c _ refl (λ e. cc)
waited_suits c (running r) = other c _ refl (λ e. cc)
waited_suits c (paused r) = other c _ refl (λ e. cc)
waited_suits c (ended n (Sat values)) = other c _ refl (λ e. cc)
waited_suits c (ended n (Unsat w)) = other c _ refl (λ e. cc)
waited_suits c (ended n (Unknown why)) = other c _ refl (λ e. cc)

test_suits : (s : State) (c : Call) (r : Reply) → AnswersTest s r → Suits c r
test_suits s c (reply.Implied ls) a = other c _ refl (λ e. cc)
test_suits s c (reply.Failed w) a = other c _ refl (λ e. cc)
test_suits s c r a = elim a [ ]

reasons_suits : (s : State) (m : ℕ) (c : Call) (r : Reply) → AnswersReasons s m r → Suits c r
reasons_suits s m c (reply.Reasons rs) a = other c _ refl (λ e. cc)
reasons_suits s m c r a = elim a [ ]

model_suits : (s : State) (v : Solve) (c : Call) (r : Reply) → AnswersModel s v r → Suits c r
model_suits s (ended n (Sat values)) c r a = suits_as c r _ a (other c _ refl (λ e. cc))
model_suits s v c r a = elim a [ ]

answer_suits : (s : State) (c : Call) (r : Reply) → fits c ≡ true → Answers s c r → Suits c r
answer_suits s (call.Vars n) r f a = suits_as _ r _ a (other _ _ refl (λ e. cc))
answer_suits s (call.Add c) r f a = suits_as _ r _ a (other _ _ refl (λ e. cc))
answer_suits s call.NewGuard r f a = suits_as _ r _ a (other _ _ refl (λ e. cc))
answer_suits s (call.Under gs c) r f a = suits_as _ r _ a (other _ _ refl (λ e. cc))
answer_suits s (call.DropGuard g) r f a = suits_as _ r _ a (other _ _ refl (λ e. cc))
answer_suits s (call.Assume ls) r f a = suits_as _ r _ a (other _ _ refl (λ e. cc))
answer_suits s call.Test r f a = test_suits s call.Test r a
answer_suits s call.Untest r f a = suits_as _ r _ a (other _ _ refl (λ e. cc))
answer_suits s (call.Reasons m) r f a = reasons_suits s m (call.Reasons m) r a
answer_suits s (call.Solve b) r f a = suits_as _ r _ a (other _ _ refl (λ e. cc))
answer_suits s call.Pause r f a = suits_as _ r _ a (status_suits call.Pause (pausing s.solve))
answer_suits s call.Resume r f a = suits_as _ r _ a (status_suits call.Resume (resuming s.solve))
answer_suits s call.Stop r f a = suits_as _ r _ a (status_suits call.Stop (stopping s.solve))
answer_suits s call.Poll r f a = suits_as _ r _ a (status_suits call.Poll s.solve)
answer_suits s call.Wait r f a = suits_as _ r _ a (waited_suits call.Wait s.solve)
answer_suits s call.Model r f a = model_suits s s.solve call.Model r a
answer_suits s call.Known r f a = suits_as _ r _ a (other _ _ refl (λ e. cc))
answer_suits s (call.KnownClause i) r f a = suits_as _ r _ a (other _ _ refl (λ e. cc))
answer_suits s (call.LoadCnf bytes) r f a = suits_as _ r _ a (other _ _ refl (λ e. cc))
answer_suits s call.Bye r f a = record { told = ap is_answer a; only_bye = λ e. refl }
answer_suits s call.Shut r f a = suits_as _ r _ a (other _ _ refl (λ e. cc))
answer_suits s (call.Work mark) r f a = absurd cc

reply_suits : (s : State) (c : Call) (r : Reply) → fits c ≡ true → Allows s c r → Suits c r
reply_suits s c r f a = go (refuses s c) a.replied
  where
    go : (o : Option Refusal) → Replied s c r o → Suits c r
    go (Some q) (inl x) = suits_as c r _ x (other c _ refl (λ e. cc))
    go (Some q) (inr x) = suits_as c r _ x.0 (other c _ refl (λ e. cc))
    go None (inl x) = answer_suits s c r f x
    go None (inr x) = suits_as c r _ x.0 (other c _ refl (λ e. cc))

-- bye is refused only by a machine that is over
bye_refused : (s : State) (q : Refusal) → refuses s call.Bye ≡ Some q → q ≡ refusal.Dead
unfolding refuses
bye_refused s q e = go s.life s.solve e
  where
    go : (l : Life) (v : Solve) → refuses (record s { life = l; solve = v }) call.Bye ≡ Some q → q ≡ refusal.Dead
    go alive no_solve e = absurd cc
    go alive (running r) e = absurd cc
    go alive (paused r) e = absurd cc
    go alive (ended n w) e = absurd cc
    go shut v e = cc
    go dead v e = cc

bye_replied : (s : State) (r : Reply) → Allows s call.Bye r → (r ≡ reply.Bye) ⊎ (r ≡ reply.Refused refusal.Dead)
bye_replied s r a = go (refuses s call.Bye) refl a.replied
  where
    go : (o : Option Refusal) → refuses s call.Bye ≡ o → Replied s call.Bye r o → (r ≡ reply.Bye) ⊎ (r ≡ reply.Refused refusal.Dead)
    go (Some q) e (inl x) = inr (x ∙ ap reply.Refused (bye_refused s q e))
    go (Some q) e (inr x) = absurd (let no = x.1 in cc)
    go None e (inl x) = inl x
    go None e (inr x) = absurd (let no = x.1 in cc)

-- the reply of an entry that the state allows
pub replied_to : (s : State) (c : Call) (r : Reply) → fits c ≡ true → Allows s c r → IsReplyTo c r
replied_to s c r f a = record {
  told = (reply_suits s c r f a).told;
  bye = λ e. bye_replied s r (subst (λ d. Allows s d r) e a);
  only_bye = (reply_suits s c r f a).only_bye;
}
