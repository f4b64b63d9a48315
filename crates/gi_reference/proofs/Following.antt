-- What follows an entry.
use Rattle.std.proofs.Common.{◌≡◌, ℕ, ◌+◌, ◌<◌, ◌≤◌, ◌↔◌, IsTrue, Bool, true, false, Option, Some, None, List, length, refl, sym, ap, ◌∙◌, subst, arith, ◌⊎◌, inl, inr}
use Rattle.std.proofs.lemmas.Bool.{ltb-false}
use Rattle.gi_lit.specs.Literals.{max_var}
use Rattle.gi_model.specs.State.{State, Run, Solve, no_solve, running, paused, ended, Life, alive, shut, dead, dead_state, live_run}
use Rattle.gi_model.specs.Refusals.{refuses, is_work}
use Rattle.gi_model.specs.Effects.{after, accepted}
use Rattle.gi_model.specs.Work.{AnswersWork, EndsWork}
use Rattle.gi_model.specs.Tests.{AnswersTest, AnswersReasons}
use Rattle.gi_model.specs.History.{Allows, Replied, Answers, takes_memory}
use Rattle.gi_model.specs.declared.calls.Call.{Call}
use Rattle.gi_model.specs.declared.calls.Call.TheVariants as call
use Rattle.gi_model.specs.declared.replies.Now.{Now}
use Rattle.gi_model.specs.declared.replies.Now.TheVariants.{Live}
use Rattle.gi_model.specs.declared.replies.Verdict.{Verdict}
use Rattle.gi_model.specs.declared.replies.Reply.{Reply}
use Rattle.gi_model.specs.declared.replies.Reply.TheVariants as reply
use Rattle.gi_model.specs.declared.refusal.Refusal.{Refusal}
use Rattle.gi_model.proofs.Accepting.{accepted_facts}

pub vars_room : (s : State) (n : ℕ) → refuses s (call.Vars n) ≡ None → n ≤ max_var
vars_room s n h = ltb-false max_var n (accepted_facts s (call.Vars n) refl h).within

-- the solve that is live
pub live_is_run : (s : State) (r : Run) → s.life ≡ alive → s.solve ≡ running r → live_run s ≡ Some r
live_is_run s r a e = rw (a, e) refl

-- a slice stays within its budget
pub within_budget : (s : State) (mark : ℕ) (news : List (List ℕ)) (now : Now) (o : Option Run) (r : Run) → AnswersWork s o mark (reply.Worked news now) ⊎ ((reply.Worked news now ≡ reply.NoMemory) × (takes_memory s (call.Work mark) ≡ true)) → o ≡ Some r → r.spent + length news ≤ r.budget
within_budget s mark news now None r h e = absurd cc
within_budget s mark news now (Some q) r (inr h) e = absurd (let a = h.0 in cc)
within_budget s mark news now (Some q) r (inl w) e =
    let same : q ≡ r = cc in
    subst (λ (x : Run). x.spent + length news ≤ x.budget) same w.within

-- and learns something where it leaves its solve live
pub learns_some : (s : State) (mark : ℕ) (news : List (List ℕ)) (now : Now) (o : Option Run) (r : Run) → AnswersWork s o mark (reply.Worked news now) ⊎ ((reply.Worked news now ≡ reply.NoMemory) × (takes_memory s (call.Work mark) ≡ true)) → o ≡ Some r → now ≡ Live → 1 ≤ length news
learns_some s mark news now None r h e n = absurd cc
learns_some s mark news now (Some q) r (inr h) e n = absurd (let a = h.0 in cc)
learns_some s mark news now (Some q) r (inl w) e n =
    let a : EndsWork s q mark news Live = subst (EndsWork s q mark news) n w.ends in
    let b : 0 < length news = a.2.0 in
    omega arith

pub after_refused : (s : State) (k : Call) (answer : Reply) (r : Refusal) → answer ≡ reply.Refused r → s ≡ after s k answer
unfolding after
after_refused s k answer r e = rw e refl

pub after_no_memory : (s : State) (k : Call) (answer : Reply) (t : State) → answer ≡ reply.NoMemory → t ≡ dead_state → t ≡ after s k answer
unfolding after
after_no_memory s k answer t e d = rw e d

-- an answer that isn't a refusal is to a call that isn't refused
pub not_refused : (s : State) (k : Call) (answer : Reply) → Allows s k answer → ((r : Refusal) → answer ≡ reply.Refused r → ⊥) → (answer ≡ reply.NoMemory → ⊥) → refuses s k ≡ None
not_refused s k answer a n m = go (refuses s k) a.replied
  where
    go : (o : Option Refusal) → Replied s k answer o → o ≡ None
    go None h = refl
    go (Some r) (inl h) = absurd (n r h)
    go (Some r) (inr h) = absurd (m h.0)

pub after_accepted : (s : State) (k : Call) (answer : Reply) → ((r : Refusal) → answer ≡ reply.Refused r → ⊥) → (answer ≡ reply.NoMemory → ⊥) → after s k answer ≡ accepted s k answer
unfolding after
after_accepted s k (reply.Refused r) n m = absurd (n r refl)
after_accepted s k reply.NoMemory n m = absurd (m refl)
after_accepted s k answer n m = refl

-- with no solve to work on there is nothing but Idle
pub idle_decides : (s : State) (mark : ℕ) (answer : Reply) (b : Bool) → live_run s ≡ None → IsTrue b ↔ (answer ≡ reply.Idle) → IsTrue b ↔ AnswersWork s (live_run s) mark answer
idle_decides s mark answer b e d = subst (λ (o : Option Run). IsTrue b ↔ AnswersWork s o mark answer) (sym e) d

pub none_live : (s : State) → ¬ (s.life ≡ alive) → live_run s ≡ None
none_live s n = go s.life refl
  where
    go : (l : Life) → s.life ≡ l → live_run s ≡ None
    go alive e = absurd (n e)
    go shut e = rw e refl
    go dead e = rw e refl

pub none_paused : (s : State) (r : Run) → s.life ≡ alive → s.solve ≡ paused r → live_run s ≡ None
none_paused s r a e = rw (a, e) refl

pub none_ended : (s : State) (n : ℕ) (v : Verdict) → s.life ≡ alive → s.solve ≡ ended n v → live_run s ≡ None
none_ended s n v a e = rw (a, e) refl

pub none_idle : (s : State) → s.life ≡ alive → s.solve ≡ no_solve → live_run s ≡ None
none_idle s a e = rw (a, e) refl

-- and a solve is answered by a slice of work alone
pub not_work : (s : State) (r : Run) (mark : ℕ) (answer : Reply) → ((news : List (List ℕ)) (now : Now) → answer ≡ reply.Worked news now → ⊥) → ¬ AnswersWork s (Some r) mark answer
not_work s r mark (reply.Worked news now) n h = n news now refl
not_work s r mark answer n h = h

pub not_test : (s : State) (answer : Reply) → ((ls : List ℕ) → answer ≡ reply.Implied ls → ⊥) → ((w : List ℕ) → answer ≡ reply.Failed w → ⊥) → ¬ AnswersTest s answer
not_test s (reply.Implied ls) n m h = n ls refl
not_test s (reply.Failed w) n m h = m w refl
not_test s answer n m h = h

pub not_reasons : (s : State) (l : ℕ) (answer : Reply) → ((rs : List ℕ) → answer ≡ reply.Reasons rs → ⊥) → ¬ AnswersReasons s l answer
not_reasons s l (reply.Reasons rs) n h = n rs refl
not_reasons s l answer n h = h
