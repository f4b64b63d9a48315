-- Which calls want of memory answers.
use Rattle.std.proofs.Common.{◌≡◌, ◌≢◌, ℕ, true, false, Option, Some, None, [], ◌∷◌, ◌++◌, refl, sym, ◌∙◌, subst, inl, inr}
use Rattle.std.proofs.lemmas.List.{append_assoc}
use Rattle.gi_model.specs.State.{State, Run, Solve, no_solve, running, paused, ended, opening, live_run}
use Rattle.gi_model.specs.Refusals.{refuses}
use Rattle.gi_model.specs.Replies.{status_of, waited}
use Rattle.gi_model.specs.Effects.{pausing, resuming, stopping}
use Rattle.gi_model.specs.Work.{AnswersWork}
use Rattle.gi_model.specs.History.{Entry, Allows, Answers, AnswersModel, Replied, IsLegalFrom, takes_memory, is_load, after_all}
use Rattle.gi_model.specs.declared.calls.Call.{Call}
use Rattle.gi_model.specs.declared.calls.Call.TheVariants as call
use Rattle.gi_model.specs.declared.replies.Reply.{Reply}
use Rattle.gi_model.specs.declared.replies.Reply.TheVariants as reply
use Rattle.gi_model.specs.declared.replies.Verdict.TheVariants.{Sat, Unsat, Unknown}
use Rattle.gi_model.specs.declared.refusal.Refusal.{Refusal}
use Rattle.gi_room.specs.Seen.{Seen}
use Rattle.gi_room.specs.Calls.{Called, Calls, NeedsNoMemory}
use Rattle.gi_room.proofs.Calling.{legal_last}

not_status : (v : Solve) → reply.NoMemory ≢ status_of v
not_status no_solve e = absurd cc
not_status (running r) e = absurd cc
not_status (paused r) e = absurd cc
not_status (ended n v) e = absurd cc

not_waited : (v : Solve) → reply.NoMemory ≢ waited v
not_waited no_solve e = absurd cc
not_waited (running r) e = absurd cc
not_waited (paused r) e = absurd cc
not_waited (ended n (Sat values)) e = absurd cc
not_waited (ended n (Unsat w)) e = absurd cc
not_waited (ended n (Unknown c)) e = absurd cc

not_model : (s : State) (v : Solve) → ¬ AnswersModel s v reply.NoMemory
not_model s (ended n (Sat values)) a = absurd cc
not_model s other a = elim a [ ]

not_work : (s : State) (o : Option Run) (mark : ℕ) → ¬ AnswersWork s o mark reply.NoMemory
not_work s (Some r) mark a = a
not_work s None mark a = absurd cc

-- no call has want of memory for its own answer
not_answer : (s : State) (c : Call) → ¬ Answers s c reply.NoMemory
not_answer s call.Test a = a
not_answer s (call.Reasons m) a = a
not_answer s call.Pause a = not_status (pausing s.solve) a
not_answer s call.Resume a = not_status (resuming s.solve) a
not_answer s call.Stop a = not_status (stopping s.solve) a
not_answer s call.Poll a = not_status s.solve a
not_answer s call.Wait a = not_waited s.solve a
not_answer s call.Model a = not_model s s.solve a
not_answer s (call.Work mark) a = not_work s (live_run s) mark a
not_answer s (call.Vars k) a = absurd cc
not_answer s (call.Add c) a = absurd cc
not_answer s call.NewGuard a = absurd cc
not_answer s (call.Under gs c) a = absurd cc
not_answer s (call.DropGuard g) a = absurd cc
not_answer s (call.Assume ls) a = absurd cc
not_answer s call.Untest a = absurd cc
not_answer s (call.Solve budget) a = absurd cc
not_answer s call.Known a = absurd cc
not_answer s (call.KnownClause i) a = absurd cc
not_answer s (call.LoadCnf bytes) a = absurd cc
not_answer s call.Bye a = absurd cc
not_answer s call.Shut a = absurd cc

loads_take : (s : State) (c : Call) → is_load c ≡ true → takes_memory s c ≡ true
loads_take s (call.LoadCnf bytes) e = refl
loads_take s other e = absurd cc

-- it answers only those that take memory
pub lacks : (s : State) (c : Call) → Allows s c reply.NoMemory → takes_memory s c ≡ true
lacks s c a = go (refuses s c) a.replied
  where
    go : (o : Option Refusal) → Replied s c reply.NoMemory o → takes_memory s c ≡ true
    go (Some r) (inl x) = absurd cc
    go (Some r) (inr x) = loads_take s c x.1
    go None (inl x) = absurd (not_answer s c x)
    go None (inr x) = x.1

pub needs_none : (what : Call) (answer : Reply) (old new : Seen) → Calls what answer old new → NeedsNoMemory what → answer ≢ reply.NoMemory
needs_none what answer old new h free e = go (subst (λ (r : Reply). Calls what r old new) e h)
  where
    go : Called what reply.NoMemory old new → ⊥
    go c =
        let own : Entry = record { by = old.number; call = what; reply = reply.NoMemory } in
        let s : State = after_all opening (old.history ++ c.before) in
        let ok : Allows s what reply.NoMemory = legal_last (old.history ++ c.before) own opening (subst (IsLegalFrom opening) (c.history ∙ sym (append_assoc old.history c.before (own ∷ []))) c.legal.each) in
        let bad : false ≡ true = sym (free s) ∙ lacks s what ok in absurd cc
