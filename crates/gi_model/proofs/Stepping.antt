-- The ways in which a step may end.
use Rattle.std.proofs.Common.{◌≡◌, ℕ, ◌+◌, ◌<◌, ◌≤◌, true, false, Option, Some, None, [], refl, sym, subst, inl, inr}
use Rattle.std.proofs.lemmas.Bool.{both_ways, and_from, le-leb, leb-false}
use Rattle.gi_model.specs.Limits.{most_solves}
use Rattle.gi_lit.specs.Literals.{max_var}
use Rattle.gi_model.specs.State.{State, Solve, no_solve, running, paused, ended, dead_state}
use Rattle.gi_model.specs.Replies.{status_of}
use Rattle.gi_model.specs.Refusals.{refuses, is_none_yet}
use Rattle.gi_model.specs.Effects.{after, accepted, pausing, resuming, stopping, started}
use Rattle.gi_model.specs.History.{MayCome, Answers, Replied, Step, takes_memory, is_load, is_of_payload}
use Rattle.gi_model.specs.declared.calls.Call.{Call}
use Rattle.gi_model.specs.declared.calls.Call.TheVariants as call
use Rattle.gi_model.specs.declared.replies.Reply.{Reply}
use Rattle.gi_model.specs.declared.replies.Reply.TheVariants as reply
use Rattle.gi_model.specs.declared.refusal.Refusal.{Refusal}
use Rattle.gi_model.proofs.Accepting.{accepted_facts}
use Rattle.gi_model.proofs.Entering.{some_pausing, some_resuming, some_stopping}

pub replied : (s : State) (c : Call) (answer : Reply) (o : Option Refusal) → refuses s c ≡ o → Replied s c answer o → Replied s c answer (refuses s c)
replied s c answer o e r = let P : Option Refusal → Type 0 = λ o. Replied s c answer o in subst P (sym e) r

pub step_refused : (s : State) (c : Call) (r : Refusal) → MayCome s c → refuses s c ≡ Some r → Step s c (reply.Refused r) s
unfolding after
step_refused s c r m e = record { allowed = record { may_come = m; replied = replied s c (reply.Refused r) (Some r) e (inl refl) }; new_is = refl }

-- want of memory to read a payload comes before the refusals that its file meets
pub step_unread : (s : State) (c : Call) (r : Refusal) → MayCome s c → refuses s c ≡ Some r → is_load c ≡ true → is_of_payload r ≡ true → Step s c reply.NoMemory dead_state
unfolding after
step_unread s c r m e l p = record { allowed = record { may_come = m; replied = replied s c reply.NoMemory (Some r) e (inr (refl, l, p)) }; new_is = refl }

pub step_dead : (s : State) (c : Call) → MayCome s c → refuses s c ≡ None → takes_memory s c ≡ true → Step s c reply.NoMemory dead_state
unfolding after
step_dead s c m e t = record { allowed = record { may_come = m; replied = replied s c reply.NoMemory None e (inr (refl, t)) }; new_is = refl }

pub step_done : (s : State) (c : Call) (answer : Reply) (t : State) → MayCome s c → refuses s c ≡ None → Answers s c answer → t ≡ after s c answer → Step s c answer t
step_done s c answer t m e a n = record { allowed = record { may_come = m; replied = replied s c answer None e (inl a) }; new_is = n }

-- an answer that tells a status
pub step_status : (s t : State) (c : Call) (v : Solve) → MayCome s c → refuses s c ≡ None → is_none_yet v ≡ false → Answers s c (status_of v) → t ≡ accepted s c (status_of v) → Step s c (status_of v) t
unfolding after
step_status s t c no_solve m e n a q = absurd cc
step_status s t c (running r) m e n a q = step_done s c (status_of (running r)) t m e a q
step_status s t c (paused r) m e n a q = step_done s c (status_of (paused r)) t m e a q
step_status s t c (ended k v) m e n a q = step_done s c (status_of (ended k v)) t m e a q

pub pause_step : (s t : State) (answer : Reply) → refuses s call.Pause ≡ None → answer ≡ status_of (pausing s.solve) → t ≡ record s { solve = pausing s.solve } → Step s call.Pause answer t
pause_step s t answer e a q = subst (λ r. Step s call.Pause r t) (sym a) (step_status s t call.Pause (pausing s.solve) refl e (some_pausing s.solve (accepted_facts s call.Pause refl e).has_solve) refl q)

pub resume_step : (s t : State) (answer : Reply) → refuses s call.Resume ≡ None → answer ≡ status_of (resuming s.solve) → t ≡ record s { solve = resuming s.solve } → Step s call.Resume answer t
resume_step s t answer e a q = subst (λ r. Step s call.Resume r t) (sym a) (step_status s t call.Resume (resuming s.solve) refl e (some_resuming s.solve (accepted_facts s call.Resume refl e).has_solve) refl q)

pub stop_step : (s t : State) (answer : Reply) → refuses s call.Stop ≡ None → answer ≡ status_of (stopping s.solve) → t ≡ record s { solve = stopping s.solve } → Step s call.Stop answer t
stop_step s t answer e a q = subst (λ r. Step s call.Stop r t) (sym a) (step_status s t call.Stop (stopping s.solve) refl e (some_stopping s.solve (accepted_facts s call.Stop refl e).has_solve) refl q)

pub poll_step : (s : State) (answer : Reply) → refuses s call.Poll ≡ None → answer ≡ status_of s.solve → Step s call.Poll answer s
poll_step s answer e a = subst (λ r. Step s call.Poll r s) (sym a) (step_status s s call.Poll s.solve refl e (accepted_facts s call.Poll refl e).has_solve refl refl)

-- a guard can't be made only where the limit refuses
pub guard_room : (s : State) → refuses s call.NewGuard ≡ None → s.problem.freed ≡ [] → max_var ≤ s.problem.vars → ⊥
guard_room s e f v = both_ways _ (accepted_facts s call.NewGuard refl e).within (and_from _ _ (rw f refl) (le-leb max_var s.problem.vars v))

pub serial_room : (s : State) (b : ℕ) → refuses s (call.Solve b) ≡ None → s.serial < most_solves
serial_room s b e = leb-false most_solves s.serial (accepted_facts s (call.Solve b) refl e).within

pub start_step : (s t : State) (b : ℕ) → MayCome s (call.Solve b) → refuses s (call.Solve b) ≡ None → t ≡ started b s → Step s (call.Solve b) (reply.Started (s.serial + 1)) t
unfolding after
start_step s t b m e q = step_done s (call.Solve b) (reply.Started (s.serial + 1)) t m e refl q
