-- Legal histories, and the state after one.
use Rattle.std.specs.Prelude.{◌≡◌, ℕ, ◌+◌, ◌-◌, ◌⊎◌, Bool, true, false, max, is_some, Result, Option, Some, None, List, [], ◌∷◌, length, slice_index_or}
use Rattle.gi_lit.specs.Problem.{next_guard}
use Rattle.gi_dimacs.specs.Content.{File}
use Rattle.gi_dimacs.specs.declared.fault.CnfFault.{CnfFault}
use Rattle.gi_model.specs.Loads.{loaded, file_vars, file_clauses}
use Rattle.gi_model.specs.State.{State, Solve, ended, opening, live_run}
use Rattle.gi_model.specs.Fits.{fits}
use Rattle.gi_model.specs.Replies.{status_of, waited, model_of}
use Rattle.gi_model.specs.Refusals.{refuses}
use Rattle.gi_model.specs.Effects.{after, pausing, resuming, stopping}
use Rattle.gi_model.specs.Work.{AnswersWork}
use Rattle.gi_model.specs.Tests.{AnswersTest, AnswersReasons}
use Rattle.gi_model.specs.declared.calls.Call.{Call}
use Rattle.gi_model.specs.declared.calls.Call.TheVariants.{Vars, Add, NewGuard, Under, DropGuard, Assume, Test, Untest, Reasons, Solve as Start, Pause, Resume, Stop, Poll, Wait, Model, Known, KnownClause, LoadCnf, Bye, Shut, Work}
use Rattle.gi_model.specs.declared.replies.Reply.{Reply}
use Rattle.gi_model.specs.declared.replies.Reply.TheVariants as reply
use Rattle.gi_model.specs.declared.refusal.Refusal.{Refusal}
use Rattle.gi_model.specs.declared.refusal.Refusal.TheVariants as refusal
use Rattle.gi_model.specs.declared.replies.Verdict.TheVariants.{Sat, Unsat}

-- the calls that may come: those that fit, and work; a wait only where no solve is running
abbrev pub MayCome : State → Call → Type 0
MayCome s (Work mark) = Unit {0}
MayCome s Wait = live_run s ≡ None
MayCome s call = fits call ≡ true

-- the model of a solve that found one
abbrev pub AnswersModel : State → Solve → Reply → Type 0
AnswersModel s (ended n (Sat values)) answer = answer ≡ reply.Model (model_of s.problem values)
AnswersModel s solve answer = ⊥

-- what a load tells of its file
abbrev pub loaded_reply : Result File CnfFault → Reply
loaded_reply file = reply.LoadedCnf (file_vars file) (length (file_clauses file))

-- the answers to a call that isn't refused, want of memory left out
abbrev pub Answers : State → Call → Reply → Type 0
Answers s (Vars k) answer = answer ≡ reply.Vars (max s.problem.vars k)
Answers s (Add c) answer = answer ≡ reply.Done
Answers s NewGuard answer = answer ≡ reply.Guard (next_guard s.problem)
Answers s (Under gs c) answer = answer ≡ reply.Done
Answers s (DropGuard g) answer = answer ≡ reply.Done
Answers s (Assume ls) answer = answer ≡ reply.Done
Answers s Test answer = AnswersTest s answer
Answers s Untest answer = answer ≡ reply.Done
Answers s (Reasons m) answer = AnswersReasons s m answer
Answers s (LoadCnf bytes) answer = answer ≡ loaded_reply (loaded bytes)
Answers s (Start budget) answer = answer ≡ reply.Started (s.serial + 1)
Answers s Pause answer = answer ≡ status_of (pausing s.solve)
Answers s Resume answer = answer ≡ status_of (resuming s.solve)
Answers s Stop answer = answer ≡ status_of (stopping s.solve)
Answers s Poll answer = answer ≡ status_of s.solve
Answers s Wait answer = answer ≡ waited s.solve
Answers s Model answer = AnswersModel s s.solve answer
Answers s Known answer = answer ≡ reply.Known (length s.known)
Answers s (KnownClause i) answer = answer ≡ reply.Clause (slice_index_or s.known (i - 1) [])
Answers s Bye answer = answer ≡ reply.Bye
Answers s Shut answer = answer ≡ reply.Done
Answers s (Work mark) answer = AnswersWork s (live_run s) mark answer

-- a wait copies a failing set, and nothing else
abbrev pub wait_takes_memory : Solve → Bool
wait_takes_memory (ended n (Unsat w)) = true
wait_takes_memory solve = false

-- the calls that want of memory may answer, once they aren't refused
abbrev pub takes_memory : State → Call → Bool
takes_memory s Pause = false
takes_memory s Resume = false
takes_memory s Stop = false
takes_memory s Poll = false
takes_memory s Untest = false
takes_memory s (DropGuard g) = false
takes_memory s Known = false
takes_memory s Bye = false
takes_memory s Shut = false
takes_memory s Wait = wait_takes_memory s.solve
takes_memory s (Work mark) = is_some (live_run s)
takes_memory s call = true

-- a call with a payload, which takes memory to read
abbrev pub is_load : Call → Bool
is_load (LoadCnf bytes) = true
is_load call = false

-- the refusals that are told of a load only once its payload was read
abbrev pub is_of_payload : Refusal → Bool
is_of_payload refusal.Lit = true
is_of_payload refusal.Limit = true
is_of_payload (refusal.Payload line gate code) = true
is_of_payload r = false

-- the answer where there is a refusal: it, or want of memory to read a payload in its place
abbrev pub IsRefused : Call → Reply → Refusal → Type 0
IsRefused call answer r = (answer ≡ reply.Refused r)
    ⊎ ((answer ≡ reply.NoMemory) × (is_load call ≡ true) × (is_of_payload r ≡ true))

-- the reply to a call: the refusal where there is one, else an answer or want of memory
abbrev pub Replied : State → Call → Reply → Option Refusal → Type 0
Replied s call answer (Some r) = IsRefused call answer r
Replied s call answer None = Answers s call answer
    ⊎ ((answer ≡ reply.NoMemory) × (takes_memory s call ≡ true))

-- an entry that the state allows
pub record Allows (s : State) (call : Call) (answer : Reply) : Type 0 where
  pub may_come : MayCome s call
  pub replied : Replied s call answer (refuses s call)

-- an entry of a history: who called, the call and its reply
pub record Entry : Type 0 where
  pub by : ℕ
  pub call : Call
  pub reply : Reply

-- the state after entries: a fold of `after`
unfoldable pub after_all : State → List Entry → State
after_all s [] = s
after_all s (e ∷ es) = after_all (after s e.call e.reply) es

-- each entry is allowed by the state before it
abbrev pub IsLegalFrom : State → List Entry → Type 0
IsLegalFrom s [] = Unit {0}
IsLegalFrom s (e ∷ es) = Allows s e.call e.reply × IsLegalFrom (after s e.call e.reply) es

-- a legal history of a machine
pub record IsLegal (entries : List Entry) : Type 0 where
  pub each : IsLegalFrom opening entries

-- a step of a machine: the entry is allowed, and the state after it is its
pub record Step (old : State) (call : Call) (answer : Reply) (new : State) : Type 0 where
  pub allowed : Allows old call answer
  pub new_is : new ≡ after old call answer
