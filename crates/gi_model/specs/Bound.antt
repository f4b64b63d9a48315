-- How much a solve can spend.
use Rattle.std.specs.Prelude.{◌≡◌, ◌≢◌, ℕ, ◌+◌, ◌^◌, ◌≤◌, ◌⊎◌, Bool, true, false, List, [], ◌∷◌, ◌++◌, All}
use Rattle.gi_model.specs.State.{State, Run, Solve, running, paused, ended, opening}
use Rattle.gi_model.specs.History.{Entry, IsLegal, after_all}
use Rattle.gi_model.specs.Told.{told_spent}
use Rattle.gi_model.specs.declared.calls.Call.{Call}
use Rattle.gi_model.specs.declared.calls.Call.TheVariants.{Vars, Add, NewGuard, Under, DropGuard, Solve as Start}
use Rattle.gi_model.specs.declared.replies.Reply.{Reply}
use Rattle.gi_model.specs.declared.replies.Reply.TheVariants as reply
use Rattle.gi_model.specs.declared.replies.Now.TheVariants.{Live}
use Rattle.gi_model.specs.declared.replies.Verdict.TheVariants.{Unknown}
use Rattle.gi_model.specs.declared.replies.Cause.TheVariants.{Budget}
use Rattle.gi_model.specs.declared.refusal.Refusal.{Refusal}

-- the calls that a paused solve admits and that edit its problem
abbrev pub edits : Call → Bool
edits (Vars k) = true
edits (Add c) = true
edits NewGuard = true
edits (Under gs c) = true
edits (DropGuard g) = true
edits call = false

-- no edit is accepted: it was refused, or memory was wanting
abbrev pub IsQuiet : Entry → Type 0
IsQuiet e = edits e.call ≡ true
    → ((r : Refusal) × (e.reply ≡ reply.Refused r)) ⊎ (e.reply ≡ reply.NoMemory)

-- no solve is started
abbrev pub StartsNone : Entry → Type 0
StartsNone e = (n : ℕ) → e.reply ≢ reply.Started n

-- the solve under way
abbrev pub IsUnderWay : Solve → Run → Type 0
IsUnderWay solve r = (solve ≡ running r) ⊎ (solve ≡ paused r)

-- 1 for a slice of work that leaves its solve live
abbrev pub live_of : Reply → ℕ
live_of (reply.Worked news Live) = 1
live_of answer = 0

-- how many slices of work leave their solve live
unfoldable pub live_slices : List Entry → ℕ
live_slices [] = 0
live_slices (e ∷ es) = live_of e.reply + live_slices es

-- since a solve over so many variables was started with this budget: at most 3^n clauses were
-- learnt, the last slice's among them, and at most 3^n slices left it live; a solve that ran out of
-- budget had no more than 3^n
pub record IsShort (vars budget : ℕ) (more : List Entry) (s : State) : Type 0 where
  pub news : told_spent 0 more ≤ 3 ^ vars
  pub live : live_slices more ≤ 3 ^ vars
  pub run : (r : Run) → IsUnderWay s.solve r → r.spent ≤ 3 ^ vars
  pub ended : (serial b : ℕ) → s.solve ≡ ended serial (Unknown (Budget b))
      → (b ≡ budget) × (budget ≤ 3 ^ vars)

-- so it is from the start of a solve on, while no edit is accepted and no other solve is started
abbrev pub SolvesAreShort : Type 0
SolvesAreShort = (es more : List Entry) (by budget serial : ℕ)
    → let start : Entry = record { by = by; call = Start budget; reply = reply.Started serial }
    in IsLegal (es ++ start ∷ more) → All IsQuiet more → All StartsNone more
    → IsShort (after_all opening es).problem.vars budget more
    (after_all opening (es ++ start ∷ more))
