-- Laws over the definitions.
use Rattle.std.specs.Prelude.{◌≡◌, ◌≢◌, ℕ, ◌/◌, true, Some, List, [], ◌∷◌, ◌++◌, All, Contains}
use Rattle.gi_lit.specs.Truth.{IsConsequence}
use Rattle.gi_lit.specs.Problem.{Group, in_force, full}
use Rattle.gi_lit.specs.Learnt.{IsImplied}
use Rattle.gi_model.specs.State.{State, opening, scope_assumed, phase_of}
use Rattle.gi_model.specs.Fits.{fits}
use Rattle.gi_model.specs.Refusals.{refuses}
use Rattle.gi_model.specs.Effects.{after}
use Rattle.gi_model.specs.History.{MayCome, Entry, IsLegal, Allows, after_all}
use Rattle.gi_model.specs.Kept.{run_assumed, IsKept}
use Rattle.gi_model.specs.Told.{told_known, told_spent, HasSpent}
use Rattle.gi_model.specs.declared.calls.Call.{Call}
use Rattle.gi_model.specs.declared.calls.Call.TheVariants.{NewGuard, Reasons, Wait}
use Rattle.gi_model.specs.declared.phase.Phase.TheVariants.{Live}
use Rattle.gi_model.specs.declared.replies.Reply.{Reply}
use Rattle.gi_model.specs.declared.replies.Reply.TheVariants as reply
use Rattle.gi_model.specs.declared.refusal.Refusal.{Refusal}

-- every legal history keeps the machine's invariant
abbrev pub HistoriesAreKept : Type 0
HistoriesAreKept = (es : List Entry) → IsLegal es → IsKept (after_all opening es)

-- each learnt clause is implied by the problem
abbrev pub KnownIsImplied : Type 0
KnownIsImplied = (es : List Entry) → IsLegal es
    → All (IsImplied (after_all opening es).problem) (after_all opening es).known

-- the learnt clauses are those that the entries alone tell
abbrev pub KnownIsTold : Type 0
KnownIsTold = (es : List Entry) → IsLegal es → (after_all opening es).known ≡ told_known [] es

-- and so is what a solve has spent
abbrev pub SpentIsTold : Type 0
SpentIsTold = (es : List Entry) → IsLegal es
    → HasSpent (after_all opening es).solve (told_spent 0 es)

-- no literal of the variable
abbrev pub IsWithout : ℕ → List ℕ → Type 0
IsWithout g ls = All (λ l. l / 2 ≢ g) ls

-- nothing is left that names the guard
pub record IsClean (s : State) (g : ℕ) : Type 0 where
  pub groups : All (λ (q : Group). ¬ Contains q.guards g) s.problem.groups
  pub clauses : All (IsWithout g) (full s.problem)
  pub known : All (IsWithout g) s.known
  pub pending : IsWithout g s.pending
  pub scopes : IsWithout g (scope_assumed s.scopes)
  pub run : IsWithout g (run_assumed s.solve)

-- a guard that is handed out is clean, also while a solve is paused
abbrev pub GuardsAreClean : Type 0
GuardsAreClean = (es : List Entry) (g : ℕ) → IsLegal es
    → Allows (after_all opening es) NewGuard (reply.Guard g)
    → IsClean (after (after_all opening es) NewGuard (reply.Guard g)) g

-- a literal is a consequence of its reasons and the clauses in force under them
abbrev pub ReasonsShow : Type 0
ReasonsShow = (es : List Entry) (m : ℕ) (rs : List ℕ) → IsLegal es
    → let s = after_all opening es in Allows s (Reasons m) (reply.Reasons rs)
    → IsConsequence (in_force s.problem rs) rs m

-- a refusal is the one that the table names
abbrev pub RefusalsAreNamed : Type 0
RefusalsAreNamed = (s : State) (call : Call) (r : Refusal) → Allows s call (reply.Refused r)
    → refuses s call ≡ Some r

-- answers that no entry has
abbrev pub IsNeverAnswered : Reply → Type 0
IsNeverAnswered answer = (s : State) (call : Call) → ¬ Allows s call answer

-- a call that fits may come, but a wait not in the live phase
abbrev pub CallsMayCome : Type 0
CallsMayCome = (s : State) (call : Call) → fits call ≡ true → (call ≡ Wait → phase_of s ≢ Live)
    → MayCome s call

-- a legal history goes on with an entry that its state allows
abbrev pub HistoriesGoOn : Type 0
HistoriesGoOn = (es : List Entry) (e : Entry) → IsLegal es
    → Allows (after_all opening es) e.call e.reply → IsLegal (es ++ e ∷ [])

-- and its state is the one after that entry
abbrev pub StatesGoOn : Type 0
StatesGoOn = (es : List Entry) (e : Entry)
    → after_all opening (es ++ e ∷ []) ≡ after (after_all opening es) e.call e.reply
