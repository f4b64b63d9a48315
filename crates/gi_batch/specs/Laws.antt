-- What holds of a new machine that is asked for a file alone.
use Rattle.std.specs.Prelude.{◌≡◌, ℕ, ◌+◌, ◌*◌, ◌^◌, ◌≤◌, ◌⊎◌, Bool, true, false, if◌then◌else◌, List, [], ◌∷◌, ◌++◌, length, All}
use Rattle.std.specs.List.{list_any}
use Rattle.gi_lit.specs.Truth.{Satisfies, MakesTrue, Fail}
use Rattle.gi_lit.specs.Learnt.{AreFresh}
use Rattle.gi_model.specs.History.{Entry, IsLegal}
use Rattle.gi_model.specs.Told.{told_known}
use Rattle.gi_model.specs.declared.calls.Call.TheVariants as call
use Rattle.gi_model.specs.declared.replies.Reply.{Reply}
use Rattle.gi_model.specs.declared.replies.Reply.TheVariants as reply
use Rattle.gi_model.specs.declared.replies.Status.TheVariants as status
use Rattle.gi_model.specs.declared.replies.Why.{Why}
use Rattle.gi_model.specs.declared.replies.Why.TheVariants as why
use Rattle.gi_dimacs.specs.Texts.{IsGood, IsGoodIcnf}
use Rattle.gi_dimacs.specs.declared.cnf.Cnf.{Cnf}
use Rattle.gi_dimacs.specs.declared.cnf.Icnf.{Icnf}
use Rattle.gi_net.specs.Entries.{all_own_of, is_work, own_of}
use Rattle.gi_batch.specs.Steps.{BatchStep, Solve, cnf_steps, icnf_steps}
use Rattle.gi_batch.specs.Doing.{Does}
use Rattle.gi_batch.specs.Done.{is_proper}
use Rattle.gi_batch.specs.Told.{news_since, nothing_told, problem_of, told, told_step, told_steps}

-- the steps of a value that some bytes have
abbrev pub AreGood : List BatchStep → Type 0
AreGood steps = ((v : Cnf) × IsGood v × (steps ≡ cnf_steps v))
    ⊎ ((v : Icnf) × IsGoodIcnf v × (steps ≡ icnf_steps v))

-- no stop was asked for
abbrev pub IsUnstopped : Entry → Type 0
IsUnstopped e = (mark : ℕ) → e.call ≡ call.Work mark → mark ≡ 0

-- the whole history of a machine that one caller has asked for these steps, or for a front of their
-- calls
pub record IsHistoryOf (number budget : ℕ) (steps : List BatchStep) (es : List Entry) : Type 0 where
  pub legal : IsLegal es
  pub alone : all_own_of number es ≡ es
  pub unstopped : All IsUnstopped es
  pub few : length es ≤ 2 ^ 56
  pub rest : List Entry
  pub does : Does budget steps (own_of number es ++ rest)

-- an entry of such a history, and what stands before it
pub record StandsIn (budget : ℕ) (before : List Entry) (e : Entry) : Type 0 where
  pub number : ℕ
  pub steps : List BatchStep
  pub after : List Entry
  pub positive : 1 ≤ budget
  pub good : AreGood steps
  pub history : IsHistoryOf number budget steps (before ++ e ∷ after)

abbrev pub lacks_memory : Reply → Bool
lacks_memory reply.NoMemory = true
lacks_memory other = false

-- some entry was answered so
abbrev pub has_failed : List Entry → Bool
has_failed es = list_any (λ e. lacks_memory e.reply) es

-- no call is refused, and each is answered as it is meant, unless memory was wanting for it or
-- before
abbrev pub CallsAreAnswered : Type 0
CallsAreAnswered = (budget : ℕ) (before : List Entry) (e : Entry) → StandsIn budget before e
    → is_work e.call ≡ false
    → (is_proper e.call e.reply ≡ true) ⊎ (has_failed (before ++ e ∷ []) ≡ true)

-- the true literal of each variable from v on, rising
unfoldable pub literals_from : ℕ → List Bool → List ℕ
literals_from v [] = []
literals_from v (b ∷ bs) = (if b then 2 * v else 2 * v + 1) ∷ literals_from (v + 1) bs

-- values that satisfy all clauses so far and the assumptions of the solve; the literals are the
-- true ones of all variables
pub record IsModelOf (before : List Entry) (literals : List ℕ) : Type 0 where
  pub values : List Bool
  pub count : length values ≡ (told before).vars
  pub clauses : Satisfies values (told before).clauses
  pub assumed : MakesTrue values (told before).assumed
  pub are : literals ≡ literals_from 1 values

-- each model that is told is one
abbrev pub ModelsAreTrue : Type 0
ModelsAreTrue = (budget : ℕ) (before : List Entry) (e : Entry) (literals : List ℕ)
    → StandsIn budget before e
    → e.call ≡ call.Model → e.reply ≡ reply.Model literals → IsModelOf before literals

-- where a wait is answered that there are no values, nothing satisfies all clauses so far and the
-- assumptions of the solve
abbrev pub FailuresAreTrue : Type 0
FailuresAreTrue = (budget : ℕ) (before : List Entry) (e : Entry) (serial : ℕ) (failed : List ℕ)
    → StandsIn budget before e
    → e.call ≡ call.Wait → e.reply ≡ reply.Unsat serial failed
    → Fail (told before).clauses (told before).assumed

-- the solve has learnt as many clauses as its budget, each of them fresh, and so the budget isn't
-- above 3^n
pub record IsSpent (budget : ℕ) (before : List Entry) : Type 0 where
  -- what was known when the solve was started
  pub start : List (List ℕ)
  pub known : told_known [] before ≡ start ++ news_since [] before
  pub count : length (news_since [] before) ≡ budget
  pub fresh : AreFresh (problem_of (told before)) start (news_since [] before)
  pub few : budget ≤ 3 ^ (told before).vars

-- where a wait is answered that it isn't known, the budget was spent, and it wasn't stopped
abbrev pub UnknownIsSpent : Type 0
UnknownIsSpent = (budget : ℕ) (before : List Entry) (e : Entry) (serial : ℕ) (because : Why)
    → StandsIn budget before e
    → e.call ≡ call.Wait → e.reply ≡ reply.Status serial (status.Unknown because)
    → (because ≡ why.Budget) × IsSpent budget before

-- at a wait, and at a model, the machine was told the steps up to that solve, and nothing else
abbrev pub AsksAreWritten : Type 0
AsksAreWritten = (budget : ℕ) (before : List Entry) (e : Entry) (stands : StandsIn budget before e)
    → (e.call ≡ call.Wait) ⊎ (e.call ≡ call.Model)
    → (front : List BatchStep) × (rest : List BatchStep) × (stands.steps ≡ front ++ Solve ∷ rest)
    × (told before ≡ told_step (told_steps nothing_told front) Solve)
