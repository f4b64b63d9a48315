-- Laws of the script.
use Rattle.std.specs.Prelude.{◌≡◌, ◌≢◌, ℕ, ◌+◌, ◌*◌, ◌≤◌, ◌==◌, Bool, true, not, if◌then◌else◌, List, [], ◌∷◌, ◌++◌, length, map, filter}
use Rattle.std.specs.List.{AllByRecursion}
use Rattle.gi_lit.specs.Truth.{Satisfies}
use Rattle.gi_model.specs.History.{Entry, IsLegal}
use Rattle.gi_model.specs.Refusals.{is_work}
use Rattle.gi_model.specs.declared.calls.Call.{Call}
use Rattle.gi_model.specs.declared.calls.Call.TheVariants.{Bye}
use Rattle.gi_model.specs.declared.refusal.Refusal.{Refusal}
use Rattle.gi_model.specs.declared.refusal.Refusal.TheVariants as refusal
use Rattle.gi_model.specs.declared.replies.Reply.{Reply}
use Rattle.gi_model.specs.declared.replies.Reply.TheVariants as reply
use Rattle.gi_net.specs.Entries.{own_of}
use Rattle.gi_net.specs.Served.{Served}
use Rattle.gi_net.specs.declared.how.How.TheVariants as how
use Rattle.gi_wire.specs.Items.{items}
use Rattle.gi_drill.specs.Counting.{noted, tally_of}
use Rattle.gi_drill.specs.Instance.{clauses, plan}
use Rattle.gi_drill.specs.Script.{numbered, script, script_text}

-- the plan satisfies the clauses
abbrev pub PlanSatisfies : Type 0
PlanSatisfies = (n : ℕ) → Satisfies (plan n) (clauses n)

-- each line of the script is whole and asks for its call
abbrev pub ScriptIsRead : Type 0
ScriptIsRead = (ended : Bool) (n : ℕ) → items ended (script_text n) ≡ numbered 1 (script n)

-- the rounds have 7 calls each, and 607 stand around them; a call's line has at most 100 bytes, its
-- LF among them
abbrev pub ScriptIsShort : Type 0
ScriptIsShort = (n : ℕ) → (length (script n) ≡ 607 + 7 * n)
    × (length (script_text n) ≤ 100 * (607 + 7 * n))

-- the last call of the script is the only bye
abbrev pub ByeIsLast : Type 0
ByeIsLast = (n : ℕ) → (before : List Call) × (script n ≡ before ++ Bye ∷ [])
    × AllByRecursion (λ c. c ≢ Bye) before

-- the entries without work
abbrev pub without_work : List Entry → List Entry
without_work entries = filter (λ e. not (is_work e.call)) entries

-- the machine stands: it has not died for want of memory
pub record IsLively (answer : Reply) : Type 0 where
  pub memory : answer ≢ reply.NoMemory
  pub alive : answer ≢ reply.Refused refusal.Dead

-- a history that begins with the calls of the script, work among them, on a machine that stands
pub record Plays (rounds : ℕ) (front back : List Entry) : Type 0 where
  pub few : rounds ≤ 10000
  pub legal : IsLegal (front ++ back)
  pub calls_are : map (λ e. e.call) (without_work front) ≡ script rounds
  pub lively : AllByRecursion (λ e. IsLively e.reply) (without_work front)

-- a session that was given the script, all of it or its beginning, and ended by bye, has its calls
-- on a machine that stands
abbrev pub SessionsPlay : Type 0
SessionsPlay = (n : ℕ) (ended : Bool) (bytes rest : List ℕ) (own : List Entry) (left : ℕ)
    (out : List ℕ) → bytes ++ rest ≡ script_text n → (ended ≡ true → rest ≡ [])
    → Served bytes ended own (left ≡ 0) out how.Bye
    → (map (λ e. e.call) own ≡ script n) × AllByRecursion (λ e. IsLively e.reply) own

-- where all entries are of one caller, its calls are the entries without work
abbrev pub OwnCallsAreAll : Type 0
OwnCallsAreAll = (number : ℕ) (entries : List Entry) → AllByRecursion (λ e. e.by ≡ number) entries
    → own_of number entries ≡ without_work entries

-- no refusal
abbrev pub IsTaken : Entry → Type 0
IsTaken e = (r : Refusal) → e.reply ≢ reply.Refused r

-- no call of the script is refused
abbrev pub NoneIsRefused : Type 0
NoneIsRefused = (rounds : ℕ) (front back : List Entry) → Plays rounds front back
    → AllByRecursion IsTaken front

-- there are 150 variables in the end, and with the guard 151
abbrev pub VariablesAreTold : Type 0
VariablesAreTold = (rounds : ℕ) (front back : List Entry) → Plays rounds front back
    → (tally_of front).vars ≡ (if rounds == 0 then 150 else 151)

-- all clauses are taken
abbrev pub ClausesAreTaken : Type 0
ClausesAreTaken = (rounds : ℕ) (front back : List Entry) → Plays rounds front back
    → (tally_of front).clauses ≡ 600

-- each round fails by itself
abbrev pub FewAreSat : Type 0
FewAreSat = (rounds : ℕ) (front back : List Entry) → Plays rounds front back
    → (tally_of front).sat ≤ 2

-- and all clauses together have a model
abbrev pub FewAreUnsat : Type 0
FewAreUnsat = (rounds : ℕ) (front back : List Entry) → Plays rounds front back
    → (tally_of front).unsat ≤ rounds

-- work is not counted: so what is counted of a caller's calls is what is counted of all entries,
-- where no one else calls
abbrev pub CallsAloneAreCounted : Type 0
CallsAloneAreCounted = (entries : List Entry) → tally_of (without_work entries) ≡ tally_of entries

-- a count goes on entry by entry
abbrev pub TalliesGrow : Type 0
TalliesGrow = (es : List Entry) (e : Entry)
    → tally_of (es ++ e ∷ []) ≡ noted (tally_of es) e.call e.reply
