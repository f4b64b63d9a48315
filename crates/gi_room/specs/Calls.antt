-- What a call does to a pass.
use Rattle.std.specs.Prelude.{◌≡◌, ◌≢◌, ℕ, ◌+◌, ◌-◌, ◌/◌, ◌≤◌, ◌⊎◌, Bool, true, false, List, [], ◌∷◌, ◌++◌, length, take, All, Contains, Some, slice_get}
use Rattle.std.specs.List.{sum_by}
use Rattle.gi_model.specs.State.{State, opening, phase_of}
use Rattle.gi_model.specs.History.{Entry, IsLegal, after_all, takes_memory}
use Rattle.gi_model.specs.Refusals.{is_work}
use Rattle.gi_model.specs.Bound.{IsQuiet, StartsNone, IsShort}
use Rattle.gi_model.specs.declared.calls.Call.{Call}
use Rattle.gi_model.specs.declared.calls.Call.TheVariants as call
use Rattle.gi_model.specs.declared.phase.Phase.{Phase}
use Rattle.gi_model.specs.declared.phase.Phase.TheVariants as phase
use Rattle.gi_model.specs.declared.replies.Reply.{Reply}
use Rattle.gi_model.specs.declared.replies.Reply.TheVariants as reply
use Rattle.gi_turn.specs.Numbers.{child}
use Rattle.gi_room.specs.Entries.{all_own_of, own_of}
use Rattle.gi_room.specs.Histories.{IsStarted, mark_of}
use Rattle.gi_room.specs.Seen.{Seen}

-- the glance names the phase after so many entries
abbrev pub Names : List Entry → ℕ × Phase → Type 0
Names es g = g.1 ≡ phase_of (after_all opening (take g.0 es))

-- each glance at a length that the history has reached does
abbrev pub KnowsPhases : Seen → Type 0
KnowsPhases p = All (λ g. g.0 ≤ length p.history → Names p.history g) p.glances

-- the history has reached all glances, and each does
abbrev pub HasReached : Seen → Type 0
HasReached p = All (λ g. (g.0 ≤ length p.history) × Names p.history g) p.glances

-- the pass holds the first number, and each that was split off by the passes that it took in: so no
-- other pass holds any
abbrev pub Sole : Seen → Type 0
Sole p = Contains p.held 0 × ((n : ℕ) → Contains p.kin n → Contains p.held n)

-- the same numbers, asks and splits, in the same room
pub record HoldsAsBefore (old new : Seen) : Type 0 where
  pub place : new.place ≡ old.place
  pub number : new.number ≡ old.number
  pub held : new.held ≡ old.held
  pub kin : new.kin ≡ old.kin
  pub splits : new.splits ≡ old.splits
  pub asked : new.asked ≡ old.asked

-- others' entries, of no number that the pass holds, none where it is sole, and then the pass's own
pub record Adds (what : Call) (answer : Reply) (old new : Seen) : Type 0 where
  pub others : List Entry
  pub foreign : All (λ e. ¬ Contains old.held e.by) others
  pub no_own : all_own_of old.number others ≡ []
  pub alone : Sole old → others ≡ []
  pub history : new.history
      ≡ old.history ++ (others ++ record { by = old.number; call = what; reply = answer } ∷ [])
  pub legal : IsLegal new.history
  pub left : old.left ≡ new.left + 1
  pub holds : HoldsAsBefore old new
  pub sees : old.sees ≤ new.sees
  pub reached : HasReached new

-- the mark of a slice is no less than any that was asked
abbrev pub Heeds : Reply → List (ℕ × ℕ) → ℕ → Type 0
Heeds (reply.Worked news now) asked mark = (m l : ℕ) → Contains asked (m, l) → m ≤ mark
Heeds answer asked mark = Unit {0}

-- how often a slice looks for a mark at least: once more than it has news
abbrev pub looks_of : Reply → ℕ
looks_of (reply.Worked news now) = length news + 1
looks_of answer = 0

abbrev pub all_looks : List Entry → ℕ
all_looks entries = sum_by (λ e. looks_of e.reply) entries

-- a turn of work
pub record Works (answer : Reply) (old new : Seen) : Type 0 where
  pub mark : ℕ
  pub adds : Adds (call.Work mark) answer old new
  pub heeds : Heeds answer old.asked mark
  pub looks : old.sees + looks_of answer ≤ new.sees

-- help: no call was left, or there was a turn of work
abbrev pub Helps : Reply → Seen → Seen → Type 0
Helps reply.Spent old new = (old.left ≡ 0) × (new ≡ old)
Helps answer old new = Works answer old new

-- one turn for a wait on a running solve
pub record Waits (what : Call) (old new : Seen) : Type 0 where
  pub wait : what ≡ call.Wait
  pub answer : Reply
  pub busy : answer ≢ reply.Idle
  pub works : Works answer old new

-- an entry of work that has the pass's number, and heeds what the pass asked
pub record IsHelp (p : Seen) (e : Entry) : Type 0 where
  pub by : e.by ≡ p.number
  pub work : is_work e.call ≡ true
  pub heeds : Heeds e.reply p.asked (mark_of e.call)

-- and isn't idle
pub record IsOwnWork (p : Seen) (e : Entry) : Type 0 where
  pub help : IsHelp p e
  pub busy : e.reply ≢ reply.Idle

-- what came before a call's own entry: others' entries, and own work where it is a wait
pub record ComesBefore (what : Call) (old : Seen) (before : List Entry) : Type 0 where
  pub works : All (λ e. Contains old.held e.by → IsOwnWork old e) before
  pub no_call : own_of old.number before ≡ []
  pub waits : (all_own_of old.number before ≡ []) ⊎ (what ≡ call.Wait)

-- so far, before its own entry
pub record InCall (what : Call) (old now : Seen) : Type 0 where
  pub before : List Entry
  pub comes : ComesBefore what old before
  pub history : now.history ≡ old.history ++ before
  pub left : old.left ≡ now.left + length (all_own_of old.number before)
  pub holds : HoldsAsBefore old now
  pub looks : old.sees + all_looks (all_own_of old.number before) ≤ now.sees

-- a call that was answered
pub record Called (what : Call) (answer : Reply) (old new : Seen) : Type 0 where
  pub before : List Entry
  pub comes : ComesBefore what old before
  pub history : new.history
      ≡ old.history ++ (before ++ record { by = old.number; call = what; reply = answer } ∷ [])
  pub legal : IsLegal new.history
  pub left : old.left ≡ new.left + length (all_own_of old.number before) + 1
  pub looks : old.sees + all_looks (all_own_of old.number before) ≤ new.sees
  pub reached : HasReached new

-- no call was left for its entry, or it was made
abbrev pub Calls : Call → Reply → Seen → Seen → Type 0
Calls what reply.Spent old new = InCall what old new × (new.left ≡ 0) × IsLegal new.history
Calls what answer old new = Called what answer old new

-- whatever the state, the call takes no memory
abbrev pub NeedsNoMemory : Call → Type 0
NeedsNoMemory what = (s : State) → takes_memory s what ≡ false

-- a glance more
abbrev pub glanced : Seen → ℕ × Phase → Seen
glanced p g = record p { glances = p.glances ++ g ∷ [] }

-- an ask more
abbrev pub after_ask : Seen → ℕ → Seen
after_ask p serial = record p { asked = p.asked ++ (serial, length p.history) ∷ [] }

-- what a pass keeps and what it gives at a split
abbrev pub split_left : Seen → Seen
split_left p = record p {
  left = p.left - p.left / 2;
  splits = p.splits + 1;
  kin = child p.number p.splits ∷ p.kin;
}

abbrev pub split_right : Seen → Seen
split_right p = record p {
  left = p.left / 2;
  splits = 0;
  number = child p.number p.splits;
  held = child p.number p.splits ∷ [];
  kin = [];
  asked = [];
}

-- the history is as long as before, or longer, by entries of no number that was held
pub record HasGrown (old new : Seen) : Type 0 where
  pub more : List Entry
  pub history : new.history ≡ old.history ++ more
  pub foreign : All (λ e. ¬ Contains old.held e.by) more

-- one pass takes another in
pub record Joins (old other new : Seen) : Type 0 where
  pub place : new.place ≡ old.place
  pub number : new.number ≡ old.number
  pub splits : new.splits ≡ old.splits
  pub left : new.left ≡ old.left + other.left
  pub held : new.held ≡ old.held ++ other.held
  pub kin : new.kin ≡ old.kin ++ other.kin
  pub asked : new.asked ≡ old.asked ++ other.asked
  pub one : (new.history ≡ old.history) ⊎ (new.history ≡ other.history)
  pub grown : HasGrown old new
  pub grown_other : HasGrown other new

-- why there are marks in a history: each could be asked over what came before it; where the pass is
-- sole it has asked it, and holds the numbers of all entries
pub record HasCauses (p : Seen) : Type 0 where
  pub lawful : (k : ℕ) (e : Entry) → slice_get p.history k ≡ Some e → mark_of e.call ≢ 0
      → (l : ℕ) × (l ≤ k) × IsStarted (take l p.history) (mark_of e.call)
  pub sole : Sole p → (k : ℕ) (e : Entry) → slice_get p.history k ≡ Some e → mark_of e.call ≢ 0
      → (l : ℕ) × (l ≤ k) × Contains p.asked (mark_of e.call, l)
  pub whole : Sole p → All (λ e. Contains p.held e.by) p.history

-- each solve of the history is short: from its start on, while no edit is accepted and no other
-- solve is started, it learnt at most 3^n clauses over its n variables
abbrev pub SolvesAreShort : List Entry → Type 0
SolvesAreShort history = (es more : List Entry) (by budget serial : ℕ)
    → history ≡ es ++ record { by = by; call = call.Solve budget; reply = reply.Started serial }
    ∷ more → All IsQuiet more → All StartsNone more
    → IsShort (after_all opening es).problem.vars budget more (after_all opening history)

-- the history has grown by others' entries and own work alone
pub record OnlyHelps (old new : Seen) : Type 0 where
  pub entries : List Entry
  pub history : new.history ≡ old.history ++ entries
  pub helps : All (λ e. Contains old.held e.by → IsHelp old e) entries
  pub left : old.left ≡ new.left + length (all_own_of old.number entries)
  pub looks : old.sees + all_looks (all_own_of old.number entries) ≤ new.sees
  pub holds : HoldsAsBefore old new

-- the machine takes no more calls
abbrev pub is_over : Phase → Bool
is_over phase.Shut = true
is_over phase.Dead = true
is_over other = false

-- the last glance named such a phase
pub record SawEnd (p : Seen) : Type 0 where
  pub before : List (ℕ × Phase)
  pub last : ℕ × Phase
  pub glances : p.glances ≡ before ++ last ∷ []
  pub over : is_over last.1 ≡ true

-- why help ends: no call was left, or the machine was over at the last glance
abbrev pub HelpEnds : Seen → Type 0
HelpEnds p = (p.left ≡ 0) ⊎ SawEnd p

-- The pass holds the first number, and each that was split off but for these, which other passes
-- hold.
abbrev pub SoleBut : Seen → List ℕ → Type 0
SoleBut p out = Contains p.held 0
    × ((n : ℕ) → Contains p.kin n → Contains p.held n ⊎ Contains out n)

-- all that was split off the pass came back to it
abbrev pub IsClosed : Seen → Type 0
IsClosed p = (n : ℕ) → Contains p.kin n → Contains p.held n

-- the numbers that a pass has split off, and what it does otherwise keep
abbrev pub SplitsAreCounted : Type 0
SplitsAreCounted = (p : Seen) (out : List ℕ) → SoleBut p out
    → SoleBut (split_left p) (child p.number p.splits ∷ out)

-- the last that is out comes back
abbrev pub JoinsAreCounted : Type 0
JoinsAreCounted = (p q r : Seen) (n : ℕ) (out : List ℕ) → SoleBut p (n ∷ out) → IsClosed q
    → Contains q.held n → Joins p q r → SoleBut r out

abbrev pub NoneIsOut : Type 0
NoneIsOut = (p : Seen) → SoleBut p [] → Sole p
