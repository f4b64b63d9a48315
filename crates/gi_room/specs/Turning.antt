-- What a turn does to what a seat knows.
use Rattle.std.specs.Prelude.{◌≡◌, ℕ, ◌+◌, ◌≤◌, List, [], ◌∷◌, ◌++◌, length, All, Contains, true}
use Rattle.gi_model.specs.State.{opening}
use Rattle.gi_model.specs.History.{Allows, after_all}
use Rattle.gi_model.specs.declared.calls.Call.{Call}
use Rattle.gi_model.specs.declared.calls.Call.TheVariants as call
use Rattle.gi_model.specs.declared.replies.Reply.{Reply}
use Rattle.gi_turn.specs.declared.view.View.{View}
use Rattle.gi_turn.specs.declared.view.Entry.{Entry as Turn}
use Rattle.gi_turn.specs.Entries.{entry_of}
use Rattle.gi_turn.specs.Views.{Sole}
use Rattle.gi_room.specs.Telling.{told_of}
use Rattle.gi_room.specs.Hearing.{Heard}
use Rattle.gi_room.specs.Histories.{AreTurns, history_in, mark_of}
use Rattle.gi_room.specs.Seen.{IsPassView}

-- the seat has the turn, and knows what was done
pub record IsInTurn (v : View) : Type 0 where
  pub turn : v.turn ≡ true
  pub opened : v.opened ≡ 0
  pub turns : AreTurns opening v.seen
  pub own : Contains v.held v.number

-- others' entries came, of no number that the seat holds, none where it is sole; a call went
pub record Waited (v w : View) : Type 0 where
  pub others : List Turn
  pub seen : w.seen ≡ v.seen ++ others
  pub foreign : All (λ e. ¬ Contains v.held e.by) others
  pub alone : Sole v → others ≡ []
  pub left : v.left ≡ w.left + 1
  pub number : w.number ≡ v.number
  pub held : w.held ≡ v.held
  pub kin : w.kin ≡ v.kin
  pub splits : w.splits ≡ v.splits
  pub asked : w.asked ≡ v.asked
  pub sees : v.sees ≤ w.sees
  pub reached : All (λ g. g.0 ≤ length w.seen) w.glances

-- the turn was ended with this entry
pub record Ended (what : Call) (answer : Reply) (v w : View) : Type 0 where
  pub phase : ℕ
  pub allowed : Allows (after_all opening (history_in v.seen)) what answer
  pub seen : w.seen ≡ v.seen ++ entry_of v.number phase (mark_of what) (told_of what answer) ∷ []
  pub kept : IsPassView w
  pub left : w.left ≡ v.left
  pub number : w.number ≡ v.number
  pub held : w.held ≡ v.held
  pub kin : w.kin ≡ v.kin
  pub splits : w.splits ≡ v.splits
  pub asked : w.asked ≡ v.asked
  pub glances : w.glances ≡ v.glances
  pub sees : w.sees ≡ v.sees

-- the turn was one of work, with the greatest mark that was heard meanwhile
pub record Worked (answer : Reply) (v w : View) : Type 0 where
  pub mark : ℕ
  pub mid : View
  pub heard : Heard mark answer v mid
  pub ended : Ended (call.Work mark) answer mid w
