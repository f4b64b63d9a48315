-- What contracts see of a pass.
use Rattle.std.specs.Prelude.{◌≡◌, ℕ, ◌^◌, if◌then◌else◌, List, [], ◌∷◌, map, Contains, false, ◌==◌}
use Rattle.gi_model.specs.State.{opening}
use Rattle.gi_model.specs.History.{Entry}
use Rattle.gi_model.specs.declared.phase.Phase.{Phase}
use Rattle.gi_model.specs.declared.phase.Phase.TheVariants as phase
use Rattle.gi_turn.specs.declared.view.View.{View}
use Rattle.gi_turn.specs.declared.view.Entry.{Entry as Turn}
use Rattle.gi_turn.specs.Known.{Place}
use Rattle.gi_turn.specs.Views.{KnowsPhases, KnowsMarks}
use Rattle.gi_room.specs.Histories.{AreTurns, IsStarted, history_in}

-- Its room and its number there, the history that it has seen, how many entries it may still make,
-- the numbers that it holds and those that were split off it, how often it has split, the marks
-- that it asked with the lengths of history that it had seen, what it glanced at, and how often it
-- looked for a mark.
pub record Seen : Type 0 where
  pub place : Place
  pub number : ℕ
  pub history : List Entry
  pub left : ℕ
  pub held : List ℕ
  pub kin : List ℕ
  pub splits : ℕ
  pub asked : List (ℕ × ℕ)
  pub glances : List (ℕ × Phase)
  pub sees : ℕ

-- the phase of a number in HEAD
abbrev pub phase_at : ℕ → Phase
phase_at n =
    if n == 0 then phase.Idle else
    if n == 1 then phase.Live else
    if n == 2 then phase.Paused else
    if n == 3 then phase.Ended else
    if n == 4 then phase.Shut else phase.Dead

abbrev pub glance_of : ℕ × ℕ → ℕ × Phase
glance_of g = (g.0, phase_at g.1)

abbrev pub seen_of : Place → View → Seen
seen_of place v = record {
  place = place;
  number = v.number;
  history = history_in v.seen;
  left = v.left;
  held = v.held;
  kin = v.kin;
  splits = v.splits;
  asked = v.asked;
  glances = map glance_of v.glances;
  sees = v.sees;
}

-- which marks may be asked over turns
abbrev pub MayAsk : List Turn → ℕ → Type 0
MayAsk log mark = IsStarted (history_in log) mark

-- what a seat knows between its turns
pub record IsPassView (v : View) : Type 0 where
  pub idle : v.turn ≡ false
  pub opened : v.opened ≡ 0
  pub turns : AreTurns opening v.seen
  pub phases : KnowsPhases v
  pub marks : KnowsMarks MayAsk v
  pub own : Contains v.held v.number

-- the first pass of a room
abbrev pub new_pass : Place → Seen
new_pass place = record {
  place = place;
  number = 0;
  history = [];
  left = 2 ^ 56;
  held = 0 ∷ [];
  kin = [];
  splits = 0;
  asked = [];
  glances = [];
  sees = 0;
}
