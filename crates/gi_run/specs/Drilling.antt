-- How a drill ends the program.
use Rattle.std.specs.Prelude.{◌≡◌, ◌≢◌, ℕ, ◌<◌, ◌≤◌, ◌==◌, ◌⊎◌, if◌then◌else◌, List, [], ◌++◌, map, Some}
use Rattle.gi_outside.specs.Link.{Rose}
use Rattle.gi_outside.specs.World.{World, Wrote, WroteCut}
use Rattle.gi_model.specs.History.{Entry, IsLegal}
use Rattle.gi_net.specs.Entries.{own_of}
use Rattle.gi_net.specs.declared.how.How.{How}
use Rattle.gi_net.specs.declared.how.How.TheVariants as how
use Rattle.gi_drill.specs.Counted.{tally_since}
use Rattle.gi_drill.specs.Printing.{tally_text}
use Rattle.gi_drill.specs.Script.{script, script_text}
use Rattle.gi_drill.specs.declared.tally.Tally.{Tally}
use Rattle.gi_room.specs.Calls.{HasCauses}
use Rattle.gi_room.specs.Seen.{Seen}
use Rattle.gi_host.specs.Hosts.{IsShutAlone, Serves, Shuts}
use Rattle.gi_host.specs.Visits.{standing_of}
use Rattle.gi_run.specs.declared.drilling.Drilled.{Drilled}
use Rattle.gi_run.specs.declared.drilling.Drilled.TheVariants as drilled
use Rattle.gi_run.specs.Kept.{IsHistory, IsNew}
use Rattle.gi_run.specs.Outcome.{HasHosted}
use Rattle.gi_run.specs.Shutting.{HasLostWork}

-- the exit status that tells how it ended
abbrev pub drilled_status : Drilled → ℕ
drilled_status drilled.Done = 0
drilled_status drilled.NoMemory = 3
drilled_status drilled.Cut = 5
drilled_status drilled.TooMuch = 8
drilled_status drilled.Dead = 9

-- what is counted of the calls that were made
abbrev pub tally_of_calls : Seen → Seen → Tally
tally_of_calls before after = tally_since (standing_of before) (standing_of after)

-- a session was served and the machine shut behind it, with nobody beside it, and the answers to
-- its calls were counted
pub record ServesCounted (start end : World) (before after : Seen) (by : How)
    (t : Tally) : Type 0 where
  pub mid : Seen
  pub serves : Serves start end before mid by
  pub shuts : Shuts mid after
  pub causes : HasCauses after
  pub legal : IsLegal after.history
  pub tally_is : t ≡ tally_of_calls before mid

-- a session was served that read the script
pub record Plays (rounds : ℕ) (before after : Seen) (by : How) : Type 0 where
  pub start : World
  pub end : World
  pub rest : start.rest ≡ Some (script_text rounds)
  pub has : HasHosted start end before after by

-- There was no memory for the script, and nothing was called; or a session that read the script
-- ended because it found no memory, or because its link found none for its tape, so that a read or
-- a write failed.
abbrev pub LacksMemory : ℕ → Seen → Seen → Type 0
LacksMemory rounds before after = (after ≡ before) ⊎ Plays rounds before after how.NoMemory
    ⊎ Plays rounds before after how.ReadFault ⊎ Plays rounds before after how.WriteFault

-- why it was no session that ended by its bye and was counted
abbrev pub EndsEarly : Drilled → ℕ → Seen → Seen → Type 0
EndsEarly drilled.TooMuch rounds before after = Plays rounds before after how.TooMuch
    × (after.left ≡ 0)
EndsEarly drilled.Dead rounds before after = Plays rounds before after how.Dead
EndsEarly drilled.NoMemory rounds before after = LacksMemory rounds before after
EndsEarly drilled.Done rounds before after = ⊥
EndsEarly drilled.Cut rounds before after = ⊥

-- How a drill ends: what was counted is printed where the session ended by its bye, and else
-- nothing is.
abbrev pub DrillEnds : Drilled → ℕ → World → World → Seen → Seen → Type 0
DrillEnds drilled.Done rounds old new before after = Plays rounds before after how.Bye
    × Wrote old new (tally_text rounds (tally_of_calls before after))
DrillEnds drilled.Cut rounds old new before after = Plays rounds before after how.Bye
    × WroteCut old new (tally_text rounds (tally_of_calls before after))
DrillEnds by rounds old new before after = EndsEarly by rounds before after × (new ≡ old)

-- what is told of a session that ended so: what was counted where it ended by its bye, and else
-- nothing
abbrev pub TellsDrill : How → Drilled → ℕ → World → World → Tally → Type 0
TellsDrill how.Bye drilled.Done rounds old new t = Wrote old new (tally_text rounds t)
TellsDrill how.Bye drilled.Cut rounds old new t = WroteCut old new (tally_text rounds t)
TellsDrill how.NoMemory drilled.NoMemory rounds old new t = new ≡ old
TellsDrill how.ReadFault drilled.NoMemory rounds old new t = new ≡ old
TellsDrill how.WriteFault drilled.NoMemory rounds old new t = new ≡ old
TellsDrill how.TooMuch drilled.TooMuch rounds old new t = new ≡ old
TellsDrill how.Dead drilled.Dead rounds old new t = new ≡ old
TellsDrill how.Eof drilled.Dead rounds old new t = new ≡ old
TellsDrill by other rounds old new t = ⊥

-- the calls are those of the script, and then one shut where a call is left
pub record IsPlayed (rounds : ℕ) (after : Seen) : Type 0 where
  pub mid : List Entry
  pub behind : List Entry
  pub split : after.history ≡ mid ++ behind
  pub calls_are : map (λ (e : Entry). e.call) (own_of after.number mid) ≡ script rounds
  pub shut : IsShutAlone after.number behind
  pub spent : own_of after.number behind ≡ [] → after.left ≡ 0

-- what is counted of a new machine: all variables, all clauses, at most two models, at most as many
-- failures as rounds
pub record AreCounted (rounds : ℕ) (t : Tally) : Type 0 where
  pub vars : t.vars ≡ (if rounds == 0 then 150 else 151)
  pub clauses : t.clauses ≡ 600
  pub sat : t.sat ≤ 2
  pub unsat : t.unsat ≤ rounds

-- the premises of a complete drill: no fault, no want of memory, calls left
pub record IsUndisturbed (by : Drilled) (rounds : ℕ) (old new : World) (after : Seen) : Type 0 where
  pub writes : ¬ Rose old.failed_writes new.failed_writes
  pub memory : by ≢ drilled.NoMemory
  pub work : ¬ HasLostWork after.history
  pub calls : 0 < after.left

-- the script was served on the pass, and its answers counted
pub record HasDrilled (by : Drilled) (rounds : ℕ) (old new : World)
    (before after : Seen) : Type 0 where
  pub ends : DrillEnds by rounds old new before after
  pub place : after.place ≡ before.place
  pub legal : IsLegal after.history
  pub kept : IsNew before → IsHistory after.number after.history
  pub played : IsNew before → by ≡ drilled.Done → IsPlayed rounds after
  pub counted : IsNew before → by ≡ drilled.Done → AreCounted rounds (tally_of_calls before after)
  pub whole : IsNew before → IsUndisturbed by rounds old new after → by ≡ drilled.Done

-- so it was, and the status tells how it ended
pub record Drills (rounds : ℕ) (old new : World) (before after : Seen) (status : ℕ) : Type 0 where
  pub by : Drilled
  pub has : HasDrilled by rounds old new before after
  pub status_is : status ≡ drilled_status by
