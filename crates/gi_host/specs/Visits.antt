-- A pass of a room, as a session's caller.
use Rattle.std.specs.Prelude.{◌≡◌, ◌≢◌, ℕ, ◌+◌, ◌==◌, ◌||◌, ◌⊎◌, Bool, true, false, if◌then◌else◌, List, [], ◌∷◌, ◌++◌, length, All, Contains, Option, Some, None}
use Rattle.gi_model.specs.History.{Entry}
use Rattle.gi_model.specs.Refusals.{is_work}
use Rattle.gi_model.specs.declared.calls.Call.{Call}
use Rattle.gi_model.specs.declared.calls.Call.TheVariants as call
use Rattle.gi_model.specs.declared.replies.Reply.{Reply}
use Rattle.gi_model.specs.declared.replies.Reply.TheVariants as reply
use Rattle.gi_net.specs.Standing.{Standing}
use Rattle.gi_room.specs.Entries.{all_own_of}
use Rattle.gi_room.specs.Seen.{Seen}

abbrev pub standing_of : Seen → Standing
standing_of p = record { number = p.number; history = p.history; left = p.left }

-- a pass, and the serial of the solve that its session started last
pub record Visit : Type 0 where
  pub pass : Seen
  pub started : Option ℕ

abbrev pub visit : Seen → Option ℕ → Visit
visit p started = record { pass = p; started = started }

-- a stop is asked for the solve that was started last, over all that was seen
abbrev pub asks_for : Option ℕ → ℕ → List (ℕ × ℕ)
asks_for None seen = []
asks_for (Some serial) seen = (serial, seen) ∷ []

abbrev pub asks_of : Call → Option ℕ → ℕ → List (ℕ × ℕ)
asks_of call.Stop started seen = asks_for started seen
asks_of other started seen = []

-- the solve that was started last, after a call
abbrev pub started_by : Call → Reply → Option ℕ → Option ℕ
started_by (call.Solve budget) (reply.Started serial) started = Some serial
started_by what answer started = started

-- a session's asks: the solve that it started last, how much of the history it had seen with its
-- own last entry, how long the history is, and what was asked by its pass
pub record Asking : Type 0 where
  pub started : Option ℕ
  pub seen : ℕ
  pub here : ℕ
  pub asked : List (ℕ × ℕ)

abbrev pub asking : Visit → Asking
asking v = record {
  started = v.started;
  seen = length v.pass.history;
  here = length v.pass.history;
  asked = v.pass.asked;
}

-- after an entry of the session's own, and after any
abbrev pub after_own : Entry → Asking → Asking
after_own e a = record {
  started = started_by e.call e.reply a.started;
  seen = a.here + 1;
  here = a.here + 1;
  asked = a.asked ++ asks_of e.call a.started a.seen;
}

abbrev pub after_entry : ℕ → Entry → Asking → Asking
after_entry number e a = if e.by == number then after_own e a else record a { here = a.here + 1 }

unfoldable pub after_entries : ℕ → List Entry → Asking → Asking
after_entries number [] a = a
after_entries number (e ∷ es) a = after_entries number es (after_entry number e a)

-- work was done where there was some
abbrev pub IsBusy : Entry → Type 0
IsBusy e = is_work e.call ≡ true → e.reply ≢ reply.Idle

-- what a session's calls do to its pass
pub record Visits (old new : Visit) : Type 0 where
  pub entries : List Entry
  pub history : new.pass.history ≡ old.pass.history ++ entries
  -- of the numbers that the pass holds only its own has entries
  pub own : All (λ e. Contains old.pass.held e.by → e.by ≡ old.pass.number) entries
  -- own work, which is done for waits alone, is never idle
  pub busy : All IsBusy (all_own_of old.pass.number entries)
  pub left : old.pass.left ≡ new.pass.left + length (all_own_of old.pass.number entries)
  pub place : new.pass.place ≡ old.pass.place
  pub number : new.pass.number ≡ old.pass.number
  pub held : new.pass.held ≡ old.pass.held
  pub kin : new.pass.kin ≡ old.pass.kin
  pub splits : new.pass.splits ≡ old.pass.splits
  -- one ask for each own stop behind an own start, and no other
  pub started : (after_entries old.pass.number entries (asking old)).started ≡ new.started
  pub asked : (after_entries old.pass.number entries (asking old)).asked ≡ new.pass.asked
  -- the history ends with an own entry, unless no call is left
  pub seen : ((after_entries old.pass.number entries (asking old)).seen ≡ length new.pass.history)
      ⊎ (new.pass.left ≡ 0)

-- the pass once the ask was made that goes before a call
abbrev pub once_asked : Call → Option ℕ → Seen → Seen
once_asked what started p = record p { asked = p.asked ++ asks_of what started (length p.history) }

-- the history has a start of that solve
abbrev pub starts : ℕ → Reply → Bool
starts serial (reply.Started k) = k == serial
starts serial other = false

unfoldable pub any_starts : List Entry → ℕ → Bool
any_starts [] serial = false
any_starts (e ∷ es) serial = starts serial e.reply || any_starts es serial

-- the solve that a session started last is there
abbrev pub has_started : Option ℕ → List Entry → Bool
has_started None es = true
has_started (Some serial) es = any_starts es serial
