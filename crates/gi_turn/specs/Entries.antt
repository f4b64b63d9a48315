-- Histories: lists of entries, and the word that tells how long one is.
use Rattle.std.specs.Prelude.{◌≡◌, ℕ, ◌+◌, ◌*◌, ◌/◌, ◌%◌, ◌≤◌, List, [], ◌∷◌, ◌++◌, length, take, All, nat_lt, if◌then◌else◌}
use mathlib.Core.Option.{some}
use lib.ListN.{get_elem?}
use Rattle.gi_turn.specs.declared.view.Entry.{Entry}

-- x stands at the place i
abbrev pub At : {A : Type 0} → List A → ℕ → A → Type 0
At xs i x = get_elem? xs i ≡ some x

-- what one call adds: its seat's number, the phase that it leaves, the mark that it carries, and
-- what it tells
abbrev pub entry_of : ℕ → ℕ → ℕ → List (List ℕ) → Entry
entry_of by phase mark told = record { by = by; phase = phase; mark = mark; told = told }

-- the phase after these entries, where it was p before
abbrev pub phase_after : ℕ → List Entry → ℕ
phase_after p [] = p
phase_after p (e ∷ es) = phase_after e.phase es

-- the history begins with what was seen
abbrev pub StartsWith : List Entry → List Entry → Type 0
StartsWith log seen = (rest : List Entry) × (log ≡ seen ++ rest)

-- the longer history
abbrev pub longer_of : List Entry → List Entry → List Entry
longer_of xs ys = (if nat_lt (length xs) (length ys) then ys else xs)

-- the word HEAD of a history of this length and phase
abbrev pub head : ℕ → ℕ → ℕ
head size phase = 8 * size + phase

-- the length and the phase that HEAD holds
abbrev pub glance_at : ℕ → ℕ × ℕ
glance_at word = (word / 8, word % 8)

-- the glance names a length that the history has reached, and the phase after so many entries
abbrev pub IsGlance : ℕ → List Entry → ℕ × ℕ → Type 0
IsGlance first log g = (g.0 ≤ length log) × (g.1 ≡ phase_after first (take g.0 log))

-- each is such a glance
abbrev pub AreGlances : ℕ → List Entry → List (ℕ × ℕ) → Type 0
AreGlances first log = All (IsGlance first log)
