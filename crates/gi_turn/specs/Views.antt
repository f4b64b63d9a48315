-- What seats know, and how each step changes it.
use Rattle.std.specs.Prelude.{◌≡◌, ◌≢◌, ℕ, ◌+◌, ◌-◌, ◌/◌, ◌^◌, ◌≤◌, true, false, List, [], ◌∷◌, ◌++◌, length, take, Some, None, All, Contains, if◌then◌else◌}
use Rattle.gi_turn.specs.declared.view.Entry.{Entry}
use Rattle.gi_turn.specs.declared.view.View.{View}
use Rattle.gi_turn.specs.Entries.{At, phase_after, longer_of}
use Rattle.gi_turn.specs.Numbers.{child, OwnIn}

-- the first seat of a turnstile that begins with this phase
abbrev pub first_view : ℕ → View
first_view first = record {
  opened = first;
  spent = false;
  number = 0;
  splits = 0;
  held = 0 ∷ [];
  kin = [];
  left = 2 ^ 56;
  ticket = None;
  turn = false;
  seen = [];
  merged = [];
  glances = [];
  asked = [];
  marks = [];
  fresh = [];
  sees = 0;
}

-- what is left of a seat that was joined to another
abbrev pub spent_view : View
spent_view = record {
  opened = 0;
  spent = true;
  number = 0;
  splits = 0;
  held = [];
  kin = [];
  left = 0;
  ticket = None;
  turn = false;
  seen = [];
  merged = [];
  glances = [];
  asked = [];
  marks = [];
  fresh = [];
  sees = 0;
}

-- the seat has drawn the ticket k
abbrev pub after_draw : View → ℕ → View
after_draw v k = record v { left = v.left - 1; ticket = Some k; fresh = [] }

-- the seat has looked at HEAD
abbrev pub after_look : View → ℕ × ℕ → View
after_look v glance = record v { glances = v.glances ++ glance ∷ [] }

-- the seat has the turn, and sees the whole history
abbrev pub with_turn : View → List Entry → View
with_turn v log = record v { turn = true; seen = log }

-- the seat's turn is over, and it has seen this history
abbrev pub out_of_turn : View → List Entry → View
out_of_turn v log = record v { ticket = None; turn = false; seen = log }

-- the seat has published the entry
abbrev pub after_publish : View → Entry → View
after_publish v e = out_of_turn v (v.seen ++ e ∷ [])

-- the seat has asked the mark
abbrev pub after_ask : View → ℕ → View
after_ask v mark = record v { asked = v.asked ++ (mark, length v.seen) ∷ [] }

-- the seat has seen the mark
abbrev pub after_see : View → ℕ → View
after_see v mark = record v {
  marks = v.marks ++ mark ∷ [];
  fresh = v.fresh ++ mark ∷ [];
  sees = v.sees + 1;
}

-- the seat has split another off
abbrev pub after_split : View → View
after_split v = record v {
  left = v.left - v.left / 2;
  splits = v.splits + 1;
  kin = child v.number v.splits ∷ v.kin;
}

-- the seat that was split off
abbrev pub split_off : View → View
split_off v = record v {
  left = v.left / 2;
  splits = 0;
  number = child v.number v.splits;
  held = child v.number v.splits ∷ [];
  kin = [];
  merged = [];
  asked = [];
  fresh = [];
}

-- the seat has taken the other in, and has not yet read that both histories are beginnings of one
abbrev pub after_join : View → View → View
after_join v w = record v {
  left = v.left + w.left;
  seen = longer_of v.seen w.seen;
  held = v.held ++ w.held;
  kin = v.kin ++ w.kin;
  asked = v.asked ++ w.asked;
  marks = v.marks ++ w.marks;
  merged = (v.held, v.seen) ∷ (w.held, w.seen) ∷ [];
}

-- the seat has read it
abbrev pub after_settle : View → View
after_settle v = record v { merged = [] }

-- the seat has taken the other in
abbrev pub join_of : View → View → View
join_of v w = after_settle (after_join v w)

-- the calls left of a seat, none where it is joined away
abbrev pub left_of : View → ℕ
left_of v = (if v.spent then 0 else v.left)

-- the calls left of all seats
abbrev pub calls_left : List View → ℕ
calls_left [] = 0
calls_left (v ∷ vs) = left_of v + calls_left vs

-- the seat holds the first number, and each that was split off by the seats that it took in
abbrev pub Sole : View → Type 0
Sole v = Contains v.held 0 × ((n : ℕ) → Contains v.kin n → Contains v.held n)

-- a glance at a length that the seat's history has reached names the phase after so many entries
abbrev pub KnowsPhases : View → Type 0
KnowsPhases v = All (λ g. g.0 ≤ length v.seen → g.1 ≡ phase_after v.opened (take g.0 v.seen))
    v.glances

-- the entries of the history whose numbers the seat holds are those that it has seen
abbrev pub OwnSeen : View → List Entry → Type 0
OwnSeen v = OwnIn v.held (length v.seen)

-- each mark of the history could be asked over what came before it
abbrev pub IsLawful : (List Entry → ℕ → Type 0) → List Entry → Type 0
IsLawful may log = (k : ℕ) (e : Entry) → At log k e → e.mark ≢ 0
    → (l : ℕ) × (l ≤ k) × may (take l log) e.mark

-- each mark of the history was asked by the seat, over what came before it
abbrev pub AskedBy : View → List Entry → Type 0
AskedBy v log = (k : ℕ) (e : Entry) → At log k e → e.mark ≢ 0
    → (l : ℕ) × (l ≤ k) × Contains v.asked (e.mark, l)

-- each entry of the history has a number that the seat holds
abbrev pub HoldsAll : View → List Entry → Type 0
HoldsAll v log = (k : ℕ) (e : Entry) → At log k e → Contains v.held e.by

-- each mark of the seat's history had its cause, and where the seat is sole it has asked it, and
-- holds the numbers of all entries
abbrev pub KnowsMarks : (List Entry → ℕ → Type 0) → View → Type 0
KnowsMarks may v = IsLawful may v.seen × (Sole v → AskedBy v v.seen) × (Sole v → HoldsAll v v.seen)

-- the seat holds the same numbers, and has split off the same
abbrev pub HoldsAsBefore : View → View → Type 0
HoldsAsBefore v w = (w.held ≡ v.held) × (w.kin ≡ v.kin) × (w.number ≡ v.number)
