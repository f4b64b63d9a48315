-- The texts of calls.
use Rattle.std.specs.Prelude.{◌≡◌, ℕ, ℤ, pos, ◌+◌, ◌≤◌, ◌==◌, Bool, true, false, nat_le, nat_lt, List, [], ◌∷◌, ◌++◌, length, map, if◌then◌else◌, codes, decimal, All}
use Rattle.std.specs.List.{count_by, fold}
use Rattle.std.specs.Fmt.{signed_decimal}
use Rattle.gi_lit.specs.Literals.{IsLiteral, IsVariable, max_var, number_of}
use Rattle.gi_model.specs.Fits.{fits}
use Rattle.gi_model.specs.declared.calls.Call.{Call}
use Rattle.gi_model.specs.declared.calls.Call.TheVariants as call
use Rattle.gi_wire.specs.Limits.{most_joined, most_line, most_u32}

-- in a line of so many bytes a word has room, and ` +` behind it
abbrev pub has_room : ℕ → List ℕ → Bool
has_room column word = nat_le (column + length word + 3) most_line

-- a word behind so many bytes of a line, in the next line if this one has no room
abbrev pub placed : ℕ → List ℕ → List ℕ
placed column word = if has_room column word then 32 ∷ word else codes " +" ++ 10 ∷ word

-- how many bytes the line then has
abbrev pub column_behind : ℕ → List ℕ → ℕ
column_behind column word = if has_room column word then column + 1 + length word else length word

unfoldable pub column_after : ℕ → List ℤ → ℕ
column_after column numbers = fold (λ c z. column_behind c (signed_decimal z)) column numbers

-- numbers behind so many bytes of a line, as many in each line as have room
unfoldable pub wrapped : ℕ → List ℤ → List ℕ
wrapped column [] = []
wrapped column (z ∷ zs) = placed column (signed_decimal z)
    ++ wrapped (column_behind column (signed_decimal z)) zs

-- a name, numbers and a 0, for which there is room as for a `+`
abbrev pub listed : List ℕ → List ℤ → List ℕ
listed name numbers = name ++ (wrapped (length name) numbers ++ codes " 0")

-- one guard alone; of several a 0 is the end
abbrev pub guard_numbers : List ℕ → List ℤ
guard_numbers guards = if length guards == 1 then map pos guards else map pos guards ++ pos 0 ∷ []

-- the greatest budget isn't told
abbrev pub budget_text : ℕ → List ℕ
budget_text budget = if budget == most_u32 then [] else codes " " ++ decimal budget

-- the lines of a call, without the last one's LF
unfoldable pub lines_text : Call → List ℕ
lines_text (call.Vars n) = codes "vars " ++ decimal n
lines_text (call.Add c) = listed (codes "add") (map number_of c)
lines_text call.NewGuard = codes "guard"
lines_text (call.Under gs c) = listed (codes "under") (guard_numbers gs ++ map number_of c)
lines_text (call.DropGuard g) = codes "drop " ++ decimal g
lines_text (call.Assume ls) = listed (codes "assume") (map number_of ls)
lines_text call.Test = codes "test"
lines_text call.Untest = codes "untest"
lines_text (call.Reasons l) = codes "reasons " ++ signed_decimal (number_of l)
lines_text (call.Solve budget) = codes "solve" ++ budget_text budget
lines_text call.Pause = codes "pause"
lines_text call.Resume = codes "resume"
lines_text call.Stop = codes "stop"
lines_text call.Poll = codes "poll"
lines_text call.Wait = codes "wait"
lines_text call.Model = codes "model"
lines_text call.Known = codes "known"
lines_text (call.KnownClause i) = codes "clause " ++ decimal i
lines_text (call.LoadCnf bytes) = codes "load cnf " ++ decimal (length bytes)
lines_text call.Bye = codes "bye"
lines_text call.Shut = []
lines_text (call.Work mark) = []

-- the bytes of a load
abbrev pub load_bytes : Call → List ℕ
load_bytes (call.LoadCnf bytes) = bytes
load_bytes other = []

-- the lines of a call, and the bytes of a load behind its LF
unfoldable pub call_text : Call → List ℕ
call_text c = lines_text c ++ 10 ∷ load_bytes c

-- a call that may be made and has a line: one with its number in the grammar, and not the one that
-- shuts the machine
abbrev pub has_line : Call → Bool
has_line (call.Vars n) = nat_le n max_var
has_line (call.KnownClause i) = nat_lt 0 i
has_line call.Shut = false
has_line c = fits c

-- the numbers of a call are in their types' ranges
abbrev pub IsInRange : Call → Type 0
IsInRange (call.Add c) = All IsLiteral c
IsInRange (call.Under gs c) = All IsVariable gs × All IsLiteral c
IsInRange (call.DropGuard g) = IsVariable g
IsInRange (call.Assume ls) = All IsLiteral ls
IsInRange (call.Reasons l) = IsLiteral l
IsInRange (call.Solve budget) = budget ≤ most_u32
IsInRange (call.KnownClause i) = i ≤ most_u32
IsInRange other = Unit {0}

unfoldable pub breaks : List ℕ → ℕ
breaks text = count_by (λ b. b == 10) text

-- the number of the line behind a call that begins with this one
abbrev pub line_behind : ℕ → Call → ℕ
line_behind line c = line + (breaks (lines_text c) + 1)

-- lines have not too many bytes together, their LFs not counted
abbrev pub AreFew : List ℕ → Type 0
AreFew lines = length lines ≤ most_joined + breaks lines

-- so have those of a call that may have several
abbrev pub IsJoinable : Call → Type 0
IsJoinable (call.Add c) = AreFew (lines_text (call.Add c))
IsJoinable (call.Under gs c) = AreFew (lines_text (call.Under gs c))
IsJoinable (call.Assume ls) = AreFew (lines_text (call.Assume ls))
IsJoinable other = Unit {0}

-- a call that has a line, or lines that may be joined
pub record IsWritten (c : Call) : Type 0 where
  pub line : has_line c ≡ true
  pub range : IsInRange c
  pub joinable : IsJoinable c
