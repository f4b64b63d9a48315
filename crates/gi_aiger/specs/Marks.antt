-- Which variables are used and which are defined, line by line.
use Rattle.std.specs.Prelude.{◌≡◌, ℕ, ◌+◌, ◌-◌, ◌/◌, ◌^◌, ◌≤◌, ◌==◌, map, Bool, true, false, List, [], ◌∷◌, ◌++◌, length, replicate, count_by, slice_index_or, slice_set, Option, Some, None, if◌then◌else◌}
use Rattle.std.specs.List.{range_with_len}
use Rattle.gi_aiger.specs.declared.mark.Mark.{Mark}
use Rattle.gi_aiger.specs.declared.mark.Mark.TheVariants.{Fresh, Used, Defined}
use Rattle.gi_aiger.specs.declared.row.Row.{Row}
use Rattle.gi_aiger.specs.Rows.{literals_in, defined_by}

abbrev pub is_fresh : Mark → Bool
is_fresh Fresh = true
is_fresh Used = false
is_fresh Defined = false

abbrev pub is_used : Mark → Bool
is_used Fresh = false
is_used Used = true
is_used Defined = false

-- the mark of a variable
abbrev pub mark_at : List Mark → ℕ → Mark
mark_at marks v = slice_index_or marks v Fresh

-- how many variables are used and not defined
abbrev pub missing : List Mark → ℕ
missing marks = count_by is_used marks

-- the marks of the first variables by a table, where all others are fresh, with how many are used and not defined
pub record AreMarked (mark : ℕ → Mark) (len count : ℕ) : Type 0 where
  pub past : (v : ℕ) → len ≤ v → mark v ≡ Fresh
  pub counted : count ≡ missing (map mark (range_with_len 0 len))
  pub small : len ≤ 2 ^ 32

-- the same marks, in a list that has one for the variable
abbrev pub reaches : ℕ → List Mark → List Mark
reaches v marks = marks ++ replicate (v + 1 - length marks) Fresh

-- the variable has another mark
abbrev pub with_mark : ℕ → Mark → List Mark → List Mark
with_mark v mark marks = slice_set (reaches v marks) v mark

-- a line uses the variable
abbrev pub used : ℕ → List Mark → List Mark
used v marks = if is_fresh (mark_at marks v) then with_mark v Used marks else marks

-- a line uses a literal; a constant has no variable
abbrev pub used_literal : ℕ → List Mark → List Mark
used_literal l marks = if l / 2 == 0 then marks else used (l / 2) marks

abbrev pub all_used : List ℕ → List Mark → List Mark
all_used [] marks = marks
all_used (l ∷ ls) marks = all_used ls (used_literal l marks)

abbrev pub defined : Option ℕ → List Mark → List Mark
defined None marks = marks
defined (Some v) marks = with_mark v Defined marks

-- the marks behind a line, which may use what it defines
abbrev pub marked : Row → List Mark → List Mark
marked row marks = all_used (literals_in row) (defined (defined_by row) marks)

-- the marks behind all lines so far
abbrev pub marks_of : List Row → List Mark → List Mark
marks_of [] marks = marks
marks_of (row ∷ rows) marks = marks_of rows (marked row marks)
