-- The calls of the drill, and their lines.
use Rattle.std.specs.Prelude.{ℕ, ◌+◌, ◌*◌, ◌%◌, List, [], ◌∷◌, ◌++◌, map, codes, decimal}
use Rattle.std.specs.List.{range_with_len, flat_map}
use Rattle.gi_model.specs.declared.calls.Call.{Call}
use Rattle.gi_model.specs.declared.calls.Call.TheVariants.{Vars, Add, NewGuard, Under, DropGuard, Assume, Solve, Wait, Bye}
use Rattle.gi_wire.specs.Literals.{list_text}
use Rattle.gi_wire.specs.Items.{item}
use Rattle.gi_wire.specs.declared.reader.RequestKind.TheVariants as asked
use Rattle.gi_wire.specs.declared.reader.Request.{Request}
use Rattle.gi_drill.specs.Instance.{clauses}

-- the guard of each round
abbrev pub guarding : List ℕ
guarding = 151 ∷ []

-- a variable and its negation under a guard, which is assumed for a solve and then dropped
abbrev pub round : ℕ → List Call
round x = NewGuard ∷ Under guarding (2 * x ∷ []) ∷ Under guarding ((2 * x + 1) ∷ [])
    ∷ Assume (302 ∷ []) ∷ Solve 4294967295 ∷ Wait ∷ DropGuard 151 ∷ []

-- the variable of a round, counted from 0
abbrev pub variable_of : ℕ → ℕ
variable_of i = 1 + i % 150

-- so many rounds
unfoldable pub rounds : ℕ → List Call
rounds n = flat_map round (map variable_of (range_with_len 0 n))

abbrev pub ending : List Call
ending = Solve 4294967295 ∷ Wait ∷ Vars 0 ∷ Bye ∷ []

-- the variables and the clauses, a solve, the rounds, and a solve again
unfoldable pub script : ℕ → List Call
script n = Vars 150 ∷ (map Add (clauses n) ++ (Solve 4294967295 ∷ Wait ∷ (rounds n ++ ending)))

-- the line of a call of the script, without its LF
unfoldable pub call_text : Call → List ℕ
call_text (Vars k) = codes "vars " ++ decimal k
call_text (Add c) = codes "add " ++ list_text c
call_text NewGuard = codes "guard"
call_text (Under (g ∷ []) c) = codes "under " ++ (decimal g ++ (codes " " ++ list_text c))
call_text (Assume ls) = codes "assume " ++ list_text ls
call_text (Solve budget) = codes "solve"
call_text Wait = codes "wait"
call_text (DropGuard g) = codes "drop " ++ decimal g
call_text Bye = codes "bye"
call_text other = []

abbrev pub line_text : Call → List ℕ
line_text call = call_text call ++ 10 ∷ []

-- a line for each call
abbrev pub lines_text : List Call → List ℕ
lines_text calls = flat_map line_text calls

abbrev pub script_text : ℕ → List ℕ
script_text n = lines_text (script n)

-- each call is an item, under the number of its line
abbrev pub numbered : ℕ → List Call → List Request
numbered line [] = []
numbered line (call ∷ calls) = item line (asked.Call call) ∷ numbered (line + 1) calls
