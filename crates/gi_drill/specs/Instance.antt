-- The clauses of the drill, and the plan that satisfies them.
use Rattle.std.specs.Prelude.{ℕ, ◌+◌, ◌*◌, ◌%◌, ◌==◌, nat_le, if◌then◌else◌, min, max, Bool, List, [], ◌∷◌, map}
use Rattle.std.specs.List.{range_with_len}
use Rattle.gi_lit.specs.Literals.{opposite}
use Rattle.gi_lit.specs.Truth.{clause_true}
use Rattle.gi_drill.specs.Generator.{draw, state_after}

-- the values of the first n variables, by a draw for each
unfoldable pub first_values : (seed n : ℕ) → List Bool
first_values seed n = map (λ v. draw (v + 1) 2 seed == 1) (range_with_len 0 n)

abbrev pub plan : ℕ → List Bool
plan seed = first_values seed 150

-- the second place is another than the first
unfoldable pub second_place : (a d : ℕ) → ℕ
second_place a d = (a + 1 + d) % 150

-- a number at or above this place stands for the next place
abbrev pub past : (place n : ℕ) → ℕ
past place n = if nat_le place n then n + 1 else n

-- and the third another than both
unfoldable pub third_place : (a b d : ℕ) → ℕ
third_place a b d = past (max a b) (past (min a b) d)

-- the literal of the variable at a place: 1 is positive
unfoldable pub literal_by : (place sign : ℕ) → ℕ
literal_by place sign = if sign == 1 then 2 * (place + 1) else 2 * (place + 1) + 1

-- the places of the three literals that are drawn from a state on
abbrev pub place_a : ℕ → ℕ
place_a x = draw 1 150 x

abbrev pub place_b : ℕ → ℕ
place_b x = second_place (place_a x) (draw 2 149 x)

abbrev pub place_c : ℕ → ℕ
place_c x = third_place (place_a x) (place_b x) (draw 3 148 x)

-- three literals of different variables, by six draws
unfoldable pub chosen : ℕ → List ℕ
chosen x = literal_by (place_a x) (draw 4 2 x) ∷ literal_by (place_b x) (draw 5 2 x)
    ∷ literal_by (place_c x) (draw 6 2 x) ∷ []

-- the first literal negated
abbrev pub turned : List ℕ → List ℕ
turned [] = []
turned (l ∷ ls) = opposite l ∷ ls

-- a clause that the values don't make true has its first literal negated
unfoldable pub mended : List Bool → List ℕ → List ℕ
mended values clause = if clause_true values clause then clause else turned clause

-- each clause takes the six draws behind those of the plan and of the clauses before it
unfoldable pub clause_at : (seed i : ℕ) → List ℕ
clause_at seed i = mended (plan seed) (chosen (state_after (150 + 6 * i) seed))

unfoldable pub first_clauses : (seed n : ℕ) → List (List ℕ)
first_clauses seed n = map (clause_at seed) (range_with_len 0 n)

abbrev pub clauses : ℕ → List (List ℕ)
clauses seed = first_clauses seed 600
