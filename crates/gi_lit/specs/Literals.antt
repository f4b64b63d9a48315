-- Literals as numbers: variable v has the positive literal 2v and the negative literal 2v + 1.
use Rattle.std.specs.Prelude.{ℕ, suc, ℤ, pos, negsuc, neg_ℤ, ◌+◌, ◌-◌, ◌*◌, ◌/◌, ◌%◌, ◌≤◌, ◌==◌, if◌then◌else◌, List, All, Contains}

-- the greatest variable
abbrev pub max_var : ℕ
max_var = 16777216

-- a variable
abbrev pub IsVariable : ℕ → Type 0
IsVariable v = (1 ≤ v) × (v ≤ max_var)

-- the code of a literal of such a variable
abbrev pub IsLiteral : ℕ → Type 0
IsLiteral l = (2 ≤ l) × (l ≤ 2 * max_var + 1)

-- the other literal of the same variable
unfoldable pub opposite : ℕ → ℕ
opposite l = if l % 2 == 0 then l + 1 else l - 1

-- the literal that DIMACS writes as this number: v is the positive one of variable v, and -v the
-- negative one
abbrev pub literal_of : ℤ → ℕ
literal_of (pos v) = 2 * v
literal_of (negsuc n) = 2 * suc n + 1

-- the number that DIMACS writes for a literal
unfoldable pub number_of : ℕ → ℤ
number_of l = if l % 2 == 0 then pos (l / 2) else neg_ℤ (pos (l / 2))

-- each literal of the one clause stands in the other
abbrev pub IsSubsetOf : List ℕ → List ℕ → Type 0
IsSubsetOf clause other = All (Contains other) clause

-- each literal is of a variable from 1 to n
abbrev pub IsWithin : ℕ → List ℕ → Type 0
IsWithin n clause = All (λ l. (1 ≤ l / 2) × (l / 2 ≤ n)) clause
