-- Marks at places of a trail, from which a conflict follows.
use Rattle.std.specs.Prelude.{◌≡◌, ℕ, ◌/◌, ◌<◌, Bool, true, false, List, length, take, slice_index, slice_index_or, Contains}
use Rattle.gi_lit.specs.Closure.{Forces, IsDerivation, IsFalsified}
use Rattle.gi_lit.specs.Problem.{Problem, full}
use Rattle.gi_prop.specs.TrailView.{StandsAt}

-- the place of each of these literals' variables is marked
abbrev pub AreSeen : List ℕ → List ℕ → List Bool → Type 0
AreSeen lits clause seen = (m q : ℕ) → Contains clause m → StandsAt lits (m / 2) q
    → slice_index_or seen q false ≡ true

-- no mark goes
pub record KeepsMarks (old new : List Bool) : Type 0 where
  pub count : length new ≡ length old
  pub kept : (k : ℕ) → slice_index_or old k false ≡ true → slice_index_or new k false ≡ true

-- the places of a full clause that forces the literal at this place, if it is marked, are marked
-- too
abbrev pub IsResolved : Problem → List ℕ → ℕ → List Bool → Type 0
IsResolved p lits at seen = (c : List ℕ) × Contains (full p) c
    × Forces c (slice_index lits at) (take at lits) × AreSeen lits c seen

-- the literals of the clause are made false by what follows from these
abbrev pub Refutes : Problem → List ℕ → List ℕ → Type 0
Refutes p given clause = (d : List ℕ) × IsDerivation (full p) given d × IsFalsified d clause

-- whatever derives the marked literals before a place, from some of the assumptions with the marked
-- ones among them, makes the clause false
abbrev pub LeadsToFalse : Problem → List ℕ → List ℕ → List Bool → List ℕ → ℕ → Type 0
LeadsToFalse p given lits seen clause at = (w d : List ℕ) → IsDerivation (full p) w d
    → ((k : ℕ) → k < at → slice_index_or seen k false ≡ true → Contains d (slice_index lits k))
    → ((k : ℕ) → k < length lits → slice_index_or seen k false ≡ true
    → Contains given (slice_index lits k) → Contains d (slice_index lits k))
    → Refutes p w clause

-- some of these literals, and each whose variable's place is marked
pub record IsPicked (lits : List ℕ) (seen : List Bool) (all w : List ℕ) : Type 0 where
  pub wanted : (l q : ℕ) → Contains all l → StandsAt lits (l / 2) q
      → slice_index_or seen q false ≡ true → Contains w l
