-- What is found at a clause, and what is done with it.
use Rattle.std.specs.Prelude.{◌≡◌, ◌≢◌, ℕ, ◌+◌, ◌<◌, ◌≤◌, ◌⊎◌, Option, Some, None, List, length, All, Contains}
use Rattle.gi_lit.specs.Literals.{opposite}
use Rattle.gi_lit.specs.Closure.{Forces, IsFalsified}
use Rattle.gi_store.specs.StoreView.{StoreView}
use Rattle.gi_chains.specs.Lists.{Lists}
use Rattle.gi_prop.specs.TrailView.{TrailView, HasValue}
use Rattle.gi_prop.specs.Attached.{IsConflict, keys_alone}
use Rattle.gi_prop.specs.Watched.{IsPair, IsKeyed}
use Rattle.gi_prop.specs.Watching.{IsMoved, KeepsLists, IsPassed}
use Rattle.gi_prop.specs.declared.look.Left.{Left}
use Rattle.gi_prop.specs.declared.look.Left.TheVariants.{Two, One, Nothing}
use Rattle.gi_prop.specs.declared.look.Look.{Look}
use Rattle.gi_prop.specs.declared.look.Look.TheVariants.{Keep, Move, Force, Conflict}
use Rattle.gi_prop.specs.declared.look.Visited.{Visited}
use Rattle.gi_prop.specs.declared.look.Visited.TheVariants.{Kept, Moved, Failed}

-- all of the clause but this literal is false
abbrev pub AreOthersFalse : List ℕ → List ℕ → ℕ → Type 0
AreOthersFalse lits clause l = All (λ m. (m ≡ l) ⊎ Contains lits (opposite m)) clause

-- which different literals of the clause aren't false
abbrev pub IsLeft : List ℕ → List ℕ → Left → Type 0
IsLeft lits clause (Two a b) = IsPair clause a b × ¬ Contains lits (opposite a)
    × ¬ Contains lits (opposite b)
IsLeft lits clause (One l) = Contains clause l × ¬ Contains lits (opposite l)
    × AreOthersFalse lits clause l
IsLeft lits clause Nothing = IsFalsified lits clause

-- a literal beside this one that isn't false, if there is one
abbrev pub IsSpare : List ℕ → List ℕ → ℕ → Option ℕ → Type 0
IsSpare lits clause other None = AreOthersFalse lits clause other
IsSpare lits clause other (Some m) = Contains clause m × (m ≢ other) × ¬ Contains lits (opposite m)

-- what is to be done with a clause that watches the other literal, and one that is false
abbrev pub IsLook : List ℕ → List ℕ → ℕ → Look → Type 0
IsLook lits clause other Keep = Contains lits other
IsLook lits clause other (Move m) = Contains clause m × (m ≢ other) × ¬ Contains lits (opposite m)
IsLook lits clause other Force = Forces clause other lits × HasValue lits other None
IsLook lits clause other Conflict = IsFalsified lits clause

-- what became of the watch of a clause that is false: it stays and is guarded further, or is
-- another literal now, or all of the clause is false
abbrev pub IsStep : List (Option ℕ) → Lists → Lists → Lists → StoreView → TrailView → ℕ → ℕ → ℕ
    → Visited → Type 0
IsStep slots old new theirs s t seen falsified key Kept = KeepsLists old new key
    × IsKeyed new theirs s t (t.head + 1) seen key
IsStep slots old new theirs s t seen falsified key Moved = (m : ℕ) × (2 ≤ m) × (m ≢ falsified)
    × (m + 1 < length old.lists) × IsMoved old new (m + 1) key
    × IsKeyed new theirs s t (t.head + 1) seen key
IsStep slots old new theirs s t seen falsified key (Failed k) = (new ≡ old)
    × IsConflict (keys_alone slots) s t.lits k

-- what became of a clause in a list that is no literal's: it stays, with one true literal and the
-- others false; or it watches two; or all of it is false
abbrev pub IsPromoted : List (Option ℕ) → Lists → Lists → StoreView → TrailView → ℕ → Visited
    → Type 0
IsPromoted slots old new s t key Kept = (new ≡ old) × IsPassed s t.lits key
IsPromoted slots old new s t key Moved = (m : ℕ) × (2 ≤ m) × (m + 1 < length old.lists)
    × IsMoved old new (m + 1) key
IsPromoted slots old new s t key (Failed k) = (new ≡ old) × IsConflict (keys_alone slots) s t.lits k
