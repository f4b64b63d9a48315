-- What a slice of a search gives, without its keys.
use Rattle.std.specs.Prelude.{◌≡◌, ℕ, ◌/◌, ◌≤◌, ◌⊎◌, List, ◌++◌, length, All, Contains}
use Rattle.gi_lit.specs.Problem.{IsProblemVar}
use Rattle.gi_lit.specs.Learnt.{IsImplied, AreFresh}
use Rattle.gi_cdcl.specs.Ends.{EndsSlice}
use Rattle.gi_cdcl.specs.declared.slice.Slice.{Slice}
use Rattle.gi_cdcl.specs.declared.slice.Slice.TheVariants.{NoMemory}
use Rattle.gi_core.specs.Content.{Content}

-- the learnt clauses are implied, and of problem variables and active guards
pub record AreUsable (c : Content) : Type 0 where
  pub implied : All (IsImplied c.problem) c.known
  pub used : All (All (λ l. IsProblemVar c.problem (l / 2) ⊎ Contains c.problem.active (l / 2)))
      c.known

-- the news are fresh, they alone are learnt, and the slice ends as it may
pub record Learns (old new : Content) (assumed : List ℕ) (limit serial mark : ℕ)
    (news : List (List ℕ)) (end : Slice) : Type 0 where
  pub few : length news ≤ limit
  pub fresh : AreFresh old.problem old.known news
  pub new_is : new ≡ record old { known = old.known ++ news }
  pub ends : EndsSlice old.problem old.known assumed limit serial mark news end

-- want of memory is told by itself
abbrev pub Advances : Content → Content → List ℕ → ℕ → ℕ → ℕ → List (List ℕ) → Slice → Type 0
Advances old new assumed limit serial mark news NoMemory = Unit {0}
Advances old new assumed limit serial mark news end =
    Learns old new assumed limit serial mark news end
