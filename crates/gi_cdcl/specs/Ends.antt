-- How a slice may end.
use Rattle.std.specs.Prelude.{◌≡◌, ℕ, ◌-◌, ◌<◌, ◌≤◌, List, [], ◌∷◌, ◌++◌, length, map, slice_index, ◌⊎◌}
use Rattle.gi_lit.specs.Closure.{IsFalsified}
use Rattle.gi_lit.specs.Ends.{EndsNonempty, IsModel, IsFailing}
use Rattle.gi_lit.specs.Problem.{Problem}
use Rattle.gi_lit.specs.Learnt.{AreFresh}
use Rattle.gi_store.specs.StoreView.{Entry, StoreView, Holds, problem_of, known_of, with_learnt}
use Rattle.gi_prop.specs.TrailView.{TrailView, IsTrail}
use Rattle.gi_cdcl.specs.Sound.{IsTrailSound, IsLeveled}
use Rattle.gi_cdcl.specs.Uip.{IsUip}
use Rattle.gi_cdcl.specs.declared.slice.Slice.{Slice}
use Rattle.gi_cdcl.specs.declared.slice.Slice.TheVariants.{Learned, Sat, Unsat, Braked, NoMemory}

-- as many as were allowed, and the last isn't empty
abbrev pub IsFull : ℕ → List (List ℕ) → Type 0
IsFull limit news = (length news ≡ limit) × EndsNonempty news

-- how a slice may end: braked exactly where the greatest mark reaches the serial, else with as many
-- clauses as were allowed, else with a verdict
abbrev pub EndsSlice : Problem → List (List ℕ) → List ℕ → ℕ → ℕ → ℕ → List (List ℕ) → Slice → Type 0
EndsSlice p known assumed limit serial mark news Braked = serial ≤ mark
EndsSlice p known assumed limit serial mark news Learned = (mark < serial) × IsFull limit news
EndsSlice p known assumed limit serial mark news (Sat values) = (mark < serial)
    × ¬ IsFull limit news × IsModel p assumed values
EndsSlice p known assumed limit serial mark news (Unsat w) = (mark < serial) × ¬ IsFull limit news
    × IsFailing p assumed (known ++ news) w
EndsSlice p known assumed limit serial mark news NoMemory = Unit {0}

-- the clause that a conflict teaches on a trail over the stored clauses on which nothing was left
-- to propagate when each level began: its first unique implication point, or the empty clause where
-- nothing was decided
pub record IsTaught (h : StoreView) (clause : List ℕ) : Type 0 where
  pub trail : TrailView
  pub is_trail : IsTrail trail
  pub sound : IsTrailSound h trail
  pub leveled : IsLeveled h trail
  pub key : ℕ
  pub conflict : List ℕ
  pub holds : Holds h key conflict
  pub falsified : IsFalsified trail.lits conflict
  pub teaches : ((trail.level_starts ≡ []) × (clause ≡ []))
      ⊎ ((0 < length trail.level_starts)
      × IsUip h trail conflict (slice_index trail.level_starts (length trail.level_starts - 1))
      clause)

-- each is what a conflict teaches, with the earlier ones stored
abbrev pub AreTaught : StoreView → List Entry → Type 0
AreTaught h [] = Unit {0}
AreTaught h (e ∷ es) = IsTaught h e.lits × AreTaught (with_learnt e.key e.lits h) es

-- what a slice does to the store: its news stand behind the learnt clauses, in order, and all else
-- is as before, with its keys
pub record Learns (old new : StoreView) (news : List (List ℕ)) : Type 0 where
  pub entries : List Entry
  pub are : news ≡ map (λ (e : Entry). e.lits) entries
  pub new_is : new ≡ record old { learnt = old.learnt ++ entries }
  pub taught : AreTaught old entries

-- what a slice gives
pub record Slices (old new : StoreView) (assumed : List ℕ) (limit serial mark : ℕ)
    (news : List (List ℕ)) (end : Slice) : Type 0 where
  pub few : length news ≤ limit
  pub fresh : AreFresh (problem_of old) (known_of old) news
  pub learns : Learns old new news
  pub ends : EndsSlice (problem_of old) (known_of old) assumed limit serial mark news end
