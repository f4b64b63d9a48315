-- How a slice ends, in words of the store at its end.
use Rattle.std.specs.Prelude.{◌≡◌, ◌≢◌, ℕ, ◌+◌, ◌<◌, ◌≤◌, List, [], length, Contains}
use Rattle.gi_store.specs.StoreView.{StoreView, problem_of, known_of}
use Rattle.gi_prop.specs.TrailView.{TrailView}
use Rattle.gi_prop.specs.Attached.{Attached}
use Rattle.gi_lit.specs.Ends.{IsModel, IsFailing}
use Rattle.gi_cdcl.specs.Ends.{IsFull}
use Rattle.gi_cdcl.specs.Sound.{stored, IsTrailSound}
use Rattle.gi_cdcl.specs.Invariant.{AreAttached, HasLearnt}
use Rattle.gi_cdcl.specs.declared.slice.Slice.{Slice}
use Rattle.gi_cdcl.specs.declared.slice.Slice.TheVariants.{Learned, Sat, Unsat, Braked, NoMemory}

abbrev pub Finishes : StoreView → List ℕ → ℕ → ℕ → ℕ → List (List ℕ) → Slice → Type 0
Finishes h assumed limit serial mark news Braked = serial ≤ mark
Finishes h assumed limit serial mark news Learned = (mark < serial) × IsFull limit news
Finishes h assumed limit serial mark news (Sat values) = (mark < serial) × ¬ IsFull limit news
    × IsModel (problem_of h) assumed values
Finishes h assumed limit serial mark news (Unsat w) = (mark < serial) × ¬ IsFull limit news
    × IsFailing (problem_of h) assumed (known_of h) w
Finishes h assumed limit serial mark news NoMemory = Unit {0}

-- what a slice has done by its end, even where memory was wanting: its news are stored, and no more
-- than were allowed; its mark is the brake's greatest
pub record HasRun (old new : StoreView) (limit : ℕ) (news : List (List ℕ)) (kept top : ℕ) : Type
    0 where
  pub learnt : HasLearnt old new news
  pub few : length news ≤ limit
  pub mark : kept ≡ top

-- what holds besides where memory was not wanting: the end is true, the brake was asked at the
-- start and after each conflict, the one at the root too, and exactly the store's clauses are
-- attached
pub record HasEnded (p : Attached) (old new : StoreView) (t : TrailView) (assumed : List ℕ)
    (limit serial mark count : ℕ) (news : List (List ℕ)) (end : Slice) : Type 0 where
  pub finishes : Finishes new assumed limit serial mark news end
  pub asks : length news < count
  pub asks_root : end ≢ Braked → Contains (stored old) [] → length news + 1 < count
  pub attached : AreAttached p new t
  pub sound : IsTrailSound new t
