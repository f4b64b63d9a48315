-- What a step of a search leads to.
use Rattle.std.specs.Prelude.{◌≡◌, ℕ, ◌+◌, ◌<◌, ◌≤◌, List, [], length}
use Rattle.gi_store.specs.StoreView.{StoreView, problem_of, known_of}
use Rattle.gi_prop.specs.TrailView.{TrailView}
use Rattle.gi_prop.specs.Attached.{Attached}
use Rattle.gi_lit.specs.Ends.{EndsNonempty, IsModel, IsFailing}
use Rattle.gi_cdcl.specs.Ends.{IsFull}
use Rattle.gi_cdcl.specs.Sound.{IsTrailSound}
use Rattle.gi_cdcl.specs.Invariant.{AttachedExactly, SearchInvariant}
use Rattle.gi_cdcl.specs.declared.step.StepResult.{StepResult}
use Rattle.gi_cdcl.specs.declared.step.StepResult.TheVariants.{Decided, Learnt, Refuted, Sat, Failed}

-- how the news grow: a step learns one clause or none, and where it refutes they aren't as many as
-- were allowed, since none but the empty one is new
abbrev pub AddsNews : List (List ℕ) → List (List ℕ) → StepResult → Type 0
AddsNews old new Decided = new ≡ old
AddsNews old new Learnt = (length new ≡ length old + 1) × EndsNonempty new
AddsNews old new Refuted = (length new ≤ length old + 1)
    × ((limit : ℕ) → length old < limit → ¬ IsFull limit new)
AddsNews old new (Sat values) = new ≡ old
AddsNews old new (Failed w) = new ≡ old

-- a stored clause that is empty is found at once: the step refutes, and learns nothing
abbrev pub FindsEmpty : List (List ℕ) → List (List ℕ) → StepResult → Type 0
FindsEmpty old new Decided = ⊥
FindsEmpty old new Learnt = ⊥
FindsEmpty old new Refuted = new ≡ old
FindsEmpty old new (Sat values) = ⊥
FindsEmpty old new (Failed w) = ⊥

-- the search goes on with a literal more or a clause more, or it has a verdict
abbrev pub LeadsTo : TrailView → Attached → StoreView → TrailView → List ℕ → ℕ → ℕ → StepResult
    → Type 0
LeadsTo before p h t assumed vars lits Decided = SearchInvariant p h t assumed vars lits
    × (t.vars ≡ before.vars) × (length before.lits < length t.lits) × (length t.lits ≤ t.vars)
LeadsTo before p h t assumed vars lits Learnt = SearchInvariant p h t assumed vars lits
    × (t.vars ≡ before.vars)
LeadsTo before p h t assumed vars lits Refuted = AttachedExactly p h t × IsTrailSound h t
    × IsFailing (problem_of h) assumed (known_of h) []
LeadsTo before p h t assumed vars lits (Sat values) = AttachedExactly p h t × IsTrailSound h t
    × IsModel (problem_of h) assumed values
LeadsTo before p h t assumed vars lits (Failed w) = AttachedExactly p h t × IsTrailSound h t
    × IsFailing (problem_of h) assumed (known_of h) w
