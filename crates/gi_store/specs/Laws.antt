-- The laws: what the edits of a store are.
use Rattle.std.specs.Prelude.{◌≡◌, ℕ, ◌/◌, not, List, [], ◌∷◌, ◌++◌, length, map, filter, drop, Contains}
use Rattle.gi_lit.specs.Problem.{full, names, with_guard, without_guard, without_var}
use Rattle.gi_store.specs.StoreView.{Entry, StoreView, problem_of, known_of, entries, with_plain, with_under, with_learnt, with_new_guard, without_guard_of, trimmed}
use Rattle.gi_store.specs.Whole.{IsWhole}

-- what the edits of a store are to its problem and its learnt clauses
abbrev pub PlainIsAdded : Type 0
PlainIsAdded = (key : ℕ) (c : List ℕ) (h : StoreView)
    → problem_of (with_plain key c h)
    ≡ record (problem_of h) { plain = (problem_of h).plain ++ c ∷ [] }

abbrev pub GroupIsAdded : Type 0
GroupIsAdded = (key : ℕ) (guards c : List ℕ) (h : StoreView)
    → problem_of (with_under key guards c h)
    ≡ record (problem_of h) {
      groups = (problem_of h).groups
          ++ record { guards = guards; clause = c } ∷ [];
    }

abbrev pub LearntIsAdded : Type 0
LearntIsAdded = (key : ℕ) (c : List ℕ) (h : StoreView)
    → known_of (with_learnt key c h) ≡ known_of h ++ c ∷ []

abbrev pub GuardIsMade : Type 0
GuardIsMade = (h : StoreView) → problem_of (with_new_guard h) ≡ with_guard (problem_of h)

abbrev pub GuardIsDropped : Type 0
GuardIsDropped = (g : ℕ) (h : StoreView)
    → (problem_of (without_guard_of g h) ≡ without_guard g (problem_of h))
    × (known_of (without_guard_of g h) ≡ without_var g (known_of h))

abbrev pub OldestAreDropped : Type 0
OldestAreDropped = (h : StoreView)
    → known_of (trimmed h) ≡ drop (length (known_of h) / 2) (known_of h)

-- what is stored is the full clauses of the problem and the learnt ones, in order
abbrev pub EntriesAreClauses : Type 0
EntriesAreClauses = (h : StoreView)
    → map (λ (e : Entry). e.lits) (entries h) ≡ full (problem_of h) ++ known_of h

-- what is stored without a guard is what doesn't name it, in order
abbrev pub EntriesAreLeft : Type 0
EntriesAreLeft = (g : ℕ) (h : StoreView) → IsWhole h → Contains h.active g
    → entries (without_guard_of g h) ≡ filter (λ (e : Entry). not (names g e.lits)) (entries h)
