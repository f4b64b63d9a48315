-- How a guard is made active.
use Rattle.std.specs.Prelude.{◌≡◌, ℕ, ◌+◌, ◌-◌, List, [], ◌∷◌, ◌++◌, length, slice_set}
use Rattle.gi_store.specs.declared.kind.VarKind.{VarKind}
use Rattle.gi_store.specs.declared.kind.VarKind.TheVariants.{Active}

-- where none is freed the next variable is taken, else the last of the list
pub data Takes (kinds : List VarKind) (freed : List ℕ) (guard : ℕ) (new_kinds : List VarKind)
    (new_freed : List ℕ) : Type 0 where
  next : freed ≡ [] → new_freed ≡ [] → guard ≡ length kinds + 1 → new_kinds ≡ kinds ++ Active ∷ []
      → Takes kinds freed guard new_kinds new_freed
  again : freed ≡ new_freed ++ guard ∷ [] → new_kinds ≡ slice_set kinds (guard - 1) Active
      → Takes kinds freed guard new_kinds new_freed
