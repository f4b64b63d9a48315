-- The value of an edge.
use Rattle.std.specs.Prelude.{ℕ, ◌/◌, ◌%◌, Bool, false, not, ◌==◌, if◌then◌else◌, List, slice_index_or}

-- the value of an edge, where node k has the value at place k
unfoldable pub value_in : List Bool → ℕ → Bool
value_in values e = if e % 2 == 0 then slice_index_or values (e / 2) false else not (slice_index_or values (e / 2) false)
