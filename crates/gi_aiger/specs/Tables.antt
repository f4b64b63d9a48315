-- The values of a table.
use Rattle.std.specs.Prelude.{ℕ, ◌/◌, ◌%◌, [], slice_index_or}
use Rattle.gi_aiger.specs.declared.table.Table.{Table}

-- the value of a number: that on its page, or else the one that all others have
unfoldable pub value_of : {T : Type 0} → Table T → ℕ → T
value_of t v = slice_index_or (slice_index_or t.pages.items (v / 4096) []) (v % 4096) t.other
