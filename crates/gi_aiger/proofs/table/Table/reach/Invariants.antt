use Rattle.std.proofs.Common.{◌≡◌, ℕ, ◌+◌, ◌-◌, vec_len}
use Rattle.gi_aiger.specs.Tables.{value_of}
use Rattle.gi_aiger.proofs.table.Table.reach.Given as goal

abbrev pub invariant-pages : goal.invariant-pages
invariant-pages g l = (w : ℕ) → value_of l.self w ≡ value_of l.initial.self w

abbrev pub decreases-pages : goal.decreases-pages
decreases-pages g l = l.page + 1 - vec_len l.self.pages
