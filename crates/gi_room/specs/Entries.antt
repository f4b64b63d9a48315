-- Entries of a history, as their callers see them.
use Rattle.std.specs.Prelude.{ℕ, not, ◌&&◌, ◌==◌, List, filter}
use Rattle.gi_model.specs.History.{Entry}
use Rattle.gi_model.specs.Refusals.{is_work}

-- the entries of a caller, its work among them
abbrev pub all_own_of : ℕ → List Entry → List Entry
all_own_of number entries = filter (λ e. e.by == number) entries

-- the calls of a caller: its entries without work
abbrev pub own_of : ℕ → List Entry → List Entry
own_of number entries = filter (λ e. (e.by == number) && not (is_work e.call)) entries
