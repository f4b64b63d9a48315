-- Entries of a history, as their callers see them.
use Rattle.std.specs.Prelude.{◌≡◌, ℕ, Bool, true, false, not, ◌&&◌, ◌==◌, ◌⊎◌, List, [], ◌∷◌, filter, map}
use Rattle.gi_model.specs.History.{Entry}
use Rattle.gi_model.specs.declared.calls.Call.{Call}
use Rattle.gi_model.specs.declared.calls.Call.TheVariants.{Work, Wait}
use Rattle.gi_model.specs.declared.replies.Reply.{Reply}

abbrev pub is_work : Call → Bool
is_work (Work mark) = true
is_work call = false

-- the entries of a caller, its work among them
abbrev pub all_own_of : ℕ → List Entry → List Entry
all_own_of number entries = filter (λ e. e.by == number) entries

-- the calls of a caller: its entries without work
abbrev pub own_of : ℕ → List Entry → List Entry
own_of number entries = filter (λ e. (e.by == number) && not (is_work e.call)) entries

abbrev pub replies : List Entry → List Reply
replies entries = map (λ e. e.reply) entries

-- behind work comes more work, or the entry of the wait that it was done for; `last` says when
-- nothing comes
abbrev pub WaitIsNext : Type 0 → List Entry → Type 0
WaitIsNext last [] = last
WaitIsNext last (e ∷ es) = (is_work e.call ≡ true) ⊎ (e.call ≡ Wait)

-- a caller's own work stands only right before the own entry of a wait, or at the end where `last`
-- holds
abbrev pub WorksForWaits : Type 0 → List Entry → Type 0
WorksForWaits last [] = Unit {0}
WorksForWaits last (e ∷ es) = (is_work e.call ≡ true → WaitIsNext last es) × WorksForWaits last es
