-- The rule of a turnstile, which holds between any two steps.
use Rattle.std.specs.Prelude.{◌≡◌, ℕ, ◌+◌, ◌^◌, List, [], ◌∷◌, length, Option}
use mathlib.Core.Option.{Option as Place}
use Rattle.atomic_table.specs.Table.{State}
use Rattle.gi_turn.specs.declared.view.Entry.{Entry}
use Rattle.gi_turn.specs.declared.view.View.{View}
use Rattle.gi_turn.specs.Entries.{phase_after, head}
use Rattle.gi_turn.specs.Views.{calls_left}
use Rattle.gi_turn.specs.Turns.{Turns}
use Rattle.gi_turn.specs.Numbers.{Numbers, Kinship}
use Rattle.gi_turn.specs.Marks.{Marks}

-- There is one history. The words are the tickets drawn, the history's length with its phase, and
-- the greatest mark asked; the tickets drawn and the calls left make 2 ^ 56.
pub record Rule {T : Type 0} (stands : T → List Entry → Type 0) (may : List Entry → ℕ → Type 0)
    (first : ℕ) (s : State (Option T) View) : Type 0 where
  pub ticket : ℕ
  pub stop : ℕ
  pub log : List Entry
  pub holder : ℕ → ℕ
  pub owner : ℕ → ℕ
  pub slot : Place (Option T)
  pub words : s.words ≡ ticket ∷ head (length log) (phase_after first log) ∷ stop ∷ []
  pub homes : s.homes ≡ slot ∷ []
  pub count : ticket + calls_left s.views ≡ 2 ^ 56
  pub turns : Turns stands first ticket log holder slot s.views
  pub numbers : Numbers log owner s.views
  pub kinship : Kinship s.views
  pub marks : Marks may stop log s.views
