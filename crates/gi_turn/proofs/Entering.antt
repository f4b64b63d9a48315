-- What a seat knows as it enters.
use Rattle.std.proofs.Common.{◌≡◌, ℕ, true, List, [], sym, ap, subst, append-nil}
use Rattle.gi_turn.specs.declared.view.Entry.{Entry}
use Rattle.gi_turn.specs.declared.view.View.{View}
use Rattle.gi_turn.specs.Entries.{StartsWith, AreGlances}
use Rattle.gi_turn.specs.Views.{KnowsMarks, KnowsPhases, OwnSeen, IsLawful}
use Rattle.gi_turn.specs.Steps.{HasEntered}
use Rattle.gi_turn.proofs.Views.{knows_phases}

module _ {T : Type 0} (stands : T → List Entry → Type 0) (may : List Entry → ℕ → Type 0) (v : View) (t : T) (w : View) (h : HasEntered stands may v t w) where
  pub entered_begins : StartsWith w.seen v.seen
  entered_begins = subst (λ (y : View). StartsWith y.seen v.seen) (sym h.view) h.finds.starts

  pub entered_turn : w.turn ≡ true
  entered_turn = ap (λ (y : View). y.turn) h.view

  pub entered_stands : stands t w.seen
  entered_stands = subst (λ (y : View). stands t y.seen) (sym h.view) h.finds.stands_for

  pub entered_own : OwnSeen v w.seen
  entered_own = subst (λ (y : View). OwnSeen v y.seen) (sym h.view) h.finds.own_seen

  pub entered_lawful : IsLawful may w.seen
  entered_lawful = subst (λ (y : View). IsLawful may y.seen) (sym h.view) h.finds.lawful

  pub entered_glances : AreGlances w.opened w.seen w.glances
  entered_glances = subst (λ (y : View). AreGlances y.opened y.seen y.glances) (sym h.view) h.finds.named

  pub entered_phases : KnowsPhases w
  entered_phases = knows_phases w w.seen ([], sym (append-nil w.seen)) entered_glances

  pub entered_marks : KnowsMarks may w
  entered_marks = subst (KnowsMarks may) (sym h.view) (h.finds.lawful, (λ sole. (h.finds.sole sole).1), (λ sole. (h.finds.sole sole).2))
