use Rattle.std.proofs.Common.{◌≡◌, ℕ, List, ◌⊎◌, inl, inr, sym, ◌∙◌}
use Rattle.std.specs.List.{Contains}
use Rattle.std.proofs.lemmas.List.Elements.{All-contains}
use Rattle.gi_lit.specs.Literals.{opposite}
use Rattle.gi_lit.specs.Closure.{IsFalsified}
use Rattle.gi_prop.specs.Attached.{HasTwoLeft}
use Rattle.gi_prop.specs.Steps.{AreOthersFalse}

-- no two are left where all but one are false
pub one_left : (lits clause : List ℕ) (l : ℕ) → AreOthersFalse lits clause l → ¬ HasTwoLeft lits clause
one_left lits clause l h t = t.pair.differ (is t.a t.pair.first t.a_left ∙ sym (is t.b t.pair.second t.b_left))
  where
    is : (m : ℕ) → Contains clause m → ¬ Contains lits (opposite m) → m ≡ l
    is m k free = elim (All-contains (λ x. (x ≡ l) ⊎ Contains lits (opposite x)) clause m h k) [ inl e ↦ e | inr f ↦ absurd (free f) ]

pub none_left : (lits clause : List ℕ) → IsFalsified lits clause → ¬ HasTwoLeft lits clause
none_left lits clause h t = t.a_left (All-contains (λ x. Contains lits (opposite x)) clause t.a h t.pair.first)
