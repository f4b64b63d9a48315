-- How a slice ends a solve that neither was stopped nor has spent its budget.
use Rattle.std.specs.Prelude.{ℕ, List, ◌++◌}
use Rattle.gi_model.specs.State.{State, Run}
use Rattle.gi_lit.specs.Ends.{IsModel, IsFailing}
use Rattle.gi_model.specs.declared.replies.Verdict.{Verdict}
use Rattle.gi_model.specs.declared.replies.Verdict.TheVariants.{Sat, Unsat, Unknown}

-- with a model or a failing set
abbrev pub EndsWith : State → Run → List (List ℕ) → Verdict → Type 0
EndsWith s r news (Sat values) = IsModel s.problem r.assumed values
EndsWith s r news (Unsat w) = IsFailing s.problem r.assumed (s.known ++ news) w
EndsWith s r news (Unknown c) = ⊥
