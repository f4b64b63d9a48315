-- A step that begins with propagation.
use Rattle.std.proofs.Common.{◌≡◌, ℕ, ◌+◌, ◌≤◌, List, length, ◌∙◌, ap, arith, length-append}
use Rattle.gi_store.specs.StoreView.{StoreView}
use Rattle.gi_prop.specs.TrailView.{TrailView}
use Rattle.gi_prop.specs.Attached.{Attached, AddsForced}
use Rattle.gi_cdcl.specs.Steps.{LeadsTo}
use Rattle.gi_cdcl.specs.declared.step.StepResult.{StepResult}
use Rattle.gi_cdcl.specs.declared.step.StepResult.TheVariants.{Decided, Learnt, Refuted, Sat, Failed}

leads_from : (t b : TrailView) (p : Attached) (h : StoreView) (new : TrailView) (assumed : List ℕ) (vars lits : ℕ) (s : StepResult) → b.vars ≡ t.vars → length t.lits ≤ length b.lits → LeadsTo b p h new assumed vars lits s → LeadsTo t p h new assumed vars lits s
leads_from t b p h new assumed vars lits Decided v n l = (l.0, l.1 ∙ v, omega (arith, n, l.2), l.3)
leads_from t b p h new assumed vars lits Learnt v n l = (l.0, l.1 ∙ v)
leads_from t b p h new assumed vars lits Refuted v n l = l
leads_from t b p h new assumed vars lits (Sat values) v n l = l
leads_from t b p h new assumed vars lits (Failed w) v n l = l

pub leads_on : (q : Attached) (i : StoreView) (t b : TrailView) → AddsForced q i t b → (p : Attached) (h : StoreView) (new : TrailView) (assumed : List ℕ) (vars lits : ℕ) (s : StepResult) → LeadsTo b p h new assumed vars lits s → LeadsTo t p h new assumed vars lits s
leads_on q i t b a p h new assumed vars lits s l = leads_from t b p h new assumed vars lits s a.vars (let n : length b.lits ≡ length t.lits + length a.more = ap (λ (xs : List ℕ). length xs) a.lits ∙ length-append t.lits a.more in omega (arith, n)) l
