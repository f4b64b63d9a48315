-- Scopes whose test failed.
use Rattle.std.proofs.Common.{◌≡◌, ℕ, zero, suc, ◌+◌, ◌<◌, ◌≤◌, List, [], ◌∷◌, ◌++◌, length, take, get_or, sym, ap, ◌∙◌, subst, arith, ◌⊎◌, inl, inr, append_assoc}
use Rattle.std.proofs.lemmas.List.{take_more, take_all}
use Rattle.std.proofs.lemmas.List.Elements.{All-contains}
use Rattle.gi_lit.specs.Lists.{IsSublist}
use Rattle.gi_lit.specs.Truth.{Fail}
use Rattle.gi_lit.specs.Problem.{Problem, in_force}
use Rattle.gi_model.specs.State.{Scope, failing, scope_assumed, scope_listed}
use Rattle.gi_model.specs.Tests.{HasFailed, SomeFailed}
use Rattle.gi_scopes.specs.Open.{FoundFails, ScopeFails, StillFail}
use Rattle.gi_scopes.specs.Listing.{Closes, Finds}
use Rattle.gi_scopes.specs.declared.outcome.Outcome.{Outcome}
use Rattle.gi_scopes.specs.declared.outcome.Outcome.TheVariants.{Listed, Failing}
use Rattle.gi_scopes.specs.Kept.{IsChosen, AreChosen, HasFailing}
use Rattle.gi_scopes.proofs.Fronts.{sublist_more}

failed_push : (scs : List Scope) (sc : Scope) → SomeFailed (scs ++ sc ∷ []) → SomeFailed scs ⊎ HasFailed sc.found
failed_push [] sc (inl h) = inr h
failed_push [] sc (inr h) = inl h
failed_push (x ∷ scs) sc (inl h) = inl (inl h)
failed_push (x ∷ scs) sc (inr h) = elim (failed_push scs sc h) [ inl a ↦ inl (inr a) | inr b ↦ inr b ]

pub none_failed_more : (scs : List Scope) (i : ℕ) (sc : Scope) → i < length scs → sc ≡ get_or scs i sc → ¬ SomeFailed (take i scs) → ¬ HasFailed sc.found → ¬ SomeFailed (take (i + 1) scs)
none_failed_more scs i sc lt e none here h = elim (failed_push (take i scs) sc (subst SomeFailed (take_more scs i sc lt ∙ ap (λ (x : Scope). take i scs ++ x ∷ []) (sym e)) h)) [ inl a ↦ none a | inr b ↦ here b ]

pub none_failed_all : (scs : List Scope) (i : ℕ) → length scs ≤ i → ¬ SomeFailed (take i scs) → ¬ SomeFailed scs
none_failed_all scs i le none h = none (subst SomeFailed (sym (take_all i scs le)) h)

failed_at : (scs : List Scope) (k : ℕ) (sc : Scope) → k < length scs → get_or scs k sc ≡ sc → HasFailed sc.found → SomeFailed scs
failed_at [] k sc lt e h = absurd (omega (arith, lt))
failed_at (x ∷ scs) zero sc lt e h = inl (subst (λ (s : Scope). HasFailed s.found) (sym e) h)
failed_at (x ∷ scs) (suc k) sc lt e h = inr (failed_at scs k sc (omega arith) e h)

chosen_at : (given : List ℕ) (scs : List Scope) (k : ℕ) (sc : Scope) (w : List ℕ) → AreChosen given scs → k < length scs → get_or scs k sc ≡ sc → sc.found ≡ failing w → IsSublist w (given ++ scope_assumed scs)
unfolding scope_assumed
chosen_at given [] k sc w h lt e f = absurd (omega (arith, lt))
chosen_at given (x ∷ scs) zero sc w h lt e f =
    let c : IsChosen (given ++ x.assumed) (failing w) = subst (IsChosen (given ++ x.assumed)) (ap (λ (s : Scope). s.found) e ∙ f) h.0 in
    subst (IsSublist w) (append_assoc given x.assumed (scope_assumed scs)) (sublist_more w (given ++ x.assumed) (scope_assumed scs) c)
chosen_at given (x ∷ scs) (suc k) sc w h lt e f = subst (IsSublist w) (append_assoc given x.assumed (scope_assumed scs)) (chosen_at (given ++ x.assumed) scs k sc w h.1 (omega arith) e f)

-- some scope has this failing set
module _ (scs : List Scope) (w : List ℕ) (h : HasFailing scs w) where
  pub has_failed : SomeFailed scs
  has_failed = failed_at scs h.stands.0 h.scope h.stands.1 h.stands.2 (subst HasFailed (sym h.failed) tt)

  pub failing_chosen : AreChosen [] scs → (more : List ℕ) → IsSublist w (scope_assumed scs ++ more)
  failing_chosen c more = sublist_more w (scope_assumed scs) more (chosen_at [] scs h.stands.0 h.scope w c h.stands.1 h.stands.2 h.failed)

  pub failing_fails : (p : Problem) → StillFail p scs → Fail (in_force p w) w
  failing_fails p a =
      let f : ScopeFails p h.scope = All-contains (ScopeFails p) scs h.scope a h.stands in
      subst (FoundFails p) h.failed f

-- what unit closure under all assumptions finds is what a test finds, where no open scope has failed
pub finds_of : (p : Problem) (scs : List Scope) (assumed : List ℕ) (o : Outcome) → ¬ SomeFailed scs → Closes p (scope_assumed scs ++ assumed) (scope_listed scs) o → Finds p scs assumed o
finds_of p scs assumed (Listed i k) none h = ((λ m. elim m [ inl c ↦ h.0 c | inr f ↦ none f ], h.1), h.2)
finds_of p scs assumed (Failing w) none h = (inl h.0, h.1, h.2)
