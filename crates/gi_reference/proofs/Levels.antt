-- What scopes assume and list.
use Rattle.std.proofs.Common.{◌≡◌, ℕ, ◌+◌, ◌<◌, Bool, true, false, ◌||◌, nat_eq, List, [], ◌∷◌, ◌++◌, length, take, get_or, refl, sym, ap, ◌∙◌, append_assoc}
use Rattle.std.specs.List.{list_any}
use Rattle.std.proofs.lemmas.List.{take_more}
use Rattle.std.proofs.lemmas.List.Folds.{list_any-append}
use Rattle.gi_lit.specs.Problem.{has}
use Rattle.gi_model.specs.State.{Scope, listed_in, scope_assumed, scope_listed}
use Rattle.gi_model.proofs.Keeping.{append-nil}

scope_assumed-push : (scs : List Scope) (sc : Scope) → scope_assumed (scs ++ sc ∷ []) ≡ scope_assumed scs ++ sc.assumed
unfolding scope_assumed
scope_assumed-push [] sc = append-nil sc.assumed
scope_assumed-push (x ∷ scs) sc = rw (scope_assumed-push scs sc, append_assoc) refl

pub scope_assumed-more : (scs : List Scope) (i : ℕ) (sc : Scope) → i < length scs → sc ≡ get_or scs i sc → scope_assumed (take (i + 1) scs) ≡ scope_assumed (take i scs) ++ sc.assumed
scope_assumed-more scs i sc lt e = ap scope_assumed (take_more scs i sc lt) ∙ scope_assumed-push (take i scs) (get_or scs i sc) ∙ ap (λ (x : Scope). scope_assumed (take i scs) ++ x.assumed) (sym e)

scope_listed-push : (scs : List Scope) (sc : Scope) → scope_listed (scs ++ sc ∷ []) ≡ scope_listed scs ++ listed_in sc.found
unfolding scope_listed
scope_listed-push [] sc = append-nil (listed_in sc.found)
scope_listed-push (x ∷ scs) sc = rw (scope_listed-push scs sc, append_assoc) refl

pub scope_listed-more : (scs : List Scope) (i : ℕ) (sc : Scope) → i < length scs → sc ≡ get_or scs i sc → scope_listed (take (i + 1) scs) ≡ scope_listed (take i scs) ++ listed_in sc.found
scope_listed-more scs i sc lt e = ap scope_listed (take_more scs i sc lt) ∙ scope_listed-push (take i scs) (get_or scs i sc) ∙ ap (λ (x : Scope). scope_listed (take i scs) ++ listed_in x.found) (sym e)

pub lists_any : (scs : List Scope) (m : ℕ) → list_any (λ (sc : Scope). has (listed_in sc.found) m) scs ≡ has (scope_listed scs) m
unfolding scope_listed
lists_any [] m = refl
lists_any (sc ∷ scs) m = ap (λ b. has (listed_in sc.found) m || b) (lists_any scs m) ∙ sym (list_any-append (nat_eq m) (listed_in sc.found) (scope_listed scs))
