-- What a test asks of its caller, after a test and after scopes are closed.
use Rattle.std.proofs.Common.{◌≡◌, ℕ, ◌/◌, ◌≤◌, List, [], ◌∷◌, ◌++◌, take, drop, get_or, sym, ap, ◌∙◌, subst}
use Rattle.std.specs.List.{Contains}
use Rattle.std.proofs.lemmas.List.{take-append-drop}
use Rattle.std.proofs.lemmas.List.Elements.{All-append, All-push, All-take, All-contains, Contains-append_left, Contains-get_or}
use Rattle.gi_lit.specs.Problem.{Problem}
use Rattle.gi_store.specs.StoreView.{IsWithin}
use Rattle.gi_model.specs.State.{Scope, Found, listed, failing, scope_assumed}
use Rattle.gi_scopes.specs.Open.{FoundFails, ScopeFails, StillFail}
use Rattle.gi_scopes.specs.Laws.{TestsStayReady, UntestsStayReady}
use Rattle.gi_scopes.specs.declared.answers.Tested.TheVariants as tested
use Rattle.gi_scopes.proofs.Listing.{scope_assumed-append, scope_assumed-push}

opened_ready : (n : ℕ) (p : Problem) (old new : List Scope) (assumed : List ℕ) (f : Found) → new ≡ old ++ record { assumed = assumed; found = f } ∷ [] → FoundFails p f → IsWithin n assumed → IsWithin n (scope_assumed old) → StillFail p old → IsWithin n (scope_assumed new) × StillFail p new
opened_ready n p old new assumed f e fails a within still =
    let sc : Scope = record { assumed = assumed; found = f } in
    subst (λ (s : List Scope). IsWithin n (scope_assumed s) × StillFail p s) (sym e) (
      subst (IsWithin n) (sym (scope_assumed-push old sc)) (All-append (λ l. (1 ≤ l / 2) × (l / 2 ≤ n)) (scope_assumed old) assumed within a),
      All-push (ScopeFails p) old sc still fails,
    )

pub stays_ready : TestsStayReady
stays_ready n p old new assumed (tested.Implied ls) answers opens a within still = opened_ready n p old.scopes new.scopes assumed (listed ls) opens tt a within still
stays_ready n p old new assumed (tested.Failed w) answers opens a within still = opened_ready n p old.scopes new.scopes assumed (failing w) opens answers.2 a within still
stays_ready n p old new assumed tested.NoMemory answers opens a within still = subst (λ (scs : List Scope). IsWithin n (scope_assumed scs) × StillFail p scs) (sym opens.0) (within, still)

pub closed_ready : UntestsStayReady
closed_ready n p scs left within still = (front, All-take (ScopeFails p) left scs still)
  where
    all : scope_assumed scs ≡ scope_assumed (take left scs) ++ scope_assumed (drop left scs)
    all = ap scope_assumed (sym (take-append-drop left scs)) ∙ scope_assumed-append (take left scs) (drop left scs)

    front : IsWithin n (scope_assumed (take left scs))
    front k d lt = All-contains (λ l. (1 ≤ l / 2) × (l / 2 ≤ n)) (scope_assumed scs) (get_or (scope_assumed (take left scs)) k d) within (subst (λ xs. Contains xs (get_or (scope_assumed (take left scs)) k d)) (sym all) (Contains-append_left (scope_assumed (take left scs)) (scope_assumed (drop left scs)) (get_or (scope_assumed (take left scs)) k d) (Contains-get_or (scope_assumed (take left scs)) k d lt)))
