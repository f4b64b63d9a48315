-- What open scopes assume and list, and what is left of it where the last ones are closed.
use Rattle.std.proofs.Common.{◌≡◌, ℕ, ◌+◌, ◌<◌, ◌≤◌, Bool, true, false, cond, not, ◌||◌, nat_eq, eqb, List, [], ◌∷◌, ◌++◌, length, take, drop, get_or, refl, sym, ap, ◌∙◌, subst, arith, append_assoc, length-append}
use Rattle.std.specs.List.{All, Contains, list_any, take_while}
use Rattle.std.proofs.lemmas.Bool.{false≢true}
use Rattle.std.proofs.lemmas.List.{take-append-drop, take_all, take_more, length-take-le, get_or-take, get_or_append_left, append-nil}
use Rattle.std.proofs.lemmas.List.Elements.{Contains-get_or}
use Rattle.std.proofs.lemmas.List.Folds.{list_any-append}
use Rattle.gi_lit.specs.Problem.{Problem, has}
use Rattle.gi_lit.proofs.Vars.{has-from_Contains}
use Rattle.gi_model.specs.State.{Scope, listed_in, scope_assumed, scope_listed}
use Rattle.gi_model.specs.Tests.{before}
use Rattle.gi_scopes.specs.Open.{AreExplained, IsReasoned}
use Rattle.gi_scopes.specs.Kept.{AreChosen, IsOpen}

pub scope_assumed-append : (xs ys : List Scope) → scope_assumed (xs ++ ys) ≡ scope_assumed xs ++ scope_assumed ys
unfolding scope_assumed
scope_assumed-append [] ys = refl
scope_assumed-append (sc ∷ xs) ys = ap (λ ls. sc.assumed ++ ls) (scope_assumed-append xs ys) ∙ sym (append_assoc sc.assumed (scope_assumed xs) (scope_assumed ys))

pub scope_listed-append : (xs ys : List Scope) → scope_listed (xs ++ ys) ≡ scope_listed xs ++ scope_listed ys
unfolding scope_listed
scope_listed-append [] ys = refl
scope_listed-append (sc ∷ xs) ys = ap (λ ls. listed_in sc.found ++ ls) (scope_listed-append xs ys) ∙ sym (append_assoc (listed_in sc.found) (scope_listed xs) (scope_listed ys))

scope_assumed-one : (sc : Scope) → scope_assumed (sc ∷ []) ≡ sc.assumed
unfolding scope_assumed
scope_assumed-one sc = append-nil sc.assumed

scope_listed-one : (sc : Scope) → scope_listed (sc ∷ []) ≡ listed_in sc.found
unfolding scope_listed
scope_listed-one sc = append-nil (listed_in sc.found)

pub scope_assumed-push : (scs : List Scope) (sc : Scope) → scope_assumed (scs ++ sc ∷ []) ≡ scope_assumed scs ++ sc.assumed
scope_assumed-push scs sc = scope_assumed-append scs (sc ∷ []) ∙ ap (λ ls. scope_assumed scs ++ ls) (scope_assumed-one sc)

pub scope_listed-push : (scs : List Scope) (sc : Scope) → scope_listed (scs ++ sc ∷ []) ≡ scope_listed scs ++ listed_in sc.found
scope_listed-push scs sc = scope_listed-append scs (sc ∷ []) ∙ ap (λ ls. scope_listed scs ++ ls) (scope_listed-one sc)

pub scope_assumed-more : (scs : List Scope) (i : ℕ) (sc : Scope) → i < length scs → sc ≡ get_or scs i sc → scope_assumed (take (i + 1) scs) ≡ scope_assumed (take i scs) ++ sc.assumed
scope_assumed-more scs i sc lt e = ap scope_assumed (take_more scs i sc lt) ∙ scope_assumed-push (take i scs) (get_or scs i sc) ∙ ap (λ (x : Scope). scope_assumed (take i scs) ++ x.assumed) (sym e)

pub scope_listed-more : (scs : List Scope) (i : ℕ) (sc : Scope) → i < length scs → sc ≡ get_or scs i sc → scope_listed (take (i + 1) scs) ≡ scope_listed (take i scs) ++ listed_in sc.found
scope_listed-more scs i sc lt e = ap scope_listed (take_more scs i sc lt) ∙ scope_listed-push (take i scs) (get_or scs i sc) ∙ ap (λ (x : Scope). scope_listed (take i scs) ++ listed_in x.found) (sym e)

-- the last scope's part of what is listed
pub listed_last : (scs : List Scope) (n : ℕ) (sc : Scope) → length scs ≡ n + 1 → sc ≡ get_or scs n sc → length (scope_listed scs) ≡ length (scope_listed (take n scs)) + length (listed_in sc.found)
listed_last scs n sc e is =
    let whole : take (n + 1) scs ≡ scs = take_all (n + 1) scs (omega arith) in
    ap length (ap scope_listed (sym whole) ∙ scope_listed-more scs n sc (omega arith) is) ∙ length-append (scope_listed (take n scs)) (listed_in sc.found)

pub lists_any : (scs : List Scope) (m : ℕ) → list_any (λ (sc : Scope). has (listed_in sc.found) m) scs ≡ has (scope_listed scs) m
unfolding scope_listed
lists_any [] m = refl
lists_any (sc ∷ scs) m = ap (λ b. has (listed_in sc.found) m || b) (lists_any scs m) ∙ sym (list_any-append (nat_eq m) (listed_in sc.found) (scope_listed scs))

chosen_less : (given : List ℕ) (xs ys : List Scope) → AreChosen given (xs ++ ys) → AreChosen given xs
chosen_less given [] ys h = tt
chosen_less given (sc ∷ xs) ys h = (h.0, chosen_less (given ++ sc.assumed) xs ys h.1)

-- what comes before a listed literal depends on the scopes up to its own alone
pub before-append : (xs ys : List Scope) (m : ℕ) → has (scope_listed xs) m ≡ true → before (xs ++ ys) m ≡ before xs m
unfolding before scope_listed
before-append [] ys m h = absurd (false≢true h)
before-append (sc ∷ xs) ys m h = ap (λ ls. sc.assumed ++ (take_while (λ l. not (eqb l m)) (listed_in sc.found) ++ ls)) (go (before-append xs ys m) (has (listed_in sc.found) m) (sym (list_any-append (nat_eq m) (listed_in sc.found) (scope_listed xs)) ∙ h))
  where
    go : (has (scope_listed xs) m ≡ true → before (xs ++ ys) m ≡ before xs m) → (b : Bool) → (b || has (scope_listed xs) m) ≡ true → cond b [] (before (xs ++ ys) m) ≡ cond b [] (before xs m)
    go rest true e = refl
    go rest false e = rest e

pub open_none : IsOpen [] []
unfolding scope_listed
open_none = record { few = omega arith; chosen = tt; earlier = record { count = refl; each = λ k lt. absurd (omega arith) } }

module _ (scs : List Scope) (rss : List (List ℕ)) (n : ℕ) where
  split : take n scs ++ drop n scs ≡ scs
  split = take-append-drop n scs

  all : scope_listed scs ≡ scope_listed (take n scs) ++ scope_listed (drop n scs)
  all = ap scope_listed (sym split) ∙ scope_listed-append (take n scs) (drop n scs)

  enough : length (scope_listed (take n scs)) ≤ length (scope_listed scs)
  enough = omega (arith, ap length all, length-append (scope_listed (take n scs)) (scope_listed (drop n scs)))

  same_lit : (k : ℕ) → k < length (scope_listed (take n scs)) → get_or (scope_listed scs) k 0 ≡ get_or (scope_listed (take n scs)) k 0
  same_lit k lt = ap (λ xs. get_or xs k 0) all ∙ get_or_append_left (scope_listed (take n scs)) (scope_listed (drop n scs)) 0 k lt

  same_before : (k : ℕ) → k < length (scope_listed (take n scs)) → before scs (get_or (scope_listed (take n scs)) k 0) ≡ before (take n scs) (get_or (scope_listed (take n scs)) k 0)
  same_before k lt =
      let x : ℕ = get_or (scope_listed (take n scs)) k 0 in
      ap (λ s. before s x) (sym split) ∙ before-append (take n scs) (drop n scs) x (has-from_Contains (scope_listed (take n scs)) x (Contains-get_or (scope_listed (take n scs)) k 0 lt))

  pub open_less : IsOpen scs rss → IsOpen (take n scs) (take (length (scope_listed (take n scs))) rss)
  open_less h = record {
    few = omega (arith, h.few, ap length split, length-append (take n scs) (drop n scs));
    chosen = chosen_less [] (take n scs) (drop n scs) (subst (AreChosen []) (sym split) h.chosen);
    earlier = record {
      count = length-take-le (length (scope_listed (take n scs))) rss (omega (arith, enough, h.earlier.count));
      each = λ k lt.
          let x : ℕ = get_or (scope_listed (take n scs)) k 0 in
          let e : All (Contains (before scs (get_or (scope_listed scs) k 0))) (get_or rss k []) = h.earlier.each k (omega (arith, enough)) in
          let f : All (Contains (before scs x)) (get_or rss k []) = subst (λ y. All (Contains (before scs y)) (get_or rss k [])) (same_lit k lt) e in
          let g : All (Contains (before (take n scs) x)) (get_or rss k []) = subst (λ ls. All (Contains ls) (get_or rss k [])) (same_before k lt) f in
          subst (λ rs. All (Contains (before (take n scs) x)) rs) (sym (get_or-take (length (scope_listed (take n scs))) rss k [] lt)) g;
    };
  }

  pub reasoned_less : (p : Problem) → AreExplained p scs rss → AreExplained p (take n scs) (take (length (scope_listed (take n scs))) rss)
  reasoned_less p h = record {
    count = length-take-le (length (scope_listed (take n scs))) rss (omega (arith, enough, h.count));
    each = λ k lt.
        let e : IsReasoned p (get_or (scope_listed scs) k 0) (get_or rss k []) = h.each k (omega (arith, enough)) in
        let f : IsReasoned p (get_or (scope_listed (take n scs)) k 0) (get_or rss k []) = subst (λ y. IsReasoned p y (get_or rss k [])) (same_lit k lt) e in
        subst (IsReasoned p (get_or (scope_listed (take n scs)) k 0)) (sym (get_or-take (length (scope_listed (take n scs))) rss k [] lt)) f;
  }
