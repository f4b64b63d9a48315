-- The place of a literal among all that scopes list.
use Rattle.std.proofs.Common.{◌≡◌, ℕ, ◌+◌, ◌<◌, ◌≤◌, List, [], ◌++◌, length, take, drop, get_or, sym, ap, ◌∙◌, subst, arith, inl, inr, length-append}
use Rattle.std.specs.List.{All, Contains}
use Rattle.std.proofs.lemmas.List.{take_all, get_or-append-add, get_or_append_left, take-append-drop}
use Rattle.std.proofs.lemmas.List.Elements.{Contains-append_cases, Contains-get_or}
use Rattle.gi_lit.specs.Problem.{Problem}
use Rattle.gi_model.specs.State.{Scope, listed_in, scope_listed}
use Rattle.gi_model.specs.Tests.{before, Explains}
use Rattle.gi_scopes.specs.Open.{Open, asked, AreReasoned, IsReasoned}
use Rattle.gi_scopes.specs.Kept.{IsOpen}
use Rattle.gi_scopes.proofs.Listing.{scope_listed-append, scope_listed-more}

-- what is known of the first scopes
pub record PlacingTo (scs : List Scope) (m i count : ℕ) : Type 0 where
  pub count_is : count ≡ length (scope_listed (take i scs))
  pub missing : ¬ Contains (scope_listed (take i scs)) m

pub placing_none : (scs : List Scope) (m : ℕ) → PlacingTo scs m 0 0
unfolding scope_listed
placing_none scs m = record { count_is = omega arith; missing = λ c. omega (arith, c.1) }

-- what the first scopes list is a front of what all list
listed_front : (scs : List Scope) (i : ℕ) → scope_listed scs ≡ scope_listed (take i scs) ++ scope_listed (drop i scs)
listed_front scs i = ap scope_listed (sym (take-append-drop i scs)) ∙ scope_listed-append (take i scs) (drop i scs)

pub front_fits : (scs : List Scope) (i : ℕ) → length (scope_listed (take i scs)) ≤ length (scope_listed scs)
front_fits scs i = omega (arith, ap length (listed_front scs i), length-append (scope_listed (take i scs)) (scope_listed (drop i scs)))

module _ (scs : List Scope) (m i count : ℕ) (h : PlacingTo scs m i count) (sc : Scope) (lt : i < length scs) (item : sc ≡ get_or scs i sc) where
  more : scope_listed (take (i + 1) scs) ≡ scope_listed (take i scs) ++ listed_in sc.found
  more = scope_listed-more scs i sc lt item

  pub count_more : count + length (listed_in sc.found) ≡ length (scope_listed (take (i + 1) scs))
  count_more = omega (arith, h.count_is, ap length more, length-append (scope_listed (take i scs)) (listed_in sc.found))

  pub count_fits : count + length (listed_in sc.found) ≤ length (scope_listed scs)
  count_fits = omega (arith, count_more, front_fits scs (i + 1))

  pub placing_more : ¬ Contains (listed_in sc.found) m → PlacingTo scs m (i + 1) (count + length (listed_in sc.found))
  placing_more missing = record {
    count_is = count_more;
    missing = λ c. elim (Contains-append_cases (scope_listed (take i scs)) (listed_in sc.found) m (subst (λ xs. Contains xs m) more c)) [ inl a ↦ h.missing a | inr b ↦ missing b ];
  }

  pub placed : (k : ℕ) → k < length (listed_in sc.found) → get_or (listed_in sc.found) k 0 ≡ m → get_or (scope_listed scs) (count + k) 0 ≡ m
  placed k kl e =
      let a : get_or (scope_listed (take (i + 1) scs)) (count + k) 0 ≡ m = ap (λ xs. get_or xs (count + k) 0) more ∙ ap (λ n. get_or (scope_listed (take i scs) ++ listed_in sc.found) (n + k) 0) h.count_is ∙ get_or-append-add (scope_listed (take i scs)) (listed_in sc.found) k 0 ∙ e in
      ap (λ xs. get_or xs (count + k) 0) (listed_front scs (i + 1)) ∙ get_or_append_left (scope_listed (take (i + 1) scs)) (scope_listed (drop (i + 1) scs)) 0 (count + k) (omega (arith, count_more, kl)) ∙ a

pub placing_all : (scs : List Scope) (m i count : ℕ) → length scs ≤ i → PlacingTo scs m i count → ¬ Contains (scope_listed scs) m
placing_all scs m i count le h c = h.missing (subst (λ (s : List Scope). Contains (scope_listed s) m) (sym (take_all i scs le)) c)

-- the noted reasons explain the literal
pub explains : (p : Problem) (o : Open) → IsOpen o.scopes o.reasons → AreReasoned p o → (k m : ℕ) → k < length (scope_listed o.scopes) → get_or (scope_listed o.scopes) k 0 ≡ m → Explains (asked p o.scopes []) m (get_or o.reasons k [])
explains p o h a k m lt e =
    let r : IsReasoned p m (get_or o.reasons k []) = subst (λ x. IsReasoned p x (get_or o.reasons k [])) e (a.each k lt) in
    record { clause = r.clause; stands = r.stands; holds = r.holds; others = r.others; distinct = r.distinct; earlier = subst (λ x. All (Contains (before o.scopes x)) (get_or o.reasons k [])) e (h.earlier.each k lt) }

pub listed_at : (scs : List Scope) (k m : ℕ) → k < length (scope_listed scs) → get_or (scope_listed scs) k 0 ≡ m → Contains (scope_listed scs) m
listed_at scs k m lt e = subst (Contains (scope_listed scs)) e (Contains-get_or (scope_listed scs) k 0 lt)
