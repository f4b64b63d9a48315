-- What a literal's reasons show.
use Rattle.std.proofs.Common.{◌≡◌, ◌≢◌, ℕ, ◌+◌, ◌*◌, ◌/◌, ◌≤◌, Bool, true, false, nat_eq, ◌&&◌, ◌||◌, Option, Some, None, List, [], ◌∷◌, ◌++◌, map, get_or, refl, sym, ◌∙◌, subst, arith, inl, inr}
use Rattle.std.specs.List.{All, Contains, list_any}
use Rattle.std.proofs.lemmas.Bool.{cases_eq, false≢true, ne_eqb, not-true, not-false}
use Rattle.std.proofs.lemmas.List.Elements.{All-append, All-cons, All-nil, All-contains, All-weaker, All-map, All-head, All-tail, Contains-get_or, Contains-append_left, Contains-append_right}
use Rattle.std.proofs.lemmas.List.Folds.{list_any-append, list_any_none}
use Rattle.gi_lit.specs.Literals.{opposite}
use Rattle.gi_lit.specs.Truth.{true_in, clause_true, Satisfies, IsConsequence, Fail}
use Rattle.gi_lit.specs.Problem.{Problem, Group, are_given, forced, negatives, guarded, full, in_force, IsProblemVar, IsPlain, IsGroup, IsWellFormed}
use Rattle.gi_lit.proofs.Guarding.{guards_sound}
use Rattle.gi_lit.proofs.Literals.{true_in-opposite, var-opposite}
use Rattle.gi_lit.proofs.Vars.{var_facts, Contains-from_has}
use Rattle.gi_model.specs.State.{State, Scope, Found, listed, failing, listed_in, scope_listed}
use Rattle.gi_model.specs.Tests.{Explains}
use Rattle.gi_model.specs.Refusals.{refuses}
use Rattle.gi_model.specs.History.{Allows, Replied}
use Rattle.gi_model.specs.Kept.{IsFoundSound, AreScopesSound, IsKept}
use Rattle.gi_model.specs.declared.calls.Call.TheVariants as call
use Rattle.gi_model.specs.declared.replies.Reply.TheVariants as reply
use Rattle.gi_model.specs.declared.refusal.Refusal.{Refusal}
use Rattle.gi_model.proofs.Accepting.{accepted_facts}

-- a literal that is no guard's gives no guards
given_same : (given : List ℕ) (x : ℕ) (gs : List ℕ) → All (λ g. 2 * g ≢ x) gs → are_given (given ++ x ∷ []) gs ≡ are_given given gs
given_same given x [] a = refl
given_same given x (g ∷ gs) a = rw (list_any-append (nat_eq (2 * g)) given (x ∷ []), ne_eqb (2 * g) x (All-head (λ g. 2 * g ≢ x) g gs a), given_same given x gs (All-tail (λ g. 2 * g ≢ x) g gs a)) (go (list_any (nat_eq (2 * g)) given))
  where
    go : (b : Bool) → ((b || false) && are_given given gs) ≡ (b && are_given given gs)
    go true = refl
    go false = refl

-- and puts no clause in force
forced_same : (given : List ℕ) (x : ℕ) (qs : List Group) → All (λ (q : Group). All (λ g. 2 * g ≢ x) q.guards) qs → forced (given ++ x ∷ []) qs ≡ forced given qs
forced_same given x [] a = refl
forced_same given x (q ∷ qs) a = rw (given_same given x q.guards (All-head (λ (q : Group). All (λ g. 2 * g ≢ x) q.guards) q qs a), forced_same given x qs (All-tail (λ (q : Group). All (λ g. 2 * g ≢ x) q.guards) q qs a)) refl

pub full_low : (p : Problem) → IsWellFormed p → All (λ c. All (λ l. 1 ≤ l / 2) c) (full p)
unfolding full
full_low p h = All-append (λ c. All (λ l. 1 ≤ l / 2) c) p.plain (map guarded p.groups)
    (All-weaker (IsPlain p) (λ c. All (λ l. 1 ≤ l / 2) c) low p.plain h.plain)
    (All-map (λ c. All (λ l. 1 ≤ l / 2) c) guarded p.groups (λ k d lt. group (get_or p.groups k d) (h.groups k d lt)))
  where
    low : (c : List ℕ) → IsPlain p c → All (λ l. 1 ≤ l / 2) c
    low c a = All-weaker (λ l. IsProblemVar p (l / 2)) (λ l. 1 ≤ l / 2) (λ l x. (var_facts p (l / 2) x).low) c a

    guard : (g : ℕ) → Contains p.active g → 1 ≤ g
    guard g a = All-contains (λ x. 1 ≤ x) (p.freed ++ p.active) g h.low (Contains-append_right p.freed p.active g a)

    group : (q : Group) → IsGroup p q → All (λ l. 1 ≤ l / 2) (guarded q)
    group q a = All-append (λ l. 1 ≤ l / 2) q.clause (negatives q.guards) (low q.clause a.0)
        (All-map (λ l. 1 ≤ l / 2) (λ g. 2 * g + 1) q.guards (λ k d lt. let b = guard (get_or q.guards k d) (a.1 k d lt) in omega arith))

reasons_show : (s : State) (m : ℕ) (rs : List ℕ) → IsWellFormed s.problem → IsProblemVar s.problem (m / 2) → Explains s m rs → IsConsequence (in_force s.problem rs) rs m
unfolding full in_force
reasons_show s m rs h pm x values sat given = go (true_in values m) refl
  where
    no_guard : All (λ (q : Group). All (λ g. 2 * g ≢ opposite m) q.guards) s.problem.groups
    no_guard k d lt i e le t =
        let q : get_or (get_or s.problem.groups k d).guards i e ≡ m / 2 = omega (arith, var-opposite m) in
        (var_facts s.problem (m / 2) pm).inactive (subst (Contains s.problem.active) q ((h.groups k d lt).1 i e le))

    fails : Fail (full s.problem) (rs ++ opposite m ∷ [])
    fails v a b = false≢true (sym (list_any_none (true_in v) x.clause each) ∙ All-contains (λ c. clause_true v c ≡ true) (full s.problem) x.clause a.each x.stands)
      where
        false_by : (l : ℕ) → Contains (rs ++ opposite m ∷ []) (opposite l) → true_in v l ≡ false
        false_by l c = not-true (true_in v l) (sym (true_in-opposite v l) ∙ All-contains (λ l. true_in v l ≡ true) (rs ++ opposite m ∷ []) (opposite l) b.each c)

        each : All (λ l. true_in v l ≡ false) x.clause
        each k d lt = elim (cases_eq (get_or x.clause k d) m) [
          | inl e ↦ rw e (false_by m (Contains-append_right rs (opposite m ∷ []) (opposite m) (Contains-get_or (opposite m ∷ []) 0 (opposite m) (omega arith))))
          | inr n ↦ false_by (get_or x.clause k d) (Contains-append_left rs (opposite m ∷ []) _ ((x.others (opposite (get_or x.clause k d))).1 (get_or x.clause k d, Contains-get_or x.clause k d lt, n, refl)))
        ]

    low : All (λ l. 1 ≤ l / 2) (rs ++ opposite m ∷ [])
    low = All-append (λ l. 1 ≤ l / 2) rs (opposite m ∷ []) reason (All-cons (λ l. 1 ≤ l / 2) (opposite m) [] (let f = (var_facts s.problem (m / 2) pm).low in omega (arith, var-opposite m)) (All-nil (λ l. 1 ≤ l / 2)))
      where
        reason : All (λ l. 1 ≤ l / 2) rs
        reason k d lt =
            let o = (x.others (get_or rs k d)).0 (Contains-get_or rs k d lt) in
            let g : 1 ≤ o.0 / 2 = All-contains (λ l. 1 ≤ l / 2) x.clause o.0 (All-contains (λ c. All (λ l. 1 ≤ l / 2) c) (full s.problem) x.clause (full_low s.problem h) x.stands) o.1 in
            rw o.3 (let v = var-opposite o.0 in omega arith)

    go : (b : Bool) → true_in values m ≡ b → b ≡ true
    go true e = refl
    go false e = absurd (guards_sound s.problem (rs ++ opposite m ∷ []) h low fails values
        (subst (λ cs. Satisfies values (s.problem.plain ++ cs)) (sym (forced_same rs (opposite m) s.problem.groups no_guard)) sat)
        (record { each = All-append (λ l. true_in values l ≡ true) rs (opposite m ∷ []) given.each (All-cons (λ l. true_in values l ≡ true) (opposite m) [] (true_in-opposite values m ∙ rw e refl) (All-nil (λ l. true_in values l ≡ true))) }))

-- what open scopes list is of problem variables
scopes_plain : (p : Problem) (given earlier : List ℕ) (scs : List Scope) → AreScopesSound p given earlier scs → All (λ m. IsProblemVar p (m / 2)) (scope_listed scs)
unfolding scope_listed
scopes_plain p given earlier [] h = All-nil (λ m. IsProblemVar p (m / 2))
scopes_plain p given earlier (sc ∷ scs) h = All-append (λ m. IsProblemVar p (m / 2)) (listed_in sc.found) (scope_listed scs) (found (given ++ sc.assumed) sc.found h.0) (scopes_plain p (given ++ sc.assumed) (earlier ++ listed_in sc.found) scs h.1)
  where
    found : (given : List ℕ) (f : Found) → IsFoundSound p given earlier f → All (λ m. IsProblemVar p (m / 2)) (listed_in f)
    found given (listed ls) h = h.plain
    found given (failing w) h = All-nil (λ m. IsProblemVar p (m / 2))

pub answered_reasons : (s : State) (m : ℕ) (rs : List ℕ) → IsKept s → Allows s (call.Reasons m) (reply.Reasons rs) → IsConsequence (in_force s.problem rs) rs m
answered_reasons s m rs k a = go (refuses s (call.Reasons m)) refl a.replied
  where
    go : (o : Option Refusal) → refuses s (call.Reasons m) ≡ o → Replied s (call.Reasons m) (reply.Reasons rs) o → IsConsequence (in_force s.problem rs) rs m
    go (Some r) e (inl x) = absurd cc
    go (Some r) e (inr x) = absurd (cc x.0)
    go None e (inr x) = absurd (cc x.0)
    go None e (inl x) =
        let f = accepted_facts s (call.Reasons m) refl e in
        let stands : Contains (scope_listed s.scopes) m = Contains-from_has (scope_listed s.scopes) m (not-false _ f.listed) in
        reasons_show s m rs k.clauses (All-contains (λ m. IsProblemVar s.problem (m / 2)) (scope_listed s.scopes) m (scopes_plain s.problem [] [] s.scopes k.scopes) stands) x
