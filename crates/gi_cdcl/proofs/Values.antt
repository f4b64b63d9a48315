-- The values that a trail gives satisfy what is closed.
use Rattle.std.proofs.Common.{◌≡◌, ◌≢◌, ℕ, ◌+◌, ◌-◌, ◌*◌, ◌/◌, ◌%◌, ◌<◌, ◌≤◌, Bool, true, false, not, cond, nat_eq, Some, List, [], ◌∷◌, ◌++◌, length, get_or, refl, sym, ap, ◌∙◌, subst, arith, ◌⊎◌, inl, inr, length-append}
use Rattle.std.specs.List.{All, Contains}
use Rattle.std.proofs.lemmas.Bool.{cases_eq, eqb-true, eqb-false}
use Rattle.std.proofs.lemmas.List.{get_or_append_left, get_or_push}
use Rattle.std.proofs.lemmas.List.Elements.{All-contains}
use Rattle.std.proofs.lemmas.List.Folds.{list_any_at}
use Rattle.gi_lit.specs.Literals.{opposite}
use Rattle.gi_lit.specs.Truth.{true_in, clause_true, Satisfies, MakesTrue}
use Rattle.gi_lit.specs.Closure.{IsSettled, IsClosed, IsConsistent}
use Rattle.gi_lit.specs.Closure.IsSettled.{has_true, has_two}
use Rattle.gi_lit.proofs.Literals.{opposite-opposite, opposite_from_var}
use Rattle.gi_store.specs.StoreView.{StoreView, IsWithin}
use Rattle.gi_prop.specs.TrailView.{HasValue}
use Rattle.gi_cdcl.specs.Sound.{stored, IsUsed}
use Rattle.gi_cdcl.specs.Values.{IsValueOf, IsAssignment, AllAssigned}

-- each of the first n values is that of its variable
pub record ValuesSoFar (lits : List ℕ) (n : ℕ) (values : List Bool) : Type 0 where
  pub len : length values ≡ n
  pub each : (v : ℕ) → v < n → IsValueOf lits v (get_or values v false)

pub ValuesSoFar-push : (lits : List ℕ) (n : ℕ) (values : List Bool) (b : Bool) → ValuesSoFar lits n values → IsValueOf lits n b → ValuesSoFar lits (n + 1) (values ++ b ∷ [])
ValuesSoFar-push lits n values b h is = record {
  len = let l = h.len in omega (arith, length-append values (b ∷ []));
  each = λ v lt. elim (cases_eq v n) [
    | inl same ↦ subst (IsValueOf lits v) (sym (get_or_push values b false v (h.len ∙ sym same))) (rw same is)
    | inr other ↦ subst (IsValueOf lits v) (sym (get_or_append_left values (b ∷ []) false v (let l = h.len in omega arith))) (h.each v (omega arith))
  ];
}

pub either : (lits : List ℕ) (l : ℕ) (b : Bool) → HasValue lits l (Some b) → Contains lits l ⊎ Contains lits (opposite l)
either lits l true h = inl h
either lits l false h = inr h

-- either literal of a variable
pub swapped : (lits : List ℕ) (l m : ℕ) → m / 2 ≡ l / 2 → Contains lits l ⊎ Contains lits (opposite l) → Contains lits m ⊎ Contains lits (opposite m)
swapped lits l m e h = go (cases_eq m l) h
  where
    go : (m ≡ l) ⊎ (m ≡ l → ⊥) → Contains lits l ⊎ Contains lits (opposite l) → Contains lits m ⊎ Contains lits (opposite m)
    go (inl same) (inl k) = inl (subst (Contains lits) (sym same) k)
    go (inl same) (inr k) = inr (subst (Contains lits) (ap opposite (sym same)) k)
    go (inr other) k = let o : m ≡ opposite l = opposite_from_var l m e other in turn o k
      where
        turn : m ≡ opposite l → Contains lits l ⊎ Contains lits (opposite l) → Contains lits m ⊎ Contains lits (opposite m)
        turn o (inl k) = inr (subst (Contains lits) (sym (ap opposite o ∙ opposite-opposite l)) k)
        turn o (inr k) = inl (subst (Contains lits) (sym o) k)

pub value_from : (lits : List ℕ) (v : ℕ) (b : Bool) → IsConsistent lits → HasValue lits (2 * (v + 1)) (Some b) → IsValueOf lits v b
value_from lits v true c h = h
value_from lits v false c h = λ k. c.each (2 * (v + 1)) k h

even_is : (l : ℕ) → nat_eq (l % 2) 0 ≡ true → 1 ≤ l / 2 → l ≡ 2 * ((l / 2 - 1) + 1)
even_is l e big = let q : l % 2 ≡ 0 = eqb-true (l % 2) 0 e in omega arith

odd_is : (l : ℕ) → nat_eq (l % 2) 0 ≡ false → 1 ≤ l / 2 → opposite l ≡ 2 * ((l / 2 - 1) + 1)
unfolding opposite
odd_is l e big = rw e (let q : l % 2 ≢ 0 = eqb-false (l % 2) 0 e in omega arith)

value_of : (values : List Bool) (l : ℕ) (b t : Bool) → get_or values (l / 2 - 1) false ≡ b → nat_eq (l % 2) 0 ≡ t → true_in values l ≡ cond t b (not b)
unfolding true_in
value_of values l b t e f = rw (e, f) refl

-- the literals of the list are true under its values
pub assigned : (lits : List ℕ) (n : ℕ) (values : List Bool) → IsConsistent lits → ValuesSoFar lits n values → IsAssignment n lits values
assigned lits n values c h = record { len = h.len; each = λ l big within k. go l big k (get_or values (l / 2 - 1) false) refl (nat_eq (l % 2) 0) refl (h.each (l / 2 - 1) (omega arith)) }
  where
    go : (l : ℕ) → 1 ≤ l / 2 → Contains lits l → (b : Bool) → get_or values (l / 2 - 1) false ≡ b → (t : Bool) → nat_eq (l % 2) 0 ≡ t → IsValueOf lits (l / 2 - 1) b → true_in values l ≡ true
    go l big k true e true f is = value_of values l true true e f
    go l big k false e true f is = absurd (is (subst (Contains lits) (even_is l f big) k))
    go l big k true e false f is = absurd (c.each l k (subst (Contains lits) (sym (odd_is l f big)) is))
    go l big k false e false f is = value_of values l false false e f

-- where all that is used has a value, each settled clause is true
pub closed_true : (h : StoreView) (lits : List ℕ) (values : List Bool) → All (All (IsUsed h)) (stored h) → All (IsWithin h.vars) (stored h) → IsClosed (stored h) lits → AllAssigned h lits → IsAssignment h.vars lits values → Satisfies values (stored h)
closed_true h lits values u w cl full a = record { each = λ k d lt. go (get_or (stored h) k d) (u k d lt) (w k d lt) (cl.each k d lt) }
  where
    by : (c : List ℕ) (l : ℕ) → Contains c l → true_in values l ≡ true → clause_true values c ≡ true
    by c l h t = list_any_at (true_in values) c h.0 l h.1 (ap (true_in values) h.2 ∙ t)

    known_true : (c : List ℕ) (l : ℕ) → IsWithin h.vars c → Contains c l → Contains lits l → clause_true values c ≡ true
    known_true c l v inside known = let r = All-contains (λ l. (1 ≤ l / 2) × (l / 2 ≤ h.vars)) c l v inside in by c l inside (a.each l r.0 r.1 known)

    go : (c : List ℕ) → All (IsUsed h) c → IsWithin h.vars c → IsSettled lits c → clause_true values c ≡ true
    go c u v (has_true l inside known) = known_true c l v inside known
    go c u v (has_two l m inside other ne free free') =
        elim (full l (All-contains (IsUsed h) c l u inside)) [ inl known ↦ known_true c l v inside known | inr k ↦ absurd (free k) ]

pub assumed_true : (vars : ℕ) (lits assumed : List ℕ) (values : List Bool) → IsWithin vars assumed → All (Contains lits) assumed → IsAssignment vars lits values → MakesTrue values assumed
assumed_true vars lits assumed values w all a = record { each = λ k d lt. let r = w k d lt in a.each (get_or assumed k d) r.0 r.1 (all k d lt) }
