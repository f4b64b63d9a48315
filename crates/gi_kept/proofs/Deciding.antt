-- When a model is true, by what tables say.
use Rattle.std.proofs.Common.{◌≡◌, ℕ, Bool, true, false, not, ◌||◌, ◌&&◌, cond, List, [], ◌∷◌, ◌++◌, All, ◌↔◌, IsTrue, refl, ap, sym, ◌∙◌}
use Rattle.std.specs.List.{list_all}
use Rattle.std.proofs.lemmas.Bool.{and_from, and_parts, false≢true}
use Rattle.std.proofs.lemmas.List.Elements.{All-cons, All-head, All-nil, All-tail}
use Rattle.std.proofs.lemmas.List.Folds.{list_all-append}
use Rattle.gi_lit.specs.Problem.{Group, are_given, forced}
use Rattle.gi_kept.specs.Kept.{Kept, in_force}
use Rattle.gi_kept.specs.Marks.{AreMarked, has_marked, holds_marked, meets_marked}
use Rattle.gi_kept.specs.Truth.{IsTrueTo, holds, meets}
use Rattle.gi_kept.proofs.Marking.{given_is, holds_is, meets_is}

all_from : {A : Type 0} (p : A → Bool) (xs : List A) → list_all p xs ≡ true → All (λ x. p x ≡ true) xs
all_from p [] h = All-nil (λ x. p x ≡ true)
all_from p (x ∷ xs) h =
    let both = and_parts (p x) (list_all p xs) h in
    All-cons (λ y. p y ≡ true) x xs both.0 (all_from p xs both.1)

from_all : {A : Type 0} (p : A → Bool) (xs : List A) → All (λ x. p x ≡ true) xs → list_all p xs ≡ true
from_all p [] h = refl
from_all p (x ∷ xs) h = and_from (p x) (list_all p xs) (All-head (λ y. p y ≡ true) x xs h) (from_all p xs (All-tail (λ y. p y ≡ true) x xs h))

same_all : {A : Type 0} (p q : A → Bool) (xs : List A) → ((x : A) → p x ≡ q x) → list_all p xs ≡ list_all q xs
same_all p q [] e = refl
same_all p q (x ∷ xs) e = ap (λ b. b && list_all p xs) (e x) ∙ ap (λ b. q x && b) (same_all p q xs e)

-- the groups in force
forced_is : (m on : List Bool) (model assumed : List ℕ) (groups : List Group) → AreMarked m model → AreMarked on assumed → list_all (has_marked m on) groups ≡ list_all (meets model) (forced assumed groups)
forced_is m on model assumed [] a b = refl
forced_is m on model assumed (q ∷ qs) a b =
    ap (λ x. (not x || meets_marked m q.clause) && list_all (has_marked m on) qs) (given_is on assumed q.guards b)
    ∙ ap (λ x. (not (are_given assumed q.guards) || x) && list_all (has_marked m on) qs) (meets_is m model q.clause a)
    ∙ ap (λ x. (not (are_given assumed q.guards) || meets model q.clause) && x) (forced_is m on model assumed qs a b)
    ∙ by_given (are_given assumed q.guards) where
      by_given : (g : Bool) → ((not g || meets model q.clause) && list_all (meets model) (forced assumed qs)) ≡ list_all (meets model) (cond g (q.clause ∷ forced assumed qs) (forced assumed qs))
      by_given true = refl
      by_given false = refl

-- the clauses in force
in_force_is : (k : Kept) (model : List ℕ) (m on : List Bool) → AreMarked m model → AreMarked on k.assumed
    → list_all (meets model) (in_force k) ≡ (list_all (meets_marked m) k.plain && list_all (has_marked m on) k.groups)
unfolding in_force
in_force_is k model m on a b =
    list_all-append (meets model) k.plain (forced k.assumed k.groups)
    ∙ ap (λ x. x && list_all (meets model) (forced k.assumed k.groups)) (same_all (meets model) (meets_marked m) k.plain (λ c. sym (meets_is m model c a)))
    ∙ ap (λ x. list_all (meets_marked m) k.plain && x) (sym (forced_is m on model k.assumed k.groups a b))

held_is : (k : Kept) (model : List ℕ) (m gs : List Bool) → AreMarked m model → AreMarked gs k.guards → list_all (holds_marked gs m) k.assumed ≡ list_all (holds k.guards model) k.assumed
held_is k model m gs a b = same_all (holds_marked gs m) (holds k.guards model) k.assumed (λ l. holds_is gs m k.guards model l b a)

-- a clause of these isn't met
pub untrue_plain : (k : Kept) (model : List ℕ) (m : List Bool) → AreMarked m model → list_all (meets_marked m) k.plain ≡ false → IsTrue false ↔ IsTrueTo k model
unfolding in_force
untrue_plain k model m a unmet = (
  λ h. absurd (false≢true h),
  λ t.
      absurd (false≢true (sym (same_all (meets model) (meets_marked m) k.plain (λ c. sym (meets_is m model c a)) ∙ unmet)
      ∙ (and_parts (list_all (meets model) k.plain) (list_all (meets model) (forced k.assumed k.groups)) (sym (list_all-append (meets model) k.plain (forced k.assumed k.groups)) ∙ from_all (meets model) (k.plain ++ forced k.assumed k.groups) t.clauses)).0)),
)

pub untrue_group : (k : Kept) (model : List ℕ) (m on : List Bool) → AreMarked m model → AreMarked on k.assumed → list_all (has_marked m on) k.groups ≡ false → IsTrue false ↔ IsTrueTo k model
untrue_group k model m on a b unmet = (
  λ h. absurd (false≢true h),
  λ t.
      absurd (false≢true (sym unmet ∙ (and_parts (list_all (meets_marked m) k.plain) (list_all (has_marked m on) k.groups) (sym (in_force_is k model m on a b) ∙ from_all (meets model) (in_force k) t.clauses)).1)),
)

-- all are, and it is by the assumptions
pub by_assumed : (k : Kept) (model : List ℕ) (m on gs : List Bool) (told : Bool) → AreMarked m model → AreMarked on k.assumed → AreMarked gs k.guards
    → list_all (meets_marked m) k.plain ≡ true → list_all (has_marked m on) k.groups ≡ true → told ≡ list_all (holds_marked gs m) k.assumed → IsTrue told ↔ IsTrueTo k model
by_assumed k model m on gs told a b c plain groups is = (
  λ h. record {
    clauses = all_from (meets model) (in_force k) (in_force_is k model m on a b ∙ and_from (list_all (meets_marked m) k.plain) (list_all (has_marked m on) k.groups) plain groups);
    assumed = all_from (holds k.guards model) k.assumed (sym (held_is k model m gs a c) ∙ sym is ∙ h);
  },
  λ t. is ∙ held_is k model m gs a c ∙ from_all (holds k.guards model) k.assumed t.assumed,
)
