-- Facts that tests decide.
use Rattle.std.proofs.Common.{◌≡◌, ◌≢◌, ℕ, ◌+◌, ◌<◌, ◌↔◌, Bool, true, false, not, ◌&&◌, ◌||◌, nat_eq, IsTrue, Result, Ok, Err, IfOk, List, [], ◌∷◌, ◌++◌, length, get_or, refl, sym, ap, ◌∙◌, subst, arith, ◌⊎◌, inl, inr}
use Rattle.std.specs.List.{All, Contains, list_all, list_any}
use Rattle.std.proofs.lemmas.Bool.{both_ways, not-true, not_from_false, false_from_ne_true, and_parts, and_from}
use Rattle.std.proofs.lemmas.Bool.Decides.{Decides-by_and}
use Rattle.std.proofs.lemmas.List.Elements.{Contains-append_cases, Contains-push_cases, Contains-get_or}
use Rattle.std.proofs.lemmas.List.Folds.{Any-from_list_any, list_any_at, list_any_none}
use Rattle.gi_lit.specs.Problem.{has}
use Rattle.gi_lit.specs.Truth.{true_in, clause_true, Satisfies, MakesTrue}
use Rattle.gi_lit.proofs.Vars.{Contains-from_has, has-from_Contains, lacks, lacks_none}

pub no : {P : Type 0} → ¬ P → IsTrue false ↔ P
no n = (λ e. absurd cc, λ p. absurd (n p))

pub yes : {P : Type 0} → P → IsTrue true ↔ P
yes p = (λ e. p, λ q. refl)

-- where the test is false, the fact isn't so
pub not_so : {P : Type 0} (b : Bool) → IsTrue b ↔ P → false ≡ b → ¬ P
not_so b d e p = both_ways b (sym e) (d.1 p)

pub is_so : {P : Type 0} (b : Bool) → IsTrue b ↔ P → true ≡ b → P
is_so b d e = d.0 (sym e)

pub both : {P Q : Type 0} (a b : Bool) → IsTrue a ↔ P → IsTrue b ↔ Q → IsTrue (a && b) ↔ (P × Q)
both a b d e = (λ h. let t = and_parts a b h in (d.0 t.0, e.0 t.1), λ h. and_from a b (d.1 h.0) (e.1 h.1))

pub negated : {P : Type 0} (a : Bool) → IsTrue a ↔ P → IsTrue (not a) ↔ (¬ P)
negated a d = (λ h p. both_ways a (not-true a h) (d.1 p), λ n. not_from_false a (false_from_ne_true a (λ e. n (d.0 e))))

pub like : {P Q : Type 0} (a : Bool) → IsTrue a ↔ P → (P → Q) → (Q → P) → IsTrue a ↔ Q
like a d f g = (λ h. f (d.0 h), λ q. d.1 (g q))

pub ok_like : {E P Q : Type 0} (r : Result Bool E) → (P → Q) → (Q → P) → IfOk r (λ b. IsTrue b ↔ P) → IfOk r (λ b. IsTrue b ↔ Q)
ok_like (Ok b) f g h = like b h f g
ok_like (Err e) f g h = tt

pub all_decides : {X : Type 0} (p : X → Bool) (P : X → Type 0) → ((x : X) → IsTrue (p x) ↔ P x) → (xs : List X) → IsTrue (list_all p xs) ↔ All P xs
all_decides p P d xs = Decides-by_and p P (list_all p) d refl (λ _ _. refl) xs

pub has_decides : (xs : List ℕ) (x : ℕ) → IsTrue (has xs x) ↔ Contains xs x
has_decides xs x = (Contains-from_has xs x, has-from_Contains xs x)

pub has_all_decides : (xs ys : List ℕ) → IsTrue (list_all (has xs) ys) ↔ All (Contains xs) ys
has_all_decides xs ys = all_decides (has xs) (Contains xs) (has_decides xs) ys

pub satisfies_decides : (values : List Bool) (clauses : List (List ℕ)) → IsTrue (list_all (clause_true values) clauses) ↔ Satisfies values clauses
satisfies_decides values clauses =
    let d = all_decides (clause_true values) (λ c. clause_true values c ≡ true) (λ c. (λ e. e, λ e. e)) clauses in
    (λ h. record { each = d.0 h }, λ s. d.1 s.each)

pub makes_true_decides : (values : List Bool) (lits : List ℕ) → IsTrue (list_all (true_in values) lits) ↔ MakesTrue values lits
makes_true_decides values lits =
    let d = all_decides (true_in values) (λ l. true_in values l ≡ true) (λ l. (λ e. e, λ e. e)) lits in
    (λ h. record { each = d.0 h }, λ s. d.1 s.each)

-- of a longer list, an element is the first or one of the rest
pub cons_cases : {X : Type 0} (x : X) (xs : List X) (y : X) → Contains (x ∷ xs) y → (x ≡ y) ⊎ Contains xs y
cons_cases x xs y h = elim (Contains-append_cases (x ∷ []) xs y h) [ inl a ↦ inl (one a) | inr b ↦ inr b ]
  where
    one : Contains (x ∷ []) y → x ≡ y
    one a = elim (Contains-push_cases [] x y a) [ inl e ↦ absurd (let b = e.1 in omega arith) | inr q ↦ q ]

-- some element passes the test
pub any_decides : {X : Type 0} (p : X → Bool) (xs : List X) → IsTrue (list_any p xs) ↔ ((x : X) × Contains xs x × (p x ≡ true))
any_decides p xs = (
  λ h. let a = Any-from_list_any p xs h in (a.1, (a.0, a.2, a.3), a.4),
  λ h. list_any_at p xs h.1.0 h.0 h.1.1 (ap p h.1.2 ∙ h.2),
)
