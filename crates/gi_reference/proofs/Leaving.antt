-- Lists with some places left out, and lists in which no number stands twice.
use Rattle.std.proofs.Common.{◌≡◌, ◌≢◌, ℕ, ◌+◌, ◌<◌, ◌≤◌, ◌↔◌, ◌==◌, Bool, true, false, IsTrue, List, [], ◌∷◌, ◌++◌, length, take, drop, get_or, refl, sym, ap, ◌∙◌, subst, arith, ◌⊎◌, inl, inr}
use Rattle.std.specs.List.{Contains}
use Rattle.std.proofs.lemmas.Bool.{cases_lt, eq-eqb, eqb-true}
use Rattle.std.proofs.lemmas.List.{at_drop_more, drop_all, take_more, take_all, take-append-drop}
use Rattle.gi_lit.specs.Problem.{has}
use Rattle.gi_lit.specs.Lists.{IsDistinct, IsSublist}
use Rattle.gi_lit.proofs.Vars.{Contains-from_has, lacks_none}
use Rattle.gi_lit.proofs.Distinct.{IsDistinct-push, IsDistinct-append_left, IsDistinct-apart, Contains-head}
use Rattle.gi_reference.proofs.Deciding.{yes, no}

sub_skip : (xs ys : List ℕ) (y : ℕ) → IsSublist xs ys → IsSublist xs (y ∷ ys)
sub_skip [] ys y h = tt
sub_skip (x ∷ xs) ys y h = inr h

sub_tail : (xs ys : List ℕ) (x : ℕ) → IsSublist (x ∷ xs) ys → IsSublist xs ys
sub_tail xs [] x h = absurd h
sub_tail xs (y ∷ ys) x (inl h) = sub_skip xs ys y h.1
sub_tail xs (y ∷ ys) x (inr h) = sub_skip xs ys y (sub_tail xs ys x h)

-- a number that comes next may be taken
greedy : (x y : ℕ) (xs ys : List ℕ) → x ≡ y → IsSublist (x ∷ xs) (y ∷ ys) ↔ IsSublist xs ys
greedy x y xs ys e = (to, λ h. inl (e, h))
  where
    to : IsSublist (x ∷ xs) (y ∷ ys) → IsSublist xs ys
    to (inl h) = h.1
    to (inr h) = sub_tail xs ys x h

differs : (x y : ℕ) (xs ys : List ℕ) → (x ≡ y → ⊥) → IsSublist (x ∷ xs) (y ∷ ys) ↔ IsSublist (x ∷ xs) ys
differs x y xs ys n = (to, λ h. inr h)
  where
    to : IsSublist (x ∷ xs) (y ∷ ys) → IsSublist (x ∷ xs) ys
    to (inl h) = absurd (n h.0)
    to (inr h) = h

module _ (part whole : List ℕ) (met i y : ℕ) (lt : i < length whole) (is : y ≡ get_or whole i 0) where
  left : drop i whole ≡ y ∷ drop (i + 1) whole
  left = at_drop_more (λ zs. zs) whole i 0 lt ∙ ap (λ z. z ∷ drop (i + 1) whole) (sym is)

  sub_met : met < length part → get_or part met 0 ≡ y → IsSublist (drop met part) (drop i whole) ↔ IsSublist (drop (met + 1) part) (drop (i + 1) whole)
  sub_met lm e =
      let m : drop met part ≡ get_or part met 0 ∷ drop (met + 1) part = at_drop_more (λ zs. zs) part met 0 lm in
      let P : List ℕ → List ℕ → Type 0 = λ a b. IsSublist a b ↔ IsSublist (drop (met + 1) part) (drop (i + 1) whole) in
      subst (λ a. P a (drop i whole)) (sym m) (subst (P (get_or part met 0 ∷ drop (met + 1) part)) (sym left) (greedy (get_or part met 0) y (drop (met + 1) part) (drop (i + 1) whole) e))

  sub_unmet : ¬ ((met < length part) × (get_or part met 0 ≡ y)) → IsSublist (drop met part) (drop i whole) ↔ IsSublist (drop met part) (drop (i + 1) whole)
  sub_unmet n = subst (λ b. IsSublist (drop met part) b ↔ IsSublist (drop met part) (drop (i + 1) whole)) (sym left) (elim (cases_lt met (length part)) [
    | inl lm ↦
        let m : drop met part ≡ get_or part met 0 ∷ drop (met + 1) part = at_drop_more (λ zs. zs) part met 0 lm in
        subst (λ a. IsSublist a (y ∷ drop (i + 1) whole) ↔ IsSublist a (drop (i + 1) whole)) (sym m) (differs (get_or part met 0) y (drop (met + 1) part) (drop (i + 1) whole) (λ e. n (lm, e)))
    | inr le ↦ subst (λ a. IsSublist a (y ∷ drop (i + 1) whole) ↔ IsSublist a (drop (i + 1) whole)) (sym (drop_all met part le)) (λ h. tt, λ h. tt)
  ])

sub_end : (part whole : List ℕ) (met i : ℕ) → met ≤ length part → length whole ≤ i → IsTrue (met == length part) ↔ IsSublist (drop met part) (drop i whole)
sub_end part whole met i le li = subst (λ b. IsTrue (met == length part) ↔ IsSublist (drop met part) b) (sym (drop_all i whole li)) (to, from)
  where
    to : IsTrue (met == length part) → IsSublist (drop met part) []
    to e = subst (λ a. IsSublist a []) (sym (drop_all met part (let q = eqb-true met (length part) e in omega arith))) tt

    from : IsSublist (drop met part) [] → IsTrue (met == length part)
    from h = elim (cases_lt met (length part)) [
      | inl lm ↦ absurd (subst (λ a. IsSublist a []) (at_drop_more (λ zs. zs) part met 0 lm) h)
      | inr ge ↦ eq-eqb met (length part) (omega arith)
    ]

-- so much of the part is met in the front of the whole list, and the rest of the part is in the rest
pub record HasMet (part whole : List ℕ) (met i : ℕ) : Type 0 where
  pub within : met ≤ length part
  pub same : IsSublist part whole ↔ IsSublist (drop met part) (drop i whole)

module _ (part whole : List ℕ) (met i y : ℕ) (lt : i < length whole) (is : y ≡ get_or whole i 0) (h : HasMet part whole met i) where
  pub met_more : (met < length part) × (get_or part met 0 ≡ y) → HasMet part whole (met + 1) (i + 1)
  met_more a =
      let m = sub_met part whole met i y lt is a.0 a.1 in
      record { within = let lm = a.0 in omega arith; same = (λ s. m.0 (h.same.0 s), λ s. h.same.1 (m.1 s)) }

  pub unmet_more : ¬ ((met < length part) × (get_or part met 0 ≡ y)) → HasMet part whole met (i + 1)
  unmet_more n =
      let m = sub_unmet part whole met i y lt is n in
      record { within = h.within; same = (λ s. m.0 (h.same.0 s), λ s. h.same.1 (m.1 s)) }

pub met_all : (part whole : List ℕ) (met i : ℕ) → HasMet part whole met i → length whole ≤ i → IsTrue (met == length part) ↔ IsSublist part whole
met_all part whole met i h le =
    let e = sub_end part whole met i h.within le in
    (λ t. h.same.1 (e.0 t), λ s. e.1 (h.same.0 s))

-- one more number that wasn't there
pub distinct_more : (xs : List ℕ) (i : ℕ) → i < length xs → has (take i xs) (get_or xs i 0) ≡ false → IsDistinct (take i xs) → IsDistinct (take (i + 1) xs)
distinct_more xs i lt e d = subst IsDistinct (sym (take_more xs i 0 lt)) (IsDistinct-push (take i xs) (get_or xs i 0) (lacks_none (take i xs) (get_or xs i 0) e) d)

-- or that was
pub not_distinct : (xs : List ℕ) (i : ℕ) → i < length xs → has (take i xs) (get_or xs i 0) ≡ true → ¬ IsDistinct xs
not_distinct xs i lt e d =
    let a : IsDistinct (take (i + 1) xs ++ drop (i + 1) xs) = subst IsDistinct (sym (take-append-drop (i + 1) xs)) d in
    let b : IsDistinct (take i xs ++ get_or xs i 0 ∷ []) = subst IsDistinct (take_more xs i 0 lt) (IsDistinct-append_left (take (i + 1) xs) (drop (i + 1) xs) a) in
    IsDistinct-apart (take i xs) (get_or xs i 0 ∷ []) (get_or xs i 0) b (Contains-from_has (take i xs) (get_or xs i 0) e) (Contains-head (get_or xs i 0) [])
