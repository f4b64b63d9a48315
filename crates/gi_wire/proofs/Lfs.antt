-- Bytes with no LF among them.
use Rattle.std.proofs.Common.{◌≡◌, ℕ, ◌+◌, ◌≤◌, ◌==◌, Bool, true, false, not, cond, List, [], ◌∷◌, ◌++◌, length, Some, None, refl, ap, arith}
use Rattle.std.specs.List.{list_all}
use Rattle.std.proofs.lemmas.Bool.{and_parts}
use Rattle.std.proofs.lemmas.List.Sums.{count_by-le-length, sum_by-append, sum_by-cons}
use Rattle.gi_text.specs.Lines.{line_at}
use Rattle.gi_wire.specs.CallText.{breaks}

abbrev pub no_lf : List ℕ → Bool
no_lf bytes = list_all (λ b. not (b == 10)) bytes

not_false : (b : Bool) → not b ≡ true → b ≡ false
not_false true h = absurd cc
not_false false h = refl

pub no_lf-append : (xs ys : List ℕ) → no_lf xs ≡ true → no_lf ys ≡ true → no_lf (xs ++ ys) ≡ true
no_lf-append [] ys h k = k
no_lf-append (x ∷ xs) ys h k = let p = and_parts (not (x == 10)) (no_lf xs) h in rw p.0 (no_lf-append xs ys p.1 k)

-- they are a line where an LF follows, and begin one where none does
pub line_is : (xs rest : List ℕ) → no_lf xs ≡ true → line_at (xs ++ 10 ∷ rest) ≡ Some (xs, rest)
line_is [] rest h = refl
line_is (x ∷ xs) rest h = let p = and_parts (not (x == 10)) (no_lf xs) h in rw (not_false (x == 10) p.0, line_is xs rest p.1) refl

pub no_line : (xs : List ℕ) → no_lf xs ≡ true → line_at xs ≡ None
no_line [] h = refl
no_line (x ∷ xs) h = let p = and_parts (not (x == 10)) (no_lf xs) h in rw (not_false (x == 10) p.0, no_line xs p.1) refl

-- how many LFs there are
abbrev one_if : Bool → ℕ
one_if b = cond b 1 0

abbrev is_break : ℕ → ℕ
is_break b = one_if (b == 10)

pub breaks-append : (xs ys : List ℕ) → breaks (xs ++ ys) ≡ breaks xs + breaks ys
unfolding breaks
breaks-append xs ys = sum_by-append is_break xs ys

pub breaks_none : (xs : List ℕ) → no_lf xs ≡ true → breaks xs ≡ 0
unfolding breaks
breaks_none [] h = refl
breaks_none (x ∷ xs) h =
    let p = and_parts (not (x == 10)) (no_lf xs) h in
    omega (arith, sum_by-cons is_break x xs, ap one_if (not_false (x == 10) p.0), breaks_none xs p.1)

pub breaks_few : (xs : List ℕ) → breaks xs ≤ length xs
unfolding breaks
breaks_few xs = count_by-le-length (λ (b : ℕ). b == 10) xs

pub breaks_plus : (xs : List ℕ) → breaks (32 ∷ 43 ∷ 10 ∷ xs) ≡ 1 + breaks xs
unfolding breaks
breaks_plus xs = breaks-append (32 ∷ 43 ∷ 10 ∷ []) xs
