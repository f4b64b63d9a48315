-- Digits, one after another.
use Rattle.std.proofs.Common.{zero, suc, ◌≡◌, ℕ, ◌+◌, ◌*◌, ◌-◌, ◌<◌, ◌≤◌, List, [], ◌∷◌, ◌++◌, length, take, get_or, Option, Some, None, Bool, true, false, ◌&&◌, cond, option_map, ◌≢◌, drop, refl, sym, ◌∙◌, arith, min, ℤ, pos, negsuc}
use Rattle.std.specs.Str.{all_ascii_digits}
use Rattle.std.specs.Char.{is_ascii_digit}
use Rattle.std.proofs.lemmas.Grind.{common_steps}
use Rattle.std.proofs.lemmas.Bool.{ne_eqb}
use Rattle.std.proofs.lemmas.List.{take_all, take_more}
use Rattle.gi_text.specs.Numbers.{read_on, magnitude, negated, number_of, size_of}

pub read_on-push : (n : ℕ) (xs : List ℕ) (c : ℕ) → read_on n (xs ++ c ∷ []) ≡ 10 * read_on n xs + (c - 48)
unfolding read_on
read_on-push n [] c = refl
read_on-push n (x ∷ xs) c = read_on-push (10 * n + (x - 48)) xs c

digits-push : (xs : List ℕ) (c : ℕ) → all_ascii_digits xs ≡ true → is_ascii_digit c ≡ true → all_ascii_digits (xs ++ c ∷ []) ≡ true
digits-push [] c h e = rw e refl
digits-push (x ∷ xs) c h e = both (is_ascii_digit x) (all_ascii_digits xs) h (digits-push xs c) where
  both : (a b : Bool) → (a && b) ≡ true → (b ≡ true → is_ascii_digit c ≡ true → all_ascii_digits (xs ++ c ∷ []) ≡ true) → (a && all_ascii_digits (xs ++ c ∷ [])) ≡ true
  both true b h ih = ih h e
  both false b h ih = cc

and_false : (a : Bool) → (a && false) ≡ false
and_false true = refl
and_false false = refl

not_digits : (xs : List ℕ) (i : ℕ) → i < length xs → is_ascii_digit (get_or xs i 0) ≡ false → all_ascii_digits xs ≡ false
not_digits [] i lt e = absurd (omega arith)
not_digits (x ∷ xs) zero lt e = rw e refl
not_digits (x ∷ xs) (suc i) lt e = rw (not_digits xs i (omega arith) e) (and_false (is_ascii_digit x))

magnitude_is : (xs : List ℕ) → 0 < length xs → magnitude xs ≡ cond (all_ascii_digits xs) (Some (read_on 0 xs)) None
unfolding magnitude
magnitude_is [] more = absurd (omega arith)
magnitude_is (x ∷ xs) more = refl

pub magnitude_nil : (xs : List ℕ) → length xs ≡ 0 → magnitude xs ≡ None
unfolding magnitude
magnitude_nil [] e = refl
magnitude_nil (x ∷ xs) e = absurd (omega arith)

pub none_at : (xs : List ℕ) (i : ℕ) → i < length xs → is_ascii_digit (get_or xs i 0) ≡ false → magnitude xs ≡ None
none_at xs i lt e = magnitude_is xs (omega arith) ∙ rw (not_digits xs i lt e) refl

is_digit_low : (c : ℕ) → 48 ≤ c → c ≤ 57 → is_ascii_digit c ≡ true
is_digit_low c low high = grind (arith, common_steps)

pub not_low : (c : ℕ) → c < 48 → is_ascii_digit c ≡ false
not_low c h = grind (arith, common_steps)

pub not_high : (c : ℕ) → 57 < c → is_ascii_digit c ≡ false
not_high c h = grind (arith, common_steps)

-- the digits so far
pub record SoFar (xs : List ℕ) (i m : ℕ) : Type 0 where
  pub digits : all_ascii_digits (take i xs) ≡ true
  pub value : m ≡ min (read_on 0 (take i xs)) 4294967296

pub so_far-none : (xs : List ℕ) → SoFar xs 0 0
unfolding read_on
so_far-none xs = record { digits = refl; value = refl }

pub so_far-more : (xs : List ℕ) (i m : ℕ) → i < length xs → 48 ≤ get_or xs i 0 → get_or xs i 0 ≤ 57 → SoFar xs i m → SoFar xs (i + 1) (min (10 * m + (get_or xs i 0 - 48)) 4294967296)
so_far-more xs i m lt low high h =
    let e : take (i + 1) xs ≡ take i xs ++ get_or xs i 0 ∷ [] = take_more xs i 0 lt in
    record {
      digits = rw e (digits-push (take i xs) (get_or xs i 0) h.digits (is_digit_low _ low high));
      value = rw (e, read_on-push 0 (take i xs) (get_or xs i 0)) (capped (read_on 0 (take i xs)) (get_or xs i 0 - 48) h.value);
    } where
      capped : (r d : ℕ) → m ≡ min r 4294967296 → min (10 * m + d) 4294967296 ≡ min (10 * r + d) 4294967296
      capped r d e = omega arith

pub so_far-all : (xs : List ℕ) (i m : ℕ) → 0 < length xs → length xs ≤ i → SoFar xs i m → (n : ℕ) × (magnitude xs ≡ Some n) × (m ≡ min n 4294967296)
so_far-all xs i m some le h =
    let e : take i xs ≡ xs = take_all i xs le in
    let d : all_ascii_digits xs ≡ true = rw e at h.digits in
    let v : m ≡ min (read_on 0 xs) 4294967296 = rw e at h.value in
    (read_on 0 xs, magnitude_is xs some ∙ rw d refl, v)

pub plain_big : (o : Option ℕ) (m : ℕ) → m ≡ 4294967296 → ((n : ℕ) × (o ≡ Some n) × (m ≡ min n 4294967296)) → (z : ℤ) × (option_map pos o ≡ Some z) × (4294967295 < size_of z)
plain_big o m e h = (pos h.0, rw h.1 refl, above h.0 (sym e ∙ h.2)) where
  above : (n : ℕ) → 4294967296 ≡ min n 4294967296 → 4294967295 < n
  above n e = omega arith

pub negative_big : (o : Option ℕ) (m : ℕ) → m ≡ 4294967296 → ((n : ℕ) × (o ≡ Some n) × (m ≡ min n 4294967296)) → (z : ℤ) × (negated o ≡ Some z) × (4294967295 < size_of z)
negative_big o m e h = by_cases h.0 h.1 (sym e ∙ h.2) where
  by_cases : (n : ℕ) → o ≡ Some n → 4294967296 ≡ min n 4294967296 → (z : ℤ) × (negated o ≡ Some z) × (4294967295 < size_of z)
  by_cases zero e m = absurd (omega arith)
  by_cases (suc n) e m = (negsuc n, rw e refl, omega arith)

pub number_of-nil : (xs : List ℕ) → length xs ≡ 0 → number_of xs ≡ None
unfolding number_of
number_of-nil [] e = refl
number_of-nil (x ∷ xs) e = absurd (omega arith)

pub number_of-minus : (xs : List ℕ) → get_or xs 0 0 ≡ 45 → number_of xs ≡ negated (magnitude (drop 1 xs))
unfolding number_of
number_of-minus [] e = absurd cc
number_of-minus (x ∷ xs) e = rw e refl

pub number_of-plain : (xs : List ℕ) → length xs ≢ 0 → get_or xs 0 0 ≢ 45 → number_of xs ≡ option_map pos (magnitude xs)
unfolding number_of
number_of-plain [] some e = absurd (some refl)
number_of-plain (x ∷ xs) some e = rw (ne_eqb x 45 e) refl
