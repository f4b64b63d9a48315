-- The shortest spelling of a number is that number.
use Rattle.std.proofs.Common.{suc, ◌≡◌, ℕ, ◌^◌, ◌<◌, List, [], ◌∷◌, length, Some, Bool, true, false, ◌&&◌, option_map, refl, ap, ◌∙◌, arith, rules, ℤ, pos, negsuc, decimal}
use Rattle.std.specs.Prelude.{◌==◌}
use Rattle.std.specs.Fmt.{signed_decimal}
use Rattle.std.specs.Str.{all_ascii_digits}
use Rattle.std.specs.Char.{is_ascii_digit}
use Rattle.std.proofs.lemmas.Bool.Decides.{nat_tests}
use Rattle.std.proofs.lemmas.Fmt.{decimal_nonempty, digits_decimal, digits_value-decimal}
use Rattle.std.proofs.lemmas.Str.Parse.{IsNumeralModel, numerals_by_fold}
use Rattle.gi_text.specs.Numbers.{magnitude, negated, number_of, read_on, size_of}

own : IsNumeralModel (λ ds. all_ascii_digits ds ≡ true) (read_on 0)
unfolding read_on
own = numerals_by_fold _ (search rules) read_on (search rules)

magnitude_digits : (ds : List ℕ) → all_ascii_digits ds ≡ true → 0 < length ds → magnitude ds ≡ Some (read_on 0 ds)
unfolding magnitude
magnitude_digits [] h more = absurd (omega arith)
magnitude_digits (d ∷ ds) h more = rw h refl

pub magnitude-decimal : (n : ℕ) → n < 2 ^ 64 → magnitude (decimal n) ≡ Some n
magnitude-decimal n small = magnitude_digits (decimal n) (digits_decimal own n small) (decimal_nonempty n small) ∙ ap Some (digits_value-decimal own n small)

digit_no_minus : (d : ℕ) → is_ascii_digit d ≡ true → (d == 45) ≡ false
digit_no_minus d h = grind (arith, nat_tests)

first_true : (a b : Bool) → (a && b) ≡ true → a ≡ true
first_true true b e = refl
first_true false b e = e

number_digits : (ds : List ℕ) → all_ascii_digits ds ≡ true → 0 < length ds → number_of ds ≡ option_map pos (magnitude ds)
unfolding number_of
number_digits [] h more = absurd (omega arith)
number_digits (d ∷ ds) h more = rw (digit_no_minus d (first_true (is_ascii_digit d) (all_ascii_digits ds) h)) refl

pub number-decimal : (n : ℕ) → n < 2 ^ 64 → number_of (decimal n) ≡ Some (pos n)
number-decimal n small = number_digits (decimal n) (digits_decimal own n small) (decimal_nonempty n small) ∙ ap (option_map pos) (magnitude-decimal n small)

pub number-signed_decimal : (z : ℤ) → size_of z < 2 ^ 64 → number_of (signed_decimal z) ≡ Some z
unfolding number_of
number-signed_decimal (pos n) small = number-decimal n small
number-signed_decimal (negsuc n) small = ap negated (magnitude-decimal (suc n) small)
