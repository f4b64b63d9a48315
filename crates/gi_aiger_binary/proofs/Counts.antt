-- Numbers in a line, with a space between two.
use Rattle.std.proofs.Common.{◌≡◌, ℕ, ◌<◌, ◌^◌, Bool, true, false, ◌&&◌, List, [], ◌∷◌, ◌++◌, map, decimal, Option, Some, refl, ap, ◌∙◌, arith, rules}
use Rattle.std.specs.Prelude.{◌==◌}
use Rattle.std.specs.Char.{is_ascii_digit}
use Rattle.std.specs.List.{flat_map, AllByRecursion}
use Rattle.std.specs.Str.{all_ascii_digits}
use Rattle.std.proofs.lemmas.Bool.Decides.{nat_tests}
use Rattle.std.proofs.lemmas.Fmt.{digits_decimal}
use Rattle.std.proofs.lemmas.List.{append-nil}
use Rattle.std.proofs.lemmas.Str.Parse.{IsNumeralModel, numerals_by_fold}
use Rattle.gi_text.specs.Numbers.{read_on}
use Rattle.gi_text.proofs.Spellings.{magnitude-decimal}
use Rattle.gi_aiger.specs.Fields.{with_byte, fields_of, with_number, numbers_at, numbers_of}
use Rattle.gi_aiger.specs.Lines.{is_plain}
use Rattle.gi_aiger.specs.Texts.{count_text}
use Rattle.gi_aiger.proofs.Lining.{plain_head, plain_cons}

own : IsNumeralModel (λ ds. all_ascii_digits ds ≡ true) (read_on 0)
unfolding read_on
own = numerals_by_fold _ (search rules) read_on (search rules)

pub decimal_digits : (n : ℕ) → n < 2 ^ 64 → all_ascii_digits (decimal n) ≡ true
decimal_digits n small = digits_decimal own n small

pub both : (a b : Bool) → (a && b) ≡ true → (a ≡ true) × (b ≡ true)
both true b h = (refl, h)
both false b h = absurd cc

pub no_space : (d : ℕ) → is_ascii_digit d ≡ true → (d == 32) ≡ false
no_space d h = grind (arith, nat_tests)

pub no_end : (d : ℕ) → is_ascii_digit d ≡ true → (d == 10) ≡ false
no_end d h = grind (arith, nat_tests)

fields_first : (xs rest : List ℕ) → all_ascii_digits xs ≡ true → fields_of (xs ++ 32 ∷ rest) ≡ xs ∷ fields_of rest
unfolding fields_of
fields_first [] rest h = refl
fields_first (x ∷ xs) rest h =
    let t = both (is_ascii_digit x) (all_ascii_digits xs) h in
    rw (no_space x t.0) (ap (with_byte x) (fields_first xs rest t.1))

fields_last : (xs : List ℕ) → all_ascii_digits xs ≡ true → fields_of xs ≡ xs ∷ []
unfolding fields_of
fields_last [] h = refl
fields_last (x ∷ xs) h =
    let t = both (is_ascii_digit x) (all_ascii_digits xs) h in
    rw (no_space x t.0) (ap (with_byte x) (fields_last xs t.1))

-- numbers that are written
abbrev pub AreSmall : List ℕ → Type 0
AreSmall ns = AllByRecursion (λ n. n < 2 ^ 64) ns

abbrev pub counts : List ℕ → List ℕ
counts ns = flat_map count_text ns

pub fields_counts : (n : ℕ) (ns : List ℕ) → AreSmall (n ∷ ns) → fields_of (decimal n ++ counts ns) ≡ decimal n ∷ map decimal ns
fields_counts n [] small = ap fields_of (append-nil (decimal n)) ∙ fields_last (decimal n) (decimal_digits n small.0)
fields_counts n (m ∷ ns) small = fields_first (decimal n) (decimal m ++ counts ns) (decimal_digits n small.0) ∙ ap (λ (fs : List (List ℕ)). decimal n ∷ fs) (fields_counts m ns small.1)

pub numbers_counts : (ns : List ℕ) → AreSmall ns → numbers_at (map decimal ns) ≡ Some ns
unfolding numbers_at
numbers_counts [] small = refl
numbers_counts (n ∷ ns) small = ap (λ (o : Option ℕ). with_number o (numbers_at (map decimal ns))) (magnitude-decimal n small.0) ∙ ap (with_number (Some n)) (numbers_counts ns small.1)

pub line_numbers : (n : ℕ) (ns : List ℕ) → AreSmall (n ∷ ns) → numbers_of (decimal n ++ counts ns) ≡ Some (n ∷ ns)
line_numbers n ns small = ap numbers_at (fields_counts n ns small) ∙ numbers_counts (n ∷ ns) small

pub plain_append : (xs ys : List ℕ) → is_plain xs ≡ true → is_plain ys ≡ true → is_plain (xs ++ ys) ≡ true
plain_append [] ys h k = k
plain_append (x ∷ xs) ys h k = let t = plain_head x xs h in plain_cons x (xs ++ ys) t.0 (plain_append xs ys t.1 k)

plain_digits : (xs : List ℕ) → all_ascii_digits xs ≡ true → is_plain xs ≡ true
plain_digits [] h = refl
plain_digits (x ∷ xs) h = let t = both (is_ascii_digit x) (all_ascii_digits xs) h in plain_cons x xs (no_end x t.0) (plain_digits xs t.1)

pub plain_decimal : (n : ℕ) → n < 2 ^ 64 → is_plain (decimal n) ≡ true
plain_decimal n small = plain_digits (decimal n) (decimal_digits n small)

pub plain_counts : (ns : List ℕ) → AreSmall ns → is_plain (counts ns) ≡ true
plain_counts [] small = refl
plain_counts (n ∷ ns) small = plain_append (count_text n) (counts ns) (plain_cons 32 (decimal n) refl (plain_decimal n small.0)) (plain_counts ns small.1)
