-- Literals and numbers in words.
use Rattle.std.proofs.Common.{◌≡◌, ℕ, suc, ◌+◌, ◌-◌, ◌*◌, ◌/◌, ◌%◌, ◌^◌, ◌<◌, ◌≤◌, ◌==◌, pos, negsuc, Bool, true, false, not, ◌&&◌, Some, List, [], ◌∷◌, ◌++◌, length, refl, ap, sym, ◌∙◌, subst, inl, inr, arith, rules, lit<, decimal, append_assoc, length-append}
use Rattle.std.specs.List.{All, AllByRecursion, flat_map, list_all}
use Rattle.std.specs.Fmt.{signed_decimal}
use Rattle.std.specs.Str.{all_ascii_digits}
use Rattle.std.specs.Char.{is_ascii_digit}
use Rattle.std.proofs.lemmas.Bool.{and_parts, le-leb}
use Rattle.std.proofs.lemmas.Bool.Decides.{eqb_tells, nat_tests}
use Rattle.std.proofs.lemmas.Fmt.{decimal_nonempty, digits_decimal, length-decimal-le}
use Rattle.std.proofs.lemmas.Str.Parse.{IsNumeralModel, numerals_by_fold}
use Rattle.std.proofs.lemmas.List.Elements.{All-from_recursion}
use Rattle.gi_lit.specs.Literals.{max_var, number_of}
use Rattle.gi_text.specs.Numbers.{magnitude, read_on}
use Rattle.gi_text.specs.Numbers as numbers
use Rattle.gi_text.specs.Words.{is_white, words_from}
use Rattle.gi_text.proofs.Spellings.{number-decimal, number-signed_decimal}
use Rattle.gi_text.proofs.WordRuns.{words-append, words_last}
use Rattle.gi_wire.specs.Grammar.{is_zero, list_at, literal_at}
use Rattle.gi_wire.specs.Literals.{list_text, literal_text}

own : IsNumeralModel (λ ds. all_ascii_digits ds ≡ true) (read_on 0)
unfolding read_on
own = numerals_by_fold _ (search rules) read_on (search rules)

-- a byte within a word
abbrev pub in_word : ℕ → Bool
in_word b = not (is_white b) && not (b == 10)

digit_in_word : (d : ℕ) → is_ascii_digit d ≡ true → in_word d ≡ true
digit_in_word d h = grind (arith, nat_tests)

digits_in_word : (ds : List ℕ) → all_ascii_digits ds ≡ true → list_all in_word ds ≡ true
digits_in_word [] h = refl
digits_in_word (d ∷ ds) h = let b = and_parts (is_ascii_digit d) (all_ascii_digits ds) h in rw (digit_in_word d b.0) (digits_in_word ds b.1)

-- a word has some bytes, none of them white, and not too many
pub record IsWord (w : List ℕ) : Type 0 where
  pub bytes : list_all in_word w ≡ true
  pub some : 0 < length w
  pub few : length w ≤ 21

pub decimal_word : (n : ℕ) → n ≤ 1000 → IsWord (decimal n)
decimal_word n h =
    let small : n < 2 ^ 64 = omega arith in
    record { bytes = digits_in_word (decimal n) (digits_decimal own n small); some = decimal_nonempty n small; few = omega (arith, length-decimal-le 20 n (lit< tt) (omega arith) small) }

not_false : (b : Bool) → not b ≡ true → b ≡ false
not_false true h = absurd cc
not_false false h = refl

no_white : (w : List ℕ) → list_all in_word w ≡ true → AllByRecursion (λ b. is_white b ≡ false) w
no_white [] h = tt
no_white (b ∷ w) h = let p = and_parts (in_word b) (list_all in_word w) h in (not_false (is_white b) (and_parts (not (is_white b)) (not (b == 10)) p.0).0, no_white w p.1)

not_white : (w : List ℕ) → IsWord w → All (λ b. is_white b ≡ false) w
not_white w h = All-from_recursion (λ b. is_white b ≡ false) w (no_white w h.bytes)

-- a word and a space, and a word alone
pub word_space : (w rest : List ℕ) → IsWord w → words_from [] (w ++ 32 ∷ rest) ≡ w ∷ words_from [] rest
word_space w rest h = words-append [] w 32 rest (omega (arith, h.some)) (not_white w h) refl

pub word_last : (w : List ℕ) → IsWord w → words_from [] w ≡ w ∷ []
word_last w h = words_last [] w (omega (arith, h.some)) (not_white w h)

-- a word that is a literal
pub record Spells (l : ℕ) (w : List ℕ) : Type 0 where
  pub word : IsWord w
  pub not_zero : is_zero (numbers.number_of w) ≡ false
  pub literal : literal_at w ≡ Some l

-- a literal of one of the first variables
abbrev pub IsSmall : ℕ → Type 0
IsSmall l = (1 ≤ l / 2) × (l / 2 ≤ 1000)

spells_positive : (m : ℕ) → suc m ≤ 1000 → Spells (2 * suc m) (decimal (suc m))
spells_positive m h =
    let read : numbers.number_of (decimal (suc m)) ≡ Some (pos (suc m)) = number-decimal (suc m) (omega arith) in
    record { word = decimal_word (suc m) h; not_zero = rw read refl; literal = rw (read, le-leb 1 (suc m) (omega arith), le-leb (suc m) max_var (omega arith)) refl }

spells_negative : (m : ℕ) → suc m ≤ 1000 → Spells (2 * suc m + 1) (45 ∷ decimal (suc m))
spells_negative m h =
    let read : numbers.number_of (45 ∷ decimal (suc m)) ≡ Some (negsuc m) = number-signed_decimal (negsuc m) (omega arith) in
    let d = decimal_word (suc m) h in
    record {
      word = record { bytes = d.bytes; some = omega arith; few = omega (arith, length-decimal-le 20 (suc m) (lit< tt) (omega arith) (omega arith)) };
      not_zero = rw read refl;
      literal = rw (read, le-leb 1 (suc m) (omega arith), le-leb (suc m) max_var (omega arith)) refl;
    }

-- the spelling of a literal
pub spells : (l : ℕ) → IsSmall l → Spells l (signed_decimal (number_of l))
unfolding number_of
spells l h =
    let v : l / 2 ≡ suc (l / 2 - 1) = omega (arith, h.0) in
    elim (eqb_tells (l % 2) 0) [
      | inl t ↦ rw t.0 (subst (λ (n : ℕ). Spells n (decimal (l / 2))) (let e : 2 * suc (l / 2 - 1) ≡ l = omega (arith, t.1, h.0) in e) (subst (λ (n : ℕ). Spells (2 * suc (l / 2 - 1)) (decimal n)) (sym v) (spells_positive (l / 2 - 1) (omega (arith, h.0, h.1)))))
      | inr f ↦ rw (f.0, v) (subst (λ (n : ℕ). Spells n (45 ∷ decimal (suc (l / 2 - 1)))) (let e : 2 * suc (l / 2 - 1) + 1 ≡ l = omega (arith, f.1, h.0) in e) (spells_negative (l / 2 - 1) (omega (arith, h.0, h.1))))
    ]

-- the words of a list
pub list_words : List ℕ → List (List ℕ)
list_words [] = (48 ∷ []) ∷ []
list_words (l ∷ ls) = signed_decimal (number_of l) ∷ list_words ls

list_first : (l : ℕ) (ls : List ℕ) → list_text (l ∷ ls) ≡ signed_decimal (number_of l) ++ 32 ∷ list_text ls
list_first l ls = append_assoc (literal_text l) (flat_map literal_text ls) (48 ∷ []) ∙ append_assoc (signed_decimal (number_of l)) (32 ∷ []) (list_text ls)

pub words_list : (ls : List ℕ) → AllByRecursion IsSmall ls → words_from [] (list_text ls) ≡ list_words ls
unfolding list_words words_from
words_list [] h = refl
words_list (l ∷ ls) h = ap (words_from []) (list_first l ls) ∙ word_space (signed_decimal (number_of l)) (list_text ls) (spells l h.0).word ∙ ap (λ (ws : List (List ℕ)). signed_decimal (number_of l) ∷ ws) (words_list ls h.1)

pub list_read : (ls : List ℕ) → AllByRecursion IsSmall ls → list_at (list_words ls) ≡ Some ls
unfolding list_words list_at numbers.number_of magnitude read_on
list_read [] h = refl
list_read (l ∷ ls) h = let s = spells l h.0 in rw (s.not_zero, s.literal, list_read ls h.1) refl

-- no byte is an LF
abbrev pub no_lf : List ℕ → Bool
no_lf bytes = list_all (λ b. not (b == 10)) bytes

pub no_lf-append : (xs ys : List ℕ) → no_lf xs ≡ true → no_lf ys ≡ true → no_lf (xs ++ ys) ≡ true
no_lf-append [] ys a b = b
no_lf-append (x ∷ xs) ys a b = let p = and_parts (not (x == 10)) (no_lf xs) a in rw p.0 (no_lf-append xs ys p.1 b)

pub no_lf-word : (w : List ℕ) → list_all in_word w ≡ true → no_lf w ≡ true
no_lf-word [] h = refl
no_lf-word (b ∷ w) h = let p = and_parts (in_word b) (list_all in_word w) h in rw (and_parts (not (is_white b)) (not (b == 10)) p.0).1 (no_lf-word w p.1)

pub no_lf-list : (ls : List ℕ) → AllByRecursion IsSmall ls → no_lf (list_text ls) ≡ true
no_lf-list [] h = refl
no_lf-list (l ∷ ls) h = rw (list_first l ls) (no_lf-append (signed_decimal (number_of l)) (32 ∷ list_text ls) (no_lf-word (signed_decimal (number_of l)) (spells l h.0).word.bytes) (no_lf-list ls h.1))

pub list_short : (ls : List ℕ) → AllByRecursion IsSmall ls → length (list_text ls) ≤ 22 * length ls + 1
list_short [] h = omega arith
list_short (l ∷ ls) h = omega (arith, ap length (list_first l ls), length-append (signed_decimal (number_of l)) (32 ∷ list_text ls), (spells l h.0).word.few, list_short ls h.1)
