-- What is written stands in the relation.
use Rattle.std.proofs.Common.{◌≡◌, ◌≢◌, ℕ, suc, ◌+◌, ◌-◌, ◌/◌, ◌%◌, ◌^◌, ◌<◌, ◌≤◌, nat_lt, List, [], ◌∷◌, ◌++◌, length, Bool, true, false, ◌&&◌, ◌||◌, not, ◌⊎◌, inl, inr, Some, option_map, Ok, refl, ap, sym, ◌∙◌, append_assoc, length-append, arith, pos, negsuc, subst, decimal, rules, map}
use Rattle.std.specs.Prelude.{◌==◌}
use Rattle.std.specs.List.{AllByRecursion, flat_map, list_all}
use Rattle.std.specs.Str.{all_ascii_digits, bytes_eq}
use Rattle.std.specs.Char.{is_ascii_digit}
use Rattle.std.proofs.lemmas.Bool.Decides.{eqb_tells, nat_tests}
use Rattle.std.proofs.lemmas.Bool.{le-ltb}
use Rattle.std.proofs.lemmas.List.{append-nil}
use Rattle.std.proofs.lemmas.Fmt.{digits_decimal, digits_value-decimal, decimal_nonempty}
use Rattle.std.proofs.lemmas.Str.Parse.{IsNumeralModel, numerals_by_fold}
use Rattle.gi_text.specs.Words.{is_white, word_of, words_from, words_of}
use Rattle.gi_text.specs.Numbers.{read_on, magnitude, number_of}
use Rattle.gi_dimacs.specs.declared.cnf.Cnf.{Cnf}
use Rattle.gi_dimacs.specs.declared.cnf.Icnf.{Icnf}
use Rattle.gi_dimacs.specs.declared.items.Item.{Item}
use Rattle.gi_dimacs.specs.declared.items.Item.TheVariants.{Clause, Ask}
use Rattle.gi_dimacs.specs.declared.content.Format.TheVariants as formats
use Rattle.gi_dimacs.specs.Lines.{is_plain, lines_of, text_of}
use Rattle.gi_dimacs.specs.Literals.{literal_text}
use Rattle.gi_dimacs.specs.Content.{clauses_in, greatest, greatest_of}
use Rattle.gi_dimacs.specs.Files.{begins_number, is_comment, header_words}
use Rattle.gi_dimacs.specs.Relation.{line_words, begins_end, begins_ask, Asks, to_number, list_tokens, AreNumbers, SaysAsk, LinesSay, tokens_of, IsProper, IsCnf, IsIcnf}
use Rattle.gi_dimacs.specs.Texts.{clause_text, item_text, cnf_header, icnf_header, cnf_text, icnf_text, IsLiteralOf, IsItemOf, IsGood, IsGoodIcnf}
use Rattle.gi_dimacs.proofs.Splitting.{IsPlain}
use Rattle.gi_dimacs.proofs.Standing.{lines_of-text}
use Rattle.gi_dimacs.proofs.Relating.{words_plain}
use Rattle.gi_lit.specs.Literals.{max_var}

own : IsNumeralModel (λ ds. all_ascii_digits ds ≡ true) (read_on 0)
unfolding read_on
own = numerals_by_fold _ (search rules) read_on (search rules)

-- a byte of a word: neither white nor LF
abbrev in_word : ℕ → Bool
in_word b = not (is_white b) && not (b == 10)

digit_in_word : (c : ℕ) → is_ascii_digit c ≡ true → in_word c ≡ true
digit_in_word c h = grind (arith, nat_tests)

both_true : (a b : Bool) → (a && b) ≡ true → (a ≡ true) × (b ≡ true)
both_true true b h = (refl, h)
both_true false b h = absurd cc

digits_in_word : (ds : List ℕ) → all_ascii_digits ds ≡ true → list_all in_word ds ≡ true
digits_in_word [] h = refl
digits_in_word (d ∷ ds) h = let b = both_true (is_ascii_digit d) (all_ascii_digits ds) h in rw (digit_in_word d b.0) (digits_in_word ds b.1)

one_word : (bs : List ℕ) → 0 < length bs → word_of bs ≡ bs ∷ []
one_word [] more = absurd (omega arith)
one_word (b ∷ bs) more = refl

not_true : (b : Bool) → not b ≡ true → b ≡ false
not_true true h = absurd cc
not_true false h = refl

-- a word and a space
word_space : (begun w rest : List ℕ) → list_all in_word w ≡ true → 0 < length begun + length w → words_from begun (w ++ 32 ∷ rest) ≡ (begun ++ w) ∷ words_from [] rest
unfolding words_from
word_space begun [] rest h more = ap (λ ws. ws ++ words_from [] rest) (one_word begun (omega arith)) ∙ ap (λ w. w ∷ words_from [] rest) (sym (append-nil begun))
word_space begun (x ∷ w) rest h more =
    let b = both_true (in_word x) (list_all in_word w) h in
    let d = not_true (is_white x) (both_true (not (is_white x)) (not (x == 10)) b.0).0 in
    rw d (word_space (begun ++ x ∷ []) w rest b.1 (omega (arith, length-append begun (x ∷ []))) ∙ ap (λ v. v ∷ words_from [] rest) (append_assoc begun (x ∷ []) w))

-- the last word of a line
word_last : (begun w : List ℕ) → list_all in_word w ≡ true → 0 < length begun + length w → words_from begun w ≡ (begun ++ w) ∷ []
unfolding words_from
word_last begun [] h more = one_word begun (omega arith) ∙ ap (λ w. w ∷ []) (sym (append-nil begun))
word_last begun (x ∷ w) h more =
    let b = both_true (in_word x) (list_all in_word w) h in
    let d = not_true (is_white x) (both_true (not (is_white x)) (not (x == 10)) b.0).0 in
    rw d (word_last (begun ++ x ∷ []) w b.1 (omega (arith, length-append begun (x ∷ []))) ∙ ap (λ v. v ∷ []) (append_assoc begun (x ∷ []) w))

-- digits
magnitude_digits : (ds : List ℕ) → all_ascii_digits ds ≡ true → 0 < length ds → magnitude ds ≡ Some (read_on 0 ds)
unfolding magnitude
magnitude_digits [] h more = absurd (omega arith)
magnitude_digits (d ∷ ds) h more = rw h refl

digit_no_minus : (d : ℕ) → is_ascii_digit d ≡ true → (d == 45) ≡ false
digit_no_minus d h = grind (arith, nat_tests)

number_digits : (ds : List ℕ) → all_ascii_digits ds ≡ true → 0 < length ds → number_of ds ≡ option_map pos (magnitude ds)
unfolding number_of
number_digits [] h more = absurd (omega arith)
number_digits (d ∷ ds) h more = let b = both_true (is_ascii_digit d) (all_ascii_digits ds) h in rw (digit_no_minus d b.0) refl

begins_digits : (ds : List ℕ) → all_ascii_digits ds ≡ true → 0 < length ds → begins_number ds ≡ true
begins_digits [] h more = absurd (omega arith)
begins_digits (d ∷ ds) h more = let b = both_true (is_ascii_digit d) (all_ascii_digits ds) h in rw (digit_no_minus d b.0) b.0

pub magnitude_decimal : (n : ℕ) → n < 2 ^ 64 → magnitude (decimal n) ≡ Some n
magnitude_decimal n small = magnitude_digits (decimal n) (digits_decimal own n small) (decimal_nonempty n small) ∙ ap Some (digits_value-decimal own n small)

pub number_decimal : (n : ℕ) → n < 2 ^ 64 → number_of (decimal n) ≡ Some (pos n)
number_decimal n small = number_digits (decimal n) (digits_decimal own n small) (decimal_nonempty n small) ∙ ap (option_map pos) (magnitude_decimal n small)

number_minus : (ds : List ℕ) (n : ℕ) → magnitude ds ≡ Some (suc n) → number_of (45 ∷ ds) ≡ Some (negsuc n)
unfolding number_of
number_minus ds n e = rw e refl

-- the text of a literal
pub record Spelled (l : ℕ) (text : List ℕ) : Type 0 where
  pub number : number_of text ≡ Some (to_number l)
  pub begins : begins_number text ≡ true
  pub word : list_all in_word text ≡ true
  pub some : 0 < length text

spelled_number : (l : ℕ) → 1 ≤ l / 2 → l / 2 < 2 ^ 64 → number_of (literal_text l) ≡ Some (to_number l)
unfolding literal_text to_number
spelled_number l low small = elim (eqb_tells (l % 2) 0) [
  | inl t ↦ rw t.0 (number_decimal (l / 2) small)
  | inr f ↦ rw f.0 (number_minus (decimal (l / 2)) (l / 2 - 1) (magnitude_decimal (l / 2) small ∙ ap Some back))
] where
  back : l / 2 ≡ suc (l / 2 - 1)
  back = omega arith

spelled_shape : (l : ℕ) → 1 ≤ l / 2 → l / 2 < 2 ^ 64 → (begins_number (literal_text l) ≡ true) × (list_all in_word (literal_text l) ≡ true) × (0 < length (literal_text l))
unfolding literal_text
spelled_shape l low small =
    let digits = digits_decimal own (l / 2) small in
    let some = decimal_nonempty (l / 2) small in
    elim (eqb_tells (l % 2) 0) [
      | inl t ↦ rw t.0 (begins_digits (decimal (l / 2)) digits some, digits_in_word (decimal (l / 2)) digits, some)
      | inr f ↦ rw f.0 (refl, digits_in_word (decimal (l / 2)) digits, omega arith)
    ]

pub spelled : (l : ℕ) → 1 ≤ l / 2 → l / 2 ≤ max_var → Spelled l (literal_text l)
spelled l low high =
    let small : l / 2 < 2 ^ 64 = omega arith in
    let shape = spelled_shape l low small in
    record { number = spelled_number l low small; begins = shape.0; word = shape.1; some = shape.2 }

-- all literals of a list, and its 0
clause_words : List ℕ → List (List ℕ)
clause_words [] = (48 ∷ []) ∷ []
clause_words (l ∷ ls) = literal_text l ∷ clause_words ls

words_clause : (vars : ℕ) (c : List ℕ) → vars ≤ max_var → AllByRecursion (IsLiteralOf vars) c → words_of (clause_text c) ≡ clause_words c
unfolding clause_words words_from
words_clause vars [] high ok = refl
words_clause vars (l ∷ ls) high ok =
    let s = spelled l ok.0.0 (omega (arith, ok.0.1)) in
    ap words_of (append_assoc (literal_text l ++ 32 ∷ []) (flat_map (λ m. literal_text m ++ 32 ∷ []) ls) (48 ∷ []) ∙ append_assoc (literal_text l) (32 ∷ []) (clause_text ls))
    ∙ word_space [] (literal_text l) (clause_text ls) s.word (omega (arith, s.some)) ∙ ap (λ ws. literal_text l ∷ ws) (words_clause vars ls high ok.1)

clause_numbers : (vars : ℕ) (c : List ℕ) → vars ≤ max_var → AllByRecursion (IsLiteralOf vars) c → AreNumbers (clause_words c) (list_tokens c)
unfolding clause_words number_of magnitude read_on
clause_numbers vars [] high ok = (refl, tt)
clause_numbers vars (l ∷ ls) high ok = ((spelled l ok.0.0 (omega (arith, ok.0.1))).number, clause_numbers vars ls high ok.1)

-- a line of a clause is none of another kind
not_byte : (n : ℕ) → ((n == 45) || is_ascii_digit n) ≡ false → (w rest : List ℕ) → begins_number w ≡ true → (b : ℕ) (bs : List ℕ) → w ≡ b ∷ bs → (b == n) ≡ false
not_byte n other w rest starts b bs e = by_test (eqb_tells b n) where
  by_test : (((b == n) ≡ true) × (b ≡ n)) ⊎ (((b == n) ≡ false) × (b ≢ n)) → (b == n) ≡ false
  by_test (inl t) = let at_b : begins_number (b ∷ bs) ≡ true = ap begins_number (sym e) ∙ starts in let at_n : ((n == 45) || is_ascii_digit n) ≡ true = ap (λ (m : ℕ). (m == 45) || is_ascii_digit m) (sym t.1) ∙ at_b in absurd cc
  by_test (inr f) = f.0

no_comment : (w rest : List ℕ) → begins_number w ≡ true → is_comment (w ++ rest) ≡ false
no_comment [] rest h = absurd cc
no_comment (b ∷ bs) rest h = not_byte 99 refl (b ∷ bs) rest h b bs refl

no_word : (n : ℕ) → ((n == 45) || is_ascii_digit n) ≡ false → (w : List ℕ) → begins_number w ≡ true → bytes_eq w (n ∷ []) ≡ false
no_word n other [] h = refl
no_word n other (b ∷ bs) h = let e = not_byte n other (b ∷ bs) [] h b bs refl in rw e refl

clause_no_comment : (vars : ℕ) (c : List ℕ) → vars ≤ max_var → AllByRecursion (IsLiteralOf vars) c → is_comment (clause_text c) ≡ false
clause_no_comment vars [] high ok = refl
clause_no_comment vars (l ∷ ls) high ok =
    let s = spelled l ok.0.0 (omega (arith, ok.0.1)) in
    ap is_comment (append_assoc (literal_text l ++ 32 ∷ []) (flat_map (λ m. literal_text m ++ 32 ∷ []) ls) (48 ∷ []) ∙ append_assoc (literal_text l) (32 ∷ []) (clause_text ls))
    ∙ no_comment (literal_text l) (32 ∷ clause_text ls) s.begins

clause_line : (vars : ℕ) (c : List ℕ) → vars ≤ max_var → AllByRecursion (IsLiteralOf vars) c → line_words (clause_text c) ≡ clause_words c
clause_line vars c high ok = words_plain (clause_text c) (clause_no_comment vars c high ok) ∙ words_clause vars c high ok

clause_goes : (vars : ℕ) (c : List ℕ) → vars ≤ max_var → AllByRecursion (IsLiteralOf vars) c → begins_end (clause_words c) ≡ false
unfolding clause_words
clause_goes vars [] high ok = refl
clause_goes vars (l ∷ ls) high ok = no_word 37 refl (literal_text l) (spelled l ok.0.0 (omega (arith, ok.0.1))).begins

clause_no_ask : (vars : ℕ) (c : List ℕ) → vars ≤ max_var → AllByRecursion (IsLiteralOf vars) c → begins_ask formats.Icnf (clause_words c) ≡ false
unfolding clause_words
clause_no_ask vars [] high ok = refl
clause_no_ask vars (l ∷ ls) high ok = no_word 97 refl (literal_text l) (spelled l ok.0.0 (omega (arith, ok.0.1))).begins

no_ask : (ws : List (List ℕ)) → begins_ask formats.Cnf ws ≡ false
no_ask [] = refl
no_ask (w ∷ ws) = refl

ask_words_are : (vars : ℕ) (c : List ℕ) → vars ≤ max_var → AllByRecursion (IsLiteralOf vars) c → line_words (item_text (Ask c)) ≡ (97 ∷ []) ∷ clause_words c
unfolding line_words words_from
ask_words_are vars c high ok = ap (λ ws. (97 ∷ []) ∷ ws) (words_clause vars c high ok)

-- the lines of a body
abbrev Going : List ℕ → Type 0
Going l = begins_end (line_words l) ≡ false

clauses_going : (vars : ℕ) (cs : List (List ℕ)) → vars ≤ max_var → AllByRecursion (IsItemOf vars) (map Clause cs) → AllByRecursion Going (map clause_text cs)
clauses_going vars [] high ok = tt
clauses_going vars (c ∷ cs) high ok = (ap begins_end (clause_line vars c high ok.0) ∙ clause_goes vars c high ok.0, clauses_going vars cs high ok.1)

clauses_say : (vars : ℕ) (cs : List (List ℕ)) → vars ≤ max_var → AllByRecursion (IsItemOf vars) (map Clause cs) → LinesSay formats.Cnf (map clause_text cs) (tokens_of (map Clause cs))
clauses_say vars [] high ok = refl
clauses_say vars (c ∷ cs) high ok =
    (list_tokens c, tokens_of (map Clause cs), refl, inl (no_ask (line_words (clause_text c)), subst (λ ws. AreNumbers ws (list_tokens c)) (sym (clause_line vars c high ok.0)) (clause_numbers vars c high ok.0)), clauses_say vars cs high ok.1)

items_going : (vars : ℕ) (is : List Item) → vars ≤ max_var → AllByRecursion (IsItemOf vars) is → AllByRecursion Going (map item_text is)
items_going vars [] high ok = tt
items_going vars (Clause c ∷ is) high ok = (ap begins_end (clause_line vars c high ok.0) ∙ clause_goes vars c high ok.0, items_going vars is high ok.1)
items_going vars (Ask c ∷ is) high ok = (ap begins_end (ask_words_are vars c high ok.0.0), items_going vars is high ok.1)

items_say : (vars : ℕ) (is : List Item) → vars ≤ max_var → AllByRecursion (IsItemOf vars) is → LinesSay formats.Icnf (map item_text is) (tokens_of is)
items_say vars [] high ok = refl
items_say vars (Clause c ∷ is) high ok =
    let line = clause_line vars c high ok.0 in
    (list_tokens c, tokens_of is, refl, inl (ap (begins_ask formats.Icnf) line ∙ clause_no_ask vars c high ok.0, subst (λ ws. AreNumbers ws (list_tokens c)) (sym line) (clause_numbers vars c high ok.0)), items_say vars is high ok.1)
items_say vars (Ask c ∷ is) high ok =
    let line = ask_words_are vars c high ok.0.0 in
    (Asks c ∷ [], tokens_of is, refl, inr (ap (begins_ask formats.Icnf) line, subst (λ ws. SaysAsk ws (Asks c ∷ [])) (sym line) (record { lits = c; one = refl; spelled = clause_numbers vars c high ok.0.0 })), items_say vars is high ok.1)

-- good items are within the limits
lits_proper : (vars : ℕ) (c : List ℕ) → AllByRecursion (IsLiteralOf vars) c → AllByRecursion (λ l. 1 ≤ l / 2) c
lits_proper vars [] ok = tt
lits_proper vars (l ∷ c) ok = (ok.0.0, lits_proper vars c ok.1)

items_proper : (vars : ℕ) (is : List Item) → AllByRecursion (IsItemOf vars) is → AllByRecursion IsProper is
items_proper vars [] ok = tt
items_proper vars (Clause c ∷ is) ok = (lits_proper vars c ok.0, items_proper vars is ok.1)
items_proper vars (Ask c ∷ is) ok = ((lits_proper vars c ok.0.0, ok.0.1), items_proper vars is ok.1)

greatest_within : (vars : ℕ) (c : List ℕ) → AllByRecursion (IsLiteralOf vars) c → greatest c ≤ vars
greatest_within vars [] ok = omega arith
greatest_within vars (l ∷ c) ok = omega (arith, ok.0.1, greatest_within vars c ok.1)

items_within : (vars : ℕ) (is : List Item) → AllByRecursion (IsItemOf vars) is → greatest_of is ≤ vars
items_within vars [] ok = omega arith
items_within vars (Clause c ∷ is) ok = omega (arith, greatest_within vars c ok.0, items_within vars is ok.1)
items_within vars (Ask c ∷ is) ok = omega (arith, greatest_within vars c ok.0.0, items_within vars is ok.1)

-- the header's line
header_is : (v c : ℕ) → v < 2 ^ 64 → c < 2 ^ 64 → words_of (cnf_header v c) ≡ (112 ∷ []) ∷ (99 ∷ 110 ∷ 102 ∷ []) ∷ decimal v ∷ decimal c ∷ []
unfolding words_from
header_is v c sv sc =
    let first : words_from [] (decimal v ++ 32 ∷ decimal c) ≡ decimal v ∷ words_from [] (decimal c) = word_space [] (decimal v) (decimal c) (digits_in_word (decimal v) (digits_decimal own v sv)) (omega (arith, decimal_nonempty v sv)) in
    let second : words_from [] (decimal c) ≡ decimal c ∷ [] = word_last [] (decimal c) (digits_in_word (decimal c) (digits_decimal own c sc)) (omega (arith, decimal_nonempty c sc)) in
    ap (λ xs. (112 ∷ []) ∷ (99 ∷ 110 ∷ 102 ∷ []) ∷ words_from [] xs) (append_assoc (decimal v) (32 ∷ []) (decimal c))
    ∙ ap (λ ws. (112 ∷ []) ∷ (99 ∷ 110 ∷ 102 ∷ []) ∷ ws) (first ∙ ap (λ ws. decimal v ∷ ws) second)

header_counts : (v c : ℕ) → v ≤ max_var → c ≤ 4294967295 → header_words formats.Cnf ((112 ∷ []) ∷ (99 ∷ 110 ∷ 102 ∷ []) ∷ decimal v ∷ decimal c ∷ []) ≡ Ok v
header_counts v c hv hc =
    let a = number_decimal v (omega arith) in
    let b = number_decimal c (omega arith) in
    let fv : nat_lt max_var v ≡ false = le-ltb max_var v hv in
    let fc : nat_lt 4294967295 c ≡ false = le-ltb 4294967295 c hc in
    rw (a, b, fv, fc) refl

-- lines without LF
plain-append : (xs ys : List ℕ) → IsPlain xs → IsPlain ys → IsPlain (xs ++ ys)
plain-append [] ys a b = b
plain-append (x ∷ xs) ys a b = let h = both_true (not (x == 10)) (is_plain xs) a in rw h.0 (plain-append xs ys h.1 b)

plain_word : (w : List ℕ) → list_all in_word w ≡ true → IsPlain w
plain_word [] h = refl
plain_word (x ∷ w) h =
    let b = both_true (in_word x) (list_all in_word w) h in
    rw ((both_true (not (is_white x)) (not (x == 10)) b.0).1) (plain_word w b.1)

plain_header : (v c : ℕ) → v < 2 ^ 64 → c < 2 ^ 64 → IsPlain (cnf_header v c)
plain_header v c sv sc = plain-append ((decimal v) ++ 32 ∷ []) (decimal c) (plain-append (decimal v) (32 ∷ []) (plain_word (decimal v) (digits_in_word (decimal v) (digits_decimal own v sv))) refl) (plain_word (decimal c) (digits_in_word (decimal c) (digits_decimal own c sc)))

plain_clause : (vars : ℕ) (c : List ℕ) → vars ≤ max_var → AllByRecursion (IsLiteralOf vars) c → IsPlain (clause_text c)
plain_clause vars [] high ok = refl
plain_clause vars (l ∷ ls) high ok =
    let s = spelled l ok.0.0 (omega (arith, ok.0.1)) in
    let e = append_assoc (literal_text l ++ 32 ∷ []) (flat_map (λ m. literal_text m ++ 32 ∷ []) ls) (48 ∷ []) in
    rw e (plain-append (literal_text l ++ 32 ∷ []) (clause_text ls) (plain-append (literal_text l) (32 ∷ []) (plain_word (literal_text l) s.word) refl) (plain_clause vars ls high ok.1))

plain_clauses : (vars : ℕ) (cs : List (List ℕ)) → vars ≤ max_var → AllByRecursion (IsItemOf vars) (map Clause cs) → AllByRecursion IsPlain (map clause_text cs)
plain_clauses vars [] high ok = tt
plain_clauses vars (c ∷ cs) high ok = (plain_clause vars c high ok.0, plain_clauses vars cs high ok.1)

plain_items : (vars : ℕ) (is : List Item) → vars ≤ max_var → AllByRecursion (IsItemOf vars) is → AllByRecursion IsPlain (map item_text is)
plain_items vars [] high ok = tt
plain_items vars (Clause c ∷ is) high ok = (plain_clause vars c high ok.0, plain_items vars is high ok.1)
plain_items vars (Ask c ∷ is) high ok = (plain_clause vars c high ok.0.0, plain_items vars is high ok.1)

text_clauses : (cs : List (List ℕ)) → flat_map (λ c. clause_text c ++ 10 ∷ []) cs ≡ text_of (map clause_text cs)
text_clauses [] = refl
text_clauses (c ∷ cs) = ap (λ xs. (clause_text c ++ 10 ∷ []) ++ xs) (text_clauses cs)

text_items : (is : List Item) → flat_map (λ item. item_text item ++ 10 ∷ []) is ≡ text_of (map item_text is)
text_items [] = refl
text_items (i ∷ is) = ap (λ xs. (item_text i ++ 10 ∷ []) ++ xs) (text_items is)

few : (cs : List (List ℕ)) → length cs ≡ clauses_in (map Clause cs)
few [] = refl
few (c ∷ cs) = omega (arith, few cs)

cnf_lines : (v : Cnf) → IsGood v → lines_of (cnf_text v) ≡ cnf_header v.vars (length v.clauses) ∷ map clause_text v.clauses
unfolding cnf_text lines_of
cnf_lines v good =
    let lines = cnf_header v.vars (length v.clauses) ∷ map clause_text v.clauses in
    let plain : AllByRecursion IsPlain lines = (plain_header v.vars (length v.clauses) (omega (arith, good.vars)) (omega (arith, few v.clauses, good.clauses)), plain_clauses v.vars v.clauses good.vars good.items) in
    let text : cnf_text v ≡ text_of lines ++ [] = ap (λ xs. (cnf_header v.vars (length v.clauses) ++ 10 ∷ []) ++ xs) (text_clauses v.clauses) ∙ sym (append-nil (text_of lines)) in
    ap lines_of text ∙ lines_of-text lines [] plain ∙ append-nil lines

icnf_lines : (v : Icnf) → IsGoodIcnf v → lines_of (icnf_text v) ≡ icnf_header ∷ map item_text v.items
unfolding icnf_text lines_of
icnf_lines v good =
    let lines = icnf_header ∷ map item_text v.items in
    let plain : AllByRecursion IsPlain lines = (refl, plain_items v.vars v.items good.vars good.items) in
    let text : icnf_text v ≡ text_of lines ++ [] = ap (λ xs. (icnf_header ++ 10 ∷ []) ++ xs) (text_items v.items) ∙ sym (append-nil (text_of lines)) in
    ap lines_of text ∙ lines_of-text lines [] plain ∙ append-nil lines

cnf_head : (v : Cnf) → IsGood v → header_words formats.Cnf (line_words (cnf_header v.vars (length v.clauses))) ≡ Ok v.vars
unfolding line_words
cnf_head v good =
    let count : length v.clauses ≤ 4194304 = omega (arith, few v.clauses, good.clauses) in
    ap (header_words formats.Cnf) (header_is v.vars (length v.clauses) (omega (arith, good.vars)) (omega arith)) ∙ header_counts v.vars (length v.clauses) good.vars (omega arith)

icnf_head : header_words formats.Icnf (line_words icnf_header) ≡ Ok 0
unfolding line_words words_from
icnf_head = refl

pub text_is_cnf : (v : Cnf) → IsGood v → IsCnf v (cnf_text v)
text_is_cnf v good = record {
  front = [];
  head = cnf_header v.vars (length v.clauses);
  body = map clause_text v.clauses;
  tail = [];
  declared = v.vars;
  lines = cnf_lines v good ∙ ap (λ ls. cnf_header v.vars (length v.clauses) ∷ ls) (sym (append-nil (map clause_text v.clauses)));
  silent = tt;
  header = cnf_head v good;
  going = clauses_going v.vars v.clauses good.vars good.items;
  ending = inl refl;
  spelled = clauses_say v.vars v.clauses good.vars good.items;
  vars = omega (arith, items_within v.vars (map Clause v.clauses) good.items);
  proper = items_proper v.vars (map Clause v.clauses) good.items;
  small = omega (arith, items_within v.vars (map Clause v.clauses) good.items, good.vars);
  clauses = good.clauses;
  literals = good.literals;
}

pub text_is_icnf : (v : Icnf) → IsGoodIcnf v → IsIcnf v (icnf_text v)
text_is_icnf v good = record {
  front = [];
  head = icnf_header;
  body = map item_text v.items;
  tail = [];
  declared = 0;
  lines = icnf_lines v good ∙ ap (λ ls. icnf_header ∷ ls) (sym (append-nil (map item_text v.items)));
  silent = tt;
  header = icnf_head;
  going = items_going v.vars v.items good.vars good.items;
  ending = inl refl;
  spelled = items_say v.vars v.items good.vars good.items;
  vars = omega (arith, good.used);
  proper = items_proper v.vars v.items good.items;
  small = omega (arith, items_within v.vars v.items good.items, good.vars);
  clauses = good.clauses;
  literals = good.literals;
}
