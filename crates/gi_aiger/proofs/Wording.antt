-- The lines that are written, and what they say.
use Rattle.std.proofs.Common.{◌≡◌, ℕ, ◌^◌, ◌<◌, nat_lt, List, [], ◌∷◌, ◌++◌, length, map, decimal, Bool, true, false, ◌&&◌, not, cond, inl, inr, Option, Some, None, option_map, refl, ap, sym, ◌∙◌, subst, arith, append_assoc, rules}
use Rattle.std.specs.Prelude.{◌==◌}
use Rattle.std.specs.List.{flat_map, AllByRecursion}
use Rattle.std.specs.Str.{all_ascii_digits}
use Rattle.std.specs.Char.{is_ascii_digit}
use Rattle.std.proofs.lemmas.Bool.{ne_eqb}
use Rattle.std.proofs.lemmas.Bool.Decides.{eqb_tells, nat_tests}
use Rattle.std.proofs.lemmas.List.{append-nil}
use Rattle.std.proofs.lemmas.Fmt.{digits_decimal, digits_value-decimal, decimal_nonempty}
use Rattle.std.proofs.lemmas.Str.Parse.{IsNumeralModel, numerals_by_fold}
use Rattle.gi_text.specs.Numbers.{read_on, magnitude}
use Rattle.gi_aiger.specs.declared.aig.Latch.{Latch}
use Rattle.gi_aiger.specs.declared.aig.Reset.{Reset}
use Rattle.gi_aiger.specs.declared.aig.Reset.TheVariants.{Zero, One, Free}
use Rattle.gi_aiger.specs.declared.aig.Symbol.{Symbol}
use Rattle.gi_aiger.specs.declared.head.Form.TheVariants.{Ascii}
use Rattle.gi_aiger.specs.declared.head.Head.{Head}
use Rattle.gi_aiger.specs.declared.row.Row.{Row}
use Rattle.gi_aiger.specs.declared.row.Row.TheVariants as rows
use Rattle.gi_aiger.specs.Fields.{with_byte, fields_of, split_space, with_number, numbers_at, numbers_of, with_own}
use Rattle.gi_aiger.specs.Lines.{lines_of, bare, joined, is_plain}
use Rattle.gi_aiger.specs.Symbols.{places_of, place_in, symbol_named, symbol_parts, symbol_of}
use Rattle.gi_aiger.specs.Files.{begins_comment}
use Rattle.gi_aiger.specs.Texts.{count_text, number_line, reset_text, latch_line, gate_line, symbol_line, comment_text}
use Rattle.gi_aiger.specs.Relation.{Spells, Says, AllSay, AllName, IsRest, reset_number}
use Rattle.gi_aiger.specs.Good.{IsTitle, AreNew}
use Rattle.gi_aiger.proofs.Lining.{IsPlain, plain_cons, bare_whole, joined_lines}

own : IsNumeralModel (λ ds. all_ascii_digits ds ≡ true) (read_on 0)
unfolding read_on
own = numerals_by_fold _ (search rules) read_on (search rules)

both_true : (a b : Bool) → (a && b) ≡ true → (a ≡ true) × (b ≡ true)
both_true true b h = (refl, h)
both_true false b h = absurd cc

-- digits are neither a space nor LF
abbrev pub Digits : List ℕ → Type 0
Digits ds = all_ascii_digits ds ≡ true

digit_not : (d : ℕ) → is_ascii_digit d ≡ true → ((d == 32) ≡ false) × ((d == 10) ≡ false)
digit_not d h = (grind (arith, nat_tests, h), grind (arith, nat_tests, h))

pub digits_plain : (ds rest : List ℕ) → Digits ds → IsPlain rest → IsPlain (ds ++ rest)
digits_plain [] rest h plain = plain
digits_plain (d ∷ ds) rest h plain = let b = both_true (is_ascii_digit d) (all_ascii_digits ds) h in plain_cons d (ds ++ rest) (digit_not d b.0).1 (digits_plain ds rest b.1 plain)

magnitude_digits : (ds : List ℕ) → Digits ds → 0 < length ds → magnitude ds ≡ Some (read_on 0 ds)
unfolding magnitude
magnitude_digits [] h more = absurd (omega arith)
magnitude_digits (d ∷ ds) h more = rw h refl

pub magnitude_decimal : (n : ℕ) → n < 2 ^ 64 → magnitude (decimal n) ≡ Some n
magnitude_decimal n small = magnitude_digits (decimal n) (digits_decimal own n small) (decimal_nonempty n small) ∙ ap Some (digits_value-decimal own n small)

pub decimal_digits : (n : ℕ) → n < 2 ^ 64 → Digits (decimal n)
decimal_digits n small = digits_decimal own n small

-- fields of digits
pub digits_field : (ds : List ℕ) → Digits ds → fields_of ds ≡ ds ∷ []
unfolding fields_of
digits_field [] h = refl
digits_field (d ∷ ds) h = let b = both_true (is_ascii_digit d) (all_ascii_digits ds) h in rw (digit_not d b.0).0 (ap (with_byte d) (digits_field ds b.1))

pub digits_space : (ds rest : List ℕ) → Digits ds → fields_of (ds ++ 32 ∷ rest) ≡ ds ∷ fields_of rest
unfolding fields_of
digits_space [] rest h = refl
digits_space (d ∷ ds) rest h = let b = both_true (is_ascii_digit d) (all_ascii_digits ds) h in rw (digit_not d b.0).0 (ap (with_byte d) (digits_space ds rest b.1))

pub digits_split : (ds rest : List ℕ) → Digits ds → split_space (ds ++ 32 ∷ rest) ≡ Some (ds, rest)
unfolding split_space
digits_split [] rest h = refl
digits_split (d ∷ ds) rest h = let b = both_true (is_ascii_digit d) (all_ascii_digits ds) h in rw (digit_not d b.0).0 (ap (option_map (λ p. (d ∷ p.0, p.1))) (digits_split ds rest b.1))

-- numbers with single spaces between
abbrev pub spaced : List ℕ → List ℕ
spaced ns = flat_map count_text ns

abbrev pub AreShort : List ℕ → Type 0
AreShort ns = AllByRecursion (λ n. n < 2 ^ 64) ns

pub fields_spaced : (ds ns : List ℕ) → Digits ds → AreShort ns → fields_of (ds ++ spaced ns) ≡ ds ∷ map decimal ns
fields_spaced ds [] h short = ap fields_of (append-nil ds) ∙ digits_field ds h
fields_spaced ds (n ∷ ns) h short = digits_space ds (decimal n ++ spaced ns) h ∙ ap (λ (fs : List (List ℕ)). ds ∷ fs) (fields_spaced (decimal n) ns (decimal_digits n short.0) short.1)

pub numbers_spaced : (ns : List ℕ) → AreShort ns → numbers_at (map decimal ns) ≡ Some ns
unfolding numbers_at
numbers_spaced [] short = refl
numbers_spaced (n ∷ ns) short = ap (λ (o : Option ℕ). with_number o (numbers_at (map decimal ns))) (magnitude_decimal n short.0) ∙ ap (with_number (Some n)) (numbers_spaced ns short.1)

pub spaced_plain : (ns rest : List ℕ) → AreShort ns → IsPlain rest → IsPlain (spaced ns ++ rest)
spaced_plain [] rest short plain = plain
spaced_plain (n ∷ ns) rest short plain = subst IsPlain (sym (append_assoc (count_text n) (spaced ns) rest)) (plain_cons 32 (decimal n ++ (spaced ns ++ rest)) refl (digits_plain (decimal n) (spaced ns ++ rest) (decimal_digits n short.0) (spaced_plain ns rest short.1 plain)))

-- a line of numbers
abbrev pub numbers_text : ℕ → List ℕ → List ℕ
numbers_text n ns = decimal n ++ spaced ns

pub numbers_plain : (n : ℕ) (ns : List ℕ) → n < 2 ^ 64 → AreShort ns → IsPlain (numbers_text n ns)
numbers_plain n ns small short = subst (λ (xs : List ℕ). IsPlain (decimal n ++ xs)) (append-nil (spaced ns)) (digits_plain (decimal n) (spaced ns ++ []) (decimal_digits n small) (spaced_plain ns [] short refl))

pub numbers_read : (n : ℕ) (ns : List ℕ) → n < 2 ^ 64 → AreShort ns → numbers_of (numbers_text n ns) ≡ Some (n ∷ ns)
unfolding numbers_at
numbers_read n ns small short = ap numbers_at (fields_spaced (decimal n) ns (decimal_digits n small) short) ∙ numbers_spaced (n ∷ ns) (small, short)

pub numbers_line : (n : ℕ) (ns : List ℕ) → n < 2 ^ 64 → AreShort ns → numbers_of (bare (numbers_text n ns ++ 10 ∷ [])) ≡ Some (n ∷ ns)
numbers_line n ns small short = ap numbers_of (bare_whole (numbers_text n ns) [] (numbers_plain n ns small short)) ∙ numbers_read n ns small short

-- the line of a row
abbrev pub row_line : Row → List ℕ
row_line (rows.Input l) = number_line l
row_line (rows.Latch l) = latch_line l
row_line (rows.Out l) = number_line l
row_line (rows.Bad l) = number_line l
row_line (rows.Con l) = number_line l
row_line (rows.Size n) = number_line n
row_line (rows.Justice l) = number_line l
row_line (rows.Fair l) = number_line l
row_line (rows.Gate g) = gate_line g

-- its numbers
abbrev latch_numbers : Latch → Reset → List ℕ
latch_numbers l Zero = l.next ∷ []
latch_numbers l One = l.next ∷ 1 ∷ []
latch_numbers l Free = l.next ∷ l.lit ∷ []

abbrev first_number : Row → ℕ
first_number (rows.Input l) = l
first_number (rows.Latch l) = l.lit
first_number (rows.Out l) = l
first_number (rows.Bad l) = l
first_number (rows.Con l) = l
first_number (rows.Size n) = n
first_number (rows.Justice l) = l
first_number (rows.Fair l) = l
first_number (rows.Gate g) = g.lhs

abbrev more_numbers : Row → List ℕ
more_numbers (rows.Input l) = []
more_numbers (rows.Latch l) = latch_numbers l l.reset
more_numbers (rows.Out l) = []
more_numbers (rows.Bad l) = []
more_numbers (rows.Con l) = []
more_numbers (rows.Size n) = []
more_numbers (rows.Justice l) = []
more_numbers (rows.Fair l) = []
more_numbers (rows.Gate g) = g.rhs0 ∷ g.rhs1 ∷ []

abbrev pub IsShortRow : Row → Type 0
IsShortRow r = (first_number r < 2 ^ 64) × AreShort (more_numbers r)

-- its text
latch_text : (l : Latch) (r : Reset) → ((decimal l.lit ++ count_text l.next) ++ reset_text l.lit r) ++ 10 ∷ [] ≡ numbers_text l.lit (latch_numbers l r) ++ 10 ∷ []
latch_text l Zero = ap (λ (xs : List ℕ). xs ++ 10 ∷ []) (append-nil (decimal l.lit ++ count_text l.next) ∙ ap (λ (xs : List ℕ). decimal l.lit ++ xs) (sym (append-nil (count_text l.next))))
latch_text l One = ap (λ (xs : List ℕ). xs ++ 10 ∷ []) (append_assoc (decimal l.lit) (count_text l.next) (count_text 1) ∙ ap (λ (xs : List ℕ). decimal l.lit ++ (count_text l.next ++ xs)) (sym (append-nil (count_text 1))))
latch_text l Free = ap (λ (xs : List ℕ). xs ++ 10 ∷ []) (append_assoc (decimal l.lit) (count_text l.next) (count_text l.lit) ∙ ap (λ (xs : List ℕ). decimal l.lit ++ (count_text l.next ++ xs)) (sym (append-nil (count_text l.lit))))

number_text : (n : ℕ) → number_line n ≡ numbers_text n [] ++ 10 ∷ []
number_text n = ap (λ (xs : List ℕ). xs ++ 10 ∷ []) (sym (append-nil (decimal n)))

pub row_text : (r : Row) → row_line r ≡ numbers_text (first_number r) (more_numbers r) ++ 10 ∷ []
row_text (rows.Input l) = number_text l
row_text (rows.Latch l) = latch_text l l.reset
row_text (rows.Out l) = number_text l
row_text (rows.Bad l) = number_text l
row_text (rows.Con l) = number_text l
row_text (rows.Size n) = number_text n
row_text (rows.Justice l) = number_text l
row_text (rows.Fair l) = number_text l
row_text (rows.Gate g) = ap (λ (xs : List ℕ). xs ++ 10 ∷ []) (append_assoc (decimal g.lhs) (count_text g.rhs0) (count_text g.rhs1) ∙ ap (λ (xs : List ℕ). decimal g.lhs ++ (count_text g.rhs0 ++ xs)) (sym (append-nil (count_text g.rhs1))))

latch_spells : (l : Latch) (r : Reset) → l.reset ≡ r → Spells (rows.Latch l) (l.lit ∷ latch_numbers l r)
latch_spells l Zero e = inr (e, refl)
latch_spells l One e = inl (ap (λ (r : Reset). l.lit ∷ l.next ∷ reset_number l r ∷ []) (sym e))
latch_spells l Free e = inl (ap (λ (r : Reset). l.lit ∷ l.next ∷ reset_number l r ∷ []) (sym e))

row_spells : (r : Row) → Spells r (first_number r ∷ more_numbers r)
row_spells (rows.Input l) = refl
row_spells (rows.Latch l) = latch_spells l l.reset refl
row_spells (rows.Out l) = refl
row_spells (rows.Bad l) = refl
row_spells (rows.Con l) = refl
row_spells (rows.Size n) = refl
row_spells (rows.Justice l) = refl
row_spells (rows.Fair l) = refl
row_spells (rows.Gate g) = refl

with_none : (o : Option (List ℕ)) (ns : List ℕ) → o ≡ Some ns → with_own None o ≡ Some ns
with_none o ns e = ap (with_own None) e

pub row_says : (r : Row) → IsShortRow r → Says Ascii (row_line r) r
row_says r short = record {
  numbers = first_number r ∷ more_numbers r;
  are = with_none (numbers_of (bare (row_line r))) (first_number r ∷ more_numbers r) (ap (λ (l : List ℕ). numbers_of (bare l)) (row_text r) ∙ numbers_line (first_number r) (more_numbers r) short.0 short.1);
  spell = row_spells r;
}

pub rows_say : (rs : List Row) → AllByRecursion IsShortRow rs → AllSay Ascii (map row_line rs) rs
rows_say [] short = tt
rows_say (r ∷ rs) short = (row_says r short.0, rows_say rs short.1)

-- lines that are written end with LF
abbrev pub EndsLine : List ℕ → Type 0
EndsLine l = (x : List ℕ) × (l ≡ x ++ 10 ∷ []) × IsPlain x

pub row_ends : (r : Row) → IsShortRow r → EndsLine (row_line r)
row_ends r short = (numbers_text (first_number r) (more_numbers r), row_text r, numbers_plain (first_number r) (more_numbers r) short.0 short.1)

plain_head : (x : ℕ) (l : List ℕ) → IsPlain (x ∷ l) → ((x == 10) ≡ false) × IsPlain l
plain_head x l plain = by_test (x == 10) plain where
  by_test : (b : Bool) → (not b && is_plain l) ≡ true → (b ≡ false) × IsPlain l
  by_test true h = absurd cc
  by_test false h = (refl, h)

pub one_line : (x more : List ℕ) → IsPlain x → lines_of (x ++ 10 ∷ more) ≡ (x ++ 10 ∷ []) ∷ lines_of more
unfolding lines_of
one_line [] more plain = refl
one_line (b ∷ x) more plain = let h = plain_head b x plain in rw h.0 (ap (with_byte b) (one_line x more h.1))

pub lines_joined : (ls : List (List ℕ)) (more : List ℕ) → AllByRecursion EndsLine ls → lines_of (joined ls ++ more) ≡ ls ++ lines_of more
lines_joined [] more ends = refl
lines_joined (l ∷ ls) more ends =
    let e = ends.0 in
    ap lines_of (append_assoc l (joined ls) more ∙ ap (λ (xs : List ℕ). xs ++ (joined ls ++ more)) e.1 ∙ append_assoc e.0 (10 ∷ []) (joined ls ++ more)) ∙ one_line e.0 (joined ls ++ more) e.2
    ∙ ap (λ (xs : List ℕ). xs ∷ lines_of (joined ls ++ more)) (sym e.1) ∙ ap (λ (ys : List (List ℕ)). l ∷ ys) (lines_joined ls more ends.1)

-- the comment
pub comment_rest : (comment : Option (List ℕ)) → IsRest (lines_of (comment_text comment)) comment
unfolding lines_of
comment_rest None = refl
comment_rest (Some text) = (refl, ap Some (sym (joined_lines text)))

-- a symbol's line
symbol_text : (s : Symbol) → symbol_line s ≡ (s.kind ∷ (decimal s.place ++ 32 ∷ s.name)) ++ 10 ∷ []
symbol_text s = ap (λ (xs : List ℕ). s.kind ∷ (xs ++ 10 ∷ [])) (append_assoc (decimal s.place) (32 ∷ []) s.name)

kind_plain : (h : Head) (kind place : ℕ) → place < places_of h kind → (kind == 10) ≡ false
kind_plain h kind place lt = elim (eqb_tells kind 10) [ inl t ↦ absurd (none (ap (places_of h) t.1)) | inr f ↦ f.0 ] where
  none : places_of h kind ≡ 0 → ⊥
  none e = omega (arith, lt, e)

title_plain : (h : Head) (s : Symbol) → IsTitle h s → s.place < 2 ^ 64 → IsPlain (s.kind ∷ (decimal s.place ++ 32 ∷ s.name))
title_plain h s t small = plain_cons s.kind (decimal s.place ++ 32 ∷ s.name) (kind_plain h s.kind s.place t.place) (digits_plain (decimal s.place) (32 ∷ s.name) (decimal_digits s.place small) (plain_cons 32 s.name refl t.plain))

pub title_ends : (h : Head) (s : Symbol) → IsTitle h s → s.place < 2 ^ 64 → EndsLine (symbol_line s)
title_ends h s t small = (s.kind ∷ (decimal s.place ++ 32 ∷ s.name), symbol_text s, title_plain h s t small)

no_comment : (kind : ℕ) (ds rest : List ℕ) → Digits ds → 0 < length ds → begins_comment (kind ∷ (ds ++ rest)) ≡ false
no_comment kind [] rest h some = absurd (omega arith)
no_comment kind (d ∷ ds) rest h some = let b = both_true (is_ascii_digit d) (all_ascii_digits ds) h in rw b.0 (and_false (kind == 99)) where
  and_false : (b : Bool) → (b && false) ≡ false
  and_false true = refl
  and_false false = refl

title_is : (h : Head) (s : Symbol) → IsTitle h s → s.place < 2 ^ 64 → symbol_of h (s.kind ∷ (decimal s.place ++ 32 ∷ s.name)) ≡ Some s
title_is h s t small =
    let lt : s.place < places_of h s.kind = t.place in
    let within : nat_lt s.place (places_of h s.kind) ≡ true = below s.place (places_of h s.kind) lt in
    let long : (length s.name == 0) ≡ false = ne_eqb (length s.name) 0 (λ e. omega (arith, e, t.name)) in
    ap (symbol_parts (places_of h s.kind) s.kind) (digits_split (decimal s.place) s.name (decimal_digits s.place small)) ∙ ap (λ (o : Option ℕ). symbol_named s.kind (place_in (places_of h s.kind) o) s.name) (magnitude_decimal s.place small)
    ∙ ap (λ (b : Bool). symbol_named s.kind (cond b (Some s.place) None) s.name) within ∙ ap (λ (b : Bool). cond b None (Some s)) long where
      below : (a b : ℕ) → a < b → nat_lt a b ≡ true
      below a b lt = grind (arith, nat_tests)

pub titles_say : (h : Head) (y ss : List Symbol) → AllByRecursion (IsTitle h) ss → AllByRecursion (λ s. s.place < 2 ^ 64) ss → AreNew y ss → AllName h y (map symbol_line ss) ss
titles_say h y [] titles small new = tt
titles_say h y (s ∷ ss) titles small new =
    let word = symbol_text s in
    let line : bare (symbol_line s) ≡ s.kind ∷ (decimal s.place ++ 32 ∷ s.name) = ap bare word ∙ bare_whole (s.kind ∷ (decimal s.place ++ 32 ∷ s.name)) [] (title_plain h s titles.0 small.0) in
    let plain : begins_comment (symbol_line s) ≡ false = ap begins_comment (word ∙ ap (λ (xs : List ℕ). s.kind ∷ xs) (append_assoc (decimal s.place) (32 ∷ s.name) (10 ∷ []))) ∙ no_comment s.kind (decimal s.place) ((32 ∷ s.name) ++ 10 ∷ []) (decimal_digits s.place small.0) (omega (arith, decimal_nonempty s.place small.0)) in
    (plain, ap (symbol_of h) line ∙ title_is h s titles.0 small.0, new.0, titles_say h (y ++ s ∷ []) ss titles.1 small.1 new.1)
