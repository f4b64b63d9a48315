-- Numbers with their shortest spelling.
use Rattle.std.proofs.Common.{◌≡◌, ◌≢◌, ℕ, suc, ◌+◌, ◌-◌, ◌*◌, ◌/◌, ◌%◌, ◌^◌, ◌<◌, ◌≤◌, ◌==◌, ℤ, pos, negsuc, Bool, true, false, not, ◌&&◌, nat_le, cond, Option, Some, None, List, [], ◌∷◌, length, bytes_eq, codes, decimal, inl, inr, refl, ap, sym, ◌∙◌, subst, arith, rules, lit<}
use Rattle.std.specs.Prelude.{nat_abs, neg_ℤ}
use Rattle.std.specs.List.{All, AllByRecursion}
use Rattle.std.specs.Fmt.{signed_decimal}
use Rattle.std.specs.Str.{all_ascii_digits}
use Rattle.std.specs.Char.{is_ascii_digit}
use Rattle.std.proofs.lemmas.Bool.{and_parts, eq-eqb, false_from_ne_true, le-leb, leb-true, ne_eqb}
use Rattle.std.proofs.lemmas.Bool.Decides.{eqb_tells, nat_tests}
use Rattle.std.proofs.lemmas.Fmt.{decimal_nonempty, digits_decimal, length-decimal-le}
use Rattle.std.proofs.lemmas.List.Elements.{All-from_recursion}
use Rattle.std.proofs.lemmas.List.Sums.{list_all-from_AllPass}
use Rattle.std.proofs.lemmas.Slice.Eq.{bytes_eq-Decides}
use Rattle.std.proofs.lemmas.Str.Parse.{IsNumeralModel, numerals_by_fold}
use Rattle.gi_lit.specs.Literals.{IsLiteral, literal_of, max_var, number_of}
use Rattle.gi_text.specs.Numbers.{read_on, size_of}
use Rattle.gi_text.specs.Numbers as numbers
use Rattle.gi_text.specs.Words.{is_white}
use Rattle.gi_text.proofs.Spellings.{number-signed_decimal}
use Rattle.gi_wire.specs.Answers.{exactly, natural, spelled}
use Rattle.gi_wire.specs.Grammar.{literal_at, literal_in, within}
use Rattle.gi_wire.specs.Limits.{most_u64}
use Rattle.gi_wire.proofs.Lfs.{no_lf}

pub same_bytes : (xs : List ℕ) → bytes_eq xs xs ≡ true
same_bytes xs = (bytes_eq-Decides xs xs).1 refl

pub other_bytes : (xs ys : List ℕ) → (xs ≡ ys → ⊥) → bytes_eq xs ys ≡ false
other_bytes xs ys not_so = false_from_ne_true (bytes_eq xs ys) (λ e. not_so ((bytes_eq-Decides xs ys).0 e))

-- the shortest spelling of a number is that number's
pub spelled_signed : (z : ℤ) → size_of z ≤ most_u64 → spelled (signed_decimal z) ≡ Some z
unfolding spelled
spelled_signed z few = ap (exactly (signed_decimal z)) (number-signed_decimal z (omega arith)) ∙ ap (λ (b : Bool). cond b (Some z) None) (same_bytes (signed_decimal z))

pub some_of : {X : Type 0} (x y : X) → Some x ≡ Some y → x ≡ y
some_of x y e = cc

kept_if : {X : Type 0} (b : Bool) (x y : X) → cond b (Some x) None ≡ Some y → (b ≡ true) × (x ≡ y)
kept_if true x y e = (refl, some_of x y e)
kept_if false x y e = absurd cc

exactly_is : (field : List ℕ) (o : Option ℤ) (z : ℤ) → exactly field o ≡ Some z → (field ≡ signed_decimal z) × (o ≡ Some z)
exactly_is field None z e = absurd cc
exactly_is field (Some y) z e =
    let k = kept_if (bytes_eq field (signed_decimal y)) y z e in
    ((bytes_eq-Decides field (signed_decimal y)).0 k.0 ∙ ap signed_decimal k.1, ap Some k.1)

pub spelled_is : (field : List ℕ) (z : ℤ) → spelled field ≡ Some z → field ≡ signed_decimal z
unfolding spelled
spelled_is field z e = (exactly_is field (numbers.number_of field) z e).0

-- numbers within bounds
within_is : (least most n : ℕ) (o : Option ℤ) → within least most o ≡ Some n → (o ≡ Some (pos n)) × (least ≤ n) × (n ≤ most)
within_is least most n None e = absurd cc
within_is least most n (Some (negsuc m)) e = absurd cc
within_is least most n (Some (pos m)) e =
    let k = kept_if (nat_le least m && nat_le m most) m n e in
    let b = and_parts (nat_le least m) (nat_le m most) k.0 in
    let low : least ≤ m = leb-true least m b.0 in
    let high : m ≤ most = leb-true m most b.1 in
    (ap (λ (i : ℕ). let z : ℤ = pos i in Some z) k.1, subst (λ (i : ℕ). least ≤ i) k.1 low, subst (λ (i : ℕ). i ≤ most) k.1 high)

pub natural_is : (least most : ℕ) (field : List ℕ) (n : ℕ) → natural least most field ≡ Some n → (field ≡ decimal n) × (least ≤ n) × (n ≤ most)
natural_is least most field n e = let w = within_is least most n (spelled field) e in (spelled_is field (pos n) w.0, w.1, w.2)

pub natural_some : (least most n : ℕ) → least ≤ n → n ≤ most → n ≤ most_u64 → natural least most (decimal n) ≡ Some n
natural_some least most n low high few = ap (within least most) (spelled_signed (pos n) few) ∙ rw (le-leb least n low, le-leb n most high) refl

-- what no number spells is none
none_or : {X : Type 0} (o : Option X) → ((x : X) → o ≡ Some x → ⊥) → o ≡ None
none_or None not_so = refl
none_or (Some x) not_so = absurd (not_so x refl)

pub natural_none : (least most : ℕ) (field : List ℕ) → most ≤ most_u64 → ((n : ℕ) → n < 2 ^ 64 → field ≢ decimal n) → natural least most field ≡ None
natural_none least most field few not_so = none_or (natural least most field) (λ n e. let w = natural_is least most field n e in not_so n (omega (arith, w.2)) w.0)

one_number : (y z : ℤ) → Some y ≡ Some z → y ≡ z
one_number y z e = cc

pub natural_of : (least most n : ℕ) (field : List ℕ) → n ≤ most_u64 → field ≡ decimal n → within least most (Some (pos n)) ≡ natural least most field
natural_of least most n field few is = ap (within least most) (sym (spelled_signed (pos n) few)) ∙ ap (λ (f : List ℕ). natural least most f) (sym is)

-- literals
of_number : (z : ℤ) → 1 ≤ nat_abs z → number_of (literal_of z) ≡ z
unfolding number_of
of_number (pos v) some =
    let half : 2 * v / 2 ≡ v = omega arith in
    rw (eq-eqb (2 * v % 2) 0 (omega arith)) (ap pos half)
of_number (negsuc n) some =
    let half : (2 * suc n + 1) / 2 ≡ suc n = omega arith in
    rw (ne_eqb ((2 * suc n + 1) % 2) 0 (λ e. omega arith)) (ap (λ (k : ℕ). neg_ℤ (pos k)) half)

is_literal : (z : ℤ) → 1 ≤ nat_abs z → nat_abs z ≤ max_var → IsLiteral (literal_of z)
is_literal (pos v) low high = (omega arith, omega arith)
is_literal (negsuc n) low high = (omega arith, omega arith)

in_is : (o : Option ℤ) (l : ℕ) → literal_in o ≡ Some l → (o ≡ Some (number_of l)) × IsLiteral l
in_is None l e = absurd cc
in_is (Some z) l e =
    let k = kept_if (nat_le 1 (nat_abs z) && nat_le (nat_abs z) max_var) (literal_of z) l e in
    let b = and_parts (nat_le 1 (nat_abs z)) (nat_le (nat_abs z) max_var) k.0 in
    let low : 1 ≤ nat_abs z = leb-true 1 (nat_abs z) b.0 in
    let high : nat_abs z ≤ max_var = leb-true (nat_abs z) max_var b.1 in
    (ap (λ (y : ℤ). Some y) (sym (of_number z low) ∙ ap number_of k.1), subst IsLiteral k.1 (is_literal z low high))

pub literal_is : (field : List ℕ) (l : ℕ) → literal_in (spelled field) ≡ Some l → (field ≡ signed_decimal (number_of l)) × IsLiteral l
literal_is field l e = let i = in_is (spelled field) l e in (spelled_is field (number_of l) i.0, i.1)

pub record HasNumber (l : ℕ) (z : ℤ) : Type 0 where
  pub few : size_of z ≤ max_var
  pub some : 1 ≤ size_of z
  pub reads : literal_in (Some z) ≡ Some l

pub has_number : (l : ℕ) → IsLiteral l → HasNumber l (number_of l)
unfolding number_of
has_number l h =
    let v : l / 2 ≡ suc (l / 2 - 1) = omega (arith, h.0) in
    let high : l / 2 ≤ max_var = omega (arith, h.1) in
    elim (eqb_tells (l % 2) 0) [
      | inl t ↦ rw t.0 (record { few = high; some = omega (arith, h.0); reads = rw (le-leb 1 (l / 2) (omega (arith, h.0)), le-leb (l / 2) max_var high) (ap (λ (n : ℕ). Some n) (let e : 2 * (l / 2) ≡ l = omega (arith, t.1) in e)) })
      | inr f ↦ rw (f.0, v) (negative l (l / 2 - 1) (omega (arith, f.1, v)) (omega (arith, v, high)))
    ] where
      negative : (l k : ℕ) → 2 * suc k + 1 ≡ l → suc k ≤ max_var → HasNumber l (negsuc k)
      negative l k is high = record { few = high; some = omega arith; reads = rw (le-leb 1 (suc k) (omega arith), le-leb (suc k) max_var high) (ap (λ (n : ℕ). Some n) is) }

pub number_few : (l : ℕ) → IsLiteral l → size_of (number_of l) ≤ most_u64
number_few l h = omega (arith, (has_number l h).few)

pub literal_some : (l : ℕ) → IsLiteral l → literal_in (spelled (signed_decimal (number_of l))) ≡ Some l
literal_some l h = ap literal_in (spelled_signed (number_of l) (number_few l h)) ∙ (has_number l h).reads

-- a literal isn't 0
pub not_zero : (l : ℕ) → IsLiteral l → signed_decimal (number_of l) ≡ codes "0" → ⊥
unfolding numbers.number_of numbers.magnitude read_on
not_zero l h e =
    let read : Some (number_of l) ≡ Some (pos 0) = sym (number-signed_decimal (number_of l) (omega (arith, (has_number l h).few))) ∙ ap numbers.number_of e in
    omega (arith, (has_number l h).some, ap size_of (one_number (number_of l) (pos 0) read))

-- what the literal of a word and its spelling come to
pub literal_none : (field : List ℕ) → literal_at field ≡ None → literal_in (spelled field) ≡ None
unfolding spelled
literal_none field none = none_or (literal_in (spelled field)) (λ l e. bad l (in_is (spelled field) l e) e) where
  bad : (l : ℕ) → (spelled field ≡ Some (number_of l)) × IsLiteral l → literal_in (spelled field) ≡ Some l → ⊥
  bad l i e =
      let read = (exactly_is field (numbers.number_of field) (number_of l) i.0).1 in
      let not_so : None ≡ Some l = sym none ∙ ap literal_in read ∙ (has_number l i.1).reads in
      cc

pub literal_other : (field : List ℕ) (l : ℕ) → literal_at field ≡ Some l → (field ≡ signed_decimal (number_of l) → ⊥) → literal_in (spelled field) ≡ None
unfolding spelled
literal_other field l was other = none_or (literal_in (spelled field)) (λ m e. bad m (in_is (spelled field) m e)) where
  bad : (m : ℕ) → (spelled field ≡ Some (number_of m)) × IsLiteral m → ⊥
  bad m i =
      let read = (exactly_is field (numbers.number_of field) (number_of m) i.0) in
      let same : l ≡ m = some_of l m (sym was ∙ ap literal_in read.1 ∙ (has_number m i.1).reads) in
      other (read.0 ∙ ap (λ (k : ℕ). signed_decimal (number_of k)) (sym same))

pub literal_same : (field : List ℕ) (l : ℕ) → literal_at field ≡ Some l → field ≡ signed_decimal (number_of l) → literal_in (spelled field) ≡ Some l
unfolding spelled
literal_same field l was same =
    let i = in_is (numbers.number_of field) l was in
    ap (λ (f : List ℕ). literal_in (spelled f)) same ∙ literal_some l i.1

-- digits and a minus
own : IsNumeralModel (λ ds. all_ascii_digits ds ≡ true) (read_on 0)
unfolding read_on
own = numerals_by_fold _ (search rules) read_on (search rules)

digits_each : (P : ℕ → Type 0) → ((d : ℕ) → is_ascii_digit d ≡ true → P d) → (ds : List ℕ) → all_ascii_digits ds ≡ true → AllByRecursion P ds
digits_each P each [] h = tt
digits_each P each (d ∷ ds) h = let p = and_parts (is_ascii_digit d) (all_ascii_digits ds) h in (each d p.0, digits_each P each ds p.1)

-- what holds of each digit and of a minus holds of each byte of a number
pub signed_each : (P : ℕ → Type 0) → ((d : ℕ) → is_ascii_digit d ≡ true → P d) → P 45 → (z : ℤ) → size_of z ≤ most_u64 → All P (signed_decimal z)
signed_each P each minus (pos n) few = All-from_recursion P (decimal n) (digits_each P each (decimal n) (digits_decimal own n (omega arith)))
signed_each P each minus (negsuc n) few = All-from_recursion P (45 ∷ decimal (suc n)) (minus, digits_each P each (decimal (suc n)) (digits_decimal own (suc n) (omega arith)))

digit_apart : (d : ℕ) → is_ascii_digit d ≡ true → d ≢ 32
digit_apart d h = λ e. let not_so : false ≡ true = ap is_ascii_digit (sym e) ∙ h in cc

pub signed_apart : (z : ℤ) → size_of z ≤ most_u64 → All (λ b. b ≢ 32) (signed_decimal z)
signed_apart z few = signed_each (λ b. b ≢ 32) digit_apart (λ e. omega arith) z few

digit_not_white : (d : ℕ) → is_ascii_digit d ≡ true → is_white d ≡ false
digit_not_white d h = grind (arith, nat_tests)

pub signed_not_white : (z : ℤ) → size_of z ≤ most_u64 → All (λ b. is_white b ≡ false) (signed_decimal z)
signed_not_white z few = signed_each (λ b. is_white b ≡ false) digit_not_white refl z few

digit_no_lf : (d : ℕ) → is_ascii_digit d ≡ true → not (d == 10) ≡ true
digit_no_lf d h = grind (arith, nat_tests)

pub signed_no_lf : (z : ℤ) → size_of z ≤ most_u64 → no_lf (signed_decimal z) ≡ true
signed_no_lf z few = list_all-from_AllPass (λ b. not (b == 10)) (signed_decimal z) (signed_each (λ b. not (b == 10) ≡ true) digit_no_lf refl z few)

-- a number has some bytes, and not many
pub signed_some : (z : ℤ) → size_of z ≤ most_u64 → 0 < length (signed_decimal z)
signed_some (pos n) few = decimal_nonempty n (omega arith)
signed_some (negsuc n) few = omega arith

pub signed_short : (z : ℤ) → size_of z ≤ most_u64 → length (signed_decimal z) ≤ 21
signed_short (pos n) few = omega (arith, length-decimal-le 20 n (lit< tt) (omega arith) (omega arith))
signed_short (negsuc n) few = omega (arith, length-decimal-le 20 (suc n) (lit< tt) (omega arith) (omega arith))
