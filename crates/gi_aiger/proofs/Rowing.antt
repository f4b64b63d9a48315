-- A line of numbers up to a cap says what it says of the numbers themselves.
use Rattle.std.proofs.Common.{◌≡◌, ℕ, ◌+◌, ◌*◌, ◌%◌, ◌<◌, ◌≤◌, nat_le, List, length, map, get_or, Bool, true, false, ◌&&◌, cond, ◌⊎◌, inl, inr, Option, Result, Ok, Err, refl, ap, sym, ◌∙◌, arith}
use Rattle.std.specs.Prelude.{◌==◌}
use Rattle.std.proofs.lemmas.Bool.{ne_eqb}
use Rattle.std.proofs.lemmas.Bool.Decides.{nat_tests, leb_tells}
use Rattle.gi_aiger.specs.declared.fault.AigCode.{AigCode}
use Rattle.gi_aiger.specs.declared.fault.AigCode.TheVariants.{Count, Literal}
use Rattle.gi_aiger.specs.declared.aig.Reset.{Reset}
use Rattle.gi_aiger.specs.declared.row.Section.{Section}
use Rattle.gi_aiger.specs.declared.row.Section.TheVariants as sections
use Rattle.gi_aiger.specs.declared.row.Row.{Row}
use Rattle.gi_aiger.specs.declared.row.Row.TheVariants as rows
use Rattle.gi_aiger.specs.Fields.{capped, Keeps}
use Rattle.gi_aiger.specs.Rows.{has_row, literal_of, defining_of, reset_of, latch_of, gate_of, row_with, size_of, row_of, row_numbers, row_read}
use Rattle.gi_aiger.proofs.Heading.{at_place, length-capped}
use Rattle.gi_aiger.specs.Limits.{most_items}

-- a number is as it was, or both pass every limit
both_great : (n : ℕ) → (capped n ≡ n) ⊎ ((capped n ≡ 4294967296) × (4294967296 < n))
both_great n = elim (leb_tells n 4294967296) [ inl t ↦ inl (grind (arith, t.1)) | inr f ↦ inr (grind (arith, f.1), omega (arith, f.1)) ]

great : (n k : ℕ) → k < n → nat_le n k ≡ false
great n k lt = grind (arith, nat_tests)

literal_same : (max n : ℕ) → max ≤ most_items → literal_of max (capped n) ≡ literal_of max n
literal_same max n small = elim (both_great n) [ inl e ↦ ap (literal_of max) e | inr g ↦ ap (literal_of max) g.0 ∙ rw (great 4294967296 (2 * max + 1) (omega arith), great n (2 * max + 1) (omega (arith, g.1))) refl ]

size_same : (room n : ℕ) → room ≤ most_items → size_of room (capped n) ≡ size_of room n
size_same room n small = elim (both_great n) [ inl e ↦ ap (size_of room) e | inr g ↦ ap (size_of room) g.0 ∙ rw (great 4294967296 room (omega arith), great n room (omega (arith, g.1))) refl ]

no_literal : (max n : ℕ) → max ≤ most_items → 4294967296 ≤ n → defining_of max n ≡ Err Literal
no_literal max n small high = by_test ((n % 2 == 0) && nat_le 2 n) where
  by_test : (b : Bool) → cond {A = Result ℕ AigCode} b (literal_of max n) (Err Literal) ≡ Err Literal
  by_test true = rw (great n (2 * max + 1) (omega arith)) refl
  by_test false = refl

defining_same : (max n : ℕ) → max ≤ most_items → defining_of max (capped n) ≡ defining_of max n
defining_same max n small = elim (both_great n) [ inl e ↦ ap (defining_of max) e | inr g ↦ ap (defining_of max) g.0 ∙ no_literal max 4294967296 small (omega arith) ∙ sym (no_literal max n small (omega (arith, g.1))) ]

reset_same : (lit n : ℕ) → lit < 4294967296 → reset_of lit (capped n) ≡ reset_of lit n
reset_same lit n small = elim (both_great n) [ inl e ↦ ap (reset_of lit) e | inr g ↦ ap (reset_of lit) g.0 ∙ none 4294967296 (omega arith) ∙ sym (none n (omega (arith, g.1))) ] where
  none : (m : ℕ) → 4294967296 ≤ m → reset_of lit m ≡ Err Literal
  none m high = rw (ne_eqb m 0 (λ e. omega arith), ne_eqb m 1 (λ e. omega arith), ne_eqb m lit (λ e. omega arith)) refl

-- a literal that defines is small
defining_small : (max n l : ℕ) → max ≤ most_items → defining_of max n ≡ Ok l → n < 4294967296
defining_small max n l small e = elim (leb_tells 4294967296 n) [ inl t ↦ absurd (no_both (defining_of max n) (no_literal max n small t.1) e) | inr f ↦ omega (arith, f.1) ] where
  no_both : (r : Result ℕ AigCode) → r ≡ Err Literal → r ≡ Ok l → ⊥
  no_both r a b = cc

latches_same : (own a b : Result ℕ AigCode) (r s : Result Reset AigCode) → a ≡ b → r ≡ s → latch_of own a r ≡ latch_of own b s
latches_same own a b r s p q = cc

gates_same : (a b c d e f : Result ℕ AigCode) → a ≡ b → c ≡ d → e ≡ f → gate_of a c e ≡ gate_of b d f
gates_same a b c d e f p q r = cc

latch_same : (max lit next reset : ℕ) → max ≤ most_items → latch_of (defining_of max (capped lit)) (literal_of max (capped next)) (reset_of (capped lit) (capped reset)) ≡ latch_of (defining_of max lit) (literal_of max next) (reset_of lit reset)
latch_same max lit next reset small =
    ap (λ (d : Result ℕ AigCode). latch_of d (literal_of max (capped next)) (reset_of (capped lit) (capped reset))) (defining_same max lit small) ∙ by_own (defining_of max lit) refl where
      by_own : (r : Result ℕ AigCode) → defining_of max lit ≡ r → latch_of r (literal_of max (capped next)) (reset_of (capped lit) (capped reset)) ≡ latch_of r (literal_of max next) (reset_of lit reset)
      by_own (Err c) e = refl
      by_own (Ok l) e =
          let low = defining_small max lit l small e in
          let same : capped lit ≡ lit = grind (arith, low) in
          latches_same (Ok l) (literal_of max (capped next)) (literal_of max next) (reset_of (capped lit) (capped reset)) (reset_of lit reset) (literal_same max next small) (ap (λ (n : ℕ). reset_of n (capped reset)) same ∙ reset_same lit reset low)

one_literal : (row : ℕ → Row) (max : ℕ) (ns : List ℕ) → max ≤ most_items → row_with row (literal_of max (get_or (map capped ns) 0 0)) ≡ row_with row (literal_of max (get_or ns 0 0))
one_literal row max ns small = ap (λ (n : ℕ). row_with row (literal_of max n)) (at_place ns 0) ∙ ap (row_with row) (literal_same max (get_or ns 0 0) small)

row_same : (max room : ℕ) (section : Section) (ns : List ℕ) → max ≤ most_items → room ≤ most_items → row_of max room section (map capped ns) ≡ row_of max room section ns
row_same max room sections.Input ns small fits = ap (λ (n : ℕ). row_with rows.Input (defining_of max n)) (at_place ns 0) ∙ ap (row_with rows.Input) (defining_same max (get_or ns 0 0) small)
row_same max room sections.Latch ns small fits = rw (at_place ns 0, at_place ns 1, at_place ns 2) (latch_same max (get_or ns 0 0) (get_or ns 1 0) (get_or ns 2 0) small)
row_same max room sections.Out ns small fits = one_literal rows.Out max ns small
row_same max room sections.Bad ns small fits = one_literal rows.Bad max ns small
row_same max room sections.Con ns small fits = one_literal rows.Con max ns small
row_same max room sections.Size ns small fits = ap (λ (n : ℕ). row_with rows.Size (size_of room n)) (at_place ns 0) ∙ ap (row_with rows.Size) (size_same room (get_or ns 0 0) fits)
row_same max room sections.Justice ns small fits = one_literal rows.Justice max ns small
row_same max room sections.Fair ns small fits = one_literal rows.Fair max ns small
row_same max room sections.Gate ns small fits =
    gates_same (defining_of max (get_or (map capped ns) 0 0)) (defining_of max (get_or ns 0 0)) (literal_of max (get_or (map capped ns) 1 0)) (literal_of max (get_or ns 1 0)) (literal_of max (get_or (map capped ns) 2 0)) (literal_of max (get_or ns 2 0))
    (ap (defining_of max) (at_place ns 0) ∙ defining_same max (get_or ns 0 0) small)
    (ap (literal_of max) (at_place ns 1) ∙ literal_same max (get_or ns 1 0) small)
    (ap (literal_of max) (at_place ns 2) ∙ literal_same max (get_or ns 2 0) small)

abbrev row_if : Bool → Result Row AigCode → Result Row AigCode
row_if b r = cond b r (Err Count)

pub row_is : (max room : ℕ) (section : Section) (kept : List ℕ) (read : Option (List ℕ)) → max ≤ most_items → room ≤ most_items → Keeps kept read → row_numbers max room section kept ≡ row_read max room section read
row_is max room section kept read small fits k =
    ap (row_numbers max room section) k.2
    ∙ ap (λ (n : ℕ). row_if (has_row section n) (row_of max room section (map capped k.0))) (length-capped k.0)
    ∙ ap (row_if (has_row section (length k.0))) (row_same max room section k.0 small fits)
    ∙ sym (ap (row_read max room section) k.1)
