-- The lines of a section, each as it is written, are read as its rows.
use Rattle.std.proofs.Common.{◌≡◌, ℕ, suc, ◌+◌, ◌*◌, ◌%◌, ◌<◌, ◌≤◌, ◌^◌, true, cond, List, [], ◌∷◌, ◌++◌, length, decimal, Option, Some, None, Result, Ok, Err, refl, ap, sym, ◌∙◌, append_assoc, length-append, arith}
use Rattle.std.specs.Prelude.{◌==◌}
use Rattle.std.specs.List.{flat_map}
use Rattle.std.proofs.lemmas.Bool.{ne_eqb, le-leb}
use Rattle.std.proofs.lemmas.List.{append-nil}
use Rattle.gi_aiger.specs.declared.aig.Aig.{Aig}
use Rattle.gi_aiger.specs.declared.aig.Latch.{Latch}
use Rattle.gi_aiger.specs.declared.aig.Reset.{Reset}
use Rattle.gi_aiger.specs.declared.aig.Reset.TheVariants.{Zero, One, Free}
use Rattle.gi_aiger.specs.declared.fault.AigCode.{AigCode}
use Rattle.gi_aiger.specs.declared.fault.AigCode.TheVariants.{Literal}
use Rattle.gi_aiger.specs.declared.head.Form.TheVariants.{Binary}
use Rattle.gi_aiger.specs.declared.head.Head.{Head}
use Rattle.gi_aiger.specs.declared.row.Section.{Section}
use Rattle.gi_aiger.specs.declared.row.Section.TheVariants as sections
use Rattle.gi_aiger.specs.declared.row.Row.{Row}
use Rattle.gi_aiger.specs.declared.row.Row.TheVariants as rows
use Rattle.gi_aiger.specs.declared.taken.Taken.{Taken}
use Rattle.gi_aiger.specs.Fields.{numbers_of, with_own}
use Rattle.gi_aiger.specs.Lines.{lines_of, is_plain}
use Rattle.gi_aiger.specs.Rows.{literal_of, defining_of, reset_of, latch_of, row_with, size_of, row_read}
use Rattle.gi_aiger.specs.Taking.{with_row, room, then_row, add_row, add_line, left_out, own_latch}
use Rattle.gi_aiger.specs.Sections.{left_in}
use Rattle.gi_aiger.specs.Files.{Told, then_line, read_section, read_sections}
use Rattle.gi_aiger.specs.Texts.{count_text, reset_text}
use Rattle.gi_aiger.proofs.Lining.{plain_head, bare_whole}
use Rattle.gi_aiger_binary.specs.Numbered.{AreWithin, head_of_aig}
use Rattle.gi_aiger_binary.proofs.Counts.{AreSmall, counts, line_numbers, plain_decimal}
use Rattle.gi_aiger.specs.Limits.{most_items}

-- a line, and what stands behind it
pub line_first : (x rest : List ℕ) → is_plain x ≡ true → lines_of (x ++ 10 ∷ rest) ≡ (x ++ 10 ∷ []) ∷ lines_of rest
unfolding lines_of
line_first [] rest plain = refl
line_first (b ∷ x) rest plain = let t = plain_head b x plain in rw t.0 (rw (line_first x rest t.1) refl)

-- each line is added, one behind the other
abbrev pub AllAdd : {X : Type 0} → Head → Section → (X → List ℕ) → (X → Row) → Taken → List X → Type 0
AllAdd h s text row t [] = Unit {0}
AllAdd h s text row t (x ∷ xs) = (is_plain (text x) ≡ true) × (add_line h t s (text x) ≡ Ok (with_row t (row x))) × AllAdd h s text row (with_row t (row x)) xs

-- what all of them say
abbrev pub takes : {X : Type 0} → (X → Row) → Taken → List X → Taken
takes row t [] = t
takes row t (x ∷ xs) = takes row (with_row t (row x)) xs

section_read : {X : Type 0} (h : Head) (s : Section) (text : X → List ℕ) (row : X → Row) (xs : List X) (k : ℕ) (t : Taken) (rest : List ℕ) (next : ℕ → Taken → List (List ℕ) → Told) → AllAdd h s text row t xs → read_section h s (length xs) k t (lines_of (flat_map (λ x. text x ++ 10 ∷ []) xs ++ rest)) next ≡ next (k + length xs) (takes row t xs) (lines_of rest)
unfolding read_section
section_read h s text row [] k t rest next all = ap (λ (n : ℕ). next n t (lines_of rest)) (let e : k ≡ k + 0 = omega arith in e)
section_read {X} h s text row (x ∷ xs) k t rest next all =
    ap (λ (ls : List (List ℕ)). read_section h s (suc (length xs)) k t ls next)
    (ap lines_of (append_assoc (text x ++ 10 ∷ []) (flat_map (λ x. text x ++ 10 ∷ []) xs) rest ∙ append_assoc (text x) (10 ∷ []) (flat_map (λ x. text x ++ 10 ∷ []) xs ++ rest))
    ∙ line_first (text x) (flat_map (λ x. text x ++ 10 ∷ []) xs ++ rest) all.0)
    ∙ ap (λ (l : List ℕ). then_line (add_line h t s l) t k (λ u. read_section h s (length xs) (k + 1) u (lines_of (flat_map (λ x. text x ++ 10 ∷ []) xs ++ rest)) next)) (bare_whole (text x) [] all.0)
    ∙ ap (λ (r : Result Taken AigCode). then_line r t k (λ u. read_section h s (length xs) (k + 1) u (lines_of (flat_map (λ x. text x ++ 10 ∷ []) xs ++ rest)) next)) all.1
    ∙ section_read h s text row xs (k + 1) (with_row t (row x)) rest next all.2
    ∙ ap (λ (n : ℕ). next n (takes row (with_row t (row x)) xs) (lines_of rest)) (let e : k + 1 + length xs ≡ k + suc (length xs) = omega arith in e)

-- a section is read, and then those behind it
pub section_done : {X : Type 0} (h : Head) (s : Section) (ss : List Section) (text : X → List ℕ) (row : X → Row) (xs : List X) (k : ℕ) (t u : Taken) (rest : List ℕ) → left_in h t s ≡ length xs → AllAdd h s text row t xs → takes row t xs ≡ u → read_sections h (s ∷ ss) k t (lines_of (flat_map (λ x. text x ++ 10 ∷ []) xs ++ rest)) ≡ read_sections h ss (k + length xs) u (lines_of rest)
unfolding read_sections
section_done h s ss text row xs k t u rest e all is =
    ap (λ (n : ℕ). read_section h s n k t (lines_of (flat_map (λ x. text x ++ 10 ∷ []) xs ++ rest)) (λ k u more. read_sections h ss k u more)) e
    ∙ section_read h s text row xs k t rest (λ k u more. read_sections h ss k u more) all
    ∙ ap (λ (v : Taken). read_sections h ss (k + length xs) v (lines_of rest)) is

-- the sections of a value within the limits
module _ (v : Aig) (limit : length v.inputs + length v.latches + length v.gates ≤ most_items) where
  abbrev pub most : ℕ
  most = length v.inputs + length v.latches + length v.gates

  literal_is : (l : ℕ) → l ≤ 2 * most + 1 → literal_of most l ≡ Ok l
  literal_is l le = rw (le-leb l (2 * most + 1) le) refl

  -- the literals of a section
  all_literals : (s : Section) (row : ℕ → Row) → ((t : Taken) (l : ℕ) → l ≤ 2 * most + 1 → add_line (head_of_aig v) t s (decimal l) ≡ Ok (with_row t (row l))) → (t : Taken) (ls : List ℕ) → AreWithin most ls → AllAdd (head_of_aig v) s decimal row t ls
  all_literals s row one t [] within = tt
  all_literals s row one t (l ∷ ls) within = (plain_decimal l (omega (arith, within.0)), one t l within.0, all_literals s row one (with_row t (row l)) ls within.1)

  numbers_one : (l : ℕ) → l < 2 ^ 64 → numbers_of (decimal l) ≡ Some (l ∷ [])
  numbers_one l small = ap numbers_of (sym (append-nil (decimal l))) ∙ line_numbers l [] (small, tt)

  -- a line with a literal, in a section of such lines
  one_literal : (s : Section) (row : ℕ → Row) → ((t : Taken) (l : ℕ) → then_row (row_read most (room t) s (with_own (left_out Binary s (own_latch (head_of_aig v) t)) (Some (l ∷ [])))) (add_row (head_of_aig v) t) ≡ then_row (row_with row (literal_of most l)) (add_row (head_of_aig v) t))
      → ((t : Taken) (l : ℕ) → add_row (head_of_aig v) t (row l) ≡ Ok (with_row t (row l))) → (t : Taken) (l : ℕ) → l ≤ 2 * most + 1 → add_line (head_of_aig v) t s (decimal l) ≡ Ok (with_row t (row l))
  one_literal s row reads adds t l le =
      ap (λ (o : Option (List ℕ)). then_row (row_read most (room t) s (with_own (left_out Binary s (own_latch (head_of_aig v) t)) o)) (add_row (head_of_aig v) t)) (numbers_one l (omega (arith, le)))
      ∙ reads t l
      ∙ ap (λ (r : Result ℕ AigCode). then_row (row_with row r) (add_row (head_of_aig v) t)) (literal_is l le)
      ∙ adds t l

  pub all_outs : (t : Taken) (ls : List ℕ) → AreWithin most ls → AllAdd (head_of_aig v) sections.Out decimal rows.Out t ls
  all_outs = all_literals sections.Out rows.Out (one_literal sections.Out rows.Out (λ t l. refl) (λ t l. refl))

  pub all_bads : (t : Taken) (ls : List ℕ) → AreWithin most ls → AllAdd (head_of_aig v) sections.Bad decimal rows.Bad t ls
  all_bads = all_literals sections.Bad rows.Bad (one_literal sections.Bad rows.Bad (λ t l. refl) (λ t l. refl))

  pub all_cons : (t : Taken) (ls : List ℕ) → AreWithin most ls → AllAdd (head_of_aig v) sections.Con decimal rows.Con t ls
  all_cons = all_literals sections.Con rows.Con (one_literal sections.Con rows.Con (λ t l. refl) (λ t l. refl))

  pub all_justice : (t : Taken) (ls : List ℕ) → AreWithin most ls → AllAdd (head_of_aig v) sections.Justice decimal rows.Justice t ls
  all_justice = all_literals sections.Justice rows.Justice (one_literal sections.Justice rows.Justice (λ t l. refl) (λ t l. refl))

  pub all_fair : (t : Taken) (ls : List ℕ) → AreWithin most ls → AllAdd (head_of_aig v) sections.Fair decimal rows.Fair t ls
  all_fair = all_literals sections.Fair rows.Fair (one_literal sections.Fair rows.Fair (λ t l. refl) (λ t l. refl))

  -- the sizes of the justice properties
  one_size : (t : Taken) (n : ℕ) → t.total + n ≤ most_items → add_line (head_of_aig v) t sections.Size (decimal n) ≡ Ok (with_row t (rows.Size n))
  one_size t n le =
      ap (λ (o : Option (List ℕ)). then_row (row_read most (room t) sections.Size (with_own None o)) (add_row (head_of_aig v) t)) (numbers_one n (omega (arith, le)))
      ∙ ap (λ (r : Result ℕ AigCode). then_row (row_with rows.Size r) (add_row (head_of_aig v) t)) (size_is (room t) n (omega (arith, le)))
    where
      size_is : (most n : ℕ) → n ≤ most → size_of most n ≡ Ok n
      size_is most n le = rw (le-leb n most le) refl

  pub all_sizes : (t : Taken) (lists : List (List ℕ)) → t.total + length (flat_map (λ p. p) lists) ≤ most_items → AllAdd (head_of_aig v) sections.Size (λ p. decimal (length p)) (λ p. rows.Size (length p)) t lists
  all_sizes t [] le = tt
  all_sizes t (p ∷ ps) le =
      let n = length-append p (flat_map (λ p. p) ps) in
      (plain_decimal (length p) (omega (arith, le, n)), one_size t (length p) (omega (arith, le, n)), all_sizes (with_row t (rows.Size (length p))) ps (omega (arith, le, n)))

  -- the reset in a latch's line
  abbrev pub reset_numbers : ℕ → Reset → List ℕ
  reset_numbers lit Zero = []
  reset_numbers lit One = 1 ∷ []
  reset_numbers lit Free = lit ∷ []

  pub reset_counts : (lit : ℕ) (r : Reset) → reset_text lit r ≡ counts (reset_numbers lit r)
  reset_counts lit Zero = refl
  reset_counts lit One = sym (append-nil (count_text 1))
  reset_counts lit Free = sym (append-nil (count_text lit))

  pub reset_small : (lit : ℕ) (r : Reset) → lit < 2 ^ 64 → AreSmall (reset_numbers lit r)
  reset_small lit Zero small = tt
  reset_small lit One small = (omega arith, tt)
  reset_small lit Free small = (small, tt)

  abbrev pub latch_words : Latch → List ℕ
  latch_words l = decimal l.next ++ reset_text l.lit l.reset

  -- a latch's parts are right
  pub parts_are : (m lit next : ℕ) (r : Reset) → 2 ≤ lit → lit % 2 ≡ 0 → lit ≤ 2 * most + 1 → next ≤ 2 * most + 1 → row_read most m sections.Latch (Some (lit ∷ next ∷ reset_numbers lit r)) ≡ Ok (rows.Latch (record { lit = lit; next = next; reset = r }))
  parts_are m lit next r two even within le = ap (λ (x : Result Row AigCode). x) (shape r) ∙ ap (λ (d : Result ℕ AigCode). latch_of d (literal_of most next) (Ok r)) defines ∙ ap (λ (d : Result ℕ AigCode). latch_of (Ok lit) d (Ok r)) (literal_is next le)
    where
      defines : defining_of most lit ≡ Ok lit
      defines = rw even (rw (le-leb 2 lit two) (literal_is lit within))

      free : reset_of lit lit ≡ Ok Free
      free = rw (ne_eqb lit 0 (λ e. omega arith)) (rw (ne_eqb lit 1 (λ e. omega arith)) (same lit))
        where
          same : (n : ℕ) → cond (n == n) (Ok Free) (Err Literal) ≡ Ok Free
          same n = grind (arith)

      shape : (r : Reset) → row_read most m sections.Latch (Some (lit ∷ next ∷ reset_numbers lit r)) ≡ latch_of (defining_of most lit) (literal_of most next) (Ok r)
      shape Zero = refl
      shape One = refl
      shape Free = ap (latch_of (defining_of most lit) (literal_of most next)) free
