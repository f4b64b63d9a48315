-- The header of a value within the limits is read as it is written.
use Rattle.std.proofs.Common.{◌≡◌, ℕ, ◌+◌, ◌≤◌, Bool, true, false, ◌&&◌, not, cond, List, [], ◌∷◌, ◌++◌, length, get_or, decimal, inl, inr, Some, Ok, Err, refl, ap, sym, ◌∙◌, append_assoc, arith}
use Rattle.std.specs.Prelude.{◌==◌}
use Rattle.std.proofs.lemmas.Bool.{le-leb}
use Rattle.std.proofs.lemmas.Bool.Decides.{eqb_tells}
use Rattle.std.proofs.lemmas.List.{append-nil}
use Rattle.gi_aiger.specs.declared.aig.Aig.{Aig}
use Rattle.gi_aiger.specs.declared.fault.AigCode.TheVariants.{Header}
use Rattle.gi_aiger.specs.declared.head.Form.TheVariants.{Binary}
use Rattle.gi_aiger.specs.declared.head.Head.{Head}
use Rattle.gi_aiger.specs.Fields.{fields_of, numbers_at}
use Rattle.gi_aiger.specs.Header.{head_of, is_tried, is_wrong, is_within, judge_head, has_head, head_parts, header_of}
use Rattle.gi_aiger.specs.Lines.{is_plain}
use Rattle.gi_aiger.specs.Texts.{count_text, further_text}
use Rattle.gi_aiger_binary.specs.Numbered.{head_of_aig}
use Rattle.gi_aiger_binary.proofs.Counts.{AreSmall, counts, fields_counts, numbers_counts, plain_append, plain_counts}
use Rattle.gi_aiger.specs.Limits.{most_items}

-- the further counts that are written
abbrev further : ℕ → ℕ → ℕ → ℕ → List ℕ
further b c j f = cond (f == 0) (cond (j == 0) (cond (c == 0) (cond (b == 0) [] (b ∷ [])) (b ∷ c ∷ [])) (b ∷ c ∷ j ∷ [])) (b ∷ c ∷ j ∷ f ∷ [])

further_counts : (b c j f : ℕ) → further_text b c j f ≡ counts (further b c j f)
further_counts b c j f = by_tests (f == 0) (j == 0) (c == 0) (b == 0)
  where
    one : (xs : List ℕ) → xs ≡ xs ++ []
    one xs = sym (append-nil xs)

    two : (xs ys : List ℕ) → xs ++ ys ≡ xs ++ (ys ++ [])
    two xs ys = ap (λ (zs : List ℕ). xs ++ zs) (one ys)

    three : (xs ys zs : List ℕ) → (xs ++ ys) ++ zs ≡ xs ++ (ys ++ (zs ++ []))
    three xs ys zs = append_assoc xs ys zs ∙ ap (λ (us : List ℕ). xs ++ us) (two ys zs)

    four : (xs ys zs us : List ℕ) → ((xs ++ ys) ++ zs) ++ us ≡ xs ++ (ys ++ (zs ++ (us ++ [])))
    four xs ys zs us = append_assoc (xs ++ ys) zs us ∙ append_assoc xs ys (zs ++ us) ∙ ap (λ (vs : List ℕ). xs ++ (ys ++ vs)) (two zs us)

    by_tests : (tf tj tc tb : Bool) → cond tf (cond tj (cond tc (cond tb [] (count_text b)) (count_text b ++ count_text c)) ((count_text b ++ count_text c) ++ count_text j)) (((count_text b ++ count_text c) ++ count_text j) ++ count_text f) ≡ counts (cond tf (cond tj (cond tc (cond tb [] (b ∷ [])) (b ∷ c ∷ [])) (b ∷ c ∷ j ∷ [])) (b ∷ c ∷ j ∷ f ∷ []))
    by_tests true true true true = refl
    by_tests true true true false = one (count_text b)
    by_tests true true false tb = two (count_text b) (count_text c)
    by_tests true false tc tb = three (count_text b) (count_text c) (count_text j)
    by_tests false tj tc tb = four (count_text b) (count_text c) (count_text j) (count_text f)

-- they are read as the four of them
record Further (b c j f : ℕ) (xs : List ℕ) : Type 0 where
  few : length xs ≤ 4
  small : AreSmall xs
  first : get_or xs 0 0 ≡ b
  second : get_or xs 1 0 ≡ c
  third : get_or xs 2 0 ≡ j
  fourth : get_or xs 3 0 ≡ f

further_read : (b c j f : ℕ) → b ≤ most_items → c ≤ most_items → j ≤ most_items → f ≤ most_items → Further b c j f (further b c j f)
further_read b c j f lb lc lj lf = elim (eqb_tells f 0) [
  | inr nf ↦ rw nf.0 (record { few = omega arith; small = (omega arith, (omega arith, (omega arith, (omega arith, tt)))); first = refl; second = refl; third = refl; fourth = refl })
  | inl ef ↦ rw ef.0 (elim (eqb_tells j 0) [
    | inr nj ↦ rw nj.0 (record { few = omega arith; small = (omega arith, (omega arith, (omega arith, tt))); first = refl; second = refl; third = refl; fourth = sym ef.1 })
    | inl ej ↦ rw ej.0 (elim (eqb_tells c 0) [
      | inr nc ↦ rw nc.0 (record { few = omega arith; small = (omega arith, (omega arith, tt)); first = refl; second = refl; third = sym ej.1; fourth = sym ef.1 })
      | inl ec ↦ rw ec.0 (elim (eqb_tells b 0) [
        | inr nb ↦ rw nb.0 (record { few = omega arith; small = (omega arith, tt); first = refl; second = sym ec.1; third = sym ej.1; fourth = sym ef.1 })
        | inl eb ↦ rw eb.0 (record { few = omega arith; small = tt; first = sym eb.1; second = sym ec.1; third = sym ej.1; fourth = sym ef.1 })
      ])
    ])
  ])
]

and_false : (b : Bool) → (b && false) ≡ false
and_false true = refl
and_false false = refl

same_eqb : (n : ℕ) → (n == n) ≡ true
same_eqb n = elim (eqb_tells n n) [ inl t ↦ t.0 | inr f ↦ absurd (f.1 refl) ]

judged : (h : Head) → is_wrong h ≡ false → is_within h ≡ true → judge_head h ≡ Ok h
judged h right within = rw right (rw within refl)

module _ (v : Aig) (variables : length v.inputs + length v.latches + length v.gates ≤ most_items) (outs : length v.outs ≤ most_items) (bads : length v.bads ≤ most_items) (constraints : length v.cons ≤ most_items) (justice : length v.justice ≤ most_items) (fair : length v.fair ≤ most_items) where
  abbrev most : ℕ
  most = length v.inputs + length v.latches + length v.gates

  right : is_wrong (head_of_aig v) ≡ false
  right = ap (λ (b : Bool). is_tried (head_of_aig v) && not b) (same_eqb most) ∙ and_false (is_tried (head_of_aig v))

  pub within : is_within (head_of_aig v) ≡ true
  within = rw (le-leb most most_items variables) (rw (le-leb (length v.inputs) most_items (omega arith)) (rw (le-leb (length v.latches) most_items (omega arith)) (rw (le-leb (length v.outs) most_items outs) (rw (le-leb (length v.gates) most_items (omega arith)) (rw (le-leb (length v.bads) most_items bads) (rw (le-leb (length v.cons) most_items constraints) (rw (le-leb (length v.justice) most_items justice) (rw (le-leb (length v.fair) most_items fair) refl))))))))

  abbrev more : List ℕ
  more = further (length v.bads) (length v.cons) (length v.justice) (length v.fair)

  more_read : Further (length v.bads) (length v.cons) (length v.justice) (length v.fair) more
  more_read = further_read (length v.bads) (length v.cons) (length v.justice) (length v.fair) bads constraints justice fair

  abbrev rest : List ℕ
  rest = length v.inputs ∷ length v.latches ∷ length v.outs ∷ length v.gates ∷ more

  small : AreSmall (most ∷ rest)
  small = (omega arith, (omega arith, (omega arith, (omega arith, (omega arith, more_read.small)))))

  -- the line without its LF
  abbrev pub head_words : List ℕ
  head_words = 97 ∷ 105 ∷ 103 ∷ 32 ∷ (decimal most ++ counts rest)

  head_is : head_of Binary (most ∷ rest) ≡ head_of_aig v
  head_is = λ i. record {
    form = Binary;
    max = most;
    inputs = length v.inputs;
    latches = length v.latches;
    outs = length v.outs;
    gates = length v.gates;
    bads = more_read.first i;
    cons = more_read.second i;
    justice = more_read.third i;
    fair = more_read.fourth i;
  }

  fits : has_head (most ∷ rest) ≡ true
  fits =
      let few = more_read.few in
      rw (le-leb 5 (length (most ∷ rest)) (omega arith)) (le-leb (length (most ∷ rest)) 9 (omega arith))

  pub header_read : header_of head_words ≡ Ok (head_of_aig v)
  unfolding header_of fields_of
  header_read =
      ap (λ (fs : List (List ℕ)). head_parts (Some Binary) (numbers_at fs)) (fields_counts most rest small)
      ∙ ap (head_parts (Some Binary)) (numbers_counts (most ∷ rest) small)
      ∙ ap (λ (b : Bool). cond b (judge_head (head_of Binary (most ∷ rest))) (Err Header)) fits
      ∙ ap judge_head head_is
      ∙ judged (head_of_aig v) right within

  pub plain_head_words : is_plain head_words ≡ true
  plain_head_words = plain_append (97 ∷ 105 ∷ 103 ∷ []) (counts (most ∷ rest)) refl (plain_counts (most ∷ rest) small)

  -- the line as it is written
  pub head_written : (((97 ∷ 105 ∷ 103 ∷ []) ++ ((((count_text most ++ count_text (length v.inputs)) ++ count_text (length v.latches)) ++ count_text (length v.outs)) ++ count_text (length v.gates))) ++ further_text (length v.bads) (length v.cons) (length v.justice) (length v.fair)) ≡ head_words
  head_written =
      ap (λ (xs : List ℕ). 97 ∷ 105 ∷ 103 ∷ ((((count_text most ++ count_text (length v.inputs)) ++ count_text (length v.latches)) ++ count_text (length v.outs)) ++ count_text (length v.gates)) ++ xs) (further_counts (length v.bads) (length v.cons) (length v.justice) (length v.fair))
      ∙ ap (λ (xs : List ℕ). 97 ∷ 105 ∷ 103 ∷ xs) (five (count_text most) (count_text (length v.inputs)) (count_text (length v.latches)) (count_text (length v.outs)) (count_text (length v.gates)) (counts more))
    where
      five : (a b c d e f : List ℕ) → ((((a ++ b) ++ c) ++ d) ++ e) ++ f ≡ a ++ (b ++ (c ++ (d ++ (e ++ f))))
      five a b c d e f = append_assoc (((a ++ b) ++ c) ++ d) e f ∙ append_assoc ((a ++ b) ++ c) d (e ++ f) ∙ append_assoc (a ++ b) c (d ++ (e ++ f)) ∙ append_assoc a b (c ++ (d ++ (e ++ f)))
