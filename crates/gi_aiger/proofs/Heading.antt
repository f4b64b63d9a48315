-- A header of numbers up to a cap says what it says of the numbers themselves.
use Rattle.std.proofs.Common.{◌≡◌, ℕ, zero, suc, ◌+◌, ◌<◌, ◌≤◌, nat_le, List, [], ◌∷◌, length, map, get_or, Bool, true, false, ◌&&◌, not, cond, Option, Some, None, Result, Ok, Err, refl, ap, sym, ◌∙◌, arith}
use Rattle.std.proofs.lemmas.Bool.Decides.{nat_tests}
use Rattle.gi_aiger.specs.declared.fault.AigCode.{AigCode}
use Rattle.gi_aiger.specs.declared.fault.AigCode.TheVariants.{Header, Limit}
use Rattle.gi_aiger.specs.declared.head.Form.{Form}
use Rattle.gi_aiger.specs.declared.head.Head.{Head}
use Rattle.gi_aiger.specs.Fields.{capped, Keeps, numbers_at}
use Rattle.gi_aiger.specs.Header.{head_of, is_fitting, is_tried, is_wrong, is_within, judge_head, has_head, head_numbers, head_parts}
use Rattle.gi_aiger.specs.Limits.{most_items}
use Rattle.gi_aiger.proofs.Limiting.{both, at_most, are_within}

-- a header's numbers, each up to the cap
abbrev cap_head : Head → Head
cap_head h = record {
  form = h.form;
  max = capped h.max;
  inputs = capped h.inputs;
  latches = capped h.latches;
  outs = capped h.outs;
  gates = capped h.gates;
  bads = capped h.bads;
  cons = capped h.cons;
  justice = capped h.justice;
  fair = capped h.fair;
}

cap_le : (n k : ℕ) → k < 4294967296 → nat_le (capped n) k ≡ nat_le n k
cap_le n k small = grind (arith, nat_tests)

cap_same : (n k : ℕ) → k < 4294967296 → n ≤ k → capped n ≡ n
cap_same n k small le = omega (arith, small, le)

pub at_place : (ns : List ℕ) (k : ℕ) → get_or (map capped ns) k 0 ≡ capped (get_or ns k 0)
at_place [] k = refl
at_place (n ∷ ns) zero = refl
at_place (n ∷ ns) (suc k) = at_place ns k

pub length-capped : (ns : List ℕ) → length (map capped ns) ≡ length ns
length-capped [] = refl
length-capped (n ∷ ns) = ap suc (length-capped ns)

tried_same : (h : Head) → is_tried (cap_head h) ≡ is_tried h
tried_same h = rw (cap_le h.max 4294967295 (omega arith), cap_le h.inputs 4294967295 (omega arith), cap_le h.latches 4294967295 (omega arith), cap_le h.gates 4294967295 (omega arith)) refl

within_same : (h : Head) → is_within (cap_head h) ≡ is_within h
within_same h = rw (cap_le h.max most_items (omega arith), cap_le h.inputs most_items (omega arith), cap_le h.latches most_items (omega arith), cap_le h.outs most_items (omega arith), cap_le h.gates most_items (omega arith), cap_le h.bads most_items (omega arith), cap_le h.cons most_items (omega arith), cap_le h.justice most_items (omega arith), cap_le h.fair most_items (omega arith)) refl

wrong_same : (h : Head) → is_wrong (cap_head h) ≡ is_wrong h
wrong_same h = by_test (is_tried h) refl where
  by_test : (b : Bool) → is_tried h ≡ b → is_wrong (cap_head h) ≡ is_wrong h
  by_test false f = ap (λ t. t && not (is_fitting h.form (capped h.max) (capped h.inputs + capped h.latches + capped h.gates))) (tried_same h ∙ f) ∙ sym (ap (λ t. t && not (is_fitting h.form h.max (h.inputs + h.latches + h.gates))) f)
  by_test true t =
      let a = both (nat_le h.max 4294967295 && nat_le h.inputs 4294967295 && nat_le h.latches 4294967295) (nat_le h.gates 4294967295) t in
      let b = both (nat_le h.max 4294967295 && nat_le h.inputs 4294967295) (nat_le h.latches 4294967295) a.0 in
      let c = both (nat_le h.max 4294967295) (nat_le h.inputs 4294967295) b.0 in
      ap (λ (t : Bool). t && not (is_fitting h.form (capped h.max) (capped h.inputs + capped h.latches + capped h.gates))) (tried_same h)
      ∙ ap (λ (n : ℕ). is_tried h && not (is_fitting h.form n (capped h.inputs + capped h.latches + capped h.gates))) (cap_same h.max 4294967295 (omega arith) (at_most h.max 4294967295 c.0))
      ∙ ap (λ (n : ℕ). is_tried h && not (is_fitting h.form h.max (n + capped h.latches + capped h.gates))) (cap_same h.inputs 4294967295 (omega arith) (at_most h.inputs 4294967295 c.1))
      ∙ ap (λ (n : ℕ). is_tried h && not (is_fitting h.form h.max (h.inputs + n + capped h.gates))) (cap_same h.latches 4294967295 (omega arith) (at_most h.latches 4294967295 b.1))
      ∙ ap (λ (n : ℕ). is_tried h && not (is_fitting h.form h.max (h.inputs + h.latches + n))) (cap_same h.gates 4294967295 (omega arith) (at_most h.gates 4294967295 a.1))

-- within the limits nothing is capped
same_head : (h : Head) → is_within h ≡ true → cap_head h ≡ h
same_head h t =
    let w = are_within h t in
    rw (
      cap_same h.max most_items (omega arith) w.max,
      cap_same h.inputs most_items (omega arith) w.inputs,
      cap_same h.latches most_items (omega arith) w.latches,
      cap_same h.outs most_items (omega arith) w.outs,
      cap_same h.gates most_items (omega arith) w.gates,
      cap_same h.bads most_items (omega arith) w.bads,
      cap_same h.cons most_items (omega arith) w.cons,
      cap_same h.justice most_items (omega arith) w.justice,
      cap_same h.fair most_items (omega arith) w.fair,
    ) refl

abbrev limits : Head → Bool → Result Head AigCode
limits k within = cond within (Ok k) (Err Limit)

abbrev judged : Bool → Result Head AigCode → Result Head AigCode
judged wrong rest = cond wrong (Err Header) rest

judge_same : (h : Head) → judge_head (cap_head h) ≡ judge_head h
judge_same h = by_test (is_within h) refl where
  by_test : (b : Bool) → is_within h ≡ b → judge_head (cap_head h) ≡ judge_head h
  by_test true t = ap judge_head (same_head h t)
  by_test false f =
      ap (λ w. judged w (limits (cap_head h) (is_within (cap_head h)))) (wrong_same h) ∙ ap (λ t. judged (is_wrong h) (limits (cap_head h) t)) (within_same h ∙ f) ∙ sym (ap (λ t. judged (is_wrong h) (limits h t)) f)

head_capped : (form : Form) (ns : List ℕ) → head_of form (map capped ns) ≡ cap_head (head_of form ns)
head_capped form ns = rw (at_place ns 0, at_place ns 1, at_place ns 2, at_place ns 3, at_place ns 4, at_place ns 5, at_place ns 6, at_place ns 7, at_place ns 8) refl

abbrev head_if : Bool → Result Head AigCode → Result Head AigCode
head_if b r = cond b r (Err Header)

numbers_same : (form : Form) (ns : List ℕ) → head_numbers form (map capped ns) ≡ head_numbers form ns
numbers_same form ns =
    ap (λ n. head_if (nat_le 5 n && nat_le n 9) (judge_head (head_of form (map capped ns)))) (length-capped ns) ∙ ap (λ r. head_if (has_head ns) r) (ap judge_head (head_capped form ns) ∙ judge_same (head_of form ns))

pub counts_are : (form : Form) (kept : List ℕ) (read : Option (List ℕ)) → Keeps kept read → head_numbers form kept ≡ head_parts (Some form) read
counts_are form kept read k = ap (head_numbers form) k.2 ∙ numbers_same form k.0 ∙ sym (ap (head_parts (Some form)) k.1)

-- a word alone is no header
pub no_numbers : (form : Option Form) → head_parts form (numbers_at []) ≡ Err Header
unfolding numbers_at
no_numbers None = refl
no_numbers (Some form) = refl
