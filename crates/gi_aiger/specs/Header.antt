-- The header's line.
use Rattle.std.specs.Prelude.{ℕ, ◌+◌, nat_le, Bool, ◌==◌, ◌&&◌, not, List, [], ◌∷◌, length, slice_index, Option, Some, None, Result, Ok, Err, if◌then◌else◌}
use Rattle.std.specs.Str.{bytes_eq}
use Rattle.gi_aiger.specs.declared.fault.AigCode.{AigCode}
use Rattle.gi_aiger.specs.declared.fault.AigCode.TheVariants.{Header, Limit}
use Rattle.gi_aiger.specs.declared.head.Form.{Form}
use Rattle.gi_aiger.specs.declared.head.Form.TheVariants.{Ascii, Binary}
use Rattle.gi_aiger.specs.declared.head.Head.{Head}
use Rattle.gi_aiger.specs.Fields.{fields_of, numbers_at}
use Rattle.gi_aiger.specs.Limits.{most_items}

-- the form that the header's word names: `aag` or `aig`
abbrev pub form_of : List ℕ → Option Form
form_of word = if bytes_eq word (97 ∷ 97 ∷ 103 ∷ []) then Some Ascii else if bytes_eq word (97 ∷ 105 ∷ 103 ∷ []) then Some Binary else None

-- the numbers M I L O A, and then up to four of B C J F; a missing one is 0
abbrev pub head_of : Form → List ℕ → Head
head_of form ns = record {
  form = form;
  max = slice_index ns 0;
  inputs = slice_index ns 1;
  latches = slice_index ns 2;
  outs = slice_index ns 3;
  gates = slice_index ns 4;
  bads = slice_index ns 5;
  cons = slice_index ns 6;
  justice = slice_index ns 7;
  fair = slice_index ns 8;
}

-- M against I + L + A: in the ASCII form it may be greater
abbrev pub is_fitting : Form → ℕ → ℕ → Bool
is_fitting Ascii max defined = nat_le defined max
is_fitting Binary max defined = defined == max

-- M, I, L and A are so small that M is tried against the others
abbrev pub is_tried : Head → Bool
is_tried h = nat_le h.max 4294967295 && nat_le h.inputs 4294967295 && nat_le h.latches 4294967295 && nat_le h.gates 4294967295

abbrev pub is_wrong : Head → Bool
is_wrong h = is_tried h && not (is_fitting h.form h.max (h.inputs + h.latches + h.gates))

-- each number is within the limit
abbrev pub is_within : Head → Bool
is_within h = nat_le h.max most_items && nat_le h.inputs most_items && nat_le h.latches most_items && nat_le h.outs most_items && nat_le h.gates most_items && nat_le h.bads most_items && nat_le h.cons most_items && nat_le h.justice most_items && nat_le h.fair most_items

-- the header is tried before its limits
abbrev pub judge_head : Head → Result Head AigCode
judge_head h = if is_wrong h then Err Header else if is_within h then Ok h else Err Limit

-- so many numbers
abbrev pub has_head : List ℕ → Bool
has_head ns = nat_le 5 (length ns) && nat_le (length ns) 9

abbrev pub head_numbers : Form → List ℕ → Result Head AigCode
head_numbers form ns = if has_head ns then judge_head (head_of form ns) else Err Header

abbrev pub head_parts : Option Form → Option (List ℕ) → Result Head AigCode
head_parts (Some form) (Some ns) = head_numbers form ns
head_parts (Some form) None = Err Header
head_parts None read = Err Header

abbrev pub head_fields : List (List ℕ) → Result Head AigCode
head_fields [] = Err Header
head_fields (word ∷ fields) = head_parts (form_of word) (numbers_at fields)

-- what the header's line says
unfoldable pub header_of : List ℕ → Result Head AigCode
header_of line = head_fields (fields_of line)
