-- A value that is read is what the file says.
use Rattle.std.proofs.Common.{◌≡◌, ℕ, List, [], ◌∷◌, inl, inr, Result, Ok, Err, refl, ap, ◌∙◌, subst}
use Rattle.gi_aiger.specs.declared.aig.Aig.{Aig}
use Rattle.gi_aiger.specs.declared.fault.AigCode.{AigCode}
use Rattle.gi_aiger.specs.declared.head.Form.{Form}
use Rattle.gi_aiger.specs.declared.head.Form.TheVariants.{Ascii, Binary}
use Rattle.gi_aiger.specs.declared.head.Head.{Head}
use Rattle.gi_aiger.specs.Header.{header_of}
use Rattle.gi_aiger.specs.Levels.{HasLevels}
use Rattle.gi_aiger.specs.Lines.{lines_of, bare}
use Rattle.gi_aiger.specs.Sections.{sections_of}
use Rattle.gi_aiger.specs.Files.{begin, after_header, read_sections, read_lines, read_file}
use Rattle.gi_aiger.specs.Relation.{IsAig}
use Rattle.gi_aiger.proofs.Retelling.{ascii_said}
use Rattle.gi_aiger.proofs.Renumbering.{binary_said}

with_form : (h : Head) (f : Form) → h.form ≡ f → h ≡ record h { form = f }
with_form h f e = ap (λ (g : Form). record h { form = g }) e

pub read_said : (v : Aig) (bytes : List ℕ) → (read_file bytes).read ≡ Ok v → HasLevels v.gates → IsAig v bytes
unfolding read_file
read_said v bytes e levels = by_lines (lines_of bytes) refl e where
  by_form : (head : List ℕ) (ls : List (List ℕ)) (h : Head) → lines_of bytes ≡ head ∷ ls → header_of (bare head) ≡ Ok h → (f : Form) → h.form ≡ f → (read_sections h (sections_of h.form) 2 (begin h) ls).read ≡ Ok v → IsAig v bytes
  by_form head ls h lines header Ascii is e =
      let same = with_form h Ascii is in
      inl (ascii_said v bytes head ls h lines (header ∙ ap Ok same) (subst (λ (x : Head). (read_sections x (sections_of x.form) 2 (begin x) ls).read ≡ Ok v) same e) levels)
  by_form head ls h lines header Binary is e =
      let same = with_form h Binary is in
      inr (binary_said v bytes head ls h lines (header ∙ ap Ok same) (subst (λ (x : Head). (read_sections x (sections_of x.form) 2 (begin x) ls).read ≡ Ok v) same e) levels)

  by_header : (head : List ℕ) (ls : List (List ℕ)) (r : Result Head AigCode) → lines_of bytes ≡ head ∷ ls → header_of (bare head) ≡ r → (after_header r ls).read ≡ Ok v → IsAig v bytes
  by_header head ls (Ok h) lines header e = by_form head ls h lines header h.form refl e
  by_header head ls (Err c) lines header e = absurd cc

  by_lines : (ls : List (List ℕ)) → lines_of bytes ≡ ls → (read_lines ls).read ≡ Ok v → IsAig v bytes
  by_lines [] lines e = absurd cc
  by_lines (head ∷ ls) lines e = by_header head ls (header_of (bare head)) lines refl e
