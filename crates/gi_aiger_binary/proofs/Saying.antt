-- The text of a numbered value is a file of the binary form that says it.
use Rattle.std.proofs.Common.{◌≡◌, ◌+◌, [], ◌∷◌, ◌++◌, length, inl, inr, Result, Ok, refl, ap, sym, ◌∙◌}
use Rattle.gi_aiger.specs.declared.aig.Aig.{Aig}
use Rattle.gi_aiger.specs.declared.fault.AigCode.{AigCode}
use Rattle.gi_aiger.specs.declared.head.Form.TheVariants.{Ascii, Binary}
use Rattle.gi_aiger.specs.declared.head.Head.{Head}
use Rattle.gi_aiger.specs.Answers.{Answer}
use Rattle.gi_aiger.specs.Files.{read_file}
use Rattle.gi_aiger.specs.Header.{header_of}
use Rattle.gi_aiger.specs.Lines.{lines_of, bare}
use Rattle.gi_aiger.specs.Relation as said
use Rattle.gi_aiger.proofs.Lining.{bare_whole}
use Rattle.gi_aiger.proofs.Returning.{read_said}
use Rattle.gi_aiger_binary.specs.Numbered.{IsNumbered, IsInLimits, head_of_aig}
use Rattle.gi_aiger_binary.specs.Texts.{binary_text}
use Rattle.gi_aiger_binary.proofs.Headed.{header_read, plain_head_words}
use Rattle.gi_aiger_binary.proofs.ReadBack.{words, body, text_is, gates_have_levels, answered}
use Rattle.gi_aiger_binary.proofs.Rowed.{line_first}

module _ (w : Aig) (n : IsNumbered w) (l : IsInLimits w) where
  abbrev Header : Type 0
  Header = Result Head AigCode

  abbrev ok : Head → Header
  ok h = Ok h

  read : (read_file (binary_text w)).read ≡ Ok w
  read = by_answer (answered w n l) where
    by_answer : Answer (read_file (binary_text w)) (Ok w) → (read_file (binary_text w)).read ≡ Ok w
    by_answer (inl a) = sym a.1
    by_answer (inr c) = absurd (let e = c.2 in cc)

  first : lines_of (binary_text w) ≡ (words w n l ++ 10 ∷ []) ∷ lines_of (body w n l)
  first = ap lines_of (text_is w n l) ∙ line_first (words w n l) (body w n l) (plain_head_words w l.variables l.outs l.bads l.cons l.justice l.fair)

  not_ascii : said.IsAscii w (binary_text w) → ⊥
  not_ascii a =
      let lines = sym first ∙ a.lines in
      let line : words w n l ++ 10 ∷ [] ≡ a.head = cc in
      let same : words w n l ≡ bare a.head = sym (bare_whole (words w n l) [] (plain_head_words w l.variables l.outs l.bads l.cons l.justice l.fair)) ∙ ap bare line in
      let heads : ok (head_of_aig w) ≡ ok (said.head_of_aig Ascii w) = sym (header_read w l.variables l.outs l.bads l.cons l.justice l.fair) ∙ ap header_of same ∙ a.header in
      forms (head_of_aig w) (said.head_of_aig Ascii w) heads refl refl
    where
      forms : (g h : Head) → ok g ≡ ok h → g.form ≡ Binary → h.form ≡ Ascii → ⊥
      forms g h e b c = let same : g ≡ h = cc in let form = sym b ∙ ap (λ (x : Head). x.form) same ∙ c in cc

  pub text_said : said.IsBinary w (binary_text w)
  text_said = elim (read_said w (binary_text w) read (gates_have_levels w.gates (length w.inputs + length w.latches + 1) n.gates n.falling)) [
    | inl a ↦ absurd (not_ascii a)
    | inr b ↦ b
  ]
