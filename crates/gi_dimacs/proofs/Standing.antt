-- A fault at a line of the input stands, however the input goes on behind that line.
use Rattle.std.proofs.Common.{◌≡◌, ℕ, zero, suc, ◌+◌, ◌<◌, ◌≤◌, List, [], ◌∷◌, ◌++◌, length, take, Bool, true, false, cond, ◌⊎◌, inl, inr, Result, Ok, Err, refl, ap, sym, ◌∙◌, append_assoc, arith, add-zero}
use Rattle.std.specs.Prelude.{◌==◌}
use Rattle.std.specs.List.{AllByRecursion}
use Rattle.gi_text.specs.Words.{words_of}
use Rattle.gi_dimacs.specs.Lines.{lines_of, with_byte, text_of}
use Rattle.gi_dimacs.specs.declared.fault.CnfCode.{CnfCode}
use Rattle.gi_dimacs.specs.declared.fault.CnfCode.TheVariants.{Header, Unterminated}
use Rattle.gi_dimacs.specs.declared.fault.CnfFault.{CnfFault}
use Rattle.gi_dimacs.specs.declared.words.Taken.{Taken}
use Rattle.gi_dimacs.specs.declared.content.Format.{Format}
use Rattle.gi_dimacs.specs.Content.{File}
use Rattle.gi_dimacs.specs.Files.{begin, is_comment, Move, Goes, Ends, Stops, body_line, whole, after_move, read_body, begin_body, head_words, header_words, read_lines, read_file}
use Rattle.gi_dimacs.proofs.Splitting.{IsPlain, line_of, split}
use Rattle.gi_dimacs.proofs.InLines.{plain_head}

-- lines that are read from a line on: a fault is at their end, or stands at one of them
abbrev pub Stands : ℕ → List (List ℕ) → CnfFault → (List (List ℕ) → Result File CnfFault) → Type 0
Stands k ls f read = (f.line ≡ k + length ls) ⊎ ((n : ℕ) × (n < length ls) × (f.line ≡ k + n) × ((ms : List (List ℕ)) → read (take (suc n) ls ++ ms) ≡ Err f))

line_in : Result File CnfFault → ℕ
line_in (Ok v) = 0
line_in (Err f) = f.line

stop_fault : (k : ℕ) (c : CnfCode) (f : CnfFault) (r : Result File CnfFault) → r ≡ Err (record { line = k; code = c }) → r ≡ Err f → f.line ≡ k
unfolding line_in
stop_fault k c f r is e = ap line_in (sym e ∙ is)

no_both : (r : Result File CnfFault) {v : File} {f : CnfFault} → r ≡ Ok v → r ≡ Err f → ⊥
no_both r a b = cc

whole_fault : (t : Taken) (k : ℕ) (f : CnfFault) → whole t k ≡ Err f → f.line ≡ k
whole_fault t k f e = by_test (length t.begun == 0) refl where
  by_test : (b : Bool) → (length t.begun == 0) ≡ b → f.line ≡ k
  by_test true is = let ok : whole t k ≡ Ok (record { vars = t.vars; content = t.content }) = rw is refl in absurd (no_both (whole t k) ok e)
  by_test false is = stop_fault k Unterminated f (whole t k) (rw is refl) e

-- the same one line later
later : (k : ℕ) (l : List ℕ) (ls : List (List ℕ)) (f : CnfFault) (read more : List (List ℕ) → Result File CnfFault) → ((ms : List (List ℕ)) → more (l ∷ ms) ≡ read ms) → Stands (k + 1) ls f read → Stands k (l ∷ ls) f more
later k l ls f read more e (inl at_end) = inl (omega arith)
later k l ls f read more e (inr at) = inr (suc at.0, omega (arith, at.1), omega (arith, at.2), λ ms. e (take (suc at.0) ls ++ ms) ∙ at.3 ms)

body_stands : (k : ℕ) (t : Taken) (ls : List (List ℕ)) (f : CnfFault) → read_body k t ls ≡ Err f → Stands k ls f (read_body k t)
unfolding read_body
body_stands k t [] f e = inl (whole_fault t k f e ∙ sym (add-zero k))
body_stands k t (l ∷ ls) f e = by_move (body_line t l) refl e (λ u d. body_stands (k + 1) u ls f d) where
  by_move : (m : Move) → body_line t l ≡ m → after_move m t k (λ u. read_body (k + 1) u ls) ≡ Err f
      → ((u : Taken) → read_body (k + 1) u ls ≡ Err f → Stands (k + 1) ls f (read_body (k + 1) u)) → Stands k (l ∷ ls) f (read_body k t)
  by_move (Goes u) is e ih = later k l ls f (read_body (k + 1) u) (read_body k t) (λ ms. ap (λ m. after_move m t k (λ v. read_body (k + 1) v ms)) is) (ih u e)
  by_move Ends is e ih = inr (0, omega arith, whole_fault t k f e ∙ sym (add-zero k), λ ms. ap (λ m. after_move m t k (λ v. read_body (k + 1) v ms)) is ∙ e)
  by_move (Stops c) is e ih = inr (0, omega arith, stop_fault k c f (Err (record { line = k; code = c })) refl e ∙ sym (add-zero k), λ ms. ap (λ m. after_move m t k (λ v. read_body (k + 1) v ms)) is ∙ e)

lines_stand : (g : Format) (k : ℕ) (ls : List (List ℕ)) (f : CnfFault) → read_lines g k ls ≡ Err f → Stands k ls f (read_lines g k)
unfolding read_lines
lines_stand g k [] f e = inl (stop_fault k Header f (Err (record { line = k; code = Header })) refl e ∙ sym (add-zero k))
lines_stand g k (l ∷ ls) f e = by_test (is_comment l) refl e (λ d. lines_stand g (k + 1) ls f d) where
  by_counts : (r : Result ℕ CnfCode) (w : List ℕ) (ws : List (List ℕ)) → words_of l ≡ w ∷ ws → is_comment l ≡ false → header_words g (w ∷ ws) ≡ r → begin_body g r k (λ u. read_body (k + 1) u ls) ≡ Err f → Stands k (l ∷ ls) f (read_lines g k)
  by_counts (Ok v) w ws words plain is e = later k l ls f (read_body (k + 1) (begin g v)) (read_lines g k) (λ ms. rw (plain, words, is) refl) (body_stands (k + 1) (begin g v) ls f e)
  by_counts (Err c) w ws words plain is e = inr (0, omega arith, stop_fault k c f (Err (record { line = k; code = c })) refl e ∙ sym (add-zero k), λ ms. rw (plain, words, is) e)

  by_words : (ws : List (List ℕ)) → words_of l ≡ ws → is_comment l ≡ false → head_words g ws k (read_lines g (k + 1) ls) (λ u. read_body (k + 1) u ls) ≡ Err f → (read_lines g (k + 1) ls ≡ Err f → Stands (k + 1) ls f (read_lines g (k + 1))) → Stands k (l ∷ ls) f (read_lines g k)
  by_words [] words plain e ih = later k l ls f (read_lines g (k + 1)) (read_lines g k) (λ ms. rw (plain, words) refl) (ih e)
  by_words (w ∷ ws) words plain e ih = by_counts (header_words g (w ∷ ws)) w ws words plain refl e

  by_test : (b : Bool) → is_comment l ≡ b → cond b (read_lines g (k + 1) ls) (head_words g (words_of l) k (read_lines g (k + 1) ls) (λ u. read_body (k + 1) u ls)) ≡ Err f
      → (read_lines g (k + 1) ls ≡ Err f → Stands (k + 1) ls f (read_lines g (k + 1))) → Stands k (l ∷ ls) f (read_lines g k)
  by_test true is e ih = later k l ls f (read_lines g (k + 1)) (read_lines g k) (λ ms. rw is refl) (ih e)
  by_test false is e ih = by_words (words_of l) refl is e ih

line_back : (l more : List ℕ) → IsPlain l → lines_of ((l ++ 10 ∷ []) ++ more) ≡ l ∷ lines_of more
unfolding lines_of
line_back [] more plain = refl
line_back (x ∷ l) more plain = let h = plain_head x l plain in rw h.0 (ap (with_byte x) (line_back l more h.1))

pub lines_of-text : (ls : List (List ℕ)) (more : List ℕ) → AllByRecursion IsPlain ls → lines_of (text_of ls ++ more) ≡ ls ++ lines_of more
lines_of-text [] more plain = refl
lines_of-text (l ∷ ls) more plain = ap lines_of (append_assoc (l ++ 10 ∷ []) (text_of ls) more) ∙ line_back l (text_of ls ++ more) plain.0 ∙ ap (λ xs. l ∷ xs) (lines_of-text ls more plain.1)

all_take : (n : ℕ) (ls : List (List ℕ)) → AllByRecursion IsPlain ls → AllByRecursion IsPlain (take n ls)
all_take zero ls plain = tt
all_take (suc n) [] plain = tt
all_take (suc n) (l ∷ ls) plain = (plain.0, all_take n ls plain.1)

all_last : (ls : List (List ℕ)) (last : List ℕ) → AllByRecursion IsPlain ls → IsPlain last → AllByRecursion IsPlain (ls ++ line_of last)
all_last [] [] plain plain_last = tt
all_last [] (x ∷ l) plain plain_last = (plain_last, tt)
all_last (l ∷ ls) last plain plain_last = (plain.0, all_last ls last plain.1 plain_last)

pub lines_plain : (bytes : List ℕ) → AllByRecursion IsPlain (lines_of bytes)
lines_plain bytes = let s = split bytes in rw s.lines (all_last s.whole s.last s.plain s.plain_last)

-- the law
pub fault_stands : (g : Format) (bytes more : List ℕ) (f : CnfFault) → read_file g bytes ≡ Err f → f.line ≤ length (lines_of bytes) → read_file g (text_of (take f.line (lines_of bytes)) ++ more) ≡ Err f
unfolding read_file
fault_stands g bytes more f e within = elim (lines_stand g 1 (lines_of bytes) f e) [
  | inl at_end ↦ absurd (omega arith)
  | inr at ↦
      let n : f.line ≡ suc at.0 = omega (arith, at.2) in
      ap (λ (m : ℕ). read_lines g 1 (lines_of (text_of (take m (lines_of bytes)) ++ more))) n
      ∙ ap (read_lines g 1) (lines_of-text (take (suc at.0) (lines_of bytes)) more (all_take (suc at.0) (lines_of bytes) (lines_plain bytes)))
      ∙ at.3 (lines_of more)
]
