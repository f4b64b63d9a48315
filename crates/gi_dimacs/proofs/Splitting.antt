-- A text is its lines, each with its LF, and what the last lacks.
use Rattle.std.proofs.Common.{◌≡◌, ℕ, List, [], ◌∷◌, ◌++◌, true, false, inl, inr, refl, ap, ◌∙◌}
use Rattle.std.specs.Prelude.{◌==◌}
use Rattle.std.specs.List.{AllByRecursion}
use Rattle.std.proofs.lemmas.Bool.Decides.{eqb_tells}
use Rattle.gi_dimacs.specs.Lines.{with_byte, lines_of, is_plain, text_of}

abbrev pub line_of : List ℕ → List (List ℕ)
line_of [] = []
line_of (b ∷ bs) = (b ∷ bs) ∷ []

abbrev pub IsPlain : List ℕ → Type 0
IsPlain l = is_plain l ≡ true

pub record Split (bytes : List ℕ) : Type 0 where
  pub whole : List (List ℕ)
  pub last : List ℕ
  pub plain : AllByRecursion IsPlain whole
  pub plain_last : IsPlain last
  pub text : bytes ≡ text_of whole ++ last
  pub lines : lines_of bytes ≡ whole ++ line_of last

pub split : (bytes : List ℕ) → Split bytes
unfolding lines_of
split [] = record { whole = []; last = []; plain = tt; plain_last = refl; text = refl; lines = refl }
split (b ∷ bs) = elim (eqb_tells b 10) [
  | inl t ↦ after_lf t.0 t.1 (split bs)
  | inr f ↦ in_line f.0 (split bs).whole (split bs).last (split bs).plain (split bs).plain_last (split bs).text (split bs).lines
] where
  one_line : (last : List ℕ) → with_byte b (line_of last) ≡ (b ∷ last) ∷ []
  one_line [] = refl
  one_line (c ∷ cs) = refl

  after_lf : (b == 10) ≡ true → b ≡ 10 → Split bs → Split (b ∷ bs)
  after_lf t e s = record {
    whole = [] ∷ s.whole;
    last = s.last;
    plain = (refl, s.plain);
    plain_last = s.plain_last;
    text = ap (λ (x : ℕ). x ∷ bs) e ∙ ap (λ (xs : List ℕ). 10 ∷ xs) s.text;
    lines = rw t (ap (λ (ls : List (List ℕ)). [] ∷ ls) s.lines);
  }

  in_line : (b == 10) ≡ false → (whole : List (List ℕ)) (last : List ℕ) → AllByRecursion IsPlain whole → IsPlain last → bs ≡ text_of whole ++ last → lines_of bs ≡ whole ++ line_of last → Split (b ∷ bs)
  in_line f [] last plain plain_last text lines = record {
    whole = [];
    last = b ∷ last;
    plain = tt;
    plain_last = rw f plain_last;
    text = ap (λ (xs : List ℕ). b ∷ xs) text;
    lines = rw f (ap (with_byte b) lines ∙ one_line last);
  }
  in_line f (l ∷ ls) last plain plain_last text lines = record {
    whole = (b ∷ l) ∷ ls;
    last = last;
    plain = (rw f plain.0, plain.1);
    plain_last = plain_last;
    text = ap (λ (xs : List ℕ). b ∷ xs) text;
    lines = rw f (ap (with_byte b) lines);
  }
