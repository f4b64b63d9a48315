-- A text is its lines, one behind the other.
use Rattle.std.proofs.Common.{◌≡◌, ℕ, List, [], ◌∷◌, ◌++◌, Bool, true, false, ◌&&◌, not, ◌⊎◌, inl, inr, refl, ap, sym, ◌∙◌}
use Rattle.std.specs.Prelude.{◌==◌}
use Rattle.std.proofs.lemmas.Bool.Decides.{eqb_tells}
use Rattle.gi_aiger.specs.Fields.{with_byte}
use Rattle.gi_aiger.specs.Lines.{lines_of, bare, joined, is_plain}

abbrev pub IsPlain : List ℕ → Type 0
IsPlain l = is_plain l ≡ true

-- each line has its LF, but the last may lack it
abbrev pub AreLines : List (List ℕ) → Type 0
AreLines [] = Unit {0}
AreLines (l ∷ ls) = ((x : List ℕ) × (l ≡ x ++ 10 ∷ []) × IsPlain x × AreLines ls) ⊎ ((b : ℕ) × (x : List ℕ) × (l ≡ b ∷ x) × IsPlain (b ∷ x) × (ls ≡ []))

pub plain_head : (x : ℕ) (l : List ℕ) → IsPlain (x ∷ l) → ((x == 10) ≡ false) × IsPlain l
plain_head x l plain = by_test (x == 10) plain where
  by_test : (b : Bool) → (not b && is_plain l) ≡ true → (b ≡ false) × IsPlain l
  by_test true h = absurd cc
  by_test false h = (refl, h)

pub plain_cons : (x : ℕ) (l : List ℕ) → (x == 10) ≡ false → IsPlain l → IsPlain (x ∷ l)
plain_cons x l f plain = rw f plain

pub lines_are : (bytes : List ℕ) → AreLines (lines_of bytes)
unfolding lines_of
lines_are [] = tt
lines_are (b ∷ bs) = elim (eqb_tells b 10) [
  | inl t ↦ rw t.0 (inl ([], refl, refl, lines_are bs))
  | inr f ↦ rw f.0 (front f.0 (lines_of bs) (lines_are bs))
] where
  front : (b == 10) ≡ false → (ls : List (List ℕ)) → AreLines ls → AreLines (with_byte b ls)
  front f [] h = inr (b, [], refl, plain_cons b [] f refl, refl)
  front f (l ∷ ls) (inl h) = inl (b ∷ h.0, ap (λ (xs : List ℕ). b ∷ xs) h.1, plain_cons b h.0 f h.2, h.3)
  front f (l ∷ ls) (inr h) = inr (b, h.0 ∷ h.1, ap (λ (xs : List ℕ). b ∷ xs) h.2, plain_cons b (h.0 ∷ h.1) f h.3, h.4)

joined-with : (b : ℕ) (ls : List (List ℕ)) → joined (with_byte b ls) ≡ b ∷ joined ls
joined-with b [] = refl
joined-with b (l ∷ ls) = refl

pub joined_lines : (bytes : List ℕ) → joined (lines_of bytes) ≡ bytes
unfolding lines_of
joined_lines [] = refl
joined_lines (b ∷ bs) = elim (eqb_tells b 10) [
  | inl t ↦ rw t.0 (ap (λ (xs : List ℕ). 10 ∷ xs) (joined_lines bs) ∙ ap (λ (n : ℕ). n ∷ bs) (sym t.1))
  | inr f ↦ rw f.0 (joined-with b (lines_of bs) ∙ ap (λ (xs : List ℕ). b ∷ xs) (joined_lines bs))
]

pub bare_whole : (x more : List ℕ) → IsPlain x → bare (x ++ 10 ∷ more) ≡ x
unfolding bare
bare_whole [] more plain = refl
bare_whole (b ∷ x) more plain = let h = plain_head b x plain in rw h.0 (ap (λ (xs : List ℕ). b ∷ xs) (bare_whole x more h.1))

pub bare_plain : (x : List ℕ) → IsPlain x → bare x ≡ x
unfolding bare
bare_plain [] plain = refl
bare_plain (b ∷ x) plain = let h = plain_head b x plain in rw h.0 (ap (λ (xs : List ℕ). b ∷ xs) (bare_plain x h.1))
