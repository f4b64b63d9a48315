-- How bytes part into lines, and that a cut of the input does not matter.
use Rattle.std.proofs.Common.{zero, suc, ◌≡◌, ◌≢◌, ℕ, ◌<◌, List, [], ◌∷◌, ◌++◌, length, get_or, Option, Some, None, true, false, ◌&&◌, inl, inr, refl, ap, sym, ◌∙◌, subst, append_assoc, arith}
use Rattle.std.specs.Option.{is_none}
use Rattle.std.specs.List.{All}
use Rattle.std.proofs.lemmas.List.{append-nil}
use Rattle.std.proofs.lemmas.Bool.{cases_Bool, ne_eqb}
use Rattle.std.proofs.lemmas.Bool.Decides.{eqb_tells}
use Rattle.gi_text.specs.Lines.{Kept, fed, from_lf, line_at}
use Rattle.gi_text.proofs.Dropping.{fed_cut, fed_whole, from_lf_none, mapped, mapped_none, stays_sound, unwrapped, whole_again}

abbrev Parts : List ℕ → List ℕ × List ℕ → Type 0
Parts xs p = (xs ≡ p.0 ++ 10 ∷ p.1) × All (λ b. b ≢ 10) p.0

more_parts : (x : ℕ) (xs : List ℕ) (p : List ℕ × List ℕ) → x ≢ 10 → Parts xs p → Parts (x ∷ xs) (x ∷ p.0, p.1)
more_parts x xs p ne (e, all) = (ap (λ ys. x ∷ ys) e, each) where
  each : (k d : ℕ) → k < length (x ∷ p.0) → get_or (x ∷ p.0) k d ≢ 10
  each zero d lt = ne
  each (suc k) d lt = all k d (omega arith)

pub parts_of : (xs : List ℕ) (p : List ℕ × List ℕ) → line_at xs ≡ Some p → Parts xs p
parts_of [] p e = cc
parts_of (x ∷ xs) p e = elim (eqb_tells x 10) [
  | inl t ↦ subst (Parts (x ∷ xs)) (unwrapped ([], xs) p (rw t.0 at e)) (ap (λ b. b ∷ xs) t.1, λ k d lt. absurd (omega arith))
  | inr f ↦
      let was = mapped (λ (q : List ℕ × List ℕ). (x ∷ q.0, q.1)) (line_at xs) p (rw f.0 at e) in
      subst (Parts (x ∷ xs)) was.2 (more_parts x xs was.0 f.1 (parts_of xs was.0 was.1))
]

pub line_of_parts : (line rest : List ℕ) → All (λ b. b ≢ 10) line → line_at (line ++ 10 ∷ rest) ≡ Some (line, rest)
line_of_parts [] rest all = refl
line_of_parts (x ∷ line) rest all =
    let ne = ne_eqb x 10 (all zero x (omega arith)) in
    let ih = line_of_parts line rest (λ k d lt. all (suc k) d (omega arith)) in
    rw (ne, ih) refl

-- what stands from the first LF on, of two pieces
from_lf-append_none : (a b : List ℕ) → line_at a ≡ None → from_lf (a ++ b) ≡ from_lf b
from_lf-append_none [] b e = refl
from_lf-append_none (x ∷ xs) b e = elim (eqb_tells x 10) [
  | inl t ↦ let was = rw t.0 at e in cc
  | inr f ↦ rw f.0 (from_lf-append_none xs b (mapped_none (λ (p : List ℕ × List ℕ). (x ∷ p.0, p.1)) (line_at xs) (rw f.0 at e)))
]

from_lf-append_some : (a b : List ℕ) (p : List ℕ × List ℕ) → line_at a ≡ Some p → from_lf (a ++ b) ≡ from_lf a ++ b
from_lf-append_some [] b p e = cc
from_lf-append_some (x ∷ xs) b p e = elim (eqb_tells x 10) [
  | inl t ↦ rw t.0 refl
  | inr f ↦
      let was = mapped (λ (q : List ℕ × List ℕ). (x ∷ q.0, q.1)) (line_at xs) p (rw f.0 at e) in
      rw f.0 (from_lf-append_some xs b was.0 was.1)
]

cut_cut : (old : Kept) (a b : List ℕ) (o : Option (List ℕ × List ℕ)) → line_at a ≡ o → (old.long && is_none (line_at old.left)) ≡ true → fed (record old { left = fed old a }) b ≡ fed old (a ++ b)
cut_cut old a b None e on =
    let one : fed old a ≡ old.left = fed_cut old a on ∙ ap (λ xs. old.left ++ xs) (from_lf_none a e) ∙ append-nil old.left in
    let still : (old.long && is_none (line_at (fed old a))) ≡ true = ap (λ xs. old.long && is_none (line_at xs)) one ∙ on in
    fed_cut (record old { left = fed old a }) b still ∙ ap (λ xs. xs ++ from_lf b) one
    ∙ ap (λ xs. old.left ++ xs) (sym (from_lf-append_none a b e)) ∙ sym (fed_cut old (a ++ b) on)
cut_cut old a b (Some p) e on =
    let one : fed old a ≡ old.left ++ from_lf a = fed_cut old a on in
    let over : (old.long && is_none (line_at (fed old a))) ≡ false = ap (λ xs. old.long && is_none (line_at xs)) one ∙ sym (whole_again old.long old.left a p e) in
    fed_whole (record old { left = fed old a }) b over ∙ ap (λ xs. xs ++ b) one ∙ append_assoc old.left (from_lf a) b
    ∙ ap (λ xs. old.left ++ xs) (sym (from_lf-append_some a b p e)) ∙ sym (fed_cut old (a ++ b) on)

pub fed_fed : (old : Kept) (a b : List ℕ) → fed (record old { left = fed old a }) b ≡ fed old (a ++ b)
fed_fed old a b = elim (cases_Bool (old.long && is_none (line_at old.left))) [
  | inl on ↦ cut_cut old a b (line_at a) refl on
  | inr off ↦
      let one : fed old a ≡ old.left ++ a = fed_whole old a off in
      let still : (old.long && is_none (line_at (fed old a))) ≡ false = ap (λ xs. old.long && is_none (line_at xs)) one ∙ sym (stays_sound false old.long old.left a (sym off) refl) in
      fed_whole (record old { left = fed old a }) b still ∙ ap (λ xs. xs ++ b) one ∙ append_assoc old.left a b ∙ sym (fed_whole old (a ++ b) off)
]
