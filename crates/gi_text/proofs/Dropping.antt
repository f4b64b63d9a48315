-- What is kept of a line that is too long.
use Rattle.std.proofs.Common.{zero, suc, ◌≡◌, ℕ, ◌+◌, ◌<◌, ◌≤◌, List, [], ◌∷◌, ◌++◌, length, take, drop, Option, Some, None, option_map, Bool, true, false, ◌&&◌, inl, inr, refl, ap, sym, ◌∙◌, arith}
use Rattle.std.specs.Option.{is_none}
use Rattle.std.proofs.lemmas.List.{length-take-le}
use Rattle.std.proofs.lemmas.Bool.Decides.{eqb_tells}
use Rattle.gi_text.specs.Lines.{Kept, fed, from_lf, line_at}

pub unwrapped : {A : Type 0} (x y : A) → Some x ≡ Some y → x ≡ y
unwrapped x y e = cc

pub mapped : {A B : Type 0} (f : A → B) (o : Option A) (y : B) → option_map f o ≡ Some y → (x : A) × (o ≡ Some x) × (f x ≡ y)
mapped f None y e = cc
mapped f (Some x) y e = (x, refl, unwrapped (f x) y e)

pub mapped_none : {A B : Type 0} (f : A → B) (o : Option A) → option_map f o ≡ None → o ≡ None
mapped_none f None e = refl
mapped_none f (Some x) e = cc

none_of_map : {A B : Type 0} (f : A → B) (o : Option A) → is_none (option_map f o) ≡ is_none o
none_of_map f None = refl
none_of_map f (Some x) = refl

-- a front of what has no LF has none
pub none_in_front : (xs : List ℕ) (n : ℕ) → line_at xs ≡ None → line_at (take n xs) ≡ None
none_in_front xs zero e = refl
none_in_front [] (suc n) e = refl
none_in_front (x ∷ xs) (suc n) e = elim (eqb_tells x 10) [
  | inl t ↦ let was = rw t.0 at e in cc
  | inr f ↦ rw f.0 (ap (option_map _) (none_in_front xs n (mapped_none (λ (p : List ℕ × List ℕ). (x ∷ p.0, p.1)) (line_at xs) (rw f.0 at e))))
]

-- more behind a whole line leaves it whole
pub some_stays : (xs ys : List ℕ) → is_none (line_at xs) ≡ false → is_none (line_at (xs ++ ys)) ≡ false
some_stays [] ys e = cc
some_stays (x ∷ xs) ys e = elim (eqb_tells x 10) [
  | inl t ↦ rw t.0 refl
  | inr f ↦ rw f.0 (none_of_map _ (line_at (xs ++ ys)) ∙ some_stays xs ys (sym (none_of_map _ (line_at xs)) ∙ (rw f.0 at e)))
]

pub some_by_lf : (xs ys : List ℕ) → is_none (line_at (xs ++ 10 ∷ ys)) ≡ false
some_by_lf [] ys = refl
some_by_lf (x ∷ xs) ys = elim (eqb_tells x 10) [
  | inl t ↦ rw t.0 refl
  | inr f ↦ rw f.0 (none_of_map _ (line_at (xs ++ 10 ∷ ys)) ∙ some_by_lf xs ys)
]

pub from_lf_none : (xs : List ℕ) → line_at xs ≡ None → from_lf xs ≡ []
from_lf_none [] e = refl
from_lf_none (x ∷ xs) e = elim (eqb_tells x 10) [
  | inl t ↦ let was = rw t.0 at e in cc
  | inr f ↦ rw f.0 (from_lf_none xs (mapped_none (λ (p : List ℕ × List ℕ). (x ∷ p.0, p.1)) (line_at xs) (rw f.0 at e)))
]

pub from_lf_some : (xs : List ℕ) (p : List ℕ × List ℕ) → line_at xs ≡ Some p → from_lf xs ≡ 10 ∷ p.1
from_lf_some [] p e = cc
from_lf_some (x ∷ xs) p e = elim (eqb_tells x 10) [
  | inl t ↦ let was = unwrapped ([], xs) p (rw t.0 at e) in rw t.0 (ap (λ b. b ∷ xs) t.1 ∙ ap (λ (q : List ℕ × List ℕ). 10 ∷ q.1) was)
  | inr f ↦
      let was = mapped (λ (q : List ℕ × List ℕ). (x ∷ q.0, q.1)) (line_at xs) p (rw f.0 at e) in
      rw f.0 (from_lf_some xs was.0 was.1 ∙ ap (λ (q : List ℕ × List ℕ). 10 ∷ q.1) was.2)
]

-- whether bytes are dropped stays
pub stays_sound : (dropping long : Bool) (xs ys : List ℕ) → dropping ≡ (long && is_none (line_at xs)) → dropping ≡ false → dropping ≡ (long && is_none (line_at (xs ++ ys)))
stays_sound dropping false xs ys e f = e
stays_sound dropping true xs ys e f = f ∙ sym (some_stays xs ys (sym e ∙ f))

-- what is fed where nothing is dropped, and where something is
pub fed_whole : (old : Kept) (piece : List ℕ) → (old.long && is_none (line_at old.left)) ≡ false → fed old piece ≡ old.left ++ piece
unfolding fed
fed_whole old piece e = rw e refl

pub fed_cut : (old : Kept) (piece : List ℕ) → (old.long && is_none (line_at old.left)) ≡ true → fed old piece ≡ old.left ++ from_lf piece
unfolding fed
fed_cut old piece e = rw e refl

-- the first LF stands behind the line
pub drop_is : (xs : List ℕ) (p : List ℕ × List ℕ) → line_at xs ≡ Some p → drop (length p.0) xs ≡ from_lf xs
drop_is [] p e = cc
drop_is (x ∷ xs) p e = elim (eqb_tells x 10) [
  | inl t ↦ let was = unwrapped ([], xs) p (rw t.0 at e) in rw t.0 (ap (λ (q : List ℕ × List ℕ). drop (length q.0) (x ∷ xs)) (sym was))
  | inr f ↦
      let was = mapped (λ (q : List ℕ × List ℕ). (x ∷ q.0, q.1)) (line_at xs) p (rw f.0 at e) in
      rw f.0 (ap (λ (q : List ℕ × List ℕ). drop (length q.0) (x ∷ xs)) (sym was.2) ∙ drop_is xs was.0 was.1)
]

pub drop_at_lf : (xs : List ℕ) (i : ℕ) → i < length xs → line_at xs ≡ Some (take i xs, drop (i + 1) xs) → drop i xs ≡ from_lf xs
drop_at_lf xs i lt e =
    let le : i ≤ length xs = omega arith in
    ap (λ k. drop k xs) (sym (length-take-le i xs le)) ∙ drop_is xs (take i xs, drop (i + 1) xs) e

-- with its LF the line is whole, and nothing is dropped any more
pub whole_again : (long : Bool) (xs ys : List ℕ) (p : List ℕ × List ℕ) → line_at ys ≡ Some p → false ≡ (long && is_none (line_at (xs ++ from_lf ys)))
whole_again false xs ys p e = refl
whole_again true xs ys p e = sym (ap (λ zs. is_none (line_at (xs ++ zs))) (from_lf_some ys p e) ∙ some_by_lf xs p.1)
