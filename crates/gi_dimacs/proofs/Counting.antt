-- Numbers from 0 up.
use Rattle.std.proofs.Common.{◌≡◌, ℕ, zero, suc, ℤ, pos, negsuc, List, [], ◌∷◌, get_or, Option, Some, None, option_map, refl, ap, ◌∙◌, Bool, false, IsTrue}
use Rattle.std.proofs.lemmas.Bool.{ne_eqb}
use Rattle.gi_text.specs.Numbers.{magnitude, negated, number_of, size_of}
use Rattle.gi_dimacs.specs.Files.{from_zero, count_at}

pub count_at-minus : (xs : List ℕ) → get_or xs 0 0 ≡ 45 → count_at xs ≡ None
unfolding number_of
count_at-minus [] e = absurd cc
count_at-minus (x ∷ xs) e = rw e (none (magnitude xs)) where
  none : (o : Option ℕ) → from_zero (negated o) ≡ None
  none None = refl
  none (Some zero) = refl
  none (Some (suc n)) = refl

-- a number that doesn't begin with `-` counts
pub count_at-plain : (xs : List ℕ) (z : ℤ) (b : Bool) → b ≡ false → (get_or xs 0 0 ≡ 45 → IsTrue b) → number_of xs ≡ Some z → count_at xs ≡ Some (size_of z)
unfolding number_of
count_at-plain [] z b f h e = absurd cc
count_at-plain (x ∷ xs) z b f h e = ap from_zero e ∙ plain (magnitude (x ∷ xs)) z (rw (ne_eqb x 45 (λ m. let t = h m in cc)) at e) where
  plain : (o : Option ℕ) (z : ℤ) → option_map pos o ≡ Some z → from_zero (Some z) ≡ Some (size_of z)
  plain None z e = absurd cc
  plain (Some n) (pos m) e = refl
  plain (Some n) (negsuc m) e = absurd cc
