-- Fields are parted at single spaces, and their numbers are read one after another.
use Rattle.std.proofs.Common.{append_assoc, ◌≡◌, ◌≢◌, ℕ, zero, suc, ◌+◌, ◌<◌, ◌≤◌, min, List, [], ◌∷◌, ◌++◌, length, take, drop, map, get_or, Bool, true, false, cond, Option, Some, None, option_map, refl, ap, sym, ◌∙◌, arith, ℤ, pos, negsuc, IsTrue}
use Rattle.std.specs.Prelude.{◌==◌}
use Rattle.std.proofs.lemmas.Bool.{ne_eqb}
use Rattle.std.proofs.lemmas.List.{append-nil, map-append}
use Rattle.gi_text.specs.Numbers.{magnitude, number_of, size_of}
use Rattle.gi_aiger.specs.Fields.{with_byte, fields_of, with_number, numbers_at, capped, Keeps}

-- a line without a space is one field
pub fields_one : (xs : List ℕ) → ((k : ℕ) → k < length xs → get_or xs k 0 ≢ 32) → fields_of xs ≡ xs ∷ []
unfolding fields_of
fields_one [] none = refl
fields_one (x ∷ xs) none = rw (ne_eqb x 32 (none 0 (omega arith))) (ap (with_byte x) (fields_one xs (λ k lt. none (suc k) (omega arith))))

-- a field, a space, and what is behind it
split_at : (xs : List ℕ) (n : ℕ) → n < length xs → ((k : ℕ) → k < n → get_or xs k 0 ≢ 32) → get_or xs n 0 ≡ 32 → fields_of xs ≡ take n xs ∷ fields_of (drop (suc n) xs)
unfolding fields_of
split_at [] n lt none space = absurd (omega arith)
split_at (x ∷ xs) zero lt none space = rw space refl
split_at (x ∷ xs) (suc n) lt none space = rw (ne_eqb x 32 (none 0 (omega arith))) (ap (with_byte x) (split_at xs n (omega arith) (λ k h. none (suc k) (omega arith)) space))

pub fields_split : (xs : List ℕ) (n : ℕ) → n < length xs → ((k : ℕ) → k < n → get_or xs k 0 ≢ 32) → get_or xs n 0 ≡ 32 → fields_of xs ≡ take n xs ∷ fields_of (drop (n + 1) xs)
fields_split xs n lt none space = let one : suc n ≡ n + 1 = omega arith in split_at xs n lt none space ∙ ap (λ (m : ℕ). take n xs ∷ fields_of (drop m xs)) one

length_with : (b : ℕ) (fs : List (List ℕ)) → 1 ≤ length fs → length (with_byte b fs) ≡ length fs
length_with b [] some = absurd (omega arith)
length_with b (f ∷ fs) some = refl

some_fields : (xs : List ℕ) → 1 ≤ length (fields_of xs)
unfolding fields_of
some_fields [] = omega arith
some_fields (x ∷ xs) = by_test (x == 32) (some_fields xs) where
  by_test : (b : Bool) → 1 ≤ length (fields_of xs) → 1 ≤ length (cond b ([] ∷ fields_of xs) (with_byte x (fields_of xs)))
  by_test true h = omega arith
  by_test false h = omega (arith, length_with x (fields_of xs) h, h)

-- there is at most one field more than bytes
pub fields_len : (xs : List ℕ) → length (fields_of xs) ≤ length xs + 1
unfolding fields_of
fields_len [] = omega arith
fields_len (x ∷ xs) = by_test (x == 32) (fields_len xs) where
  by_test : (b : Bool) → length (fields_of xs) ≤ length xs + 1 → length (cond b ([] ∷ fields_of xs) (with_byte x (fields_of xs))) ≤ length (x ∷ xs) + 1
  by_test true h = omega (arith, h)
  by_test false h = omega (arith, h, length_with x (fields_of xs) (some_fields xs))

-- `-` is no digit
pub minus_none : (xs : List ℕ) → get_or xs 0 0 ≡ 45 → magnitude xs ≡ None
unfolding magnitude
minus_none [] e = absurd cc
minus_none (x ∷ xs) e = rw e refl

-- a number that doesn't begin with `-` is unsigned
pub unsigned : (xs : List ℕ) (z : ℤ) (b : Bool) → b ≡ false → (get_or xs 0 0 ≡ 45 → IsTrue b) → number_of xs ≡ Some z → magnitude xs ≡ Some (size_of z)
unfolding number_of
unsigned [] z b f h e = absurd cc
unsigned (x ∷ xs) z b f h e = plain (magnitude (x ∷ xs)) z (rw (ne_eqb x 45 (λ m. let t = h m in cc)) at e) where
  plain : (o : Option ℕ) (z : ℤ) → option_map pos o ≡ Some z → o ≡ Some (size_of z)
  plain None z e = absurd cc
  plain (Some n) (pos m) e = cc
  plain (Some n) (negsuc m) e = absurd cc

pub unsigned_none : (xs : List ℕ) (b : Bool) → b ≡ false → (get_or xs 0 0 ≡ 45 → IsTrue b) → number_of xs ≡ None → magnitude xs ≡ None
unfolding number_of magnitude
unsigned_none [] b f h e = refl
unsigned_none (x ∷ xs) b f h e = plain (magnitude (x ∷ xs)) (rw (ne_eqb x 45 (λ m. let t = h m in cc)) at e) where
  plain : (o : Option ℕ) → option_map pos o ≡ None → o ≡ None
  plain None e = refl
  plain (Some n) e = absurd cc

-- some fields are read, and what is left
abbrev pub SoFar : List ℕ → Option (List ℕ) → Option (List ℕ) → Type 0
SoFar kept whole rest = (ns : List ℕ) × (kept ≡ map capped ns) × (whole ≡ option_map (λ more. ns ++ more) rest)

pub begins : (whole : Option (List ℕ)) → SoFar [] whole whole
begins None = ([], refl, refl)
begins (Some ns) = ([], refl, refl)

with_more : (ns : List ℕ) (n : ℕ) (read : Option (List ℕ)) → option_map (λ more. ns ++ more) (with_number (Some n) read) ≡ option_map (λ more. (ns ++ n ∷ []) ++ more) read
with_more ns n None = refl
with_more ns n (Some more) = ap Some (sym (append_assoc ns (n ∷ []) more))

pub goes_on : (kept : List ℕ) (whole : Option (List ℕ)) (f : List ℕ) (fs : List (List ℕ)) (m : ℕ) → SoFar kept whole (numbers_at (f ∷ fs)) → (n : ℕ) × (magnitude f ≡ Some n) × (m ≡ min n 4294967296) → SoFar (kept ++ m ∷ []) whole (numbers_at fs)
unfolding numbers_at
goes_on kept whole f fs m h r = (
  h.0 ++ r.0 ∷ [],
  ap (λ (xs : List ℕ). xs ++ m ∷ []) h.1 ∙ ap (λ (i : ℕ). map capped h.0 ++ i ∷ []) r.2 ∙ sym (map-append capped h.0 (r.0 ∷ [])),
  h.2 ∙ ap (λ (o : Option ℕ). option_map (λ more. h.0 ++ more) (with_number o (numbers_at fs))) r.1 ∙ with_more h.0 r.0 (numbers_at fs),
)

pub stops : (kept : List ℕ) (whole : Option (List ℕ)) (f : List ℕ) (fs : List (List ℕ)) → SoFar kept whole (numbers_at (f ∷ fs)) → magnitude f ≡ None → whole ≡ None
unfolding numbers_at
stops kept whole f fs h none = h.2 ∙ ap (λ (o : Option ℕ). option_map (λ more. h.0 ++ more) (with_number o (numbers_at fs))) none

pub ends : (kept : List ℕ) (whole : Option (List ℕ)) → SoFar kept whole (numbers_at []) → Keeps kept whole
unfolding numbers_at
ends kept whole h = (h.0, h.2 ∙ ap Some (append-nil h.0), h.1)
