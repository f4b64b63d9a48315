-- The first space of a line.
use Rattle.std.proofs.Common.{◌≡◌, ◌≢◌, ℕ, zero, suc, ◌+◌, ◌<◌, List, [], ◌∷◌, length, take, drop, get_or, Option, Some, None, option_map, refl, ap, ◌∙◌, arith}
use Rattle.std.proofs.lemmas.Bool.{ne_eqb}
use Rattle.gi_aiger.specs.Fields.{split_space}

-- no space
pub space_none : (xs : List ℕ) → ((k : ℕ) → k < length xs → get_or xs k 0 ≢ 32) → split_space xs ≡ None
unfolding split_space
space_none [] none = refl
space_none (x ∷ xs) none = rw (ne_eqb x 32 (none 0 (omega arith))) (ap (option_map (λ p. (x ∷ p.0, p.1))) (space_none xs (λ k lt. none (suc k) (omega arith))))

-- what stands in front of a space, and behind it
abbrev pub parts : List ℕ → List ℕ → Option (List ℕ × List ℕ)
parts xs ys = Some (xs, ys)

-- the first space
space_at : (xs : List ℕ) (n : ℕ) → n < length xs → ((k : ℕ) → k < n → get_or xs k 0 ≢ 32) → get_or xs n 0 ≡ 32 → split_space xs ≡ parts (take n xs) (drop (suc n) xs)
unfolding split_space
space_at [] n lt none space = absurd (omega arith)
space_at (x ∷ xs) zero lt none space = rw space refl
space_at (x ∷ xs) (suc n) lt none space = rw (ne_eqb x 32 (none 0 (omega arith))) (ap (option_map (λ p. (x ∷ p.0, p.1))) (space_at xs n (omega arith) (λ k h. none (suc k) (omega arith)) space))

pub space_split : (xs : List ℕ) (n : ℕ) → n < length xs → ((k : ℕ) → k < n → get_or xs k 0 ≢ 32) → get_or xs n 0 ≡ 32 → split_space xs ≡ parts (take n xs) (drop (n + 1) xs)
space_split xs n lt none space = let one : suc n ≡ n + 1 = omega arith in space_at xs n lt none space ∙ ap (λ (m : ℕ). parts (take n xs) (drop m xs)) one
