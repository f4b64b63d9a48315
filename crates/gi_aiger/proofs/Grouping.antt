-- The number that groups spell, from the last one on.
use Rattle.std.proofs.Common.{◌≡◌, ℕ, zero, suc, ◌+◌, ◌*◌, ◌-◌, ◌%◌, ◌<◌, min, List, [], ◌∷◌, length, drop, get_or, refl, ap, ◌∙◌, arith}
use Rattle.gi_aiger.specs.Groups.{value_of}

pub value_at : (xs : List ℕ) (k : ℕ) → k < length xs → value_of (drop k xs) ≡ get_or xs k 0 % 128 + 128 * value_of (drop (suc k) xs)
unfolding value_of
value_at [] k lt = absurd (omega arith)
value_at (x ∷ xs) zero lt = refl
value_at (x ∷ xs) (suc k) lt = value_at xs k (omega arith)

value_none : (xs : List ℕ) (k : ℕ) → k ≡ length xs → value_of (drop k xs) ≡ 0
unfolding value_of
value_none [] zero e = refl
value_none [] (suc k) e = absurd (omega arith)
value_none (x ∷ xs) zero e = absurd (omega arith)
value_none (x ∷ xs) (suc k) e = value_none xs k (omega arith)

pub starts : (xs : List ℕ) → 0 ≡ min (value_of (drop (length xs - 0) xs)) 4294967296
starts xs = let h = value_none xs (length xs - 0) (omega arith) in omega (arith, h)

capped_step : (d v w value : ℕ) → value ≡ min v 4294967296 → w ≡ d + 128 * v → min (d + 128 * value) 4294967296 ≡ min w 4294967296
capped_step d v w value h e = omega arith

pub goes_on : (xs : List ℕ) (i value : ℕ) → i < length xs → value ≡ min (value_of (drop (length xs - i) xs)) 4294967296 → min (get_or xs (length xs - 1 - i) 0 % 128 + 128 * value) 4294967296 ≡ min (value_of (drop (length xs - (i + 1)) xs)) 4294967296
goes_on xs i value lt h =
    let here : length xs - 1 - i ≡ length xs - (i + 1) = omega arith in
    let next : suc (length xs - 1 - i) ≡ length xs - i = omega arith in
    let v = value_at xs (length xs - 1 - i) (omega arith) ∙ ap (λ (m : ℕ). get_or xs (length xs - 1 - i) 0 % 128 + 128 * value_of (drop m xs)) next in
    capped_step (get_or xs (length xs - 1 - i) 0 % 128) (value_of (drop (length xs - i) xs)) (value_of (drop (length xs - 1 - i) xs)) value h v ∙ ap (λ (m : ℕ). min (value_of (drop m xs)) 4294967296) here

pub ends : (xs : List ℕ) (value : ℕ) → value ≡ min (value_of (drop (length xs - length xs) xs)) 4294967296 → value ≡ min (value_of xs) 4294967296
ends xs value h = let none : length xs - length xs ≡ 0 = omega arith in h ∙ ap (λ (m : ℕ). min (value_of (drop m xs)) 4294967296) none
