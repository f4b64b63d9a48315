-- Fields, one after another.
use Rattle.std.proofs.Common.{◌≡◌, ◌≢◌, ℕ, zero, suc, ◌<◌, ◌↔◌, List, [], ◌∷◌, ◌++◌, length, take, drop, get_or, Bool, true, false, cond, inl, inr, refl, ap, sym, ◌∙◌, append_assoc, arith}
use Rattle.std.specs.List.{All}
use Rattle.std.proofs.lemmas.List.{append-nil}
use Rattle.std.proofs.lemmas.Bool.{eq-eqb, ne_eqb}
use Rattle.std.proofs.lemmas.Bool.Decides.{eqb_tells}
use Rattle.gi_wire.specs.Fields.{fields_from, fields_of}

-- a field up to a space, and up to the end
space_from : (begun field rest : List ℕ) → All (λ b. b ≢ 32) field → fields_from begun (field ++ 32 ∷ rest) ≡ (begun ++ field) ∷ fields_from [] rest
unfolding fields_from
space_from begun [] rest h = ap (λ (f : List ℕ). f ∷ fields_from [] rest) (sym (append-nil begun))
space_from begun (x ∷ field) rest h =
    rw (ne_eqb x 32 (h zero x (omega arith))) (space_from (begun ++ x ∷ []) field rest (λ k d lt. h (suc k) d (omega arith)) ∙ ap (λ (f : List ℕ). f ∷ fields_from [] rest) (append_assoc begun (x ∷ []) field))

last_from : (begun field : List ℕ) → All (λ b. b ≢ 32) field → fields_from begun field ≡ (begun ++ field) ∷ []
unfolding fields_from
last_from begun [] h = ap (λ (f : List ℕ). f ∷ []) (sym (append-nil begun))
last_from begun (x ∷ field) h =
    rw (ne_eqb x 32 (h zero x (omega arith))) (last_from (begun ++ x ∷ []) field (λ k d lt. h (suc k) d (omega arith)) ∙ ap (λ (f : List ℕ). f ∷ []) (append_assoc begun (x ∷ []) field))

pub field_space : (field rest : List ℕ) → All (λ b. b ≢ 32) field → fields_of (field ++ 32 ∷ rest) ≡ field ∷ fields_of rest
field_space field rest h = space_from [] field rest h

pub field_last : (field : List ℕ) → All (λ b. b ≢ 32) field → fields_of field ≡ field ∷ []
field_last field h = last_from [] field h

-- the same, by places
run_from : (begun xs : List ℕ) (n : ℕ) → n < length xs → ((k : ℕ) → k < n → get_or xs k 0 ≢ 32) → get_or xs n 0 ≡ 32 → fields_from begun xs ≡ (begun ++ take n xs) ∷ fields_from [] (drop 1 (drop n xs))
unfolding fields_from
run_from begun [] n lt run ends = absurd (omega arith)
run_from begun (x ∷ xs) zero lt run ends = rw (eq-eqb x 32 ends) (ap (λ (f : List ℕ). f ∷ fields_from [] xs) (sym (append-nil begun)))
run_from begun (x ∷ xs) (suc n) lt run ends =
    rw (ne_eqb x 32 (run 0 (omega arith))) (run_from (begun ++ x ∷ []) xs n (omega arith) (λ k h. run (suc k) (omega arith)) ends ∙ ap (λ (f : List ℕ). f ∷ fields_from [] (drop 1 (drop n xs))) (append_assoc begun (x ∷ []) (take n xs)))

pub field_run : (xs : List ℕ) (n : ℕ) → n < length xs → ((k : ℕ) → k < n → get_or xs k 0 ≢ 32) → get_or xs n 0 ≡ 32 → fields_of xs ≡ take n xs ∷ fields_of (drop 1 (drop n xs))
field_run xs n lt run ends = run_from [] xs n lt run ends

all_from : (begun xs : List ℕ) → ((k : ℕ) → k < length xs → get_or xs k 0 ≢ 32) → fields_from begun xs ≡ (begun ++ xs) ∷ []
unfolding fields_from
all_from begun [] run = ap (λ (f : List ℕ). f ∷ []) (sym (append-nil begun))
all_from begun (x ∷ xs) run =
    rw (ne_eqb x 32 (run 0 (omega arith))) (all_from (begun ++ x ∷ []) xs (λ k h. run (suc k) (omega arith)) ∙ ap (λ (f : List ℕ). f ∷ []) (append_assoc begun (x ∷ []) xs))

pub field_whole : (xs : List ℕ) (n : ℕ) → n ≡ length xs → ((k : ℕ) → k < n → get_or xs k 0 ≢ 32) → fields_of xs ≡ xs ∷ []
field_whole xs n whole run = all_from [] xs (λ k lt. run k (omega arith))

-- fields with a space between each two
abbrev pub joined : List (List ℕ) → List ℕ
joined [] = []
joined (f ∷ []) = f
joined (f ∷ g ∷ fs) = f ++ 32 ∷ joined (g ∷ fs)

pub joined_more : (f : List ℕ) (fs : List (List ℕ)) → 0 < length fs → joined (f ∷ fs) ≡ f ++ 32 ∷ joined fs
joined_more f [] some = absurd (omega arith)
joined_more f (g ∷ fs) some = refl

some_from : (begun xs : List ℕ) → 0 < length (fields_from begun xs)
unfolding fields_from
some_from begun [] = omega arith
some_from begun (x ∷ xs) = elim (eqb_tells x 32) [
  | inl t ↦ rw t.0 (omega arith)
  | inr f ↦ rw f.0 (some_from (begun ++ x ∷ []) xs)
]

joined_from : (begun xs : List ℕ) → joined (fields_from begun xs) ≡ begun ++ xs
unfolding fields_from
joined_from begun [] = sym (append-nil begun)
joined_from begun (x ∷ xs) = elim (eqb_tells x 32) [
  | inl t ↦ rw t.0 (joined_more begun (fields_from [] xs) (some_from [] xs) ∙ ap (λ (ys : List ℕ). begun ++ 32 ∷ ys) (joined_from [] xs) ∙ ap (λ (c : ℕ). begun ++ c ∷ xs) (sym t.1))
  | inr f ↦ rw f.0 (joined_from (begun ++ x ∷ []) xs ∙ append_assoc begun (x ∷ []) xs)
]

-- they are the line
pub joined_fields : (xs : List ℕ) → joined (fields_of xs) ≡ xs
joined_fields xs = joined_from [] xs

-- once all were taken none is left, and before some is
pub empty_if : (done : Bool) (xs : List ℕ) → (done ≡ true) ↔ (cond done [] (fields_of xs) ≡ [])
empty_if true xs = (λ e. refl, λ e. refl)
empty_if false xs = (λ e. absurd cc, λ e. absurd (none (ap length e))) where
  none : length (fields_of xs) ≡ 0 → ⊥
  none e = let some = some_from [] xs in omega arith
