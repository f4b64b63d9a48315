-- A number's groups are read as that number.
use Rattle.std.proofs.Common.{◌≡◌, ◌≢◌, ℕ, zero, suc, ◌+◌, ◌-◌, ◌/◌, ◌%◌, ◌<◌, ◌≤◌, nat_lt, Bool, true, false, ◌&&◌, List, [], ◌∷◌, ◌++◌, length, get_or, inl, inr, Option, Some, option_map, refl, ap, sym, ◌∙◌, subst, arith}
use Rattle.std.proofs.lemmas.Bool.{cases_lt, le-ltb, lt-ltb, ne_eqb}
use Rattle.gi_aiger.specs.Groups.{groups_at, value_of, is_longer, difference_of}
use Rattle.gi_aiger_binary.specs.Differences.{groups_of}
use Rattle.gi_aiger_binary.proofs.Grouping.{groups_last, groups_more}

abbrev Split : List ℕ → List ℕ → Option (List ℕ × List ℕ)
Split groups rest = Some (groups, rest)

-- an induction over a number's groups
by_groups : (P : ℕ → List ℕ → Type 0) → ((n : ℕ) → n < 128 → P n (n ∷ [])) → ((n : ℕ) (gs : List ℕ) → 128 ≤ n → P (n / 128) gs → P n ((n % 128 + 128) ∷ gs)) → (n : ℕ) → P n (groups_of n)
by_groups P one more n = go n n (omega arith) where
  go : (k n : ℕ) → n ≤ k → P n (groups_of n)
  go zero n le = subst (P n) (sym (groups_last n (omega arith))) (one n (omega arith))
  go (suc k) n le = elim (cases_lt n 128) [
    | inl lt ↦ subst (P n) (sym (groups_last n lt)) (one n lt)
    | inr ge ↦ subst (P n) (sym (groups_more n ge)) (more n (groups_of (n / 128)) ge (go k (n / 128) (omega arith)))
  ]

pub groups_split : (n : ℕ) (rest : List ℕ) → groups_at (groups_of n ++ rest) ≡ Split (groups_of n) rest
unfolding groups_at
groups_split n rest = by_groups (λ n gs. groups_at (gs ++ rest) ≡ Split gs rest) (λ n lt. one n lt) (λ n gs le h. more n gs h) n where
  one : (n : ℕ) → n < 128 → groups_at (n ∷ rest) ≡ Split (n ∷ []) rest
  one n lt = rw (lt-ltb n 128 lt) refl

  more : (n : ℕ) (gs : List ℕ) → groups_at (gs ++ rest) ≡ Split gs rest → groups_at ((n % 128 + 128) ∷ gs ++ rest) ≡ Split ((n % 128 + 128) ∷ gs) rest
  more n gs h = rw (le-ltb (n % 128 + 128) 128 (omega arith)) (ap (option_map (λ p. ((n % 128 + 128) ∷ p.0, p.1))) h)

groups_value : (n : ℕ) → value_of (groups_of n) ≡ n
unfolding value_of
groups_value = by_groups (λ n gs. value_of gs ≡ n) one more where
  one : (n : ℕ) → n < 128 → value_of (n ∷ []) ≡ n
  one n lt = omega arith

  more : (n : ℕ) (gs : List ℕ) → 128 ≤ n → value_of gs ≡ n / 128 → value_of ((n % 128 + 128) ∷ gs) ≡ n
  more n gs le h = omega (arith, h)

-- one group, or one more than some whose last is not 0
record Shortest (n : ℕ) (gs : List ℕ) : Type 0 where
  some : 0 < length gs
  one : n < 128 → length gs ≡ 1
  last : 0 < n → get_or gs (length gs - 1) 0 ≢ 0

groups_shortest : (n : ℕ) → Shortest n (groups_of n)
groups_shortest = by_groups Shortest (λ n lt. record { some = omega arith; one = λ _. refl; last = λ some. one_last n some }) (λ n gs le h. record { some = omega arith; one = λ lt. absurd (omega arith); last = λ some. more_last n gs le h }) where
  one_last : (n : ℕ) → 0 < n → get_or (n ∷ []) (length (n ∷ []) - 1) 0 ≢ 0
  one_last n some e = let x : n ≡ 0 = e in omega arith

  last_at : (b : ℕ) (gs : List ℕ) → 0 < length gs → get_or (b ∷ gs) (length (b ∷ gs) - 1) 0 ≡ get_or gs (length gs - 1) 0
  last_at b gs some = ap (λ (k : ℕ). get_or (b ∷ gs) k 0) (let e : length (b ∷ gs) - 1 ≡ suc (length gs - 1) = omega arith in e)

  more_last : (n : ℕ) (gs : List ℕ) → 128 ≤ n → Shortest (n / 128) gs → get_or ((n % 128 + 128) ∷ gs) (length ((n % 128 + 128) ∷ gs) - 1) 0 ≢ 0
  more_last n gs le h e = h.last (omega arith) (sym (last_at (n % 128 + 128) gs h.some) ∙ e)

not_longer : (n : ℕ) (gs : List ℕ) → Shortest n gs → is_longer gs ≡ false
not_longer n gs h = elim (cases_lt n 128) [
  | inl lt ↦ (let one = h.one lt in rw (le-ltb 1 (length gs) (omega arith)) refl)
  | inr ge ↦ rw (ne_eqb (get_or gs (length gs - 1) 0) 0 (h.last (omega arith))) (and_false (nat_lt 1 (length gs)))
] where
  and_false : (b : Bool) → (b && false) ≡ false
  and_false true = refl
  and_false false = refl

pub groups_read : (n : ℕ) → n < 4294967296 → difference_of (groups_of n) ≡ Some n
groups_read n small = rw (not_longer n (groups_of n) (groups_shortest n), groups_value n) (rw (lt-ltb n 4294967296 small) refl)
