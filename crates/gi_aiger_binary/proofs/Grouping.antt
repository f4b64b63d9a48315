-- The shortest spelling of a number, group by group.
use Rattle.std.proofs.Common.{◌≡◌, ℕ, zero, suc, ◌+◌, ◌/◌, ◌%◌, ◌<◌, ◌≤◌, List, [], ◌∷◌, inl, inr, refl, ap, sym, ◌∙◌, arith}
use Rattle.std.proofs.lemmas.Bool.{cases_lt, le-ltb, lt-ltb}
use Rattle.gi_aiger_binary.specs.Differences.{groups_within, groups_of}

-- one group
last_group : (k n : ℕ) → n < 128 → groups_within k n ≡ n ∷ []
unfolding groups_within
last_group zero n lt = refl
last_group (suc k) n lt = rw (lt-ltb n 128 lt) refl

-- a group more
first_group : (k n : ℕ) → 128 ≤ n → groups_within (suc k) n ≡ (n % 128 + 128) ∷ groups_within k (n / 128)
unfolding groups_within
first_group k n le = rw (le-ltb n 128 le) refl

enough : (j k n : ℕ) → n ≤ j → n ≤ k → groups_within j n ≡ groups_within k n
enough zero k n a b = last_group zero n (omega arith) ∙ sym (last_group k n (omega arith))
enough (suc j) zero n a b = last_group (suc j) n (omega arith) ∙ sym (last_group zero n (omega arith))
enough (suc j) (suc k) n a b = elim (cases_lt n 128) [
  | inl lt ↦ last_group (suc j) n lt ∙ sym (last_group (suc k) n lt)
  | inr ge ↦ first_group j n ge ∙ ap (λ (gs : List ℕ). (n % 128 + 128) ∷ gs) (enough j k (n / 128) (omega arith) (omega arith)) ∙ sym (first_group k n ge)
]

pub groups_last : (n : ℕ) → n < 128 → groups_of n ≡ n ∷ []
unfolding groups_of
groups_last n lt = last_group n n lt

pub groups_more : (n : ℕ) → 128 ≤ n → groups_of n ≡ (n % 128 + 128) ∷ groups_of (n / 128)
unfolding groups_of
groups_more zero le = absurd (omega arith)
groups_more (suc n) le = first_group n (suc n) le ∙ ap (λ (gs : List ℕ). (suc n % 128 + 128) ∷ gs) (enough n (suc n / 128) (suc n / 128) (omega arith) (omega arith))
