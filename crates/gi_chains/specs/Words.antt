use Rattle.std.specs.Prelude.{◌≡◌, ℕ, zero, suc, Option, Some, None}

-- what a word says: 0 for none, else a number and one
abbrev pub link_of : ℕ → Option ℕ
link_of zero = None
link_of (suc k) = Some k

-- the word that says it
abbrev pub word_of : Option ℕ → ℕ
word_of None = zero
word_of (Some k) = suc k

-- no two words say the same
pub word_of-link_of : (w : ℕ) → word_of (link_of w) ≡ w
word_of-link_of zero = λ i. zero
word_of-link_of (suc k) = λ i. suc k

-- the kept one where there is a neighbour, else the other
abbrev pub kept_if_some : Option ℕ → Option ℕ → Option ℕ → Option ℕ
kept_if_some None kept other = other
kept_if_some (Some k) kept other = kept
