-- Laws of lines, words and numbers.
use Rattle.std.specs.Prelude.{◌≡◌, ◌≢◌, ◌↔◌, ℕ, ◌^◌, ◌<◌, ℤ, true, false, List, [], ◌∷◌, ◌++◌, length, Some, All}
use Rattle.std.specs.Fmt.{signed_decimal}
use Rattle.gi_text.specs.Lines.{Kept, fed, line_at}
use Rattle.gi_text.specs.Words.{is_white, words_of}
use Rattle.gi_text.specs.Numbers.{number_of, size_of}

-- a piece may be fed in two parts
abbrev pub CutsDoNotMatter : Type 0
CutsDoNotMatter = (old : Kept) (a b : List ℕ)
    → fed (record old { left = fed old a }) b ≡ fed old (a ++ b)

-- a line is what stands before the first LF
abbrev pub EndsAtFirstLf : Type 0
EndsAtFirstLf = (bytes line rest : List ℕ) → (line_at bytes ≡ Some (line, rest))
    ↔ ((bytes ≡ line ++ 10 ∷ rest) × All (λ b. b ≢ 10) line)

-- white bytes stand in no word, and a word goes on up to a white byte or to the end
pub record WordsAreRuns : Type 0 where
  pub none : words_of [] ≡ []
  pub white : (b : ℕ) (rest : List ℕ) → is_white b ≡ true → words_of (b ∷ rest) ≡ words_of rest
  pub word : (word : List ℕ) (b : ℕ) (rest : List ℕ) → 0 < length word
      → All (λ c. is_white c ≡ false) word → is_white b ≡ true
      → words_of (word ++ b ∷ rest) ≡ word ∷ words_of rest
  pub last : (word : List ℕ) → 0 < length word → All (λ c. is_white c ≡ false) word
      → words_of word ≡ word ∷ []

-- the shortest spelling of a number of up to 64 bits and a sign is that number
abbrev pub SpellingsAreRead : Type 0
SpellingsAreRead = (z : ℤ) → size_of z < 2 ^ 64 → number_of (signed_decimal z) ≡ Some z
