-- The words of a line.
use Rattle.std.specs.Prelude.{ℕ, Bool, ◌||◌, ◌==◌, List, [], ◌∷◌, ◌++◌, if◌then◌else◌}

-- space, tab or CR
abbrev pub is_white : ℕ → Bool
is_white b = (b == 32) || (b == 9) || (b == 13)

-- a word that was begun ends here
abbrev pub word_of : List ℕ → List (List ℕ)
word_of [] = []
word_of (b ∷ bs) = (b ∷ bs) ∷ []

-- the words of what follows these bytes of a word
unfoldable pub words_from : List ℕ → List ℕ → List (List ℕ)
words_from begun [] = word_of begun
words_from begun (b ∷ bs) = if is_white b then word_of begun ++ words_from [] bs
    else words_from (begun ++ b ∷ []) bs

-- the words, in order
abbrev pub words_of : List ℕ → List (List ℕ)
words_of line = words_from [] line
