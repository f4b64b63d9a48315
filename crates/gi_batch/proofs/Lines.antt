-- The lines of a model.
use Rattle.std.proofs.Common.{◌≡◌, ℕ, zero, suc, ◌+◌, ◌-◌, ◌*◌, ◌<◌, ◌≤◌, List, [], ◌∷◌, ◌++◌, length, map, take, drop, refl, ap, sym, ◌∙◌, append_assoc, arith, length-append}
use Rattle.std.specs.List.{flat_map, range_with_len}
use Rattle.std.specs.Fork.{slice_chunk}
use Rattle.std.proofs.lemmas.List.{append-nil, drop-append-le, take-append-le, drop-map, take-map, length-drop, length-map, take_all, take_rest}
use Rattle.std.proofs.lemmas.List.Concat.{flat_map-append}
use Rattle.gi_dimacs.specs.Literals.{literal_text}
use Rattle.gi_batch.specs.Output.{line_text, words_of}

-- each literal behind a space
abbrev pub spaced : List ℕ → List ℕ
spaced literals = flat_map (λ l. 32 ∷ literal_text l) literals

spaced_words : (ls : List ℕ) → flat_map (λ word. 32 ∷ word) (map literal_text ls) ≡ spaced ls
spaced_words [] = refl
spaced_words (l ∷ ls) = ap (λ xs. (32 ∷ literal_text l) ++ xs) (spaced_words ls)

-- the words from a place on
words_left : (ls : List ℕ) (n : ℕ) → n ≤ length ls → drop n (words_of ls) ≡ map literal_text (drop n ls) ++ (48 ∷ []) ∷ []
words_left ls n le =
    drop-append-le n (map literal_text ls) ((48 ∷ []) ∷ []) (omega (arith, length-map ls literal_text))
    ∙ ap (λ xs. xs ++ (48 ∷ []) ∷ []) (drop-map literal_text n ls)

-- a line of twelve literals
pub full_line : (ls : List ℕ) (i : ℕ) → i * 12 + 12 ≤ length ls → (118 ∷ spaced (take 12 (drop (i * 12) ls))) ++ 10 ∷ [] ≡ line_text (slice_chunk (words_of ls) 12 i)
full_line ls i le =
    let whole : length (map literal_text (drop (i * 12) ls)) ≡ length ls - i * 12 = length-map (drop (i * 12) ls) literal_text ∙ length-drop (i * 12) ls in
    let chunk : take 12 (drop (i * 12) (words_of ls)) ≡ map literal_text (take 12 (drop (i * 12) ls))
    = ap (take 12) (words_left ls (i * 12) (omega arith))
    ∙ take-append-le 12 (map literal_text (drop (i * 12) ls)) ((48 ∷ []) ∷ []) (omega arith)
    ∙ take-map literal_text 12 (drop (i * 12) ls) in
    sym (ap line_text chunk ∙ ap (λ xs. 118 ∷ (xs ++ 10 ∷ [])) (spaced_words (take 12 (drop (i * 12) ls))))

-- the line of the literals that are left, and 0
pub rest_line : (ls : List ℕ) (i : ℕ) → i * 12 ≤ length ls → length ls < i * 12 + 12 → (118 ∷ spaced (drop (i * 12) ls)) ++ (32 ∷ 48 ∷ 10 ∷ []) ≡ line_text (slice_chunk (words_of ls) 12 i)
rest_line ls i le lt =
    let words : List (List ℕ) = map literal_text (drop (i * 12) ls) in
    let whole : length words ≡ length ls - i * 12 = length-map (drop (i * 12) ls) literal_text ∙ length-drop (i * 12) ls in
    let lengths : length (words ++ (48 ∷ []) ∷ []) ≡ length words + 1 = length-append words ((48 ∷ []) ∷ []) in
    let chunk : take 12 (drop (i * 12) (words_of ls)) ≡ words ++ (48 ∷ []) ∷ []
    = ap (take 12) (words_left ls (i * 12) le) ∙ take_all 12 (words ++ (48 ∷ []) ∷ []) (omega arith) in
    sym (ap line_text chunk
    ∙ ap (λ xs. 118 ∷ (xs ++ 10 ∷ [])) (flat_map-append (λ (word : List ℕ). 32 ∷ word) words ((48 ∷ []) ∷ []) ∙ ap (λ xs. xs ++ (32 ∷ 48 ∷ [])) (spaced_words (drop (i * 12) ls)))
    ∙ ap (λ xs. 118 ∷ xs) (append_assoc (spaced (drop (i * 12) ls)) (32 ∷ 48 ∷ []) (10 ∷ [])))

range_more : (a n : ℕ) → range_with_len a (n + 1) ≡ range_with_len a n ++ (a + n) ∷ []
range_more a zero = ap (λ m. m ∷ []) (let e : a ≡ a + 0 = omega arith in e)
range_more a (suc n) =
    let e : suc n + 1 ≡ suc (n + 1) = omega arith in
    let d : a + 1 + n ≡ a + suc n = omega arith in
    ap (range_with_len a) e ∙ ap (λ xs. a ∷ xs) (range_more (a + 1) n ∙ ap (λ m. range_with_len (a + 1) n ++ m ∷ []) d)

-- one line more
pub lines_more : (f : ℕ → List ℕ) (before : List ℕ) (n : ℕ) → (before ++ flat_map f (range_with_len 0 n)) ++ f n ≡ before ++ flat_map f (range_with_len 0 (n + 1))
lines_more f before n =
    let e : flat_map f (range_with_len 0 (n + 1)) ≡ flat_map f (range_with_len 0 n) ++ f n
    = ap (flat_map f) (range_more 0 n) ∙ flat_map-append f (range_with_len 0 n) ((0 + n) ∷ []) ∙ ap (λ xs. flat_map f (range_with_len 0 n) ++ xs) (append-nil (f (0 + n)) ∙ ap f (let z : 0 + n ≡ n = omega arith in z)) in
    append_assoc before (flat_map f (range_with_len 0 n)) (f n) ∙ ap (λ xs. before ++ xs) (sym e)

-- such a line behind what was put before
pub full_put : (before ls piece : List ℕ) (i : ℕ) → piece ≡ take 12 (drop (i * 12) ls) → i * 12 + 12 ≤ length ls → (before ++ 118 ∷ spaced piece) ++ 10 ∷ [] ≡ before ++ line_text (slice_chunk (words_of ls) 12 i)
full_put before ls piece i is le = append_assoc before (118 ∷ spaced piece) (10 ∷ []) ∙ ap (λ xs. before ++ ((118 ∷ spaced xs) ++ 10 ∷ [])) is ∙ ap (λ xs. before ++ xs) (full_line ls i le)

pub rest_put : (before ls piece : List ℕ) (i : ℕ) → piece ≡ drop (i * 12) ls → i * 12 ≤ length ls → length ls < i * 12 + 12 → (before ++ 118 ∷ spaced piece) ++ (32 ∷ 48 ∷ 10 ∷ []) ≡ before ++ line_text (slice_chunk (words_of ls) 12 i)
rest_put before ls piece i is le lt = append_assoc before (118 ∷ spaced piece) (32 ∷ 48 ∷ 10 ∷ []) ∙ ap (λ xs. before ++ ((118 ∷ spaced xs) ++ (32 ∷ 48 ∷ 10 ∷ []))) is ∙ ap (λ xs. before ++ xs) (rest_line ls i le lt)

pub rest_is : (ls : List ℕ) (n : ℕ) → take (length ls - n) (drop n ls) ≡ drop n ls
rest_is ls n = take_rest ls n
