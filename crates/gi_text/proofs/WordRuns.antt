-- Words, one run after another.
use Rattle.std.proofs.Common.{suc, zero, ◌≡◌, ◌≢◌, ℕ, ◌+◌, ◌<◌, ◌≤◌, List, [], ◌∷◌, ◌++◌, length, take, drop, get_or, Bool, true, false, cond, refl, ap, sym, ◌∙◌, append_assoc, arith, length-append, subst, length-drop}
use Rattle.std.proofs.lemmas.List.{append-nil}
use Rattle.std.specs.List.{All}
use Rattle.gi_text.specs.Laws.{WordsAreRuns}
use Rattle.gi_text.specs.Words.{is_white, word_of, words_from, words_of}

-- white bytes at the front do not matter
pub words_skip : (xs : List ℕ) (k : ℕ) → k ≤ length xs → ((j : ℕ) → j < k → is_white (get_or xs j 0) ≡ true) → words_from [] xs ≡ words_from [] (drop k xs)
unfolding words_from
words_skip xs zero le white = refl
words_skip [] (suc k) le white = refl
words_skip (x ∷ xs) (suc k) le white = rw (white 0 (omega arith)) (words_skip xs k (omega arith) (λ j h. white (suc j) (omega arith)))

one_word : (bs : List ℕ) → 0 < length bs → word_of bs ≡ bs ∷ []
one_word [] more = absurd (omega arith)
one_word (b ∷ bs) more = refl

true_of : (b : Bool) → b ≢ false → b ≡ true
true_of true h = refl
true_of false h = absurd (h refl)

-- a run is a word
pub words_run : (begun xs : List ℕ) (n : ℕ) → n ≤ length xs → ((j : ℕ) → j < n → is_white (get_or xs j 0) ≡ false) → (n < length xs → is_white (get_or xs n 0) ≢ false) → 0 < length begun + n → words_from begun xs ≡ (begun ++ take n xs) ∷ words_from [] (drop n xs)
unfolding words_from
words_run begun [] zero le run ends more = one_word begun (omega arith) ∙ ap (λ xs. xs ∷ []) (sym (append-nil begun))
words_run begun [] (suc n) le run ends more = absurd (omega arith)
words_run begun (x ∷ xs) zero le run ends more =
    let white = true_of (is_white x) (ends (omega arith)) in
    rw white (ap (λ ws. ws ++ words_from [] xs) (one_word begun (omega arith)) ∙ ap (λ w. w ∷ words_from [] xs) (sym (append-nil begun)))
words_run begun (x ∷ xs) (suc n) le run ends more =
    rw (run 0 (omega arith)) (words_run (begun ++ x ∷ []) xs n (omega arith) (λ j h. run (suc j) (omega arith)) (λ h. ends (omega arith)) (omega (arith, length-append begun (x ∷ [])))
    ∙ ap (λ w. w ∷ words_from [] (drop n xs)) (append_assoc begun (x ∷ []) (take n xs)))

-- no run at the front and no white byte: nothing is left
pub words_none : (xs : List ℕ) → (0 < length xs → is_white (get_or xs 0 0) ≢ true) → (0 < length xs → is_white (get_or xs 0 0) ≢ false) → xs ≡ []
words_none [] a b = refl
words_none (x ∷ xs) a b = absurd (a (omega arith) (true_of (is_white x) (b (omega arith))))

head_after : (xs : List ℕ) (k : ℕ) → get_or (drop k xs) 0 0 ≡ get_or xs k 0
head_after xs zero = refl
head_after [] (suc k) = refl
head_after (x ∷ xs) (suc k) = head_after xs k

-- white bytes alone are no word
pub words_nil : (xs rest : List ℕ) (k : ℕ) → k ≤ length xs → ((j : ℕ) → j < k → is_white (get_or xs j 0) ≡ true) → (k < length xs → is_white (get_or xs k 0) ≢ true) → rest ≡ drop k xs → (0 < length rest → is_white (get_or rest 0 0) ≢ false) → words_of xs ≡ []
unfolding words_from
words_nil xs rest k le white ends e run =
    let first : get_or rest 0 0 ≡ get_or xs k 0 = ap (λ ys. get_or ys 0 0) e ∙ head_after xs k in
    let none : rest ≡ [] = words_none rest (λ h. subst (λ (b : ℕ). is_white b ≢ true) (sym first) (ends (omega (arith, ap length e, length-drop k xs)))) run in
    words_skip xs k le white ∙ ap (words_from []) (sym e ∙ none)

-- a word up to a white byte
pub words-append : (begun word : List ℕ) (b : ℕ) (rest : List ℕ) → 0 < length begun + length word → All (λ c. is_white c ≡ false) word → is_white b ≡ true → words_from begun (word ++ b ∷ rest) ≡ (begun ++ word) ∷ words_from [] rest
unfolding words_from
words-append begun [] b rest more all white = rw white (ap (λ ws. ws ++ words_from [] rest) (one_word begun (omega arith)) ∙ ap (λ w. w ∷ words_from [] rest) (sym (append-nil begun)))
words-append begun (x ∷ word) b rest more all white =
    let off : is_white x ≡ false = all zero x (omega arith) in
    rw off (words-append (begun ++ x ∷ []) word b rest (omega (arith, length-append begun (x ∷ []))) (λ k d lt. all (suc k) d (omega arith)) white
    ∙ ap (λ w. w ∷ words_from [] rest) (append_assoc begun (x ∷ []) word))

-- a word up to the end
pub words_last : (begun word : List ℕ) → 0 < length begun + length word → All (λ c. is_white c ≡ false) word → words_from begun word ≡ (begun ++ word) ∷ []
unfolding words_from
words_last begun [] more all = one_word begun (omega arith) ∙ ap (λ w. w ∷ []) (sym (append-nil begun))
words_last begun (x ∷ word) more all =
    let off : is_white x ≡ false = all zero x (omega arith) in
    rw off (words_last (begun ++ x ∷ []) word (omega (arith, length-append begun (x ∷ []))) (λ k d lt. all (suc k) d (omega arith)) ∙ ap (λ w. w ∷ []) (append_assoc begun (x ∷ []) word))

pub runs : WordsAreRuns
unfolding words_from
runs = record {
  none = refl;
  white = λ b rest white. rw white refl;
  word = λ word b rest more all white. words-append [] word b rest (omega arith) all white;
  last = λ word more all. words_last [] word (omega arith) all;
}

length_from : (begun xs : List ℕ) → length (words_from begun xs) ≤ length (word_of begun) + length xs
unfolding words_from
length_from begun [] = omega arith
length_from begun (x ∷ xs) = by_white (is_white x) (length_from [] xs) (length_from (begun ++ x ∷ []) xs) where
  one : (bs : List ℕ) → length (word_of bs) ≤ 1
  one [] = omega arith
  one (b ∷ bs) = omega arith

  by_white : (b : Bool) → length (words_from [] xs) ≤ 0 + length xs → length (words_from (begun ++ x ∷ []) xs) ≤ length (word_of (begun ++ x ∷ [])) + length xs → length (cond b (word_of begun ++ words_from [] xs) (words_from (begun ++ x ∷ []) xs)) ≤ length (word_of begun) + length (x ∷ xs)
  by_white true rest more = omega (arith, length-append (word_of begun) (words_from [] xs), rest)
  by_white false rest more = omega (arith, one (begun ++ x ∷ []), more)

-- there are no more words than bytes
pub words_len : (xs : List ℕ) → length (words_of xs) ≤ length xs
words_len xs = omega (arith, length_from [] xs)
