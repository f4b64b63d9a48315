-- The last word of a line.
use Rattle.std.proofs.Common.{◌≡◌, ℕ, zero, suc, ◌+◌, ◌-◌, ◌<◌, ◌≤◌, List, [], ◌∷◌, ◌++◌, length, take, drop, get_or, Bool, true, false, cond, codes, bytes_eq, refl, ap, sym, ◌∙◌, append_assoc, arith, length-drop}
use Rattle.std.proofs.lemmas.List.{append-nil, get_or-drop, get_or-take}
use Rattle.std.proofs.lemmas.Slice.Eq.{bytes_eq-Decides}
use Rattle.gi_text.specs.Words.{is_white, word_of, words_from, words_of}
use Rattle.gi_text.proofs.WordRuns.{words_run}
use Rattle.gi_wire.specs.CallRead.{EndsAtPlus}
use Rattle.gi_wire.specs.Grammar.{but_last, ends_plus}

-- a white byte ends a word
pub words_split : (begun xs : List ℕ) (w : ℕ) (ys : List ℕ) → is_white w ≡ true → words_from begun (xs ++ w ∷ ys) ≡ words_from begun xs ++ words_of ys
unfolding words_from
words_split begun [] w ys white = rw white refl
words_split begun (x ∷ xs) w ys white = by_white (is_white x) (words_split [] xs w ys white) (words_split (begun ++ x ∷ []) xs w ys white) where
  by_white : (b : Bool) → words_from [] (xs ++ w ∷ ys) ≡ words_from [] xs ++ words_of ys → words_from (begun ++ x ∷ []) (xs ++ w ∷ ys) ≡ words_from (begun ++ x ∷ []) xs ++ words_of ys
      → cond b (word_of begun ++ words_from [] (xs ++ w ∷ ys)) (words_from (begun ++ x ∷ []) (xs ++ w ∷ ys)) ≡ cond b (word_of begun ++ words_from [] xs) (words_from (begun ++ x ∷ []) xs) ++ words_of ys
  by_white true h k = ap (λ (ws : List (List ℕ)). word_of begun ++ ws) h ∙ sym (append_assoc (word_of begun) (words_from [] xs) (words_of ys))
  by_white false h k = k

-- white bytes alone are no word
all_white : (xs : List ℕ) → ((k : ℕ) → k < length xs → is_white (get_or xs k 0) ≡ true) → words_of xs ≡ []
unfolding words_from
all_white [] h = refl
all_white (x ∷ xs) h = rw (h 0 (omega arith)) (all_white xs (λ k lt. h (suc k) (omega arith)))

-- a part between white bytes is the last word
last_of : (xs : List ℕ) (n : ℕ) → 0 < n → n ≤ length xs → ((k : ℕ) → k < n → is_white (get_or xs k 0) ≡ false) → ((k : ℕ) → n ≤ k → k < length xs → is_white (get_or xs k 0) ≡ true) → words_of xs ≡ take n xs ∷ []
last_of xs n some there run behind =
    words_run [] xs n there run (λ lt e. (let no = sym (behind n (omega arith) lt) ∙ e in cc)) (omega arith)
    ∙ ap (λ (ws : List (List ℕ)). take n xs ∷ ws) (all_white (drop n xs) (λ k lt. ap is_white (get_or-drop n xs k 0) ∙ behind (n + k) (omega arith) (omega (arith, length-drop n xs))))

cut_at : (xs : List ℕ) (k : ℕ) → k < length xs → (take (suc k) xs ≡ take k xs ++ get_or xs k 0 ∷ []) × (xs ≡ take k xs ++ get_or xs k 0 ∷ drop (suc k) xs)
cut_at [] k lt = absurd (omega arith)
cut_at (x ∷ xs) zero lt = (refl, refl)
cut_at (x ∷ xs) (suc k) lt =
    let rest = cut_at xs k (omega arith) in
    (ap (λ (ys : List ℕ). x ∷ ys) rest.0, ap (λ (ys : List ℕ). x ∷ ys) rest.1)

nil_front : (ws : List (List ℕ)) → ws ≡ words_of [] ++ ws
unfolding words_from
nil_front ws = refl

nil_back : (ws : List (List ℕ)) → ws ++ words_of [] ≡ ws
unfolding words_from
nil_back ws = append-nil ws

-- what stands before it has the other words
split_at : (xs : List ℕ) (m : ℕ) → m ≤ length xs → (0 < m → is_white (get_or xs (m - 1) 0) ≡ true) → words_of xs ≡ words_of (take m xs) ++ words_of (drop m xs)
split_at xs zero there white = nil_front (words_of xs)
split_at xs (suc k) there white =
    let at = cut_at xs k (omega arith) in
    let same : k ≡ suc k - 1 = omega arith in
    let w : is_white (get_or xs k 0) ≡ true = ap (λ (i : ℕ). is_white (get_or xs i 0)) same ∙ white (omega arith) in
    ap words_of at.1 ∙ words_split [] (take k xs) (get_or xs k 0) (drop (suc k) xs) w
    ∙ ap (λ (ws : List (List ℕ)). ws ++ words_of (drop (suc k) xs)) (sym (ap words_of at.0 ∙ words_split [] (take k xs) (get_or xs k 0) [] w ∙ nil_back (words_of (take k xs))))

pub ends_plus_last : (ws : List (List ℕ)) (w : List ℕ) → ends_plus (ws ++ w ∷ []) ≡ bytes_eq w (codes "+")
unfolding ends_plus
ends_plus_last [] w = refl
ends_plus_last (v ∷ []) w = refl
ends_plus_last (v ∷ u ∷ ws) w = ends_plus_last (u ∷ ws) w

pub but_last_last : (ws : List (List ℕ)) (w : List ℕ) → but_last (ws ++ w ∷ []) ≡ ws
unfolding but_last
but_last_last [] w = refl
but_last_last (v ∷ []) w = refl
but_last_last (v ∷ u ∷ ws) w = ap (λ (xs : List (List ℕ)). v ∷ xs) (but_last_last (u ∷ ws) w)

nil_ends : ends_plus [] ≡ false
unfolding ends_plus
nil_ends = refl

record IsLast (line : List ℕ) (m n : ℕ) : Type 0 where
  order : m ≤ n
  within : n ≤ length line
  run : (k : ℕ) → m ≤ k → k < n → is_white (get_or line k 0) ≡ false
  first : 0 < m → is_white (get_or line (m - 1) 0) ≡ true
  behind : (k : ℕ) → n ≤ k → k < length line → is_white (get_or line k 0) ≡ true

whole : (line : List ℕ) (m n : ℕ) → IsLast line m n → m < n → words_of line ≡ words_of (take m line) ++ take (n - m) (drop m line) ∷ []
whole line m n is some =
    split_at line m (omega (arith, is.order, is.within)) is.first
    ∙ ap (λ (ws : List (List ℕ)). words_of (take m line) ++ ws)
    (last_of (drop m line) (n - m) (omega arith) (omega (arith, length-drop m line, is.within))
    (λ k lt. ap is_white (get_or-drop m line k 0) ∙ is.run (m + k) (omega arith) (omega arith))
    (λ k le lt. ap is_white (get_or-drop m line k 0) ∙ is.behind (m + k) (omega arith) (omega (arith, length-drop m line))))

-- a part that is `+` begins with it
plus_there : (line : List ℕ) (m k : ℕ) → 0 < k → bytes_eq (take k (drop m line)) (codes "+") ≡ true → get_or line m 0 ≡ 43
plus_there line m k some plus =
    let same : m + 0 ≡ m = omega arith in
    ap (λ (i : ℕ). get_or line i 0) (sym same) ∙ sym (get_or-drop m line 0 0) ∙ sym (get_or-take k (drop m line) 0 0 some) ∙ ap (λ (xs : List ℕ). get_or xs 0 0) ((bytes_eq-Decides (take k (drop m line)) (codes "+")).0 plus)

true_false : (b : Bool) → b ≡ true → b ≡ false → ⊥
true_false b h k = let no = sym h ∙ k in cc

pub at_plus : (line : List ℕ) (m n : ℕ) → m ≤ n → n ≤ length line → ((k : ℕ) → m ≤ k → k < n → is_white (get_or line k 0) ≡ false) → (0 < m → is_white (get_or line (m - 1) 0) ≡ true)
    → ((k : ℕ) → n ≤ k → k < length line → is_white (get_or line k 0) ≡ true) → bytes_eq (take (n - m) (drop m line)) (codes "+") ≡ true → EndsAtPlus line m
at_plus line m n order within run first behind plus = by_size (n - m) refl where
  is : IsLast line m n
  is = record { order = order; within = within; run = run; first = first; behind = behind }

  made : m < n → EndsAtPlus line m
  made some = record {
    within = omega (arith, within);
    plus = plus_there line m (n - m) (omega arith) plus;
    ends = ap ends_plus (whole line m n is some) ∙ ends_plus_last (words_of (take m line)) (take (n - m) (drop m line)) ∙ plus;
    before = sym (ap but_last (whole line m n is some) ∙ but_last_last (words_of (take m line)) (take (n - m) (drop m line)));
    more = λ rest. words_split [] (take m line) 32 rest refl;
  }

  by_size : (k : ℕ) → n - m ≡ k → EndsAtPlus line m
  by_size zero e = absurd (true_false (bytes_eq (take (n - m) (drop m line)) (codes "+")) plus (ap (λ (j : ℕ). bytes_eq (take j (drop m line)) (codes "+")) e))
  by_size (suc k) e = made (omega (arith, e))

pub no_plus : (line : List ℕ) (m n : ℕ) → m ≤ n → n ≤ length line → ((k : ℕ) → m ≤ k → k < n → is_white (get_or line k 0) ≡ false) → (0 < m → is_white (get_or line (m - 1) 0) ≡ true)
    → (0 < n → is_white (get_or line (n - 1) 0) ≡ false) → ((k : ℕ) → n ≤ k → k < length line → is_white (get_or line k 0) ≡ true) → bytes_eq (take (n - m) (drop m line)) (codes "+") ≡ false → ends_plus (words_of line) ≡ false
no_plus line m n order within run first last behind plus = by_size (n - m) refl where
  is : IsLast line m n
  is = record { order = order; within = within; run = run; first = first; behind = behind }

  made : m < n → ends_plus (words_of line) ≡ false
  made some = ap ends_plus (whole line m n is some) ∙ ends_plus_last (words_of (take m line)) (take (n - m) (drop m line)) ∙ plus

  empty : n ≡ 0 → ends_plus (words_of line) ≡ false
  empty e = ap ends_plus (all_white line (λ k lt. behind k (omega (arith, e)) lt)) ∙ nil_ends

  same : n - m ≡ 0 → m - 1 ≡ n - 1
  same e = omega (arith, e, order)

  by_end : (j : ℕ) → n ≡ j → n - m ≡ 0 → ends_plus (words_of line) ≡ false
  by_end zero h e = empty h
  by_end (suc j) h e = absurd (true_false (is_white (get_or line (n - 1) 0)) (ap (λ (i : ℕ). is_white (get_or line i 0)) (sym (same e)) ∙ first (omega (arith, e, h, order))) (last (omega (arith, h))))

  by_size : (k : ℕ) → n - m ≡ k → ends_plus (words_of line) ≡ false
  by_size (suc k) e = made (omega (arith, e))
  by_size zero e = by_end n refl e
