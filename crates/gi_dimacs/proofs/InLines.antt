-- What the machine does in a line.
use Rattle.std.proofs.Common.{◌≡◌, ℕ, suc, List, [], ◌∷◌, ◌++◌, length, Bool, true, false, ◌&&◌, not, cond, ◌⊎◌, inl, inr, Result, Ok, Err, ℤ, pos, negsuc, zero, nat_le, refl, ap, sym, ◌∙◌, arith}
use Rattle.std.specs.Prelude.{◌==◌}
use Rattle.std.specs.Global.{Global}
use Rattle.std.proofs.lemmas.Bool.{ne_eqb}
use Rattle.std.proofs.lemmas.Bool.Decides.{eqb_tells}
use Rattle.gi_text.specs.Words.{is_white, words_from, words_of}
use Rattle.gi_dimacs.specs.Lines.{is_plain}
use Rattle.gi_dimacs.specs.declared.fault.CnfCode.{CnfCode}
use Rattle.gi_dimacs.specs.declared.fault.CnfCode.TheVariants.{Limit, Word}
use Rattle.gi_dimacs.specs.declared.words.Taken.{Taken}
use Rattle.gi_dimacs.specs.declared.machine.Phase.{Phase}
use Rattle.gi_dimacs.specs.declared.machine.Phase.TheVariants.{Before, Body, Ask, Asked, Ended, Failed}
use Rattle.gi_dimacs.specs.declared.machine.Spot.{Spot}
use Rattle.gi_dimacs.specs.declared.machine.Spot.TheVariants.{Start, Comment, First, Later}
use Rattle.gi_dimacs.specs.declared.machine.Machine.{Machine}
use Rattle.gi_dimacs.specs.Content.{format_of}
use Rattle.gi_dimacs.specs.Files.{is_comment, is_end, is_ask, asked, with_assumption, number_in, add_word}
use Rattle.gi_dimacs.specs.Machine.{head_step, end_phase, ask_phase, is_first, after_word, after_add, after_ask, body_word, word_by_phase, word_ends, go_inside, inside, is_over, take_byte, run}
use Rattle.gi_dimacs.proofs.Splitting.{IsPlain}
use Rattle.gi_dimacs.specs.Limits.{most_assumptions}

abbrev pub at : Global → ℕ → Phase → Spot → List ℕ → Taken → Machine
at a k p sp w t = record { alloc = a; line = k; phase = p; spot = sp; word = w; taken = t }

-- a whole word
abbrev pub eat : Machine → List ℕ → Machine
eat s w = cond (is_over s.phase) s (word_by_phase s.phase (record s { word = w }))

abbrev pub eats : Machine → List (List ℕ) → Machine
eats s [] = s
eats s (w ∷ ws) = eats (eat s w) ws

pub over_stays : (s : Machine) (xs : List ℕ) → is_over s.phase ≡ true → run s xs ≡ s
unfolding run take_byte
over_stays s [] e = refl
over_stays s (x ∷ xs) e = rw e (over_stays s xs e)

pub over_eats : (s : Machine) (ws : List (List ℕ)) → is_over s.phase ≡ true → eats s ws ≡ s
over_eats s [] e = refl
over_eats s (w ∷ ws) e = rw e (over_eats s ws e)

-- inside a line, behind its first byte
abbrev pub inner : Bool → Spot
inner true = First
inner false = Later

-- a word that has ended leaves the machine behind it
pub record Left (a : Global) (k : ℕ) (s : Machine) : Type 0 where
  pub phase : Phase
  pub taken : Taken
  pub is : s ≡ at a k phase Later [] taken

by_words : (a : Global) (k : ℕ) (f : Bool) (w : List ℕ) (t : Taken) → Left a k (body_word (at a k Body (inner f) w t))
unfolding body_word
by_words a k f w t = by_end (is_first (inner f) && is_end w) (is_first (inner f) && is_ask (format_of t.content) w) (add_word t w) where
  added : (r : Result Taken CnfCode) → Left a k (after_add r (at a k Body (inner f) w t))
  added (Ok u) = record { phase = Body; taken = u; is = refl }
  added (Err c) = record { phase = Failed c; taken = t; is = refl }

  by_ask : (b : Bool) (r : Result Taken CnfCode) → Left a k (cond b (after_word (at a k Body (inner f) w t) (ask_phase t.begun) t) (after_add r (at a k Body (inner f) w t)))
  by_ask true r = record { phase = ask_phase t.begun; taken = t; is = refl }
  by_ask false r = added r

  by_end : (b d : Bool) (r : Result Taken CnfCode) → Left a k (cond b (after_word (at a k Body (inner f) w t) (end_phase t.begun) t) (cond d (after_word (at a k Body (inner f) w t) (ask_phase t.begun) t) (after_add r (at a k Body (inner f) w t))))
  by_end true d r = record { phase = end_phase t.begun; taken = t; is = refl }
  by_end false d r = by_ask d r

by_number : (a : Global) (k : ℕ) (f : Bool) (w : List ℕ) (t : Taken) (r : Result ℤ CnfCode) → Left a k (after_ask r (at a k Ask (inner f) w t))
by_number a k f w t (Err c) = record { phase = Failed c; taken = t; is = refl }
by_number a k f w t (Ok (pos zero)) = record { phase = Asked; taken = asked t; is = refl }
by_number a k f w t (Ok (pos (suc n))) = by_test (nat_le most_assumptions (length t.begun)) where
  by_test : (b : Bool) → Left a k (cond b (after_word (at a k Ask (inner f) w t) (Failed Limit) t) (after_word (at a k Ask (inner f) w t) Ask (with_assumption t (pos (suc n)))))
  by_test true = record { phase = Failed Limit; taken = t; is = refl }
  by_test false = record { phase = Ask; taken = with_assumption t (pos (suc n)); is = refl }
by_number a k f w t (Ok (negsuc n)) = by_test (nat_le most_assumptions (length t.begun)) where
  by_test : (b : Bool) → Left a k (cond b (after_word (at a k Ask (inner f) w t) (Failed Limit) t) (after_word (at a k Ask (inner f) w t) Ask (with_assumption t (negsuc n))))
  by_test true = record { phase = Failed Limit; taken = t; is = refl }
  by_test false = record { phase = Ask; taken = with_assumption t (negsuc n); is = refl }

left : (a : Global) (k : ℕ) (p : Phase) (f : Bool) (w : List ℕ) (t : Taken) → is_over p ≡ false → Left a k (word_by_phase p (at a k p (inner f) w t))
left a k (Before h) f w t e = record { phase = Before (head_step (format_of t.content) h w); taken = t; is = refl }
left a k Body f w t e = by_words a k f w t
left a k Ask f w t e = by_number a k f w t (number_in w)
left a k Asked f w t e = record { phase = Failed Word; taken = t; is = refl }
left a k Ended f w t e = absurd cc
left a k (Failed c) f w t e = absurd cc

ends_word : (a : Global) (k : ℕ) (p : Phase) (f : Bool) (b : ℕ) (bs : List ℕ) (t : Taken) → word_ends (at a k p (inner f) (b ∷ bs) t) ≡ word_by_phase p (at a k p (inner f) (b ∷ bs) t)
unfolding word_ends
ends_word a k p f b bs t = let ne : (suc (length bs) ≡ 0 → ⊥) = λ e. omega arith in rw (ne_eqb (suc (length bs)) 0 ne) refl

ends_none : (a : Global) (k : ℕ) (p : Phase) (sp : Spot) (t : Taken) → word_ends (at a k p sp [] t) ≡ at a k p sp [] t
unfolding word_ends
ends_none a k p sp t = refl

inner_inside : (f : Bool) → go_inside (inner f) ≡ inner f
inner_inside true = refl
inner_inside false = refl

take_white : (a : Global) (k : ℕ) (p : Phase) (f : Bool) (w : List ℕ) (t : Taken) (x : ℕ) → is_over p ≡ false → (x == 10) ≡ false → is_white x ≡ true → take_byte (at a k p (inner f) w t) x ≡ inside (word_ends (at a k p (inner f) w t))
unfolding take_byte
take_white a k p true w t x o n h = rw (o, n, h) refl
take_white a k p false w t x o n h = rw (o, n, h) refl

take_other : (a : Global) (k : ℕ) (p : Phase) (f : Bool) (w : List ℕ) (t : Taken) (x : ℕ) → is_over p ≡ false → (x == 10) ≡ false → is_white x ≡ false → take_byte (at a k p (inner f) w t) x ≡ at a k p (inner f) (w ++ x ∷ []) t
unfolding take_byte
take_other a k p true w t x o n h = rw (o, n, h) refl
take_other a k p false w t x o n h = rw (o, n, h) refl

pub plain_head : (x : ℕ) (xs : List ℕ) → IsPlain (x ∷ xs) → ((x == 10) ≡ false) × IsPlain xs
plain_head x xs h = by_test (x == 10) h where
  by_test : (b : Bool) → (not b && is_plain xs) ≡ true → (b ≡ false) × IsPlain xs
  by_test true h = absurd cc
  by_test false h = (refl, h)

is_over_or : (p : Phase) → (is_over p ≡ true) ⊎ (is_over p ≡ false)
is_over_or p = by_test (is_over p) where
  by_test : (b : Bool) → (b ≡ true) ⊎ (b ≡ false)
  by_test true = inl refl
  by_test false = inr refl

white_or : (x : ℕ) → (is_white x ≡ true) ⊎ (is_white x ≡ false)
white_or x = by_test (is_white x) where
  by_test : (b : Bool) → (b ≡ true) ⊎ (b ≡ false)
  by_test true = inl refl
  by_test false = inr refl

-- a machine that is over, with no word begun
over_ends : (a : Global) (k : ℕ) (p : Phase) (t : Taken) (xs : List ℕ) (ws : List (List ℕ)) → is_over p ≡ true → word_ends (run (at a k p Later [] t) xs) ≡ eats (at a k p Later [] t) ws
over_ends a k p t xs ws o =
    ap word_ends (over_stays (at a k p Later [] t) xs o) ∙ ends_none a k p Later t ∙ sym (over_eats (at a k p Later [] t) ws o)

eat_is : (a : Global) (k : ℕ) (p : Phase) (f : Bool) (w : List ℕ) (t : Taken) → is_over p ≡ false → eat (at a k p (inner f) [] t) w ≡ word_by_phase p (at a k p (inner f) w t)
eat_is a k p f w t o = rw o refl

-- the words of the rest of a line
pub line_words : (a : Global) (k : ℕ) (p : Phase) (f : Bool) (w l : List ℕ) (t : Taken) → is_over p ≡ false → IsPlain l
    → word_ends (run (at a k p (inner f) w t) l) ≡ eats (at a k p (inner f) [] t) (words_from w l)
unfolding run words_from
line_words a k p f [] [] t o plain = ends_none a k p (inner f) t
line_words a k p f (b ∷ bs) [] t o plain = ends_word a k p f b bs t ∙ sym (eat_is a k p f (b ∷ bs) t o)
line_words a k p f [] (x ∷ l) t o plain =
    let h = plain_head x l plain in
    elim (white_or x) [
      | inl y ↦ rw (take_white a k p f [] t x o h.0 y, y) (ap (λ s. word_ends (run (inside s) l)) (ends_none a k p (inner f) t) ∙ ap (λ sp. word_ends (run (at a k p sp [] t) l)) (inner_inside f) ∙ line_words a k p f [] l t o h.1)
      | inr n ↦ rw (take_other a k p f [] t x o h.0 n, n) (line_words a k p f (x ∷ []) l t o h.1)
    ]
line_words a k p f (b ∷ bs) (x ∷ l) t o plain =
    let h = plain_head x l plain in
    let s = left a k p f (b ∷ bs) t o in
    let e = ends_word a k p f b bs t ∙ s.is in
    let eaten = eat_is a k p f (b ∷ bs) t o ∙ s.is in
    elim (white_or x) [
      | inl y ↦ rw (take_white a k p f (b ∷ bs) t x o h.0 y, y) (ap (λ u. word_ends (run (inside u) l)) e ∙ elim (is_over_or s.phase) [
        | inl over ↦ over_ends a k s.phase s.taken l (words_from [] l) over
        | inr on ↦ line_words a k s.phase false [] l s.taken on h.1
      ] ∙ ap (λ u. eats u (words_from [] l)) (sym eaten))
      | inr n ↦ rw (take_other a k p f (b ∷ bs) t x o h.0 n, n) (line_words a k p f ((b ∷ bs) ++ x ∷ []) l t o h.1)
    ]

-- at the start of a line
unfoldable pub first_spot : List ℕ → Spot
first_spot [] = Start
first_spot (b ∷ bs) = First

comment_stays : (a : Global) (k : ℕ) (p : Phase) (t : Taken) (l : List ℕ) → is_over p ≡ false → IsPlain l → run (at a k p Comment [] t) l ≡ at a k p Comment [] t
unfolding run take_byte
comment_stays a k p t [] o plain = refl
comment_stays a k p t (x ∷ l) o plain =
    let h = plain_head x l plain in
    rw (o, h.0) (comment_stays a k p t l o h.1)

start_comment : (a : Global) (k : ℕ) (p : Phase) (t : Taken) → is_over p ≡ false → take_byte (at a k p Start [] t) 99 ≡ at a k p Comment [] t
unfolding take_byte
start_comment a k p t o = rw o refl

start_white : (a : Global) (k : ℕ) (p : Phase) (t : Taken) (x : ℕ) → is_over p ≡ false → (x == 10) ≡ false → is_white x ≡ true → take_byte (at a k p Start [] t) x ≡ at a k p First [] t
unfolding take_byte
start_white a k p t x o n h = rw (o, n, h) (ap inside (ends_none a k p Start t))

start_other : (a : Global) (k : ℕ) (p : Phase) (t : Taken) (x : ℕ) → is_over p ≡ false → (x == 10) ≡ false → (x == 99) ≡ false → is_white x ≡ false → take_byte (at a k p Start [] t) x ≡ at a k p First (x ∷ []) t
unfolding take_byte
start_other a k p t x o n c h = rw (o, n, h, c) refl

-- a whole line from its start
pub line_from_start : (a : Global) (k : ℕ) (p : Phase) (t : Taken) (l : List ℕ) → is_over p ≡ false → IsPlain l
    → word_ends (run (at a k p Start [] t) l) ≡ cond (is_comment l) (at a k p Comment [] t) (eats (at a k p (first_spot l) [] t) (words_of l))
unfolding run words_from first_spot
line_from_start a k p t [] o plain = ends_none a k p Start t
line_from_start a k p t (x ∷ l) o plain =
    let h = plain_head x l plain in
    elim (eqb_tells x 99) [
      | inl c ↦ rw (c.1) (ap (λ s. word_ends (run s l)) (start_comment a k p t o) ∙ ap word_ends (comment_stays a k p t l o h.1) ∙ ends_none a k p Comment t)
      | inr c ↦ rw c.0 (elim (white_or x) [
        | inl y ↦ rw (start_white a k p t x o h.0 y, y) (line_words a k p true [] l t o h.1)
        | inr n ↦ rw (start_other a k p t x o h.0 c.0 n, n) (line_words a k p true (x ∷ []) l t o h.1)
      ])
    ]
