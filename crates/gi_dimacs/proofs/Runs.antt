-- What the machine makes of a line of the body, and of the header's.
use Rattle.std.proofs.Common.{◌≡◌, ℕ, suc, ◌+◌, min, nat_lt, nat_le, List, [], ◌∷◌, length, Bool, true, false, ◌&&◌, ◌||◌, not, cond, Option, Some, None, Result, Ok, Err, ℤ, pos, negsuc, zero, refl, ap, sym, ◌∙◌, arith, subst}
use Rattle.std.specs.Prelude.{◌==◌}
use Rattle.std.specs.Str.{bytes_eq}
use Rattle.std.specs.Global.{Global}
use Rattle.std.proofs.lemmas.Bool.{ltb-false}
use Rattle.std.proofs.lemmas.Bool.Decides.{nat_tests}
use Rattle.gi_text.specs.Words.{words_from, words_of}
use Rattle.gi_dimacs.specs.declared.fault.CnfCode.{CnfCode}
use Rattle.gi_dimacs.specs.declared.fault.CnfCode.TheVariants.{Header, Limit, Word, Unterminated}
use Rattle.gi_dimacs.specs.declared.words.Taken.{Taken}
use Rattle.gi_dimacs.specs.declared.head.Head.{Head}
use Rattle.gi_dimacs.specs.declared.head.Head.TheVariants as heads
use Rattle.gi_dimacs.specs.declared.content.Format.{Format}
use Rattle.gi_dimacs.specs.declared.content.Format.TheVariants as formats
use Rattle.gi_dimacs.specs.declared.machine.Phase.{Phase}
use Rattle.gi_dimacs.specs.declared.machine.Phase.TheVariants.{Before, Body, Ask, Asked, Ended, Failed}
use Rattle.gi_dimacs.specs.declared.machine.Spot.{Spot}
use Rattle.gi_dimacs.specs.declared.machine.Spot.TheVariants.{Start, Comment, First, Later}
use Rattle.gi_dimacs.specs.declared.machine.Machine.{Machine}
use Rattle.gi_dimacs.specs.Content.{format_of}
use Rattle.gi_dimacs.specs.Files.{is_comment, is_end, is_ask, add_word, add_words, then_words, asked, with_assumption, number_in, ask_number, ask_ends, ask_words, ask_line, Move, Goes, Ends, Stops, moves, body_words, body_line, count_at, check_counts, header_words}
use Rattle.gi_dimacs.specs.Machine.{head_step, head_counts, vars_head, whole_head, end_phase, ask_phase, after_add, after_ask, body_word, after_head, line_by_phase, line_ends, is_over}
use Rattle.gi_dimacs.proofs.InLines.{at, eat, eats, over_eats, first_spot}
use Rattle.gi_lit.specs.Literals.{max_var}
use Rattle.gi_dimacs.specs.Limits.{most_assumptions}

abbrev pub Done : Global → ℕ → Result Taken CnfCode → Machine → Type 0
Done a k (Ok u) s = (sp : Spot) × (s ≡ at a k Body sp [] u)
Done a k (Err c) s = (u : Taken) × (s ≡ at a k (Failed c) Later [] u)

-- a word that isn't the first of its line
later_word : (a : Global) (k : ℕ) (t : Taken) (w : List ℕ) → eat (at a k Body Later [] t) w ≡ after_add (add_word t w) (at a k Body Later w t)
unfolding body_word
later_word a k t w = refl

later_words : (a : Global) (k : ℕ) (t : Taken) (ws : List (List ℕ)) → Done a k (add_words t ws) (eats (at a k Body Later [] t) ws)
unfolding add_words
later_words a k t [] = (Later, refl)
later_words a k t (w ∷ ws) = subst (λ s. Done a k (then_words (add_word t w) (λ u. add_words u ws)) (eats s ws)) (sym (later_word a k t w)) (by_result (add_word t w) (λ u. later_words a k u ws)) where
  by_result : (r : Result Taken CnfCode) → ((u : Taken) → Done a k (add_words u ws) (eats (at a k Body Later [] u) ws)) → Done a k (then_words r (λ u. add_words u ws)) (eats (after_add r (at a k Body Later w t)) ws)
  by_result (Ok u) ih = ih u
  by_result (Err c) ih = (t, over_eats (at a k (Failed c) Later [] t) ws refl)

-- where a line has ended
abbrev pub MoveDone : Global → ℕ → Taken → Move → Machine → Type 0
MoveDone a k t (Goes u) s = line_ends s ≡ at a (k + 1) Body Start [] u
MoveDone a k t Ends s = line_ends s ≡ at a k (end_phase t.begun) Later [] t
MoveDone a k t (Stops c) s = (u : Taken) × (line_ends s ≡ at a k (Failed c) Later [] u)

body_line_end : (a : Global) (k : ℕ) (sp : Spot) (t : Taken) → line_ends (at a k Body sp [] t) ≡ at a (k + 1) Body Start [] t
unfolding line_ends
body_line_end a k sp t = refl

asked_line_end : (a : Global) (k : ℕ) (t : Taken) → line_ends (at a k Asked Later [] t) ≡ at a (k + 1) Body Start [] t
unfolding line_ends
asked_line_end a k t = refl

ask_line_end : (a : Global) (k : ℕ) (t : Taken) → line_ends (at a k Ask Later [] t) ≡ at a k (Failed Unterminated) Later [] t
unfolding line_ends
ask_line_end a k t = refl

failed_line_end : (a : Global) (k : ℕ) (c : CnfCode) (t : Taken) → line_ends (at a k (Failed c) Later [] t) ≡ at a k (Failed c) Later [] t
unfolding line_ends
failed_line_end a k c t = refl

over_line_end : (a : Global) (k : ℕ) (p : Phase) (t : Taken) → is_over p ≡ true → line_ends (at a k p Later [] t) ≡ at a k p Later [] t
unfolding line_ends
over_line_end a k (Before h) t o = absurd cc
over_line_end a k Body t o = absurd cc
over_line_end a k Ask t o = absurd cc
over_line_end a k Asked t o = absurd cc
over_line_end a k Ended t o = refl
over_line_end a k (Failed c) t o = refl

move_done : (a : Global) (k : ℕ) (t : Taken) (r : Result Taken CnfCode) (s : Machine) → Done a k r s → MoveDone a k t (moves r) s
move_done a k t (Ok u) s d = ap line_ends d.1 ∙ body_line_end a k d.0 u
move_done a k t (Err c) s d = (d.0, ap line_ends d.1 ∙ failed_line_end a k c d.0)

-- the words of an ask
failed_words : (a : Global) (k : ℕ) (c : CnfCode) (t u : Taken) (ws : List (List ℕ)) → MoveDone a k u (Stops c) (eats (at a k (Failed c) Later [] t) ws)
failed_words a k c t u ws = (t, ap line_ends (over_eats (at a k (Failed c) Later [] t) ws refl) ∙ failed_line_end a k c t)

asked_words : (a : Global) (k : ℕ) (t u : Taken) (ws : List (List ℕ)) → MoveDone a k u (moves (ask_ends t ws)) (eats (at a k Asked Later [] (asked t)) ws)
asked_words a k t u [] = asked_line_end a k (asked t)
asked_words a k t u (w ∷ ws) = failed_words a k Word (asked t) u ws

ask_done : (a : Global) (k : ℕ) (t u : Taken) (ws : List (List ℕ)) → MoveDone a k u (moves (ask_words t ws)) (eats (at a k Ask Later [] t) ws)
unfolding ask_words
ask_done a k t u [] = (t, ask_line_end a k t)
ask_done a k t u (w ∷ ws) = by_number (number_in w) (λ v. ask_done a k v u ws) where
  by_room : (b : Bool) (v : Taken) → MoveDone a k u (moves (ask_words v ws)) (eats (at a k Ask Later [] v) ws)
      → MoveDone a k u (moves (cond b (Err Limit) (ask_words v ws))) (eats (cond b (at a k (Failed Limit) Later [] t) (at a k Ask Later [] v)) ws)
  by_room true v ih = failed_words a k Limit t u ws
  by_room false v ih = ih

  by_number : (r : Result ℤ CnfCode) → ((v : Taken) → MoveDone a k u (moves (ask_words v ws)) (eats (at a k Ask Later [] v) ws))
      → MoveDone a k u (moves (ask_number t r ws (λ v. ask_words v ws))) (eats (after_ask r (at a k Ask Later w t)) ws)
  by_number (Err c) ih = failed_words a k c t u ws
  by_number (Ok (pos zero)) ih = asked_words a k t u ws
  by_number (Ok (pos (suc n))) ih = by_room (nat_le most_assumptions (length t.begun)) (with_assumption t (pos (suc n))) (ih (with_assumption t (pos (suc n))))
  by_number (Ok (negsuc n)) ih = by_room (nat_le most_assumptions (length t.begun)) (with_assumption t (negsuc n)) (ih (with_assumption t (negsuc n)))

first_word : (a : Global) (k : ℕ) (t : Taken) (w : List ℕ) → eat (at a k Body First [] t) w ≡ cond (is_end w) (at a k (end_phase t.begun) Later [] t) (cond (is_ask (format_of t.content) w) (at a k (ask_phase t.begun) Later [] t) (after_add (add_word t w) (at a k Body First w t)))
unfolding body_word
first_word a k t w = refl

pub end_over : (begun : List ℕ) → is_over (end_phase begun) ≡ true
end_over begun = by_test (length begun == 0) where
  by_test : (b : Bool) → is_over (cond b Ended (Failed Unterminated)) ≡ true
  by_test true = refl
  by_test false = refl

first_words : (a : Global) (k : ℕ) (t : Taken) (ws : List (List ℕ)) → MoveDone a k t (body_words t ws) (eats (at a k Body First [] t) ws)
unfolding add_words
first_words a k t [] = body_line_end a k First t
first_words a k t (w ∷ ws) = subst (λ s. MoveDone a k t (body_words t (w ∷ ws)) (eats s ws)) (sym (first_word a k t w)) (by_end (is_end w) (is_ask (format_of t.content) w)) where
  by_result : (r : Result Taken CnfCode) → Done a k (then_words r (λ u. add_words u ws)) (eats (after_add r (at a k Body First w t)) ws)
  by_result (Ok u) = later_words a k u ws
  by_result (Err c) = (t, over_eats (at a k (Failed c) Later [] t) ws refl)

  by_open : (b : Bool) → MoveDone a k t (cond b (moves (ask_words t ws)) (Stops Unterminated)) (eats (at a k (cond b Ask (Failed Unterminated)) Later [] t) ws)
  by_open true = ask_done a k t t ws
  by_open false = failed_words a k Unterminated t t ws

  by_ask : (b : Bool) → MoveDone a k t (cond b (ask_line t ws) (moves (add_words t (w ∷ ws)))) (eats (cond b (at a k (ask_phase t.begun) Later [] t) (after_add (add_word t w) (at a k Body First w t))) ws)
  by_ask true = by_open (length t.begun == 0)
  by_ask false = move_done a k t (add_words t (w ∷ ws)) (eats (after_add (add_word t w) (at a k Body First w t)) ws) (by_result (add_word t w))

  by_end : (b d : Bool) → MoveDone a k t (cond b Ends (cond d (ask_line t ws) (moves (add_words t (w ∷ ws)))))
      (eats (cond b (at a k (end_phase t.begun) Later [] t) (cond d (at a k (ask_phase t.begun) Later [] t) (after_add (add_word t w) (at a k Body First w t)))) ws)
  by_end true d = ap line_ends (over_eats (at a k (end_phase t.begun) Later [] t) ws (end_over t.begun)) ∙ over_line_end a k (end_phase t.begun) t (end_over t.begun)
  by_end false d = by_ask d

-- a line of the body
pub body_done : (a : Global) (k : ℕ) (t : Taken) (l : List ℕ) → MoveDone a k t (body_line t l) (cond (is_comment l) (at a k Body Comment [] t) (eats (at a k Body (first_spot l) [] t) (words_of l)))
unfolding body_line first_spot words_from
body_done a k t [] = body_line_end a k Start t
body_done a k t (x ∷ l) = by_test (x == 99) where
  by_test : (b : Bool) → MoveDone a k t (cond b (Goes t) (body_words t (words_of (x ∷ l)))) (cond b (at a k Body Comment [] t) (eats (at a k Body First [] t) (words_of (x ∷ l))))
  by_test true = body_line_end a k Comment t
  by_test false = first_words a k t (words_of (x ∷ l))

-- the header's line
unfoldable pub head_of : Format → Head → List (List ℕ) → Head
head_of f h [] = h
head_of f h (w ∷ ws) = head_of f (head_step f h w) ws

pub head_eats : (a : Global) (k : ℕ) (h : Head) (t : Taken) (ws : List (List ℕ)) → eats (at a k (Before h) Later [] t) ws ≡ at a k (Before (head_of (format_of t.content) h ws)) Later [] t
unfolding head_of
head_eats a k h t [] = refl
head_eats a k h t (w ∷ ws) = head_eats a k (head_step (format_of t.content) h w) t ws

bad_stays : (f : Format) (ws : List (List ℕ)) → head_of f heads.Bad ws ≡ heads.Bad
unfolding head_of
bad_stays f [] = refl
bad_stays f (w ∷ ws) = bad_stays f ws

abbrev is_nothing : Head → Bool
is_nothing heads.Nothing = true
is_nothing heads.P = false
is_nothing heads.Cnf = false
is_nothing (heads.Vars v) = false
is_nothing (heads.Whole v s) = false
is_nothing heads.Bad = false

head_line : (h : Head) (s : Machine) → is_nothing h ≡ false → line_by_phase (Before h) s ≡ after_head (head_counts h) s
head_line heads.Nothing s e = absurd cc
head_line heads.P s e = refl
head_line heads.Cnf s e = refl
head_line (heads.Vars v) s e = refl
head_line (heads.Whole v small) s e = refl
head_line heads.Bad s e = refl

record Says (h : Head) (r : Result ℕ CnfCode) : Type 0 where
  some : is_nothing h ≡ false
  counts : head_counts h ≡ r

bad_says : (f : Format) (ws : List (List ℕ)) → Says (head_of f heads.Bad ws) (Err Header)
bad_says f ws = subst (λ h. Says h (Err Header)) (sym (bad_stays f ws)) (record { some = refl; counts = refl })

counts_say : (v c : ℕ) → Says (heads.Whole (min v (max_var + 1)) (nat_le c 4294967295)) (cond (nat_lt max_var v || nat_lt 4294967295 c) (Err Limit) (Ok v))
counts_say v c = record { some = refl; counts = rw (same_le, same_lt) (same (nat_lt max_var v) refl (nat_lt 4294967295 c)) } where
  same_le : not (nat_le c 4294967295) ≡ nat_lt 4294967295 c
  same_le = grind (arith, nat_tests)

  same_lt : nat_lt max_var (min v (max_var + 1)) ≡ nat_lt max_var v
  same_lt = grind (arith, nat_tests)

  small : nat_lt max_var v ≡ false → min v (max_var + 1) ≡ v
  small e = omega (arith, ltb-false max_var v e)

  same : (b : Bool) → nat_lt max_var v ≡ b → (d : Bool) → cond (b || d) (Err Limit) (Ok (min v (max_var + 1))) ≡ cond (b || d) (Err Limit) (Ok v)
  same true e d = refl
  same false e true = refl
  same false e false = ap Ok (small e)

by_p : (a : Bool) → Says (cond a heads.P heads.Bad) (Err Header)
by_p true = record { some = refl; counts = refl }
by_p false = record { some = refl; counts = refl }

by_cnf : (b : Bool) → Says (cond b heads.Cnf heads.Bad) (Err Header)
by_cnf true = record { some = refl; counts = refl }
by_cnf false = record { some = refl; counts = refl }

by_vars : (v : Option ℕ) → Says (vars_head v) (Err Header)
by_vars (Some v) = record { some = refl; counts = refl }
by_vars None = record { some = refl; counts = refl }

by_both : (v c : Option ℕ) (w : List ℕ) → c ≡ count_at w → Says (head_step formats.Cnf (vars_head v) w) (check_counts v c)
by_both (Some v) (Some c) w e = subst (λ o. Says (whole_head (min v (max_var + 1)) o) (check_counts (Some v) (Some c))) e (counts_say v c)
by_both (Some v) None w e = subst (λ o. Says (whole_head (min v (max_var + 1)) o) (check_counts (Some v) None)) e (record { some = refl; counts = refl })
by_both None c w e = record { some = refl; counts = refl }

by_many : (v c : Option ℕ) (w x : List ℕ) (ws : List (List ℕ)) → c ≡ count_at w → Says (head_of formats.Cnf (head_step formats.Cnf (head_step formats.Cnf (vars_head v) w) x) ws) (Err Header)
by_many (Some v) (Some c) w x ws e = subst (λ o. Says (head_of formats.Cnf (head_step formats.Cnf (whole_head (min v (max_var + 1)) o) x) ws) (Err Header)) e (bad_says formats.Cnf ws)
by_many (Some v) None w x ws e = subst (λ o. Says (head_of formats.Cnf (head_step formats.Cnf (whole_head (min v (max_var + 1)) o) x) ws) (Err Header)) e (bad_says formats.Cnf ws)
by_many None c w x ws e = bad_says formats.Cnf ws

abbrev is_cnf : List ℕ → Bool
is_cnf w = bytes_eq w (99 ∷ 110 ∷ 102 ∷ [])

says : (w : List ℕ) (ws : List (List ℕ)) → Says (head_of formats.Cnf heads.Nothing (w ∷ ws)) (header_words formats.Cnf (w ∷ ws))
unfolding head_of
says p [] = by_p (bytes_eq p (112 ∷ []))
says p (w ∷ []) = by_test (bytes_eq p (112 ∷ [])) where
  by_test : (a : Bool) → Says (head_step formats.Cnf (cond a heads.P heads.Bad) w) (Err Header)
  by_test true = by_cnf (is_cnf w)
  by_test false = bad_says formats.Cnf []
says p (w ∷ v ∷ []) = by_test (bytes_eq p (112 ∷ [])) where
  by_next : (b : Bool) → Says (head_step formats.Cnf (cond b heads.Cnf heads.Bad) v) (Err Header)
  by_next true = by_vars (count_at v)
  by_next false = bad_says formats.Cnf []

  by_test : (a : Bool) → Says (head_step formats.Cnf (head_step formats.Cnf (cond a heads.P heads.Bad) w) v) (Err Header)
  by_test true = by_next (is_cnf w)
  by_test false = bad_says formats.Cnf []
says p (w ∷ v ∷ c ∷ []) = by_test (bytes_eq p (112 ∷ [])) where
  by_next : (b : Bool) → Says (head_step formats.Cnf (head_step formats.Cnf (cond b heads.Cnf heads.Bad) v) c) (cond b (check_counts (count_at v) (count_at c)) (Err Header))
  by_next true = by_both (count_at v) (count_at c) c refl
  by_next false = bad_says formats.Cnf []

  by_test : (a : Bool) → Says (head_step formats.Cnf (head_step formats.Cnf (head_step formats.Cnf (cond a heads.P heads.Bad) w) v) c) (cond (a && is_cnf w) (check_counts (count_at v) (count_at c)) (Err Header))
  by_test true = by_next (is_cnf w)
  by_test false = bad_says formats.Cnf []
says p (w ∷ v ∷ c ∷ x ∷ ws) = by_test (bytes_eq p (112 ∷ [])) where
  by_next : (b : Bool) → Says (head_of formats.Cnf (head_step formats.Cnf (head_step formats.Cnf (head_step formats.Cnf (cond b heads.Cnf heads.Bad) v) c) x) ws) (Err Header)
  by_next true = by_many (count_at v) (count_at c) c x ws refl
  by_next false = bad_says formats.Cnf ws

  by_test : (a : Bool) → Says (head_of formats.Cnf (head_step formats.Cnf (head_step formats.Cnf (head_step formats.Cnf (head_step formats.Cnf (cond a heads.P heads.Bad) w) v) c) x) ws) (Err Header)
  by_test true = by_next (is_cnf w)
  by_test false = bad_says formats.Cnf ws

abbrev is_inccnf : List ℕ → Bool
is_inccnf w = bytes_eq w (105 ∷ 110 ∷ 99 ∷ 99 ∷ 110 ∷ 102 ∷ [])

says_icnf : (w : List ℕ) (ws : List (List ℕ)) → Says (head_of formats.Icnf heads.Nothing (w ∷ ws)) (header_words formats.Icnf (w ∷ ws))
unfolding head_of
says_icnf p [] = by_p (bytes_eq p (112 ∷ []))
says_icnf p (w ∷ []) = by_test (bytes_eq p (112 ∷ [])) where
  by_next : (b : Bool) → Says (cond b (heads.Whole 0 true) heads.Bad) (cond b (Ok 0) (Err Header))
  by_next true = record { some = refl; counts = refl }
  by_next false = bad_says formats.Icnf []

  by_test : (a : Bool) → Says (head_step formats.Icnf (cond a heads.P heads.Bad) w) (cond (a && is_inccnf w) (Ok 0) (Err Header))
  by_test true = by_next (is_inccnf w)
  by_test false = bad_says formats.Icnf []
says_icnf p (w ∷ x ∷ ws) = by_test (bytes_eq p (112 ∷ [])) where
  by_next : (b : Bool) → Says (head_of formats.Icnf (head_step formats.Icnf (cond b (heads.Whole 0 true) heads.Bad) x) ws) (Err Header)
  by_next true = bad_says formats.Icnf ws
  by_next false = bad_says formats.Icnf ws

  by_test : (a : Bool) → Says (head_of formats.Icnf (head_step formats.Icnf (head_step formats.Icnf (cond a heads.P heads.Bad) w) x) ws) (Err Header)
  by_test true = by_next (is_inccnf w)
  by_test false = bad_says formats.Icnf ws

says_either : (f : Format) (w : List ℕ) (ws : List (List ℕ)) → Says (head_of f heads.Nothing (w ∷ ws)) (header_words f (w ∷ ws))
says_either formats.Cnf w ws = says w ws
says_either formats.Icnf w ws = says_icnf w ws

-- the header's line
pub head_ends : (a : Global) (k : ℕ) (t : Taken) (w : List ℕ) (ws : List (List ℕ)) → line_ends (eats (at a k (Before heads.Nothing) First [] t) (w ∷ ws)) ≡ after_head (header_words (format_of t.content) (w ∷ ws)) (at a k (Before (head_of (format_of t.content) heads.Nothing (w ∷ ws))) Later [] t)
unfolding line_ends head_of
head_ends a k t w ws =
    let s = says_either (format_of t.content) w ws in
    ap line_ends (head_eats a k (head_step (format_of t.content) heads.Nothing w) t ws)
    ∙ head_line (head_of (format_of t.content) heads.Nothing (w ∷ ws)) (at a k (Before (head_of (format_of t.content) heads.Nothing (w ∷ ws))) Later [] t) s.some
    ∙ ap (λ r. after_head r (at a k (Before (head_of (format_of t.content) heads.Nothing (w ∷ ws))) Later [] t)) s.counts
