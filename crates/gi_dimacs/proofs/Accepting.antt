-- What stands in the relation is read.
use Rattle.std.proofs.Common.{◌≡◌, ◌≢◌, ℕ, zero, suc, ◌+◌, ◌/◌, ◌%◌, ◌<◌, ◌≤◌, max, nat_lt, nat_le, List, [], ◌∷◌, ◌++◌, length, Bool, true, false, ◌&&◌, ◌||◌, cond, ◌⊎◌, inl, inr, Option, Some, None, option_map, Result, Ok, Err, refl, ap, sym, ◌∙◌, append_assoc, length-append, add-zero, arith, ℤ, pos, negsuc, subst, map}
use Rattle.std.specs.Prelude.{◌==◌}
use Rattle.std.specs.List.{AllByRecursion}
use Rattle.std.specs.Str.{bytes_eq, all_ascii_digits}
use Rattle.std.specs.Char.{is_ascii_digit}
use Rattle.std.proofs.lemmas.Bool.Decides.{eqb_tells, nat_tests}
use Rattle.std.proofs.lemmas.Bool.{le-ltb, ltb-false}
use Rattle.std.proofs.lemmas.List.{append-nil}
use Rattle.gi_lit.specs.Literals.{literal_of, max_var}
use Rattle.gi_text.specs.Numbers.{number_of, size_of, magnitude, negated, read_on}
use Rattle.gi_dimacs.specs.declared.fault.CnfCode.{CnfCode}
use Rattle.gi_dimacs.specs.declared.fault.CnfCode.TheVariants.{Header, Limit, Unterminated}
use Rattle.gi_dimacs.specs.declared.items.Item.{Item}
use Rattle.gi_dimacs.specs.declared.items.Item.TheVariants.{Clause, Ask}
use Rattle.gi_dimacs.specs.declared.content.Format.{Format}
use Rattle.gi_dimacs.specs.declared.content.Format.TheVariants as formats
use Rattle.gi_dimacs.specs.declared.content.Content.{Content}
use Rattle.gi_dimacs.specs.declared.content.Content.TheVariants.{Clauses, Items}
use Rattle.gi_dimacs.specs.declared.words.Taken.{Taken}
use Rattle.gi_dimacs.specs.Content.{File, nothing, format_of, with_item, items_of, clauses_in, literals_in, greatest, greatest_of}
use Rattle.gi_dimacs.specs.Files.{begin, closed, asked, with_literal, with_assumption, begins_number, number_in, add_word, add_words, then_words, ask_number, ask_words, is_end, is_ask, Goes, Ends, Stops, moves, ask_line, body_words, body_line, whole, after_move, read_body, begin_body, head_words, header_words, check_counts, count_at, read_lines, read_file}
use Rattle.gi_dimacs.specs.Relation.{line_words, begins_end, Token, Number, Asks, to_number, list_tokens, AreNumbers, LineSays, LinesSay, tokens_of, IsProper, IsFile}
use Rattle.gi_dimacs.proofs.WholeTexts.{format_of-nothing}
use Rattle.gi_dimacs.proofs.Relating.{Proper, with_ask, line_is, head_line_is, format-item}
use Rattle.gi_dimacs.specs.Limits.{most_assumptions}

-- words that are numbers
digits_begin : (b : ℕ) (bs : List ℕ) (z : ℤ) → option_map pos (magnitude (b ∷ bs)) ≡ Some z → is_ascii_digit b ≡ true
unfolding magnitude
digits_begin b bs z e = by_test (is_ascii_digit b) refl e where
  by_test : (d : Bool) → is_ascii_digit b ≡ d → option_map pos (cond (d && all_ascii_digits bs) (Some (read_on 0 (b ∷ bs))) None) ≡ Some z → is_ascii_digit b ≡ true
  by_test true is e = is
  by_test false is e = absurd cc

begins : (w : List ℕ) (z : ℤ) → number_of w ≡ Some z → begins_number w ≡ true
unfolding number_of
begins [] z e = absurd cc
begins (b ∷ bs) z e = by_test (b == 45) e where
  by_test : (m : Bool) → cond m (negated (magnitude bs)) (option_map pos (magnitude (b ∷ bs))) ≡ Some z → (m || is_ascii_digit b) ≡ true
  by_test true e = refl
  by_test false e = digits_begin b bs z e

number_in-is : (w : List ℕ) (z : ℤ) → number_of w ≡ Some z → size_of z ≤ max_var → number_in w ≡ Ok z
unfolding number_in
number_in-is w z e small = let fits : nat_lt max_var (size_of z) ≡ false = le-ltb max_var (size_of z) small in rw (begins w z e, e) (rw fits refl)

-- a literal's number
pub record IsLit (l : ℕ) (z : ℤ) : Type 0 where
  pub number : to_number l ≡ z
  pub code : literal_of z ≡ l
  pub size : size_of z ≡ l / 2
  pub some : z ≢ pos 0

lit_is : (l : ℕ) → Proper l → IsLit l (to_number l)
unfolding to_number
lit_is l low = elim (eqb_tells (l % 2) 0) [
  | inl even ↦ rw even.0 (record { number = rw even.0 refl; code = omega (arith, even.1); size = refl; some = λ e. positive (l / 2) low e })
  | inr odd ↦ rw odd.0 (record { number = rw odd.0 refl; code = omega (arith, odd.1); size = omega arith; some = λ e. cc })
] where
  positive : (n : ℕ) → 1 ≤ n → pos n ≡ pos 0 → ⊥
  positive zero low e = omega arith
  positive (suc n) low e = cc

-- what a token makes
abbrev pub add_token : Taken → Token → Taken
add_token t (Number (pos zero)) = closed t
add_token t (Number (pos (suc n))) = with_literal t (pos (suc n))
add_token t (Number (negsuc n)) = with_literal t (negsuc n)
add_token t (Asks c) = record { vars = max t.vars (greatest c); content = with_item t.content (Ask c); ended = t.ended; begun = []; literals = t.literals }

abbrev pub add_tokens : Taken → List Token → Taken
add_tokens t [] = t
add_tokens t (x ∷ xs) = add_tokens (add_token t x) xs

token_number : (t : Taken) (z : ℤ) → z ≢ pos 0 → add_token t (Number z) ≡ with_literal t z
token_number t (pos zero) some = absurd (some refl)
token_number t (pos (suc n)) some = refl
token_number t (negsuc n) some = refl

adds-append : (t : Taken) (us vs : List Token) → add_tokens t (us ++ vs) ≡ add_tokens (add_tokens t us) vs
adds-append t [] vs = refl
adds-append t (x ∷ us) vs = adds-append (add_token t x) us vs

-- within the limits
pub record Fits (t : Taken) : Type 0 where
  pub small : t.vars ≤ max_var
  pub clauses : t.ended ≤ 4194304
  pub literals : t.literals ≤ 67108864

fits_before : (t : Taken) (x : Token) → Fits (add_token t x) → Fits t
fits_before t (Number (pos zero)) h = record { small = h.small; clauses = omega (arith, h.clauses); literals = h.literals }
fits_before t (Number (pos (suc n))) h = record { small = omega (arith, h.small); clauses = h.clauses; literals = omega (arith, h.literals) }
fits_before t (Number (negsuc n)) h = record { small = omega (arith, h.small); clauses = h.clauses; literals = omega (arith, h.literals) }
fits_before t (Asks c) h = record { small = omega (arith, h.small); clauses = h.clauses; literals = h.literals }

fits_start : (us : List Token) (t : Taken) → Fits (add_tokens t us) → Fits t
fits_start [] t h = h
fits_start (x ∷ us) t h = fits_before t x (fits_start us (add_token t x) h)

below : (a b : ℕ) → b < a → nat_le a b ≡ false
below a b h = grind (arith, nat_tests)

word_step : (t : Taken) (w : List ℕ) (z : ℤ) → number_of w ≡ Some z → Fits (add_token t (Number z)) → add_word t w ≡ Ok (add_token t (Number z))
unfolding add_word
word_step t w (pos zero) e h =
    let free : nat_le 4194304 t.ended ≡ false = below 4194304 t.ended (omega (arith, h.clauses)) in
    rw (number_in-is w (pos 0) e (omega arith)) (rw free refl)
word_step t w (pos (suc n)) e h =
    let free : nat_le 67108864 t.literals ≡ false = below 67108864 t.literals (omega (arith, h.literals)) in
    rw (number_in-is w (pos (suc n)) e (omega (arith, h.small))) (rw free refl)
word_step t w (negsuc n) e h =
    let free : nat_le 67108864 t.literals ≡ false = below 67108864 t.literals (omega (arith, h.literals)) in
    rw (number_in-is w (negsuc n) e (omega (arith, h.small))) (rw free refl)

words_step : (t : Taken) (ws : List (List ℕ)) (us : List Token) → AreNumbers ws us → Fits (add_tokens t us) → add_words t ws ≡ Ok (add_tokens t us)
unfolding add_words
words_step t [] [] h fits = refl
words_step t [] (x ∷ us) h fits = absurd h
words_step t (w ∷ ws) [] h fits = absurd h
words_step t (w ∷ ws) (Asks c ∷ us) h fits = absurd h
words_step t (w ∷ ws) (Number z ∷ us) h fits =
    ap (λ r. then_words r (λ (u : Taken). add_words u ws)) (word_step t w z h.0 (fits_start us (add_token t (Number z)) fits)) ∙ words_step (add_token t (Number z)) ws us h.1 fits

-- an ask's list
ask_goes : (t : Taken) (z : ℤ) (ws : List (List ℕ)) (next : Taken → Result Taken CnfCode) → z ≢ pos 0 → length t.begun < most_assumptions → ask_number t (Ok z) ws next ≡ next (with_assumption t z)
ask_goes t (pos zero) ws next some room = absurd (some refl)
ask_goes t (pos (suc n)) ws next some room = let free = below most_assumptions (length t.begun) room in rw free refl
ask_goes t (negsuc n) ws next some room = let free = below most_assumptions (length t.begun) room in rw free refl

ask_none : (t : Taken) → asked t ≡ with_ask t []
ask_none t = let same : max t.vars 0 ≡ t.vars = omega arith in rw (append-nil t.begun, same) refl

ask_more : (t : Taken) (l : ℕ) (c : List ℕ) (z : ℤ) → IsLit l z → with_ask (with_assumption t z) c ≡ with_ask t (l ∷ c)
ask_more t l c z is =
    let regroup : (t.begun ++ literal_of z ∷ []) ++ c ≡ t.begun ++ l ∷ c = append_assoc t.begun (literal_of z ∷ []) c ∙ ap (λ (x : ℕ). t.begun ++ x ∷ c) is.code in
    let greater : max (max t.vars (size_of z)) (greatest c) ≡ max t.vars (max (l / 2) (greatest c)) = omega (arith, is.size) in
    rw (regroup, greater) refl

ask_step : (t : Taken) (ws : List (List ℕ)) (c : List ℕ) → AreNumbers ws (list_tokens c) → AllByRecursion Proper c → greatest c ≤ max_var → length t.begun + length c ≤ most_assumptions → ask_words t ws ≡ Ok (with_ask t c)
unfolding ask_words
ask_step t [] [] h proper small len = absurd h
ask_step t [] (l ∷ c) h proper small len = absurd h
ask_step t (w ∷ x ∷ ws) [] h proper small len = absurd h.1
ask_step t (w ∷ []) [] h proper small len = rw (number_in-is w (pos 0) h.0 (omega arith)) (ap Ok (ask_none t))
ask_step t (w ∷ ws) (l ∷ c) h proper small len =
    let is = lit_is l proper.0 in
    let fits : size_of (to_number l) ≤ max_var = omega (arith, is.size) in
    ap (λ r. ask_number t r ws (λ (u : Taken). ask_words u ws)) (number_in-is w (to_number l) h.0 fits)
    ∙ ask_goes t (to_number l) ws (λ (u : Taken). ask_words u ws) is.some (omega arith)
    ∙ ask_step (with_assumption t (to_number l)) ws c h.1 proper.1 (omega arith) (omega (arith, length-append t.begun (literal_of (to_number l) ∷ [])))
    ∙ ap Ok (ask_more t l c (to_number l) is)

-- what lists and items make
abbrev with_clause : Taken → List ℕ → Taken
with_clause t c = record { vars = max t.vars (greatest c); content = with_item t.content (Clause (t.begun ++ c)); ended = t.ended + 1; begun = []; literals = t.literals + length c }

clause_none : (t : Taken) → closed t ≡ with_clause t []
clause_none t = let same : max t.vars 0 ≡ t.vars = omega arith in rw (append-nil t.begun, same, add-zero t.literals) refl

clause_more : (t : Taken) (l : ℕ) (c : List ℕ) (z : ℤ) → IsLit l z → with_clause (with_literal t z) c ≡ with_clause t (l ∷ c)
clause_more t l c z is =
    let regroup : (t.begun ++ literal_of z ∷ []) ++ c ≡ t.begun ++ l ∷ c = append_assoc t.begun (literal_of z ∷ []) c ∙ ap (λ (x : ℕ). t.begun ++ x ∷ c) is.code in
    let greater : max (max t.vars (size_of z)) (greatest c) ≡ max t.vars (max (l / 2) (greatest c)) = omega (arith, is.size) in
    let count : t.literals + 1 + length c ≡ t.literals + suc (length c) = omega arith in
    rw (regroup, greater, count) refl

list_adds : (t : Taken) (c : List ℕ) (rest : List Token) → AllByRecursion Proper c → add_tokens t (list_tokens c ++ rest) ≡ add_tokens (with_clause t c) rest
list_adds t [] rest proper = ap (λ s. add_tokens s rest) (clause_none t)
list_adds t (l ∷ c) rest proper =
    let is = lit_is l proper.0 in
    ap (λ s. add_tokens s (list_tokens c ++ rest)) (token_number t (to_number l) is.some)
    ∙ list_adds (with_literal t (to_number l)) c rest proper.1
    ∙ ap (λ s. add_tokens s rest) (clause_more t l c (to_number l) is)

abbrev with_all : Content → List Item → Content
with_all k [] = k
with_all k (i ∷ is) = with_all (with_item k i) is

abbrev with_items : Taken → List Item → Taken
with_items t is = record { vars = max t.vars (greatest_of is); content = with_all t.content is; ended = t.ended + clauses_in is; begun = []; literals = t.literals + literals_in is }

items_none : (t : Taken) → t.begun ≡ [] → t ≡ with_items t []
items_none t none = let same : max t.vars 0 ≡ t.vars = omega arith in rw (same, add-zero t.ended, add-zero t.literals, ← none) refl

items_clause : (t : Taken) (c : List ℕ) (is : List Item) → t.begun ≡ [] → with_items (with_clause t c) is ≡ with_items t (Clause c ∷ is)
items_clause t c is none =
    let whole_clause : t.begun ++ c ≡ c = ap (λ xs. xs ++ c) none in
    let greater : max (max t.vars (greatest c)) (greatest_of is) ≡ max t.vars (max (greatest c) (greatest_of is)) = omega arith in
    let clauses : t.ended + 1 + clauses_in is ≡ t.ended + (1 + clauses_in is) = omega arith in
    let literals : t.literals + length c + literals_in is ≡ t.literals + (length c + literals_in is) = omega arith in
    rw (whole_clause, greater, clauses, literals) refl

items_ask : (t : Taken) (c : List ℕ) (is : List Item) → with_items (add_token t (Asks c)) is ≡ with_items t (Ask c ∷ is)
items_ask t c is =
    let greater : max (max t.vars (greatest c)) (greatest_of is) ≡ max t.vars (max (greatest c) (greatest_of is)) = omega arith in
    rw greater refl

all_adds : (t : Taken) (is : List Item) → t.begun ≡ [] → AllByRecursion IsProper is → add_tokens t (tokens_of is) ≡ with_items t is
all_adds t [] none proper = items_none t none
all_adds t (Clause c ∷ is) none proper = list_adds t c (tokens_of is) proper.0 ∙ all_adds (with_clause t c) is refl proper.1 ∙ items_clause t c is none
all_adds t (Ask c ∷ is) none proper = all_adds (add_token t (Asks c)) is refl proper.1 ∙ items_ask t c is

-- no ask stands in an open clause
abbrev pub Valid : Taken → List Token → Type 0
Valid t [] = Unit {0}
Valid t (Number z ∷ us) = Valid (add_token t (Number z)) us
Valid t (Asks c ∷ us) = (t.begun ≡ []) × AllByRecursion Proper c × (length c ≤ most_assumptions) × Valid (add_token t (Asks c)) us

valid_parts : (t : Taken) (us vs : List Token) → Valid t (us ++ vs) → Valid t us × Valid (add_tokens t us) vs
valid_parts t [] vs h = (tt, h)
valid_parts t (Number z ∷ us) vs h = valid_parts (add_token t (Number z)) us vs h
valid_parts t (Asks c ∷ us) vs h = let p = valid_parts (add_token t (Asks c)) us vs h.3 in ((h.0, h.1, h.2, p.0), p.1)

valid_list : (t : Taken) (c : List ℕ) (rest : List Token) → ((u : Taken) → u.begun ≡ [] → Valid u rest) → Valid t (list_tokens c ++ rest)
valid_list t [] rest f = f (closed t) refl
valid_list t (l ∷ c) rest f = valid_list (add_token t (Number (to_number l))) c rest f

valid_all : (is : List Item) (t : Taken) → t.begun ≡ [] → AllByRecursion IsProper is → Valid t (tokens_of is)
valid_all [] t none proper = tt
valid_all (Clause c ∷ is) t none proper = valid_list t c (tokens_of is) (λ u none. valid_all is u none proper.1)
valid_all (Ask c ∷ is) t none proper = (none, proper.0.0, proper.0.1, valid_all is (add_token t (Asks c)) refl proper.1)

-- a line of the body
plain_step : (t : Taken) (w : List ℕ) (ws : List (List ℕ)) (us : List Token) → is_end w ≡ false → is_ask (format_of t.content) w ≡ false → AreNumbers (w ∷ ws) us → Fits (add_tokens t us) → body_words t (w ∷ ws) ≡ Goes (add_tokens t us)
plain_step t w ws us go other nums fits = by_tests (is_end w) (is_ask (format_of t.content) w) go other where
  by_tests : (b d : Bool) → b ≡ false → d ≡ false → cond b Ends (cond d (ask_line t ws) (moves (add_words t (w ∷ ws)))) ≡ Goes (add_tokens t us)
  by_tests true d go other = absurd cc
  by_tests false true go other = absurd cc
  by_tests false false go other = ap moves (words_step t (w ∷ ws) us nums fits)

asks_step : (t : Taken) (w : List ℕ) (ws : List (List ℕ)) (c : List ℕ) → is_end w ≡ false → is_ask (format_of t.content) w ≡ true → AreNumbers ws (list_tokens c) → Valid t (Asks c ∷ []) → Fits (add_token t (Asks c)) → body_words t (w ∷ ws) ≡ Goes (add_token t (Asks c))
asks_step t w ws c go asks nums valid fits = by_tests (is_end w) (is_ask (format_of t.content) w) go asks where
  none : t.begun ≡ []
  none = valid.0

  whole_ask : with_ask t c ≡ add_token t (Asks c)
  whole_ask = let same : t.begun ++ c ≡ c = ap (λ xs. xs ++ c) none in rw same refl

  list : ask_words t ws ≡ Ok (with_ask t c)
  list = ask_step t ws c nums valid.1 (omega (arith, fits.small)) (omega (arith, ap length none, valid.2))

  by_open : (b : Bool) → b ≡ true → cond b (moves (ask_words t ws)) (Stops Unterminated) ≡ Goes (add_token t (Asks c))
  by_open true e = ap moves (list ∙ ap Ok whole_ask)
  by_open false e = absurd cc

  by_tests : (b d : Bool) → b ≡ false → d ≡ true → cond b Ends (cond d (ask_line t ws) (moves (add_words t (w ∷ ws)))) ≡ Goes (add_token t (Asks c))
  by_tests true d go asks = absurd cc
  by_tests false false go asks = absurd cc
  by_tests false true go asks = by_open (length t.begun == 0) (ap (λ xs. length xs == 0) none)

line_step : (f : Format) (t : Taken) (ws : List (List ℕ)) (us : List Token) → format_of t.content ≡ f → LineSays f ws us → begins_end ws ≡ false → Valid t us → Fits (add_tokens t us) → body_words t ws ≡ Goes (add_tokens t us)
line_step f t [] [] of_format says go valid fits = refl
line_step f t [] (x ∷ us) of_format (inl plain) go valid fits = absurd plain.1
line_step f t [] (x ∷ us) of_format (inr ask) go valid fits = let other = ask.0 in absurd cc
line_step f t (w ∷ ws) us of_format (inl plain) go valid fits = plain_step t w ws us go (ap (λ g. is_ask g w) of_format ∙ plain.0) plain.1 fits
line_step f t (w ∷ ws) us of_format (inr ask) go valid fits =
    let c = ask.1.lits in
    let step : body_words t (w ∷ ws) ≡ Goes (add_token t (Asks c)) = asks_step t w ws c go (ap (λ g. is_ask g w) of_format ∙ ask.0) ask.1.spelled (subst (λ ts. Valid t ts) ask.1.one valid) (subst (λ ts. Fits (add_tokens t ts)) ask.1.one fits) in
    step ∙ ap (λ ts. Goes (add_tokens t ts)) (sym ask.1.one)

adds-format : (us : List Token) (t : Taken) → format_of (add_tokens t us).content ≡ format_of t.content
adds-format [] t = refl
adds-format (Number (pos zero) ∷ us) t = adds-format us (closed t) ∙ format-item t.content (Clause t.begun)
adds-format (Number (pos (suc n)) ∷ us) t = adds-format us (with_literal t (pos (suc n)))
adds-format (Number (negsuc n) ∷ us) t = adds-format us (with_literal t (negsuc n))
adds-format (Asks c ∷ us) t = adds-format us (add_token t (Asks c)) ∙ format-item t.content (Ask c)

body_go : (f : Format) (k : ℕ) (t : Taken) (body tail : List (List ℕ)) (us : List Token) → format_of t.content ≡ f → LinesSay f body us → AllByRecursion (λ l. begins_end (line_words l) ≡ false) body → Valid t us → Fits (add_tokens t us)
    → (n : ℕ) × (read_body k t (body ++ tail) ≡ read_body n (add_tokens t us) tail)
unfolding read_body
body_go f k t [] tail us of_format say going valid fits = (k, ap (λ ts. read_body k (add_tokens t ts) tail) (sym say))
body_go f k t (l ∷ body) tail us of_format say going valid fits =
    let first = say.0 in
    let rest = say.1 in
    let parts = valid_parts t first rest (subst (λ ts. Valid t ts) say.2 valid) in
    let u = add_tokens t first in
    let all : add_tokens t us ≡ add_tokens u rest = ap (λ ts. add_tokens t ts) say.2 ∙ adds-append t first rest in
    let fit : Fits (add_tokens u rest) = subst (λ s. Fits s) all fits in
    let step : body_line t l ≡ Goes u = line_is t l ∙ line_step f t (line_words l) first of_format say.3 going.0 parts.0 (fits_start rest u fit) in
    let next = body_go f (k + 1) u body tail rest (adds-format first t ∙ of_format) say.4 going.1 parts.1 fit in
    (next.0, ap (λ m. after_move m t k (λ (v : Taken). read_body (k + 1) v (body ++ tail))) step ∙ next.1 ∙ ap (λ s. read_body next.0 s tail) (sym all))

begins_ends : (t : Taken) (ws : List (List ℕ)) → begins_end ws ≡ true → body_words t ws ≡ Ends
begins_ends t [] e = absurd cc
begins_ends t (w ∷ ws) e = rw e refl

end_go : (n : ℕ) (u : Taken) (tail : List (List ℕ)) → u.begun ≡ [] → (tail ≡ []) ⊎ ((l : List ℕ) × (ls : List (List ℕ)) × (tail ≡ l ∷ ls) × (begins_end (line_words l) ≡ true)) → read_body n u tail ≡ Ok (record { vars = u.vars; content = u.content })
unfolding read_body
end_go n u tail none (inl e) = rw e (rw none refl)
end_go n u tail none (inr e) = rw e.2 (ap (λ m. after_move m u n (λ (v : Taken). read_body (n + 1) v e.1)) (line_is u e.0 ∙ begins_ends u (line_words e.0) e.3) ∙ whole_ok) where
  whole_ok : whole u n ≡ Ok (record { vars = u.vars; content = u.content })
  whole_ok = rw none refl

head_go : (f : Format) (k : ℕ) (front : List (List ℕ)) (head : List ℕ) (rest : List (List ℕ)) (d : ℕ) → AllByRecursion (λ l. line_words l ≡ []) front → header_words f (line_words head) ≡ Ok d → (n : ℕ) × (read_lines f k (front ++ head ∷ rest) ≡ read_body n (begin f d) rest)
head_go f k [] head rest d silent header = (k + 1, head_line_is f k head rest ∙ by_words f (line_words head) header) where
  by_words : (g : Format) (ws : List (List ℕ)) → header_words g ws ≡ Ok d → head_words g ws k (read_lines f (k + 1) rest) (λ t. read_body (k + 1) t rest) ≡ read_body (k + 1) (begin g d) rest
  by_words formats.Cnf [] e = absurd cc
  by_words formats.Icnf [] e = absurd cc
  by_words g (w ∷ ws) e = ap (λ r. begin_body g r k (λ t. read_body (k + 1) t rest)) e
head_go f k (l ∷ front) head rest d silent header =
    let next = head_go f (k + 1) front head rest d silent.1 header in
    (next.0, head_line_is f k l (front ++ head ∷ rest) ∙ ap (λ ws. head_words f ws k (read_lines f (k + 1) (front ++ head ∷ rest)) (λ t. read_body (k + 1) t (front ++ head ∷ rest))) silent.0 ∙ next.1)

-- a header's variables are within the limit
cnf_small : (ws : List (List ℕ)) (d : ℕ) → header_words formats.Cnf ws ≡ Ok d → d ≤ max_var
cnf_small [] d e = absurd cc
cnf_small (p ∷ []) d e = absurd cc
cnf_small (p ∷ cnf ∷ []) d e = absurd cc
cnf_small (p ∷ cnf ∷ v ∷ []) d e = absurd cc
cnf_small (p ∷ cnf ∷ v ∷ c ∷ x ∷ ws) d e = absurd cc
cnf_small (p ∷ cnf ∷ v ∷ c ∷ []) d e = by_words (bytes_eq p (112 ∷ []) && bytes_eq cnf (99 ∷ 110 ∷ 102 ∷ [])) (count_at v) (count_at c) e where
  by_size : (n m : ℕ) (a b : Bool) → nat_lt max_var n ≡ a → cond (a || b) (Err Limit) (Ok n) ≡ Ok d → d ≤ max_var
  by_size n m true b is e = absurd cc
  by_size n m false true is e = absurd cc
  by_size n m false false is e = let small = ltb-false max_var n is in let same : n ≡ d = cc in omega arith

  by_words : (b : Bool) (v c : Option ℕ) → cond b (check_counts v c) (Err Header) ≡ Ok d → d ≤ max_var
  by_words false v c e = absurd cc
  by_words true None c e = absurd cc
  by_words true (Some n) None e = absurd cc
  by_words true (Some n) (Some m) e = by_size n m (nat_lt max_var n) (nat_lt 4294967295 m) refl e

pub icnf_declares : (ws : List (List ℕ)) (d : ℕ) → header_words formats.Icnf ws ≡ Ok d → d ≡ 0
icnf_declares [] d e = absurd cc
icnf_declares (p ∷ []) d e = absurd cc
icnf_declares (p ∷ w ∷ x ∷ ws) d e = absurd cc
icnf_declares (p ∷ w ∷ []) d e = by_test (bytes_eq p (112 ∷ []) && bytes_eq w (105 ∷ 110 ∷ 99 ∷ 99 ∷ 110 ∷ 102 ∷ [])) e where
  by_test : (b : Bool) → cond b (Ok 0) (Err Header) ≡ Ok d → d ≡ 0
  by_test true e = cc
  by_test false e = absurd cc

pub header_small : (f : Format) (ws : List (List ℕ)) (d : ℕ) → header_words f ws ≡ Ok d → d ≤ max_var
header_small formats.Cnf ws d e = cnf_small ws d e
header_small formats.Icnf ws d e = let none = icnf_declares ws d e in omega arith

-- a content is what its items make
clauses_make : (ds cs : List (List ℕ)) → with_all (Clauses ds) (map Clause cs) ≡ Clauses (ds ++ cs)
clauses_make ds [] = ap Clauses (sym (append-nil ds))
clauses_make ds (c ∷ cs) = clauses_make (ds ++ c ∷ []) cs ∙ ap Clauses (append_assoc ds (c ∷ []) cs)

items_make : (ds is : List Item) → with_all (Items ds) is ≡ Items (ds ++ is)
items_make ds [] = ap Items (sym (append-nil ds))
items_make ds (i ∷ is) = items_make (ds ++ i ∷ []) is ∙ ap Items (append_assoc ds (i ∷ []) is)

makes : (k : Content) → with_all (nothing (format_of k)) (items_of k) ≡ k
makes (Clauses cs) = clauses_make [] cs
makes (Items is) = items_make [] is

pub file_is_read : (v : File) (bytes : List ℕ) → IsFile v bytes → read_file (format_of v.content) bytes ≡ Ok v
unfolding read_file
file_is_read v bytes h =
    let f = format_of v.content in
    let is = items_of v.content in
    let t = begin f h.declared in
    let u = with_items t is in
    let adds : add_tokens t (tokens_of is) ≡ u = all_adds t is refl h.proper in
    let small = header_small f (line_words h.head) h.declared h.header in
    let fits : Fits u = record { small = omega (arith, h.small); clauses = omega (arith, h.clauses); literals = omega (arith, h.literals) } in
    let head = head_go f 1 h.front h.head (h.body ++ h.tail) h.declared h.silent h.header in
    let body = body_go f head.0 t h.body h.tail (tokens_of is) (format_of-nothing f) h.spelled h.going (valid_all is t refl h.proper) (subst (λ s. Fits s) (sym adds) fits) in
    ap (λ ls. read_lines f 1 ls) h.lines ∙ head.1 ∙ body.1 ∙ ap (λ s. read_body body.0 s h.tail) adds ∙ end_go body.0 u h.tail refl h.ending
    ∙ ap (λ (n : ℕ). Ok (record { vars = n; content = with_all (nothing f) is })) (sym h.vars) ∙ ap (λ (k : Content). Ok (record { vars = v.vars; content = k })) (makes v.content)
