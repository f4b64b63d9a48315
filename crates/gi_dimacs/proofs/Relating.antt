-- What is read stands in the relation, and what stands in it is read.
use Rattle.std.proofs.Common.{◌≡◌, ◌≢◌, ℕ, zero, suc, ◌+◌, ◌*◌, ◌-◌, ◌/◌, ◌%◌, ◌<◌, ◌≤◌, max, nat_lt, nat_le, List, [], ◌∷◌, ◌++◌, length, Bool, true, false, cond, ◌⊎◌, inl, inr, Option, Some, None, Result, Ok, Err, refl, ap, sym, ◌∙◌, append_assoc, length-append, arith, ℤ, pos, negsuc, subst, map}
use Rattle.std.specs.Prelude.{◌==◌}
use Rattle.std.specs.List.{AllByRecursion}
use Rattle.std.proofs.lemmas.Bool.Decides.{nat_tests}
use Rattle.std.proofs.lemmas.Bool.{ltb-false, ne_eqb}
use Rattle.std.proofs.lemmas.List.{append-nil}
use Rattle.gi_lit.specs.Literals.{literal_of, max_var}
use Rattle.gi_text.specs.Words.{words_of}
use Rattle.gi_text.specs.Numbers.{number_of, size_of}
use Rattle.gi_dimacs.specs.declared.fault.CnfCode.{CnfCode}
use Rattle.gi_dimacs.specs.declared.fault.CnfCode.TheVariants.{Limit, Word, Unterminated}
use Rattle.gi_dimacs.specs.declared.items.Item.{Item}
use Rattle.gi_dimacs.specs.declared.items.Item.TheVariants.{Clause, Ask}
use Rattle.gi_dimacs.specs.declared.content.Format.{Format}
use Rattle.gi_dimacs.specs.declared.content.Format.TheVariants as formats
use Rattle.gi_dimacs.specs.declared.content.Content.{Content}
use Rattle.gi_dimacs.specs.declared.content.Content.TheVariants.{Clauses, Items}
use Rattle.gi_dimacs.specs.declared.words.Taken.{Taken}
use Rattle.gi_dimacs.specs.Lines.{lines_of}
use Rattle.gi_dimacs.specs.Content.{File, format_of, with_item, items_of, clauses_in, literals_in, greatest, greatest_of}
use Rattle.gi_dimacs.specs.Files.{begin, closed, asked, with_literal, with_assumption, add_number, within_variables, begins_number, number_in, then_number, add_word, add_words, then_words, ask_ends, ask_number, ask_words, is_comment, is_end, is_ask, Move, Goes, Ends, Stops, moves, ask_line, body_words, body_line, whole, after_move, read_body, begin_body, head_words, header_words, read_lines, read_file}
use Rattle.gi_dimacs.specs.Relation.{line_words, begins_end, begins_ask, Token, Number, Asks, to_number, list_tokens, AreNumbers, LineSays, LinesSay, tokens_of, IsProper, IsFile}
use Rattle.gi_dimacs.specs.Limits.{most_assumptions}

-- codes and numbers
to_number-literal_of : (z : ℤ) → z ≢ pos 0 → to_number (literal_of z) ≡ z
unfolding to_number
to_number-literal_of (pos n) some =
    let even : 2 * n % 2 ≡ 0 = omega arith in let half : 2 * n / 2 ≡ n = omega arith in
    rw (even, half) refl
to_number-literal_of (negsuc n) some =
    let odd : (2 * suc n + 1) % 2 ≡ 1 = omega arith in let half : (2 * suc n + 1) / 2 - 1 ≡ n = omega arith in
    rw (odd, half) refl

half_code : (z : ℤ) → literal_of z / 2 ≡ size_of z
half_code (pos n) = omega arith
half_code (negsuc n) = omega arith

abbrev pub Proper : ℕ → Type 0
Proper l = 1 ≤ l / 2

proper_code : (z : ℤ) → z ≢ pos 0 → Proper (literal_of z)
proper_code (pos zero) some = absurd (some refl)
proper_code (pos (suc n)) some = omega arith
proper_code (negsuc n) some = omega arith

-- literals without a 0
abbrev numbers_of : List ℕ → List Token
numbers_of [] = []
numbers_of (l ∷ ls) = Number (to_number l) ∷ numbers_of ls

list_tokens-is : (ls : List ℕ) → list_tokens ls ≡ numbers_of ls ++ Number (pos 0) ∷ []
list_tokens-is [] = refl
list_tokens-is (l ∷ ls) = ap (λ ts. Number (to_number l) ∷ ts) (list_tokens-is ls)

numbers_of-push : (ls : List ℕ) (l : ℕ) → numbers_of (ls ++ l ∷ []) ≡ numbers_of ls ++ Number (to_number l) ∷ []
numbers_of-push [] l = refl
numbers_of-push (x ∷ ls) l = ap (λ ts. Number (to_number x) ∷ ts) (numbers_of-push ls l)

-- one more item
abbrev item_tokens : Item → List Token
item_tokens (Clause c) = list_tokens c
item_tokens (Ask lits) = Asks lits ∷ []

tokens_of-push : (is : List Item) (i : Item) → tokens_of (is ++ i ∷ []) ≡ tokens_of is ++ item_tokens i
tokens_of-push [] (Clause c) = append-nil (list_tokens c)
tokens_of-push [] (Ask lits) = refl
tokens_of-push (Clause d ∷ is) i = ap (λ ts. list_tokens d ++ ts) (tokens_of-push is i) ∙ sym (append_assoc (list_tokens d) (tokens_of is) (item_tokens i))
tokens_of-push (Ask lits ∷ is) i = ap (λ ts. Asks lits ∷ ts) (tokens_of-push is i)

greatest-push : (c : List ℕ) (l : ℕ) → greatest (c ++ l ∷ []) ≡ max (greatest c) (l / 2)
greatest-push [] l = omega arith
greatest-push (x ∷ c) l = omega (arith, greatest-push c l)

abbrev lits_of : Item → List ℕ
lits_of (Clause c) = c
lits_of (Ask lits) = lits

greatest_of-push : (is : List Item) (i : Item) → greatest_of (is ++ i ∷ []) ≡ max (greatest_of is) (greatest (lits_of i))
greatest_of-push [] (Clause c) = omega arith
greatest_of-push [] (Ask lits) = omega arith
greatest_of-push (Clause d ∷ is) i = omega (arith, greatest_of-push is i)
greatest_of-push (Ask d ∷ is) i = omega (arith, greatest_of-push is i)

clauses_in-push : (is : List Item) (c : List ℕ) → clauses_in (is ++ Clause c ∷ []) ≡ clauses_in is + 1
clauses_in-push [] c = refl
clauses_in-push (Clause d ∷ is) c = omega (arith, clauses_in-push is c)
clauses_in-push (Ask d ∷ is) c = clauses_in-push is c

clauses_in-ask : (is : List Item) (c : List ℕ) → clauses_in (is ++ Ask c ∷ []) ≡ clauses_in is
clauses_in-ask [] c = refl
clauses_in-ask (Clause d ∷ is) c = omega (arith, clauses_in-ask is c)
clauses_in-ask (Ask d ∷ is) c = clauses_in-ask is c

literals_in-push : (is : List Item) (c : List ℕ) → literals_in (is ++ Clause c ∷ []) ≡ literals_in is + length c
literals_in-push [] c = omega arith
literals_in-push (Clause d ∷ is) c = omega (arith, literals_in-push is c)
literals_in-push (Ask d ∷ is) c = literals_in-push is c

literals_in-ask : (is : List Item) (c : List ℕ) → literals_in (is ++ Ask c ∷ []) ≡ literals_in is
literals_in-ask [] c = refl
literals_in-ask (Clause d ∷ is) c = omega (arith, literals_in-ask is c)
literals_in-ask (Ask d ∷ is) c = literals_in-ask is c

all_push : {A : Type 0} (P : A → Type 0) (xs : List A) (x : A) → AllByRecursion P xs → P x → AllByRecursion P (xs ++ x ∷ [])
all_push P [] x h p = (p, tt)
all_push P (y ∷ xs) x h p = (h.0, all_push P xs x h.1 p)

-- a content with one more item
map-push : (cs : List (List ℕ)) (c : List ℕ) → map Clause (cs ++ c ∷ []) ≡ map Clause cs ++ Clause c ∷ []
map-push [] c = refl
map-push (d ∷ cs) c = ap (λ is. Clause d ∷ is) (map-push cs c)

items-clause : (k : Content) (c : List ℕ) → items_of (with_item k (Clause c)) ≡ items_of k ++ Clause c ∷ []
items-clause (Clauses cs) c = map-push cs c
items-clause (Items is) c = refl

items-ask : (k : Content) (c : List ℕ) → format_of k ≡ formats.Icnf → items_of (with_item k (Ask c)) ≡ items_of k ++ Ask c ∷ []
items-ask (Clauses cs) c e = absurd cc
items-ask (Items is) c e = refl

pub format-item : (k : Content) (i : Item) → format_of (with_item k i) ≡ format_of k
format-item (Clauses cs) (Clause c) = refl
format-item (Clauses cs) (Ask c) = refl
format-item (Items is) i = refl

-- what tokens so far gave
pub record Told (format : Format) (declared : ℕ) (done : List Token) (t : Taken) : Type 0 where
  pub of_format : format_of t.content ≡ format
  pub tokens : done ≡ tokens_of (items_of t.content) ++ numbers_of t.begun
  pub proper : AllByRecursion IsProper (items_of t.content)
  pub proper_begun : AllByRecursion Proper t.begun
  pub vars : t.vars ≡ max declared (max (greatest_of (items_of t.content)) (greatest t.begun))
  pub small : max (greatest_of (items_of t.content)) (greatest t.begun) ≤ max_var
  pub ended : t.ended ≡ clauses_in (items_of t.content)
  pub clauses : t.ended ≤ 4194304
  pub count : t.literals ≡ literals_in (items_of t.content) + length t.begun
  pub literals : t.literals ≤ 67108864

told_zero : (f : Format) (d : ℕ) (done : List Token) (t : Taken) → t.ended < 4194304 → Told f d done t → Told f d (done ++ Number (pos 0) ∷ []) (closed t)
told_zero f d done t room h =
    let is = items-clause t.content t.begun in
    record {
      of_format = format-item t.content (Clause t.begun) ∙ h.of_format;
      tokens = ap (λ ts. ts ++ Number (pos 0) ∷ []) h.tokens ∙ append_assoc (tokens_of (items_of t.content)) (numbers_of t.begun) (Number (pos 0) ∷ [])
          ∙ ap (λ ts. tokens_of (items_of t.content) ++ ts) (sym (list_tokens-is t.begun)) ∙ sym (tokens_of-push (items_of t.content) (Clause t.begun)) ∙ ap tokens_of (sym is) ∙ sym (append-nil (tokens_of (items_of (with_item t.content (Clause t.begun)))));
      proper = subst (λ xs. AllByRecursion IsProper xs) (sym is) (all_push IsProper (items_of t.content) (Clause t.begun) h.proper h.proper_begun);
      proper_begun = tt;
      vars = omega (arith, h.vars, ap greatest_of is, greatest_of-push (items_of t.content) (Clause t.begun));
      small = omega (arith, h.small, ap greatest_of is, greatest_of-push (items_of t.content) (Clause t.begun));
      ended = omega (arith, h.ended, ap clauses_in is, clauses_in-push (items_of t.content) t.begun);
      clauses = omega arith;
      count = omega (arith, h.count, ap literals_in is, literals_in-push (items_of t.content) t.begun);
      literals = h.literals;
    }

told_literal : (f : Format) (d : ℕ) (done : List Token) (t : Taken) (z : ℤ) → z ≢ pos 0 → size_of z ≤ max_var → t.literals < 67108864 → Told f d done t → Told f d (done ++ Number z ∷ []) (with_literal t z)
told_literal f d done t z some small room h = record {
  of_format = h.of_format;
  tokens = ap (λ ts. ts ++ Number z ∷ []) h.tokens ∙ append_assoc (tokens_of (items_of t.content)) (numbers_of t.begun) (Number z ∷ [])
      ∙ ap (λ ts. tokens_of (items_of t.content) ++ ts) (ap (λ (x : ℤ). numbers_of t.begun ++ Number x ∷ []) (sym (to_number-literal_of z some)) ∙ sym (numbers_of-push t.begun (literal_of z)));
  proper = h.proper;
  proper_begun = all_push Proper t.begun (literal_of z) h.proper_begun (proper_code z some);
  vars = omega (arith, h.vars, greatest-push t.begun (literal_of z), half_code z);
  small = omega (arith, h.small, greatest-push t.begun (literal_of z), half_code z);
  ended = h.ended;
  clauses = h.clauses;
  count = omega (arith, h.count, length-append t.begun (literal_of z ∷ []));
  literals = omega arith;
}

told_ask : (f : Format) (d : ℕ) (done : List Token) (t : Taken) (c : List ℕ) → f ≡ formats.Icnf → t.begun ≡ [] → AllByRecursion Proper c → greatest c ≤ max_var → length c ≤ most_assumptions → Told f d done t
    → Told f d (done ++ Asks c ∷ []) (record { vars = max t.vars (greatest c); content = with_item t.content (Ask c); ended = t.ended; begun = []; literals = t.literals })
told_ask f d done t c icnf none proper small len h =
    let is = items-ask t.content c (h.of_format ∙ icnf) in
    let no_numbers : numbers_of t.begun ≡ [] = ap numbers_of none in
    let no_greatest : greatest t.begun ≡ 0 = ap greatest none in
    let no_length : length t.begun ≡ 0 = ap length none in
    record {
      of_format = format-item t.content (Ask c) ∙ h.of_format;
      tokens = ap (λ ts. ts ++ Asks c ∷ []) (h.tokens ∙ ap (λ ts. tokens_of (items_of t.content) ++ ts) no_numbers ∙ append-nil (tokens_of (items_of t.content)))
          ∙ sym (tokens_of-push (items_of t.content) (Ask c)) ∙ ap tokens_of (sym is) ∙ sym (append-nil (tokens_of (items_of (with_item t.content (Ask c)))));
      proper = subst (λ xs. AllByRecursion IsProper xs) (sym is) (all_push IsProper (items_of t.content) (Ask c) h.proper (proper, len));
      proper_begun = tt;
      vars = omega (arith, h.vars, no_greatest, ap greatest_of is, greatest_of-push (items_of t.content) (Ask c));
      small = omega (arith, h.small, ap greatest_of is, greatest_of-push (items_of t.content) (Ask c));
      ended = omega (arith, h.ended, ap clauses_in is, clauses_in-ask (items_of t.content) c);
      clauses = h.clauses;
      count = omega (arith, h.count, no_length, ap literals_in is, literals_in-ask (items_of t.content) c);
      literals = h.literals;
    }

le-false : (a b : ℕ) → nat_le a b ≡ false → b < a
le-false a b h = grind (arith, nat_tests)

ok_same : (r : Result Taken CnfCode) (x y : Taken) → r ≡ Ok x → r ≡ Ok y → x ≡ y
ok_same r x y a b = cc

told_number : (f : Format) (d : ℕ) (done : List Token) (t u : Taken) (z : ℤ) → size_of z ≤ max_var → add_number t z ≡ Ok u → Told f d done t → Told f d (done ++ Number z ∷ []) u
told_number f d done t u (pos zero) small e h = by_test (nat_le 4194304 t.ended) refl e where
  by_test : (b : Bool) → nat_le 4194304 t.ended ≡ b → cond b (Err Limit) (Ok (closed t)) ≡ Ok u → Told f d (done ++ Number (pos 0) ∷ []) u
  by_test true is e = absurd cc
  by_test false is e = subst (λ v. Told f d (done ++ Number (pos 0) ∷ []) v) (ok_same (Ok (closed t)) (closed t) u refl e) (told_zero f d done t (le-false 4194304 t.ended is) h)
told_number f d done t u (pos (suc n)) small e h = by_test (nat_le 67108864 t.literals) refl e where
  by_test : (b : Bool) → nat_le 67108864 t.literals ≡ b → cond b (Err Limit) (Ok (with_literal t (pos (suc n)))) ≡ Ok u → Told f d (done ++ Number (pos (suc n)) ∷ []) u
  by_test true is e = absurd cc
  by_test false is e = subst (λ v. Told f d (done ++ Number (pos (suc n)) ∷ []) v) (ok_same (Ok (with_literal t (pos (suc n)))) (with_literal t (pos (suc n))) u refl e) (told_literal f d done t (pos (suc n)) (λ q. cc) small (le-false 67108864 t.literals is) h)
told_number f d done t u (negsuc n) small e h = by_test (nat_le 67108864 t.literals) refl e where
  by_test : (b : Bool) → nat_le 67108864 t.literals ≡ b → cond b (Err Limit) (Ok (with_literal t (negsuc n))) ≡ Ok u → Told f d (done ++ Number (negsuc n) ∷ []) u
  by_test true is e = absurd cc
  by_test false is e = subst (λ v. Told f d (done ++ Number (negsuc n) ∷ []) v) (ok_same (Ok (with_literal t (negsuc n))) (with_literal t (negsuc n)) u refl e) (told_literal f d done t (negsuc n) (λ q. cc) small (le-false 67108864 t.literals is) h)

-- a word that is a number of a list
pub record IsNumberIn (w : List ℕ) (z : ℤ) : Type 0 where
  pub number : number_of w ≡ Some z
  pub small : size_of z ≤ max_var

is_number_in : (w : List ℕ) (z : ℤ) → number_in w ≡ Ok z → IsNumberIn w z
unfolding number_in
is_number_in w z e = by_begin (begins_number w) e where
  by_size : (y : ℤ) → number_of w ≡ Some y → (b : Bool) → nat_lt max_var (size_of y) ≡ b → cond b (Err Limit) (Ok y) ≡ Ok z → IsNumberIn w z
  by_size y n true is e = absurd cc
  by_size y n false is e = let same : y ≡ z = cc in subst (λ x. IsNumberIn w x) same (record { number = n; small = ltb-false max_var (size_of y) is })

  by_number : (o : Option ℤ) → number_of w ≡ o → within_variables o ≡ Ok z → IsNumberIn w z
  by_number None n e = absurd cc
  by_number (Some y) n e = by_size y n (nat_lt max_var (size_of y)) refl e

  by_begin : (b : Bool) → cond b (within_variables (number_of w)) (Err Word) ≡ Ok z → IsNumberIn w z
  by_begin true e = by_number (number_of w) refl e
  by_begin false e = absurd cc

-- a word of the clauses says a number
pub record SaysNumber (f : Format) (d : ℕ) (done : List Token) (w : List ℕ) (u : Taken) : Type 0 where
  pub z : ℤ
  pub number : number_of w ≡ Some z
  pub told : Told f d (done ++ Number z ∷ []) u

told_word : (f : Format) (d : ℕ) (done : List Token) (w : List ℕ) (t u : Taken) → add_word t w ≡ Ok u → Told f d done t → SaysNumber f d done w u
unfolding add_word
told_word f d done w t u e h = by_number (number_in w) refl e where
  by_number : (r : Result ℤ CnfCode) → number_in w ≡ r → then_number r (λ z. add_number t z) ≡ Ok u → SaysNumber f d done w u
  by_number (Ok z) is e = let n = is_number_in w z is in record { z = z; number = n.number; told = told_number f d done t u z n.small e h }
  by_number (Err c) is e = absurd cc

-- words of the clauses say tokens
pub record SayNumbers (f : Format) (d : ℕ) (done : List Token) (ws : List (List ℕ)) (u : Taken) : Type 0 where
  pub tokens : List Token
  pub numbers : AreNumbers ws tokens
  pub told : Told f d (done ++ tokens) u

told_words : (f : Format) (d : ℕ) (done : List Token) (ws : List (List ℕ)) (t u : Taken) → add_words t ws ≡ Ok u → Told f d done t → SayNumbers f d done ws u
unfolding add_words
told_words f d done [] t u e h =
    let same : t ≡ u = cc in record { tokens = []; numbers = tt; told = subst (λ v. Told f d (done ++ []) v) same (rw (append-nil done) h) }
told_words f d done (w ∷ ws) t u e h = by_result (add_word t w) refl e (λ ds v e h. told_words f d ds ws v u e h) where
  by_result : (r : Result Taken CnfCode) → add_word t w ≡ r → then_words r (λ v. add_words v ws) ≡ Ok u
      → ((ds : List Token) (v : Taken) → add_words v ws ≡ Ok u → Told f d ds v → SayNumbers f d ds ws u) → SayNumbers f d done (w ∷ ws) u
  by_result (Ok v) is e ih =
      let s = told_word f d done w t v is h in
      let r = ih (done ++ Number s.z ∷ []) v e s.told in
      record { tokens = Number s.z ∷ r.tokens; numbers = (s.number, r.numbers); told = subst (λ ds. Told f d ds u) (append_assoc done (Number s.z ∷ []) r.tokens) r.told }
  by_result (Err c) is e ih = absurd cc

-- the words of an ask say a list, behind what was read of it
abbrev pub with_ask : Taken → List ℕ → Taken
with_ask t c = record { vars = max t.vars (greatest c); content = with_item t.content (Ask (t.begun ++ c)); ended = t.ended; begun = []; literals = t.literals }

pub record SayList (t u : Taken) (ws : List (List ℕ)) : Type 0 where
  pub lits : List ℕ
  pub spelled : AreNumbers ws (list_tokens lits)
  pub proper : AllByRecursion Proper lits
  pub small : greatest lits ≤ max_var
  pub len : length t.begun + length lits ≤ most_assumptions
  pub is : u ≡ with_ask t lits

say_none : (t u : Taken) (w : List ℕ) → number_of w ≡ Some (pos 0) → length t.begun ≤ most_assumptions → u ≡ asked t → SayList t u (w ∷ [])
say_none t u w n len e =
    let same : max t.vars 0 ≡ t.vars = omega arith in
    record { lits = []; spelled = (n, tt); proper = tt; small = omega arith; len = omega arith; is = e ∙ rw (append-nil t.begun, same) refl }

say_more : (t u : Taken) (z : ℤ) (w : List ℕ) (ws : List (List ℕ)) → number_of w ≡ Some z → size_of z ≤ max_var → z ≢ pos 0 → SayList (with_assumption t z) u ws → SayList t u (w ∷ ws)
say_more t u z w ws n small some s =
    let half = half_code z in
    let regroup : (t.begun ++ literal_of z ∷ []) ++ s.lits ≡ t.begun ++ literal_of z ∷ s.lits = append_assoc t.begun (literal_of z ∷ []) s.lits in
    let greater : max (max t.vars (size_of z)) (greatest s.lits) ≡ max t.vars (max (literal_of z / 2) (greatest s.lits)) = omega (arith, half) in
    record {
      lits = literal_of z ∷ s.lits;
      spelled = (n ∙ ap Some (sym (to_number-literal_of z some)), s.spelled);
      proper = (proper_code z some, s.proper);
      small = omega (arith, half, s.small);
      len = omega (arith, s.len, length-append t.begun (literal_of z ∷ []));
      is = s.is ∙ rw (regroup, greater) refl;
    }

told_list : (t u : Taken) (ws : List (List ℕ)) → length t.begun ≤ most_assumptions → ask_words t ws ≡ Ok u → SayList t u ws
unfolding ask_words
told_list t u [] len e = absurd cc
told_list t u (w ∷ ws) len e = by_number (number_in w) refl e (λ v len e. told_list v u ws len e) where
  by_zero : (ws : List (List ℕ)) → number_of w ≡ Some (pos 0) → ask_ends t ws ≡ Ok u → SayList t u (w ∷ ws)
  by_zero [] n e = let same : asked t ≡ u = cc in say_none t u w n len (sym same)
  by_zero (x ∷ ws) n e = absurd cc

  by_room : (z : ℤ) → IsNumberIn w z → z ≢ pos 0 → (b : Bool) → nat_le most_assumptions (length t.begun) ≡ b → cond b (Err Limit) (ask_words (with_assumption t z) ws) ≡ Ok u
      → ((v : Taken) → length v.begun ≤ most_assumptions → ask_words v ws ≡ Ok u → SayList v u ws) → SayList t u (w ∷ ws)
  by_room z n some true is e ih = absurd cc
  by_room z n some false is e ih =
      let below = le-false most_assumptions (length t.begun) is in
      say_more t u z w ws n.number n.small some (ih (with_assumption t z) (omega (arith, length-append t.begun (literal_of z ∷ []))) e)

  by_number : (r : Result ℤ CnfCode) → number_in w ≡ r → ask_number t r ws (λ v. ask_words v ws) ≡ Ok u
      → ((v : Taken) → length v.begun ≤ most_assumptions → ask_words v ws ≡ Ok u → SayList v u ws) → SayList t u (w ∷ ws)
  by_number (Err c) is e ih = absurd cc
  by_number (Ok (pos zero)) is e ih = by_zero ws (is_number_in w (pos 0) is).number e
  by_number (Ok (pos (suc n))) is e ih = by_room (pos (suc n)) (is_number_in w (pos (suc n)) is) (λ q. cc) (nat_le most_assumptions (length t.begun)) refl e ih
  by_number (Ok (negsuc n)) is e ih = by_room (negsuc n) (is_number_in w (negsuc n) is) (λ q. cc) (nat_le most_assumptions (length t.begun)) refl e ih

nil_of : (xs : List ℕ) → (length xs == 0) ≡ true → xs ≡ []
nil_of [] e = refl
nil_of (x ∷ xs) e = let ne : (suc (length xs) ≡ 0 → ⊥) = λ q. omega arith in let f = ne_eqb (suc (length xs)) 0 ne in cc

-- a line of the body says tokens
pub record Says (f : Format) (d : ℕ) (done : List Token) (ws : List (List ℕ)) (u : Taken) : Type 0 where
  pub tokens : List Token
  pub says : LineSays f ws tokens
  pub told : Told f d (done ++ tokens) u

goes_same : (t u : Taken) → Goes t ≡ Goes u → t ≡ u
goes_same t u e = cc

told_plain : (f : Format) (d : ℕ) (done : List Token) (ws : List (List ℕ)) (t u : Taken) → begins_ask f ws ≡ false → moves (add_words t ws) ≡ Goes u → Told f d done t → Says f d done ws u
told_plain f d done ws t u other e h = by_result (add_words t ws) refl e where
  by_result : (r : Result Taken CnfCode) → add_words t ws ≡ r → moves r ≡ Goes u → Says f d done ws u
  by_result (Ok v) is e = let s = told_words f d done ws t u (is ∙ ap Ok (goes_same v u e)) h in record { tokens = s.tokens; says = inl (other, s.numbers); told = s.told }
  by_result (Err c) is e = absurd cc

is_icnf : (f : Format) (w : List ℕ) → is_ask f w ≡ true → f ≡ formats.Icnf
is_icnf formats.Cnf w e = absurd cc
is_icnf formats.Icnf w e = refl

told_asks : (f : Format) (d : ℕ) (done : List Token) (w : List ℕ) (ws : List (List ℕ)) (t u : Taken) → is_ask f w ≡ true → ask_line t ws ≡ Goes u → Told f d done t → Says f d done (w ∷ ws) u
told_asks f d done w ws t u begins e h = by_open (length t.begun == 0) refl e where
  by_list : t.begun ≡ [] → SayList t u ws → Says f d done (w ∷ ws) u
  by_list none s =
      let same : t.begun ++ s.lits ≡ s.lits = ap (λ xs. xs ++ s.lits) none in
      let zero_length : length t.begun ≡ 0 = ap length none in
      record {
        tokens = Asks s.lits ∷ [];
        says = inr (begins, record { lits = s.lits; one = refl; spelled = s.spelled });
        told = subst (λ v. Told f d (done ++ Asks s.lits ∷ []) v) (sym (s.is ∙ rw same refl)) (told_ask f d done t s.lits (is_icnf f w begins) none s.proper s.small (omega (arith, s.len)) h);
      }

  by_result : t.begun ≡ [] → (r : Result Taken CnfCode) → ask_words t ws ≡ r → moves r ≡ Goes u → Says f d done (w ∷ ws) u
  by_result none (Ok v) is e = by_list none (told_list t u ws (omega (arith, ap length none)) (is ∙ ap Ok (goes_same v u e)))
  by_result none (Err c) is e = absurd cc

  by_open : (b : Bool) → (length t.begun == 0) ≡ b → cond b (moves (ask_words t ws)) (Stops Unterminated) ≡ Goes u → Says f d done (w ∷ ws) u
  by_open true is e = by_result (nil_of t.begun is) (ask_words t ws) refl e
  by_open false is e = absurd cc

no_words : (f : Format) (d : ℕ) (done : List Token) (t u : Taken) → Goes t ≡ Goes u → Told f d done t → Says f d done [] u
no_words f d done t u e h = record { tokens = []; says = inl (refl, tt); told = subst (λ v. Told f d (done ++ []) v) (goes_same t u e) (rw (append-nil done) h) }

told_line : (f : Format) (d : ℕ) (done : List Token) (ws : List (List ℕ)) (t u : Taken) → body_words t ws ≡ Goes u → Told f d done t → (begins_end ws ≡ false) × Says f d done ws u
told_line f d done [] t u e h = (refl, no_words f d done t u e h)
told_line f d done (w ∷ ws) t u e h = by_end (is_end w) refl e where
  by_ask : (b : Bool) → is_ask f w ≡ b → cond b (ask_line t ws) (moves (add_words t (w ∷ ws))) ≡ Goes u → Says f d done (w ∷ ws) u
  by_ask true is e = told_asks f d done w ws t u is e h
  by_ask false is e = told_plain f d done (w ∷ ws) t u is e h

  by_end : (b : Bool) → is_end w ≡ b → cond b Ends (cond (is_ask (format_of t.content) w) (ask_line t ws) (moves (add_words t (w ∷ ws)))) ≡ Goes u → (is_end w ≡ false) × Says f d done (w ∷ ws) u
  by_end true is e = absurd cc
  by_end false is e = (is, by_ask (is_ask (format_of t.content) w) (ap (λ g. is_ask g w) (sym h.of_format)) e)

pub words_plain : (l : List ℕ) → is_comment l ≡ false → line_words l ≡ words_of l
unfolding line_words
words_plain l e = rw e refl

words_comment : (l : List ℕ) → is_comment l ≡ true → line_words l ≡ []
unfolding line_words
words_comment l e = rw e refl

line_plain : (t : Taken) (l : List ℕ) → is_comment l ≡ false → body_line t l ≡ body_words t (line_words l)
unfolding body_line
line_plain t l e = rw (e, words_plain l e) refl

line_comment : (t : Taken) (l : List ℕ) → is_comment l ≡ true → body_line t l ≡ body_words t (line_words l)
unfolding body_line
line_comment t l e = rw (e, words_comment l e) refl

comment_or : (l : List ℕ) → (is_comment l ≡ true) ⊎ (is_comment l ≡ false)
comment_or l = by_test (is_comment l) where
  by_test : (b : Bool) → (b ≡ true) ⊎ (b ≡ false)
  by_test true = inl refl
  by_test false = inr refl

-- a line of the body is its words
pub line_is : (t : Taken) (l : List ℕ) → body_line t l ≡ body_words t (line_words l)
line_is t l = elim (comment_or l) [ inl c ↦ line_comment t l c | inr c ↦ line_plain t l c ]

-- what a body says
pub record Body (f : Format) (declared : ℕ) (done : List Token) (lines : List (List ℕ)) (v : File) : Type 0 where
  pub body : List (List ℕ)
  pub tail : List (List ℕ)
  pub parts : lines ≡ body ++ tail
  pub going : AllByRecursion (λ l. begins_end (line_words l) ≡ false) body
  pub ending : (tail ≡ []) ⊎ ((l : List ℕ) × (ls : List (List ℕ)) × (tail ≡ l ∷ ls) × (begins_end (line_words l) ≡ true))
  pub tokens : List Token
  pub say : LinesSay f body tokens
  pub last : Taken
  pub told : Told f declared (done ++ tokens) last
  pub none : last.begun ≡ []
  pub vars : v.vars ≡ last.vars
  pub content : v.content ≡ last.content

whole_is : (t : Taken) (k : ℕ) (v : File) → whole t k ≡ Ok v → (t.begun ≡ []) × (v.vars ≡ t.vars) × (v.content ≡ t.content)
whole_is t k v e = by_test (length t.begun == 0) refl where
  by_test : (b : Bool) → (length t.begun == 0) ≡ b → (t.begun ≡ []) × (v.vars ≡ t.vars) × (v.content ≡ t.content)
  by_test true is =
      let made : File = record { vars = t.vars; content = t.content } in
      let ok : whole t k ≡ Ok made = rw is refl in
      let same : made ≡ v = cc in
      (nil_of t.begun is, sym (ap (λ (x : File). x.vars) same), sym (ap (λ (x : File). x.content) same))
  by_test false is = let err : whole t k ≡ Err (record { line = k; code = Unterminated }) = rw is refl in absurd cc

body_more : (f : Format) (d : ℕ) (done us : List Token) (l : List ℕ) (ls : List (List ℕ)) (v : File) → begins_end (line_words l) ≡ false → LineSays f (line_words l) us → Body f d (done ++ us) ls v → Body f d done (l ∷ ls) v
body_more f d done us l ls v go says b = record {
  body = l ∷ b.body;
  tail = b.tail;
  parts = ap (λ xs. l ∷ xs) b.parts;
  going = (go, b.going);
  ending = b.ending;
  tokens = us ++ b.tokens;
  say = (us, b.tokens, refl, says, b.say);
  last = b.last;
  told = subst (λ ts. Told f d ts b.last) (append_assoc done us b.tokens) b.told;
  none = b.none;
  vars = b.vars;
  content = b.content;
}

body_ends : (f : Format) (d k : ℕ) (done : List Token) (t : Taken) (tail : List (List ℕ)) (v : File) → whole t k ≡ Ok v → Told f d done t
    → (tail ≡ []) ⊎ ((l : List ℕ) × (ls : List (List ℕ)) × (tail ≡ l ∷ ls) × (begins_end (line_words l) ≡ true)) → Body f d done tail v
body_ends f d k done t tail v e h ending =
    let w = whole_is t k v e in
    record { body = []; tail = tail; parts = refl; going = tt; ending = ending; tokens = []; say = refl; last = t; told = rw (append-nil done) h; none = w.0; vars = w.1; content = w.2 }

ends_begins : (t : Taken) (ws : List (List ℕ)) → body_words t ws ≡ Ends → begins_end ws ≡ true
ends_begins t [] e = absurd cc
ends_begins t (w ∷ ws) e = by_end (is_end w) e where
  by_moves : (r : Result Taken CnfCode) → moves r ≡ Ends → ⊥
  by_moves (Ok u) e = cc
  by_moves (Err c) e = cc

  by_open : (b : Bool) → cond b (moves (ask_words t ws)) (Stops Unterminated) ≡ Ends → ⊥
  by_open true e = by_moves (ask_words t ws) e
  by_open false e = cc

  by_ask : (b : Bool) → cond b (ask_line t ws) (moves (add_words t (w ∷ ws))) ≡ Ends → ⊥
  by_ask true e = by_open (length t.begun == 0) e
  by_ask false e = by_moves (add_words t (w ∷ ws)) e

  by_end : (b : Bool) → cond b Ends (cond (is_ask (format_of t.content) w) (ask_line t ws) (moves (add_words t (w ∷ ws)))) ≡ Ends → b ≡ true
  by_end true e = refl
  by_end false e = absurd (by_ask (is_ask (format_of t.content) w) e)

body_is : (f : Format) (d k : ℕ) (done : List Token) (t : Taken) (ls : List (List ℕ)) (v : File) → read_body k t ls ≡ Ok v → Told f d done t → Body f d done ls v
unfolding read_body
body_is f d k done t [] v e h = body_ends f d k done t [] v e h (inl refl)
body_is f d k done t (l ∷ ls) v e h = by_move (body_words t (line_words l)) refl (ap (λ m. after_move m t k (λ u. read_body (k + 1) u ls)) (sym (line_is t l)) ∙ e) (λ ds u e h. body_is f d (k + 1) ds u ls v e h) where
  by_move : (m : Move) → body_words t (line_words l) ≡ m → after_move m t k (λ u. read_body (k + 1) u ls) ≡ Ok v
      → ((ds : List Token) (u : Taken) → read_body (k + 1) u ls ≡ Ok v → Told f d ds u → Body f d ds ls v) → Body f d done (l ∷ ls) v
  by_move (Goes u) is e ih = let s = told_line f d done (line_words l) t u is h in body_more f d done s.1.tokens l ls v s.0 s.1.says (ih (done ++ s.1.tokens) u e s.1.told)
  by_move Ends is e ih = body_ends f d k done t (l ∷ ls) v e h (inr (l, ls, refl, ends_begins t (line_words l) is))
  by_move (Stops c) is e ih = absurd cc

-- the lines from the first on
pub record Parts (f : Format) (lines : List (List ℕ)) (v : File) : Type 0 where
  pub front : List (List ℕ)
  pub head : List ℕ
  pub rest : List (List ℕ)
  pub declared : ℕ
  pub parts : lines ≡ front ++ head ∷ rest
  pub silent : AllByRecursion (λ l. line_words l ≡ []) front
  pub header : header_words f (line_words head) ≡ Ok declared
  pub body : Body f declared [] rest v

told_none : (f : Format) (d : ℕ) → Told f d [] (begin f d)
told_none formats.Cnf d = record { of_format = refl; tokens = refl; proper = tt; proper_begun = tt; vars = omega arith; small = omega arith; ended = refl; clauses = omega arith; count = refl; literals = omega arith }
told_none formats.Icnf d = record { of_format = refl; tokens = refl; proper = tt; proper_begun = tt; vars = omega arith; small = omega arith; ended = refl; clauses = omega arith; count = refl; literals = omega arith }

parts_more : (f : Format) (l : List ℕ) (ls : List (List ℕ)) (v : File) → line_words l ≡ [] → Parts f ls v → Parts f (l ∷ ls) v
parts_more f l ls v none p = record { front = l ∷ p.front; head = p.head; rest = p.rest; declared = p.declared; parts = ap (λ xs. l ∷ xs) p.parts; silent = (none, p.silent); header = p.header; body = p.body }

-- a line before the body is its words too
pub head_line_is : (f : Format) (k : ℕ) (l : List ℕ) (ls : List (List ℕ)) → read_lines f k (l ∷ ls) ≡ head_words f (line_words l) k (read_lines f (k + 1) ls) (λ t. read_body (k + 1) t ls)
unfolding read_lines
head_line_is f k l ls = elim (comment_or l) [ inl c ↦ rw (c, words_comment l c) refl | inr c ↦ rw (c, words_plain l c) refl ]

parts_are : (f : Format) (k : ℕ) (ls : List (List ℕ)) (v : File) → read_lines f k ls ≡ Ok v → Parts f ls v
unfolding read_lines
parts_are f k [] v e = absurd cc
parts_are f k (l ∷ ls) v e = by_words (line_words l) refl (sym (head_line_is f k l ls) ∙ e) (λ e. parts_are f (k + 1) ls v e) where
  by_counts : (r : Result ℕ CnfCode) (w : List ℕ) (ws : List (List ℕ)) → line_words l ≡ w ∷ ws → header_words f (w ∷ ws) ≡ r → begin_body f r k (λ t. read_body (k + 1) t ls) ≡ Ok v → Parts f (l ∷ ls) v
  by_counts (Ok d) w ws is r e = record { front = []; head = l; rest = ls; declared = d; parts = refl; silent = tt; header = ap (header_words f) is ∙ r; body = body_is f d (k + 1) [] (begin f d) ls v e (told_none f d) }
  by_counts (Err c) w ws is r e = absurd cc

  by_words : (ws : List (List ℕ)) → line_words l ≡ ws → head_words f ws k (read_lines f (k + 1) ls) (λ t. read_body (k + 1) t ls) ≡ Ok v → (read_lines f (k + 1) ls ≡ Ok v → Parts f ls v) → Parts f (l ∷ ls) v
  by_words [] is e ih = parts_more f l ls v is (ih e)
  by_words (w ∷ ws) is e ih = by_counts (header_words f (w ∷ ws)) w ws is refl e

pub record ReadIs (f : Format) (bytes : List ℕ) (v : File) : Type 0 where
  pub of_format : format_of v.content ≡ f
  pub stands : IsFile v bytes

pub is_file : (f : Format) (bytes : List ℕ) (v : File) → read_file f bytes ≡ Ok v → ReadIs f bytes v
unfolding read_file
is_file f bytes v e =
    let p = parts_are f 1 (lines_of bytes) v e in
    let b = p.body in
    let t = b.told in
    let of_format : format_of v.content ≡ f = ap format_of b.content ∙ t.of_format in
    let none : greatest b.last.begun ≡ 0 = ap greatest b.none in
    let none_long : length b.last.begun ≡ 0 = ap length b.none in
    let tokens : b.tokens ≡ tokens_of (items_of v.content) = t.tokens ∙ ap (λ c. tokens_of (items_of b.last.content) ++ numbers_of c) b.none ∙ append-nil (tokens_of (items_of b.last.content)) ∙ ap (λ k. tokens_of (items_of k)) (sym b.content) in
    record {
      of_format = of_format;
      stands = record {
        front = p.front;
        head = p.head;
        body = b.body;
        tail = b.tail;
        declared = p.declared;
        lines = p.parts ∙ ap (λ xs. p.front ++ p.head ∷ xs) b.parts;
        silent = p.silent;
        header = ap (λ g. header_words g (line_words p.head)) of_format ∙ p.header;
        going = b.going;
        ending = b.ending;
        spelled = subst (λ g. LinesSay g b.body (tokens_of (items_of v.content))) (sym of_format) (subst (λ ts. LinesSay f b.body ts) tokens b.say);
        proper = subst (λ k. AllByRecursion IsProper (items_of k)) (sym b.content) t.proper;
        vars = omega (arith, t.vars, b.vars, ap (λ k. greatest_of (items_of k)) b.content, none);
        small = omega (arith, t.small, ap (λ k. greatest_of (items_of k)) b.content);
        clauses = omega (arith, t.clauses, t.ended, ap (λ k. clauses_in (items_of k)) b.content);
        literals = omega (arith, t.literals, t.count, none_long, ap (λ k. literals_in (items_of k)) b.content);
      };
    }
