-- Texts of calls are read back.
use Rattle.std.proofs.Common.{◌≡◌, ℕ, zero, suc, ◌+◌, ◌<◌, ◌≤◌, ◌==◌, ℤ, pos, negsuc, Bool, true, false, not, cond, Option, Some, None, option_map, List, [], ◌∷◌, ◌++◌, length, map, codes, decimal, inl, inr, refl, ap, sym, ◌∙◌, subst, append_assoc, length-append, arith}
use Rattle.std.specs.List.{AllByRecursion}
use Rattle.std.specs.Fmt.{signed_decimal}
use Rattle.std.proofs.lemmas.Bool.{le-leb, leb-true, ltb-true, ne_eqb}
use Rattle.std.proofs.lemmas.Bool.Decides.{eqb_tells}
use Rattle.std.proofs.lemmas.Fmt.{decimal_digit}
use Rattle.std.proofs.lemmas.List.{append-nil}
use Rattle.std.proofs.lemmas.List.Elements.{recursion_from_All}
use Rattle.gi_lit.specs.Literals.{IsLiteral, IsVariable, max_var, number_of}
use Rattle.gi_model.specs.Limits.{most_payload}
use Rattle.gi_model.specs.declared.calls.Call.{Call}
use Rattle.gi_model.specs.declared.calls.Call.TheVariants as call
use Rattle.gi_text.specs.Numbers.{magnitude, read_on, size_of}
use Rattle.gi_text.specs.Numbers as numbers
use Rattle.gi_text.specs.Words.{words_from, words_of}
use Rattle.gi_text.proofs.Spellings.{number-decimal, number-signed_decimal}
use Rattle.gi_wire.specs.declared.call.Kind.TheVariants.{Cnf}
use Rattle.gi_wire.specs.declared.reader.RequestKind.{RequestKind}
use Rattle.gi_wire.specs.declared.reader.RequestKind.TheVariants as asked
use Rattle.gi_wire.specs.declared.reader.Request.{Request}
use Rattle.gi_wire.specs.CallText.{AreFew, IsWritten, breaks, call_text, guard_numbers, line_behind, lines_text, listed, load_bytes, wrapped}
use Rattle.gi_wire.specs.Grammar.{Makes, Loads, ask_of, call_alone, call_of, call_with, count_at, guard_at, guards_at, has_list, is_zero, list_at, literal_at, literal_in, load_with, or_else, under_by, under_guards, under_of, under_one, within}
use Rattle.gi_wire.specs.Items.{alone, at_start, item, items, items_from}
use Rattle.gi_wire.specs.Laws.{CallsAreReadAlone, CallsDiffer}
use Rattle.gi_wire.specs.Limits.{most_line, most_u32, most_u64}
use Rattle.gi_wire.proofs.Lfs.{breaks-append, breaks_none, line_is, no_lf, no_lf-append, no_line}
use Rattle.gi_wire.proofs.Plus.{led_by_none, under_none}
use Rattle.gi_wire.proofs.Reading.{begins, line_first, load_whole, nothing_ahead, short_line}
use Rattle.gi_wire.proofs.Spelled.{has_number, number_few, signed_no_lf, signed_short}
use Rattle.gi_wire.proofs.WrappedBack.{AreSmall, list_words, number_word, wrapped_back}

-- a call's text is read as that call, and what follows it from the next line on
abbrev IsReadBack : Bool → ℕ → Call → List ℕ → Type 0
IsReadBack e line c more = items_from e line (at_start line) (call_text c ++ more) ≡ item line (asked.Call c) ∷ items_from e (line_behind line c) (at_start (line_behind line c)) more

later : (e : Bool) (line k m : ℕ) (c : Call) (more : List ℕ) → k ≡ m → item line (asked.Call c) ∷ items_from e k (at_start k) more ≡ item line (asked.Call c) ∷ items_from e m (at_start m) more
later e line k m c more same = ap (λ (i : ℕ). item line (asked.Call c) ∷ items_from e i (at_start i) more) same

-- a call on one line
short_back : (e : Bool) (line : ℕ) (c : Call) (more : List ℕ) → no_lf (lines_text c) ≡ true → length (lines_text c) ≤ most_line → ask_of (words_of (lines_text c)) ≡ Some (Makes c) → load_bytes c ≡ [] → IsReadBack e line c more
unfolding call_text
short_back e line c more plain short asks none =
    line_first e line (alone line) [] (lines_text c ++ 10 ∷ load_bytes c) (lines_text c) (load_bytes c) more (line_is (lines_text c) (load_bytes c) plain)
    ∙ short_line line (lines_text c) (Makes c) (λ i p. items_from e i p (load_bytes c ++ more)) short asks
    ∙ ap (λ (b : List ℕ). item line (asked.Call c) ∷ items_from e (line + 1) (at_start (line + 1)) (b ++ more)) none
    ∙ later e line (line + 1) (line_behind line c) c more (omega (arith, breaks_none (lines_text c) plain))

-- a name and a number
with_number : (e : Bool) (line : ℕ) (c : Call) (more name : List ℕ) (z : ℤ) → size_of z ≤ most_u64 → lines_text c ≡ name ++ 32 ∷ signed_decimal z → load_bytes c ≡ [] → no_lf name ≡ true → length name ≤ 20
    → words_of (name ++ 32 ∷ signed_decimal z) ≡ name ∷ words_of (signed_decimal z) → ask_of (name ∷ signed_decimal z ∷ []) ≡ Some (Makes c) → IsReadBack e line c more
with_number e line c more name z few is none plain short words asks = short_back e line c more
    (ap no_lf is ∙ no_lf-append name (32 ∷ signed_decimal z) plain (signed_no_lf z few))
    (omega (arith, ap length is, length-append name (32 ∷ signed_decimal z), signed_short z few, short))
    (ap (λ (t : List ℕ). ask_of (words_of t)) is ∙ ap ask_of words ∙ ap (λ (ws : List (List ℕ)). ask_of (name ∷ ws)) (number_word z few) ∙ asks)
    none

count_some : (least most n : ℕ) → least ≤ n → n ≤ most → n ≤ most_u64 → count_at least most (decimal n) ≡ Some n
count_some least most n low high few = ap (within least most) (number-decimal n (omega arith)) ∙ rw (le-leb least n low, le-leb n most high) refl

-- literals and guards as words
some_number : (z : ℤ) → 1 ≤ size_of z → is_zero (Some z) ≡ false
some_number (pos zero) some = absurd (omega arith)
some_number (pos (suc n)) some = refl
some_number (negsuc n) some = refl

literal_number : (l : ℕ) → IsLiteral l → numbers.number_of (signed_decimal (number_of l)) ≡ Some (number_of l)
literal_number l h = number-signed_decimal (number_of l) (omega (arith, number_few l h))

literal_not_zero : (l : ℕ) → IsLiteral l → is_zero (numbers.number_of (signed_decimal (number_of l))) ≡ false
literal_not_zero l h = ap is_zero (literal_number l h) ∙ some_number (number_of l) (has_number l h).some

literal_back : (l : ℕ) → IsLiteral l → literal_at (signed_decimal (number_of l)) ≡ Some l
literal_back l h = ap literal_in (literal_number l h) ∙ (has_number l h).reads

guard_not_zero : (g : ℕ) → IsVariable g → is_zero (numbers.number_of (decimal g)) ≡ false
guard_not_zero g h = ap is_zero (number-decimal g (omega (arith, h.1))) ∙ some_number (pos g) h.0

guard_back : (g : ℕ) → IsVariable g → guard_at (decimal g) ≡ Some g
guard_back g h = count_some 1 max_var g h.0 h.1 (omega (arith, h.1))

zero_ends : is_zero (numbers.number_of (codes "0")) ≡ true
unfolding numbers.number_of magnitude read_on
zero_ends = refl

literals_back : (ls : List ℕ) → AllByRecursion IsLiteral ls → list_at (list_words (map number_of ls)) ≡ Some ls
unfolding list_at
literals_back [] h = rw zero_ends refl
literals_back (l ∷ ls) h = rw (literal_not_zero l h.0, literal_back l h.0, literals_back ls h.1) refl

-- guards, a 0, and what follows
abbrev guards_then : List ℕ → List (List ℕ) → List (List ℕ)
guards_then gs words = map signed_decimal (map pos gs) ++ codes "0" ∷ words

guards_back : (gs : List ℕ) (words : List (List ℕ)) → AllByRecursion IsVariable gs → guards_at (guards_then gs words) ≡ Some (gs, words)
unfolding guards_at
guards_back [] words h = rw zero_ends refl
guards_back (g ∷ gs) words h = rw (guard_not_zero g h.0, guard_back g h.0, guards_back gs words h.1) refl

no_list : (gs word : List ℕ) (words : List (List ℕ)) → AllByRecursion IsVariable gs → list_at (guards_then gs (word ∷ words)) ≡ None
unfolding list_at
no_list [] word words h = rw zero_ends refl
no_list (g ∷ gs) word words h = rw (guard_not_zero g h.0, no_list gs word words h.1) (led_by_none (literal_at (decimal g)))

some_words : (zs : List ℤ) → (word : List ℕ) × (words : List (List ℕ)) × (list_words zs ≡ word ∷ words)
some_words [] = (codes "0", [], refl)
some_words (z ∷ zs) = (signed_decimal z, list_words zs, refl)

-- a group of one guard, and of several
one_back : (g : ℕ) (c : List ℕ) → IsVariable g → AllByRecursion IsLiteral c → under_of (decimal g ∷ list_words (map number_of c)) ≡ Some (call.Under (g ∷ []) c)
one_back g c h k =
    let words = list_words (map number_of c) in
    ap (λ (o : Option ℕ). or_else (under_by o (list_at words)) (under_guards (guards_at (decimal g ∷ words)))) (guard_back g h)
    ∙ ap (λ (o : Option (List ℕ)). or_else (under_by (Some g) o) (under_guards (guards_at (decimal g ∷ words)))) (literals_back c k)

no_one : (g f : ℕ) (gs : List ℕ) (zs : List ℤ) → AllByRecursion IsVariable (f ∷ gs) → under_one (guards_then (g ∷ f ∷ gs) (list_words zs)) ≡ None
no_one g f gs zs h =
    let some = some_words zs in
    under_none (guard_at (decimal g)) (list_at (guards_then (f ∷ gs) (list_words zs))) (ap (λ (ws : List (List ℕ)). list_at (guards_then (f ∷ gs) ws)) some.2 ∙ no_list (f ∷ gs) some.0 some.1 h)

several_back : (g f : ℕ) (gs c : List ℕ) → AllByRecursion IsVariable (g ∷ f ∷ gs) → AllByRecursion IsLiteral c → under_of (guards_then (g ∷ f ∷ gs) (list_words (map number_of c))) ≡ Some (call.Under (g ∷ f ∷ gs) c)
several_back g f gs c h k =
    let words = guards_then (g ∷ f ∷ gs) (list_words (map number_of c)) in
    ap (λ (o : Option Call). or_else o (under_guards (guards_at words))) (no_one g f gs (map number_of c) h.1)
    ∙ ap under_guards (guards_back (g ∷ f ∷ gs) (list_words (map number_of c)) h)
    ∙ ap (option_map (call.Under (g ∷ f ∷ gs))) (literals_back c k)

several_words : (gs : List ℕ) (zs : List ℤ) → list_words ((map pos gs ++ pos 0 ∷ []) ++ zs) ≡ guards_then gs (list_words zs)
several_words [] zs = ap (λ (w : List ℕ). w ∷ list_words zs) (decimal_digit 0 (omega arith))
several_words (g ∷ gs) zs = ap (λ (ws : List (List ℕ)). decimal g ∷ ws) (several_words gs zs)

-- numbers that are literals and guards
literals_small : (ls : List ℕ) → AllByRecursion IsLiteral ls → AreSmall (map number_of ls)
literals_small [] h = tt
literals_small (l ∷ ls) h = (number_few l h.0, literals_small ls h.1)

guards_small : (gs : List ℕ) (zs : List ℤ) → AllByRecursion IsVariable gs → AreSmall zs → AreSmall (map pos gs ++ zs)
guards_small [] zs h k = k
guards_small (g ∷ gs) zs h k = (omega (arith, h.0.1), guards_small gs zs h.1 k)

-- a name and a list
regroup : (name text more : List ℕ) → ((name ++ (text ++ 32 ∷ 48 ∷ [])) ++ 10 ∷ []) ++ more ≡ name ++ (text ++ 32 ∷ 48 ∷ 10 ∷ more)
regroup name text more = simp append_assoc

record IsListed (c : Call) (name : List ℕ) (zs : List ℤ) : Type 0 where
  text : lines_text c ≡ listed name zs
  none : load_bytes c ≡ []
  plain : no_lf name ≡ true
  short : length name ≤ 20
  word : words_of name ≡ name ∷ []
  list : has_list (name ∷ []) ≡ true
  small : AreSmall zs
  asks : ask_of (name ∷ list_words zs) ≡ Some (Makes c)
  few : AreFew (lines_text c)

listed_breaks : (c : Call) (name : List ℕ) (zs : List ℤ) → IsListed c name zs → breaks (lines_text c) ≡ breaks (wrapped (length name) zs)
listed_breaks c name zs is =
    let text = wrapped (length name) zs in
    omega (arith, ap breaks is.text, breaks-append name (text ++ codes " 0"), breaks-append text (codes " 0"), breaks_none name is.plain, breaks_none (codes " 0") refl)

listed_back : (e : Bool) (line : ℕ) (c : Call) (more name : List ℕ) (zs : List ℤ) → IsListed c name zs → IsReadBack e line c more
unfolding call_text
listed_back e line c more name zs is =
    let text = wrapped (length name) zs in
    let same = listed_breaks c name zs is in
    ap (λ (t : List ℕ). items_from e line (at_start line) ((t ++ 10 ∷ load_bytes c) ++ more)) is.text
    ∙ ap (λ (b : List ℕ). items_from e line (at_start line) ((listed name zs ++ 10 ∷ b) ++ more)) is.none
    ∙ ap (items_from e line (at_start line)) (regroup name text more)
    ∙ begins e line (alone line) [] name (text ++ 32 ∷ 48 ∷ 10 ∷ more) (no_line name is.plain)
    ∙ wrapped_back e line (alone line) name zs (length name) (Some (Makes c)) more (record {
      column_is = refl;
      room = omega (arith, is.short);
      small = is.small;
      list = ap has_list is.word ∙ is.list;
      few = omega (arith, is.few, ap length is.text, length-append name (text ++ codes " 0"), length-append text (codes " 0"), same);
      asks = ap (λ (ws : List (List ℕ)). ask_of (ws ++ list_words zs)) is.word ∙ is.asks;
    })
    ∙ later e line (line + breaks text + 1) (line_behind line c) c more (omega (arith, same))

add_back : (e : Bool) (line : ℕ) (c more : List ℕ) → AllByRecursion IsLiteral c → AreFew (lines_text (call.Add c)) → IsReadBack e line (call.Add c) more
unfolding lines_text words_from has_list ask_of call_of
add_back e line c more h few = listed_back e line (call.Add c) more (codes "add") (map number_of c) (record {
  text = refl;
  none = refl;
  plain = refl;
  short = omega arith;
  word = refl;
  list = refl;
  small = literals_small c h;
  asks = ap (λ (o : Option (List ℕ)). option_map Makes (option_map call.Add o)) (literals_back c h);
  few = few;
})

assume_back : (e : Bool) (line : ℕ) (ls more : List ℕ) → AllByRecursion IsLiteral ls → AreFew (lines_text (call.Assume ls)) → IsReadBack e line (call.Assume ls) more
unfolding lines_text words_from has_list ask_of call_of
assume_back e line ls more h few = listed_back e line (call.Assume ls) more (codes "assume") (map number_of ls) (record {
  text = refl;
  none = refl;
  plain = refl;
  short = omega arith;
  word = refl;
  list = refl;
  small = literals_small ls h;
  asks = ap (λ (o : Option (List ℕ)). option_map Makes (option_map call.Assume o)) (literals_back ls h);
  few = few;
})

-- of a group
group_back : (e : Bool) (line : ℕ) (gs c more : List ℕ) (zs : List ℤ) → guard_numbers gs ++ map number_of c ≡ zs → AreSmall zs → under_of (list_words zs) ≡ Some (call.Under gs c) → AreFew (lines_text (call.Under gs c)) → IsReadBack e line (call.Under gs c) more
unfolding lines_text words_from has_list ask_of call_of
group_back e line gs c more zs is small asks few = listed_back e line (call.Under gs c) more (codes "under") zs (record {
  text = ap (listed (codes "under")) is;
  none = refl;
  plain = refl;
  short = omega arith;
  word = refl;
  list = refl;
  small = small;
  asks = ap (λ (o : Option Call). option_map Makes o) asks;
  few = few;
})

under_back : (e : Bool) (line : ℕ) (gs c more : List ℕ) → 0 < length gs → AllByRecursion IsVariable gs → AllByRecursion IsLiteral c → AreFew (lines_text (call.Under gs c)) → IsReadBack e line (call.Under gs c) more
under_back e line [] c more some h k few = absurd (omega arith)
under_back e line (g ∷ []) c more some h k few = group_back e line (g ∷ []) c more (pos g ∷ map number_of c) refl (omega (arith, h.0.1), literals_small c k) (one_back g c h.0 k) few
under_back e line (g ∷ f ∷ gs) c more some h k few =
    let all = map pos (g ∷ f ∷ gs) in
    let numbers_are : guard_numbers (g ∷ f ∷ gs) ++ map number_of c ≡ (all ++ pos 0 ∷ []) ++ map number_of c = ap (λ (b : Bool). cond b all (all ++ pos 0 ∷ []) ++ map number_of c) (ne_eqb (length (g ∷ f ∷ gs)) 1 (λ e. omega arith)) in
    group_back e line (g ∷ f ∷ gs) c more ((all ++ pos 0 ∷ []) ++ map number_of c) numbers_are
    (subst AreSmall (sym (append_assoc all (pos 0 ∷ []) (map number_of c))) (guards_small (g ∷ f ∷ gs) (pos 0 ∷ map number_of c) h (omega arith, literals_small c k)))
    (ap under_of (several_words (g ∷ f ∷ gs) (map number_of c)) ∙ several_back g f gs c h k) few

-- a solve, with its budget or without
some_budget : (budget : ℕ) → not (budget == 0) ≡ true → 1 ≤ budget
some_budget zero h = absurd cc
some_budget (suc n) h = omega arith

solve_back : (e : Bool) (line budget : ℕ) (more : List ℕ) → 1 ≤ budget → budget ≤ most_u32 → IsReadBack e line (call.Solve budget) more
unfolding lines_text words_from ask_of call_of call_alone call_with
solve_back e line budget more some few = elim (eqb_tells budget most_u32) [
  | inl t ↦ subst (λ (b : ℕ). IsReadBack e line (call.Solve b) more) (sym t.1) (short_back e line (call.Solve most_u32) more refl (omega arith) refl refl)
  | inr f ↦ with_number e line (call.Solve budget) more (codes "solve") (pos budget) (omega (arith, few)) (ap (λ (b : Bool). codes "solve" ++ cond b [] (32 ∷ decimal budget)) f.0) refl refl (omega arith) refl
      (ap (λ (o : Option ℕ). option_map Makes (option_map call.Solve o)) (count_some 1 most_u32 budget some few (omega (arith, few))))
]

-- a load
load_back : (e : Bool) (line : ℕ) (bytes more : List ℕ) → length bytes ≤ most_payload → IsReadBack e line (call.LoadCnf bytes) more
unfolding call_text lines_text words_from ask_of load_with
load_back e line bytes more few =
    let n = length bytes in
    let text = codes "load cnf " ++ decimal n in
    let small : n ≤ most_u64 = omega (arith, few) in
    let plain : no_lf text ≡ true = signed_no_lf (pos n) small in
    line_first e line (alone line) [] (text ++ 10 ∷ bytes) text bytes more (line_is text bytes plain)
    ∙ short_line line text (Loads Cnf n) (λ i p. items_from e i p (bytes ++ more)) (omega (arith, length-append (codes "load cnf ") (decimal n), signed_short (pos n) small))
    (ap (λ (ws : List (List ℕ)). ask_of (codes "load" ∷ codes "cnf" ∷ ws)) (number_word (pos n) small) ∙ ap (option_map (Loads Cnf)) (count_some 0 most_payload n (omega arith) few small))
    ∙ load_whole e line Cnf bytes more n refl
    ∙ later e line (line + 1) (line_behind line (call.LoadCnf bytes)) (call.LoadCnf bytes) more (omega (arith, breaks_none text plain))

pub back : (e : Bool) (line : ℕ) (c : Call) (more : List ℕ) → IsWritten c → IsReadBack e line c more
unfolding lines_text words_from ask_of call_of call_alone call_with
back e line (call.Vars n) more h =
    let few : n ≤ max_var = leb-true n max_var h.line in
    with_number e line (call.Vars n) more (codes "vars") (pos n) (omega (arith, few)) refl refl refl (omega arith) refl (ap (λ (o : Option ℕ). option_map Makes (option_map call.Vars o)) (count_some 0 max_var n (omega arith) few (omega (arith, few))))
back e line (call.Add c) more h = add_back e line c more (recursion_from_All IsLiteral c h.range) h.joinable
back e line call.NewGuard more h = short_back e line call.NewGuard more refl (omega arith) refl refl
back e line (call.Under gs c) more h = under_back e line gs c more (ltb-true 0 (length gs) h.line) (recursion_from_All IsVariable gs h.range.0) (recursion_from_All IsLiteral c h.range.1) h.joinable
back e line (call.DropGuard g) more h =
    with_number e line (call.DropGuard g) more (codes "drop") (pos g) (omega (arith, h.range.1)) refl refl refl (omega arith) refl (ap (λ (o : Option ℕ). option_map Makes (option_map call.DropGuard o)) (guard_back g h.range))
back e line (call.Assume ls) more h = assume_back e line ls more (recursion_from_All IsLiteral ls h.range) h.joinable
back e line call.Test more h = short_back e line call.Test more refl (omega arith) refl refl
back e line call.Untest more h = short_back e line call.Untest more refl (omega arith) refl refl
back e line (call.Reasons l) more h =
    with_number e line (call.Reasons l) more (codes "reasons") (number_of l) (number_few l h.range) refl refl refl (omega arith) refl (ap (λ (o : Option ℕ). option_map Makes (option_map call.Reasons o)) (literal_back l h.range))
back e line (call.Solve budget) more h = solve_back e line budget more (some_budget budget h.line) h.range
back e line call.Pause more h = short_back e line call.Pause more refl (omega arith) refl refl
back e line call.Resume more h = short_back e line call.Resume more refl (omega arith) refl refl
back e line call.Stop more h = short_back e line call.Stop more refl (omega arith) refl refl
back e line call.Poll more h = short_back e line call.Poll more refl (omega arith) refl refl
back e line call.Wait more h = short_back e line call.Wait more refl (omega arith) refl refl
back e line call.Model more h = short_back e line call.Model more refl (omega arith) refl refl
back e line call.Known more h = short_back e line call.Known more refl (omega arith) refl refl
back e line (call.KnownClause i) more h =
    let some : 0 < i = ltb-true 0 i h.line in
    with_number e line (call.KnownClause i) more (codes "clause") (pos i) (omega (arith, h.range)) refl refl refl (omega arith) refl (ap (λ (o : Option ℕ). option_map Makes (option_map call.KnownClause o)) (count_some 1 most_u32 i (omega (arith, some)) h.range (omega (arith, h.range))))
back e line (call.LoadCnf bytes) more h = load_back e line bytes more (leb-true (length bytes) most_payload h.line)
back e line call.Bye more h = short_back e line call.Bye more refl (omega arith) refl refl
back e line call.Shut more h = let no : false ≡ true = h.line in absurd cc
back e line (call.Work mark) more h = let no : false ≡ true = h.line in absurd cc

pub back_alone : CallsAreReadAlone
back_alone e c h = ap (items_from e 1 (at_start 1)) (sym (append-nil (call_text c))) ∙ back e 1 c [] h ∙ ap (λ (rs : List Request). item 1 (asked.Call c) ∷ rs) (nothing_ahead e (line_behind 1 c))

-- the call that a request makes, or another
abbrev call_in : Call → RequestKind → Call
call_in other (asked.Call c) = c
call_in other asked.Syntax = other
call_in other asked.Long = other

abbrev first_call : Call → List Request → Call
first_call other [] = other
first_call other (r ∷ rs) = call_in other r.asked

pub apart : CallsDiffer
apart one two h k same = ap (first_call one) (sym (back_alone false one h) ∙ ap (items false) same ∙ back_alone false two k)
