-- Each line of the script asks for its call.
use Rattle.std.proofs.Common.{◌≡◌, ◌≢◌, ℕ, zero, suc, ◌+◌, ◌*◌, ◌≤◌, ◌==◌, Bool, true, not, Some, List, [], ◌∷◌, ◌++◌, length, map, refl, ap, sym, ◌∙◌, subst, inl, inr, arith, decimal, append_assoc, length-append}
use Rattle.std.specs.Prelude.{codes}
use Rattle.std.specs.List.{AllByRecursion, flat_map, range_with_len}
use Rattle.std.proofs.lemmas.Bool.{and_parts, le-leb}
use Rattle.std.proofs.lemmas.Bool.Decides.{eqb_tells}
use Rattle.std.proofs.lemmas.List.{append-nil, length-map}
use Rattle.std.proofs.lemmas.List.Elements.{All-from_recursion}
use Rattle.gi_lit.specs.Literals.{max_var}
use Rattle.gi_model.specs.declared.calls.Call.{Call}
use Rattle.gi_model.specs.declared.calls.Call.TheVariants.{Vars, Add, NewGuard, Under, DropGuard, Assume, Solve, Wait, Bye}
use Rattle.gi_text.specs.Lines.{line_at}
use Rattle.gi_text.specs.Words.{words_from, words_of}
use Rattle.gi_text.proofs.Spellings.{number-decimal}
use Rattle.gi_text.proofs.Splits.{line_of_parts}
use Rattle.gi_wire.specs.Grammar.{Makes, ask_of, call_alone, call_of, call_with}
use Rattle.gi_wire.specs.declared.reader.RequestKind.TheVariants as asked
use Rattle.gi_wire.specs.declared.reader.Request.{Request}
use Rattle.gi_wire.specs.Items.{alone, at_start, item, items_from}
use Rattle.gi_wire.specs.Literals.{list_text}
use Rattle.gi_wire.proofs.Reading.{line_first, nothing_ahead, short_line}
use Rattle.gi_drill.specs.Instance.{first_clauses}
use Rattle.gi_drill.specs.Laws.{ScriptIsRead, ScriptIsShort}
use Rattle.gi_drill.specs.Script.{call_text, ending, line_text, lines_text, numbered, round, rounds, script, variable_of}
use Rattle.gi_drill.proofs.Drawing.{rounds_are}
use Rattle.gi_drill.proofs.Instances.{clauses_count, triples}
use Rattle.gi_drill.proofs.Phases.{IsTriple, AreWithin}
use Rattle.gi_drill.proofs.Spelling.{IsSmall, decimal_word, list_read, list_short, no_lf, no_lf-append, no_lf-list, no_lf-word, word_last, word_space, words_list}

-- a call whose line is read as it
pub record IsReadable (c : Call) : Type 0 where
  pub asks : ask_of (words_of (call_text c)) ≡ Some (Makes c)
  pub no_lf : no_lf (call_text c) ≡ true
  pub short : length (call_text c) ≤ 99

reads_solve : IsReadable (Solve 4294967295)
unfolding call_text words_from ask_of call_of call_alone
reads_solve = record { asks = refl; no_lf = refl; short = omega arith }

reads_wait : IsReadable Wait
unfolding call_text words_from ask_of call_of call_alone
reads_wait = record { asks = refl; no_lf = refl; short = omega arith }

reads_guard : IsReadable NewGuard
unfolding call_text words_from ask_of call_of call_alone
reads_guard = record { asks = refl; no_lf = refl; short = omega arith }

reads_bye : IsReadable Bye
unfolding call_text words_from ask_of call_of call_alone
reads_bye = record { asks = refl; no_lf = refl; short = omega arith }

reads_vars : (k : ℕ) → k ≤ 1000 → IsReadable (Vars k)
unfolding call_text words_from ask_of call_of call_with
reads_vars k h =
    let w = decimal_word k h in
    record {
      asks = ap (λ (ws : List (List ℕ)). ask_of (codes "vars" ∷ ws)) (word_last (decimal k) w) ∙ rw (number-decimal k (omega arith), le-leb 0 k (omega arith), le-leb k max_var (omega arith)) refl;
      no_lf = no_lf-word (decimal k) w.bytes;
      short = omega (arith, w.few);
    }

reads_drop : (g : ℕ) → 1 ≤ g → g ≤ 1000 → IsReadable (DropGuard g)
unfolding call_text words_from ask_of call_of call_with
reads_drop g low h =
    let w = decimal_word g h in
    record {
      asks = ap (λ (ws : List (List ℕ)). ask_of (codes "drop" ∷ ws)) (word_last (decimal g) w) ∙ rw (number-decimal g (omega arith), le-leb 1 g low, le-leb g max_var (omega arith)) refl;
      no_lf = no_lf-word (decimal g) w.bytes;
      short = omega (arith, w.few);
    }

reads_add : (c : List ℕ) → AllByRecursion IsSmall c → length c ≤ 3 → IsReadable (Add c)
unfolding call_text words_from ask_of call_of
reads_add c h few = record {
  asks = ap (λ (ws : List (List ℕ)). ask_of (codes "add" ∷ ws)) (words_list c h) ∙ rw (list_read c h) refl;
  no_lf = no_lf-list c h;
  short = omega (arith, list_short c h);
}

reads_assume : (c : List ℕ) → AllByRecursion IsSmall c → length c ≤ 3 → IsReadable (Assume c)
unfolding call_text words_from ask_of call_of
reads_assume c h few = record {
  asks = ap (λ (ws : List (List ℕ)). ask_of (codes "assume" ∷ ws)) (words_list c h) ∙ rw (list_read c h) refl;
  no_lf = no_lf-list c h;
  short = omega (arith, list_short c h);
}

reads_under : (g : ℕ) (c : List ℕ) → 1 ≤ g → g ≤ 1000 → AllByRecursion IsSmall c → length c ≤ 3 → IsReadable (Under (g ∷ []) c)
unfolding call_text words_from ask_of call_of
reads_under g c low high h few =
    let w = decimal_word g high in
    record {
      asks = ap (λ (ws : List (List ℕ)). ask_of (codes "under" ∷ ws)) (word_space (decimal g) (list_text c) w ∙ ap (λ (ws : List (List ℕ)). decimal g ∷ ws) (words_list c h))
          ∙ rw (number-decimal g (omega arith), le-leb 1 g low, le-leb g max_var (omega arith), list_read c h) refl;
      no_lf = no_lf-append (decimal g) (32 ∷ list_text c) (no_lf-word (decimal g) w.bytes) (no_lf-list c h);
      short = omega (arith, length-append (decimal g) (32 ∷ list_text c), w.few, list_short c h);
    }

-- all calls of the script are such
are_small : (c : List ℕ) → AreWithin c → AllByRecursion IsSmall c
are_small [] h = tt
are_small (l ∷ c) h = ((h.0.0, omega (arith, h.0.1)), are_small c h.1)

read_append : (a b : List Call) → AllByRecursion IsReadable a → AllByRecursion IsReadable b → AllByRecursion IsReadable (a ++ b)
read_append [] b h k = k
read_append (c ∷ a) b h k = (h.0, read_append a b h.1 k)

reads_adds : (cs : List (List ℕ)) → AllByRecursion IsTriple cs → AllByRecursion IsReadable (map Add cs)
reads_adds [] h = tt
reads_adds (c ∷ cs) h = (reads_add c (are_small c h.0.within) (omega (arith, h.0.three)), reads_adds cs h.1)

reads_round : (x : ℕ) → 1 ≤ x → x ≤ 150 → AllByRecursion IsReadable (round x)
reads_round x low high = (
  reads_guard,
  (
    reads_under 151 (2 * x ∷ []) (omega arith) (omega arith) ((omega arith, omega arith), tt) (omega arith),
    (
      reads_under 151 ((2 * x + 1) ∷ []) (omega arith) (omega arith) ((omega arith, omega arith), tt) (omega arith),
      (reads_assume (302 ∷ []) ((omega arith, omega arith), tt) (omega arith), (reads_solve, (reads_wait, (reads_drop 151 (omega arith) (omega arith), tt)))),
    ),
  ),
)

reads_rounds : (a n : ℕ) → AllByRecursion IsReadable (flat_map round (map variable_of (range_with_len a n)))
reads_rounds a zero = tt
reads_rounds a (suc n) = read_append (round (variable_of a)) (flat_map round (map variable_of (range_with_len (a + 1) n))) (reads_round (variable_of a) (omega arith) (omega arith)) (reads_rounds (a + 1) n)

reads_script : (n : ℕ) → AllByRecursion IsReadable (script n)
unfolding script
reads_script n = (
  reads_vars 150 (omega arith),
  read_append (map Add (first_clauses n 600)) (Solve 4294967295 ∷ Wait ∷ (rounds n ++ ending)) (reads_adds (first_clauses n 600) (triples n 600))
      (reads_solve, (reads_wait, read_append (rounds n) ending (subst (AllByRecursion IsReadable) (sym (rounds_are n)) (reads_rounds 0 n)) (reads_solve, (reads_wait, (reads_vars 0 (omega arith), (reads_bye, tt)))))),
)

-- lines of such calls are their items
other_bytes : (xs : List ℕ) → no_lf xs ≡ true → AllByRecursion (λ b. b ≢ 10) xs
other_bytes [] h = tt
other_bytes (x ∷ xs) h = let p = and_parts (not (x == 10)) (no_lf xs) h in (differs x p.0, other_bytes xs p.1)
  where
    differs : (b : ℕ) → not (b == 10) ≡ true → b ≢ 10
    differs b e q = elim (eqb_tells b 10) [
      | inl t ↦ (let n : not true ≡ true = rw t.0 at e in absurd cc)
      | inr f ↦ f.1 q
    ]

pub lines_read : (ended : Bool) (line : ℕ) (cs : List Call) → AllByRecursion IsReadable cs → items_from ended line (at_start line) (lines_text cs) ≡ numbered line cs
lines_read ended line [] h = nothing_ahead ended line
lines_read ended line (c ∷ cs) h =
    let text = call_text c in
    let rest = lines_text cs in
    let first : line_at (text ++ 10 ∷ rest) ≡ Some (text, rest) = line_of_parts text rest (All-from_recursion (λ b. b ≢ 10) text (other_bytes text h.0.no_lf)) in
    ap (items_from ended line (at_start line)) (append_assoc text (10 ∷ []) rest ∙ sym (append-nil (text ++ 10 ∷ rest)))
    ∙ line_first ended line (alone line) [] (text ++ 10 ∷ rest) text rest [] first
    ∙ short_line line text (Makes c) (λ j p. items_from ended j p (rest ++ [])) (omega (arith, h.0.short)) h.0.asks
    ∙ ap (λ (xs : List ℕ). item line (asked.Call c) ∷ items_from ended (line + 1) (at_start (line + 1)) xs) (append-nil rest)
    ∙ ap (λ (is : List Request). item line (asked.Call c) ∷ is) (lines_read ended (line + 1) cs h.1)

pub script_read : ScriptIsRead
script_read ended n = lines_read ended 1 (script n) (reads_script n)

-- the script has few calls, and each line is short
lines_few : (cs : List Call) → AllByRecursion IsReadable cs → length (lines_text cs) ≤ 100 * length cs
lines_few [] h = omega arith
lines_few (c ∷ cs) h =
    let all : length (lines_text (c ∷ cs)) ≡ length (line_text c) + length (lines_text cs) = length-append (line_text c) (lines_text cs) in
    let line : length (line_text c) ≡ length (call_text c) + 1 = length-append (call_text c) (10 ∷ []) in
    omega (arith, all, line, h.0.short, lines_few cs h.1)

rounds_count : (a n : ℕ) → length (flat_map round (map variable_of (range_with_len a n))) ≡ 7 * n
rounds_count a zero = refl
rounds_count a (suc n) =
    let e : length (flat_map round (map variable_of (range_with_len a (suc n)))) ≡ 7 + length (flat_map round (map variable_of (range_with_len (a + 1) n))) =
    length-append (round (variable_of a)) (flat_map round (map variable_of (range_with_len (a + 1) n))) in
    omega (arith, e, rounds_count (a + 1) n)

calls_count : (n : ℕ) → length (script n) ≡ 607 + 7 * n
unfolding script
calls_count n =
    let adds : length (map Add (first_clauses n 600)) ≡ 600 = length-map (first_clauses n 600) Add ∙ clauses_count n 600 in
    let turns : length (rounds n) ≡ 7 * n = ap length (rounds_are n) ∙ rounds_count 0 n in
    omega (arith, adds, turns, length-append (map Add (first_clauses n 600)) (Solve 4294967295 ∷ Wait ∷ (rounds n ++ ending)), length-append (rounds n) ending)

pub script_short : ScriptIsShort
script_short n = (calls_count n, omega (arith, calls_count n, lines_few (script n) (reads_script n)))
