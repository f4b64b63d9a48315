-- Numbers in several lines are read as one line.
use Rattle.std.proofs.Common.{◌≡◌, ℕ, ◌+◌, ◌≤◌, ℤ, Bool, true, false, ◌&&◌, ◌⊎◌, inl, inr, Option, List, [], ◌∷◌, ◌++◌, length, map, codes, refl, ap, sym, ◌∙◌, append_assoc, length-append, arith}
use Rattle.std.specs.List.{AllByRecursion}
use Rattle.std.specs.Fmt.{signed_decimal}
use Rattle.std.proofs.lemmas.Bool.{leb-true}
use Rattle.gi_text.specs.Numbers.{size_of}
use Rattle.gi_text.specs.Words.{words_from, words_of}
use Rattle.gi_text.proofs.WordRuns.{words_last}
use Rattle.gi_wire.specs.CallText.{breaks, has_room, wrapped}
use Rattle.gi_wire.specs.Grammar.{Ask, ask_of, but_last, ends_plus, has_list}
use Rattle.gi_wire.specs.Items.{InLine, Joined, goes_on_by, items_from, join, line_by}
use Rattle.gi_wire.specs.Limits.{most_joined, most_line, most_u64}
use Rattle.gi_wire.proofs.Joining.{later_ends}
use Rattle.gi_wire.proofs.LastWord.{but_last_last, ends_plus_last, words_split}
use Rattle.gi_wire.proofs.Lfs.{breaks-append, breaks_few, breaks_none, breaks_plus, no_line}
use Rattle.gi_wire.proofs.Plus.{list_stays}
use Rattle.gi_wire.proofs.Reading.{begins, last_line_is, line_goes_on}
use Rattle.gi_wire.proofs.Spelled.{signed_no_lf, signed_not_white, signed_short, signed_some}

-- each number is one that a word spells
abbrev pub AreSmall : List ℤ → Type 0
AreSmall zs = AllByRecursion (λ z. size_of z ≤ most_u64) zs

pub number_word : (z : ℤ) → size_of z ≤ most_u64 → words_of (signed_decimal z) ≡ signed_decimal z ∷ []
number_word z few = words_last [] (signed_decimal z) (omega (arith, signed_some z few)) (signed_not_white z few)

-- a line with one word more
word_more : (begun : List ℕ) (z : ℤ) → size_of z ≤ most_u64 → words_of (begun ++ 32 ∷ signed_decimal z) ≡ words_of begun ++ signed_decimal z ∷ []
word_more begun z few = words_split [] begun 32 (signed_decimal z) refl ∙ ap (λ (ws : List (List ℕ)). words_of begun ++ ws) (number_word z few)

plus_more : (begun : List ℕ) → words_of ((begun ++ 32 ∷ []) ++ 43 ∷ []) ≡ words_of begun ++ codes "+" ∷ []
unfolding words_from
plus_more begun = ap words_of (append_assoc begun (32 ∷ []) (43 ∷ [])) ∙ words_split [] begun 32 (43 ∷ []) refl

zero_more : (begun : List ℕ) → words_of ((begun ++ 32 ∷ []) ++ 48 ∷ []) ≡ words_of begun ++ codes "0" ∷ []
unfolding words_from
zero_more begun = ap words_of (append_assoc begun (32 ∷ []) (48 ∷ [])) ∙ words_split [] begun 32 (48 ∷ []) refl

two_more : (begun : List ℕ) (b : ℕ) → length ((begun ++ 32 ∷ []) ++ b ∷ []) ≡ length begun + 2
two_more begun b = omega (arith, length-append (begun ++ 32 ∷ []) (b ∷ []), length-append begun (32 ∷ []))

-- the words of a list, from its numbers
abbrev pub list_words : List ℤ → List (List ℕ)
list_words zs = map signed_decimal zs ++ codes "0" ∷ []

abbrev ended : List ℕ → List ℕ
ended more = 32 ∷ 48 ∷ 10 ∷ more

abbrev with_plus : List ℕ → List ℕ
with_plus begun = (begun ++ 32 ∷ []) ++ 43 ∷ []

-- lines before, a line that was begun, and numbers that come behind it ask for this
pub record Reads (j : Joined) (begun : List ℕ) (zs : List ℤ) (column : ℕ) (o : Option Ask) : Type 0 where
  pub column_is : column ≡ length begun
  pub room : column + 2 ≤ most_line
  pub small : AreSmall zs
  pub list : has_list (j.words ++ words_of begun) ≡ true
  pub few : j.size + (length begun + length (wrapped column zs) + 2) ≤ most_joined + breaks (wrapped column zs)
  pub asks : ask_of (j.words ++ (words_of begun ++ list_words zs)) ≡ o

-- a number that has room in the line
fit_is : (column : ℕ) (z : ℤ) (zs : List ℤ) → has_room column (signed_decimal z) ≡ true → wrapped column (z ∷ zs) ≡ (32 ∷ signed_decimal z) ++ wrapped (column + 1 + length (signed_decimal z)) zs
unfolding wrapped
fit_is column z zs h = rw h refl

fit_breaks : (column : ℕ) (z : ℤ) (zs : List ℤ) → size_of z ≤ most_u64 → has_room column (signed_decimal z) ≡ true → breaks (wrapped column (z ∷ zs)) ≡ breaks (wrapped (column + 1 + length (signed_decimal z)) zs)
fit_breaks column z zs few h =
    let rest = wrapped (column + 1 + length (signed_decimal z)) zs in
    let none = breaks_none (32 ∷ signed_decimal z) (signed_no_lf z few) in
    omega (arith, ap breaks (fit_is column z zs h), breaks-append (32 ∷ signed_decimal z) rest, none)

fit_step : (j : Joined) (begun : List ℕ) (z : ℤ) (zs : List ℤ) (column : ℕ) (o : Option Ask) → has_room column (signed_decimal z) ≡ true → Reads j begun (z ∷ zs) column o
    → Reads j (begun ++ 32 ∷ signed_decimal z) zs (column + 1 + length (signed_decimal z)) o
fit_step j begun z zs column o h r =
    let w = signed_decimal z in
    let rest = wrapped (column + 1 + length w) zs in
    let fits : column + length w + 3 ≤ most_line = leb-true (column + length w + 3) most_line h in
    let long = length-append begun (32 ∷ w) in
    let more = word_more begun z r.small.0 in
    record {
      column_is = omega (arith, long, r.column_is);
      room = omega (arith, fits);
      small = r.small.1;
      list = ap (λ (ws : List (List ℕ)). has_list (j.words ++ ws)) more ∙ ap has_list (sym (append_assoc j.words (words_of begun) (w ∷ []))) ∙ list_stays (j.words ++ words_of begun) (w ∷ []) r.list;
      few = omega (arith, r.few, long, ap length (fit_is column z zs h), length-append (32 ∷ w) rest, fit_breaks column z zs r.small.0 h);
      asks = ap (λ (ws : List (List ℕ)). ask_of (j.words ++ (ws ++ list_words zs))) more ∙ ap (λ (ws : List (List ℕ)). ask_of (j.words ++ ws)) (append_assoc (words_of begun) (w ∷ []) (list_words zs)) ∙ r.asks;
    }

-- a number that goes into the next line
break_is : (column : ℕ) (z : ℤ) (zs : List ℤ) → has_room column (signed_decimal z) ≡ false → wrapped column (z ∷ zs) ≡ (32 ∷ 43 ∷ 10 ∷ signed_decimal z) ++ wrapped (length (signed_decimal z)) zs
unfolding wrapped
break_is column z zs h = rw h refl

break_breaks : (column : ℕ) (z : ℤ) (zs : List ℤ) → size_of z ≤ most_u64 → has_room column (signed_decimal z) ≡ false → breaks (wrapped column (z ∷ zs)) ≡ 1 + breaks (wrapped (length (signed_decimal z)) zs)
break_breaks column z zs few h =
    let rest = wrapped (length (signed_decimal z)) zs in
    omega (arith, ap breaks (break_is column z zs h), breaks_plus (signed_decimal z ++ rest), breaks-append (signed_decimal z) rest, breaks_none (signed_decimal z) (signed_no_lf z few))

without_plus : (begun : List ℕ) → but_last (words_of (with_plus begun)) ≡ words_of begun
without_plus begun = ap but_last (plus_more begun) ∙ but_last_last (words_of begun) (codes "+")

break_step : (j : Joined) (begun : List ℕ) (z : ℤ) (zs : List ℤ) (column : ℕ) (o : Option Ask) → has_room column (signed_decimal z) ≡ false → Reads j begun (z ∷ zs) column o
    → Reads (join j (with_plus begun)) (signed_decimal z) zs (length (signed_decimal z)) o
break_step j begun z zs column o h r =
    let w = signed_decimal z in
    let rest = wrapped (length w) zs in
    let same = without_plus begun in
    let word = number_word z r.small.0 in
    record {
      column_is = refl;
      room = omega (arith, signed_short z r.small.0);
      small = r.small.1;
      list = ap (λ (ws : List (List ℕ)). has_list ((j.words ++ ws) ++ words_of w)) same ∙ list_stays (j.words ++ words_of begun) (words_of w) r.list;
      few = omega (arith, r.few, two_more begun 43, ap length (break_is column z zs h), length-append (32 ∷ 43 ∷ 10 ∷ w) rest, break_breaks column z zs r.small.0 h);
      asks = ap (λ (ws : List (List ℕ)). ask_of ((j.words ++ ws) ++ (words_of w ++ list_words zs))) same ∙ ap (λ (ws : List (List ℕ)). ask_of ((j.words ++ words_of begun) ++ (ws ++ list_words zs))) word
          ∙ ap ask_of (append_assoc j.words (words_of begun) (w ∷ list_words zs)) ∙ r.asks;
    }

-- with these lines and the 0 what comes is what they ask for
abbrev IsBack : Bool → ℕ → Joined → List ℕ → List ℕ → Option Ask → List ℕ → Type 0
IsBack e line j begun text o more = items_from e line (InLine j begun) (text ++ ended more) ≡ line_by j.first (line + breaks text) o (λ k p. items_from e k p more)

later_line : (e : Bool) (first line other : ℕ) (o : Option Ask) (more : List ℕ) → line ≡ other → line_by first line o (λ k p. items_from e k p more) ≡ line_by first other o (λ k p. items_from e k p more)
later_line e first line other o more same = ap (λ (k : ℕ). line_by first k o (λ i p. items_from e i p more)) same

none_back : (e : Bool) (line : ℕ) (j : Joined) (begun : List ℕ) (column : ℕ) (o : Option Ask) (more : List ℕ) → Reads j begun [] column o → IsBack e line j begun (wrapped column []) o more
unfolding items_from wrapped breaks
none_back e line j begun column o more r =
    last_line_is line j ((begun ++ 32 ∷ []) ++ 48 ∷ []) o (λ k p. items_from e k p more) (omega (arith, two_more begun 48, r.column_is, r.room)) (omega (arith, two_more begun 48, r.few))
    (later_ends j.words (words_of ((begun ++ 32 ∷ []) ++ 48 ∷ [])) (ap ends_plus (zero_more begun) ∙ ends_plus_last (words_of begun) (codes "0")))
    (ap (λ (ws : List (List ℕ)). ask_of (j.words ++ ws)) (zero_more begun) ∙ r.asks)
    ∙ later_line e j.first line (line + 0) o more (omega arith)

fit_back : (e : Bool) (line : ℕ) (j : Joined) (begun : List ℕ) (z : ℤ) (zs : List ℤ) (column : ℕ) (o : Option Ask) (more : List ℕ) → has_room column (signed_decimal z) ≡ true → Reads j begun (z ∷ zs) column o
    → IsBack e line j (begun ++ 32 ∷ signed_decimal z) (wrapped (column + 1 + length (signed_decimal z)) zs) o more → IsBack e line j begun (wrapped column (z ∷ zs)) o more
fit_back e line j begun z zs column o more h r back =
    let w = signed_decimal z in
    let rest = wrapped (column + 1 + length w) zs in
    let same = fit_breaks column z zs r.small.0 h in
    ap (λ (xs : List ℕ). items_from e line (InLine j begun) (xs ++ ended more)) (fit_is column z zs h)
    ∙ ap (items_from e line (InLine j begun)) (append_assoc (32 ∷ w) rest (ended more))
    ∙ begins e line j begun (32 ∷ w) (rest ++ ended more) (no_line (32 ∷ w) (signed_no_lf z r.small.0))
    ∙ back ∙ later_line e j.first (line + breaks rest) (line + breaks (wrapped column (z ∷ zs))) o more (omega (arith, same))

goes_on : (j : Joined) (begun : List ℕ) → has_list (j.words ++ words_of begun) ≡ true → goes_on_by j.words (words_of (with_plus begun)) ≡ true
goes_on j begun list =
    ap (goes_on_by j.words) (plus_more begun)
    ∙ ap (λ (b : Bool). b && ends_plus (words_of begun ++ codes "+" ∷ [])) (ap has_list (sym (append_assoc j.words (words_of begun) (codes "+" ∷ []))) ∙ list_stays (j.words ++ words_of begun) (codes "+" ∷ []) list)
    ∙ ends_plus_last (words_of begun) (codes "+")

break_back : (e : Bool) (line : ℕ) (j : Joined) (begun : List ℕ) (z : ℤ) (zs : List ℤ) (column : ℕ) (o : Option Ask) (more : List ℕ) → has_room column (signed_decimal z) ≡ false → Reads j begun (z ∷ zs) column o
    → IsBack e (line + 1) (join j (with_plus begun)) (signed_decimal z) (wrapped (length (signed_decimal z)) zs) o more → IsBack e line j begun (wrapped column (z ∷ zs)) o more
unfolding items_from
break_back e line j begun z zs column o more h r back =
    let w = signed_decimal z in
    let rest = wrapped (length w) zs in
    let same = break_breaks column z zs r.small.0 h in
    ap (λ (xs : List ℕ). items_from e line (InLine j begun) (xs ++ ended more)) (break_is column z zs h)
    ∙ line_goes_on line j (with_plus begun) (λ k p. items_from e k p ((w ++ rest) ++ ended more)) (omega (arith, two_more begun 43, r.column_is, r.room))
    (omega (arith, two_more begun 43, r.few, breaks_few (wrapped column (z ∷ zs)))) (goes_on j begun r.list)
    ∙ ap (items_from e (line + 1) (InLine (join j (with_plus begun)) [])) (append_assoc w rest (ended more))
    ∙ begins e (line + 1) (join j (with_plus begun)) [] w (rest ++ ended more) (no_line w (signed_no_lf z r.small.0))
    ∙ back ∙ later_line e j.first (line + 1 + breaks rest) (line + breaks (wrapped column (z ∷ zs))) o more (omega (arith, same))

either : (b : Bool) → (b ≡ true) ⊎ (b ≡ false)
either true = inl refl
either false = inr refl

pub wrapped_back : (e : Bool) (line : ℕ) (j : Joined) (begun : List ℕ) (zs : List ℤ) (column : ℕ) (o : Option Ask) (more : List ℕ) → Reads j begun zs column o
    → items_from e line (InLine j begun) (wrapped column zs ++ 32 ∷ 48 ∷ 10 ∷ more) ≡ line_by j.first (line + breaks (wrapped column zs)) o (λ k p. items_from e k p more)
wrapped_back e line j begun [] column o more r = none_back e line j begun column o more r
wrapped_back e line j begun (z ∷ zs) column o more r = elim (either (has_room column (signed_decimal z))) [
  | inl h ↦ fit_back e line j begun z zs column o more h r (wrapped_back e line j (begun ++ 32 ∷ signed_decimal z) zs (column + 1 + length (signed_decimal z)) o more (fit_step j begun z zs column o h r))
  | inr h ↦ break_back e line j begun z zs column o more h r (wrapped_back e (line + 1) (join j (with_plus begun)) (signed_decimal z) zs (length (signed_decimal z)) o more (break_step j begun z zs column o h r))
]
