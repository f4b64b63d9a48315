-- The items of bytes that come in pieces.
use Rattle.std.proofs.Common.{◌≡◌, ℕ, ◌+◌, ◌-◌, ◌<◌, ◌≤◌, nat_lt, List, [], ◌∷◌, ◌++◌, length, take, Option, Some, None, Bool, true, false, ◌&&◌, ◌||◌, ◌⊎◌, inl, inr, cond, refl, ap, sym, ◌∙◌, subst, arith, append_assoc, length-append}
use Rattle.std.specs.Option.{is_none}
use Rattle.std.proofs.lemmas.List.{append-nil, length-take-le, take_all}
use Rattle.std.proofs.lemmas.Bool.Decides.{eqb_tells}
use Rattle.std.proofs.lemmas.Bool.{le-ltb, lt-ltb, ltb-true, ltb-false, ne_eqb}
use Rattle.gi_text.specs.Lines.{Kept, fed, from_lf, line_at, GivesLine}
use Rattle.gi_text.specs.Words.{words_of}
use Rattle.gi_text.proofs.Dropping.{mapped, mapped_none, unwrapped, fed_whole, fed_cut}
use Rattle.gi_wire.specs.declared.call.Kind.{Kind}
use Rattle.gi_wire.specs.declared.call.Load.{Load}
use Rattle.gi_wire.specs.declared.reader.RequestKind.TheVariants as asked
use Rattle.gi_wire.specs.declared.reader.Request.{Request}
use Rattle.gi_wire.specs.Grammar.{Ask, Makes, Loads, ask_of}
use Rattle.gi_wire.specs.Items.{Joined, Place, InLine, InLoad, alone, at_line, at_load, at_start, cut, cut_lines, goes_on_by, is_long, item, items_from, join, line_at_by, line_by, load_call, then_after}
use Rattle.gi_wire.specs.Limits.{most_joined, most_line}
use Rattle.gi_wire.specs.Source.{goes_on}
use Rattle.gi_wire.proofs.Plus.{asks_end}

-- bytes with no LF are only begun
pub begins : (e : Bool) (line : ℕ) (j : Joined) (begun xs more : List ℕ) → line_at xs ≡ None → items_from e line (InLine j begun) (xs ++ more) ≡ items_from e line (InLine j (begun ++ xs)) more
unfolding items_from
begins e line j begun [] more h = ap (λ zs. items_from e line (InLine j zs) more) (sym (append-nil begun))
begins e line j begun (x ∷ xs) more h = elim (eqb_tells x 10) [
  | inl t ↦ let was = rw t.0 at h in cc
  | inr f ↦ rw f.0 (begins e line j (begun ++ x ∷ []) xs more (mapped_none (λ (p : List ℕ × List ℕ). (x ∷ p.0, p.1)) (line_at xs) (rw f.0 at h)) ∙ ap (λ zs. items_from e line (InLine j zs) more) (append_assoc begun (x ∷ []) xs))
]

pub long_line : (line : ℕ) (j : Joined) (b : List ℕ) (next : ℕ → Place → List Request) → most_line < length b → at_line line j b next ≡ then_after j.first line asked.Long next
unfolding at_line
long_line line j b next h = rw (lt-ltb most_line (length b) h) refl

or_true : (a b : Bool) → b ≡ true → (a || b) ≡ true
or_true true b h = refl
or_true false b h = h

or_false : (a b : Bool) → a ≡ false → b ≡ false → (a || b) ≡ false
or_false a b h k = rw h k

-- so are lines that have too many bytes together
pub long_lines : (line : ℕ) (j : Joined) (b : List ℕ) (next : ℕ → Place → List Request) → most_joined < j.size + length b → at_line line j b next ≡ then_after j.first line asked.Long next
unfolding at_line
long_lines line j b next h = ap (λ (t : Bool). cond t (then_after j.first line asked.Long next) (line_at_by (goes_on_by j.words (words_of b)) line j b next)) (or_true (nat_lt most_line (length b)) (nat_lt most_joined (j.size + length b)) (lt-ltb most_joined (j.size + length b) h))

-- a line that isn't too long
pub fit_line : (line : ℕ) (j : Joined) (b : List ℕ) (next : ℕ → Place → List Request) → length b ≤ most_line → j.size + length b ≤ most_joined → at_line line j b next ≡ line_at_by (goes_on_by j.words (words_of b)) line j b next
unfolding at_line
fit_line line j b next h k = ap (λ (t : Bool). cond t (then_after j.first line asked.Long next) (line_at_by (goes_on_by j.words (words_of b)) line j b next)) (or_false (nat_lt most_line (length b)) (nat_lt most_joined (j.size + length b)) (le-ltb most_line (length b) h) (le-ltb most_joined (j.size + length b) k))

-- one that goes on
pub line_goes_on : (line : ℕ) (j : Joined) (b : List ℕ) (next : ℕ → Place → List Request) → length b ≤ most_line → j.size + length b ≤ most_joined → goes_on_by j.words (words_of b) ≡ true → at_line line j b next ≡ next (line + 1) (InLine (join j b) [])
line_goes_on line j b next h k goes = fit_line line j b next h k ∙ ap (λ (t : Bool). line_at_by t line j b next) goes

-- one that doesn't
pub last_line_is : (line : ℕ) (j : Joined) (b : List ℕ) (o : Option Ask) (next : ℕ → Place → List Request) → length b ≤ most_line → j.size + length b ≤ most_joined → goes_on_by j.words (words_of b) ≡ false → ask_of (j.words ++ words_of b) ≡ o
    → at_line line j b next ≡ line_by j.first line o next
last_line_is line j b o next h k goes is = fit_line line j b next h k ∙ ap (λ (t : Bool). line_at_by t line j b next) goes ∙ ap (λ (p : Option Ask). line_by j.first line p next) is

-- a line alone that asks for something
pub short_line : (line : ℕ) (b : List ℕ) (a : Ask) (next : ℕ → Place → List Request) → length b ≤ most_line → ask_of (words_of b) ≡ Some a → at_line line (alone line) b next ≡ line_by line line (Some a) next
short_line line b a next h is = last_line_is line (alone line) b (Some a) next h (omega (arith, h)) (asks_end (words_of b) a is) is

-- all lines that are too long are alike
pub alike : (e : Bool) (line : ℕ) (j : Joined) (b c more : List ℕ) → most_line < length b → most_line < length c → items_from e line (InLine j b) more ≡ items_from e line (InLine j c) more
unfolding items_from
alike e line j [] c [] h k = absurd (omega arith)
alike e line j (x ∷ b) [] [] h k = absurd (omega arith)
alike e line j (x ∷ b) (y ∷ c) [] h k = ap (λ xs. cond e xs []) (long_line line j (x ∷ b) cut h ∙ sym (long_line line j (y ∷ c) cut k))
alike e line j b c (x ∷ more) h k = elim (eqb_tells x 10) [
  | inl t ↦ rw t.0 (long_line line j b (λ i p. items_from e i p more) h ∙ sym (long_line line j c (λ i p. items_from e i p more) k))
  | inr f ↦ rw f.0 (alike e line j (b ++ x ∷ []) (c ++ x ∷ []) more (omega (arith, length-append b (x ∷ []))) (omega (arith, length-append c (x ∷ []))))
]

-- what is dropped of a line that is too long makes no difference
pub dropped : (e : Bool) (line : ℕ) (j : Joined) (b piece more : List ℕ) → most_line < length b → items_from e line (InLine j b) (from_lf piece ++ more) ≡ items_from e line (InLine j b) (piece ++ more)
unfolding items_from
dropped e line j b [] more h = refl
dropped e line j b (x ∷ piece) more h = elim (eqb_tells x 10) [
  | inl t ↦ rw (t.0, t.0) refl
  | inr f ↦
      let longer : most_line < length (b ++ x ∷ []) = omega (arith, length-append b (x ∷ [])) in
      rw f.0 (alike e line j b (b ++ x ∷ []) (from_lf piece ++ more) h longer ∙ dropped e line j (b ++ x ∷ []) piece more longer)
]

pub both_of : (a b : Bool) → (a && b) ≡ true → (a ≡ true) × (b ≡ true)
both_of true b h = (refl, h)
both_of false b h = cc

none_of : (o : Option (List ℕ × List ℕ)) → is_none o ≡ true → o ≡ None
none_of None h = refl
none_of (Some x) h = cc

no_load : (o : Option Load) (long : Bool) → ((l : Load) → o ≡ Some l → long ≡ false) → long ≡ true → o ≡ None
no_load None long apart h = refl
no_load (Some l) long apart h = let no = sym (apart l refl) ∙ h in cc

-- a piece that was fed is ahead behind what was left
pub fed_ahead : (e : Bool) (load : Option Load) (j : Joined) (line : ℕ) (k : Kept) (piece more : List ℕ) → (k.long ≡ true → most_line < length k.left) → ((l : Load) → load ≡ Some l → k.long ≡ false)
    → goes_on load j line (λ i p. items_from e i p (fed k piece ++ more)) ≡ goes_on load j line (λ i p. items_from e i p (k.left ++ (piece ++ more)))
fed_ahead e load j line k piece more sound apart = by_flag (k.long && is_none (line_at k.left)) refl where
  by_flag : (flag : Bool) → (k.long && is_none (line_at k.left)) ≡ flag → goes_on load j line (λ i p. items_from e i p (fed k piece ++ more)) ≡ goes_on load j line (λ i p. items_from e i p (k.left ++ (piece ++ more)))
  by_flag false h = ap (λ zs. goes_on load j line (λ i p. items_from e i p zs)) (ap (λ zs. zs ++ more) (fed_whole k piece h) ∙ append_assoc k.left piece more)
  by_flag true h =
      let both = both_of k.long (is_none (line_at k.left)) h in
      let none = none_of (line_at k.left) both.1 in
      rw (no_load load k.long apart both.0) (ap (λ zs. items_from e line (InLine j []) (zs ++ more)) (fed_cut k piece h) ∙ ap (items_from e line (InLine j [])) (append_assoc k.left (from_lf piece) more)
      ∙ begins e line j [] k.left (from_lf piece ++ more) none ∙ dropped e line j k.left piece more (sound both.0) ∙ sym (begins e line j [] k.left (piece ++ more) none))

from_lf_short : (xs : List ℕ) → length (from_lf xs) ≤ length xs
from_lf_short [] = omega arith
from_lf_short (x ∷ xs) = elim (eqb_tells x 10) [
  | inl t ↦ rw t.0 (omega arith)
  | inr f ↦ rw f.0 (omega (arith, from_lf_short xs))
]

pub fed_length : (k : Kept) (piece : List ℕ) → (length k.left ≤ length (fed k piece)) × (length (fed k piece) ≤ length k.left + length piece)
fed_length k piece = by_flag (k.long && is_none (line_at k.left)) refl where
  by_flag : (flag : Bool) → (k.long && is_none (line_at k.left)) ≡ flag → (length k.left ≤ length (fed k piece)) × (length (fed k piece) ≤ length k.left + length piece)
  by_flag true h =
      let same = ap length (fed_cut k piece h) in
      (omega (arith, same, length-append k.left (from_lf piece)), omega (arith, same, length-append k.left (from_lf piece), from_lf_short piece))
  by_flag false h =
      let same = ap length (fed_whole k piece h) in
      (omega (arith, same, length-append k.left piece), omega (arith, same, length-append k.left piece))

-- a front of a line that is too long is as good as all of it
pub kept_ahead : (e : Bool) (line : ℕ) (j : Joined) (left more : List ℕ) → line_at left ≡ None → line_at (take (most_line + 1) left) ≡ None → items_from e line (InLine j []) (take (most_line + 1) left ++ more) ≡ items_from e line (InLine j []) (left ++ more)
kept_ahead e line j left more none none' = begins e line j [] (take (most_line + 1) left) more none' ∙ by_length (nat_lt most_line (length left)) refl ∙ sym (begins e line j [] left more none) where
  by_length : (long : Bool) → nat_lt most_line (length left) ≡ long → items_from e line (InLine j (take (most_line + 1) left)) more ≡ items_from e line (InLine j left) more
  by_length true h =
      let far : most_line < length left = ltb-true most_line (length left) h in
      alike e line j (take (most_line + 1) left) left more (omega (arith, length-take-le (most_line + 1) left (omega arith))) far
  by_length false h =
      let near : length left ≤ (most_line + 1) = omega (arith, ltb-false most_line (length left) h) in
      ap (λ zs. items_from e line (InLine j zs) more) (take_all (most_line + 1) left near)

-- a whole line comes first, whatever follows it
pub line_first : (e : Bool) (line : ℕ) (j : Joined) (begun xs l r more : List ℕ) → line_at xs ≡ Some (l, r) → items_from e line (InLine j begun) (xs ++ more) ≡ at_line line j (begun ++ l) (λ i p. items_from e i p (r ++ more))
unfolding items_from
line_first e line j begun [] l r more h = cc
line_first e line j begun (b ∷ bs) l r more h = elim (eqb_tells b 10) [
  | inl t ↦
      let was = unwrapped ([], bs) (l, r) (rw t.0 at h) in
      rw t.0 (ap (λ zs. at_line line j zs (λ i p. items_from e i p (bs ++ more))) (sym (append-nil begun) ∙ ap (λ (q : List ℕ × List ℕ). begun ++ q.0) was)
      ∙ ap (λ (q : List ℕ × List ℕ). at_line line j (begun ++ l) (λ i p. items_from e i p (q.1 ++ more))) was)
  | inr f ↦
      let was = mapped (λ (q : List ℕ × List ℕ). (b ∷ q.0, q.1)) (line_at bs) (l, r) (rw f.0 at h) in
      rw f.0 (line_first e line j (begun ++ b ∷ []) bs was.0.0 was.0.1 more was.1
      ∙ ap (λ zs. at_line line j zs (λ i p. items_from e i p (was.0.1 ++ more))) (append_assoc begun (b ∷ []) was.0.0)
      ∙ ap (λ (q : List ℕ × List ℕ). at_line line j (begun ++ q.0) (λ i p. items_from e i p (q.1 ++ more))) was.2)
]

pub nothing_ahead : (e : Bool) (line : ℕ) → items_from e line (at_start line) [] ≡ []
unfolding items_from
nothing_ahead true line = refl
nothing_ahead false line = refl

-- nothing is ahead where no line goes on
pub nothing_behind : (e : Bool) (line : ℕ) (j : Joined) → j.words ≡ [] → items_from e line (InLine j []) [] ≡ []
unfolding items_from
nothing_behind true line j none = ap (λ (ws : List (List ℕ)). cut_lines ws j.first) none
nothing_behind false line j none = refl

-- lines that go on are refused at the end
cut_some : (ws : List (List ℕ)) (first : ℕ) → 0 < length ws → cut_lines ws first ≡ item first asked.Syntax ∷ []
cut_some [] first some = absurd (omega arith)
cut_some (w ∷ ws) first some = refl

pub lines_cut : (line : ℕ) (j : Joined) → 0 < length j.words → items_from true line (InLine j []) [] ≡ item j.first asked.Syntax ∷ []
unfolding items_from
lines_cut line j some = cut_some j.words j.first some

-- with no LF there is no item yet
pub none_yet : (line : ℕ) (j : Joined) (begun xs : List ℕ) → line_at xs ≡ None → items_from false line (InLine j begun) xs ≡ []
unfolding items_from
none_yet line j begun xs none = ap (items_from false line (InLine j begun)) (sym (append-nil xs)) ∙ begins false line j begun xs [] none

-- with nothing behind it, what a line comes to is what the end makes of it
cut_is : (first line : ℕ) (o : Option Ask) → line_by first line o cut ≡ line_by first line o (λ i p. items_from true i p [])
unfolding items_from at_load
cut_is first line None = refl
cut_is first line (Some (Makes call)) = refl
cut_is first line (Some (Loads kind len)) = refl

cut_line_is : (goes : Bool) (line : ℕ) (j : Joined) (xs : List ℕ) → line_at_by goes line j xs cut ≡ line_at_by goes line j xs (λ i p. items_from true i p [])
unfolding items_from
cut_line_is true line j xs = refl
cut_line_is false line j xs = cut_is j.first line (ask_of (j.words ++ words_of xs))

-- what the input ends with comes first too
pub line_last : (line : ℕ) (j : Joined) (xs : List ℕ) → line_at xs ≡ None → 0 < length xs → items_from true line (InLine j []) xs ≡ at_line line j xs (λ i p. items_from true i p [])
unfolding items_from at_line
line_last line j xs none some = ap (items_from true line (InLine j [])) (sym (append-nil xs)) ∙ begins true line j [] xs [] none ∙ ends xs some ∙ ap (λ zs. cond (is_long j xs) (then_after j.first line asked.Long cut) zs) (cut_line_is (goes_on_by j.words (words_of xs)) line j xs) where
  ends : (ys : List ℕ) → 0 < length ys → items_from true line (InLine j ys) [] ≡ at_line line j ys cut
  ends [] some = absurd (omega arith)
  ends (y ∷ ys) some = refl

-- a line that was given, whichever it was, comes first
pub next_is : (e : Bool) (line : ℕ) (j : Joined) (old new : Kept) (l more : List ℕ) → GivesLine l old new → (old.ended ≡ true → (e ≡ true) × (more ≡ []))
    → items_from e line (InLine j []) (old.left ++ more) ≡ at_line line j l (λ i p. items_from e i p (new.left ++ more))
next_is e line j old new l more given comes = by_case given.line_is where
  by_case : (line_at old.left ≡ Some (l, new.left)) ⊎ ((line_at old.left ≡ None) × (old.ended ≡ true) × (0 < length l) × (l ≡ old.left) × (new.left ≡ [])) → items_from e line (InLine j []) (old.left ++ more) ≡ at_line line j l (λ i p. items_from e i p (new.left ++ more))
  by_case (inl whole) = line_first e line j [] old.left l new.left more whole
  by_case (inr last) =
      let now = comes last.1 in
      rw (now.0, now.1, last.4) (ap (items_from true line (InLine j [])) (append-nil old.left) ∙ line_last line j old.left last.0 (subst (λ (xs : List ℕ). 0 < length xs) last.3 last.2)
      ∙ ap (λ zs. at_line line j zs (λ i p. items_from true i p [])) (sym last.3))

-- the bytes of a load make one item, whatever follows them
load_first : (e : Bool) (line : ℕ) (kind : Kind) (got xs more : List ℕ) (n : ℕ) → n ≡ length xs → 0 < n → items_from e line (InLoad kind got n) (xs ++ more) ≡ item line (asked.Call (load_call kind (got ++ xs))) ∷ items_from e (line + 1) (at_start (line + 1)) more
unfolding items_from at_load
load_first e line kind got [] more n same some = absurd (omega arith)
load_first e line kind got (x ∷ []) more n same some = let one : n ≡ 1 = omega arith in rw one refl
load_first e line kind got (x ∷ y ∷ xs) more n same some =
    rw (ne_eqb (n - 1) 0 (λ none. omega arith)) (load_first e line kind (got ++ x ∷ []) (y ∷ xs) more (n - 1) (omega arith) (omega arith)
    ∙ ap (λ zs. item line (asked.Call (load_call kind zs)) ∷ items_from e (line + 1) (at_start (line + 1)) more) (append_assoc got (x ∷ []) (y ∷ xs)))

pub load_whole : (e : Bool) (line : ℕ) (kind : Kind) (xs more : List ℕ) (n : ℕ) → n ≡ length xs → at_load line kind [] n (λ j p. items_from e j p (xs ++ more)) ≡ item line (asked.Call (load_call kind xs)) ∷ items_from e (line + 1) (at_start (line + 1)) more
unfolding at_load
load_whole e line kind [] more n same = let none : n ≡ 0 = omega arith in rw none refl
load_whole e line kind (x ∷ xs) more n same = rw (ne_eqb n 0 (λ none. omega arith)) (load_first e line kind [] (x ∷ xs) more n same (omega arith))

-- fewer bytes than a load has are no item, and where the input ends they are refused
load_missing : (e : Bool) (line : ℕ) (kind : Kind) (got xs : List ℕ) (n : ℕ) → length xs < n → items_from e line (InLoad kind got n) xs ≡ cond e (item line asked.Syntax ∷ []) []
unfolding items_from at_load
load_missing e line kind got [] n less = refl
load_missing e line kind got (x ∷ xs) n less = rw (ne_eqb (n - 1) 0 (λ none. omega arith)) (load_missing e line kind (got ++ x ∷ []) xs (n - 1) (omega arith))

pub load_short : (e : Bool) (line : ℕ) (kind : Kind) (xs : List ℕ) (n : ℕ) → length xs < n → at_load line kind [] n (λ j p. items_from e j p xs) ≡ cond e (item line asked.Syntax ∷ []) []
unfolding at_load
load_short e line kind xs n less = rw (ne_eqb n 0 (λ none. omega arith)) (load_missing e line kind [] xs n less)

-- a line is shorter than what it was taken from
line_shorter : (xs l r : List ℕ) → line_at xs ≡ Some (l, r) → length r + 1 + length l ≡ length xs
line_shorter [] l r h = cc
line_shorter (b ∷ bs) l r h = elim (eqb_tells b 10) [
  | inl t ↦
      let was = unwrapped ([], bs) (l, r) (rw t.0 at h) in
      let left_is : [] ≡ l = ap (λ (p : List ℕ × List ℕ). p.0) was in
      let right_is : bs ≡ r = ap (λ (p : List ℕ × List ℕ). p.1) was in
      omega (arith, ap length left_is, ap length right_is)
  | inr f ↦
      let was = mapped (λ (p : List ℕ × List ℕ). (b ∷ p.0, p.1)) (line_at bs) (l, r) (rw f.0 at h) in
      let left_is : b ∷ was.0.0 ≡ l = ap (λ (p : List ℕ × List ℕ). p.0) was.2 in
      let right_is : was.0.1 ≡ r = ap (λ (p : List ℕ × List ℕ). p.1) was.2 in
      omega (arith, ap length left_is, ap length right_is, line_shorter bs was.0.0 was.0.1 was.1)
]

pub shorter : (old new : Kept) (l : List ℕ) → GivesLine l old new → length new.left < length old.left
shorter old new l given = by_case given.line_is where
  by_case : (line_at old.left ≡ Some (l, new.left)) ⊎ ((line_at old.left ≡ None) × (old.ended ≡ true) × (0 < length l) × (l ≡ old.left) × (new.left ≡ [])) → length new.left < length old.left
  by_case (inl whole) = omega (arith, line_shorter old.left l new.left whole)
  by_case (inr last) = omega (arith, ap length last.3, last.2, ap length last.4)
