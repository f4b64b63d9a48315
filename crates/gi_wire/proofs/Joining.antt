-- The text of joined lines.
use Rattle.std.proofs.Common.{◌≡◌, ℕ, ◌+◌, ◌<◌, ◌≤◌, ◌↔◌, List, [], ◌∷◌, ◌++◌, length, take, Bool, true, false, ◌&&◌, refl, ap, sym, ◌∙◌, subst, append_assoc, arith, Option, Some, None, MatchOption, ◌==◌}
use Rattle.std.proofs.lemmas.Bool.{eqb-false, eqb-true}
use Rattle.std.proofs.lemmas.List.{append-nil, length-take}
use Rattle.gi_text.specs.Words.{words_from, words_of}
use Rattle.gi_wire.specs.CallRead.{EndsAtPlus, ReadsCall}
use Rattle.gi_wire.specs.Grammar.{but_last, ends_plus, has_list}
use Rattle.gi_wire.specs.Holds.{HoldsText}
use Rattle.gi_wire.specs.Items.{Joined, alone, goes_on_by}
use Rattle.gi_wire.specs.Limits.{most_joined, most_line}
use Rattle.gi_wire.specs.Taken.{IsJoined}
use Rattle.gi_wire.specs.declared.call.CallRead.{CallRead}
use Rattle.gi_wire.proofs.Plus.{list_joined, list_some, list_stays}

nil_words : words_of [] ≡ []
unfolding words_from
nil_words = refl

nil_front : (ws : List (List ℕ)) → words_of [] ++ ws ≡ ws
nil_front ws = ap (λ (vs : List (List ℕ)). vs ++ ws) nil_words

-- no line is joined
pub holds_none : (text : List ℕ) (size : ℕ) → text ≡ [] → size ≤ most_joined → HoldsText text size
holds_none text size none few = subst (λ (t : List ℕ). HoldsText t size) (sym none) (record {
  list = λ some. absurd (omega (arith, some));
  words = λ more. sym (nil_front (words_of more));
  few = few;
})

pub is_alone : (first : ℕ) (text : List ℕ) → text ≡ [] → (let j : Joined = record { first = first; words = words_of text; size = 0 } in j ≡ alone first)
is_alone first text none = ap (λ (ws : List (List ℕ)). let j : Joined = record { first = first; words = ws; size = 0 } in j) (ap words_of none ∙ nil_words)

-- no text is no word, and the other way round
pub empty_text : (text : List ℕ) (size : ℕ) → HoldsText text size → (text ≡ []) ↔ (words_of text ≡ [])
empty_text [] size held = (λ e. nil_words, λ e. refl)
empty_text (b ∷ bs) size held = (λ e. absurd cc, λ e. absurd (none (words_of (b ∷ bs)) e (held.list (omega arith)))) where
  none : (ws : List (List ℕ)) → ws ≡ [] → has_list ws ≡ true → ⊥
  none ws e h = let some = list_some ws h in let no = ap length e in omega arith

spaced : (text line : List ℕ) (size place : ℕ) (more : List ℕ) → HoldsText text size → EndsAtPlus line place
    → words_of ((text ++ take place line) ++ 32 ∷ more) ≡ words_of text ++ (but_last (words_of line) ++ words_of more)
spaced text line size place more held plus =
    ap words_of (append_assoc text (take place line) (32 ∷ more)) ∙ held.words (take place line ++ 32 ∷ more)
    ∙ ap (λ (ws : List (List ℕ)). words_of text ++ ws) (plus.more more ∙ ap (λ (ws : List (List ℕ)). ws ++ words_of more) plus.before)

-- the words of all lines
joined_words : (text line : List ℕ) (size place : ℕ) → HoldsText text size → EndsAtPlus line place
    → words_of ((text ++ take place line) ++ 32 ∷ []) ≡ words_of text ++ but_last (words_of line)
joined_words text line size place held plus =
    spaced text line size place [] held plus
    ∙ ap (λ (ws : List (List ℕ)). words_of text ++ (but_last (words_of line) ++ ws)) nil_words ∙ ap (λ (ws : List (List ℕ)). words_of text ++ ws) (append-nil (but_last (words_of line)))

-- a line more is joined
pub holds_more : (text line all : List ℕ) (size total place : ℕ) → HoldsText text size → EndsAtPlus line place → has_list (words_of text ++ words_of line) ≡ true → total ≤ most_joined
    → all ≡ (text ++ take place line) ++ 32 ∷ [] → HoldsText all total
holds_more text line all size total place held plus list few is =
    subst (λ (t : List ℕ). HoldsText t total) (sym is) (record {
      list = λ some. ap has_list (joined_words text line size place held plus) ∙ list_joined (words_of text) (words_of line) list plus.ends;
      words = λ more. ap words_of (append_assoc (text ++ take place line) (32 ∷ []) more) ∙ spaced text line size place more held plus
          ∙ sym (append_assoc (words_of text) (but_last (words_of line)) (words_of more))
          ∙ ap (λ (ws : List (List ℕ)). ws ++ words_of more) (sym (joined_words text line size place held plus));
      few = few;
    })

pub is_joined_to : (first : ℕ) (text line all : List ℕ) (size place : ℕ) → HoldsText text size → EndsAtPlus line place → has_list (words_of text ++ words_of line) ≡ true
    → all ≡ (text ++ take place line) ++ 32 ∷ [] → size + length line ≤ most_joined
    → IsJoined line (record { first = first; words = words_of text; size = size }) (record { first = first; words = words_of all; size = size + length line })
is_joined_to first text line all size place held plus list is few = record {
  few = few;
  goes_on = ap (λ (t : Bool). t && ends_plus (words_of line)) list ∙ plus.ends;
  joined = ap (λ (ws : List (List ℕ)). let j : Joined = record { first = first; words = ws; size = size + length line } in j) (ap words_of is ∙ joined_words text line size place held plus);
}

-- a line that isn't the first of its item goes on by its last word alone
pub later_ends : (ws vs : List (List ℕ)) → ends_plus vs ≡ false → goes_on_by ws vs ≡ false
later_ends ws vs h = by_list (has_list (ws ++ vs)) where
  by_list : (t : Bool) → (t && ends_plus vs) ≡ false
  by_list true = h
  by_list false = refl

pub first_ends : (ws vs : List (List ℕ)) → ws ≡ [] → has_list vs ≡ false → goes_on_by ws vs ≡ false
first_ends ws vs none h = ap (λ (xs : List (List ℕ)). goes_on_by xs vs) none ∙ ap (λ (t : Bool). t && ends_plus vs) h

pub first_list : (ws vs : List (List ℕ)) → ws ≡ [] → has_list vs ≡ true → has_list (ws ++ vs) ≡ true
first_list ws vs none h = ap (λ (xs : List (List ℕ)). has_list (xs ++ vs)) none ∙ h

-- the `+` of the first line of an item, and of a later one
pub first_found : (r : Option ℕ) (line : List ℕ) → has_list (words_of line) ≡ true → MatchOption r (ends_plus (words_of line) ≡ false) (λ place. EndsAtPlus line place)
    → MatchOption r (goes_on_by [] (words_of line) ≡ false) (λ place. (has_list (words_of line) ≡ true) × EndsAtPlus line place)
first_found None line list h = later_ends [] (words_of line) h
first_found (Some place) line list h = (list, h)

pub found_alone : (r : Option ℕ) (ws : List (List ℕ)) (line : List ℕ) → ws ≡ [] → MatchOption r (goes_on_by [] (words_of line) ≡ false) (λ place. (has_list (words_of line) ≡ true) × EndsAtPlus line place)
    → MatchOption r (goes_on_by ws (words_of line) ≡ false) (λ place. (has_list (ws ++ words_of line) ≡ true) × EndsAtPlus line place)
found_alone None ws line none h = ap (λ (vs : List (List ℕ)). goes_on_by vs (words_of line)) none ∙ h
found_alone (Some place) ws line none h = (first_list ws (words_of line) none h.0, h.1)

pub later_found : (r : Option ℕ) (ws : List (List ℕ)) (line : List ℕ) → has_list ws ≡ true → MatchOption r (ends_plus (words_of line) ≡ false) (λ place. EndsAtPlus line place)
    → MatchOption r (goes_on_by ws (words_of line) ≡ false) (λ place. (has_list (ws ++ words_of line) ≡ true) × EndsAtPlus line place)
later_found None ws line list h = later_ends ws (words_of line) h
later_found (Some place) ws line list h = (list_stays ws (words_of line) list, h)

-- what `is_empty` tells
pub tells_nil : (xs ys : List ℕ) (r : Bool) → ys ≡ xs → r ≡ (length ys == 0) → r ≡ true → xs ≡ []
tells_nil [] ys r same is h = refl
tells_nil (x ∷ xs) ys r same is h = absurd (let none = eqb-true (length ys) 0 (sym is ∙ h) in let long = ap length same in omega arith)

pub tells_some : (xs ys : List ℕ) (r : Bool) → ys ≡ xs → r ≡ (length ys == 0) → r ≡ false → 0 < length xs
tells_some [] ys r same is h = absurd (eqb-false (length ys) 0 (sym is ∙ h) (ap length same))
tells_some (x ∷ xs) ys r same is h = omega arith

pub tells_words : (text ys : List ℕ) (size : ℕ) (r : Bool) → HoldsText text size → ys ≡ text → r ≡ (length ys == 0) → (r ≡ true) ↔ (words_of text ≡ [])
tells_words text ys size r held same is = (λ h. (empty_text text size held).0 (tells_nil text ys r same is h), λ e. back ((empty_text text size held).1 e)) where
  back : text ≡ [] → r ≡ true
  back e = is ∙ ap (λ (xs : List ℕ). length xs == 0) (same ∙ e)

-- a line behind no text stands alone
pub reads_alone : (r : CallRead) (text line : List ℕ) → text ≡ [] → ReadsCall r (words_of line) → ReadsCall r (words_of text ++ words_of line)
reads_alone r text line none h = subst (λ (ws : List (List ℕ)). ReadsCall r ws) (sym (ap (λ (t : List ℕ). words_of t ++ words_of line) none ∙ nil_front (words_of line))) h

pub reads_both : (r : CallRead) (text line all : List ℕ) → ((more : List ℕ) → words_of (text ++ more) ≡ words_of text ++ words_of more) → all ≡ text ++ line → ReadsCall r (words_of all) → ReadsCall r (words_of text ++ words_of line)
reads_both r text line all words is h = subst (λ (ws : List (List ℕ)). ReadsCall r ws) (ap words_of is ∙ words line) h

-- a front of a line that isn't too long isn't either
pub short_front : (n : ℕ) (left front : List ℕ) → front ≡ take n left → n ≤ most_line → length front ≤ most_line
short_front n left front is few = omega (arith, ap length is, length-take n left)
