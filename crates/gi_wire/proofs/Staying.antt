-- Items that are there stay, and a load with its bytes is one, and so are joined lines.
use Rattle.std.proofs.Common.{◌≡◌, ℕ, ◌+◌, ◌-◌, ◌≤◌, ◌==◌, Bool, true, false, cond, List, [], ◌∷◌, ◌++◌, length, Option, Some, None, refl, ap, sym, ◌∙◌, arith}
use Rattle.std.proofs.lemmas.List.{append-nil}
use Rattle.gi_text.specs.Lines.{line_at}
use Rattle.gi_text.specs.Words.{words_of}
use Rattle.gi_wire.specs.declared.call.Kind.{Kind}
use Rattle.gi_wire.specs.declared.reader.RequestKind.{RequestKind}
use Rattle.gi_wire.specs.declared.reader.RequestKind.TheVariants as asked
use Rattle.gi_wire.specs.declared.reader.Request.{Request}
use Rattle.gi_wire.specs.Grammar.{Ask, Loads, Makes, ask_of, but_last, ends_plus, has_list}
use Rattle.gi_wire.specs.Items.{InLine, InLoad, Joined, Place, alone, at_line, at_load, at_start, goes_on_by, is_long, item, items_from, join, line_at_by, line_by, load_call, then_after, then_next}
use Rattle.gi_wire.specs.Laws.{BeginsLoad, CutLinesAreRefused, CutLoadsAreRefused, ItemsStay, LinesAreJoined, LoadsAreItems}
use Rattle.gi_wire.specs.Limits.{most_line}
use Rattle.gi_wire.proofs.Plus.{list_joined, list_some}
use Rattle.gi_wire.proofs.Reading.{both_of, last_line_is, line_first, line_goes_on, lines_cut, load_short, load_whole, short_line}

-- the first items are a front of the second
abbrev IsFront : List Request → List Request → Type 0
IsFront few many = (more : List Request) × (many ≡ few ++ more)

-- and so they are from every line and place on
abbrev AreFronts : (ℕ → Place → List Request) → (ℕ → Place → List Request) → Type 0
AreFronts few many = (line : ℕ) (place : Place) → IsFront (few line place) (many line place)

after_stays : (first line : ℕ) (what : RequestKind) (few many : ℕ → Place → List Request) → AreFronts few many → IsFront (then_after first line what few) (then_after first line what many)
after_stays first line what few many h = let rest = h (line + 1) (at_start (line + 1)) in (rest.0, ap (λ (is : List Request). item first what ∷ is) rest.1)

load_stays : (line : ℕ) (kind : Kind) (got : List ℕ) (missing : ℕ) (few many : ℕ → Place → List Request) → AreFronts few many → IsFront (at_load line kind got missing few) (at_load line kind got missing many)
unfolding at_load
load_stays line kind got missing few many h = by_end (missing == 0) where
  by_end : (whole : Bool) → IsFront (cond whole (then_next line (asked.Call (load_call kind got)) few) (few line (InLoad kind got missing))) (cond whole (then_next line (asked.Call (load_call kind got)) many) (many line (InLoad kind got missing)))
  by_end true = after_stays line line (asked.Call (load_call kind got)) few many h
  by_end false = h line (InLoad kind got missing)

asks_stays : (first line : ℕ) (o : Option Ask) (few many : ℕ → Place → List Request) → AreFronts few many → IsFront (line_by first line o few) (line_by first line o many)
asks_stays first line None few many h = after_stays first line asked.Syntax few many h
asks_stays first line (Some (Makes call)) few many h = after_stays first line (asked.Call call) few many h
asks_stays first line (Some (Loads kind len)) few many h = load_stays line kind [] len few many h

line_stays : (line : ℕ) (j : Joined) (bytes : List ℕ) (few many : ℕ → Place → List Request) → AreFronts few many → IsFront (at_line line j bytes few) (at_line line j bytes many)
unfolding at_line
line_stays line j bytes few many h = by_length (is_long j bytes) (goes_on_by j.words (words_of bytes)) where
  by_length : (long goes : Bool) → IsFront (cond long (then_after j.first line asked.Long few) (line_at_by goes line j bytes few)) (cond long (then_after j.first line asked.Long many) (line_at_by goes line j bytes many))
  by_length true goes = after_stays j.first line asked.Long few many h
  by_length false true = h (line + 1) (InLine (join j bytes) [])
  by_length false false = asks_stays j.first line (ask_of (j.words ++ words_of bytes)) few many h

stays_from : (ended : Bool) (back front : List ℕ) → AreFronts (λ line place. items_from false line place front) (λ line place. items_from ended line place (front ++ back))
unfolding items_from
stays_from ended back [] line place = (items_from ended line place back, refl)
stays_from ended back (b ∷ front) line (InLine j begun) = by_lf (stays_from ended back front) (b == 10) where
  by_lf : AreFronts (λ k place. items_from false k place front) (λ k place. items_from ended k place (front ++ back)) → (lf : Bool)
      → IsFront (cond lf (at_line line j begun (λ k place. items_from false k place front)) (items_from false line (InLine j (begun ++ b ∷ [])) front))
      (cond lf (at_line line j begun (λ k place. items_from ended k place (front ++ back))) (items_from ended line (InLine j (begun ++ b ∷ [])) (front ++ back)))
  by_lf h true = line_stays line j begun (λ k place. items_from false k place front) (λ k place. items_from ended k place (front ++ back)) h
  by_lf h false = h line (InLine j (begun ++ b ∷ []))
stays_from ended back (b ∷ front) line (InLoad kind got missing) = load_stays line kind (got ++ b ∷ []) (missing - 1) (λ k place. items_from false k place front) (λ k place. items_from ended k place (front ++ back)) (stays_from ended back front)

pub stay : ItemsStay
stay ended front back = stays_from ended back front 1 (at_start 1)

-- the first line comes first
first_line : (ended : Bool) (line : ℕ) (j : Joined) (bytes l behind : List ℕ) → line_at bytes ≡ Some (l, behind) → items_from ended line (InLine j []) bytes ≡ at_line line j l (λ i p. items_from ended i p behind)
first_line ended line j bytes l behind h =
    ap (items_from ended line (InLine j [])) (sym (append-nil bytes)) ∙ line_first ended line j [] bytes l behind [] h
    ∙ ap (λ (xs : List ℕ). at_line line j l (λ i p. items_from ended i p xs)) (append-nil behind)

-- the line of a load comes first
begins : (ended : Bool) (line : ℕ) (bytes : List ℕ) (kind : Kind) (len : ℕ) (behind : List ℕ) → BeginsLoad bytes kind len behind → items_from ended line (at_start line) bytes ≡ at_load line kind [] len (λ i p. items_from ended i p behind)
begins ended line bytes kind len behind h =
    first_line ended line (alone line) bytes h.line behind h.first ∙ short_line line h.line (Loads kind len) (λ i p. items_from ended i p behind) h.short h.asks

pub loads : LoadsAreItems
loads ended line kind bytes loaded behind h = begins ended line bytes kind (length loaded) (loaded ++ behind) h ∙ load_whole ended line kind loaded behind (length loaded) refl

pub cuts : CutLoadsAreRefused
cuts line kind len bytes loaded h less = (
  begins false line bytes kind len loaded h ∙ load_short false line kind loaded len less,
  begins true line bytes kind len loaded h ∙ load_short true line kind loaded len less,
)

-- a line goes on in the next
goes_first : (ended : Bool) (line : ℕ) (bytes l behind : List ℕ) → line_at bytes ≡ Some (l, behind) → length l ≤ most_line → goes_on_by [] (words_of l) ≡ true
    → items_from ended line (at_start line) bytes ≡ items_from ended (line + 1) (InLine (join (alone line) l) []) behind
goes_first ended line bytes l behind h short goes =
    first_line ended line (alone line) bytes l behind h ∙ line_goes_on line (alone line) l (λ i p. items_from ended i p behind) short (omega (arith, short)) goes

pub joined : LinesAreJoined
joined ended line bytes one two behind h =
    goes_first ended line bytes one h.rest h.first h.short h.goes_on ∙ first_line ended (line + 1) (join (alone line) one) h.rest two behind h.second
    ∙ last_line_is (line + 1) (join (alone line) one) two (ask_of (but_last (words_of one) ++ words_of two)) (λ i p. items_from ended i p behind) h.short_too (omega (arith, h.short, h.short_too)) h.ends refl

pub cut_joined : CutLinesAreRefused
cut_joined line bytes one h short goes =
    let both = both_of (has_list (words_of one)) (ends_plus (words_of one)) goes in
    goes_first true line bytes one [] h short goes
    ∙ lines_cut (line + 1) (join (alone line) one) (list_some (but_last (words_of one)) (list_joined [] (words_of one) both.0 both.1))
