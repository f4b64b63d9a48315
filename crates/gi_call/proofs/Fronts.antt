-- The line in front.
use Rattle.std.proofs.Common.{◌≡◌, ◌<◌, ℕ, ◌+◌, length, inl, inr, List, take, drop, Option, Some, None, IsSome, refl, ap, sym, ◌∙◌, subst, arith}
use Rattle.std.proofs.lemmas.List.{take_all}
use Rattle.gi_text.specs.Given.{IsLine}
use Rattle.gi_text.specs.Lines.{GivesLine, Kept, line_at}
use Rattle.gi_call.specs.Exchanged.{IsWhole, before_lf, first_line}

-- a line that ends at its LF is the first line
pub first_some : (bytes line rest : List ℕ) → line_at bytes ≡ Some (line, rest) → first_line bytes ≡ line
first_some bytes line rest e = ap (before_lf bytes) e

pub first_none : (bytes : List ℕ) → line_at bytes ≡ None → first_line bytes ≡ bytes
first_none bytes e = ap (before_lf bytes) e

is_some : (o : Option (List ℕ × List ℕ)) (p : List ℕ × List ℕ) → o ≡ Some p → IsSome o
is_some o p e = subst IsSome (sym e) refl

-- a whole line of n bytes
pub line_first : (n : ℕ) (held : Kept) → IsLine n held → first_line held.left ≡ take n held.left
line_first n held l = elim l.ends [
  | inl h ↦ first_some held.left (take n held.left) (drop (n + 1) held.left) h.1
  | inr h ↦ first_none held.left h.0 ∙ sym (take_all n held.left (omega (arith, h.3)))
]

pub line_whole : (n : ℕ) (held : Kept) → IsLine n held → IsWhole held.ended held.left
line_whole n held l = elim l.ends [
  | inl h ↦ inl (is_some (line_at held.left) (take n held.left, drop (n + 1) held.left) h.1)
  | inr h ↦ inr (h.1, omega (arith, h.2, h.3))
]

-- a line that is given is the first line
pub given_first : (line : List ℕ) (old new : Kept) → GivesLine line old new → first_line old.left ≡ line
given_first line old new g = elim g.line_is [
  | inl e ↦ first_some old.left line new.left e
  | inr h ↦ first_none old.left h.0 ∙ sym h.3
]

-- some bytes are there
pub line_some : (n : ℕ) (held : Kept) → IsLine n held → 0 < length held.left
line_some n held l = elim l.ends [ inl h ↦ omega (arith, h.0) | inr h ↦ omega (arith, h.2, h.3) ]
