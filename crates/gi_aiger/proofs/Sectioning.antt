-- The first section with lines to come, looked for from one section on.
use Rattle.std.proofs.Common.{◌≡◌, ◌≢◌, Option, Some, None, refl, ap, ◌∙◌}
use Rattle.std.proofs.lemmas.Bool.{ne_eqb}
use Rattle.gi_aiger.specs.declared.head.Head.{Head}
use Rattle.gi_aiger.specs.declared.taken.Taken.{Taken}
use Rattle.gi_aiger.specs.declared.head.Form.{Form}
use Rattle.gi_aiger.specs.declared.head.Form.TheVariants.{Ascii, Binary}
use Rattle.gi_aiger.specs.declared.row.Section.{Section}
use Rattle.gi_aiger.specs.declared.row.Section.TheVariants.{Input, Latch, Out, Bad, Con, Size, Justice, Fair, Gate}
use Rattle.gi_aiger.specs.Sections.{behind, next_of, from_next, left_in, first_left}

pub behind_is : (form : Form) (s : Section) → behind form s ≡ from_next form (next_of form s)
behind_is form Input = refl
behind_is form Latch = refl
behind_is form Out = refl
behind_is form Bad = refl
behind_is form Con = refl
behind_is form Size = refl
behind_is form Justice = refl
behind_is Ascii Fair = refl
behind_is Binary Fair = refl
behind_is form Gate = refl

pub found : (h : Head) (t : Taken) (form : Form) (here : Option Section) (s : Section) → here ≡ Some s → left_in h t s ≢ 0 → first_left h t (from_next form here) ≡ Some s
unfolding first_left
found h t form here s is some = ap (λ o. first_left h t (from_next form o)) is ∙ rw (ne_eqb (left_in h t s) 0 some) refl

pub passes : (h : Head) (t : Taken) (form : Form) (here : Option Section) (s : Section) → here ≡ Some s → left_in h t s ≡ 0 → first_left h t (from_next form here) ≡ first_left h t (from_next form (next_of form s))
unfolding first_left
passes h t form here s is none = ap (λ o. first_left h t (from_next form o)) is ∙ rw none (ap (first_left h t) (behind_is form s))

pub finds_none : (h : Head) (t : Taken) (form : Form) (here : Option Section) → here ≡ None → first_left h t (from_next form here) ≡ None
unfolding first_left
finds_none h t form here is = ap (λ o. first_left h t (from_next form o)) is
