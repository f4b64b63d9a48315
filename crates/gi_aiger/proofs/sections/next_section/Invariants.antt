use Rattle.std.proofs.Common.{◌≡◌, ◌∷◌, length}
use Rattle.gi_aiger.specs.Sections.{behind, first_left, from_next}
use Rattle.gi_aiger.proofs.sections.next_section.Given as goal

abbrev pub invariant-sections : goal.invariant-sections
invariant-sections l = first_left l.head l.taken (l.fn.section ∷ behind l.fn.head.form l.fn.section) ≡ first_left l.head l.taken (from_next l.head.form l.here)

abbrev pub decreases-sections : goal.decreases-sections
decreases-sections l = length (from_next l.head.form l.here)
