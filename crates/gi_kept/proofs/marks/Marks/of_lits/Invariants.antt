use Rattle.std.proofs.Common.{◌≡◌, ◌+◌, ◌*◌, length, take}
use Rattle.gi_lit.specs.Problem.{top}
use Rattle.gi_kept.specs.Marks.{AreMarked}
use Rattle.gi_kept.proofs.marks.Marks.of_lits.Given as goal

abbrev pub invariant-loop-l : goal.invariant-loop-l
invariant-loop-l l = record { marked : AreMarked l.marks (take l.l-index l.lits); size : length l.marks ≡ 2 * top l.lits + 2 }
