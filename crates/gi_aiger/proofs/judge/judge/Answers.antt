use Rattle.std.proofs.Common.{◌≡◌, ℕ, ◌+◌, List, inr, Err, ap, subst}
use Rattle.gi_aiger.specs.declared.aig.AndGate.{AndGate}
use Rattle.gi_aiger.specs.declared.machine.Machine.{Machine}
use Rattle.gi_aiger.specs.declared.phase.Phase.{Phase}
use Rattle.gi_aiger.specs.declared.phase.Phase.TheVariants.{Heading, Rows, Gates, Naming, Comment, Failed}
use Rattle.gi_aiger.specs.declared.read.AigRead.{AigRead}
use Rattle.gi_aiger.specs.declared.read.AigRead.TheVariants as reads
use Rattle.gi_aiger.specs.Answers.{IsCycleAt, TellsAig}
use Rattle.gi_aiger.specs.Files.{Told, gates_line}
use Rattle.gi_aiger.specs.Levels.{ClosesCycle, IsDistinct}
use Rattle.gi_aiger.specs.Machine.{answer_of}
use Rattle.gi_aiger.proofs.judge.judge.Goals as goal

tells : (r : AigRead) (told : Told) (k : ℕ) → IsCycleAt r (told.first + k) → ClosesCycle told.gates k → TellsAig r told
tells (reads.Aig v) told k at closes = absurd at
tells (reads.Fault f) told k at closes = inr (k, closes, ap Err at)
tells reads.NoMemory told k at closes = tt

-- whatever the phase, the gates that stand are those that were taken
cycle_tells : (p : Phase) (m : Machine) (r : AigRead) (k : ℕ) → IsCycleAt r (gates_line m.taken + k) → (IsDistinct m.taken.gates → ClosesCycle m.taken.gates k) → IsDistinct (answer_of p m).gates → TellsAig r (answer_of p m)
cycle_tells Heading m r k at closes d = tells r (answer_of Heading m) k at (closes d)
cycle_tells (Rows s) m r k at closes d = tells r (answer_of (Rows s) m) k at (closes d)
cycle_tells (Gates g) m r k at closes d = tells r (answer_of (Gates g) m) k at (closes d)
cycle_tells Naming m r k at closes d = tells r (answer_of Naming m) k at (closes d)
cycle_tells Comment m r k at closes d = tells r (answer_of Comment m) k at (closes d)
cycle_tells (Failed g c) m r k at closes d = tells r (answer_of (Failed g c) m) k at (closes d)

pub returns-in-Ok-Some : goal.returns-in-Ok-Some
returns-in-Ok-Some c =
    cycle_tells c.args.machine.phase c.args.machine c.cycle_at.result c.in-Ok-Some.place c.cycle_at.ensures
    (subst (λ (gs : List AndGate). IsDistinct gs → ClosesCycle gs c.in-Ok-Some.place) c.as_slice.ensures (λ e. rw c.in-Ok-Some.field-0-is at (c.in-Ok-Some.ensures.cycle e)))
