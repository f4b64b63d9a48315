use Rattle.std.proofs.Common.{ℕ, ◌<◌, ◌≤◌, ◌/◌, get_or}
use Rattle.gi_cdcl.proofs.decide.unassign.Given as goal

abbrev pub invariant-loop-place : goal.invariant-loop-place
invariant-loop-place l = (k : ℕ) → l.fn.start ≤ k → k < l.place → l.least ≤ get_or l.trail.lits k 0 / 2
