use Rattle.std.proofs.Common.{ℕ, ◌≤◌, ◌/◌, List, take}
use Rattle.std.specs.List.{All}
use Rattle.gi_reference.proofs.truth.top_of.Given as goal

abbrev pub invariant-loop-clause : goal.invariant-loop-clause
invariant-loop-clause l = record { low : l.start ≤ l.most; each : All (λ (c : List ℕ). All (λ m. m / 2 ≤ l.most) c) (take l.clause-index l.clauses) }
