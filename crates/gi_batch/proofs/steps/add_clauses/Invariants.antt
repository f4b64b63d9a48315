use Rattle.std.proofs.Common.{◌≡◌, ℕ, ◌++◌, map}
use Rattle.std.specs.Vec.Iter.{into_iter_items}
use Rattle.gi_outside.specs.World.{World}
use Rattle.gi_net.specs.Leads.{Leads}
use Rattle.gi_batch.specs.declared.answer.Answer.{Answer}
use Rattle.gi_batch.specs.Steps.{Clause}
use Rattle.gi_batch.specs.Done.{IsDone}
use Rattle.gi_batch.proofs.steps.add_clauses.Given as goal

abbrev pub invariant-loop-clause : goal.invariant-loop-clause
invariant-loop-clause g l = record {
  split : l.yielded ++ into_iter_items l.clause-iterator ≡ l.fn.clauses;
  led : Leads g.C.Caller.kept l.fn.caller l.caller;
  done : (budget : ℕ) (v : World) (before : Answer) → IsDone budget (map Clause l.yielded) v v (g.C.Caller.standing l.fn.caller) (g.C.Caller.standing l.caller) before before;
}
