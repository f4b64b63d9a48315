use Rattle.std.proofs.Common.{take}
use Rattle.std.specs.List.{flat_map}
use Rattle.gi_net.specs.Leads.{Leads}
use Rattle.gi_batch.specs.declared.answer.Answer.TheVariants as answers
use Rattle.gi_batch.specs.Steps.{item_steps}
use Rattle.gi_batch.specs.Done.{IsDone}
use Rattle.gi_batch.proofs.steps.solve_icnf.Given as goal

abbrev pub invariant-loop-item : goal.invariant-loop-item
invariant-loop-item g l = Leads g.C.Caller.kept l.fn.caller l.caller × IsDone l.budget (flat_map item_steps (take l.item-index l.icnf.items)) (g.L.Link.state l.fn.user) (g.L.Link.state l.user) (g.C.Caller.standing l.fn.caller) (g.C.Caller.standing l.caller) answers.Unknown l.last
