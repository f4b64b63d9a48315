use Rattle.std.proofs.Common.{sym}
use Rattle.gi_reference.proofs.Deciding.{no, yes, not_so}
use Rattle.gi_reference.proofs.machine.Plain.step.Goals as goal

pub returns-then-not-allowed-clause-allowed : goal.returns-then-not-allowed-clause-allowed
returns-then-not-allowed-clause-allowed c = no (not_so c.in_ok-allowed.allowed c.in_ok-allowed.ensures (sym c.if-not-allowed.true))

pub returns-clause-allowed : goal.returns-clause-allowed
returns-clause-allowed c = yes (c.in_ok-allowed.ensures.0 c.if-not-allowed.false)
