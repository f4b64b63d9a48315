use Rattle.std.proofs.Common.{refl}
use Rattle.gi_run.proofs.starting.run_opened.Goals as goal

pub returns-in-Ok : goal.returns-in-Ok
returns-in-Ok g c = rw c.in-Ok.is (c.run-outcome.result.pass, c.run-outcome.ensures.does)

pub returns-in-Err : goal.returns-in-Err
returns-in-Err g c = rw (c.in-Err.is, c.end_with.ensures) (refl, record { link = refl; none = refl })
