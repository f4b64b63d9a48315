use Rattle.gi_run.proofs.Hosting.{has_hosted}
use Rattle.gi_run.proofs.serving.host.Goals as goal

pub returns-clause-has : goal.returns-clause-has
returns-clause-has g c = has_hosted _ _ c.args.pass c.host_one.result.pass c.host_one.result.how c.host_one.ensures.hosts c.too_much_is_a_quarter.ensures
