use Rattle.gi_host.proofs.Hosting.{hosted_by}
use Rattle.gi_host.proofs.host.host_with_worker.Goals as goal

pub returns : goal.returns
returns g c = hosted_by _ _ c.args.pass c.split-spare.new.pass c.split-spare.result c.split-worker.new.pass c.split-worker.result _ c.serve_and_help-how.new.worker c.join.new.into _
    c.split-spare.ensures.left c.split-spare.ensures.right c.split-worker.ensures.left c.split-worker.ensures.right
    c.serve_and_help-how.ensures.closes c.serve_and_help-how.ensures.helps c.join.ensures c.knows.ensures.own
    c.knows-2.ensures.legal c.knows-2.ensures.causes c.sole_again.ensures.splits c.sole_again.ensures.joins c.sole_again.ensures.none
