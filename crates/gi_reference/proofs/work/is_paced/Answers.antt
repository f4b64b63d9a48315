use Rattle.std.proofs.Common.{◌+◌}
use Rattle.gi_reference.proofs.Working.{paced_decides}
use Rattle.gi_reference.proofs.work.is_paced.Goals as goal

pub returns : goal.returns
returns c = paced_decides (c.args.place + 1) c.luby.result c.args.news.now c.is_at_most.result c.luby.ensures c.is_at_most.ensures
