use Rattle.gi_host.proofs.Hosting.{hosted_alone, own_alone}
use Rattle.gi_host.proofs.host.host_alone.Goals as goal

pub returns-clause-hosts : goal.returns-clause-hosts
returns-clause-hosts g c = hosted_alone _ _ c.args.pass _ c.shut_behind.new.pass _ c.serve_one-how.ensures c.shut_behind.ensures c.knows.ensures.causes c.knows.ensures.legal

pub returns-clause-own : goal.returns-clause-own
returns-clause-own g c = own_alone _ _ c.args.pass _ c.shut_behind.new.pass _ c.serve_one-how.ensures c.shut_behind.ensures c.knows.ensures.causes
