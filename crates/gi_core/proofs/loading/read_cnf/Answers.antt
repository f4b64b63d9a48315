use Rattle.std.proofs.Common.{[]}
use Rattle.gi_core.proofs.loading.read_cnf.Goals as goal

pub returns-in-Ok : goal.returns-in-Ok
returns-in-Ok c = c.finish.ensures.read c.args.bytes.now (c.in-Ok.ensures.ok [] c.new-reader.ensures.nothing)
