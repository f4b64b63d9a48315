use Rattle.std.proofs.Common.{sym, ◌∙◌, arith}
use Rattle.gi_wire.proofs.Spelled.{natural_none, natural_of}
use Rattle.gi_wire.proofs.told.read_natural.Goals as goal

pub returns-in-Some-clause-value : goal.returns-in-Some-clause-value
returns-in-Some-clause-value c = c.keep_within.ensures.value ∙ natural_of c.args.least c.args.most c.in-Some.n c.args.field.now (omega arith) c.in-Some.ensures.found

pub returns-in-None-clause-value : goal.returns-in-None-clause-value
returns-in-None-clause-value c = sym (natural_none c.args.least c.args.most c.args.field.now (omega arith) c.in-None.ensures.none)
