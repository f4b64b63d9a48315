use Rattle.gi_wire.proofs.Joining.{found_alone, later_found}
use Rattle.gi_wire.proofs.begun.Begun.find_plus.Goals as goal

pub returns-then-is_empty : goal.returns-then-is_empty
returns-then-is_empty c = found_alone c.find_first_plus.result c.args.self.now.words c.args.line.now (c.is_empty.ensures.none.0 c.if-is_empty.true) c.find_first_plus.ensures

pub returns : goal.returns
returns c = later_found c.plus_at.result c.args.self.now.words c.args.line.now (c.is_empty.ensures.list c.if-is_empty.false) c.plus_at.ensures
