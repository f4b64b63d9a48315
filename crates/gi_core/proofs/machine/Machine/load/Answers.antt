use Rattle.gi_core.proofs.Filing.{moves_fault, moves_unread}
use Rattle.gi_core.proofs.machine.Machine.load.Goals as goal

pub take_file-requires-clause-good : goal.take_file-requires-clause-good
take_file-requires-clause-good c = c.good_values.ensures.only c.in-Value.file c.args.bytes.now c.in-Value.ensures

pub returns-in-Value : goal.returns-in-Value
returns-in-Value c = c.take_file.ensures c.args.bytes.now c.in-Value.ensures c.requires.fits c.requires.free

pub returns-in-Fault : goal.returns-in-Fault
returns-in-Fault c = rw c.refusal_of_fault.ensures (moves_fault c.args.self.now c.args.bytes.now c.in-Fault.fault c.requires.whole.kept c.requires.fits c.requires.free c.in-Fault.ensures)

pub returns-in-NoMemory : goal.returns-in-NoMemory
returns-in-NoMemory c = moves_unread c.args.self.now c.die.new.self c.args.bytes.now c.die.result c.requires.fits c.requires.free c.die.ensures.value c.die.ensures.state c.die.ensures.blank
