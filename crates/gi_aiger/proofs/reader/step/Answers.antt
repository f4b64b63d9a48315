use Rattle.gi_aiger.proofs.Fitting.{byte_fits_ok}
use Rattle.gi_aiger.proofs.reader.step.Goals as goal

pub returns-clause-fit : goal.returns-clause-fit
returns-clause-fit c = byte_fits_ok c.take.result c.args.machine.now c.args.byte c.take.new.m c.requires.fit c.take.ensures
