use Rattle.gi_aiger.proofs.Fitting.{line_fits_ok}
use Rattle.gi_aiger.proofs.machine.end_last.Goals as goal

pub returns-clause-fit : goal.returns-clause-fit
returns-clause-fit c = line_fits_ok c.end_line.result c.args.m.now c.end_line.new.m c.requires.fit c.end_line.ensures
