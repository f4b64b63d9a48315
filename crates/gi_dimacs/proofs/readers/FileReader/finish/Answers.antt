use Rattle.std.proofs.Common.{subst, sym}
use Rattle.gi_dimacs.specs.Reader.{HasRead}
use Rattle.gi_dimacs.proofs.Relating.{is_file}
use Rattle.gi_dimacs.proofs.Ends.{told_value, is_fault}
use Rattle.gi_dimacs.proofs.readers.FileReader.finish.Goals as goal

pub returns-in-Some-clause-read : goal.returns-in-Some-clause-read
returns-in-Some-clause-read g c = λ bytes has.
    let format = g.V.FileValue.format in
    told_value format bytes g.V.FileValue.file c.in-Some.value _ c.in-Some.ensures.some (c.in-File.ensures.read format bytes (subst (λ r. HasRead format r bytes) (sym c.self.view_is) has))

pub returns-in-Fault-clause-read : goal.returns-in-Fault-clause-read
returns-in-Fault-clause-read g c = λ bytes has.
    let format = g.V.FileValue.format in
    is_fault format bytes c.in-Fault.fault (c.in-Fault.ensures.read format bytes (subst (λ r. HasRead format r bytes) (sym c.self.view_is) has))

-- never: what is read is of the format
pub returns-in-None-clause-memory : goal.returns-in-None-clause-memory
returns-in-None-clause-memory g c = λ bytes has none.
    let format = g.V.FileValue.format in
    absurd (c.in-None.ensures.none (is_file format bytes _ (c.in-File.ensures.read format bytes (subst (λ r. HasRead format r bytes) (sym c.self.view_is) has))).of_format)
