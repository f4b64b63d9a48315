use Rattle.std.proofs.Common.{◌≡◌, ap, Ok}
use Rattle.std.specs.Prelude.{Result}
use Rattle.gi_aiger.specs.declared.aig.Aig.{Aig}
use Rattle.gi_aiger.specs.declared.fault.AigFault.{AigFault}
use Rattle.gi_aiger.specs.Files.{read_file}
use Rattle.gi_aiger.specs.Texts.{ascii_text}
use Rattle.gi_aiger.proofs.Accepting.{ascii_read}
use Rattle.gi_aiger.proofs.Printing.{good_ascii}
use Rattle.gi_aiger.proofs.Deserving.{said_good}
use Rattle.gi_aiger.proofs.laws.written_is_read.Goals as goal

pub returns-clause-said : goal.returns-clause-said
returns-clause-said c = good_ascii

pub returns-clause-read : goal.returns-clause-read
returns-clause-read c = λ v good. ascii_read v (ascii_text v) (good_ascii v good)

one_value : (v w : Aig) (r : Result Aig AigFault) → r ≡ Ok v → r ≡ Ok w → w ≡ v
one_value v w r a b = cc

pub returns-clause-again : goal.returns-clause-again
returns-clause-again c = λ v w bytes is e. ap ascii_text (one_value v w (read_file (ascii_text v)).read (ascii_read v (ascii_text v) (good_ascii v (said_good v bytes is))) e)
