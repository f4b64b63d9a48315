use Rattle.gi_aiger_binary.proofs.ReadBack.{answered}
use Rattle.gi_aiger_binary.proofs.Saying.{text_said}
use Rattle.gi_aiger_binary.proofs.laws.texts_are_read_back.Goals as goal

pub returns-clause-read : goal.returns-clause-read
returns-clause-read c = answered

pub returns-clause-said : goal.returns-clause-said
returns-clause-said c = text_said
