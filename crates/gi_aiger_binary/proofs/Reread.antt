-- The text of a value that was numbered anew is read as that value.
use Rattle.std.proofs.Common.{Ok, inr}
use Rattle.gi_aiger.specs.declared.aig.Aig.{Aig}
use Rattle.gi_aiger.specs.Answers.{Answer}
use Rattle.gi_aiger.specs.Files.{read_file}
use Rattle.gi_aiger.specs.Good.{IsGood}
use Rattle.gi_aiger.specs.Relation.{IsBinary}
use Rattle.gi_aiger.proofs.Deserving.{said_good}
use Rattle.gi_aiger_binary.specs.Numbered.{IsNumbered, IsInLimits}
use Rattle.gi_aiger_binary.specs.Renumbering.{in_order, numbered_anew}
use Rattle.gi_aiger_binary.specs.Sound.{IsReadable, IsWritable}
use Rattle.gi_aiger_binary.specs.Written.{written}
use Rattle.gi_aiger_binary.proofs.InOrder.{ordered_is}
use Rattle.gi_aiger_binary.proofs.Numberings.{is_numbered, is_in_limits}
use Rattle.gi_aiger_binary.proofs.ReadBack.{answered}
use Rattle.gi_aiger_binary.proofs.Saying.{text_said}

pub numbered_well : (v : Aig) → IsWritable v → IsReadable v → IsNumbered (numbered_anew v) × IsInLimits (numbered_anew v)
numbered_well v w sound =
    let o = ordered_is v.gates w.apart w.levels in
    (is_numbered v (in_order v.gates) o sound, is_in_limits v (in_order v.gates) o sound)

pub written_read : (v : Aig) → IsWritable v → IsReadable v → Answer (read_file (written v)) (Ok (numbered_anew v))
written_read v w sound = let g = numbered_well v w sound in answered (numbered_anew v) g.0 g.1

pub written_said : (v : Aig) → IsWritable v → IsReadable v → IsBinary (numbered_anew v) (written v)
written_said v w sound = let g = numbered_well v w sound in text_said (numbered_anew v) g.0 g.1

pub numbered_good : (v : Aig) → IsWritable v → IsReadable v → IsGood (numbered_anew v) × IsBinary (numbered_anew v) (written v)
numbered_good v w sound = let said = written_said v w sound in (said_good (numbered_anew v) (written v) (inr said), said)
