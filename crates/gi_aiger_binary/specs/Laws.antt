-- What holds of the binary form.
use Rattle.std.specs.Prelude.{◌≡◌, Ok}
use Rattle.gi_aiger.specs.declared.aig.Aig.{Aig}
use Rattle.gi_aiger.specs.Answers.{Answer}
use Rattle.gi_aiger.specs.Files.{read_file}
use Rattle.gi_aiger.specs.Good.{IsGood}
use Rattle.gi_aiger.specs.Relation.{IsAig, IsBinary}
use Rattle.gi_aiger_binary.specs.Numbered.{IsNumbered, IsInLimits}
use Rattle.gi_aiger_binary.specs.Renumbering.{in_order, number_in, numbered_anew, variables_of}
use Rattle.gi_aiger_binary.specs.Meaning.{MeansTheSame}
use Rattle.gi_aiger_binary.specs.Sound.{IsReadable, IsWritable}
use Rattle.gi_aiger_binary.specs.Texts.{binary_text}
use Rattle.gi_aiger_binary.specs.Written.{written}

-- a sound value is numbered anew as the binary form wants it, within the limits
abbrev pub ValuesAreNumbered : Type 0
ValuesAreNumbered = (v : Aig) → IsWritable v → IsReadable v
    → IsNumbered (numbered_anew v) × IsInLimits (numbered_anew v)

-- the text of a numbered value is read as that value
abbrev pub TextsAreReadBack : Type 0
TextsAreReadBack = (w : Aig) → IsNumbered w → IsInLimits w
    → Answer (read_file (binary_text w)) (Ok w)

-- it is a file of the binary form that says the value
abbrev pub TextsSayTheirValue : Type 0
TextsSayTheirValue = (w : Aig) → IsNumbered w → IsInLimits w → IsBinary w (binary_text w)

-- a value that was numbered anew keeps its numbers: so what is read from its text is written as the
-- same text again
abbrev pub NumbersStay : Type 0
NumbersStay = (v : Aig) → IsWritable v → IsReadable v
    → numbered_anew (numbered_anew v) ≡ numbered_anew v

-- what a file says, written, read and written again is the same bytes
abbrev pub WrittenAgain : Type 0
WrittenAgain = (v u : Aig) → IsGood v → IsAig u (written v) → written u ≡ written v

-- a value that some file says can be written, and is sound
abbrev pub GoodIsWritable : Type 0
GoodIsWritable = (v : Aig) → IsGood v → IsWritable v × IsReadable v

-- a sound value, numbered anew, is a value that a file says: what is written of it is a file of the
-- binary form that says it
abbrev pub NumberedIsGood : Type 0
NumberedIsGood = (v : Aig) → IsWritable v → IsReadable v
    → IsGood (numbered_anew v) × IsBinary (numbered_anew v) (written v)

-- a value, numbered anew, means the same
abbrev pub MeaningStays : Type 0
MeaningStays = (v : Aig) → IsWritable v
    → MeansTheSame (number_in (variables_of v (in_order v.gates))) v (numbered_anew v)
