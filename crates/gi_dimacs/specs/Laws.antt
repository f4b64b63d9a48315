-- What holds of the formats.
use Rattle.std.specs.Prelude.{◌≡◌, ℕ, ◌≤◌, List, ◌++◌, length, take, ◌⊎◌}
use Rattle.gi_dimacs.specs.declared.fault.CnfFault.{CnfFault}
use Rattle.gi_dimacs.specs.declared.cnf.Cnf.{Cnf}
use Rattle.gi_dimacs.specs.declared.cnf.Icnf.{Icnf}
use Rattle.gi_dimacs.specs.declared.content.Format.{Format}
use Rattle.gi_dimacs.specs.Lines.{lines_of, text_of}
use Rattle.gi_dimacs.specs.Content.{File, format_of}
use Rattle.gi_dimacs.specs.Relation.{IsFile, IsCnf, IsIcnf}
use Rattle.gi_dimacs.specs.Answers.{HasNone, IsFault}
use Rattle.gi_dimacs.specs.Texts.{IsGood, IsGoodIcnf, cnf_text, icnf_text}

-- exactly one value, and no fault
pub record HasValue (format : Format) (bytes : List ℕ) : Type 0 where
  pub value : File
  pub of_format : format_of value.content ≡ format
  pub stands : IsFile value bytes
  pub only : (f : File) → format_of f.content ≡ format → IsFile f bytes → f ≡ value
  pub no_fault : (fault : CnfFault) → IsFault format fault bytes → ⊥

-- exactly one fault, and no value
pub record HasFault (format : Format) (bytes : List ℕ) : Type 0 where
  pub fault : CnfFault
  pub stands : IsFault format fault bytes
  pub only : (other : CnfFault) → IsFault format other bytes → other ≡ fault
  pub no_value : HasNone format bytes

-- each list of bytes has exactly one of the two
abbrev pub OneAnswer : Type 0
OneAnswer = (format : Format) (bytes : List ℕ) → HasValue format bytes ⊎ HasFault format bytes

-- a fault at a line of the input is the fault, however the input goes on behind that line
abbrev pub FaultsStand : Type 0
FaultsStand = (format : Format) (bytes more : List ℕ) (f : CnfFault) → IsFault format f bytes
    → f.line ≤ length (lines_of bytes)
    → IsFault format f (text_of (take f.line (lines_of bytes)) ++ more)

-- the good values are those that some bytes have, and their text is such
pub record GoodValues : Type 0 where
  pub have_text : (v : Cnf) → IsGood v → IsCnf v (cnf_text v)
  pub only : (v : Cnf) (bytes : List ℕ) → IsCnf v bytes → IsGood v
  pub have_icnf_text : (v : Icnf) → IsGoodIcnf v → IsIcnf v (icnf_text v)
  pub only_icnf : (v : Icnf) (bytes : List ℕ) → IsIcnf v bytes → IsGoodIcnf v
