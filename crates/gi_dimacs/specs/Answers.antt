-- What a reader answers of all bytes that it was fed.
use Rattle.std.specs.Prelude.{◌≡◌, ℕ, ◌≤◌, List, ◌++◌, length, take, Result, Ok, Err}
use Rattle.gi_dimacs.specs.declared.fault.CnfFault.{CnfFault}
use Rattle.gi_dimacs.specs.declared.content.Format.{Format}
use Rattle.gi_dimacs.specs.declared.content.Format.TheVariants as formats
use Rattle.gi_dimacs.specs.declared.reader.Outcome.{Outcome}
use Rattle.gi_dimacs.specs.declared.reader.Outcome.TheVariants as outcomes
use Rattle.gi_dimacs.specs.declared.cnf.Cnf.{Cnf}
use Rattle.gi_dimacs.specs.declared.cnf.Icnf.{Icnf}
use Rattle.gi_dimacs.specs.declared.readers.FileRead.{FileRead}
use Rattle.gi_dimacs.specs.declared.readers.FileRead.TheVariants as read
use Rattle.gi_dimacs.specs.Lines.{lines_of, text_of}
use Rattle.gi_dimacs.specs.Content.{File, format_of}
use Rattle.gi_dimacs.specs.Files.{read_file}
use Rattle.gi_dimacs.specs.Relation.{IsFile}
use Rattle.gi_dimacs.specs.Texts.{cnf_file, icnf_file}

-- what was read, unless memory ran out
abbrev pub TellsCnf : Outcome → Result File CnfFault → Type 0
TellsCnf (outcomes.File vars content) read = read ≡ Ok (record { vars = vars; content = content })
TellsCnf (outcomes.Fault fault) read = read ≡ Err fault
TellsCnf outcomes.NoMemory read = Unit {0}

-- no value of the format has the bytes
abbrev pub HasNone : Format → List ℕ → Type 0
HasNone format bytes = (f : File) → format_of f.content ≡ format → IsFile f bytes → ⊥

-- the bytes have this fault, and no value
pub record IsFault (format : Format) (fault : CnfFault) (bytes : List ℕ) : Type 0 where
  pub first : read_file format bytes ≡ Err fault
  pub none : HasNone format bytes
  -- a fault at a line of the input: no value has bytes that begin with the lines up to that one
  pub stands : fault.line ≤ length (lines_of bytes) → (more : List ℕ)
      → HasNone format (text_of (take fault.line (lines_of bytes)) ++ more)

-- the answer is the value of the bytes, as what a file says, or their fault
abbrev pub AnswersFile : {V : Type 0} → Format → (V → File) → FileRead V → List ℕ → Type 0
AnswersFile format file (read.Value v) bytes = IsFile (file v) bytes
AnswersFile format file (read.Fault fault) bytes = IsFault format fault bytes
AnswersFile format file read.NoMemory bytes = Unit {0}

abbrev pub AnswersCnf : FileRead Cnf → List ℕ → Type 0
AnswersCnf answer bytes = AnswersFile formats.Cnf cnf_file answer bytes

abbrev pub AnswersIcnf : FileRead Icnf → List ℕ → Type 0
AnswersIcnf answer bytes = AnswersFile formats.Icnf icnf_file answer bytes
