-- What the commands over a whole input do.
use Rattle.std.specs.Prelude.{◌≡◌, ℕ, ◌⊎◌, List}
use Rattle.gi_outside.specs.Link.{Rose}
use Rattle.gi_outside.specs.World.{World, Wrote, WroteCut}
use Rattle.gi_dimacs.specs.Answers.{IsFault}
use Rattle.gi_dimacs.specs.Relation.{IsCnf, IsIcnf}
use Rattle.gi_dimacs.specs.Texts.{cnf_text, icnf_text}
use Rattle.gi_dimacs.specs.declared.cnf.Cnf.{Cnf}
use Rattle.gi_dimacs.specs.declared.cnf.Icnf.{Icnf}
use Rattle.gi_dimacs.specs.declared.fault.CnfFault.{CnfFault}
use Rattle.gi_dimacs.specs.declared.content.Format.{Format}
use Rattle.gi_dimacs.specs.declared.content.Format.TheVariants as formats
use Rattle.gi_files.specs.declared.command.Command.{Command}
use Rattle.gi_files.specs.declared.command.Command.TheVariants.{Check, Convert}
use Rattle.gi_files.specs.declared.form.Form.{Form}
use Rattle.gi_files.specs.declared.form.Form.TheVariants as forms
use Rattle.gi_files.specs.declared.commands.Done.{Done}
use Rattle.gi_files.specs.declared.commands.Done.TheVariants as done
use Rattle.gi_files.specs.Input.{AreBounded, AreTooMany, Gave, IsAll}
use Rattle.gi_files.specs.Texts.{cnf_counts, icnf_counts, refused_text}

-- what a command prints of an accepted file: its counts, or its canonical text
abbrev pub cnf_output : Command → Cnf → List ℕ
cnf_output Check v = cnf_counts v
cnf_output Convert v = cnf_text v

abbrev pub icnf_output : Command → Icnf → List ℕ
icnf_output Check v = icnf_counts v
icnf_output Convert v = icnf_text v

-- the bytes have a value, whose output is this text
abbrev pub Accepts : Command → Form → List ℕ → List ℕ → Type 0
Accepts command forms.Cnf bytes text = (v : Cnf) × IsCnf v bytes × (text ≡ cnf_output command v)
Accepts command forms.Icnf bytes text = (v : Icnf) × IsIcnf v bytes × (text ≡ icnf_output command v)

abbrev pub format_of : Form → Format
format_of forms.Cnf = formats.Cnf
format_of forms.Icnf = formats.Icnf

-- the bytes have a fault, whose refusal is this text
abbrev pub Refuses : Form → List ℕ → List ℕ → Type 0
Refuses form bytes text = (fault : CnfFault) × IsFault (format_of form) fault bytes
    × (text ≡ refused_text fault)

-- How a command ends: the link as it was, as it was when the bytes had come, and as it is.
abbrev pub CommandEnds : Done → Command → Form → World → World → World → List ℕ → Type 0
CommandEnds done.Accepted command form old mid new bytes = (text : List ℕ) × IsAll old mid bytes
    × Accepts command form bytes text × Wrote mid new text
CommandEnds (done.Refused fault) command form old mid new bytes = IsAll old mid bytes
    × IsFault (format_of form) fault bytes × Wrote mid new (refused_text fault)
CommandEnds done.WriteFault command form old mid new bytes = (text : List ℕ) × IsAll old mid bytes
    × (Accepts command form bytes text ⊎ Refuses form bytes text) × WroteCut mid new text
CommandEnds done.NoMemory command form old mid new bytes = new ≡ mid
CommandEnds done.ReadFault command form old mid new bytes = Rose old.failed_reads mid.failed_reads
    × (new ≡ mid)
CommandEnds done.TooMuch command form old mid new bytes = AreTooMany bytes × (new ≡ mid)

-- a command over an input: bytes came, and then the output for them was written
pub record Does (command : Command) (form : Form) (answer : Done) (old new : World) : Type 0 where
  pub bytes : List ℕ
  -- the link when the bytes had come
  pub mid : World
  pub gave : Gave old mid bytes
  pub bounded : AreBounded bytes
  pub ends : CommandEnds answer command form old mid new bytes
