-- What a command does, from its reading and its printing.
use Rattle.std.proofs.Common.{ℕ, List, inl, inr, refl, subst, sym}
use Rattle.gi_outside.specs.World.{World, Wrote}
use Rattle.gi_dimacs.specs.Answers.{IsFault}
use Rattle.gi_dimacs.specs.declared.fault.CnfFault.{CnfFault}
use Rattle.gi_files.specs.declared.command.Command.{Command}
use Rattle.gi_files.specs.declared.form.Form.{Form}
use Rattle.gi_files.specs.declared.commands.Done.{Done}
use Rattle.gi_files.specs.declared.commands.Done.TheVariants as done
use Rattle.gi_files.specs.Input.{AreBounded, Gave, IsAll}
use Rattle.gi_files.specs.Texts.{refused_text}
use Rattle.gi_files.specs.Commands.{Accepts, Does, format_of}
use Rattle.gi_files.specs.Printing.{Prints, PrintsRefusal}

-- the input has a value, and its output was printed
pub accepted : (command : Command) (form : Form) (by : Done) (old mid new : World) (bytes text : List ℕ)
    → Gave old mid bytes → AreBounded bytes → IsAll old mid bytes → Accepts command form bytes text → Prints by text mid new → Does command form by old new
accepted command form done.Accepted old mid new bytes text gave few all is printed = record { bytes = bytes; mid = mid; gave = gave; bounded = few; ends = (text, all, is, printed) }
accepted command form done.WriteFault old mid new bytes text gave few all is printed = record { bytes = bytes; mid = mid; gave = gave; bounded = few; ends = (text, all, inl is, printed) }
accepted command form done.NoMemory old mid new bytes text gave few all is printed = record { bytes = bytes; mid = mid; gave = gave; bounded = few; ends = printed }
accepted command form (done.Refused fault) old mid new bytes text gave few all is printed = absurd printed
accepted command form done.ReadFault old mid new bytes text gave few all is printed = absurd printed
accepted command form done.TooMuch old mid new bytes text gave few all is printed = absurd printed

-- the input has a fault, and its refusal was printed
pub refused : (command : Command) (form : Form) (by : Done) (old mid new : World) (bytes : List ℕ) (fault : CnfFault)
    → Gave old mid bytes → AreBounded bytes → IsAll old mid bytes → IsFault (format_of form) fault bytes → PrintsRefusal by fault mid new → Does command form by old new
refused command form (done.Refused told) old mid new bytes fault gave few all is printed = record {
  bytes = bytes;
  mid = mid;
  gave = gave;
  bounded = few;
  ends = subst (λ f. IsAll old mid bytes × IsFault (format_of form) f bytes × Wrote mid new (refused_text f)) (sym printed.0) (all, is, printed.1);
}
refused command form done.WriteFault old mid new bytes fault gave few all is printed = record { bytes = bytes; mid = mid; gave = gave; bounded = few; ends = (refused_text fault, all, inr (fault, is, refl), printed) }
refused command form done.Accepted old mid new bytes fault gave few all is printed = absurd printed
refused command form done.NoMemory old mid new bytes fault gave few all is printed = absurd printed
refused command form done.ReadFault old mid new bytes fault gave few all is printed = absurd printed
refused command form done.TooMuch old mid new bytes fault gave few all is printed = absurd printed
