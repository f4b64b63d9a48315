-- What printing a text does.
use Rattle.std.specs.Prelude.{◌≡◌, ℕ, List}
use Rattle.gi_outside.specs.World.{World, Wrote, WroteCut}
use Rattle.gi_dimacs.specs.declared.fault.CnfFault.{CnfFault}
use Rattle.gi_files.specs.declared.commands.Done.{Done}
use Rattle.gi_files.specs.declared.commands.Done.TheVariants as done
use Rattle.gi_files.specs.Texts.{refused_text}

-- the text was written, or was cut, or memory was wanting before
abbrev pub Prints : Done → List ℕ → World → World → Type 0
Prints done.Accepted text mid new = Wrote mid new text
Prints done.WriteFault text mid new = WroteCut mid new text
Prints done.NoMemory text mid new = new ≡ mid
Prints (done.Refused fault) text mid new = ⊥
Prints done.ReadFault text mid new = ⊥
Prints done.TooMuch text mid new = ⊥

-- the refusal was written, or was cut
abbrev pub PrintsRefusal : Done → CnfFault → World → World → Type 0
PrintsRefusal (done.Refused told) fault mid new = (told ≡ fault)
    × Wrote mid new (refused_text fault)
PrintsRefusal done.WriteFault fault mid new = WroteCut mid new (refused_text fault)
PrintsRefusal done.Accepted fault mid new = ⊥
PrintsRefusal done.NoMemory fault mid new = ⊥
PrintsRefusal done.ReadFault fault mid new = ⊥
PrintsRefusal done.TooMuch fault mid new = ⊥
