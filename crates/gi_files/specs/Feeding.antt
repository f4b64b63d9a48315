-- What came of feeding a reader with a link's input.
use Rattle.std.specs.Prelude.{ℕ, List}
use Rattle.gi_outside.specs.Link.{Rose}
use Rattle.gi_outside.specs.World.{World}
use Rattle.gi_dimacs.specs.declared.content.Format.{Format}
use Rattle.gi_dimacs.specs.Reader.{HasRead, Reading}
use Rattle.gi_files.specs.declared.feeding.Fed.{Fed}
use Rattle.gi_files.specs.declared.feeding.Fed.TheVariants as fed
use Rattle.gi_files.specs.Input.{AreBounded, AreTooMany, Gave, IsAll}

-- what the answer says of the bytes that came
abbrev pub IsFed : Fed → Format → Reading → World → World → List ℕ → Type 0
IsFed fed.All format reader old new bytes = IsAll old new bytes × HasRead format reader bytes
IsFed fed.NoMemory format reader old new bytes = Unit {0}
IsFed fed.ReadFault format reader old new bytes = Rose old.failed_reads new.failed_reads
IsFed fed.TooMuch format reader old new bytes = AreTooMany bytes

-- bytes came, and the answer is about them
pub record Feeds (answer : Fed) (format : Format) (reader : Reading) (old new : World) : Type
    0 where
  pub bytes : List ℕ
  pub gave : Gave old new bytes
  pub bounded : AreBounded bytes
  pub is : IsFed answer format reader old new bytes
