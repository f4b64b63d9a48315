-- What is written of a value in the binary form.
use Rattle.std.specs.Prelude.{◌≡◌, ℕ, List, Ok}
use Rattle.gi_aiger.specs.declared.aig.Aig.{Aig}
use Rattle.gi_aiger.specs.Answers.{Answer}
use Rattle.gi_aiger.specs.Files.{read_file}
use Rattle.gi_aiger.specs.Relation.{IsBinary}
use Rattle.gi_aiger_binary.specs.Renumbering.{numbered_anew}
use Rattle.gi_aiger_binary.specs.Texts.{binary_text}

-- the text of the value, numbered anew
abbrev pub written : Aig → List ℕ
written v = binary_text (numbered_anew v)

-- the bytes are a file of the binary form that says the value, numbered anew, and they are read as
-- that
pub record AreReadBack (v : Aig) (bytes : List ℕ) : Type 0 where
  pub said : IsBinary (numbered_anew v) bytes
  pub read : Answer (read_file bytes) (Ok (numbered_anew v))
