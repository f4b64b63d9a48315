-- What was written, read and written again.
use Rattle.std.proofs.Common.{◌≡◌, ℕ, List, Ok, sym, ap, ◌∙◌, inr}
use Rattle.gi_aiger.specs.declared.aig.Aig.{Aig}
use Rattle.gi_aiger.specs.Relation.{IsAig}
use Rattle.gi_aiger.proofs.Accepting.{said_read}
use Rattle.gi_aiger_binary.specs.Laws.{WrittenAgain}
use Rattle.gi_aiger_binary.specs.Renumbering.{numbered_anew}
use Rattle.gi_aiger_binary.specs.Texts.{binary_text}
use Rattle.gi_aiger_binary.specs.Written.{written}
use Rattle.gi_aiger_binary.proofs.Deserved.{good_writable}
use Rattle.gi_aiger_binary.proofs.Reread.{written_said}
use Rattle.gi_aiger_binary.proofs.Staying.{numbers_stay}

-- bytes say one value
one_said : (u w : Aig) (bytes : List ℕ) → IsAig u bytes → IsAig w bytes → u ≡ w
one_said u w bytes a b = let e : Ok u ≡ Ok w = sym (said_read u bytes a) ∙ said_read w bytes b in cc

pub written_again : WrittenAgain
written_again v u good said =
    let can = good_writable v good in
    let same : u ≡ numbered_anew v = one_said u (numbered_anew v) (written v) said (inr (written_said v can.0 can.1)) in
    ap written same ∙ ap binary_text (numbers_stay v can.0 can.1)
