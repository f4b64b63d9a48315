use Rattle.std.proofs.Common.{◌≡◌, ℕ, List, Ok, sym, subst}
use Rattle.std.proofs.lemmas.Result.{IfOk-weaker}
use Rattle.gi_aiger_binary.specs.Texts.{binary_text}
use Rattle.gi_aiger_binary.specs.Written.{written, AreReadBack}
use Rattle.gi_aiger_binary.proofs.Reread.{written_read, written_said}
use Rattle.gi_aiger_binary.proofs.writing.write_binary.Goals as goal

pub returns-clause-read : goal.returns-clause-read
returns-clause-read c sound =
    let v = c.args.aig.now in
    IfOk-weaker c.text_of.result (λ bytes. bytes ≡ binary_text c.in_ok-numbered.numbered) (AreReadBack c.args.aig.now)
    (λ bytes e.
    let same : bytes ≡ written c.args.aig.now = rw c.in_ok-numbered.ensures at e in
    subst (AreReadBack c.args.aig.now) (sym same) (record { said = written_said c.args.aig.now c.requires sound; read = written_read c.args.aig.now c.requires sound }))
    c.text_of.ensures
