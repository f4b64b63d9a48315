use Rattle.std.proofs.Common.{◌≡◌, sym, subst}
use Rattle.std.proofs.lemmas.Result.{IfOk-weaker}
use Rattle.gi_aiger.specs.Relation.{IsAscii}
use Rattle.gi_aiger.specs.Texts.{ascii_text}
use Rattle.gi_aiger.proofs.Printing.{good_ascii}
use Rattle.gi_aiger.proofs.writing.write_ascii.Goals as goal

pub returns-clause-said : goal.returns-clause-said
returns-clause-said c = λ good. IfOk-weaker c.text_of.result (λ bytes. bytes ≡ ascii_text c.args.aig.now) (IsAscii c.args.aig.now) (λ bytes e. subst (IsAscii c.args.aig.now) (sym e) (good_ascii c.args.aig.now good)) c.text_of.ensures
