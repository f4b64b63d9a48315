use Rattle.std.proofs.Common.{subst, sym, ◌∙◌}
use Rattle.gi_dimacs.specs.Relation.{IsIcnf}
use Rattle.gi_dimacs.proofs.Texts.{text_is_icnf}
use Rattle.gi_dimacs.proofs.Ends.{icnf_again}
use Rattle.gi_dimacs.proofs.writing.write_icnf.Goals as goal

pub returns-clause-read : goal.returns-clause-read
returns-clause-read c = λ good. subst (λ bytes. IsIcnf c.args.icnf.now bytes) (sym c.in_ok-bytes.ensures) (text_is_icnf c.args.icnf.now good)

pub returns-clause-again : goal.returns-clause-again
returns-clause-again c = λ good v is.
    icnf_again c.args.icnf.now v good (subst (λ bytes. IsIcnf v bytes) c.in_ok-bytes.ensures is) ∙ sym c.in_ok-bytes.ensures
