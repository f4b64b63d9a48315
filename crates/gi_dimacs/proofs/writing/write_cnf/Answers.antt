use Rattle.std.proofs.Common.{subst, sym, ◌∙◌}
use Rattle.gi_dimacs.specs.Relation.{IsCnf}
use Rattle.gi_dimacs.proofs.Texts.{text_is_cnf}
use Rattle.gi_dimacs.proofs.Ends.{cnf_again}
use Rattle.gi_dimacs.proofs.writing.write_cnf.Goals as goal

pub returns-clause-read : goal.returns-clause-read
returns-clause-read c = λ good. subst (λ bytes. IsCnf c.args.cnf.now bytes) (sym c.in_ok-bytes.ensures) (text_is_cnf c.args.cnf.now good)

pub returns-clause-again : goal.returns-clause-again
returns-clause-again c = λ good v is.
    cnf_again c.args.cnf.now v good (subst (λ bytes. IsCnf v bytes) c.in_ok-bytes.ensures is) ∙ sym c.in_ok-bytes.ensures
