use Rattle.std.proofs.lemmas.Result.{err_from_is_err_and}
use Rattle.gi_net.specs.Leads.{more, none}
use Rattle.gi_net.proofs.Leading.{leads_both}
use Rattle.gi_batch.proofs.Filing.{begun_none, item_ask_fails, item_ask_goes, item_clause_fails, item_clause_made}
use Rattle.gi_batch.proofs.steps.do_item.Goals as goal

pub returns-in_err-copy-in-Clause-clause-goes : goal.returns-in_err-copy-in-Clause-clause-goes
returns-in_err-copy-in-Clause-clause-goes g c =
    let p = err_from_is_err_and c.from_residual.result c.from_residual.ensures.1 in
    rw (p.1, p.2, c.in_err-copy-in-Clause.ensures) (begun_none c.args.budget _ _ _)

pub returns-in_err-make-in-Clause-clause-goes : goal.returns-in_err-make-in-Clause-clause-goes
returns-in_err-make-in-Clause-clause-goes g c =
    let p = err_from_is_err_and c.from_residual-in_err-make-in-Clause.result c.from_residual-in_err-make-in-Clause.ensures.1 in
    rw (p.1, p.2) (item_clause_fails c.in_err-make-in-Clause.field-0.0 c.args.budget _ _ _ _ _ _ c.in-Clause.is c.in_ok-copy-in-Clause.ensures c.in_err-make-in-Clause.ensures.made)

pub returns-in_err-copy-in-Ask-clause-goes : goal.returns-in_err-copy-in-Ask-clause-goes
returns-in_err-copy-in-Ask-clause-goes g c =
    let p = err_from_is_err_and c.from_residual-in_err-copy-in-Ask.result c.from_residual-in_err-copy-in-Ask.ensures.1 in
    rw (p.1, p.2, c.in_err-copy-in-Ask.ensures) (begun_none c.args.budget _ _ _)

pub returns-in_err-make-in-Ask-clause-goes : goal.returns-in_err-make-in-Ask-clause-goes
returns-in_err-make-in-Ask-clause-goes g c =
    let p = err_from_is_err_and c.from_residual-in_err-make-in-Ask.result c.from_residual-in_err-make-in-Ask.ensures.1 in
    rw (p.1, p.2) (item_ask_fails c.in_err-make-in-Ask.field-0.0 c.args.budget _ _ _ _ _ _ c.in-Ask.is c.in_ok-copy-in-Ask.ensures c.in_err-make-in-Ask.ensures.made)

pub returns-in_ok-make-in-Clause-clause-goes : goal.returns-in_ok-make-in-Clause-clause-goes
returns-in_ok-make-in-Clause-clause-goes g c = item_clause_made c.args.budget _ _ _ _ _ _ _ c.args.last c.in-Clause.is c.in_ok-copy-in-Clause.ensures c.in_ok-make-in-Clause.ensures.made

pub returns-in_ok-make-in-Ask-clause-goes : goal.returns-in_ok-make-in-Ask-clause-goes
returns-in_ok-make-in-Ask-clause-goes g c = item_ask_goes c.solve_now.result c.args.budget _ _ _ _ _ _ _ _ _ c.args.last c.in-Ask.is c.in_ok-copy-in-Ask.ensures c.in_ok-make-in-Ask.ensures.made (c.solve_now.ensures.goes c.args.last)

pub returns-in_err-copy-in-Clause-clause-led : goal.returns-in_err-copy-in-Clause-clause-led
returns-in_err-copy-in-Clause-clause-led g c = none

pub returns-in_err-make-in-Clause-clause-led : goal.returns-in_err-make-in-Clause-clause-led
returns-in_err-make-in-Clause-clause-led g c = more _ _ none c.in_err-make-in-Clause.ensures.kept

pub returns-in_err-copy-in-Ask-clause-led : goal.returns-in_err-copy-in-Ask-clause-led
returns-in_err-copy-in-Ask-clause-led g c = none

pub returns-in_err-make-in-Ask-clause-led : goal.returns-in_err-make-in-Ask-clause-led
returns-in_err-make-in-Ask-clause-led g c = more _ _ none c.in_err-make-in-Ask.ensures.kept

pub returns-in_ok-make-in-Clause-clause-led : goal.returns-in_ok-make-in-Clause-clause-led
returns-in_ok-make-in-Clause-clause-led g c = more _ _ none c.in_ok-make-in-Clause.ensures.kept

pub returns-in_ok-make-in-Ask-clause-led : goal.returns-in_ok-make-in-Ask-clause-led
returns-in_ok-make-in-Ask-clause-led g c = leads_both g.C.Caller.kept _ _ _ (more _ _ none c.in_ok-make-in-Ask.ensures.kept) c.solve_now.ensures.led
