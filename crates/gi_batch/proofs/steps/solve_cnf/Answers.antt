use Rattle.std.proofs.Common.{◌∷◌, [], ◌++◌, map, Err}
use Rattle.std.proofs.lemmas.Result.{err_from_is_err_and}
use Rattle.gi_net.specs.Leads.{more, none}
use Rattle.gi_net.proofs.Leading.{leads_both}
use Rattle.gi_batch.specs.Steps.{Clause, Solve, Vars}
use Rattle.gi_batch.proofs.Doing.{begun_more, goes_after}
use Rattle.gi_batch.proofs.Filing.{vars_fail, vars_made}
use Rattle.gi_batch.proofs.steps.solve_cnf.Goals as goal

pub returns-in_err-make-clause-goes : goal.returns-in_err-make-clause-goes
returns-in_err-make-clause-goes g c =
    let p = err_from_is_err_and c.from_residual.result c.from_residual.ensures.1 in
    rw (p.1, p.2) (λ before. vars_fail c.in_err-make.field-0.0 c.args.budget c.args.cnf.vars _ _ _ _ c.in_err-make.ensures.made)

pub returns-in_err-add_clauses-clause-goes : goal.returns-in_err-add_clauses-clause-goes
returns-in_err-add_clauses-clause-goes g c =
    let p = err_from_is_err_and c.from_residual-in_err-add_clauses.result c.from_residual-in_err-add_clauses.ensures.1 in
    rw (p.1, p.2) (λ before.
    goes_after (Err c.in_err-add_clauses.field-0.0) c.args.budget (Vars c.args.cnf.vars ∷ []) (map Clause c.args.cnf.clauses ++ Solve ∷ []) _ _ _ _ _ _ before before
    (vars_made c.args.budget c.args.cnf.vars _ _ _ _ before c.in_ok-make.ensures.made)
    (begun_more c.in_err-add_clauses.field-0.0 c.args.budget (map Clause c.args.cnf.clauses) (Solve ∷ []) _ _ _ _ (c.in_err-add_clauses.ensures.added c.args.budget _)))

pub returns-clause-goes : goal.returns-clause-goes
returns-clause-goes g c = λ before.
    goes_after c.solve_now.result c.args.budget (Vars c.args.cnf.vars ∷ []) (map Clause c.args.cnf.clauses ++ Solve ∷ []) _ _ _ _ _ _ before before
    (vars_made c.args.budget c.args.cnf.vars _ _ _ _ before c.in_ok-make.ensures.made)
    (goes_after c.solve_now.result c.args.budget (map Clause c.args.cnf.clauses) (Solve ∷ []) _ _ _ _ _ _ before before (c.in_ok-add_clauses.ensures.added c.args.budget _ before) (c.solve_now.ensures.goes before))

pub returns-in_err-make-clause-led : goal.returns-in_err-make-clause-led
returns-in_err-make-clause-led g c = more _ _ none c.in_err-make.ensures.kept

pub returns-in_err-add_clauses-clause-led : goal.returns-in_err-add_clauses-clause-led
returns-in_err-add_clauses-clause-led g c = leads_both g.C.Caller.kept _ _ _ (more _ _ none c.in_ok-make.ensures.kept) c.in_err-add_clauses.ensures.led

pub returns-clause-led : goal.returns-clause-led
returns-clause-led g c = leads_both g.C.Caller.kept _ _ _ (leads_both g.C.Caller.kept _ _ _ (more _ _ none c.in_ok-make.ensures.kept) c.in_ok-add_clauses.ensures.led) c.solve_now.ensures.led
