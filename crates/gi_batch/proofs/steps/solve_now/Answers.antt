use Rattle.std.proofs.Common.{refl, sym}
use Rattle.std.proofs.lemmas.Result.{err_from_is_err_and}
use Rattle.gi_net.specs.Leads.{more, none}
use Rattle.gi_net.proofs.Leading.{leads_both}
use Rattle.gi_batch.proofs.Asking.{second_is, solved_so, start_first, unsolved_so, wait_denied, wait_fails}
use Rattle.gi_batch.proofs.steps.solve_now.Goals as goal

pub returns-in_err-make-clause-goes : goal.returns-in_err-make-clause-goes
returns-in_err-make-clause-goes g c =
    let p = err_from_is_err_and c.from_residual.result c.from_residual.ensures.1 in
    rw (p.1, p.2) (λ before. start_first c.in_err-make.field-0.0 c.args.budget _ _ _ c.in_err-make.ensures.made)

pub returns-in_err-make-2-clause-goes : goal.returns-in_err-make-2-clause-goes
returns-in_err-make-2-clause-goes g c =
    let p = err_from_is_err_and c.from_residual-in_err-make-2.result c.from_residual-in_err-make-2.ensures.1 in
    rw (p.1, p.2) (λ before. wait_fails c.in_err-make-2.field-0.0 c.args.budget _ _ _ _ _ c.in_ok-make.ensures.made c.in_err-make-2.ensures.made)

pub returns-in-None-clause-goes : goal.returns-in-None-clause-goes
returns-in-None-clause-goes g c = λ before. wait_denied c.args.budget _ _ _ _ _ _ c.reply.result.now c.in_ok-make.ensures.made c.in_ok-make-2.ensures.made c.reply.ensures (sym c.in-None.ensures)

pub returns-in_err-show-in-Some-clause-goes : goal.returns-in_err-show-in-Some-clause-goes
returns-in_err-show-in-Some-clause-goes g c =
    let p = err_from_is_err_and c.from_residual-in_err-show-in-Some.result c.from_residual-in_err-show-in-Some.ensures.1 in
    let start = c.in_ok-make.ensures.made in
    let wait = c.in_ok-make-2.ensures.made in
    rw (p.1, p.2) (λ before.
    unsolved_so c.args.budget _ _ _ _ _ _ _ _ c.reply.result.now c.in-Some.answer start wait c.reply.ensures (sym c.in-Some.ensures) c.in_err-show-in-Some.field-0.0
    (c.in_err-show-in-Some.ensures.shown _ refl (second_is _ _ _ c.reply.result.now c.in-Some.answer wait c.reply.ensures (sym c.in-Some.ensures))))

pub returns-in_ok-show-in-Some-clause-goes : goal.returns-in_ok-show-in-Some-clause-goes
returns-in_ok-show-in-Some-clause-goes g c = λ before.
    let start = c.in_ok-make.ensures.made in
    let wait = c.in_ok-make-2.ensures.made in
    solved_so c.args.budget _ _ _ _ _ _ _ _ c.reply.result.now c.in-Some.answer start wait c.reply.ensures (sym c.in-Some.ensures) before
    (c.in_ok-show-in-Some.ensures.shown _ refl (second_is _ _ _ c.reply.result.now c.in-Some.answer wait c.reply.ensures (sym c.in-Some.ensures)))

pub returns-in_err-make-clause-led : goal.returns-in_err-make-clause-led
returns-in_err-make-clause-led g c = more _ _ none c.in_err-make.ensures.kept

pub returns-in_err-make-2-clause-led : goal.returns-in_err-make-2-clause-led
returns-in_err-make-2-clause-led g c = more _ _ (more _ _ none c.in_ok-make.ensures.kept) c.in_err-make-2.ensures.kept

pub returns-in-None-clause-led : goal.returns-in-None-clause-led
returns-in-None-clause-led g c = more _ _ (more _ _ none c.in_ok-make.ensures.kept) c.in_ok-make-2.ensures.kept

pub returns-in_err-show-in-Some-clause-led : goal.returns-in_err-show-in-Some-clause-led
returns-in_err-show-in-Some-clause-led g c = leads_both g.C.Caller.kept _ _ _ (more _ _ (more _ _ none c.in_ok-make.ensures.kept) c.in_ok-make-2.ensures.kept) c.in_err-show-in-Some.ensures.led

pub returns-in_ok-show-in-Some-clause-led : goal.returns-in_ok-show-in-Some-clause-led
returns-in_ok-show-in-Some-clause-led g c = leads_both g.C.Caller.kept _ _ _ (more _ _ (more _ _ none c.in_ok-make.ensures.kept) c.in_ok-make-2.ensures.kept) c.in_ok-show-in-Some.ensures.led
