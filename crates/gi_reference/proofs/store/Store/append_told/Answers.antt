use Rattle.std.proofs.Common.{◌≡◌, ℕ, List, ◌++◌, ap, sym, ◌∙◌}
use Rattle.gi_model.proofs.Keeping.{append-nil}
use Rattle.gi_reference.proofs.store.Store.append_told.Goals as goal

pub returns-in_ok-push-in-Some : goal.returns-in_ok-push-in-Some
returns-in_ok-push-in-Some c = c.in_ok-push-in-Some.ensures.ok ∙ ap (λ ls. c.args.to.now ++ ls) (sym c.in-Some.ensures.some)

pub returns-in-None : goal.returns-in-None
returns-in-None c = sym (append-nil c.args.to.now) ∙ ap (λ ls. c.args.to.now ++ ls) (sym c.in-None.ensures.none)
