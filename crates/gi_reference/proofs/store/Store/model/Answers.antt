use Rattle.std.proofs.Common.{◌≡◌, ℕ, Bool, false, List, ◌++◌, ◌+◌, ◌∷◌, [], take, get_or, ap, sym, ◌∙◌, arith}
use Rattle.gi_model.specs.Replies.{model_from}
use Rattle.gi_reference.proofs.Telling.{model_from-more}
use Rattle.gi_reference.proofs.store.Store.model.Goals as goal

pub loop-i-init : goal.loop-i-init
unfolding model_from
loop-i-init c = c.new-lits.ensures

pub loop-i-preserved : goal.loop-i-preserved
loop-i-preserved c =
    let b : Bool = get_or c.args.values.now c.loop-i.i false in
    let k : c.loop-i.i + 1 ≡ 1 + c.loop-i.i = omega arith in
    c.in_ok-append_told.ensures ∙ ap (λ ls. ls ++ model_from c.args.self.now (c.loop-i.i + 1) (b ∷ [])) c.loop-i.invariant
    ∙ ap (λ v. model_from c.args.self.now 1 (take c.loop-i.i c.args.values.now) ++ model_from c.args.self.now v (b ∷ [])) k
    ∙ sym (model_from-more c.args.self.now 1 c.loop-i.i c.args.values.now false c.loop-i-test.true)
