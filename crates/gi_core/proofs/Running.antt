-- The steps of a machine are a legal history.
use Rattle.std.proofs.Common.{◌≡◌, List, [], ◌∷◌, sym, ap, ◌∙◌, subst}
use Rattle.gi_model.specs.State.{State, opening}
use Rattle.gi_model.specs.Effects.{after}
use Rattle.gi_model.specs.History.{Entry, Allows, IsLegalFrom, after_all}
use Rattle.gi_model.specs.Kept.{IsKept}
use Rattle.gi_model.specs.Told.{told_spent, HasSpent}
use Rattle.gi_model.specs.Laws.{KnownIsTold, SpentIsTold, GuardsAreClean, IsClean}
use Rattle.gi_model.specs.declared.calls.Call.TheVariants.{NewGuard}
use Rattle.gi_model.specs.declared.replies.Reply.TheVariants as reply
use Rattle.gi_model.proofs.Histories.{histories_kept}
use Rattle.gi_core.specs.Laws.{Runs, StepsAreLegal, StepsKeep, StepsTell, StepsGiveCleanGuards}

pub runs_from : (es : List Entry) (s t : State) → Runs s es t → IsLegalFrom s es × (t ≡ after_all s es)
unfolding after_all
runs_from [] s t r = (tt, r)
runs_from (e ∷ es) s t r =
    let rest = runs_from es r.0 t r.2 in
    let P : State → Type 0 = λ m. IsLegalFrom m es × (t ≡ after_all m es) in
    let q : P (after s e.call e.reply) = subst P r.1.new_is rest in
    ((r.1.allowed, q.0), q.1)

pub runs_after : StepsAreLegal
runs_after es s r = let q = runs_from es opening s r in record { legal = record { each = q.0 }; state = q.1 }

pub runs_sound : StepsKeep
runs_sound es s r =
    let a = runs_after es s r in
    let k = subst IsKept (sym a.state) (histories_kept es a.legal) in
    record { kept = k; implied = k.known_implied }

pub runs_told : KnownIsTold → SpentIsTold → StepsTell
runs_told known spent es s r =
    let a = runs_after es s r in
    record { known = ap (λ (x : State). x.known) a.state ∙ known es a.legal; spent = subst (λ (x : State). HasSpent x.solve (told_spent 0 es)) (sym a.state) (spent es a.legal) }

pub runs_clean : GuardsAreClean → StepsGiveCleanGuards
runs_clean law es s t g r step =
    let a = runs_after es s r in
    let P : State → Type 0 = λ x. Allows x NewGuard (reply.Guard g) in
    subst (λ (x : State). IsClean x g) (sym (step.new_is ∙ ap (λ (x : State). after x NewGuard (reply.Guard g)) a.state)) (law es g a.legal (subst P a.state step.allowed))
