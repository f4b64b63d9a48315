use Rattle.std.proofs.Common.{◌≡◌, ◌/◌, ap, sym, ◌∙◌, false, get_or}
use Rattle.gi_cdcl.proofs.Marking.{unseen}
use Rattle.gi_cdcl.proofs.assume.is_wanted.Goals as goal

pub returns-in-Some-clause-marked : goal.returns-in-Some-clause-marked
returns-in-Some-clause-marked c k kl e q =
    let s = c.in-Some.ensures in
    let same : k ≡ c.in-Some.place = c.requires.trail.apart k c.in-Some.place kl s.below (ap (λ n. n / 2) e ∙ sym c.var.ensures ∙ sym s.names) in
    c.has.ensures ∙ ap (λ i. get_or c.args.seen.now i false) (sym same) ∙ q

pub returns-in-None-clause-marked : goal.returns-in-None-clause-marked
returns-in-None-clause-marked c k kl e q = absurd (unseen _ _ k c.in-None.ensures (record { below = kl; names = ap (λ n. n / 2) e ∙ sym c.var.ensures }))
