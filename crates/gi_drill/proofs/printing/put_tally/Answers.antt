use Rattle.std.proofs.Common.{◌≡◌, ℕ, [], arith, subst}
use Rattle.gi_outside.specs.Outbox.{Stands}
use Rattle.gi_drill.specs.Printing.{tally_text}
use Rattle.gi_drill.proofs.printing.put_tally.Goals as goal

pub returns : goal.returns
unfolding tally_text
returns g c = λ start h.
    let same : c.from.result ≡ c.args.rounds = omega arith in
    subst (λ (n : ℕ). Stands start (g.L.Link.state c.put_counted-5.new.user) c.put_counted-5.new.outbox (tally_text n c.args.tally.now)) same
    (c.put_counted-5.ensures start _ (c.put_counted-4.ensures start _ (c.put_counted-3.ensures start _ (c.put_counted-2.ensures start _ (c.put_counted.ensures start [] h)))))
