use Rattle.gi_drill.proofs.Tallies.{counted_since, counts_led, leads_part}
use Rattle.gi_drill.proofs.counted.serve_counted.Goals as goal

pub returns-clause-led : goal.returns-clause-led
returns-clause-led g c = leads_part _ _ c.serve_calls-how.ensures.led g.C.Caller.kept (λ v. v.caller) (λ v w h. h.1)

pub returns-clause-tally : goal.returns-clause-tally
returns-clause-tally g c = counted_since _ _ _ _ c.new.ensures (counts_led _ _ c.serve_calls-how.ensures.led (λ v. g.C.Caller.standing v.caller) (λ v. v.tally) (λ v w h. h.0))
