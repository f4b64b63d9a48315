use Rattle.gi_host.proofs.Hosting.{never_starved}
use Rattle.gi_host.proofs.Visiting.{visits_led}
use Rattle.gi_host.proofs.serving.serve_one.Goals as goal

pub returns : goal.returns
returns g c = record {
  over = never_starved _ _ _ _ _ c.serve_calls-how.ensures.over;
  started = c.serve_calls-how.new.caller.started;
  visits = visits_led _ _ c.serve_calls-how.ensures.led (λ v. v.pass) (λ v. v.started) (λ v w h. h);
  legal = c.knows.ensures.legal;
}
