use Rattle.std.proofs.Common.{inl, inr, refl, sym, ◌∙◌}
use Rattle.gi_run.proofs.Placing.{performed}
use Rattle.gi_run.proofs.running.run.Goals as goal

pub returns-in-Ok-clause-does : goal.returns-in-Ok-clause-does
returns-in-Ok-clause-does g c = inl (rw (← c.in-Ok.ensures.command) c.perform.ensures.does)

pub returns-in-Err-clause-does : goal.returns-in-Err-clause-does
returns-in-Err-clause-does g c = inr (record { status_is = refl; none = refl; pass = refl; link = refl })

pub returns-in-Ok-clause-no_command : goal.returns-in-Ok-clause-no_command
returns-in-Ok-clause-no_command g c = λ two. sym c.in-Ok.ensures.command ∙ c.perform.ensures.two.0 two

pub returns-in-Ok-clause-two : goal.returns-in-Ok-clause-two
returns-in-Ok-clause-two g c = λ none. inl (c.perform.ensures.two.1 (c.in-Ok.ensures.command ∙ none))

pub returns-in-Ok-clause-place : goal.returns-in-Ok-clause-place
returns-in-Ok-clause-place g c = performed c.in-Ok.command (g.L.Link.state c.args.user.now) (g.L.Link.state c.perform.new.user) c.args.pass c.perform.result.pass c.perform.result.status c.perform.result.refusal c.perform.ensures.does
