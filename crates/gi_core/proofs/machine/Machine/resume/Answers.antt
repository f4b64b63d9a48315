use Rattle.std.proofs.Common.{refl, ap, ◌∙◌}
use Rattle.gi_model.specs.Replies.{status_of}
use Rattle.gi_model.proofs.Stepping.{resume_step}
use Rattle.gi_core.specs.View.{state_of}
use Rattle.gi_core.proofs.machine.Machine.resume.Goals as goal

pub returns : goal.returns
returns c =
    let m = c.args.self.now in
    let e = c.resume.ensures in
    record { step = resume_step (state_of m) (state_of (record m { solve = c.resume.new.self })) c.status.result c.requires (c.status.ensures ∙ ap status_of e) (rw e refl); backed = λ b. b }
