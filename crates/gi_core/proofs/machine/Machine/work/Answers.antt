use Rattle.std.proofs.Common.{sym}
use Rattle.gi_model.specs.State.{live_run}
use Rattle.gi_model.specs.declared.calls.Call.TheVariants as call
use Rattle.gi_model.specs.declared.replies.Reply.TheVariants as reply
use Rattle.gi_core.specs.View.{state_of}
use Rattle.gi_core.proofs.Moving.{moves_same, idle_step, not_some}
use Rattle.gi_core.proofs.machine.Machine.work.Goals as goal

pub returns-then-not-is_live-clause-moves : goal.returns-then-not-is_live-clause-moves
returns-then-not-is_live-clause-moves g c =
    let m = c.args.self.now in
    moves_same m (call.Work 0) reply.Idle (idle_step (state_of m) 0 (not_some (live_run (state_of m)) (sym c.if-not-is_live.ensures)))
