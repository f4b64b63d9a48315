use Rattle.std.proofs.Common.{arith}
use Rattle.gi_unroll.specs.Steps.{along, IsLonger}
use Rattle.gi_unroll.proofs.Steps.{resets_so_far, IsLonger-trans, on_err_at}
use Rattle.gi_unroll.proofs.builder.Builder.resets.Goals as goal

pub reset-requires-clause-ready : goal.reset-requires-clause-ready
reset-requires-clause-ready c = (resets_so_far c.args.self.now c.args.resets.now c.loop-reset.reset-index (along c.loop-reset.self c.loop-reset.edges.items) c.loop-reset.auto.reset-index-end c.requires.ready c.loop-reset.invariant).ready

pub reset-requires-clause-room : goal.reset-requires-clause-room
reset-requires-clause-room c =
    let n = (resets_so_far c.args.self.now c.args.resets.now c.loop-reset.reset-index (along c.loop-reset.self c.loop-reset.edges.items) c.loop-reset.auto.reset-index-end c.requires.ready c.loop-reset.invariant).grows.next in
    omega (arith, n, c.requires.room, c.loop-reset-test.true)

pub returns-in_err-reset-clause-err : goal.returns-in_err-reset-clause-err
returns-in_err-reset-clause-err c =
    let l = (resets_so_far c.args.self.now c.args.resets.now c.loop-reset.reset-index (along c.loop-reset.self c.loop-reset.edges.items) c.loop-reset.auto.reset-index-end c.requires.ready c.loop-reset.invariant).grows.longer in
    on_err_at (IsLonger c.args.self.now c.reset.new.self) c.from_residual.result (IsLonger-trans c.args.self.now c.loop-reset.self c.reset.new.self l c.in_err-reset.ensures.err)
