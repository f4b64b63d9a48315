use Rattle.std.proofs.Common.{◌≡◌, ap, arith}
use Rattle.gi_unroll.specs.Steps.{along, IsLonger}
use Rattle.gi_unroll.proofs.Steps.{inputs_so_far, IsLonger-trans, on_err_at}
use Rattle.gi_unroll.proofs.extend.begin_edges.Goals as goal

pub begin_latches-requires-clause-ready : goal.begin_latches-requires-clause-ready
begin_latches-requires-clause-ready c = (inputs_so_far c.args.builder.now c.counts.result.inputs (along c.inputs.new.self c.in_ok-inputs.inputs.items) c.requires.ready c.in_ok-inputs.ensures.ok).ready

pub begin_latches-requires-clause-room : goal.begin_latches-requires-clause-room
begin_latches-requires-clause-room c =
    let n = (inputs_so_far c.args.builder.now c.counts.result.inputs (along c.inputs.new.self c.in_ok-inputs.inputs.items) c.requires.ready c.in_ok-inputs.ensures.ok).grows.next in
    let i : c.counts.result.inputs ≡ c.args.circuit.now.parts.inputs = ap (λ s. s.inputs) c.counts.ensures.counts in
    omega (arith, n, i, c.requires.room)

pub returns-in_err-latches-clause-err : goal.returns-in_err-latches-clause-err
returns-in_err-latches-clause-err c =
    let l = (inputs_so_far c.args.builder.now c.counts.result.inputs (along c.inputs.new.self c.in_ok-inputs.inputs.items) c.requires.ready c.in_ok-inputs.ensures.ok).grows.longer in
    on_err_at (IsLonger c.args.builder.now c.begin_latches.new.builder) c.from_residual-in_err-latches.result (IsLonger-trans c.args.builder.now c.inputs.new.self c.begin_latches.new.builder l c.in_err-latches.ensures.err)
