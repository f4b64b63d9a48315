use Rattle.std.proofs.Common.{sym, subst, arith}
use Rattle.gi_circuit.specs.Frames.{with_choice}
use Rattle.gi_unroll.specs.Steps.{along, IsLonger}
use Rattle.gi_unroll.proofs.Steps.{inputs_so_far, Grows-choice, IsLonger-trans, on_err_at}
use Rattle.gi_unroll.proofs.builder.Builder.inputs.Goals as goal

pub choice-requires-clause-ready : goal.choice-requires-clause-ready
choice-requires-clause-ready c = (inputs_so_far c.args.self.now c.choices._made (along c.choices.self c.choices.edges.items) c.requires.ready c.choices.invariant).ready

pub choice-requires-clause-room : goal.choice-requires-clause-room
choice-requires-clause-room c =
    let n = (inputs_so_far c.args.self.now c.choices._made (along c.choices.self c.choices.edges.items) c.requires.ready c.choices.invariant).grows.next in
    omega (arith, n, c.requires.room, c.choices-test.true)

pub returns-in_err-edge-clause-err : goal.returns-in_err-edge-clause-err
returns-in_err-edge-clause-err c =
    let l = (inputs_so_far c.args.self.now c.choices._made (along c.choices.self c.choices.edges.items) c.requires.ready c.choices.invariant).grows.longer in
    on_err_at (IsLonger c.args.self.now c.choice.new.self) c.from_residual.result (subst (IsLonger c.args.self.now) (sym c.in_err-edge.ensures.err) l)

pub returns-in_err-push-clause-err : goal.returns-in_err-push-clause-err
returns-in_err-push-clause-err c =
    let l = (inputs_so_far c.args.self.now c.choices._made (along c.choices.self c.choices.edges.items) c.requires.ready c.choices.invariant).grows.longer in
    on_err_at (IsLonger c.args.self.now c.choice.new.self) c.from_residual-in_err-push.result (subst (IsLonger c.args.self.now) (sym c.in_ok-edge.ensures.ok) (IsLonger-trans c.args.self.now c.choices.self (with_choice c.choices.self) l (Grows-choice c.choices.self).longer))
