use Rattle.std.proofs.Common.{ℕ, ◌/◌, ◌<◌, List, length, map, sym, ap, ◌∙◌, subst, arith}
use Rattle.std.specs.List.{All}
use Rattle.gi_circuit.specs.Frames.{edge_of}
use Rattle.gi_unroll.specs.Steps.{IsLonger}
use Rattle.gi_unroll.proofs.Steps.{IsLonger-trans, on_err_at}
use Rattle.gi_unroll.proofs.Extending.{longer_one, ready_two, room_two, edges_two, ordered_two, inputs_two, latches_two, longer_two, edges_three, ready_three, from_three, longer_three, inputs_three, latches_three, frame_is, frames_are, fresh_is}
use Rattle.gi_unroll.proofs.extend.extend.Goals as goal

pub returns-in_err-begun-clause-err : goal.returns-in_err-begun-clause-err
returns-in_err-begun-clause-err c =
    on_err_at (IsLonger c.args.builder.now c.begin_edges.new.builder) c.from_residual-in_err-begun.result (IsLonger-trans c.args.builder.now c.begin.new.self c.begin_edges.new.builder (longer_one c.args.circuit.now c.counts-counts.ensures.circuit c.args.builder.now c.args.latches.now c.args.made c.requires.kept.0 c.args.n c.requires.kept.2 c.requires.kept.1 c.begin.new.self c.in_ok-begin.ensures.ok) c.in_err-begun.ensures.err)

pub rebuild-requires-clause-ready : goal.rebuild-requires-clause-ready
rebuild-requires-clause-ready c = ready_two c.args.circuit.now c.counts-counts.ensures.circuit c.args.builder.now c.args.latches.now c.args.made c.requires.kept.0 c.args.n c.requires.kept.2 c.requires.kept.1 c.begin.new.self c.in_ok-begin.ensures.ok c.begin_edges.new.builder c.in_ok-begun.begun.inputs.items c.in_ok-begun.begun.latches.items c.in_ok-begun.ensures.inputs c.in_ok-begun.ensures.latches

pub rebuild-requires-clause-room : goal.rebuild-requires-clause-room
rebuild-requires-clause-room c =
    let r = room_two c.args.circuit.now c.counts-counts.ensures.circuit c.args.builder.now c.args.latches.now c.args.made c.requires.kept.0 c.args.n c.requires.kept.2 c.requires.kept.1 c.begin.new.self c.in_ok-begin.ensures.ok c.begin_edges.new.builder c.in_ok-begun.begun.inputs.items c.in_ok-begun.begun.latches.items c.in_ok-begun.ensures.inputs c.in_ok-begun.ensures.latches in
    omega (arith, r, c.requires.room)

pub rebuild-requires-clause-edges : goal.rebuild-requires-clause-edges
rebuild-requires-clause-edges c = edges_two c.args.circuit.now c.counts-counts.ensures.circuit c.args.builder.now c.args.latches.now c.args.made c.requires.kept.0 c.args.n c.requires.kept.2 c.requires.kept.1 c.begin.new.self c.in_ok-begin.ensures.ok c.begin_edges.new.builder c.in_ok-begun.begun.inputs.items c.in_ok-begun.begun.latches.items c.in_ok-begun.ensures.inputs c.in_ok-begun.ensures.latches

pub rebuild-requires-clause-ordered : goal.rebuild-requires-clause-ordered
rebuild-requires-clause-ordered c = ordered_two c.args.circuit.now c.counts-counts.ensures.circuit c.args.builder.now c.args.latches.now c.args.made c.requires.kept.0 c.args.n c.requires.kept.2 c.requires.kept.1 c.begin.new.self c.in_ok-begin.ensures.ok c.begin_edges.new.builder c.in_ok-begun.begun.inputs.items c.in_ok-begun.begun.latches.items c.in_ok-begun.ensures.inputs c.in_ok-begun.ensures.latches

pub rebuild-requires-clause-inputs : goal.rebuild-requires-clause-inputs
rebuild-requires-clause-inputs c = inputs_two c.args.circuit.now c.counts-counts.ensures.circuit c.args.builder.now c.args.latches.now c.args.made c.requires.kept.0 c.args.n c.requires.kept.2 c.requires.kept.1 c.begin.new.self c.in_ok-begin.ensures.ok c.begin_edges.new.builder c.in_ok-begun.begun.inputs.items c.in_ok-begun.begun.latches.items c.in_ok-begun.ensures.inputs c.in_ok-begun.ensures.latches

pub rebuild-requires-clause-latches : goal.rebuild-requires-clause-latches
rebuild-requires-clause-latches c = latches_two c.args.circuit.now c.counts-counts.ensures.circuit c.args.builder.now c.args.latches.now c.args.made c.requires.kept.0 c.args.n c.requires.kept.2 c.requires.kept.1 c.begin.new.self c.in_ok-begin.ensures.ok c.begin_edges.new.builder c.in_ok-begun.begun.inputs.items c.in_ok-begun.begun.latches.items c.in_ok-begun.ensures.inputs c.in_ok-begun.ensures.latches

pub returns-in_err-rebuild-clause-err : goal.returns-in_err-rebuild-clause-err
returns-in_err-rebuild-clause-err c =
    on_err_at (IsLonger c.args.builder.now c.rebuild.new.builder) c.from_residual-in_err-rebuild.result (IsLonger-trans c.args.builder.now c.begin_edges.new.builder c.rebuild.new.builder (longer_two c.args.circuit.now c.counts-counts.ensures.circuit c.args.builder.now c.args.latches.now c.args.made c.requires.kept.0 c.args.n c.requires.kept.2 c.requires.kept.1 c.begin.new.self c.in_ok-begin.ensures.ok c.begin_edges.new.builder c.in_ok-begun.begun.inputs.items c.in_ok-begun.begun.latches.items c.in_ok-begun.ensures.inputs c.in_ok-begun.ensures.latches) c.in_err-rebuild.ensures.err)

pub edges_of-requires : goal.edges_of-requires
edges_of-requires c =
    let h = (edges_three c.args.circuit.now c.counts-counts.ensures.circuit c.args.builder.now c.args.latches.now c.args.made c.requires.kept.0 c.args.n c.requires.kept.2 c.requires.kept.1 c.begin.new.self c.in_ok-begin.ensures.ok c.begin_edges.new.builder c.in_ok-begun.begun.inputs.items c.in_ok-begun.begun.latches.items c.in_ok-begun.ensures.inputs c.in_ok-begun.ensures.latches c.rebuild.new.builder c.in_ok-rebuild.ensures.ok).count in
    subst (λ (z : List ℕ). All (λ e. e / 2 < length c.rebuild.new.builder.edges) z) (sym c.nexts.ensures) (λ k d lt. let le = c.counts-counts.ensures.circuit.wired.next_nodes k d lt in omega (arith, le, h))

pub returns-in_err-nexts-clause-err : goal.returns-in_err-nexts-clause-err
returns-in_err-nexts-clause-err c =
    on_err_at (IsLonger c.args.builder.now c.rebuild.new.builder) c.from_residual-in_err-nexts.result (longer_three c.args.circuit.now c.counts-counts.ensures.circuit c.args.builder.now c.args.latches.now c.args.made c.requires.kept.0 c.args.n c.requires.kept.2 c.requires.kept.1 c.begin.new.self c.in_ok-begin.ensures.ok c.begin_edges.new.builder c.in_ok-begun.begun.inputs.items c.in_ok-begun.begun.latches.items c.in_ok-begun.ensures.inputs c.in_ok-begun.ensures.latches c.rebuild.new.builder c.in_ok-rebuild.ensures.ok)

pub give-requires-clause-edges : goal.give-requires-clause-edges
give-requires-clause-edges c =
    edges_three c.args.circuit.now c.counts-counts.ensures.circuit c.args.builder.now c.args.latches.now c.args.made c.requires.kept.0 c.args.n c.requires.kept.2 c.requires.kept.1 c.begin.new.self c.in_ok-begin.ensures.ok c.begin_edges.new.builder c.in_ok-begun.begun.inputs.items c.in_ok-begun.begun.latches.items c.in_ok-begun.ensures.inputs c.in_ok-begun.ensures.latches c.rebuild.new.builder c.in_ok-rebuild.ensures.ok

pub give-requires-clause-count : goal.give-requires-clause-count
give-requires-clause-count c =
    (ready_three c.args.circuit.now c.counts-counts.ensures.circuit c.args.builder.now c.args.latches.now c.args.made c.requires.kept.0 c.args.n c.requires.kept.2 c.requires.kept.1 c.begin.new.self c.in_ok-begin.ensures.ok c.begin_edges.new.builder c.in_ok-begun.begun.inputs.items c.in_ok-begun.begun.latches.items c.in_ok-begun.ensures.inputs c.in_ok-begun.ensures.latches c.rebuild.new.builder c.in_ok-rebuild.ensures.ok).count

pub give-requires-clause-from : goal.give-requires-clause-from
give-requires-clause-from c =
    from_three c.args.circuit.now c.counts-counts.ensures.circuit c.args.builder.now c.args.latches.now c.args.made c.requires.kept.0 c.args.n c.requires.kept.2 c.requires.kept.1 c.begin.new.self c.in_ok-begin.ensures.ok c.begin_edges.new.builder c.in_ok-begun.begun.inputs.items c.in_ok-begun.begun.latches.items c.in_ok-begun.ensures.inputs c.in_ok-begun.ensures.latches c.rebuild.new.builder c.in_ok-rebuild.ensures.ok

pub give-requires-clause-inputs : goal.give-requires-clause-inputs
give-requires-clause-inputs c =
    inputs_three c.args.circuit.now c.counts-counts.ensures.circuit c.args.builder.now c.args.latches.now c.args.made c.requires.kept.0 c.args.n c.requires.kept.2 c.requires.kept.1 c.begin.new.self c.in_ok-begin.ensures.ok c.begin_edges.new.builder c.in_ok-begun.begun.inputs.items c.in_ok-begun.begun.latches.items c.in_ok-begun.ensures.inputs c.in_ok-begun.ensures.latches c.rebuild.new.builder c.in_ok-rebuild.ensures.ok

pub give-requires-clause-latches : goal.give-requires-clause-latches
give-requires-clause-latches c =
    latches_three c.args.circuit.now c.counts-counts.ensures.circuit c.args.builder.now c.args.latches.now c.args.made c.requires.kept.0 c.args.n c.requires.kept.2 c.requires.kept.1 c.begin.new.self c.in_ok-begin.ensures.ok c.begin_edges.new.builder c.in_ok-begun.begun.inputs.items c.in_ok-begun.begun.latches.items c.in_ok-begun.ensures.inputs c.in_ok-begun.ensures.latches c.rebuild.new.builder c.in_ok-rebuild.ensures.ok

pub returns-in_err-frame-clause-err : goal.returns-in_err-frame-clause-err
returns-in_err-frame-clause-err c =
    on_err_at (IsLonger c.args.builder.now c.give.new.builder) c.from_residual-in_err-frame.result (subst (IsLonger c.args.builder.now) (sym c.in_err-frame.ensures.err) (longer_three c.args.circuit.now c.counts-counts.ensures.circuit c.args.builder.now c.args.latches.now c.args.made c.requires.kept.0 c.args.n c.requires.kept.2 c.requires.kept.1 c.begin.new.self c.in_ok-begin.ensures.ok c.begin_edges.new.builder c.in_ok-begun.begun.inputs.items c.in_ok-begun.begun.latches.items c.in_ok-begun.ensures.inputs c.in_ok-begun.ensures.latches c.rebuild.new.builder c.in_ok-rebuild.ensures.ok))

pub returns-clause-frame : goal.returns-clause-frame
returns-clause-frame c =
    frame_is c.args.circuit.now c.counts-counts.ensures.circuit c.args.builder.now c.args.latches.now c.args.made c.requires.kept.0 c.args.n c.requires.kept.2 c.requires.kept.1 c.begin.new.self c.in_ok-begin.ensures.ok c.begin_edges.new.builder c.in_ok-begun.begun.inputs.items c.in_ok-begun.begun.latches.items c.in_ok-begun.ensures.inputs c.in_ok-begun.ensures.latches c.rebuild.new.builder c.in_ok-rebuild.ensures.ok c.in_ok-frame.frame c.in_ok-frame.ensures.frame

pub returns-clause-frames : goal.returns-clause-frames
returns-clause-frames c =
    frames_are c.args.circuit.now c.counts-counts.ensures.circuit c.args.builder.now c.args.latches.now c.args.made c.requires.kept.0 c.args.n c.requires.kept.2 c.requires.kept.1 c.begin.new.self c.in_ok-begin.ensures.ok c.begin_edges.new.builder c.in_ok-begun.begun.inputs.items c.in_ok-begun.begun.latches.items c.in_ok-begun.ensures.inputs c.in_ok-begun.ensures.latches c.rebuild.new.builder c.in_ok-rebuild.ensures.ok c.give.new.builder c.in_ok-nexts.nexts.items c.in_ok-frame.ensures.ok (c.in_ok-nexts.ensures ∙ ap (map (edge_of c.rebuild.new.builder.edges)) c.nexts.ensures)

pub returns-clause-fresh : goal.returns-clause-fresh
returns-clause-fresh c =
    fresh_is c.args.circuit.now c.counts-counts.ensures.circuit c.args.builder.now c.args.latches.now c.args.made c.requires.kept.0 c.args.n c.requires.kept.2 c.requires.kept.1 c.begin.new.self c.in_ok-begin.ensures.ok c.begin_edges.new.builder c.in_ok-begun.begun.inputs.items c.in_ok-begun.begun.latches.items c.in_ok-begun.ensures.inputs c.in_ok-begun.ensures.latches c.rebuild.new.builder c.in_ok-rebuild.ensures.ok c.in_ok-frame.frame c.in_ok-frame.ensures.frame
