use Rattle.std.proofs.Common.{◌≡◌, ℕ, ◌<◌, List, length, sym, ap, ◌∙◌, subst, arith}
use Rattle.std.specs.Prelude.{IfOk}
use Rattle.std.specs.List.{All, fold}
use Rattle.std.proofs.lemmas.List.FromFn.{length-range_with_len}
use Rattle.std.proofs.lemmas.List.Sorted.{length_permutation}
use Rattle.gi_aiger.specs.declared.aig.Latch.{Latch}
use Rattle.gi_aiger.specs.Levels.{gate_at}
use Rattle.gi_aiger.specs.Places.{places_by_level}
use Rattle.gi_aiger.proofs.Resolving.{gates_have_levels}
use Rattle.gi_circuit.specs.Import.{Imported, imported_none, with_input_of, with_latch_of, with_gate_of, imported, finished, system_of}
use Rattle.gi_circuit.proofs.Importing.{input_nodes, input_latches, latch_nodes, latch_latches, gate_latches}
use Rattle.gi_circuit.proofs.circuit.Circuit.from_aig.Goals as goal

pub latches-requires : goal.latches-requires
latches-requires c =
    let one : c.inputs.new.self ≡ fold with_input_of (imported_none c.args.aig.now.max) c.args.aig.now.inputs =
    c.in_ok-inputs.ensures ∙ ap (λ z. fold with_input_of z c.as_slice.result.now) c.new-importer.ensures ∙ ap (fold with_input_of (imported_none c.args.aig.now.max)) (c.as_slice.ensures ∙ c.in_ok-literals.ensures) in
    let n = ap (λ (m : Imported). length m.system.parts.nodes) one in
    let k = input_nodes c.args.aig.now.inputs (imported_none c.args.aig.now.max) in
    let l = ap (λ (z : List Latch). length z) c.as_slice-2.ensures in
    omega (arith, n, k, l, c.requires.room)

pub gates-requires-clause-room : goal.gates-requires-clause-room
gates-requires-clause-room c =
    let one : c.inputs.new.self ≡ fold with_input_of (imported_none c.args.aig.now.max) c.args.aig.now.inputs =
    c.in_ok-inputs.ensures ∙ ap (λ z. fold with_input_of z c.as_slice.result.now) c.new-importer.ensures ∙ ap (fold with_input_of (imported_none c.args.aig.now.max)) (c.as_slice.ensures ∙ c.in_ok-literals.ensures) in
    let two : c.latches.new.self ≡ fold with_latch_of (fold with_input_of (imported_none c.args.aig.now.max) c.args.aig.now.inputs) c.args.aig.now.latches =
    c.in_ok-latches.ensures ∙ ap (λ z. fold with_latch_of z c.as_slice-2.result.now) one ∙ ap (fold with_latch_of (fold with_input_of (imported_none c.args.aig.now.max) c.args.aig.now.inputs)) c.as_slice-2.ensures in
    let n = ap (λ (m : Imported). length m.system.parts.nodes) two in
    let k = input_nodes c.args.aig.now.inputs (imported_none c.args.aig.now.max) in
    let m = latch_nodes c.args.aig.now.latches (fold with_input_of (imported_none c.args.aig.now.max) c.args.aig.now.inputs) in
    let levels = gates_have_levels c.args.aig.now.gates c.requires.apart c.requires.acyclic in
    let p = length_permutation _ _ levels.1.all in
    let q = length-range_with_len 0 (length c.args.aig.now.gates) in
    let d = ap (λ (z : List ℕ). length z) (c.deref.ensures.value ∙ c.in_ok-places.ensures.order ∙ ap places_by_level c.as_slice-gates.ensures) in
    omega (arith, n, k, m, p, q, d, c.requires.room)

pub gates-requires-clause-inside : goal.gates-requires-clause-inside
gates-requires-clause-inside c =
    subst (λ (z : List ℕ). All (λ (k : ℕ). k < length c.as_slice-gates.result.now) z) (sym c.deref.ensures.value) c.in_ok-places.ensures.inside

pub finish-requires-clause-latches : goal.finish-requires-clause-latches
finish-requires-clause-latches c =
    let one : c.inputs.new.self ≡ fold with_input_of (imported_none c.args.aig.now.max) c.args.aig.now.inputs =
    c.in_ok-inputs.ensures ∙ ap (λ z. fold with_input_of z c.as_slice.result.now) c.new-importer.ensures ∙ ap (fold with_input_of (imported_none c.args.aig.now.max)) (c.as_slice.ensures ∙ c.in_ok-literals.ensures) in
    let two : c.latches.new.self ≡ fold with_latch_of (fold with_input_of (imported_none c.args.aig.now.max) c.args.aig.now.inputs) c.args.aig.now.latches =
    c.in_ok-latches.ensures ∙ ap (λ z. fold with_latch_of z c.as_slice-2.result.now) one ∙ ap (fold with_latch_of (fold with_input_of (imported_none c.args.aig.now.max) c.args.aig.now.inputs)) c.as_slice-2.ensures in
    let a = ap (λ (m : Imported). m.system.parts.latches) c.in_ok-gates.ensures in
    let b = gate_latches c.as_slice-gates.result.now c.deref.result.now c.latches.new.self in
    let d = ap (λ (m : Imported). m.system.parts.latches) two in
    let e = latch_latches c.args.aig.now.latches (fold with_input_of (imported_none c.args.aig.now.max) c.args.aig.now.inputs) in
    let f = input_latches c.args.aig.now.inputs (imported_none c.args.aig.now.max) in
    omega (arith, a, b, d, e, f)

pub returns : goal.returns
unfolding system_of
returns c =
    let one : c.inputs.new.self ≡ fold with_input_of (imported_none c.args.aig.now.max) c.args.aig.now.inputs =
    c.in_ok-inputs.ensures ∙ ap (λ z. fold with_input_of z c.as_slice.result.now) c.new-importer.ensures ∙ ap (fold with_input_of (imported_none c.args.aig.now.max)) (c.as_slice.ensures ∙ c.in_ok-literals.ensures) in
    let two : c.latches.new.self ≡ fold with_latch_of (fold with_input_of (imported_none c.args.aig.now.max) c.args.aig.now.inputs) c.args.aig.now.latches =
    c.in_ok-latches.ensures ∙ ap (λ z. fold with_latch_of z c.as_slice-2.result.now) one ∙ ap (fold with_latch_of (fold with_input_of (imported_none c.args.aig.now.max) c.args.aig.now.inputs)) c.as_slice-2.ensures in
    let same : c.deref.result.now ≡ places_by_level c.args.aig.now.gates = c.deref.ensures.value ∙ c.in_ok-places.ensures.order ∙ ap places_by_level c.as_slice-gates.ensures in
    let three : c.gates.new.self ≡ imported c.args.aig.now (places_by_level c.args.aig.now.gates) =
    c.in_ok-gates.ensures
    ∙ ap (λ z. fold (λ (m : Imported) (k : ℕ). with_gate_of m (gate_at c.as_slice-gates.result.now k)) z c.deref.result.now) two
    ∙ ap (λ z. fold (λ (m : Imported) (k : ℕ). with_gate_of m (gate_at z k)) (fold with_latch_of (fold with_input_of (imported_none c.args.aig.now.max) c.args.aig.now.inputs) c.args.aig.now.latches) c.deref.result.now) c.as_slice-gates.ensures
    ∙ ap (fold (λ (m : Imported) (k : ℕ). with_gate_of m (gate_at c.args.aig.now.gates k)) (fold with_latch_of (fold with_input_of (imported_none c.args.aig.now.max) c.args.aig.now.inputs) c.args.aig.now.latches)) same in
    subst (λ (m : Imported). IfOk c.finish.result (λ s. s ≡ finished m c.args.aig.now)) three c.finish.ensures
