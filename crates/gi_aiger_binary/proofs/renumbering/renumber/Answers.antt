use Rattle.std.proofs.Common.{◌≡◌, ℕ, ◌+◌, List, length, ap, ◌∙◌, arith}
use Rattle.gi_aiger.specs.declared.aig.Aig.{Aig}
use Rattle.gi_aiger.specs.declared.aig.AndGate.{AndGate}
use Rattle.std.proofs.lemmas.Result.{IfOk-weaker}
use Rattle.gi_aiger_binary.specs.Renumbering.{variables_of, number_in, numbered_by, renumbered, in_order, numbered_anew}
use Rattle.gi_aiger_binary.specs.Sound.{IsWritable}
use Rattle.gi_aiger_binary.proofs.InOrder.{ordered_is}
use Rattle.gi_aiger_binary.proofs.Numbering.{number_bound}
use Rattle.gi_aiger_binary.proofs.Renumbered.{length-ordered, length-variables}
use Rattle.gi_aiger.specs.Tables.{value_of}
use Rattle.gi_aiger_binary.proofs.renumbering.renumber.Goals as goal

-- as many variables as inputs, latches and gates
count : (v : Aig) (gates ordered : List AndGate) (vs : List ℕ) → IsWritable v → gates ≡ v.gates → ordered ≡ in_order gates → vs ≡ variables_of v ordered → length vs ≡ length v.inputs + length v.latches + length v.gates
count v gates ordered vs w e o is =
    ap (λ (xs : List ℕ). length xs) is ∙ length-variables v ordered
    ∙ ap (λ (n : ℕ). length v.inputs + length v.latches + n) (ap (λ (gs : List AndGate). length gs) (o ∙ ap in_order e) ∙ length-ordered v.gates (in_order v.gates) (ordered_is v.gates w.apart w.levels))

pub numbers_of-requires : goal.numbers_of-requires
numbers_of-requires c =
    let n = count c.args.aig.now c.as_slice.result.now c.in_ok-ordered.ordered.items c.in_ok-variables.variables.items c.requires c.as_slice.ensures c.in_ok-ordered.ensures (c.in_ok-variables.ensures ∙ ap (variables_of c.args.aig.now) c.deref.ensures.value) in
    let d = ap (λ (xs : List ℕ). length xs) c.deref-2.ensures.value in
    omega (arith, n, d, c.requires.room)

pub overflow_cast-len : goal.overflow_cast-len
overflow_cast-len c =
    let n = count c.args.aig.now c.as_slice.result.now c.in_ok-ordered.ordered.items c.in_ok-variables.variables.items c.requires c.as_slice.ensures c.in_ok-ordered.ensures (c.in_ok-variables.ensures ∙ ap (variables_of c.args.aig.now) c.deref.ensures.value) in
    omega (arith, n, c.len.ensures, c.requires.room)

pub numbered-requires : goal.numbered-requires
numbered-requires c x =
    let n = count c.args.aig.now c.as_slice.result.now c.in_ok-ordered.ordered.items c.in_ok-variables.variables.items c.requires c.as_slice.ensures c.in_ok-ordered.ensures (c.in_ok-variables.ensures ∙ ap (variables_of c.args.aig.now) c.deref.ensures.value) in
    let d = ap (λ (xs : List ℕ). length xs) c.deref-2.ensures.value in
    omega (arith, n, d, c.in_ok-numbers.ensures x, number_bound c.deref-2.result.now x, c.requires.room)

-- the same numbers give the same value
anew : (v : Aig) (gates ordered : List AndGate) (numbers : ℕ → ℕ) (vs : List ℕ) (most : ℕ) (w : Aig) → gates ≡ v.gates → ordered ≡ in_order gates → vs ≡ variables_of v ordered → most ≡ length vs → ((x : ℕ) → numbers x ≡ number_in vs x) → w ≡ numbered_by numbers most v ordered → w ≡ numbered_anew v
anew v gates ordered numbers vs most w e o is m n h =
    let same : numbers ≡ number_in vs = λ i x. n x i in
    h ∙ ap (λ (f : ℕ → ℕ). numbered_by f most v ordered) same ∙ ap (λ (k : ℕ). numbered_by (number_in vs) k v ordered) m ∙ ap (λ (xs : List ℕ). numbered_by (number_in xs) (length xs) v ordered) is
    ∙ ap (renumbered v) (o ∙ ap in_order e)

pub returns : goal.returns
returns c =
    let vs = c.in_ok-variables.ensures ∙ ap (variables_of c.args.aig.now) c.deref.ensures.value in
    let numbers : (x : ℕ) → value_of c.in_ok-numbers.numbers x ≡ number_in c.in_ok-variables.variables.items x = λ x.
    c.in_ok-numbers.ensures x ∙ ap (λ (xs : List ℕ). number_in xs x) c.deref-2.ensures.value in
    IfOk-weaker c.numbered.result (λ w. w ≡ numbered_by (value_of c.in_ok-numbers.numbers) c.len.result c.args.aig.now c.deref-3.result.now) (λ w. w ≡ numbered_anew c.args.aig.now) (λ w h.
    anew c.args.aig.now c.as_slice.result.now c.in_ok-ordered.ordered.items (value_of c.in_ok-numbers.numbers) c.in_ok-variables.variables.items c.len.result w c.as_slice.ensures c.in_ok-ordered.ensures vs (omega (arith, c.len.ensures, c.in_ok-variables.variables.ok.0)) numbers (h ∙ ap (numbered_by (value_of c.in_ok-numbers.numbers) c.len.result c.args.aig.now) c.deref-3.ensures.value))
    c.numbered.ensures
