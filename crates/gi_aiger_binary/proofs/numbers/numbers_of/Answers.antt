use Rattle.std.proofs.Common.{ℕ, ◌+◌, List, take, get_or, sym, ap, ◌∙◌, arith}
use Rattle.std.proofs.lemmas.List.{take_more, length-take-le}
use Rattle.gi_aiger_binary.specs.Renumbering.{number_in}
use Rattle.gi_aiger_binary.proofs.Numbering.{number-push, number-none}
use Rattle.gi_aiger.specs.Tables.{value_of}
use Rattle.gi_aiger_binary.proofs.numbers.numbers_of.Goals as goal

pub loop-place-init : goal.loop-place-init
loop-place-init c x = c.new-numbers.ensures x ∙ sym (number-none x)

pub loop-place-preserved : goal.loop-place-preserved
loop-place-preserved c x =
    let len = length-take-le c.loop-place.place c.args.variables.now c.loop-place.auto.place-end in
    c.in_ok-note.ensures x
    ∙ number-push (value_of c.loop-place.numbers) (take c.loop-place.place c.args.variables.now) (get_or c.args.variables.now c.loop-place.place 0) (c.loop-place.place + 1) x (omega (arith, len)) (c.loop-place.invariant x)
    ∙ ap (λ (vs : List ℕ). number_in vs x) (sym (take_more c.args.variables.now c.loop-place.place 0 c.loop-place-test.true))
