use Rattle.std.proofs.Common.{ℕ, List, length, get_or, sym, ap, ◌∙◌, arith}
use Rattle.std.proofs.lemmas.List.{get_or_past}
use Rattle.std.proofs.lemmas.List.FromFn.{length-map-range_with_len}
use Rattle.gi_aiger.specs.Tables.{value_of}
use Rattle.gi_aiger.proofs.Tabling.{told_at}
use Rattle.gi_circuit.proofs.found.Found.get.Goals as goal

pub returns-then-v-self : goal.returns-then-v-self
returns-then-v-self c =
    let n = ap (λ (es : List ℕ). length es) c.self.view_is in
    let m = length-map-range_with_len (value_of c.self.inside.table) 0 c.self.inside.count in
    c.new.ensures ∙ sym (get_or_past c.args.self.now c.args.v 0 (omega (arith, n, m, c.if-v-self.true)))

pub returns : goal.returns
returns c =
    c.get.ensures
    ∙ sym (told_at (value_of c.self.inside.table) c.self.inside.count c.args.v 0 (omega (arith, c.if-v-self.false)))
    ∙ ap (λ (es : List ℕ). get_or es c.args.v 0) c.self.view_is
