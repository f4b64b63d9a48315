use Rattle.std.proofs.Common.{ℕ, List, length, set, ap, ◌∙◌, arith}
use Rattle.std.proofs.lemmas.List.{set_past}
use Rattle.std.proofs.lemmas.List.FromFn.{length-map-range_with_len}
use Rattle.gi_aiger.specs.Tables.{value_of}
use Rattle.gi_aiger.proofs.Tabling.{told_put}
use Rattle.gi_circuit.proofs.found.Found.put.Goals as goal

pub returns-then-v-self-clause-ok : goal.returns-then-v-self-clause-ok
returns-then-v-self-clause-ok c =
    let n = ap (λ (es : List ℕ). length es) c.self.view_is in
    let m = length-map-range_with_len (value_of c.self.inside.table) 0 c.self.inside.count in
    let past = set_past c.args.self.now c.args.v c.args.edge (omega (arith, n, m, c.if-v-self.true)) in
    let view = c.self.view_is in
    cc

pub returns-clause-ok : goal.returns-clause-ok
returns-clause-ok c =
    told_put (value_of c.self.inside.table) (value_of c.put.new.self) c.self.inside.count c.args.v c.args.edge c.in_ok-put.ensures.same c.in_ok-put.ensures.rest (omega (arith, c.if-v-self.false))
    ∙ ap (λ (es : List ℕ). set es c.args.v c.args.edge) c.self.view_is
