use Rattle.std.proofs.Common.{◌≡◌, cond, length, ap, ◌∙◌}
use Rattle.std.specs.Prelude.{◌==◌}
use Rattle.std.proofs.lemmas.Result.{on_ok_weaker, on_err_weaker}
use Rattle.gi_circuit.specs.Nodes.{Parts, and_in}
use Rattle.gi_circuit.specs.Frames.{Draft}
use Rattle.gi_unroll.specs.Steps.{IsLonger, defined}
use Rattle.gi_unroll.proofs.Steps.{with_gate_is, gate_longer, defined_longer, IsLonger-trans, on_err_at}
use Rattle.gi_unroll.proofs.builder.Builder.gate.Goals as goal

pub returns-in_err-define-clause-err : goal.returns-in_err-define-clause-err
returns-in_err-define-clause-err c =
    let e : Draft = record { net = c.and.new.self.nodes; choices = c.and.new.self.inputs; lits = c.self.inside.lits.items; next = c.self.inside.next; clauses = c.self.inside.clauses; edges = c.self.inside.edges.items } in
    let p : e ≡ record c.args.self.now { net = (and_in c.args.self.now.net c.args.a c.args.b).nodes } =
    ap (λ (q : Parts). let z : Draft = record { net = q.nodes; choices = q.inputs; lits = c.self.inside.lits.items; next = c.self.inside.next; clauses = c.self.inside.clauses; edges = c.self.inside.edges.items } in z) c.in_ok-edge.ensures.ok.nodes
    ∙ ap (λ (v : Draft). let z : Draft = record v { net = (and_in v.net c.args.a c.args.b).nodes } in z) c.self.view_is in
    on_err_at (IsLonger c.args.self.now c.define.new.self) c.from_residual-in_err-define.result (gate_longer c.args.self.now e c.define.new.self c.args.a c.args.b p c.in_err-define.ensures.err.0 c.in_err-define.ensures.err.1)

pub returns-clause-ok : goal.returns-clause-ok
returns-clause-ok c =
    let e : Draft = record { net = c.and.new.self.nodes; choices = c.and.new.self.inputs; lits = c.self.inside.lits.items; next = c.self.inside.next; clauses = c.self.inside.clauses; edges = c.self.inside.edges.items } in
    let p : e ≡ record c.args.self.now { net = (and_in c.args.self.now.net c.args.a c.args.b).nodes } =
    ap (λ (q : Parts). let z : Draft = record { net = q.nodes; choices = q.inputs; lits = c.self.inside.lits.items; next = c.self.inside.next; clauses = c.self.inside.clauses; edges = c.self.inside.edges.items } in z) c.in_ok-edge.ensures.ok.nodes
    ∙ ap (λ (v : Draft). let z : Draft = record v { net = (and_in v.net c.args.a c.args.b).nodes } in z) c.self.view_is in
    let q : c.in_ok-edge.edge ≡ (and_in c.args.self.now.net c.args.a c.args.b).edge = c.in_ok-edge.ensures.ok.edge_is ∙ ap (λ (v : Draft). (and_in v.net c.args.a c.args.b).edge) c.self.view_is in
    let k : c.size-nodes.result.nodes ≡ length c.args.self.now.net = ap (λ s. s.nodes) c.size-nodes.ensures.size ∙ ap (λ (v : Draft). length v.net) c.self.view_is in
    let r : c.define.new.self ≡ cond (length c.and.new.self.nodes == length c.args.self.now.net) e (defined e c.args.a c.args.b) = c.in_ok-define.ensures.ok ∙ ap (λ m. cond (length c.and.new.self.nodes == m) e (defined e c.args.a c.args.b)) k in
    on_ok_weaker c.put.result (λ s. with_gate_is c.args.self.now e c.define.new.self c.put.new.self c.args.a c.args.b c.in_ok-edge.edge p q r s) c.put.ensures.ok

pub returns-clause-err : goal.returns-clause-err
returns-clause-err c =
    let e : Draft = record { net = c.and.new.self.nodes; choices = c.and.new.self.inputs; lits = c.self.inside.lits.items; next = c.self.inside.next; clauses = c.self.inside.clauses; edges = c.self.inside.edges.items } in
    let p : e ≡ record c.args.self.now { net = (and_in c.args.self.now.net c.args.a c.args.b).nodes } =
    ap (λ (q : Parts). let z : Draft = record { net = q.nodes; choices = q.inputs; lits = c.self.inside.lits.items; next = c.self.inside.next; clauses = c.self.inside.clauses; edges = c.self.inside.edges.items } in z) c.in_ok-edge.ensures.ok.nodes
    ∙ ap (λ (v : Draft). let z : Draft = record v { net = (and_in v.net c.args.a c.args.b).nodes } in z) c.self.view_is in
    let l : IsLonger c.args.self.now c.define.new.self = defined_longer c.args.self.now e c.define.new.self c.args.a c.args.b (length c.and.new.self.nodes == c.size-nodes.result.nodes) p c.in_ok-define.ensures.ok in
    on_err_weaker c.put.result (λ s. IsLonger-trans c.args.self.now c.define.new.self c.put.new.self l s) c.put.ensures.err
