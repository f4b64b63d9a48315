use Rattle.std.proofs.Common.{◌≡◌, List, Bool, ℕ, length, ap, ◌∙◌, subst, arith}
use Rattle.std.specs.List.{Contains}
use Rattle.std.proofs.lemmas.List.{take_at}
use Rattle.std.proofs.lemmas.Result.{IfOk-weaker}
use Rattle.gi_store.specs.StoreView.{problem_of}
use Rattle.gi_scopes.specs.Under.{base_of}
use Rattle.gi_scopes.specs.Traced.{Refutes, IsPicked}
use Rattle.gi_scopes.proofs.Tracing.{lead_end, picked_own}
use Rattle.gi_scopes.proofs.find.culprits.Goals as goal

pub trace-requires-clause-reached : goal.trace-requires-clause-reached
trace-requires-clause-reached c = (c.args.given.now, c.requires.reached)

pub returns-clause-refutes : goal.returns-clause-refutes
returns-clause-refutes c =
    let p = problem_of (base_of c.args.store.now) in
    let lits : List ℕ = c.args.trail.now.lits in
    let given : List ℕ = c.args.given.now in
    let clause : List ℕ = c.args.clause.now in
    let seen_is : c.as_slice.result.now ≡ c.trace.new.seen = c.as_slice.ensures.value ∙ take_at c.trace.new.seen _ c.in_ok-seen.seen.len (omega (arith, c.trace.ensures.count, ap length c.as_mut_slice.ensures.value, c.in_ok-seen.seen.ok.0)) in
    IfOk-weaker c.pick.result (IsPicked lits c.as_slice.result.now given) (λ (w : List ℕ). Refutes p w clause × ((m : ℕ) → Contains clause m → Contains given m → Contains w m))
    (λ w h.
    let picked : IsPicked lits c.trace.new.seen given w = subst (λ (bs : List Bool). IsPicked lits bs given w) seen_is h in
    (lead_end p lits given clause c.trace.new.seen w (c.trace.ensures.leads given c.requires.reached) picked, picked_own p lits given clause c.trace.new.seen w c.requires.falsified c.trace.ensures.seen picked))
    c.pick.ensures.picked
