use Rattle.std.proofs.Common.{◌≡◌, Some, ap, ◌∙◌, sym, arith}
use Rattle.gi_model.specs.State.{State, live_run}
use Rattle.gi_model.specs.Views.{run_of, solve_of}
use Rattle.gi_reference.proofs.Following.{live_is_run}
use Rattle.gi_reference.proofs.machine.Plain.learn.Goals as goal

pub sliced-requires-clause-within : goal.sliced-requires-clause-within
sliced-requires-clause-within c =
    let e = sym (ap (λ (s : State). s.solve) c.self.view_is) ∙ ap solve_of (sym c.in-Running.ensures.value) in
    let live : live_run c.args.self.now ≡ Some (run_of c.in-Running.run') = live_is_run c.args.self.now (run_of c.in-Running.run') (c.is_alive.ensures.0 c.if-not-is_alive.false) e in
    let r = c.requires.within (run_of c.in-Running.run') live in
    omega arith

pub sliced-requires-clause-learns : goal.sliced-requires-clause-learns
sliced-requires-clause-learns c n =
    let e = sym (ap (λ (s : State). s.solve) c.self.view_is) ∙ ap solve_of (sym c.in-Running.ensures.value) in
    let live : live_run c.args.self.now ≡ Some (run_of c.in-Running.run') = live_is_run c.args.self.now (run_of c.in-Running.run') (c.is_alive.ensures.0 c.if-not-is_alive.false) e in
    let r = c.requires.learns (run_of c.in-Running.run') live n in
    omega arith
