use Rattle.std.proofs.Common.{◌≡◌, ◌+◌, ◌<◌, length, take, drop, Some, None, subst, ◌∙◌, ap, arith}
use Rattle.gi_text.specs.Lines.{Kept, line_at}
use Rattle.gi_text.proofs.LineAt.{before_more, found_behind, none_at, none_behind}
use Rattle.gi_text.proofs.lines.Lines.find_end.Goals as goal

pub invariant_of-self : goal.invariant_of-self
invariant_of-self c =
    let rest = c.skip.ensures.value ∙ ap (drop c.self.inside.looked) c.as_slice.ensures in
    let found = found_behind c.self.inside.held c.skip.result.now c.self.inside.looked c.in-Some.i rest c.self.invariant.within c.self.invariant.before c.in-Some.ensures in
    record {
      within = omega (arith, found.0);
      before = before_more c.self.inside.held c.skip.result.now c.self.inside.looked c.in-Some.i rest c.self.invariant.before c.in-Some.ensures.0.before;
      drops = c.self.invariant.drops;
    }

pub invariant_of-self-in-None : goal.invariant_of-self-in-None
invariant_of-self-in-None c =
    let rest = c.skip.ensures.value ∙ ap (drop c.self.inside.looked) c.as_slice.ensures in
    record {
      within = omega (arith, c.len-self-inside.ensures);
      before = λ k lt. none_behind c.self.inside.held c.skip.result.now c.self.inside.looked rest c.self.invariant.within c.self.invariant.before c.in-None.ensures k (omega (arith, c.len-self-inside.ensures));
      drops = c.self.invariant.drops;
    }

pub returns-in-Some-clause-found : goal.returns-in-Some-clause-found
returns-in-Some-clause-found c =
    let rest = c.skip.ensures.value ∙ ap (drop c.self.inside.looked) c.as_slice.ensures in
    let n = c.self.inside.looked + c.in-Some.i in
    subst (λ (k : Kept). (n < length k.left) × (line_at k.left ≡ Some (take n k.left, drop (n + 1) k.left))) c.self.view_is
    (found_behind c.self.inside.held c.skip.result.now c.self.inside.looked c.in-Some.i rest c.self.invariant.within c.self.invariant.before c.in-Some.ensures)

pub returns-in-None-clause-found : goal.returns-in-None-clause-found
returns-in-None-clause-found c =
    let rest = c.skip.ensures.value ∙ ap (drop c.self.inside.looked) c.as_slice.ensures in
    subst (λ (k : Kept). line_at k.left ≡ None) c.self.view_is
    (none_at c.self.inside.held (none_behind c.self.inside.held c.skip.result.now c.self.inside.looked rest c.self.invariant.within c.self.invariant.before c.in-None.ensures))
