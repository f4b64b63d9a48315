use Rattle.std.proofs.Common.{sym, ap, ◌∙◌, arith}
use Rattle.gi_aiger.specs.Sections.{first_left, from_next}
use Rattle.gi_aiger.proofs.Sectioning.{found, passes, finds_none}
use Rattle.gi_aiger.proofs.sections.next_section.Goals as goal

pub returns-then-left_in-gt0 : goal.returns-then-left_in-gt0
returns-then-left_in-gt0 c = sym (c.sections.invariant ∙ found c.args.head.now c.args.taken.now c.args.head.now.form c.sections.here c.in-Some.s c.in-Some.is (λ e. omega (arith, c.left_in.ensures, c.if-left_in-gt0.true, e)))

pub sections-preserved : goal.sections-preserved
sections-preserved c = c.sections.invariant ∙ passes c.args.head.now c.args.taken.now c.args.head.now.form c.sections.here c.in-Some.s c.in-Some.is (omega (arith, c.left_in.ensures, c.if-left_in-gt0.false)) ∙ ap (λ o. first_left c.args.head.now c.args.taken.now (from_next c.args.head.now.form o)) (sym c.next_of-here.ensures)

pub returns : goal.returns
returns c = sym (c.sections.invariant ∙ finds_none c.args.head.now c.args.taken.now c.args.head.now.form c.sections.here c.in_default.is)
