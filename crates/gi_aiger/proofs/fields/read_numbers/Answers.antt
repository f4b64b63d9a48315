use Rattle.std.proofs.Common.{ℕ, List, sym, subst}
use Rattle.gi_aiger.specs.Fields.{numbers_at, numbers_of}
use Rattle.gi_aiger.proofs.Parting.{SoFar, goes_on, stops, ends}
use Rattle.gi_aiger.proofs.fields.read_numbers.Goals as goal

pub returns-in-None : goal.returns-in-None
returns-in-None c =
    stops c.fields.numbers.items (numbers_of c.args.line.now) c.in-Some.field.now c.next.new.self
    (subst (λ (fs : List (List ℕ)). SoFar c.fields.numbers.items (numbers_of c.args.line.now) (numbers_at fs)) c.in-Some.ensures.steps c.fields.invariant) c.in-None.ensures

pub fields-preserved : goal.fields-preserved
fields-preserved c =
    subst (λ (xs : List ℕ). SoFar xs (numbers_of c.args.line.now) (numbers_at c.next.new.self)) (sym c.in_ok-push-in-Some-read_unsigned.ensures.items)
    (goes_on c.fields.numbers.items (numbers_of c.args.line.now) c.in-Some.field.now c.next.new.self c.in-Some-read_unsigned.n
    (subst (λ (fs : List (List ℕ)). SoFar c.fields.numbers.items (numbers_of c.args.line.now) (numbers_at fs)) c.in-Some.ensures.steps c.fields.invariant) c.in-Some-read_unsigned.ensures)

pub returns : goal.returns
returns c = ends c.fields.numbers.items (numbers_of c.args.line.now) (subst (λ (fs : List (List ℕ)). SoFar c.fields.numbers.items (numbers_of c.args.line.now) (numbers_at fs)) c.in_default.ensures.steps.0 c.fields.invariant)
