use Rattle.std.proofs.Common.{◌<◌, ◌+◌, ◌∷◌, ℕ, List, length, drop, ap, sym, ◌∙◌, arith}
use Rattle.gi_aiger.specs.Fields.{fields_of}
use Rattle.gi_aiger.proofs.Parting.{fields_one, fields_split}
use Rattle.gi_aiger.proofs.Spacing.{parts, space_none, space_split}
use Rattle.gi_aiger.proofs.fields.split_field.Goals as goal

pub returns-then-n-line-clause-fields : goal.returns-then-n-line-clause-fields
returns-then-n-line-clause-fields c = fields_one c.args.line.now (λ k lt. c.field_len-n.ensures.inside k (omega (arith, lt, c.if-n-line.true)))

pub returns-clause-fields : goal.returns-clause-fields
returns-clause-fields c =
    let lt : c.field_len-n.result < length c.args.line.now = omega (arith, c.field_len-n.ensures.fits, c.if-n-line.false) in
    fields_split c.args.line.now c.field_len-n.result lt c.field_len-n.ensures.inside (c.field_len-n.ensures.ends lt)
    ∙ ap (λ (xs : List ℕ). xs ∷ fields_of (drop (c.field_len-n.result + 1) c.args.line.now)) (sym c.front.ensures)
    ∙ ap (λ (xs : List ℕ). c.front.result.now ∷ fields_of xs) (sym c.skip.ensures.value)

pub returns-then-n-line-clause-space : goal.returns-then-n-line-clause-space
returns-then-n-line-clause-space c = space_none c.args.line.now (λ k lt. c.field_len-n.ensures.inside k (omega (arith, lt, c.if-n-line.true)))

pub returns-clause-space : goal.returns-clause-space
returns-clause-space c =
    let lt : c.field_len-n.result < length c.args.line.now = omega (arith, c.field_len-n.ensures.fits, c.if-n-line.false) in
    space_split c.args.line.now c.field_len-n.result lt c.field_len-n.ensures.inside (c.field_len-n.ensures.ends lt)
    ∙ ap (λ (xs : List ℕ). parts xs (drop (c.field_len-n.result + 1) c.args.line.now)) (sym c.front.ensures)
    ∙ ap (λ (xs : List ℕ). parts c.front.result.now xs) (sym c.skip.ensures.value)
