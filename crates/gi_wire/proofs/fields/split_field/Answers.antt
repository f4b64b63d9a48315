use Rattle.std.proofs.Common.{ℕ, List, ◌∷◌, drop, ap, sym, ◌∙◌, arith}
use Rattle.gi_wire.specs.Fields.{fields_of}
use Rattle.gi_wire.proofs.FieldCuts.{field_run, field_whole}
use Rattle.gi_wire.proofs.fields.split_field.Goals as goal

pub returns-then-n-line : goal.returns-then-n-line
returns-then-n-line c = field_whole c.args.line.now c.field_len-n.result (omega arith) c.field_len-n.ensures.same

pub returns : goal.returns
returns c =
    field_run c.args.line.now c.field_len-n.result (omega arith) c.field_len-n.ensures.same (c.field_len-n.ensures.ends (omega arith))
    ∙ ap (λ (xs : List ℕ). xs ∷ fields_of (drop 1 (drop c.field_len-n.result c.args.line.now))) (sym c.split_at.ensures.front)
    ∙ ap (λ (xs : List ℕ). c.split_at.result.0.now ∷ fields_of (drop 1 xs)) (sym c.split_at.ensures.back)
    ∙ ap (λ (xs : List ℕ). c.split_at.result.0.now ∷ fields_of xs) (sym c.skip.ensures.value)
