use Rattle.std.proofs.Common.{◌≡◌, true, false, sym, ◌∙◌}
use Rattle.std.proofs.lemmas.Slice.Eq.{bytes_eq-Decides}
use Rattle.gi_wire.proofs.Spelled.{literal_other, literal_same}
use Rattle.gi_wire.proofs.told.keep_spelled.Goals as goal

pub returns-then-eq : goal.returns-then-eq
returns-then-eq c =
    let same = (bytes_eq-Decides c.as_slice.result.now c.args.field.now).0 (sym c.eq.ensures ∙ c.if-eq.true) in
    sym (literal_same c.args.field.now c.args.literal c.requires (sym same ∙ c.as_slice.ensures ∙ c.spelling.ensures))

pub returns : goal.returns
returns c = sym (literal_other c.args.field.now c.args.literal c.requires (λ e.
    let yes = (bytes_eq-Decides c.as_slice.result.now c.args.field.now).1 (c.as_slice.ensures ∙ c.spelling.ensures ∙ sym e) in
    let no : true ≡ false = sym yes ∙ sym c.eq.ensures ∙ c.if-eq.false in
    cc))
