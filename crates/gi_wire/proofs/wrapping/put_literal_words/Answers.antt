use Rattle.std.proofs.Common.{◌≡◌, map, take, sym, ◌∙◌, subst, arith, rules, List, ℕ, w64, FitsSigned, to_z, of_z}
use Rattle.std.proofs.lemmas.Grind.{common_steps}
use Rattle.std.proofs.lemmas.Int.{ints, to_z-of_z}
use Rattle.std.specs.Fmt.{signed_decimal}
use Rattle.gi_lit.specs.Literals.{number_of}
use Rattle.gi_wire.specs.CallText.{placed, wrapped}
use Rattle.gi_wire.proofs.WrappedMore.{Puts, column_more, column_none, puts_both, puts_none, wrapped_more, wrapped_none}
use Rattle.gi_wire.proofs.wrapping.put_literal_words.Goals as goal

pub loop-literal-init : goal.loop-literal-init
loop-literal-init g c =
    let v = g.L.Link.state c.args.link.now in
    record {
      text = subst (λ (t : List ℕ). Puts v c.args.outbox.now v c.args.outbox.now t) (sym (wrapped_none c.args.column)) (puts_none v c.args.outbox.now);
      column = column_none c.args.column;
      short = c.requires;
    }

pub loop-literal-preserved : goal.loop-literal-preserved
loop-literal-preserved g c =
    let v = g.L.Link.state c.args.link.now in
    let w = g.L.Link.state c.loop-literal.link in
    let x = g.L.Link.state c.put_word-filled.new.link in
    let was = c.loop-literal.invariant in
    let now = c.put_word-filled.ensures in
    let i = c.loop-literal.literal-index in
    let xs = c.args.literals.now in
    let z = to_z w64 (of_z w64 c.from.result) in
    let fits : FitsSigned w64 c.from.result = first_of (search rules, grind (arith, ints, common_steps)) in
    let same : c.from.result ≡ number_of c.literal-item.result = first_of ((cc), grind (arith, common_steps)) in
    let number : z ≡ number_of c.literal-item.result = to_z-of_z w64 c.from.result fits ∙ same in
    record {
      text = subst (λ (t : List ℕ). Puts v c.args.outbox.now x c.put_word-filled.new.outbox t)
          (wrapped_more number_of c.args.column c.loop-literal.filled xs i c.literal-item.result z c.loop-literal-test.true c.literal-item.is number was.column)
          (puts_both v c.args.outbox.now w c.loop-literal.outbox x c.put_word-filled.new.outbox (wrapped c.args.column (map number_of (take i xs))) (placed c.loop-literal.filled (signed_decimal z)) was.text now.text);
      column = now.column ∙ column_more number_of c.args.column c.loop-literal.filled xs i c.literal-item.result z c.loop-literal-test.true c.literal-item.is number was.column;
      short = now.short;
    }
