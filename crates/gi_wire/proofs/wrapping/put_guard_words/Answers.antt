use Rattle.std.proofs.Common.{◌∙◌, List, ℕ, arith, map, pos, subst}
use Rattle.std.specs.Fmt.{signed_decimal}
use Rattle.gi_wire.specs.CallText.{placed, wrapped}
use Rattle.gi_wire.proofs.WrappedMore.{Puts, column_end, puts_both, wrapped_end}
use Rattle.gi_wire.proofs.wrapping.put_guard_words.Goals as goal

pub returns-clause-text : goal.returns-clause-text
returns-clause-text g c =
    let v = g.L.Link.state c.args.link.now in
    let w = g.L.Link.state c.put_each_guard-column.new.link in
    let x = g.L.Link.state c.put_word.new.link in
    let filled = c.put_each_guard-column.result in
    let guards = c.args.guards.now in
    subst (λ (t : List ℕ). Puts v c.args.outbox.now x c.put_word.new.outbox t) (wrapped_end c.args.column filled guards (λ e. omega (arith, c.if-guards-eq1.false, e)) c.put_each_guard-column.ensures.column)
    (puts_both v c.args.outbox.now w c.put_each_guard-column.new.outbox x c.put_word.new.outbox (wrapped c.args.column (map pos guards)) (placed filled (signed_decimal (pos 0))) c.put_each_guard-column.ensures.text c.put_word.ensures.text)

pub returns-clause-column : goal.returns-clause-column
returns-clause-column g c = c.put_word.ensures.column ∙ column_end c.args.column c.put_each_guard-column.result c.args.guards.now (λ e. omega (arith, c.if-guards-eq1.false, e)) c.put_each_guard-column.ensures.column
