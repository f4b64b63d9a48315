use Rattle.std.proofs.Common.{◌++◌, List, ℕ, codes, map, subst}
use Rattle.gi_lit.specs.Literals.{number_of}
use Rattle.gi_wire.specs.CallText.{guard_numbers, wrapped}
use Rattle.gi_wire.proofs.WrappedMore.{Puts, puts_both, under_text}
use Rattle.gi_wire.proofs.call_lines.put_under.Goals as goal

pub returns : goal.returns
returns g c =
    let v = g.L.Link.state c.args.link.now in
    let w = g.L.Link.state c.put.new.link in
    let x = g.L.Link.state c.put_guard_words-column.new.link in
    let y = g.L.Link.state c.put_literal_words.new.link in
    let z = g.L.Link.state c.put-2.new.link in
    let column = c.put_guard_words-column.result in
    let guards = wrapped 5 (guard_numbers c.as_slice.result.now) in
    let literals = wrapped column (map number_of c.as_slice-2.result.now) in
    subst (λ (t : List ℕ). Puts v c.args.outbox.now z c.put-2.new.self t)
    (under_text c.as_slice.result.now c.args.guards.now c.as_slice-2.result.now c.args.clause.now column c.as_slice.ensures c.as_slice-2.ensures c.put_guard_words-column.ensures.column)
    (puts_both v c.args.outbox.now w c.put.new.self z c.put-2.new.self (codes "under") (guards ++ (literals ++ codes " 0")) c.put.ensures
    (puts_both w c.put.new.self x c.put_guard_words-column.new.outbox z c.put-2.new.self guards (literals ++ codes " 0") c.put_guard_words-column.ensures.text
    (puts_both x c.put_guard_words-column.new.outbox y c.put_literal_words.new.outbox z c.put-2.new.self literals (codes " 0") c.put_literal_words.ensures c.put-2.ensures)))
