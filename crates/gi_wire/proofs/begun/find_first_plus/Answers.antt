use Rattle.std.proofs.Common.{sym, ◌∙◌, [], refl}
use Rattle.gi_text.specs.Words.{words_of}
use Rattle.gi_wire.proofs.Joining.{first_ends, first_found}
use Rattle.gi_wire.proofs.begun.find_first_plus.Goals as goal

pub returns-then-may_go_on : goal.returns-then-may_go_on
returns-then-may_go_on c = first_found c.plus_at.result c.args.line.now (sym c.may_go_on.ensures ∙ c.if-may_go_on.true) c.plus_at.ensures

pub returns : goal.returns
returns c = first_ends [] (words_of c.args.line.now) refl (sym c.may_go_on.ensures ∙ c.if-may_go_on.false)
