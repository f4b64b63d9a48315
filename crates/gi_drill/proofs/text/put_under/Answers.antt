use Rattle.std.proofs.Common.{◌++◌, ◌∷◌, [], ap, ◌∙◌}
use Rattle.std.proofs.lemmas.Result.{on_ok_weaker}
use Rattle.gi_wire.specs.Literals.{list_text}
use Rattle.gi_drill.proofs.Texts.{under_text}
use Rattle.gi_drill.proofs.text.put_under.Goals as goal

pub returns : goal.returns
returns c = on_ok_weaker c.extend-2.result (λ e. e ∙ ap (λ t. t ++ 10 ∷ []) (c.in_ok-put_literals.ensures ∙ ap (λ t. t ++ list_text (c.args.literal ∷ [])) c.in_ok-extend.ensures.ok) ∙ under_text c.args.out.now (c.args.literal ∷ [])) c.extend-2.ensures.ok
