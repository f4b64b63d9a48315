use Rattle.std.proofs.Common.{◌≡◌, ◌↔◌, [], false, true, subst}
use Rattle.gi_wire.specs.Grammar.{has_list}
use Rattle.gi_wire.specs.Items.{Joined}
use Rattle.gi_wire.proofs.Joining.{tells_some, tells_words}
use Rattle.gi_wire.proofs.begun.Begun.is_empty.Goals as goal

pub returns-clause-none : goal.returns-clause-none
returns-clause-none c = subst (λ (j : Joined). (c.is_empty.result ≡ true) ↔ (j.words ≡ [])) c.self.view_is
    (tells_words c.self.inside.text c.as_slice.result.now c.self.inside.size c.is_empty.result c.self.invariant c.as_slice.ensures c.is_empty.ensures)

pub returns-clause-list : goal.returns-clause-list
returns-clause-list c = subst (λ (j : Joined). c.is_empty.result ≡ false → has_list j.words ≡ true) c.self.view_is
    (λ h. c.self.invariant.list (tells_some c.self.inside.text c.as_slice.result.now c.is_empty.result c.as_slice.ensures c.is_empty.ensures h))
