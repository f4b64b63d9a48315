use Rattle.std.proofs.Common.{◌≡◌, ◌++◌, ◌+◌, ◌≤◌, ap, ◌∙◌, arith, subst, true, length}
use Rattle.gi_text.specs.Words.{words_of}
use Rattle.gi_wire.specs.Grammar.{has_list}
use Rattle.gi_wire.specs.Items.{Joined}
use Rattle.gi_wire.specs.Limits.{most_joined}
use Rattle.gi_wire.specs.Taken.{IsJoined}
use Rattle.gi_wire.proofs.Joining.{holds_more, holds_none, is_joined_to}
use Rattle.gi_wire.proofs.begun.Begun.join.Goals as goal

pub invariant_of-self : goal.invariant_of-self
invariant_of-self c =
    let list : has_list (words_of c.self.inside.text ++ words_of c.args.line.now) ≡ true = ap (λ (j : Joined). has_list (j.words ++ words_of c.args.line.now)) c.self.view_is ∙ c.requires.list in
    let few : c.self.inside.size + length c.args.line.now ≤ most_joined = omega (arith, ap (λ (j : Joined). j.size) c.self.view_is, c.requires.few) in
    holds_more c.self.inside.text c.args.line.now c.add_line.new.text c.self.inside.size (c.self.inside.size + length c.args.line.now) c.args.place c.self.invariant c.requires.plus list few c.in-Ok.ensures

pub returns-in-Ok : goal.returns-in-Ok
returns-in-Ok c =
    let list : has_list (words_of c.self.inside.text ++ words_of c.args.line.now) ≡ true = ap (λ (j : Joined). has_list (j.words ++ words_of c.args.line.now)) c.self.view_is ∙ c.requires.list in
    let few : c.self.inside.size + length c.args.line.now ≤ most_joined = omega (arith, ap (λ (j : Joined). j.size) c.self.view_is, c.requires.few) in
    let new : Joined = record { first = c.self.inside.first; words = words_of c.add_line.new.text; size = c.self.inside.size + length c.args.line.now } in
    subst (λ (j : Joined). IsJoined c.args.line.now j new) c.self.view_is
    (is_joined_to c.self.inside.first c.self.inside.text c.args.line.now c.add_line.new.text c.self.inside.size c.args.place c.self.invariant c.requires.plus list c.in-Ok.ensures few)

pub invariant_of-self-in-Err : goal.invariant_of-self-in-Err
invariant_of-self-in-Err c = holds_none c.clear.new.self c.self.inside.size c.clear.ensures c.self.invariant.few
