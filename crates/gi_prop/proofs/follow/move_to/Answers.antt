use Rattle.std.proofs.Common.{◌≡◌, ◌<◌, ◌∷◌, length, get_or, set, sym, ap, ◌∙◌, subst, arith, get_or-set_other, get_or-set_same}
use Rattle.gi_chains.specs.Lists.{Lists, items_at, IsFree}
use Rattle.gi_chains.proofs.Moving.{IsFree-unlinked}
use Rattle.gi_prop.proofs.follow.move_to.Goals as goal

pub push_front-requires-clause-node : goal.push_front-requires-clause-node
push_front-requires-clause-node c = subst (λ (v : Lists). c.args.node < v.nodes) (sym (c.unlink.ensures.after _ _ c.requires.linked.2)) (c.requires.apart.within _ _ _ c.requires.linked.2)

pub push_front-requires-clause-free : goal.push_front-requires-clause-free
push_front-requires-clause-free c = subst (λ (v : Lists). IsFree v.lists c.args.node) (sym (c.unlink.ensures.after _ _ c.requires.linked.2)) (IsFree-unlinked _ _ _ c.requires.apart _ _ _ c.requires.linked.2)

pub set_word-requires : goal.set_word-requires
set_word-requires c = subst (λ (v : Lists). c.args.node < v.nodes) (sym c.push_front.ensures.after) (subst (λ (v : Lists). c.args.node < v.nodes) (sym (c.unlink.ensures.after _ _ c.requires.linked.2)) (c.requires.apart.within _ _ _ c.requires.linked.2))

pub returns-clause-moved : goal.returns-clause-moved
returns-clause-moved c = record {
  each = λ from i s. ap (λ (v : Lists). v.lists) c.set_word.ensures.after ∙ ap (λ (v : Lists). v.lists) c.push_front.ensures.after ∙ ap (λ (v : Lists). set v.lists c.args.list (c.args.node ∷ items_at v.lists c.args.list)) (c.unlink.ensures.after from i s);
  words = λ k ne.
      ap (λ (v : Lists). get_or v.words k 0) c.set_word.ensures.after
      ∙ get_or-set_other c.push_front.new.self.words c.args.node k c.args.word 0 ne
      ∙ ap (λ (v : Lists). get_or v.words k 0) c.push_front.ensures.after
      ∙ ap (λ (v : Lists). get_or v.words k 0) (c.unlink.ensures.after _ _ c.requires.linked.2);
  apart = c.set_word.ensures.apart;
}

pub returns-clause-word : goal.returns-clause-word
returns-clause-word c =
    let lt : c.args.node < c.push_front.new.self.nodes = subst (λ (v : Lists). c.args.node < v.nodes) (sym c.push_front.ensures.after) (subst (λ (v : Lists). c.args.node < v.nodes) (sym (c.unlink.ensures.after _ _ c.requires.linked.2)) (c.requires.apart.within _ _ _ c.requires.linked.2)) in
    let long : length c.push_front.new.self.words ≡ c.push_front.new.self.nodes = c.push_front.ensures.apart.worded in
    ap (λ (v : Lists). get_or v.words c.args.node 0) c.set_word.ensures.after ∙ get_or-set_same c.push_front.new.self.words c.args.node c.args.word 0 (omega arith)
