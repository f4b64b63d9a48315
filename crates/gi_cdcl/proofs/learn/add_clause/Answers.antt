use Rattle.std.proofs.Common.{◌≡◌, ℕ, List, [], ◌∷◌, ◌++◌, ap, ◌∙◌, arith}
use Rattle.std.proofs.lemmas.Result.{on_ok_weaker}
use Rattle.gi_store.specs.StoreView.{StoreView, with_learnt}
use Rattle.gi_cdcl.proofs.Stores.{holds_within}
use Rattle.gi_cdcl.proofs.Going.{goes_learnt, learnt_more, tied_learnt}
use Rattle.gi_cdcl.proofs.learn.add_clause.Goals as goal

pub attach-requires-clause-goes : goal.attach-requires-clause-goes
attach-requires-clause-goes c =
    let e : c.learn.new.self ≡ with_learnt c.in_ok-key.key c.args.clause c.args.store.now = c.in_ok-key.ensures.ok ∙ ap (λ (xs : List ℕ). with_learnt c.in_ok-key.key xs c.args.store.now) c.as_slice.ensures in
    goes_learnt c.args.prop.now c.args.store.now c.args.trail.now c.learn.new.self c.in_ok-key.key c.args.clause c.requires.tied.attached e c.in_ok-key.ensures.keeps

pub attach-requires-clause-within : goal.attach-requires-clause-within
attach-requires-clause-within c clause held =
    let e : c.learn.new.self ≡ with_learnt c.in_ok-key.key c.args.clause c.args.store.now = c.in_ok-key.ensures.ok ∙ ap (λ (xs : List ℕ). with_learnt c.in_ok-key.key xs c.args.store.now) c.as_slice.ensures in
    let v : c.learn.new.self.vars ≡ c.args.store.now.vars = ap (λ (s : StoreView). s.vars) e in
    holds_within c.learn.new.self c.vars-vars.ensures.whole c.in_ok-key.key clause held c.args.trail.now.vars (omega (arith, v, c.requires.tied.room))

pub returns-clause-learnt : goal.returns-clause-learnt
returns-clause-learnt c s h =
    let e : c.learn.new.self ≡ with_learnt c.in_ok-key.key c.args.clause c.args.store.now = c.in_ok-key.ensures.ok ∙ ap (λ (xs : List ℕ). with_learnt c.in_ok-key.key xs c.args.store.now) c.as_slice.ensures in
    let f : c.push_reserved.new.self.items ≡ c.args.news.now.items ++ c.args.clause ∷ [] = c.push_reserved.ensures.items ∙ ap (λ (xs : List (List ℕ)). xs ++ c.args.clause ∷ []) c.reserve.ensures.items in
    learnt_more s c.args.store.now c.learn.new.self c.args.news.now.items c.push_reserved.new.self.items c.in_ok-key.key c.args.clause e f c.requires.taught c.requires.fresh h

pub returns-clause-stored : goal.returns-clause-stored
returns-clause-stored c =
    let e : c.learn.new.self ≡ with_learnt c.in_ok-key.key c.args.clause c.args.store.now = c.in_ok-key.ensures.ok ∙ ap (λ (xs : List ℕ). with_learnt c.in_ok-key.key xs c.args.store.now) c.as_slice.ensures in
    on_ok_weaker c.attach.result (λ m. (c.in_ok-key.key, e)) c.attach.ensures.attached

pub returns-clause-tied : goal.returns-clause-tied
returns-clause-tied c =
    let e : c.learn.new.self ≡ with_learnt c.in_ok-key.key c.args.clause c.args.store.now = c.in_ok-key.ensures.ok ∙ ap (λ (xs : List ℕ). with_learnt c.in_ok-key.key xs c.args.store.now) c.as_slice.ensures in
    on_ok_weaker c.attach.result (λ m. tied_learnt c.args.prop.now c.attach.new.self c.args.store.now c.args.trail.now c.learn.new.self c.in_ok-key.key c.args.clause c.requires.tied e m c.attach.ensures.goes) c.attach.ensures.attached
