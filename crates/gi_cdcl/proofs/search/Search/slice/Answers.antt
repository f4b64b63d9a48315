use Rattle.std.proofs.Common.{ℕ, List, ap, ◌∙◌, sym, subst}
use Rattle.gi_prop.specs.TrailView.{TrailView}
use Rattle.gi_cdcl.specs.Ends.{Slices}
use Rattle.gi_cdcl.specs.Finish.{Finishes}
use Rattle.gi_cdcl.proofs.Ending.{learns_keep, slices_of, ended_or, finishes_or}
use Rattle.gi_cdcl.specs.Searching.{Searching, MatchesStore, HasAll}
use Rattle.gi_cdcl.proofs.Rooted.{rooted, goes_back, rooted_sound, cancelled_root}
use Rattle.gi_cdcl.proofs.search.Search.slice.Goals as goal

pub returns-clause-keeps : goal.returns-clause-keeps
returns-clause-keeps g c = learns_keep c.args.store.now c.start-ended.new.store c.start-ended.new.progress.news.items c.start-ended.ensures.ran.learnt

pub returns-clause-slices : goal.returns-clause-slices
returns-clause-slices g c =
    let n = c.start-ended.new.progress.news.items in
    let r = c.start-ended.ensures.ran in
    let f = subst (Finishes c.start-ended.new.store c.args.assumed.now c.args.limit c.args.serial c.start-ended.new.progress.mark n) (sym c.unwrap_or-end.ensures) (finishes_or _ _ _ _ _ _ _ _ _ _ c.start-ended.result c.start-ended.ensures.ended) in
    let s = slices_of c.args.store.now c.start-ended.new.store n c.args.assumed.now c.args.limit c.args.serial c.start-ended.new.progress.mark c.unwrap_or-end.result r.learnt r.few f in
    subst (λ (news : List (List ℕ)). Slices c.args.store.now c.start-ended.new.store c.args.assumed.now c.args.limit c.args.serial c.start-ended.new.progress.mark news c.unwrap_or-end.result) (sym c.from_vec.ensures) s

pub returns-clause-mark : goal.returns-clause-mark
returns-clause-mark g c = c.start-ended.ensures.ran.mark

pub returns-clause-asks : goal.returns-clause-asks
returns-clause-asks g c ne = rw c.from_vec.ensures (ended_or _ _ _ _ _ _ _ _ _ _ c.start-ended.result c.start-ended.ensures.ended (λ e. ne (c.unwrap_or-end.ensures ∙ e))).asks

pub returns-clause-asks_root : goal.returns-clause-asks_root
returns-clause-asks_root g c ne nb e = rw c.from_vec.ensures ((ended_or _ _ _ _ _ _ _ _ _ _ c.start-ended.result c.start-ended.ensures.ended (λ m. ne (c.unwrap_or-end.ensures ∙ m))).asks_root (λ m. nb (c.unwrap_or-end.ensures ∙ m)) e)

pub returns-clause-goes : goal.returns-clause-goes
returns-clause-goes g c ne =
    let p = c.start-ended.new.state.prop in
    let h = c.start-ended.new.store in
    let t = c.start-ended.new.state.trail in
    let r = ended_or _ _ _ _ _ _ _ _ _ _ c.start-ended.result c.start-ended.ensures.ended (λ e. ne (c.unwrap_or-end.ensures ∙ e)) in
    let a = r.attached in (
      goes_back p h t c.back_to_root.new.trail c.level-level.ensures.trail a r.sound c.back_to_root.ensures.after (c.back_to_root.ensures.goes p h a.goes),
      record { all = a.all; only = a.only },
    )

pub invariant_of-self : goal.invariant_of-self
invariant_of-self g c = ap (λ (t : TrailView). t.level_starts) c.back_to_root.ensures.after ∙ cancelled_root c.start-ended.new.state.trail

pub start-ended-requires-clause-sound : goal.start-ended-requires-clause-sound
start-ended-requires-clause-sound g c = rooted_sound (record { attached = c.self.inside.state.prop; root = c.self.inside.state.trail }) c.args.store.now (subst (λ (s : Searching). MatchesStore s c.args.store.now) (sym c.self.view_is) c.requires.goes)

pub start-ended-requires-clause-attached : goal.start-ended-requires-clause-attached
start-ended-requires-clause-attached g c =
    let v = subst (λ (s : Searching). MatchesStore s c.args.store.now) (sym c.self.view_is) c.requires.goes in
    let a = subst (λ (s : Searching). HasAll s c.args.store.now) (sym c.self.view_is) c.requires.all in
    record { goes = (rooted (record { attached = c.self.inside.state.prop; root = c.self.inside.state.trail }) c.args.store.now v).goes; all = a.all; only = a.only }
