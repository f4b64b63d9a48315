use Rattle.std.proofs.Common.{◌≡◌, ◌+◌, ◌-◌, ℕ, length, ap, sym, subst, ◌∙◌, arith}
use Rattle.gi_lit.specs.Problem.{names}
use Rattle.gi_store.specs.StoreView.{entries}
use Rattle.gi_prop.specs.Attached.{IsAttached, Detaches}
use Rattle.gi_cdcl.specs.Searching.{Searching}
use Rattle.gi_core.specs.Joined.{IsLeft, looked_at}
use Rattle.gi_core.proofs.Keys.{got_any, got_clause, count_all}
use Rattle.gi_core.proofs.Leaving.{looked_start, looked_attached, looked_drop, looked_keep}
use Rattle.gi_core.proofs.attaching.detach_learnt.Goals as goal
use Rattle.gi_core.proofs.attaching.detach_learnt.Goals.{then-names_var, else-names_var}

pub loop-i-init : goal.loop-i-init
loop-i-init c = record {
  keys = looked_start c.args.search.now c.args.g c.args.store.now (c.problem-first.result + (c.known-count.result - 0)) c.requires.all c.is_whole.ensures.keys (count_all c.args.store.now c.problem-first.result c.known-count.result (c.problem-first.result + (c.known-count.result - 0)) c.problem-first.ensures c.known-count.ensures (omega arith));
  goes = λ k g. g;
}

pub detach-requires : goal.detach-requires
detach-requires c =
    let h = c.args.store.now in
    let m = c.problem-first.result + (c.known-count.result - c.loop-i.i) in
    let i = c.problem-first.result + (c.known-count.result - (c.loop-i.i + 1)) in
    let step : m ≡ i + 1 = omega arith in
    let e = got_any h m i c.in-Some.key step (sym c.in-Some.is ∙ c.key_at.ensures) in
    subst (IsAttached c.loop-i.search.attached) e.key_is (looked_attached c.loop-i.search c.args.g (entries h) m i e.entry step e.within e.is c.loop-i.invariant.keys)

pub loop-i-preserved : goal.loop-i-preserved
loop-i-preserved c =
    let h = c.args.store.now in
    let m = c.problem-first.result + (c.known-count.result - c.loop-i.i) in
    let i = c.problem-first.result + (c.known-count.result - (c.loop-i.i + 1)) in
    let step : m ≡ i + 1 = omega arith in
    let e = got_any h m i c.in-Some.key step (sym c.in-Some.is ∙ c.key_at.ensures) in
    let read = got_clause h i c.in-Some.key c.clause.result.now e c.clause.ensures.only in
    let P : Searching → Type 0 = λ s. IsLeft c.args.search.now s (looked_at c.args.g (entries h) i) in
    elim c.if-names_var.branch [
      | then-names_var w ↦ subst P (sym w.search-is) (record {
        keys = looked_drop c.loop-i.search w.detach.new.self c.args.g (entries h) m i e.entry step e.within e.is (ap (names c.args.g) (sym read) ∙ sym w.if-names_var.ensures) c.loop-i.invariant.keys (subst (λ k. Detaches k c.loop-i.search.attached w.detach.new.self.attached) (sym e.key_is) w.detach.ensures.detached);
        goes = λ k g. w.detach.ensures.goes k (c.loop-i.invariant.goes k g);
      })
      | else-names_var w ↦ subst P (sym w.search-is) (record {
        keys = looked_keep c.loop-i.search c.args.g (entries h) m i e.entry step e.within e.is (ap (names c.args.g) (sym read) ∙ sym w.if-names_var.ensures) c.loop-i.invariant.keys;
        goes = c.loop-i.invariant.goes;
      })
    ]

pub returns : goal.returns
returns c =
    let h = c.args.store.now in
    let end : c.problem-first.result + (c.known-count.result - c.loop-i.i) ≡ length h.plain + length h.groups = omega arith in
    subst (λ (n : ℕ). IsLeft c.args.search.now c.loop-i.search (looked_at c.args.g (entries h) n)) end c.loop-i.invariant
