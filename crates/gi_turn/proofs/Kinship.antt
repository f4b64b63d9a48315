-- The first number, whose numbers were split off, and the sole seat.
use Rattle.std.proofs.Common.{◌≡◌, ℕ, zero, suc, ◌<◌, false, List, [], ◌∷◌, ◌++◌, length, set, sym, refl, ap, ◌∙◌, subst, ⊎_elim, arith, length-set}
use Rattle.std.specs.Prelude.{Contains}
use Rattle.std.proofs.lemmas.List.Elements.{Contains-append_left, Contains-append_right, Contains-append_cases}
use mathlib.Core.Logic.{dite}
use native.Mathlib.Decide.{ℕ_discrete}
use Rattle.atomic_table.proofs.Lists.{at_longer}
use Rattle.gi_turn.specs.declared.view.Entry.{Entry}
use Rattle.gi_turn.specs.declared.view.View.{View}
use Rattle.gi_turn.specs.Entries.{At, StartsWith}
use Rattle.gi_turn.specs.Numbers.{child, Held, Numbers, Kinship}
use Rattle.gi_turn.specs.Views.{Sole, HoldsAsBefore, join_of, spent_view, after_split, split_off, after_join}
use Rattle.gi_turn.proofs.Views.{all_set, here, same_view, has_first, has_none, has_cases, at_end, at_below, prefix_whole, Change, kin_stays}
use Rattle.gi_turn.proofs.Numbers.{child_above, held_before_set, held_before_split, held_before_join}

-- the seat in the place 0 has the number 0
abbrev IsFirst : ℕ → View → Type 0
IsFirst j u = j ≡ 0 → u.spent ≡ false → u.number ≡ 0

first_of : (views : List View) → Kinship views → (j : ℕ) (u : View) → At views j u → IsFirst j u
first_of views k j u there zero_th alive = k.first u (subst (λ (i : ℕ). At views i u) zero_th there) alive

-- a step that changes one view, and neither its number nor what it holds
pub kinship_set : (views : List View) (id : ℕ) (v w : View) → Kinship views → At views id v → w.held ≡ v.held → w.number ≡ v.number → w.spent ≡ v.spent → Change views (set views id w) → Kinship (set views id w)
kinship_set views id v w k at held number live c = record {
  first = λ u there. all_set IsFirst views id w (λ e alive. number ∙ first_of views k id v at e (sym live ∙ alive)) (λ j u _ t. first_of views k j u t) 0 u there refl;
  kin = λ n h ne. kin_stays views (set views id w) n c (k.kin n (held_before_set views id v w n at held h) ne);
}

pub kinship_split : (views : List View) (id : ℕ) (v : View) → Kinship views → At views id v → Contains v.held v.number → Change views (set views id (after_split v) ++ split_off v ∷ [])
    → Kinship (set views id (after_split v) ++ split_off v ∷ [])
kinship_split views id v k at own c =
    let left : View = after_split v in
    let right : View = split_off v in
    let mid : List View = set views id left in
    let after : List View = mid ++ right ∷ [] in
    let size : length mid ≡ length views = length-set views id left in
    let some_view = at_below views id v at in
    let above = child_above v.number v.splits in
    let there : At after id left = at_longer mid (right ∷ []) id left (here views id v left at) in
    record {
      first = λ u is. ⊎_elim (λ old. all_set IsFirst views id left (λ e alive. first_of views k id v at e alive) (λ j u _ t. first_of views k j u t) 0 u old refl)
          (λ (new : (0 ≡ length mid) × (right ≡ u)). let none = new.0 in absurd (omega arith)) (at_end mid right u 0 is);
      kin = λ n h ne. ⊎_elim (λ before. kin_stays views after n c (k.kin n before ne))
          (λ (new : n ≡ child v.number v.splits). (id, left, there, subst (Contains left.kin) (sym new) (has_first (child v.number v.splits) v.kin), (v.number, own, omega arith))) (held_before_split views id v n at h);
    }

pub kinship_join : (views : List View) (id : ℕ) (v : View) (other : ℕ) (w : View) → Kinship views → At views id v → At views other w → Change views (set (set views id (after_join v w)) other spent_view)
    → Kinship (set (set views id (after_join v w)) other spent_view)
kinship_join views id v other w k at at' c =
    let both : View = after_join v w in
    record {
      first = λ u there. all_set IsFirst (set views id both) other spent_view (λ e alive. refl)
          (λ j x _ t. all_set IsFirst views id both (λ e alive. first_of views k id v at e alive) (λ j u _ t. first_of views k j u t) j x t) 0 u there refl;
      kin = λ n h ne. kin_stays views (set (set views id both) other spent_view) n c (k.kin n (held_before_join views id v other w n at at' h) ne);
    }

-- a sole seat holds each number, below a bound
sole_below : (log : List Entry) (owner : ℕ → ℕ) (views : List View) (id : ℕ) (v : View) → Numbers log owner views → Kinship views → At views id v → Sole v → (bound n : ℕ) → n < bound → Held views n → Contains v.held n
sole_below log owner views id v k f at sole zero n lt h = absurd (omega arith)
sole_below log owner views id v k f at sole (suc bound) n lt h = dite (ℕ_discrete n 0)
    (λ e. subst (Contains v.held) (sym e) sole.0)
    (λ ne. let x = f.kin n h ne in
    let m = x.4 in
    let below : m.0 < bound = (let a = m.2 in omega arith) in
    let mine : Contains v.held m.0 = sole_below log owner views id v k f at sole bound m.0 below (x.0, x.1, x.2, m.1) in
    let place : x.0 ≡ id = sym (k.one x.0 x.1 m.0 x.2 m.1) ∙ k.one id v m.0 at mine in
    let same : x.1 ≡ v = same_view views id x.1 v (subst (λ (j : ℕ). At views j x.1) place x.2) at in
    sole.1 n (subst (λ (y : View). Contains y.kin n) same x.3))

pub sole_holds : (log : List Entry) (owner : ℕ → ℕ) (views : List View) (id : ℕ) (v : View) → Numbers log owner views → Kinship views → At views id v → Sole v → (n : ℕ) → Held views n → Contains v.held n
sole_holds log owner views id v k f at sole n h = sole_below log owner views id v k f at sole (suc n) n (omega arith) h

-- so no other seat holds any
pub sole_alone : (log : List Entry) (owner : ℕ → ℕ) (views : List View) (id : ℕ) (v : View) → Numbers log owner views → Kinship views → At views id v → Sole v → (j : ℕ) (u : View) (n : ℕ) → At views j u → Contains u.held n → j ≡ id
sole_alone log owner views id v k f at sole j u n there has = sym (k.one j u n there has) ∙ k.one id v n at (sole_holds log owner views id v k f at sole n (j, u, there, has))

at_there : (log : List Entry) (k : ℕ) → k < length log → (e : Entry) × At log k e
at_there [] k lt = absurd (omega arith)
at_there (x ∷ xs) zero lt = (x, refl)
at_there (x ∷ xs) (suc k) lt = at_there xs k (omega arith)

-- and it has seen the whole history
pub sole_sees : (log : List Entry) (owner : ℕ → ℕ) (views : List View) (id : ℕ) (v : View) → Numbers log owner views → Kinship views → At views id v → StartsWith log v.seen → Sole v → log ≡ v.seen
sole_sees [] owner views id v k f at starts sole = sym (prefix_whole [] v.seen starts (omega arith))
sole_sees (x ∷ xs) owner views id v k f at starts sole =
    let log : List Entry = x ∷ xs in
    let last = at_there log (length xs) (omega arith) in
    let h = k.entries (length xs) last.0 last.1 in
    let place : h.0 ≡ id = sole_alone log owner views id v k f at sole h.0 h.1 last.0.by h.2 h.3 in
    let same : h.1 ≡ v = same_view views id h.1 v (subst (λ (j : ℕ). At views j h.1) place h.2) at in
    let long : length xs < length v.seen = subst (λ (y : View). length xs < length y.seen) same h.4 in
    sym (prefix_whole log v.seen starts (omega arith))

-- it takes back what it split off
pub sole_joined : (v a b : View) → Sole v → HoldsAsBefore (after_split v) a → HoldsAsBefore (split_off v) b → Sole (join_of a b)
sole_joined v a b sole l r =
    let q : ℕ = child v.number v.splits in
    let P : List ℕ × List ℕ → Type 0 = λ y. Contains y.0 0 × ((n : ℕ) → Contains y.1 n → Contains y.0 n) in
    let mine : (n : ℕ) → Contains v.held n → Contains (v.held ++ q ∷ []) n = λ n h. Contains-append_left v.held (q ∷ []) n h in
    let p : P (v.held ++ q ∷ [], (q ∷ v.kin) ++ []) = (
      mine 0 sole.0,
      λ n h. ⊎_elim
          (λ x. ⊎_elim (λ (is : n ≡ q). subst (Contains (v.held ++ q ∷ [])) (sym is) (Contains-append_right v.held (q ∷ []) q (has_first q []))) (λ k. mine n (sole.1 n k)) (has_cases q v.kin n x))
          (λ x. absurd (has_none n x)) (Contains-append_cases (q ∷ v.kin) [] n h),
    ) in
    let held : a.held ++ b.held ≡ v.held ++ q ∷ [] = ap (λ x. x ++ b.held) l.0 ∙ ap (λ x. v.held ++ x) r.0 in
    let kin : a.kin ++ b.kin ≡ (q ∷ v.kin) ++ [] = ap (λ x. x ++ b.kin) l.1 ∙ ap (λ x. (q ∷ v.kin) ++ x) r.1 in
    subst P (λ i. (sym held i, sym kin i)) p
