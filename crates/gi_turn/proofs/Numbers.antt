-- Numbers of seats.
use Rattle.std.proofs.Common.{◌≡◌, ◌≢◌, ℕ, zero, suc, ◌<◌, ◌≤◌, ◌⊎◌, inl, inr, false, cond, eqb, List, [], ◌∷◌, ◌++◌, length, set, sym, refl, ap, ◌∙◌, subst, ⊎_elim, arith, length-set, eq-eqb, ne_eqb}
use Rattle.std.specs.Prelude.{Contains}
use Rattle.std.proofs.lemmas.List.Elements.{Contains-append_left, Contains-append_right, Contains-append_cases}
use mathlib.Core.Logic.{dite}
use native.Mathlib.Decide.{ℕ_discrete}
use Rattle.atomic_table.proofs.Lists.{set_else, at_longer, at_last}
use Rattle.gi_turn.specs.declared.view.Entry.{Entry}
use Rattle.gi_turn.specs.declared.view.View.{View}
use Rattle.gi_turn.specs.Entries.{At, StartsWith, longer_of}
use Rattle.gi_turn.specs.Numbers.{child, Held, OwnIn, Numbers}
use Rattle.gi_turn.specs.Views.{OwnSeen, spent_view, after_split, split_off, after_join, after_settle, join_of}
use Rattle.gi_turn.proofs.Views.{all_set, here, same_view, has_one, has_first, has_rest, has_none, has_cases, at_end, longer_is, Grows, grows_same, Change, origin_stays, change_set}

pub child_above : (n c : ℕ) → n < child n c
child_above n zero = omega arith
child_above n (suc c) = let h = child_above n c in omega arith

pub child_same : (n c m d : ℕ) → child n c ≡ child m d → (n ≡ m) × (c ≡ d)
child_same n zero m zero e = (omega arith, refl)
child_same n zero m (suc d) e = absurd (omega arith)
child_same n (suc c) m zero e = absurd (omega arith)
child_same n (suc c) m (suc d) e = let h : child n c ≡ child m d = omega arith in let s = child_same n c m d h in (s.0, ap suc s.1)

-- what is held after a step that changes one view, and not what it holds, was held before
pub held_before_set : (views : List View) (id : ℕ) (v w : View) (n : ℕ) → At views id v → w.held ≡ v.held → Held (set views id w) n → Held views n
held_before_set views id v w n at held h = all_set (λ j u. Contains u.held n → Held views n) views id w (λ has. (id, v, at, subst (λ l. Contains l n) held has)) (λ j u _ there has. (j, u, there, has)) h.0 h.1 h.2 h.3

-- such a step, which does not change the number either, keeps the rule of numbers
pub numbers_set : (log : List Entry) (owner : ℕ → ℕ) (views : List View) (id : ℕ) (v w : View) → Numbers log owner views → At views id v
    → w.held ≡ v.held → ((m : List ℕ × List Entry) → Contains w.merged m → Contains v.merged m) → w.number ≡ v.number → w.spent ≡ v.spent → Change views (set views id w) → Numbers log owner (set views id w)
numbers_set log owner views id v w k at held merged number live c =
    let after : List View = set views id w in
    record {
      own = all_set (λ j u. u.spent ≡ false → Contains u.held u.number) views id w
          (λ alive. subst (λ (y : List ℕ × ℕ). Contains y.0 y.1) (λ i. (sym held i, sym number i)) (k.own id v at (sym live ∙ alive)))
          (λ j u _ there. k.own j u there);
      one = λ j u n there has. all_set (λ j u. Contains u.held n → owner n ≡ j) views id w (λ has. k.one id v n at (subst (λ l. Contains l n) held has)) (λ j u _ there has. k.one j u n there has) j u there has;
      from = λ n h ne. origin_stays views after n c (k.from n (held_before_set views id v w n at held h) ne);
      entries = λ p e there. let h = k.entries p e there in let s = c.stays h.0 h.1 h.2 in (s.0, s.1, s.2, s.3.held e.by h.3, (let le = s.3.seen in let lt = h.4 in omega arith));
      merged = λ j u m there has. all_set (λ j u. Contains u.merged m → ((n : ℕ) → Contains m.0 n → Contains u.held n) × OwnIn m.0 (length m.1) log) views id w
          (λ has. let x = k.merged id v m at (merged m has) in (λ n h. subst (λ l. Contains l n) (sym held) (x.0 n h), x.1)) (λ j u _ t has. k.merged j u m t has) j u there has;
    }

-- an entry of the seat comes at the end of the history
pub numbers_longer : (log : List Entry) (owner : ℕ → ℕ) (views : List View) (id : ℕ) (w : View) (e : Entry) → Numbers log owner views → At views id w → w.spent ≡ false → w.merged ≡ [] → e.by ≡ w.number → length log < length w.seen
    → Numbers (log ++ e ∷ []) owner views
numbers_longer log owner views id w e k at alive none_merged by seen = record {
  own = k.own;
  one = k.one;
  from = k.from;
  entries = λ p x there. ⊎_elim (λ old. k.entries p x old)
      (λ (new : (p ≡ length log) × (e ≡ x)). (id, w, at, subst (λ n. Contains w.held n) (sym by ∙ ap (λ (y : Entry). y.by) new.1) (k.own id w at alive), (let is = new.0 in omega arith)))
      (at_end log e x p there);
  merged = λ j u m there has. let x = k.merged j u m there has in (
    x.0,
    λ p y at_p mine. ⊎_elim (λ old. x.1 p y old mine)
        (λ (new : (p ≡ length log) × (e ≡ y)).
        let by_both : e.by ≡ y.by = ap (λ (z : Entry). z.by) new.1 in
        let holds : Contains u.held e.by = x.0 e.by (subst (Contains m.0) (sym by_both) mine) in
        let own : Contains w.held e.by = subst (Contains w.held) (sym by) (k.own id w at alive) in
        let place : j ≡ id = sym (k.one j u e.by there holds) ∙ k.one id w e.by at own in
        let same : u ≡ w = same_view views id u w (subst (λ (i : ℕ). At views i u) place there) at in
        absurd (has_none m (subst (λ l. Contains l m) (ap (λ (z : View). z.merged) same ∙ none_merged) has)))
        (at_end log e y p at_p),
  );
}

-- a seat has seen each entry whose number it holds
pub own_seen : (log : List Entry) (owner : ℕ → ℕ) (views : List View) (id : ℕ) (v : View) → Numbers log owner views → At views id v → OwnSeen v log
own_seen log owner views id v r at k e there has =
    let x = r.entries k e there in
    let place : x.0 ≡ id = sym (r.one x.0 x.1 e.by x.2 x.3) ∙ r.one id v e.by at has in
    subst (λ (y : View). k < length y.seen) (same_view views id x.1 v (subst (λ (j : ℕ). At views j x.1) place x.2) at) x.4

-- the next number of a seat is new
pub new_number : (log : List Entry) (owner : ℕ → ℕ) (views : List View) (id : ℕ) (v : View) → Numbers log owner views → At views id v → v.spent ≡ false → Held views (child v.number v.splits) → ⊥
new_number log owner views id v k at alive h =
    let q : ℕ = child v.number v.splits in
    let above = child_above v.number v.splits in
    let nonzero : q ≢ 0 = λ e. omega arith in
    let o = k.from q h nonzero in
    let same = child_same v.number v.splits o.0 o.1 o.2 in
    let lt = o.4 id v at alive same.0 in
    let eq : v.splits ≡ o.1 = same.1 in
    omega arith

pub change_split : (log : List Entry) (owner : ℕ → ℕ) (views : List View) (id : ℕ) (v : View) → Numbers log owner views → At views id v → v.spent ≡ false → Change views (set views id (after_split v) ++ split_off v ∷ [])
change_split log owner views id v k at alive =
    let left : View = after_split v in
    let right : View = split_off v in
    let q : ℕ = child v.number v.splits in
    let c : Change views (set views id left) = change_set views id v left at
    (record { held = λ n h. h; kin = λ n h. has_rest q v.kin n h; asked = λ a h. h; seen = omega arith }) refl refl (omega arith) in
    record {
      stays = λ i u there. let s = c.stays i u there in (s.0, s.1, at_longer (set views id left) (right ∷ []) s.0 s.1 s.2, s.3);
      back = λ p held j w there live is. ⊎_elim (λ old. c.back p held j w old live is)
          (λ (new : (j ≡ length (set views id left)) × (right ≡ w)). absurd (new_number log owner views id v k at alive (subst (Held views) (sym is ∙ sym (ap (λ (y : View). y.number) new.1)) held)))
          (at_end (set views id left) right w j there);
    }

-- what is held after a split was held before, or is the new number
pub held_before_split : (views : List View) (id : ℕ) (v : View) (n : ℕ) → At views id v → Held (set views id (after_split v) ++ split_off v ∷ []) n → Held views n ⊎ (n ≡ child v.number v.splits)
held_before_split views id v n at h =
    let q : ℕ = child v.number v.splits in
    let left : View = after_split v in
    let right : View = split_off v in
    ⊎_elim (λ there. inl (held_before_set views id v left n at refl (h.0, h.1, there, h.3)))
    (λ (new : (h.0 ≡ length (set views id left)) × (right ≡ h.1)). inr (has_one q n (subst (λ (y : View). Contains y.held n) (sym new.1) h.3))) (at_end (set views id left) right h.1 h.0 h.2)

-- who holds the number n after the seat in the place i was given the number q
abbrev pub given : (ℕ → ℕ) → ℕ → ℕ → ℕ → ℕ
given owner q i n = cond (eqb n q) i (owner n)

pub numbers_split : (log : List Entry) (owner : ℕ → ℕ) (views : List View) (id : ℕ) (v : View) → Numbers log owner views → At views id v → v.spent ≡ false
    → Numbers log (given owner (child v.number v.splits) (length views)) (set views id (after_split v) ++ split_off v ∷ [])
numbers_split log owner views id v k at alive =
    let left : View = after_split v in
    let right : View = split_off v in
    let q : ℕ = child v.number v.splits in
    let mid : List View = set views id left in
    let after : List View = mid ++ right ∷ [] in
    let size : length mid ≡ length views = length-set views id left in
    let c : Change views after = change_split log owner views id v k at alive in
    let above = child_above v.number v.splits in
    let last : At after (length views) right = at_last mid right (length views) size in
    let first : At after id left = at_longer mid (right ∷ []) id left (here views id v left at) in
    let old : (n : ℕ) (j : ℕ) (u : View) → At mid j u → Contains u.held n → Held views n × (owner n ≡ j) = λ n. all_set (λ j u. Contains u.held n → Held views n × (owner n ≡ j)) views id left
    (λ has. ((id, v, at, has), k.one id v n at has)) (λ j u _ there has. ((j, u, there, has), k.one j u n there has)) in
    record {
      own = λ j u there live. ⊎_elim (λ before. all_set (λ j u. u.spent ≡ false → Contains u.held u.number) views id left (λ a. k.own id v at a) (λ j u _ t. k.own j u t) j u before live)
          (λ (new : (j ≡ length mid) × (right ≡ u)). subst (λ (y : View). Contains y.held y.number) new.1 (has_first q [])) (at_end mid right u j there);
      one = λ j u n there has. ⊎_elim
          (λ before. let h = old n j u before has in let ne : n ≢ q = λ e. new_number log owner views id v k at alive (subst (Held views) e h.0) in ap (λ b. cond b (length views) (owner n)) (ne_eqb n q ne) ∙ h.1)
          (λ (new : (j ≡ length mid) × (right ≡ u)). ap (λ b. cond b (length views) (owner n)) (eq-eqb n q (has_one q n (subst (λ (y : View). Contains y.held n) (sym new.1) has))) ∙ (sym size ∙ sym new.0)) (at_end mid right u j there);
      from = λ n h ne. ⊎_elim (λ before. origin_stays views after n c (k.from n before ne))
          (λ (new : n ≡ q). (
            v.number,
            v.splits,
            new,
            (id, left, first, k.own id v at alive),
            λ j x there live is. ⊎_elim
                (all_set (λ j x. x.spent ≡ false → x.number ≡ v.number → v.splits < x.splits) views id left (λ _ _. omega arith)
                (λ j x other t l i. absurd (other (sym (k.one j x v.number t (subst (Contains x.held) i (k.own j x t l))) ∙ k.one id v v.number at (k.own id v at alive)))) j x)
                (λ (e : (j ≡ length mid) × (right ≡ x)). λ l i. let same : q ≡ v.number = ap (λ (y : View). y.number) e.1 ∙ i in absurd (omega arith))
                (at_end mid right x j there) live is,
          ))
          (held_before_split views id v n at h);
      entries = λ p e there. let h = k.entries p e there in let s = c.stays h.0 h.1 h.2 in (s.0, s.1, s.2, s.3.held e.by h.3, (let le = s.3.seen in let lt = h.4 in omega arith));
      merged = λ j u m there has. ⊎_elim
          (λ before. all_set (λ j u. Contains u.merged m → ((n : ℕ) → Contains m.0 n → Contains u.held n) × OwnIn m.0 (length m.1) log) views id left (λ has. k.merged id v m at has) (λ j u _ t has. k.merged j u m t has) j u before has)
          (λ (new : (j ≡ length mid) × (right ≡ u)). absurd (has_none m (subst (λ (y : View). Contains y.merged m) (sym new.1) has))) (at_end mid right u j there);
    }

pub longer_left : (xs ys : List Entry) → length xs ≤ length (longer_of xs ys)
longer_left xs ys = ⊎_elim (λ h. let e : length (longer_of xs ys) ≡ length ys = ap length h.0 in let l = h.1 in omega arith) (λ h. let e : length (longer_of xs ys) ≡ length xs = ap length h.0 in omega arith) (longer_is xs ys)

pub longer_right : (xs ys : List Entry) → length ys ≤ length (longer_of xs ys)
longer_right xs ys = ⊎_elim (λ h. let e : length (longer_of xs ys) ≡ length ys = ap length h.0 in omega arith) (λ h. let e : length (longer_of xs ys) ≡ length xs = ap length h.0 in let l = h.1 in omega arith) (longer_is xs ys)

-- the two histories that were joined are beginnings of the one that stays, and have all entries of those who had seen them
pub joined_one : (v w b c : View) → b ≡ after_join v w → c ≡ after_settle b → ((x : List ℕ × List Entry) → Contains b.merged x → length x.1 ≤ length b.seen → StartsWith b.seen x.1 × OwnIn x.0 (length x.1) b.seen)
    → (StartsWith c.seen v.seen × OwnSeen v c.seen) × (StartsWith c.seen w.seen × OwnSeen w c.seen)
joined_one v w b c e f h =
    let F : View → Type 0 = λ y. (x : List ℕ × List Entry) → Contains y.merged x → length x.1 ≤ length y.seen → StartsWith y.seen x.1 × OwnIn x.0 (length x.1) y.seen in
    let g : F (after_join v w) = subst F e h in
    let R : View → Type 0 = λ y. (StartsWith y.seen v.seen × OwnSeen v y.seen) × (StartsWith y.seen w.seen × OwnSeen w y.seen) in
    let a : List ℕ × List Entry = (v.held, v.seen) in
    let z : List ℕ × List Entry = (w.held, w.seen) in
    let r : R (join_of v w) = (g a (has_first a (z ∷ [])) (longer_left v.seen w.seen), g z (has_rest a (z ∷ []) z (has_first z [])) (longer_right v.seen w.seen)) in
    subst R (sym (f ∙ ap after_settle e)) r

pub change_join : (views : List View) (id : ℕ) (v : View) (other : ℕ) (w : View) → At views id v → other ≢ id → At views other w → Change views (set (set views id (after_join v w)) other spent_view)
change_join views id v other w at apart at' =
    let both : View = after_join v w in
    let mid : List View = set views id both in
    let after : List View = set mid other spent_view in
    let there : At after id both = set_else mid other id spent_view (λ e. apart (sym e)) ∙ here views id v both at in
    let mine : Grows v both = record { held = λ n h. Contains-append_left v.held w.held n h; kin = λ n h. Contains-append_left v.kin w.kin n h; asked = λ a h. Contains-append_left v.asked w.asked a h; seen = longer_left v.seen w.seen } in
    let theirs : Grows w both = record { held = λ n h. Contains-append_right v.held w.held n h; kin = λ n h. Contains-append_right v.kin w.kin n h; asked = λ a h. Contains-append_right v.asked w.asked a h; seen = longer_right v.seen w.seen } in
    record {
      stays = λ i u is. dite (ℕ_discrete i id)
          (λ e. (id, both, there, subst (λ (y : View). Grows y both) (same_view views id v u at (subst (λ (j : ℕ). At views j u) e is)) mine))
          (λ ne. dite (ℕ_discrete i other)
          (λ e. (id, both, there, subst (λ (y : View). Grows y both) (same_view views other w u at' (subst (λ (j : ℕ). At views j u) e is)) theirs))
          (λ ne'. (i, u, set_else mid other i spent_view ne' ∙ (set_else views id i both ne ∙ is), grows_same u)));
      back = λ p held. all_set (λ j x. x.spent ≡ false → x.number ≡ p → (i : ℕ) × (u : View) × At views i u × (u.spent ≡ false) × (u.number ≡ p) × (u.splits ≤ x.splits)) mid other spent_view
          (λ alive. absurd cc)
          (λ j x _ t. all_set (λ j x. x.spent ≡ false → x.number ≡ p → (i : ℕ) × (u : View) × At views i u × (u.spent ≡ false) × (u.number ≡ p) × (u.splits ≤ x.splits)) views id both
          (λ alive is. (id, v, at, alive, is, omega arith)) (λ j u _ t alive is. (j, u, t, alive, is, omega arith)) j x t);
    }

-- what is held after a join was held before
pub held_before_join : (views : List View) (id : ℕ) (v : View) (other : ℕ) (w : View) (n : ℕ) → At views id v → At views other w → Held (set (set views id (after_join v w)) other spent_view) n → Held views n
held_before_join views id v other w n at at' h =
    let both : View = after_join v w in
    let F : ℕ → View → Type 0 = λ j u. Contains u.held n → Held views n in
    all_set F (set views id both) other spent_view (λ has. absurd (has_none n has))
    (λ j x _ t. all_set F views id both (λ has. ⊎_elim (λ h. (id, v, at, h)) (λ h. (other, w, at', h)) (Contains-append_cases v.held w.held n has)) (λ j u _ t has. (j, u, t, has)) j x t) h.0 h.1 h.2 h.3

-- who holds the number n after the seat in the place id has taken what that in the place other held
abbrev pub taken : (ℕ → ℕ) → ℕ → ℕ → ℕ → ℕ
taken owner id other n = cond (eqb (owner n) other) id (owner n)

pub numbers_join : (log : List Entry) (owner : ℕ → ℕ) (views : List View) (id : ℕ) (v : View) (other : ℕ) (w : View) → Numbers log owner views → At views id v → other ≢ id → At views other w
    → Numbers log (taken owner id other) (set (set views id (after_join v w)) other spent_view)
numbers_join log owner views id v other w k at apart at' =
    let both : View = after_join v w in
    let mid : List View = set views id both in
    let after : List View = set mid other spent_view in
    let c : Change views after = change_join views id v other w at apart at' in
    let hit : (n : ℕ) → owner n ≡ other → taken owner id other n ≡ id = λ n e. ap (λ b. cond b id (owner n)) (eq-eqb (owner n) other e) in
    let miss : (n : ℕ) → owner n ≢ other → taken owner id other n ≡ owner n = λ n e. ap (λ b. cond b id (owner n)) (ne_eqb (owner n) other e) in
    let F : ℕ → ℕ → View → Type 0 = λ n j u. Contains u.held n → taken owner id other n ≡ j in
    let old : (n : ℕ) (j : ℕ) (u : View) → At after j u → F n j u = λ n. all_set (F n) mid other spent_view
    (λ has. absurd (has_none n has))
    (λ j x far t. all_set (λ j u. j ≢ other → F n j u) views id both
    (λ _ has. ⊎_elim
    (λ h. let e = k.one id v n at h in miss n (λ x. apart (sym x ∙ e)) ∙ e)
    (λ h. hit n (k.one other w n at' h))
    (Contains-append_cases v.held w.held n has))
    (λ j u _ t far has. let e = k.one j u n t has in miss n (λ x. far (sym e ∙ x)) ∙ e) j x t far) in
    let F_merged : ℕ → View → Type 0 = λ j u. (m : List ℕ × List Entry) → Contains u.merged m → ((n : ℕ) → Contains m.0 n → Contains u.held n) × OwnIn m.0 (length m.1) log in
    let G : List ℕ × List Entry → Type 0 = λ m. ((n : ℕ) → Contains m.0 n → Contains both.held n) × OwnIn m.0 (length m.1) log in
    record {
      own = all_set (λ j u. u.spent ≡ false → Contains u.held u.number) mid other spent_view (λ alive. absurd cc)
          (λ j x _ t. all_set (λ j u. u.spent ≡ false → Contains u.held u.number) views id both (λ alive. Contains-append_left v.held w.held v.number (k.own id v at alive)) (λ j u _ t. k.own j u t) j x t);
      one = λ j u n there has. old n j u there has;
      from = λ n h ne. origin_stays views after n c (k.from n (held_before_join views id v other w n at at' h) ne);
      entries = λ p e there. let h = k.entries p e there in let s = c.stays h.0 h.1 h.2 in (s.0, s.1, s.2, s.3.held e.by h.3, (let le = s.3.seen in let lt = h.4 in omega arith));
      merged = λ j u m there has. all_set F_merged mid other spent_view (λ m has. absurd (has_none m has))
          (λ j x _ t. all_set F_merged views id both
          (λ m has. ⊎_elim (λ e. subst G (sym e) (λ n h. Contains-append_left v.held w.held n h, own_seen log owner views id v k at))
          (λ h. subst G (sym (has_one (w.held, w.seen) m h)) (λ n h. Contains-append_right v.held w.held n h, own_seen log owner views other w k at'))
          (has_cases (v.held, v.seen) ((w.held, w.seen) ∷ []) m has))
          (λ j u _ t m has. k.merged j u m t has) j x t) j u there m has;
    }
