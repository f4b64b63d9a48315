-- Marks that were asked and seen.
use Rattle.std.proofs.Common.{◌≡◌, ◌≢◌, ℕ, ◌+◌, ◌≤◌, max, false, List, [], ◌∷◌, ◌++◌, length, take, set, sym, refl, ap, ◌∙◌, subst, ⊎_elim, arith, length-append}
use Rattle.std.proofs.lemmas.List.{take-append-le}
use Rattle.std.proofs.lemmas.List.Elements.{Contains-append_left, Contains-append_right, Contains-append_cases}
use mathlib.Core.Logic.{dite}
use native.Mathlib.Decide.{dec_lt}
use Rattle.gi_turn.specs.declared.view.Entry.{Entry}
use Rattle.gi_turn.specs.declared.view.View.{View}
use Rattle.gi_turn.specs.Entries.{At, StartsWith}
use Rattle.gi_turn.specs.Marks.{AskedAt, Asked, MarksOf, Marks}
use Rattle.gi_turn.specs.Views.{after_ask, after_see, after_split, split_off, after_join, spent_view}
use Rattle.gi_turn.proofs.Views.{all_set, here, has_one, has_none, at_end, take_prefix, prefix_length, Change, asked_at_stays, asked_stays}

module _ (may : List Entry → ℕ → Type 0) where
  marks_of_stays : (stop : ℕ) (log : List Entry) (views after : List View) (v : View) → Change views after → MarksOf may stop log views v → MarksOf may stop log after v
  marks_of_stays stop log views after v c m = record { asked = m.asked; seen = λ mark has ne. asked_stays views after mark c (m.seen mark has ne); fresh = m.fresh; alive = m.alive }

  -- a step after which each view's marks are right
  pub marks_stay : (stop : ℕ) (log : List Entry) (views after : List View) → Marks may stop log views → Change views after → ((i : ℕ) (v : View) → At after i v → MarksOf may stop log views v) → Marks may stop log after
  marks_stay stop log views after m c each = record {
    stop_asked = λ ne. asked_stays views after stop c (m.stop_asked ne);
    each = λ i v at. marks_of_stays stop log views after v c (each i v at);
    entries = λ k e there ne. let h = m.entries k e there ne in (h.0, h.1, asked_at_stays views after e.mark h.0 c h.2);
  }

  pub marks_set : (stop : ℕ) (log : List Entry) (views : List View) (id : ℕ) (w : View) → Marks may stop log views → Change views (set views id w) → MarksOf may stop log views w → Marks may stop log (set views id w)
  marks_set stop log views id w m c mine = marks_stay stop log views (set views id w) m c (all_set (λ i v. MarksOf may stop log views v) views id w mine (λ j u _ there. m.each j u there))

  -- the seat saw what the word holds
  pub marks_see : (stop : ℕ) (log : List Entry) (views : List View) (v : View) → Marks may stop log views → MarksOf may stop log views v → MarksOf may stop log views (after_see v stop)
  marks_see stop log views v m mine = record {
    asked = mine.asked;
    seen = λ mark has ne. ⊎_elim (λ h. mine.seen mark h ne)
        (λ h. let same : mark ≡ stop = has_one stop mark h in subst (Asked views) (sym same) (m.stop_asked (λ z. ne (same ∙ z)))) (Contains-append_cases v.marks (stop ∷ []) mark has);
    fresh = λ mark has. ⊎_elim (λ h. Contains-append_left v.marks (stop ∷ []) mark (mine.fresh mark h)) (λ h. Contains-append_right v.marks (stop ∷ []) mark h) (Contains-append_cases v.fresh (stop ∷ []) mark has);
    alive = mine.alive;
  }

  marks_of_higher : (stop more : ℕ) (log : List Entry) (views : List View) (v : View) → stop ≤ more → MarksOf may stop log views v → MarksOf may more log views v
  marks_of_higher stop more log views v le m = record { asked = λ mark l has. let h = m.asked mark l has in let low = h.0 in (omega arith, h.1, h.2); seen = m.seen; fresh = m.fresh; alive = m.alive }

  pub marks_ask : (stop mark : ℕ) (log : List Entry) (views : List View) (id : ℕ) (v : View) → Marks may stop log views → At views id v → StartsWith log v.seen → may v.seen mark → v.spent ≡ false → Change views (set views id (after_ask v mark))
      → Marks may (max stop mark) log (set views id (after_ask v mark))
  marks_ask stop mark log views id v m at starts allowed live c =
      let w : View = after_ask v mark in
      let after : List View = set views id w in
      let more : ℕ = max stop mark in
      let le : stop ≤ more = omega arith in
      let mine = m.each id v at in
      let prefix : take (length v.seen) log ≡ v.seen = ap (take (length v.seen)) starts.1 ∙ take_prefix v.seen starts.0 in
      let new : AskedAt after mark (length v.seen) = (id, w, here views id v w at, Contains-append_right v.asked ((mark, length v.seen) ∷ []) (mark, length v.seen) (0, omega arith, refl)) in
      record {
        stop_asked = λ ne. dite (dec_lt stop mark)
            (λ lt. let e : more ≡ mark = omega arith in (length v.seen, subst (λ (n : ℕ). AskedAt after n (length v.seen)) (sym e) new))
            (λ ge. let e : more ≡ stop = omega arith in subst (Asked after) (sym e) (asked_stays views after stop c (m.stop_asked (λ z. ne (e ∙ z)))));
        each = λ i u there. marks_of_stays more log views after u c (all_set (λ j u. MarksOf may more log views u) views id w
            (record {
              asked = λ n l has. ⊎_elim (λ h. let x = mine.asked n l h in let low = x.0 in (omega arith, x.1, x.2))
                  (λ h. let same : (n, l) ≡ (mark, length v.seen) = has_one (mark, length v.seen) (n, l) h in
                  let is : n ≡ mark = ap (λ (y : ℕ × ℕ). y.0) same in
                  let il : l ≡ length v.seen = ap (λ (y : ℕ × ℕ). y.1) same in
                  let long = prefix_length log v.seen starts in
                  (omega arith, omega arith, subst (λ (y : ℕ × ℕ). may (take y.1 log) y.0) (sym same) (subst (λ (xs : List Entry). may xs mark) (sym prefix) allowed)))
                  (Contains-append_cases v.asked ((mark, length v.seen) ∷ []) (n, l) has);
              seen = mine.seen;
              fresh = mine.fresh;
              alive = λ a h. live;
            })
            (λ j u _ t. marks_of_higher stop more log views u le (m.each j u t)) i u there);
        entries = λ k e there ne. let h = m.entries k e there ne in (h.0, h.1, asked_at_stays views after e.mark h.0 c h.2);
      }

  -- an entry comes whose mark was seen
  pub marks_longer : (stop : ℕ) (log : List Entry) (views : List View) (e : Entry) → Marks may stop log views → (e.mark ≢ 0 → Asked views e.mark) → Marks may stop (log ++ e ∷ []) views
  marks_longer stop log views e m asked =
      let longer : length (log ++ e ∷ []) ≡ length log + 1 = length-append log (e ∷ []) in
      record {
        stop_asked = m.stop_asked;
        each = λ i v at. let x = m.each i v at in record {
          asked = λ mark l has. let h = x.asked mark l has in let le : l ≤ length log = h.1 in (h.0, omega arith, subst (λ (xs : List Entry). may xs mark) (sym (take-append-le l log (e ∷ []) le)) h.2);
          seen = x.seen;
          fresh = x.fresh;
          alive = x.alive;
        };
        entries = λ k x there. ⊎_elim (λ old. m.entries k x old)
            (λ (new : (k ≡ length log) × (e ≡ x)) ne.
            let a = asked (λ z. ne (ap (λ (y : Entry). y.mark) (sym new.1) ∙ z)) in
            let s = a.1 in
            let le = ((m.each s.0 s.1 s.2).asked e.mark a.0 s.3).1 in
            let is = new.0 in
            (a.0, omega arith, subst (λ (y : Entry). AskedAt views y.mark a.0) new.1 s))
            (at_end log e x k there);
      }

  pub marks_split : (stop : ℕ) (log : List Entry) (views : List View) (id : ℕ) (v : View) → Marks may stop log views → At views id v → Change views (set views id (after_split v) ++ split_off v ∷ [])
      → Marks may stop log (set views id (after_split v) ++ split_off v ∷ [])
  marks_split stop log views id v m at c =
      let left : View = after_split v in
      let right : View = split_off v in
      let mine = m.each id v at in
      marks_stay stop log views (set views id left ++ right ∷ []) m c (λ j u there. ⊎_elim
      (λ old. all_set (λ i v. MarksOf may stop log views v) views id left (record { asked = mine.asked; seen = mine.seen; fresh = mine.fresh; alive = mine.alive }) (λ j u _ t. m.each j u t) j u old)
      (λ (new : (j ≡ length (set views id left)) × (right ≡ u)). subst (MarksOf may stop log views) new.1 (record { asked = λ mark l h. absurd (has_none (mark, l) h); seen = mine.seen; fresh = λ mark h. absurd (has_none mark h); alive = λ a h. absurd (has_none a h) }))
      (at_end (set views id left) right u j there))

  pub marks_join : (stop : ℕ) (log : List Entry) (views : List View) (id : ℕ) (v : View) (other : ℕ) (w : View) → Marks may stop log views → At views id v → At views other w → v.spent ≡ false → Change views (set (set views id (after_join v w)) other spent_view)
      → Marks may stop log (set (set views id (after_join v w)) other spent_view)
  marks_join stop log views id v other w m at at' live c =
      let both : View = after_join v w in
      let mine = m.each id v at in
      let theirs = m.each other w at' in
      marks_stay stop log views (set (set views id both) other spent_view) m c (all_set (λ i v. MarksOf may stop log views v) (set views id both) other spent_view
      (record { asked = λ mark l h. absurd (has_none (mark, l) h); seen = λ mark h. absurd (has_none mark h); fresh = λ mark h. absurd (has_none mark h); alive = λ a h. absurd (has_none a h) })
      (λ j x _ t. all_set (λ i v. MarksOf may stop log views v) views id both
      (record {
        asked = λ mark l h. ⊎_elim (λ a. mine.asked mark l a) (λ a. theirs.asked mark l a) (Contains-append_cases v.asked w.asked (mark, l) h);
        seen = λ mark h. ⊎_elim (λ a. mine.seen mark a) (λ a. theirs.seen mark a) (Contains-append_cases v.marks w.marks mark h);
        fresh = λ mark h. Contains-append_left v.marks w.marks mark (mine.fresh mark h);
        alive = λ a h. live;
      })
      (λ j u _ t. m.each j u t) j x t))
