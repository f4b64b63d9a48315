-- Tickets, the value and the history.
use Rattle.std.proofs.Common.{◌≡◌, ◌≢◌, ℕ, ◌+◌, ◌/◌, ◌%◌, ◌<◌, true, false, true≢false, cond, eqb, List, [], ◌∷◌, ◌++◌, length, take, set, sym, refl, ap, ◌∙◌, subst, ⊎_elim, arith, length-append, append-nil, eq-eqb, ne_eqb}
use Rattle.std.specs.Prelude.{Option, Some, None, Contains}
use mathlib.Core.Logic.{dite}
use mathlib.Core.Option.{Option as Place, none, some, some-ne-none}
use native.Mathlib.Decide.{ℕ_discrete}
use Rattle.std.proofs.lemmas.List.Elements.{All-push}
use Rattle.atomic_table.proofs.Lists.{set_else, at_longer}
use Rattle.gi_turn.specs.declared.view.Entry.{Entry}
use Rattle.gi_turn.specs.declared.view.View.{View}
use Rattle.gi_turn.specs.Entries.{At, phase_after, StartsWith, IsGlance, AreGlances, head, glance_at}
use Rattle.gi_turn.specs.Views.{after_look, after_draw, with_turn, out_of_turn, after_split, split_off, after_join, spent_view}
use Rattle.gi_turn.specs.Turns.{IsSeenWhole, Home, Fits, Turns}
use Rattle.gi_turn.proofs.Views.{all_set, here, same_view, has_one, has_none, has_cases, at_end, phase_after-append, starts_longer, glances_longer, longer_is, prefix_length, prefix_whole}

-- who has the ticket k after the seat id has drawn the ticket t
abbrev pub handed : (ℕ → ℕ) → ℕ → ℕ → ℕ → ℕ
handed holder t id k = cond (eqb k t) id (holder k)

handed_new : (holder : ℕ → ℕ) (t id k : ℕ) → k ≡ t → handed holder t id k ≡ id
handed_new holder t id k e = ap (λ b. cond b id (holder k)) (eq-eqb k t e)

handed_old : (holder : ℕ → ℕ) (t id k : ℕ) → k ≢ t → handed holder t id k ≡ holder k
handed_old holder t id k n = ap (λ b. cond b id (holder k)) (ne_eqb k t n)

pub head_length : (n p : ℕ) → p < 8 → head n p / 8 ≡ n
head_length n p h = omega arith

head_phase : (n p : ℕ) → p < 8 → head n p % 8 ≡ p
head_phase n p h = omega arith

-- what is read from HEAD is what was written there
pub head_glance : (n p : ℕ) → p < 8 → glance_at (head n p) ≡ (n, p)
head_glance n p h i = (head_length n p h i, head_phase n p h i)

take_whole : (log : List Entry) → take (length log) log ≡ log
take_whole [] = refl
take_whole (x ∷ xs) = ap (λ l. x ∷ l) (take_whole xs)

-- the whole history is still seen after one view that had seen it was changed into one that has
whole_stays : (log : List Entry) (views : List View) (id : ℕ) (v w : View) → At views id v → w.spent ≡ v.spent → (v.seen ≡ log → w.seen ≡ log) → IsSeenWhole log views → IsSeenWhole log (set views id w)
whole_stays log views id v w at live seen h = dite (ℕ_discrete h.0 id)
    (λ e. let same : h.1 ≡ v = same_view views id h.1 v (subst (λ (j : ℕ). At views j h.1) e h.2) at in
    (id, w, here views id v w at, live ∙ (ap (λ (y : View). y.spent) (sym same) ∙ h.3), seen (ap (λ (y : View). y.seen) (sym same) ∙ h.4)))
    (λ ne. (h.0, h.1, set_else views id h.0 w ne ∙ h.2, h.3, h.4))

-- a glance at the whole history is right
pub glances_right : (first : ℕ) (log : List Entry) (gs : List (ℕ × ℕ)) → AreGlances first log gs → AreGlances first log (gs ++ (length log, phase_after first log) ∷ [])
glances_right first log gs h = All-push (IsGlance first log) gs (length log, phase_after first log) h (omega arith, sym (ap (phase_after first) (take_whole log)))

module _ {T : Type 0} (stands : T → List Entry → Type 0) (first : ℕ) where
  pub draws_kept : (ticket : ℕ) (log : List Entry) (holder : ℕ → ℕ) (slot : Place (Option T)) (views : List View) (id : ℕ) (v : View) → Turns stands first ticket log holder slot views → At views id v → v.ticket ≡ None
      → Turns stands first (ticket + 1) log (handed holder ticket id) slot (set views id (after_draw v ticket))
  draws_kept ticket log holder slot views id v k at idle =
      let w : View = after_draw v ticket in
      let mine = k.each id v at in
      let within = k.within in
      record {
        small = k.small;
        within = omega arith;
        home = k.home;
        gone = λ away. let g = k.gone away in
            let f = k.each (holder (length log)) g.0 g.1 in
            let tick : g.0.ticket ≡ Some (length log) = (f.turn g.2).1 in
            let below : length log < ticket = f.high (length log) tick in
            let other : holder (length log) ≢ id = λ e. let same : g.0 ≡ v = same_view views id g.0 v (subst (λ (j : ℕ). At views j g.0) e g.1) at in let t : v.ticket ≡ Some (length log) = ap (λ (y : View). y.ticket) (sym same) ∙ tick in cc in
            let old : handed holder ticket id (length log) ≡ holder (length log) = handed_old holder ticket id (length log) (λ e. omega arith) in
            (g.0, subst (λ (j : ℕ). At (set views id w) j g.0) (sym old) (set_else views id (holder (length log)) w other ∙ g.1), g.2);
        each = all_set (Fits first (ticket + 1) log (handed holder ticket id) slot) views id w
            (record {
              opened = mine.opened;
              seen = mine.seen;
              low = λ n e. let same : ticket ≡ n = cc in omega arith;
              high = λ n e. let same : ticket ≡ n = cc in omega arith;
              own = λ n e. let same : n ≡ ticket = cc in handed_new holder ticket id n same;
              turn = λ t. let x = (mine.turn t).1 in cc;
              glances = mine.glances;
              merged = mine.merged;
            })
            (λ j u other there. let f = k.each j u there in record {
              opened = f.opened;
              seen = f.seen;
              low = f.low;
              high = λ n e. let h = f.high n e in omega arith;
              own = λ n e. let h = f.high n e in handed_old holder ticket id n (λ e. omega arith) ∙ f.own n e;
              turn = f.turn;
              glances = f.glances;
              merged = f.merged;
            });
        drawn = λ n low high. dite (ℕ_discrete n ticket)
            (λ e. (w, subst (λ (j : ℕ). At (set views id w) j w) (sym (handed_new holder ticket id n e)) (here views id v w at), ap Some (sym e)))
            (λ ne. let d = k.drawn n low (omega arith) in
            let other : holder n ≢ id = λ e. let same : d.0 ≡ v = same_view views id d.0 v (subst (λ (j : ℕ). At views j d.0) e d.1) at in let t : v.ticket ≡ Some n = ap (λ (y : View). y.ticket) (sym same) ∙ d.2 in cc in
            (d.0, subst (λ (j : ℕ). At (set views id w) j d.0) (sym (handed_old holder ticket id n ne)) (set_else views id (holder n) w other ∙ d.1), d.2));
        whole = whole_stays log views id v w at refl (λ e. e) k.whole;
      }

  -- a step of the seat id that changes neither the history nor the tickets
  pub noted : (ticket : ℕ) (log : List Entry) (holder : ℕ → ℕ) (slot next : Place (Option T)) (views : List View) (id : ℕ) (v w : View) → Turns stands first ticket log holder slot views → At views id v
      → w.ticket ≡ v.ticket → Fits first ticket log holder next id w → (slot ≡ none → next ≡ none) → Home stands log next
      → (next ≡ none → (u : View) × At (set views id w) (holder (length log)) u × (u.turn ≡ true)) → IsSeenWhole log (set views id w) → Turns stands first ticket log holder next (set views id w)
  noted ticket log holder slot next views id v w k at tick mine out home gone whole = record {
    small = k.small;
    within = k.within;
    home = home;
    gone = gone;
    each = all_set (Fits first ticket log holder next) views id w mine (λ j u other there. let f = k.each j u there in record {
      opened = f.opened;
      seen = f.seen;
      low = f.low;
      high = f.high;
      own = f.own;
      turn = λ t. let x = f.turn t in (out x.0, x.1, x.2);
      glances = f.glances;
      merged = f.merged;
    });
    drawn = λ n low high. let d = k.drawn n low high in dite (ℕ_discrete (holder n) id)
        (λ e. let same : d.0 ≡ v = same_view views id d.0 v (subst (λ (j : ℕ). At views j d.0) e d.1) at in
        (w, subst (λ (j : ℕ). At (set views id w) j w) (sym e) (here views id v w at), tick ∙ (ap (λ (y : View). y.ticket) (sym same) ∙ d.2)))
        (λ ne. (d.0, set_else views id (holder n) w ne ∙ d.1, d.2));
    whole = whole;
  }

  -- the same where the value stays where it is
  pub noted_here : (ticket : ℕ) (log : List Entry) (holder : ℕ → ℕ) (slot : Place (Option T)) (views : List View) (id : ℕ) (v w : View) → Turns stands first ticket log holder slot views → At views id v
      → w.ticket ≡ v.ticket → w.turn ≡ v.turn → Fits first ticket log holder slot id w → IsSeenWhole log (set views id w) → Turns stands first ticket log holder slot (set views id w)
  noted_here ticket log holder slot views id v w k at tick turn mine whole = noted ticket log holder slot slot views id v w k at tick mine (λ e. e) k.home
      (λ away. let g = k.gone away in dite (ℕ_discrete (holder (length log)) id)
      (λ e. let same : g.0 ≡ v = same_view views id g.0 v (subst (λ (j : ℕ). At views j g.0) e g.1) at in
      (w, subst (λ (j : ℕ). At (set views id w) j w) (sym e) (here views id v w at), turn ∙ (ap (λ (y : View). y.turn) (sym same) ∙ g.2)))
      (λ ne. (g.0, set_else views id (holder (length log)) w ne ∙ g.1, g.2)))
      whole

  -- a change of what the turn is not about
  pub aside : (ticket : ℕ) (log : List Entry) (holder : ℕ → ℕ) (slot : Place (Option T)) (views : List View) (id : ℕ) (v w : View) → Turns stands first ticket log holder slot views → At views id v
      → w.opened ≡ v.opened → w.spent ≡ v.spent → w.ticket ≡ v.ticket → w.turn ≡ v.turn → w.seen ≡ v.seen → AreGlances first log w.glances → ((m : List ℕ × List Entry) → Contains w.merged m → StartsWith log m.1) → Turns stands first ticket log holder slot (set views id w)
  aside ticket log holder slot views id v w k at opened live tick turn seen glances merged =
      let mine = k.each id v at in
      noted_here ticket log holder slot views id v w k at tick turn
      (record {
        opened = λ alive. opened ∙ mine.opened (sym live ∙ alive);
        seen = subst (StartsWith log) (sym seen) mine.seen;
        low = λ n e. mine.low n (sym tick ∙ e);
        high = λ n e. mine.high n (sym tick ∙ e);
        own = λ n e. mine.own n (sym tick ∙ e);
        turn = λ t. let x = mine.turn (sym turn ∙ t) in (x.0, tick ∙ x.1, seen ∙ x.2);
        glances = glances;
        merged = merged;
      })
      (whole_stays log views id v w at live (λ e. seen ∙ e) k.whole)

  -- the ticket's seat finds the value at home
  pub turns_kept : (ticket : ℕ) (log : List Entry) (holder : ℕ → ℕ) (t : T) (views : List View) (id : ℕ) (v : View) → Turns stands first ticket log holder (some (Some t)) views → At views id v → v.spent ≡ false → v.ticket ≡ Some (length log)
      → Turns stands first ticket log holder none (set views id (with_turn (after_look v (length log, phase_after first log)) log))
  turns_kept ticket log holder t views id v k at live tick =
      let w : View = with_turn (after_look v (length log, phase_after first log)) log in
      let mine = k.each id v at in
      let own : holder (length log) ≡ id = mine.own (length log) tick in
      noted ticket log holder (some (Some t)) none views id v w k at refl
      (record {
        opened = mine.opened;
        seen = ([], sym (append-nil log));
        low = mine.low;
        high = mine.high;
        own = mine.own;
        turn = λ _. (refl, tick, refl);
        glances = glances_right first log v.glances mine.glances;
        merged = mine.merged;
      })
      (λ e. refl) tt
      (λ _. (w, subst (λ (j : ℕ). At (set views id w) j w) (sym own) (here views id v w at), refl))
      (id, w, here views id v w at, live, refl)

  -- the value is not out while the ticket's seat has no turn
  pub at_home : (ticket : ℕ) (log : List Entry) (holder : ℕ → ℕ) (slot : Place (Option T)) (views : List View) (id : ℕ) (v : View) → Turns stands first ticket log holder slot views → At views id v → v.ticket ≡ Some (length log) → v.turn ≡ false
      → (t : T) × (slot ≡ some (Some t)) × stands t log
  at_home ticket log holder none views id v k at tick idle =
      let g = k.gone refl in
      let own : holder (length log) ≡ id = (k.each id v at).own (length log) tick in
      let same : g.0 ≡ v = same_view views id g.0 v (subst (λ (j : ℕ). At views j g.0) own g.1) at in
      absurd (true≢false (sym g.2 ∙ (ap (λ (y : View). y.turn) same ∙ idle)))
  at_home ticket log holder (some None) views id v k at tick idle = absurd k.home
  at_home ticket log holder (some (Some t)) views id v k at tick idle = (t, refl, k.home)

  pub publishes_kept : (ticket : ℕ) (log : List Entry) (holder : ℕ → ℕ) (slot : Place (Option T)) (t : T) (views : List View) (id : ℕ) (v : View) (e : Entry) → Turns stands first ticket log holder slot views → At views id v → v.spent ≡ false → v.turn ≡ true
      → e.phase < 8 → stands t (log ++ e ∷ []) → Turns stands first ticket (log ++ e ∷ []) holder (some (Some t)) (set views id (out_of_turn v (log ++ e ∷ [])))
  publishes_kept ticket log holder slot t views id v e k at live mine small right =
      let w : View = out_of_turn v (log ++ e ∷ []) in
      let f = k.each id v at in
      let turn = f.turn mine in
      let tick : v.ticket ≡ Some (length log) = turn.1 in
      let own : holder (length log) ≡ id = f.own (length log) tick in
      let below : length log < ticket = f.high (length log) tick in
      let longer : length (log ++ e ∷ []) ≡ length log + 1 = length-append log (e ∷ []) in
      record {
        small = let p : phase_after first (log ++ e ∷ []) ≡ e.phase = phase_after-append first log e in omega arith;
        within = omega arith;
        home = right;
        gone = λ out. absurd (some-ne-none (Some t) out);
        each = all_set (Fits first ticket (log ++ e ∷ []) holder (some (Some t))) views id w
            (record {
              opened = f.opened;
              seen = ([], sym (append-nil (log ++ e ∷ [])));
              low = λ n is. absurd cc;
              high = λ n is. absurd cc;
              own = λ n is. absurd cc;
              turn = λ is. absurd (true≢false (sym is));
              glances = glances_longer first log (e ∷ []) v.glances f.glances;
              merged = λ m h. starts_longer log (e ∷ []) m.1 (f.merged m h);
            })
            (λ j u other there. let g = k.each j u there in record {
              opened = g.opened;
              seen = starts_longer log (e ∷ []) u.seen g.seen;
              low = λ n is. let low = g.low n is in let ne : n ≢ length log = λ (same : n ≡ length log). other (sym (g.own n is) ∙ (ap holder same ∙ own)) in omega arith;
              high = g.high;
              own = g.own;
              turn = λ is. let x = (g.turn is).1 in absurd (other (sym (g.own (length log) x) ∙ own));
              glances = glances_longer first log (e ∷ []) u.glances g.glances;
              merged = λ m h. starts_longer log (e ∷ []) m.1 (g.merged m h);
            });
        drawn = λ n low high. let d = k.drawn n (omega arith) high in
            let other : holder n ≢ id = λ is. let same : d.0 ≡ v = same_view views id d.0 v (subst (λ (j : ℕ). At views j d.0) is d.1) at in
            let a : v.ticket ≡ Some n = ap (λ (y : View). y.ticket) (sym same) ∙ d.2 in let b : n ≡ length log = cc in omega arith in
            (d.0, set_else views id (holder n) w other ∙ d.1, d.2);
        whole = (id, w, here views id v w at, live, refl);
      }

  -- a seat with no ticket comes
  pub appended : (ticket : ℕ) (log : List Entry) (holder : ℕ → ℕ) (slot : Place (Option T)) (views : List View) (w : View) → Turns stands first ticket log holder slot views
      → (w.spent ≡ false → w.opened ≡ first) → StartsWith log w.seen → w.ticket ≡ None → w.turn ≡ false → AreGlances first log w.glances → w.merged ≡ [] → Turns stands first ticket log holder slot (views ++ w ∷ [])
  appended ticket log holder slot views w k opened seen tick turn glances none_merged = record {
    small = k.small;
    within = k.within;
    home = k.home;
    gone = λ away. let g = k.gone away in (g.0, at_longer views (w ∷ []) (holder (length log)) g.0 g.1, g.2);
    each = λ j u there. ⊎_elim (λ old. k.each j u old)
        (λ (new : (j ≡ length views) × (w ≡ u)). subst (Fits first ticket log holder slot j) new.1 (record {
          opened = opened;
          seen = seen;
          low = λ n is. absurd cc;
          high = λ n is. absurd cc;
          own = λ n is. absurd cc;
          turn = λ is. absurd (true≢false (sym is ∙ turn));
          glances = glances;
          merged = λ xs h. absurd (has_none xs (subst (λ l. Contains l xs) none_merged h));
        }))
        (at_end views w u j there);
    drawn = λ n low high. let d = k.drawn n low high in (d.0, at_longer views (w ∷ []) (holder n) d.0 d.1, d.2);
    whole = let h = k.whole in (h.0, h.1, at_longer views (w ∷ []) h.0 h.1 h.2, h.3, h.4);
  }

  pub splits_kept : (ticket : ℕ) (log : List Entry) (holder : ℕ → ℕ) (slot : Place (Option T)) (views : List View) (id : ℕ) (v : View) → Turns stands first ticket log holder slot views → At views id v → v.ticket ≡ None → v.turn ≡ false
      → Turns stands first ticket log holder slot (set views id (after_split v) ++ split_off v ∷ [])
  splits_kept ticket log holder slot views id v k at idle turn =
      let mine = k.each id v at in
      appended ticket log holder slot (set views id (after_split v)) (split_off v) (aside ticket log holder slot views id v (after_split v) k at refl refl refl refl refl mine.glances mine.merged) mine.opened mine.seen idle turn mine.glances refl

  pub joins_kept : (ticket : ℕ) (log : List Entry) (holder : ℕ → ℕ) (slot : Place (Option T)) (views : List View) (id : ℕ) (v : View) (other : ℕ) (w : View) → Turns stands first ticket log holder slot views → At views id v → other ≢ id → At views other w → v.spent ≡ false
      → v.ticket ≡ None → v.turn ≡ false → w.ticket ≡ None → w.turn ≡ false → Turns stands first ticket log holder slot (set (set views id (after_join v w)) other spent_view)
  joins_kept ticket log holder slot views id v other w k at apart at' live idle turn idle' turn' =
      let both : View = after_join v w in
      let mid : List View = set views id both in
      let mine = k.each id v at in
      let theirs = k.each other w at' in
      let starts : StartsWith log both.seen = ⊎_elim (λ h. subst (StartsWith log) (sym h.0) theirs.seen) (λ h. subst (StartsWith log) (sym h.0) mine.seen) (longer_is v.seen w.seen) in
      let from_left : v.seen ≡ log → both.seen ≡ log = λ e. ⊎_elim
      (λ h. let long = prefix_length log w.seen theirs.seen in let same : length v.seen ≡ length log = ap length e in let lt = h.1 in absurd (omega arith)) (λ h. h.0 ∙ e) (longer_is v.seen w.seen) in
      let from_right : w.seen ≡ log → both.seen ≡ log = λ e. ⊎_elim (λ h. h.0 ∙ e)
      (λ h. let le = h.1 in let same : length w.seen ≡ length log = ap length e in h.0 ∙ prefix_whole log v.seen mine.seen (omega arith)) (longer_is v.seen w.seen) in
      let there : At mid other w = set_else views id other both apart ∙ at' in
      let step : Turns stands first ticket log holder slot mid = noted_here ticket log holder slot views id v both k at refl refl
      (record {
        opened = mine.opened;
        seen = starts;
        low = mine.low;
        high = mine.high;
        own = mine.own;
        turn = λ is. absurd (true≢false (sym is ∙ turn));
        glances = mine.glances;
        merged = λ m h. ⊎_elim (λ e. subst (λ (y : List ℕ × List Entry). StartsWith log y.1) (sym e) mine.seen)
            (λ h. subst (λ (y : List ℕ × List Entry). StartsWith log y.1) (sym (has_one (w.held, w.seen) m h)) theirs.seen) (has_cases (v.held, v.seen) ((w.held, w.seen) ∷ []) m h);
      })
      (whole_stays log views id v both at refl from_left k.whole) in
      noted_here ticket log holder slot mid other w spent_view step there (sym idle') (sym turn')
      (record {
        opened = λ alive. absurd cc;
        seen = (log, refl);
        low = λ n is. absurd cc;
        high = λ n is. absurd cc;
        own = λ n is. absurd cc;
        turn = λ is. absurd cc;
        glances = λ k d lt. absurd (omega arith);
        merged = λ xs h. absurd (has_none xs h);
      })
      (let h = k.whole in dite (ℕ_discrete h.0 other)
      (λ e. (id, both, set_else mid other id spent_view (λ x. apart (sym x)) ∙ here views id v both at, live, from_right (ap (λ (y : View). y.seen) (same_view views other w h.1 at' (subst (λ (j : ℕ). At views j h.1) e h.2)) ∙ h.4)))
      (λ ne. let x = whole_stays log views id v both at refl from_left k.whole in dite (ℕ_discrete x.0 other)
      (λ e. (id, both, set_else mid other id spent_view (λ y. apart (sym y)) ∙ here views id v both at, live, from_right (ap (λ (y : View). y.seen) (same_view mid other w x.1 there (subst (λ (j : ℕ). At mid j x.1) e x.2)) ∙ x.4)))
      (λ ne'. (x.0, x.1, set_else mid other x.0 spent_view ne' ∙ x.2, x.3, x.4))))
