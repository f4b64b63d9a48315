-- Each step on the table keeps the rule.
use Rattle.std.proofs.Common.{◌≡◌, ◌≢◌, ℕ, zero, suc, ◌+◌, ◌/◌, ◌%◌, ◌^◌, ◌<◌, ◌≤◌, max, true, false, true≢false, List, [], ◌∷◌, ◌++◌, length, set, get_or, sym, refl, ap, ◌∙◌, subst, arith, length-append}
use Rattle.std.specs.Prelude.{Option, Some, None, Contains}
use mathlib.Core.Logic.{dite}
use mathlib.Core.Option.{Option as Place, none, some, some-injective, some-ne-none}
use native.Mathlib.Decide.{ℕ_discrete}
use lib.ListN.{get_elem?}
use Rattle.atomic_table.specs.Table.{State, Me, Act, keeps, takes, gives, step, Valid, homes_after, carried_after, opening, Allows, Splits, Joins}
use Rattle.std.proofs.lemmas.List.Elements.{Contains-append_left}
use Rattle.atomic_table.proofs.Lists.{set_else}
use Rattle.gi_turn.specs.declared.view.Entry.{Entry}
use Rattle.gi_turn.specs.declared.view.View.{View}
use Rattle.gi_turn.specs.Entries.{At, entry_of, phase_after, AreGlances, head, glance_at}
use Rattle.gi_turn.specs.Views.{Sole, KnowsPhases, KnowsMarks, IsLawful, AskedBy, HoldsAll, first_view, spent_view, after_draw, after_look, with_turn, out_of_turn, after_ask, after_see, after_split, split_off, after_join, after_settle}
use Rattle.gi_turn.specs.Turns.{Fits, Turns}
use Rattle.gi_turn.specs.Marks.{Marks, MarksOf}
use Rattle.gi_turn.specs.Rule.{Rule}
use Rattle.gi_turn.specs.Steps.{Draws, Glances, Looks, Publishes, Asks, Sees, Finds, Settles, glances_after}
use Rattle.gi_turn.proofs.Views.{here, calls_set, left_alive, left_same, calls_append, has_one, has_none, prefix_length, prefix_prefix, same_view, phase_after-append, knows_phases, at_prefix, lawful_prefix, Change, change_set}
use Rattle.gi_turn.proofs.Numbers.{own_seen, given, taken, numbers_set, numbers_longer, numbers_split, numbers_join, change_split, change_join}
use Rattle.gi_turn.proofs.Kinship.{kinship_set, kinship_split, kinship_join, sole_sees, sole_alone, sole_holds}
use Rattle.gi_turn.proofs.Marks.{marks_set, marks_see, marks_ask, marks_longer, marks_split, marks_join}
use Rattle.gi_turn.proofs.Turns.{handed, head_length, head_glance, draws_kept, aside, glances_right, turns_kept, at_home, publishes_kept, splits_kept, joins_kept}

at_one : {A : Type 0} (x y : A) (i : ℕ) → At (x ∷ []) i y → (i ≡ 0) × (x ≡ y)
at_one x y zero e = (refl, some-injective x y e)
at_one x y (suc i) e = absurd (some-ne-none y (sym e))

pub entry_parts : (e : Entry) (by phase mark : ℕ) (told : List (List ℕ)) → e ≡ entry_of by phase mark told → (e.by ≡ by) × (e.phase ≡ phase) × (e.mark ≡ mark)
entry_parts e by phase mark told is = (ap (λ (y : Entry). y.by) is, ap (λ (y : Entry). y.phase) is, ap (λ (y : Entry). y.mark) is)

module _ {T : Type 0} (stands : T → List Entry → Type 0) (may : List Entry → ℕ → Type 0) (first : ℕ) where
  abbrev Holds : State (Option T) View → Type 0
  Holds = Rule stands may first

  abbrev M : Type 0
  M = Me (Option T) View

  pub opens : (value : T) → first < 8 → stands value [] → Holds (opening (0 ∷ first ∷ 0 ∷ []) (Some value ∷ []) (first_view first))
  opens value small right = record {
    ticket = 0;
    stop = 0;
    log = [];
    holder = λ _. 0;
    owner = λ _. 0;
    slot = some (Some value);
    words = ap (λ (n : ℕ). 0 ∷ n ∷ 0 ∷ []) (let e : first ≡ head 0 first = omega arith in e);
    homes = refl;
    count = refl;
    turns = record {
      small = small;
      within = omega arith;
      home = right;
      gone = λ out. absurd (some-ne-none (Some value) out);
      each = λ i v at. let is = at_one (first_view first) v i at in subst (Fits first 0 [] (λ _. 0) (some (Some value)) i) is.1 (record {
        opened = λ _. refl;
        seen = ([], refl);
        low = λ k e. absurd cc;
        high = λ k e. absurd cc;
        own = λ k e. absurd cc;
        turn = λ t. absurd (true≢false (sym t));
        glances = λ k d lt. absurd (omega arith);
        merged = λ xs h. absurd (has_none xs h);
      });
      drawn = λ k low high. absurd (omega arith);
      whole = (0, first_view first, refl, refl, refl);
    };
    numbers = record {
      own = λ i v at _. let is = at_one (first_view first) v i at in subst (λ (y : View). Contains y.held y.number) is.1 (0, omega arith, refl);
      one = λ i v n at has. sym (at_one (first_view first) v i at).0;
      from = λ n h ne. absurd (ne (has_one 0 n (subst (λ (y : View). Contains y.held n) (sym (at_one (first_view first) h.1 h.0 h.2).1) h.3)));
      entries = λ k e at. absurd (some-ne-none e (sym at));
      merged = λ i v m at has. absurd (has_none m (subst (λ (y : View). Contains y.merged m) (sym (at_one (first_view first) v i at).1) has));
    };
    kinship = record {
      first = λ v at _. sym (ap (λ (y : View). y.number) (at_one (first_view first) v 0 at).1);
      kin = λ n h ne. absurd (ne (has_one 0 n (subst (λ (y : View). Contains y.held n) (sym (at_one (first_view first) h.1 h.0 h.2).1) h.3)));
    };
    marks = record {
      stop_asked = λ ne. absurd (ne refl);
      each = λ i v at. let is = at_one (first_view first) v i at in subst (MarksOf may 0 [] (first_view first ∷ [])) is.1 (record { asked = λ mark l h. absurd (has_none (mark, l) h); seen = λ mark h. absurd (has_none mark h); fresh = λ mark h. absurd (has_none mark h); alive = λ a h. absurd (has_none a h) });
      entries = λ k e at. absurd (some-ne-none e (sym at));
    };
  }

  pub draws : (slots id : ℕ) (me : M) → me.0.ticket ≡ None → me.0.spent ≡ false → 0 < me.0.left → Allows Holds slots id me 0 (λ n. (n + 1) % 2 ^ 64) (Draws (step slots 0 1 0 none) me)
  draws slots id me idle live some_left s r _ at _ =
      let v : View = me.0 in
      let w : View = after_draw v r.ticket in
      let P : List ℕ → Type 0 = λ ws. (w : View) × (a : Act (Option T)) × Valid s.homes me.1 a
      × Holds record { words = set ws 0 ((get_or ws 0 0 + 1) % 2 ^ 64); homes = homes_after s.homes me.1 a; views = set s.views id w }
      × Draws (step slots 0 1 0 none) me (get_or ws 0 0) (w, carried_after me.1 a) in
      let count = r.count in
      let sum = calls_set s.views id v w at in
      let was = left_alive v live in
      let is = left_alive w live in
      let below : r.ticket < 2 ^ 56 = omega arith in
      let e : (r.ticket + 1) % 2 ^ 64 ≡ r.ticket + 1 = omega arith in
      let c : Change s.views (set s.views id w) = change_set s.views id v w at (record { held = λ n h. h; kin = λ n h. h; asked = λ a h. h; seen = omega arith }) refl refl (omega arith) in
      subst P (sym r.words) (
        w,
        keeps,
        tt,
        record {
          ticket = r.ticket + 1;
          stop = r.stop;
          log = r.log;
          holder = handed r.holder r.ticket id;
          owner = r.owner;
          slot = r.slot;
          words = ap (λ (n : ℕ). n ∷ head (length r.log) (phase_after first r.log) ∷ r.stop ∷ []) e;
          homes = r.homes;
          count = omega arith;
          turns = draws_kept stands first r.ticket r.log r.holder r.slot s.views id v r.turns at idle;
          numbers = numbers_set r.log r.owner s.views id v w r.numbers at refl (λ m h. h) refl refl c;
          kinship = kinship_set s.views id v w r.kinship at refl refl refl c;
          marks = marks_set may r.stop r.log s.views id w r.marks c (let m = r.marks.each id v at in record { asked = m.asked; seen = m.seen; fresh = λ mark h. absurd (has_none mark h); alive = m.alive });
        },
        (refl, refl, below),
      )

  -- a step by which a seat learns, and no word changes
  learnt : (s : State (Option T) View) (r : Holds s) (id : ℕ) (v w : View) → At s.views id v → w.left ≡ v.left → w.held ≡ v.held → ((m : List ℕ × List Entry) → Contains w.merged m → Contains v.merged m) → w.kin ≡ v.kin → w.asked ≡ v.asked → w.number ≡ v.number → w.spent ≡ v.spent → w.splits ≡ v.splits
      → length v.seen ≤ length w.seen → MarksOf may r.stop r.log s.views w → (homes : List (Place (Option T))) (next : Place (Option T)) → homes ≡ next ∷ [] → Turns stands first r.ticket r.log r.holder next (set s.views id w)
      → Holds record { words = r.ticket ∷ head (length r.log) (phase_after first r.log) ∷ r.stop ∷ []; homes = homes; views = set s.views id w }
  learnt s r id v w at left held merged kin asked number live splits seen mine homes next is kept =
      let c : Change s.views (set s.views id w) = change_set s.views id v w at (record { held = λ n h. subst (λ l. Contains l n) (sym held) h; kin = λ n h. subst (λ l. Contains l n) (sym kin) h; asked = λ a h. subst (λ l. Contains l a) (sym asked) h; seen = seen }) number live (omega arith) in
      let count = r.count in
      let sum = calls_set s.views id v w at in
      let same_left = left_same v w left live in
      record {
        ticket = r.ticket;
        stop = r.stop;
        log = r.log;
        holder = r.holder;
        owner = r.owner;
        slot = next;
        words = refl;
        homes = is;
        count = omega arith;
        turns = kept;
        numbers = numbers_set r.log r.owner s.views id v w r.numbers at held merged number live c;
        kinship = kinship_set s.views id v w r.kinship at held number live c;
        marks = marks_set may r.stop r.log s.views id w r.marks c mine;
      }

  same_marks : (s : State (Option T) View) (r : Holds s) (id : ℕ) (v w : View) → At s.views id v → w.asked ≡ v.asked → w.marks ≡ v.marks → w.fresh ≡ v.fresh → w.spent ≡ v.spent → MarksOf may r.stop r.log s.views w
  same_marks s r id v w at asked marks fresh live = let m = r.marks.each id v at in record {
    asked = λ mark l h. m.asked mark l (subst (λ xs. Contains xs (mark, l)) asked h);
    seen = λ mark h. m.seen mark (subst (λ xs. Contains xs mark) marks h);
    fresh = λ mark h. subst (λ xs. Contains xs mark) (sym marks) (m.fresh mark (subst (λ xs. Contains xs mark) fresh h));
    alive = λ a h. live ∙ m.alive a (subst (λ xs. Contains xs a) asked h);
  }

  -- each mark of the history could be asked over what came before it, and a sole seat has asked it
  lawful : (s : State (Option T) View) (r : Holds s) → IsLawful may r.log
  lawful s r k e there ne = let x = r.marks.entries k e there ne in let a = x.2 in (x.0, x.1, ((r.marks.each a.0 a.1 a.2).asked e.mark x.0 a.3).2)

  sole_asked : (s : State (Option T) View) (r : Holds s) (id : ℕ) (v : View) → At s.views id v → Sole v → AskedBy v r.log
  sole_asked s r id v at sole k e there ne =
      let x = r.marks.entries k e there ne in
      let a = x.2 in
      let alive : a.1.spent ≡ false = (r.marks.each a.0 a.1 a.2).alive (e.mark, x.0) a.3 in
      let place : a.0 ≡ id = sole_alone r.log r.owner s.views id v r.numbers r.kinship at sole a.0 a.1 a.1.number a.2 (r.numbers.own a.0 a.1 a.2 alive) in
      (x.0, x.1, subst (λ (y : View). Contains y.asked (e.mark, x.0)) (same_view s.views id a.1 v (subst (λ (j : ℕ). At s.views j a.1) place a.2) at) a.3)

  sole_all : (s : State (Option T) View) (r : Holds s) (id : ℕ) (v : View) → At s.views id v → Sole v → HoldsAll v r.log
  sole_all s r id v at sole k e there = let x = r.numbers.entries k e there in sole_holds r.log r.owner s.views id v r.numbers r.kinship at sole e.by (x.0, x.1, x.2, x.3)

  -- what a seat knows of its glances and of its history's marks, between any two steps
  knows : (s : State (Option T) View) (r : Holds s) (id : ℕ) (v : View) → At s.views id v → v.spent ≡ false → KnowsPhases v × KnowsMarks may v
  knows s r id v at live =
      let fits = r.turns.each id v at in (
        knows_phases v r.log fits.seen (subst (λ (p : ℕ). AreGlances p r.log v.glances) (sym (fits.opened live)) fits.glances),
        (lawful_prefix may r.log v.seen fits.seen (lawful s r), λ sole k e there ne. sole_asked s r id v at sole k e (at_prefix r.log v.seen k e fits.seen there) ne, λ sole k e there. sole_all s r id v at sole k e (at_prefix r.log v.seen k e fits.seen there)),
      )

  -- the rule after a look that does not bring the turn
  look_kept : (s : State (Option T) View) (r : Holds s) (id : ℕ) (v : View) → At s.views id v
      → Holds record { words = r.ticket ∷ head (length r.log) (phase_after first r.log) ∷ r.stop ∷ []; homes = s.homes; views = set s.views id (after_look v (length r.log, phase_after first r.log)) }
  look_kept s r id v at =
      let w : View = after_look v (length r.log, phase_after first r.log) in
      learnt s r id v w at refl refl (λ m h. h) refl refl refl refl refl (omega arith) (same_marks s r id v w at refl refl refl refl) s.homes r.slot r.homes
      (aside stands first r.ticket r.log r.holder r.slot s.views id v w r.turns at refl refl refl refl refl (glances_right first r.log v.glances (r.turns.each id v at).glances) (r.turns.each id v at).merged)

  pub glances : (slots id : ℕ) (me : M) → me.0.spent ≡ false → Allows Holds slots id me 1 (λ n. n) (Glances (step slots 1 0 0 none) me)
  glances slots id me live s r _ at _ =
      let v : View = me.0 in
      let found : ℕ = head (length r.log) (phase_after first r.log) in
      let w : View = after_look v (length r.log, phase_after first r.log) in
      let long = prefix_length r.log v.seen (r.turns.each id v at).seen in
      let len : found / 8 ≡ length r.log = head_length (length r.log) (phase_after first r.log) r.turns.small in
      let is : w ≡ after_look v (glance_at found) = ap (after_look v) (sym (head_glance (length r.log) (phase_after first r.log) r.turns.small)) in
      let P : List ℕ → Type 0 = λ ws. (w : View) × (a : Act (Option T)) × Valid s.homes me.1 a
      × Holds record { words = set ws 1 (get_or ws 1 0); homes = homes_after s.homes me.1 a; views = set s.views id w }
      × Glances (step slots 1 0 0 none) me (get_or ws 1 0) (w, carried_after me.1 a) in
      let after = look_kept s r id v at in
      subst P (sym r.words) (w, keeps, tt, after, (is, refl, omega arith, (knows _ after id w (here s.views id v w at) live).0))

  -- what the rule tells a seat that sees the whole history
  finds : (s : State (Option T) View) (r : Holds s) (id : ℕ) (v : View) (t : T) → At s.views id v → v.spent ≡ false → stands t r.log → Finds stands may v (glances_after v [] r.log) r.log t
  finds s r id v t at live right =
      let fits = r.turns.each id v at in record {
        starts = fits.seen;
        stands_for = right;
        own_seen = own_seen r.log r.owner s.views id v r.numbers at;
        lawful = lawful s r;
        named = let is : v.opened ≡ first = fits.opened live in subst (λ (p : ℕ). AreGlances p r.log (v.glances ++ (length r.log, phase_after p r.log) ∷ [])) (sym is) (glances_right first r.log v.glances fits.glances);
        sole = λ sole. (sole_sees r.log r.owner s.views id v r.numbers r.kinship at fits.seen sole, sole_asked s r id v at sole, sole_all s r id v at sole);
      }

  pub looks : (slots id : ℕ) (me : M) (k : ℕ) → me.0.ticket ≡ Some k → me.0.turn ≡ false → me.0.spent ≡ false → me.1 ≡ [] → Allows Holds slots id me 1 (λ n. n) (Looks stands may (step slots 1 0 0 none) me)
  looks slots id me k mine idle live bare s r _ at _ =
      let v : View = me.0 in
      let found : ℕ = head (length r.log) (phase_after first r.log) in
      let fits = r.turns.each id v at in
      let len : found / 8 ≡ length r.log = head_length (length r.log) (phase_after first r.log) r.turns.small in
      let P : List ℕ → Type 0 = λ ws. (w : View) × (a : Act (Option T)) × Valid s.homes me.1 a
      × Holds record { words = set ws 1 (get_or ws 1 0); homes = homes_after s.homes me.1 a; views = set s.views id w }
      × Looks stands may (step slots 1 0 0 none) me (get_or ws 1 0) (w, carried_after me.1 a) in
      subst P (sym r.words) (dite (ℕ_discrete (length r.log) k)
      (λ now.
      let w : View = with_turn (after_look v (length r.log, phase_after first r.log)) r.log in
      let tick : v.ticket ≡ Some (length r.log) = mine ∙ ap Some (sym now) in
      let h = at_home stands first r.ticket r.log r.holder r.slot s.views id v r.turns at tick idle in
      let slot : s.homes ≡ some (Some h.0) ∷ [] = r.homes ∙ ap (λ (p : Place (Option T)). p ∷ []) h.1 in
      let is : w ≡ with_turn (after_look v (length r.log, phase_after v.opened r.log)) r.log = ap (λ (p : ℕ). with_turn (after_look v (length r.log, phase_after p r.log)) r.log) (sym (fits.opened live)) in (
        w,
        takes 0 (Some h.0),
        ap (λ hs. get_elem? hs 0) slot,
        learnt s r id v w at refl refl (λ m h. h) refl refl refl refl refl (prefix_length r.log v.seen fits.seen) (same_marks s r id v w at refl refl refl refl) (set s.homes 0 none) none (ap (λ hs. set hs 0 none) slot)
            (turns_kept stands first r.ticket r.log r.holder h.0 s.views id v (subst (λ (p : Place (Option T)). Turns stands first r.ticket r.log r.holder p s.views) h.1 r.turns) at live tick),
        (λ n is_ticket. let same : k ≡ n = cc in (
          (λ e. (r.log, h.0, now ∙ same, finds s r id v h.0 at live h.2, is, ap (λ c. (0, Some h.0) ∷ c) bare)),
          (λ ne. absurd (ne (len ∙ (now ∙ same)))),
        )),
      ))
      (λ later.
      let w : View = after_look v (length r.log, phase_after first r.log) in
      let low = fits.low k mine in (
        w,
        keeps,
        tt,
        look_kept s r id v at,
        (λ n is_ticket. let same : k ≡ n = cc in (
          (λ e. absurd (later (sym len ∙ (e ∙ sym same)))),
          (λ ne. (omega arith, ap (after_look v) (sym (head_glance (length r.log) (phase_after first r.log) r.turns.small)), refl)),
        )),
      )))

  pub publishes : (slots id : ℕ) (me : M) (t : T) (e : Entry) (n ticket : ℕ) → me.0.turn ≡ true → me.0.spent ≡ false → me.0.ticket ≡ Some ticket → me.0.merged ≡ [] → me.1 ≡ (0, Some t) ∷ [] → e.phase < 8 → e.by ≡ me.0.number → (e.mark ≢ 0 → Contains me.0.fresh e.mark)
      → stands t (me.0.seen ++ e ∷ []) → n ≡ head (ticket + 1) e.phase → Allows Holds slots id me 1 (λ _. n) (λ _. Publishes may e (step slots 1 n 0 none) me n)
  publishes slots id me t e n ticket mine live drawn settled carried small by mark right number s r _ at _ =
      let v : View = me.0 in
      let same : v.seen ≡ r.log = ((r.turns.each id v at).turn mine).2 in
      let log : List Entry = r.log ++ e ∷ [] in
      let is : v.seen ++ e ∷ [] ≡ log = ap (λ l. l ++ e ∷ []) same in
      let w : View = out_of_turn v log in
      let after : List View = set s.views id w in
      let longer : length log ≡ length r.log + 1 = length-append r.log (e ∷ []) in
      let last : phase_after first log ≡ e.phase = phase_after-append first r.log e in
      let seen : length v.seen ≡ length r.log = ap length same in
      let turn : v.ticket ≡ Some (length r.log) = ((r.turns.each id v at).turn mine).1 in
      let is_now : ticket ≡ length r.log = cc in
      let word : n ≡ head (length log) (phase_after first log) = omega arith in
      let c : Change s.views after = change_set s.views id v w at (record { held = λ n h. h; kin = λ n h. h; asked = λ a h. h; seen = omega arith }) refl refl (omega arith) in
      let there : At after id w = here s.views id v w at in
      let marks : Marks may r.stop r.log after = marks_set may r.stop r.log s.views id w r.marks c (same_marks s r id v w at refl refl refl refl) in
      let count = r.count in
      let sum = calls_set s.views id v w at in
      let same_left = left_same v w refl refl in
      let rule : Holds record { words = set s.words 1 n; homes = homes_after s.homes me.1 gives; views = after } = record {
        ticket = r.ticket;
        stop = r.stop;
        log = log;
        holder = r.holder;
        owner = r.owner;
        slot = some (Some t);
        words = ap (λ ws. set ws 1 n) r.words ∙ ap (λ (m : ℕ). r.ticket ∷ m ∷ r.stop ∷ []) word;
        homes = ap (λ c. homes_after s.homes c gives) carried ∙ ap (λ hs. set hs 0 (some (Some t))) r.homes;
        count = omega arith;
        turns = publishes_kept stands first r.ticket r.log r.holder r.slot t s.views id v e r.turns at live mine small (subst (stands t) is right);
        numbers = numbers_longer r.log r.owner after id w e (numbers_set r.log r.owner s.views id v w r.numbers at refl (λ m h. h) refl refl c) there live settled by (omega arith);
        kinship = kinship_set s.views id v w r.kinship at refl refl refl c;
        marks = marks_longer may r.stop r.log after e marks (λ ne. let m = marks.each id w there in m.seen e.mark (m.fresh e.mark (mark ne)) ne);
      } in
      let k = knows _ rule id w there live in
      (w, gives, tt, rule, (ap (out_of_turn v) (sym is), ap (λ c. carried_after c gives) carried, k.0, k.1))

  pub asks : (slots id : ℕ) (me : M) (mark : ℕ) → may me.0.seen mark → me.0.spent ≡ false → Allows Holds slots id me 2 (λ n. max n mark) (Asks (step slots 2 mark 0 none) me)
  asks slots id me mark allowed live s r _ at _ =
      let v : View = me.0 in
      let w : View = after_ask v mark in
      let fits = r.turns.each id v at in
      let P : List ℕ → Type 0 = λ ws. (w : View) × (a : Act (Option T)) × Valid s.homes me.1 a
      × Holds record { words = set ws 2 (max (get_or ws 2 0) mark); homes = homes_after s.homes me.1 a; views = set s.views id w }
      × Asks (step slots 2 mark 0 none) me (get_or ws 2 0) (w, carried_after me.1 a) in
      let c : Change s.views (set s.views id w) = change_set s.views id v w at (record { held = λ n h. h; kin = λ n h. h; asked = λ a h. Contains-append_left v.asked ((mark, length v.seen) ∷ []) a h; seen = omega arith }) refl refl (omega arith) in
      let count = r.count in
      let sum = calls_set s.views id v w at in
      let is = left_same v w refl refl in
      subst P (sym r.words) (
        w,
        keeps,
        tt,
        record {
          ticket = r.ticket;
          stop = max r.stop mark;
          log = r.log;
          holder = r.holder;
          owner = r.owner;
          slot = r.slot;
          words = refl;
          homes = r.homes;
          count = omega arith;
          turns = aside stands first r.ticket r.log r.holder r.slot s.views id v w r.turns at refl refl refl refl refl fits.glances fits.merged;
          numbers = numbers_set r.log r.owner s.views id v w r.numbers at refl (λ m h. h) refl refl c;
          kinship = kinship_set s.views id v w r.kinship at refl refl refl c;
          marks = marks_ask may r.stop mark r.log s.views id v r.marks at fits.seen allowed live c;
        },
        (refl, refl),
      )

  pub sees : (slots id : ℕ) (me : M) → Allows Holds slots id me 2 (λ n. n) (Sees (step slots 2 0 0 none) me)
  sees slots id me s r _ at _ =
      let v : View = me.0 in
      let w : View = after_see v r.stop in
      let fits = r.turns.each id v at in
      let m = r.marks.each id v at in
      let P : List ℕ → Type 0 = λ ws. (w : View) × (a : Act (Option T)) × Valid s.homes me.1 a
      × Holds record { words = set ws 2 (get_or ws 2 0); homes = homes_after s.homes me.1 a; views = set s.views id w }
      × Sees (step slots 2 0 0 none) me (get_or ws 2 0) (w, carried_after me.1 a) in
      subst P (sym r.words) (
        w,
        keeps,
        tt,
        learnt s r id v w at refl refl (λ m h. h) refl refl refl refl refl (omega arith) (marks_see may r.stop r.log s.views v r.marks m) s.homes r.slot r.homes
            (aside stands first r.ticket r.log r.holder r.slot s.views id v w r.turns at refl refl refl refl refl fits.glances fits.merged),
        (refl, refl, (λ mark l has. (m.asked mark l has).0)),
      )

  pub splits : (id : ℕ) (v : View) → v.spent ≡ false → v.ticket ≡ None → v.turn ≡ false → Splits Holds id v (after_split v) (split_off v)
  splits id v live idle turn s r at =
      let left : View = after_split v in
      let right : View = split_off v in
      let c = change_split r.log r.owner s.views id v r.numbers at live in
      let count = r.count in
      let sum = calls_set s.views id v left at in
      let more = calls_append (set s.views id left) right in
      let was = left_alive v live in
      let mine = left_alive left live in
      let theirs = left_alive right live in
      record {
        ticket = r.ticket;
        stop = r.stop;
        log = r.log;
        holder = r.holder;
        owner = given r.owner _ (length s.views);
        slot = r.slot;
        words = r.words;
        homes = r.homes;
        count = omega arith;
        turns = splits_kept stands first r.ticket r.log r.holder r.slot s.views id v r.turns at idle turn;
        numbers = numbers_split r.log r.owner s.views id v r.numbers at live;
        kinship = kinship_split s.views id v r.kinship at (r.numbers.own id v at live) c;
        marks = marks_split may r.stop r.log s.views id v r.marks at c;
      }

  pub joins : (id : ℕ) (v : View) (other : ℕ) (w : View) → v.spent ≡ false → w.spent ≡ false → v.ticket ≡ None → v.turn ≡ false → w.ticket ≡ None → w.turn ≡ false → Joins Holds id v other w (after_join v w) spent_view
  joins id v other w live live' idle turn idle' turn' s r at apart there =
      let both : View = after_join v w in
      let mid : List View = set s.views id both in
      let at' : At s.views other w = sym (set_else s.views id other both apart) ∙ there in
      let c = change_join s.views id v other w at apart at' in
      let count = r.count in
      let sum = calls_set s.views id v both at in
      let more = calls_set mid other w spent_view there in
      let was = left_alive v live in
      let is = left_alive both live in
      let theirs = left_alive w live' in
      record {
        ticket = r.ticket;
        stop = r.stop;
        log = r.log;
        holder = r.holder;
        owner = taken r.owner id other;
        slot = r.slot;
        words = r.words;
        homes = r.homes;
        count = omega arith;
        turns = joins_kept stands first r.ticket r.log r.holder r.slot s.views id v other w r.turns at apart at' live idle turn idle' turn';
        numbers = numbers_join r.log r.owner s.views id v other w r.numbers at apart at';
        kinship = kinship_join s.views id v other w r.kinship at at' c;
        marks = marks_join may r.stop r.log s.views id v other w r.marks at at' live c;
      }

  pub settles : (slots id : ℕ) (me : M) → me.0.spent ≡ false → Allows Holds slots id me 0 (λ n. n) (Settles may (step slots 0 0 0 none) me)
  settles slots id me live s r _ at _ =
      let v : View = me.0 in
      let w : View = after_settle v in
      let fits = r.turns.each id v at in
      let count = r.count in
      let sum = calls_set s.views id v record v { left = 0 } at in
      let was = left_alive v live in
      let nothing = left_alive record v { left = 0 } live in
      let P : List ℕ → Type 0 = λ ws. (w : View) × (a : Act (Option T)) × Valid s.homes me.1 a
      × Holds record { words = set ws 0 (get_or ws 0 0); homes = homes_after s.homes me.1 a; views = set s.views id w }
      × Settles may (step slots 0 0 0 none) me (get_or ws 0 0) (w, carried_after me.1 a) in
      let after = learnt s r id v w at refl refl (λ m h. absurd (has_none m h)) refl refl refl refl refl (omega arith) (same_marks s r id v w at refl refl refl refl) s.homes r.slot r.homes
      (aside stands first r.ticket r.log r.holder r.slot s.views id v w r.turns at refl refl refl refl refl fits.glances (λ m h. absurd (has_none m h))) in
      let k = knows _ after id w (here s.views id v w at) live in
      subst P (sym r.words) (
        w,
        keeps,
        tt,
        after,
        (
          refl,
          refl,
          omega arith,
          k.0,
          k.1,
          (λ m has le. (
            prefix_prefix r.log m.1 v.seen (fits.merged m has) fits.seen le,
            λ p e there mine. (r.numbers.merged id v m at has).1 p e (at_prefix r.log v.seen p e fits.seen there) mine,
          )),
        ),
      )
