-- What a seat has after it waited.
use Rattle.std.proofs.Common.{◌≡◌, ℕ, ◌-◌, ◌/◌, ◌<◌, List, [], ◌∷◌, ◌++◌, length, true, refl, sym, ap, ◌∙◌, subst, append_assoc}
use Rattle.std.specs.Prelude.{Option, Some, None, All}
use Rattle.std.proofs.lemmas.List.Elements.{All-push}
use Rattle.atomic_table.specs.Table.{Me, Step, rest}
use Rattle.gi_turn.specs.declared.view.Entry.{Entry}
use Rattle.gi_turn.specs.declared.view.View.{View}
use Rattle.gi_turn.specs.Entries.{phase_after, glance_at}
use Rattle.gi_turn.specs.Views.{after_draw, after_look, with_turn}
use Rattle.gi_turn.specs.Steps.{Finds, Looks, IsIdle, OnlyLooks, HasTurn, HasEntered, glances_after}

module _ {T : Type 0} (stands : T → List Entry → Type 0) (may : List Entry → ℕ → Type 0) where
  at_same : (w v : View) (vain : List (ℕ × ℕ)) (log : List Entry) (t : T) → w ≡ record v { glances = v.glances ++ vain } → Finds stands may w (glances_after w [] log) log t
      → Finds stands may v ((v.glances ++ vain) ++ (length log, phase_after v.opened log) ∷ []) log t
  at_same w v vain log t e f = let h : Finds stands may record v { glances = v.glances ++ vain } (glances_after (record v { glances = v.glances ++ vain }) [] log) log t = subst (λ (y : View). Finds stands may y (glances_after y [] log) log t) e f in
      record { starts = h.starts; stands_for = h.stands_for; own_seen = h.own_seen; lawful = h.lawful; named = h.named; sole = h.sole }

  -- a seat that only looked has kept its ticket, and has no turn
  pub still_waits : (k : ℕ) (m m' : Me (Option T) View) → OnlyLooks k m m' → m.0.ticket ≡ Some k → IsIdle m → (m'.0.ticket ≡ Some k) × IsIdle m'
  still_waits k m m' w mine idle = (ap (λ (v : View). v.ticket) w.2 ∙ mine, (ap (λ (v : View). v.turn) w.2 ∙ idle.0, w.3 ∙ idle.1, ap (λ (v : View). v.spent) w.2 ∙ idle.2))

  pub takes_turn : (st : Step (Option T)) (m0 m1 : Me (Option T) View) (r k : ℕ) (m2 : Me (Option T) View) → OnlyLooks k m0 m1 → Looks stands may st m1 r m2 → m0.0.ticket ≡ Some k → r / 8 ≡ k → HasTurn stands may m0.0 k m2
  takes_turn st m0 m1 r k m2 w looks mine is =
      let v : View = m0.0 in
      let e = w.2 in
      let x = (looks k (ap (λ (y : View). y.ticket) e ∙ mine)).0 is in
      let log : List Entry = x.0 in
      let all : (v.glances ++ w.0) ++ (length log, phase_after v.opened log) ∷ [] ≡ glances_after v w.0 log = append_assoc v.glances w.0 ((length log, phase_after v.opened log) ∷ []) in (
        log,
        w.0,
        x.1,
        x.2,
        w.1,
        subst (λ gs. Finds stands may v gs log x.1) all (at_same m1.0 v w.0 log x.1 e x.3),
        x.4 ∙ (ap (λ (y : View). with_turn (after_look y (length log, phase_after y.opened log)) log) e ∙ ap (λ (gs : List (ℕ × ℕ)). record v { turn = true; seen = log; glances = gs }) all),
        x.5,
      )

  -- one look more, in vain
  pub looks_on : (st : Step (Option T)) (m0 m1 : Me (Option T) View) (r k : ℕ) (m2 : Me (Option T) View) → OnlyLooks k m0 m1 → Looks stands may st m1 r m2 → m0.0.ticket ≡ Some k → (r / 8 ≡ k → ⊥) → OnlyLooks k m0 m2
  looks_on st m0 m1 r k m2 w looks mine isnt =
      let v : View = m0.0 in
      let e = w.2 in
      let x = (looks k (ap (λ (y : View). y.ticket) e ∙ mine)).1 isnt in
      let g : ℕ × ℕ = glance_at r in (
        w.0 ++ g ∷ [],
        All-push (λ (y : ℕ × ℕ). y.0 < k) w.0 g w.1 x.0,
        x.1 ∙ (ap (λ (y : View). after_look y g) e ∙ ap (λ (gs : List (ℕ × ℕ)). record v { glances = gs }) (append_assoc v.glances w.0 (g ∷ []))),
        x.2 ∙ w.3,
      )

  front : List (ℕ × Option T) → Option T
  front [] = None
  front (x ∷ xs) = x.1

  front_is : (x : ℕ × Option T) (xs : List (ℕ × Option T)) → front (x ∷ xs) ≡ x.1
  unfolding front
  front_is x xs = refl

  one_value : (a t : T) (c : List (ℕ × Option T)) → c ≡ (0, Some a) ∷ [] → c ≡ (0, Some t) ∷ rest c → a ≡ t
  one_value a t c p q = let e : Some a ≡ Some t = sym (front_is (0, Some a) []) ∙ (ap front (sym p ∙ q) ∙ front_is (0, Some t) (rest c)) in cc

  -- drawn, then the turn taken, then the value moved out: what `enter` says
  pub has_entered : (v : View) (k : ℕ) (a : View) (b m : Me (Option T) View) (t : T) → a ≡ after_draw v k → HasTurn stands may a k b → b.1 ≡ (0, Some t) ∷ rest b.1 → m ≡ (b.0, (0, None) ∷ rest b.1) → HasEntered stands may v t m.0
  has_entered v k a b m t e h is moved =
      let same : h.2 ≡ t = one_value h.2 t b.1 h.7 is in
      let f : Finds stands may (after_draw v k) (glances_after (after_draw v k) h.1 h.0) h.0 t = subst (λ (y : View × T). Finds stands may y.0 (glances_after y.0 h.1 h.0) h.0 y.1) (λ i. (e i, same i)) h.5 in record {
        log = h.0;
        vain = h.1;
        early = subst (λ (n : ℕ). All (λ (g : ℕ × ℕ). g.0 < n) h.1) (sym h.3) h.4;
        finds = record { starts = f.starts; stands_for = f.stands_for; own_seen = f.own_seen; lawful = f.lawful; named = f.named; sole = f.sole };
        view = ap (λ (y : Me (Option T) View). y.0) moved ∙ (h.6 ∙ (ap (λ (y : View). record y { turn = true; seen = h.0; glances = glances_after y h.1 h.0 }) e
            ∙ ap (λ (n : ℕ). record v { left = v.left - 1; ticket = Some n; turn = true; seen = h.0; glances = glances_after v h.1 h.0; fresh = [] }) (sym h.3)));
      }

  -- nothing is left in the seat's hands
  pub has_none_left : (v : View) (k : ℕ) (b m : Me (Option T) View) → HasTurn stands may v k b → m ≡ (b.0, (0, None) ∷ rest b.1) → m.1 ≡ (0, None) ∷ []
  has_none_left v k b m h moved = ap (λ (y : Me (Option T) View). y.1) moved ∙ ap (λ (l : List (ℕ × Option T)). (0, None) ∷ rest l) h.7

  -- the value moved back: it stands for the history with the entry that the seat is to publish
  pub moved_back : (m m' : Me (Option T) View) (t : T) (e : View → Entry) → m' ≡ (m.0, (0, Some t) ∷ rest m.1) → m.1 ≡ (0, None) ∷ [] → stands t (m.0.seen ++ e m.0 ∷ []) → (m'.1 ≡ (0, Some t) ∷ []) × stands t (m'.0.seen ++ e m'.0 ∷ [])
  moved_back m m' t e moved carried h = (
    ap (λ (y : Me (Option T) View). y.1) moved ∙ ap (λ (l : List (ℕ × Option T)). (0, Some t) ∷ rest l) carried,
    subst (λ (y : Me (Option T) View). stands t (y.0.seen ++ e y.0 ∷ [])) (sym moved) h,
  )
