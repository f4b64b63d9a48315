-- Why there are marks, and what a pass keeps where it makes no turn.
use Rattle.std.proofs.Common.{◌≡◌, ℕ, zero, suc, ◌<◌, ◌≤◌, Some, List, [], ◌∷◌, ◌++◌, length, take, refl, ap, sym, ◌∙◌, subst, arith, ◌⊎◌, inl, inr, ⊎_elim}
use Rattle.std.specs.Prelude.{Contains, slice_get, slice_index_or}
use Rattle.std.proofs.lemmas.List.{map-append, length-map, take-map}
use Rattle.std.proofs.lemmas.List.Elements.{All-map, Contains-append_left, Contains-append_right, Contains-append_cases}
use Rattle.gi_room.proofs.Turns.{at_get, foreign_rest}
use Rattle.gi_model.specs.State.{State, opening}
use Rattle.gi_model.specs.Effects.{after}
use Rattle.gi_model.specs.History.{Entry, IsLegal, after_all}
use Rattle.gi_model.specs.Bound.{IsShort}
use Rattle.gi_model.specs.Bound as bound
use Rattle.gi_turn.specs.Entries.{At, StartsWith, longer_of}
use Rattle.gi_turn.specs.Known.{Place}
use Rattle.gi_turn.specs.Numbers.{child}
use Rattle.gi_turn.specs.Views.{KnowsPhases, KnowsMarks, OwnSeen, after_look, after_ask, after_split, split_off, join_of}
use Rattle.gi_turn.specs.declared.view.Entry.{Entry as Turn}
use Rattle.gi_turn.specs.declared.view.View.{View}
use Rattle.gi_turn.proofs.Numbers.{child_above}
use Rattle.gi_turn.proofs.Views.{longer_is, has_first, has_rest, has_cases, has_none}
use Rattle.gi_room.specs.Telling.{call_in, reply_in}
use Rattle.gi_room.specs.Histories.{entry_in, history_in, mark_of, AreTurns, IsStarted}
use Rattle.gi_room.specs.Seen.{Seen, seen_of, glance_of, IsPassView, MayAsk}
use Rattle.gi_room.specs.Calls.{HasCauses, SolvesAreShort, glanced, split_left, split_right, Joins, HasGrown, SoleBut, IsClosed}
use Rattle.gi_room.specs.Calls as calls

turn_at : (es : List Turn) (s : State) (k : ℕ) (e : Entry) → AreTurns s es → slice_get (history_in es) k ≡ Some e → (t : Turn) × At es k t × (t.mark ≡ mark_of e.call)
unfolding AreTurns
turn_at [] s k e h is = absurd cc
turn_at (x ∷ es) s zero e h is = (let same : entry_in x ≡ e = cc in (x, refl, h.0.mark ∙ ap (λ (y : Entry). mark_of y.call) same))
turn_at (x ∷ es) s (suc k) e h is = turn_at es (after s (call_in x.told) (reply_in x.told)) k e h.1 is

pub causes : (place : Place) (v : View) → AreTurns opening v.seen → KnowsMarks MayAsk v → HasCauses (seen_of place v)
causes place v turns knows = record {
  lawful = λ k e at some.
      let t = turn_at v.seen opening k e turns at in
      let c = knows.0 k t.0 t.1 (λ z. some (sym t.2 ∙ z)) in
      (c.0, c.1, subst (λ es. IsStarted es (mark_of e.call)) (sym (take-map entry_in c.0 v.seen)) (subst (λ m. IsStarted (history_in (take c.0 v.seen)) m) t.2 c.2));
  sole = λ sole k e at some.
      let t = turn_at v.seen opening k e turns at in
      let c = knows.1 sole k t.0 t.1 (λ z. some (sym t.2 ∙ z)) in
      (c.0, c.1, subst (λ m. Contains v.asked (m, c.0)) t.2 c.2);
  whole = λ sole. All-map (λ (e : Entry). Contains v.held e.by) entry_in v.seen (λ k d lt. knows.2 sole k (slice_index_or v.seen k d) (at_get v.seen k d lt));
}

pub short : (history : List Entry) → bound.SolvesAreShort → IsLegal history → SolvesAreShort history
short history law legal es more by budget serial is quiet none =
    subst (λ (h : List Entry). IsShort (after_all opening es).problem.vars budget more (after_all opening h)) (sym is) (law es more by budget serial (subst IsLegal is legal) quiet none)

pub kept_looked : (v w : View) (g : ℕ × ℕ) → IsPassView v → w ≡ after_look v g → KnowsPhases w → IsPassView w
kept_looked v w g k is phases = record {
  idle = ap (λ (y : View). y.turn) is ∙ k.idle;
  opened = ap (λ (y : View). y.opened) is ∙ k.opened;
  turns = subst (λ (y : View). AreTurns opening y.seen) (sym is) k.turns;
  phases = phases;
  marks = subst (KnowsMarks MayAsk) (sym is) k.marks;
  own = subst (λ (y : View). Contains y.held y.number) (sym is) k.own;
}

pub kept_asked : (v w : View) (mark : ℕ) → IsPassView v → w ≡ after_ask v mark → IsPassView w
kept_asked v w mark k is = subst IsPassView (sym is) record {
  idle = k.idle;
  opened = k.opened;
  turns = k.turns;
  phases = k.phases;
  own = k.own;
  marks = (k.marks.0, λ sole i e at some. let c = k.marks.1 sole i e at some in (c.0, c.1, Contains-append_left v.asked ((mark, length v.seen) ∷ []) (e.mark, c.0) c.2), k.marks.2);
}

pub kept_split : (v w : View) → IsPassView v → w ≡ after_split v → IsPassView w
kept_split v w k is = subst IsPassView (sym is) record {
  idle = k.idle;
  opened = k.opened;
  turns = k.turns;
  phases = k.phases;
  own = k.own;
  marks = (k.marks.0, (λ sole. k.marks.1 (sole.0, λ n has. sole.1 n (has_rest (child v.number v.splits) v.kin n has))), (λ sole. k.marks.2 (sole.0, λ n has. sole.1 n (has_rest (child v.number v.splits) v.kin n has))));
}

pub kept_right : (v w : View) → IsPassView v → w ≡ split_off v → IsPassView w
kept_right v w k is = subst IsPassView (sym is) record {
  idle = k.idle;
  opened = k.opened;
  turns = k.turns;
  phases = k.phases;
  own = has_it (child v.number v.splits);
  marks = (k.marks.0, (λ sole. absurd (never sole.0)), (λ sole. absurd (never sole.0)));
}
  where
    has_it : (n : ℕ) → Contains (n ∷ []) n
    has_it n = (0, omega arith, refl)

    one_is : (n m : ℕ) → Contains (n ∷ []) m → n ≡ m
    one_is n m (zero, lt, e) = e
    one_is n m (suc k, lt, e) = absurd (omega arith)

    never : Contains (child v.number v.splits ∷ []) 0 → ⊥
    never has = let c = child_above v.number v.splits in let e : child v.number v.splits ≡ 0 = one_is (child v.number v.splits) 0 has in omega arith

longer_turns : (xs ys : List Turn) → AreTurns opening xs → AreTurns opening ys → AreTurns opening (longer_of xs ys)
longer_turns xs ys a b = go (longer_is xs ys)
  where
    go : ((longer_of xs ys ≡ ys) × (length xs < length ys)) ⊎ ((longer_of xs ys ≡ xs) × (length ys ≤ length xs)) → AreTurns opening (longer_of xs ys)
    go (inl h) = subst (AreTurns opening) (sym h.0) b
    go (inr h) = subst (AreTurns opening) (sym h.0) a

pub kept_joined : (v w u : View) → IsPassView v → IsPassView w → u ≡ join_of v w → KnowsPhases u → KnowsMarks MayAsk u → IsPassView u
kept_joined v w u k l is phases marks = record {
  idle = ap (λ (y : View). y.turn) is ∙ k.idle;
  opened = ap (λ (y : View). y.opened) is ∙ k.opened;
  turns = subst (λ (y : View). AreTurns opening y.seen) (sym is) (longer_turns v.seen w.seen k.turns l.turns);
  phases = phases;
  marks = marks;
  own = subst (λ (y : View). Contains y.held y.number) (sym is) (Contains-append_left v.held w.held v.number k.own);
}

-- what its pass sees of it
pub looks_as : (old : Seen) (place after : Place) (v w : View) (g : ℕ × ℕ) → seen_of place v ≡ old → after ≡ place → w ≡ after_look v g → seen_of after w ≡ glanced old (glance_of g)
looks_as old place after v w g is same e =
    (λ i. seen_of (same i) (e i)) ∙ (λ i. record (seen_of place v) { glances = map-append glance_of v.glances (g ∷ []) i }) ∙ ap (λ (p : Seen). glanced p (glance_of g)) is

pub asks_as : (old : Seen) (place after : Place) (v w : View) (mark : ℕ) → seen_of place v ≡ old → after ≡ place → w ≡ after_ask v mark → seen_of after w ≡ calls.after_ask old mark
asks_as old place after v w mark is same e =
    (λ i. seen_of (same i) (e i)) ∙ (λ i. record (seen_of place v) { asked = v.asked ++ (mark, sym (length-map v.seen entry_in) i) ∷ [] }) ∙ ap (λ (p : Seen). calls.after_ask p mark) is

pub splits_as : (old : Seen) (place after : Place) (v w : View) → seen_of place v ≡ old → after ≡ place → w ≡ after_split v → seen_of after w ≡ split_left old
splits_as old place after v w is same e = (λ i. seen_of (same i) (e i)) ∙ ap split_left is

pub splits_off_as : (old : Seen) (place after : Place) (v w : View) → seen_of place v ≡ old → after ≡ place → w ≡ split_off v → seen_of after w ≡ split_right old
splits_off_as old place after v w is same e = (λ i. seen_of (same i) (e i)) ∙ ap split_right is

grown : (place after : Place) (v u : View) → StartsWith u.seen v.seen → OwnSeen v u.seen → HasGrown (seen_of place v) (seen_of after u)
grown place after v u h own = record {
  more = history_in h.0;
  history = ap history_in h.1 ∙ map-append entry_in v.seen h.0;
  foreign = All-map (λ (e : Entry). ¬ Contains v.held e.by) entry_in h.0 (foreign_rest v.held v.seen h.0 (subst (OwnSeen v) h.1 own));
}

pub joins_as : (old other : Seen) (place from after : Place) (v w u : View) → seen_of place v ≡ old → seen_of from w ≡ other → after ≡ place → u ≡ join_of v w → StartsWith u.seen v.seen × StartsWith u.seen w.seen → OwnSeen v u.seen × OwnSeen w u.seen → Joins old other (seen_of after u)
joins_as old other place from after v w u is isnt same e one own =
    let P : Seen → Seen → Type 0 = λ p q. Joins p q (seen_of after u) in
    subst (λ p. P p other) is (subst (P (seen_of place v)) isnt record {
      place = same;
      number = ap (λ (y : View). y.number) e;
      splits = ap (λ (y : View). y.splits) e;
      left = ap (λ (y : View). y.left) e;
      held = ap (λ (y : View). y.held) e;
      kin = ap (λ (y : View). y.kin) e;
      asked = ap (λ (y : View). y.asked) e;
      one = go (longer_is v.seen w.seen);
      grown = grown place after v u one.0 own.0;
      grown_other = grown from after w u one.1 own.1;
    })
  where
    go : ((longer_of v.seen w.seen ≡ w.seen) × (length v.seen < length w.seen)) ⊎ ((longer_of v.seen w.seen ≡ v.seen) × (length w.seen ≤ length v.seen)) → (history_in u.seen ≡ history_in v.seen) ⊎ (history_in u.seen ≡ history_in w.seen)
    go (inl h) = inr (ap (λ (y : View). history_in y.seen) e ∙ ap history_in h.0)
    go (inr h) = inl (ap (λ (y : View). history_in y.seen) e ∙ ap history_in h.0)

-- numbers that are out
pub splits_counted : (p : Seen) (out : List ℕ) → SoleBut p out → SoleBut (split_left p) (child p.number p.splits ∷ out)
splits_counted p out h = (h.0, λ n has. ⊎_elim (λ is. inr (subst (Contains (child p.number p.splits ∷ out)) (sym is) (has_first (child p.number p.splits) out))) (λ old. ⊎_elim inl (λ o. inr (has_rest (child p.number p.splits) out n o)) (h.1 n old)) (has_cases (child p.number p.splits) p.kin n has))

pub joins_counted : (p q r : Seen) (n : ℕ) (out : List ℕ) → SoleBut p (n ∷ out) → IsClosed q → Contains q.held n → Joins p q r → SoleBut r out
joins_counted p q r n out h closed back j =
    let mine : (m : ℕ) → Contains p.held m → Contains r.held m = λ m has. subst (λ (ns : List ℕ). Contains ns m) (sym j.held) (Contains-append_left p.held q.held m has) in
    let its : (m : ℕ) → Contains q.held m → Contains r.held m = λ m has. subst (λ (ns : List ℕ). Contains ns m) (sym j.held) (Contains-append_right p.held q.held m has) in (
      mine 0 h.0,
      λ m has. ⊎_elim (λ k. ⊎_elim (λ x. inl (mine m x)) (λ o. ⊎_elim (λ is. inl (subst (Contains r.held) (sym is) (its n back))) inr (has_cases n out m o)) (h.1 m k)) (λ k. inl (its m (closed m k)))
          (Contains-append_cases p.kin q.kin m (subst (λ (ns : List ℕ). Contains ns m) j.kin has)),
    )

pub none_out : (p : Seen) → SoleBut p [] → calls.Sole p
none_out p h = (h.0, λ n has. ⊎_elim (λ x. x) (λ o. absurd (has_none n o)) (h.1 n has))
