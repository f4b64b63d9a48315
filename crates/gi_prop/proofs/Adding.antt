use Rattle.std.proofs.Common.{◌≡◌, ℕ, ◌<◌, ◌≤◌, Option, Some, None, List, [], ◌∷◌, ◌++◌, length, take, get_or, refl, sym, ap, ◌∙◌, subst, arith, inl, inr, length-append, append_assoc}
use Rattle.std.specs.List.{Contains}
use Rattle.std.proofs.lemmas.Bool.{cases_lt}
use Rattle.std.proofs.lemmas.List.{get_or_append_left, get_or_push, get_or-map, length-map, take-append-le, take_all, append-nil}
use Rattle.std.proofs.lemmas.List.Elements.{Contains-get_or}
use Rattle.gi_lit.specs.Closure.{Forces, IsDerivation}
use Rattle.gi_store.specs.StoreView.{Entry, StoreView, Holds, IsLive, entries}
use Rattle.gi_prop.specs.TrailView.{TrailView, with_lit}
use Rattle.gi_prop.specs.Attached.{Attached, IsAttached, IsForcedAt, AddsForced}

-- a key in use has a clause
pub held_live : (s : StoreView) (key : ℕ) (clause : List ℕ) → Holds s key clause → IsLive s key
held_live s key clause h =
    let none : Entry = record { key = key; lits = clause } in
    (h.0, rw length-map h.1, get_or-map (λ (x : Entry). x.key) (entries s) h.0 none key h.1 ∙ ap (λ (x : Entry). x.key) h.2)

pub live_holds : (s : StoreView) (key : ℕ) → IsLive s key → (clause : List ℕ) × Holds s key clause
live_holds s key h =
    let lt : h.0 < length (entries s) = rw length-map at h.1 in
    let none : Entry = record { key = key; lits = [] } in
    let e = get_or (entries s) h.0 none in
    let k : e.key ≡ key = sym (get_or-map (λ (x : Entry). x.key) (entries s) h.0 none key lt) ∙ h.2 in
    (e.lits, subst (λ (n : ℕ). Contains (entries s) (record { key = n; lits = e.lits })) k (Contains-get_or (entries s) h.0 none lt))

-- what was forced stays so when more is added
forced_on : (p : Attached) (s : StoreView) (a b : TrailView) (more : List ℕ) (why : List (Option ℕ)) (k : ℕ) → length a.reasons ≡ length a.lits → b.lits ≡ a.lits ++ more → b.reasons ≡ a.reasons ++ why → k < length a.lits → IsForcedAt p s a k → IsForcedAt p s b k
forced_on p s a b more why k al el er lt f = record {
  key = f.key;
  reason = rw (er, get_or_append_left a.reasons why None k (omega arith)) f.reason;
  attached = f.attached;
  clause = f.clause;
  held = f.held;
  forces = rw (el, get_or_append_left a.lits more 0 k lt, take-append-le k a.lits more (omega arith)) f.forces;
}

pub AddsForced-refl : (p : Attached) (s : StoreView) (t : TrailView) → AddsForced p s t t
AddsForced-refl p s t = record { vars = refl; level_starts = refl; qheads = refl; more = []; lits = sym (append-nil t.lits); why = []; reasons = sym (append-nil t.reasons); each = λ k le lt. absurd (omega arith) }

pub AddsForced-trans : (p : Attached) (s : StoreView) (a b c : TrailView) → length b.reasons ≡ length b.lits → AddsForced p s a b → AddsForced p s b c → AddsForced p s a c
AddsForced-trans p s a b c al e f = record {
  vars = f.vars ∙ e.vars;
  level_starts = f.level_starts ∙ e.level_starts;
  qheads = f.qheads ∙ e.qheads;
  more = e.more ++ f.more;
  lits = f.lits ∙ ap (λ xs. xs ++ f.more) e.lits ∙ append_assoc a.lits e.more f.more;
  why = e.why ++ f.why;
  reasons = f.reasons ∙ ap (λ xs. xs ++ f.why) e.reasons ∙ append_assoc a.reasons e.why f.why;
  each = λ k le lt. elim (cases_lt k (length b.lits)) [
    | inl below ↦ forced_on p s b c f.more f.why k al f.lits f.reasons below (e.each k le below)
    | inr high ↦ f.each k high lt
  ];
}

-- one literal more
pub AddsForced-one : (p : Attached) (s : StoreView) (t : TrailView) (l key : ℕ) (clause : List ℕ) → length t.reasons ≡ length t.lits → IsAttached p key → Holds s key clause → Forces clause l t.lits → AddsForced p s t (with_lit l (Some key) t)
AddsForced-one p s t l key clause al attached held forces = record {
  vars = refl;
  level_starts = refl;
  qheads = refl;
  more = l ∷ [];
  lits = refl;
  why = Some key ∷ [];
  reasons = refl;
  each = λ k le lt.
      let e : length t.lits ≡ k = omega (arith, length-append t.lits (l ∷ [])) in
      subst (IsForcedAt p s (with_lit l (Some key) t)) e last;
}
  where
    front : take (length t.lits) (t.lits ++ l ∷ []) ≡ t.lits
    front = take-append-le (length t.lits) t.lits (l ∷ []) (omega arith) ∙ take_all (length t.lits) t.lits (omega arith)

    last : IsForcedAt p s (with_lit l (Some key) t) (length t.lits)
    last = record { key = key; reason = get_or_push t.reasons (Some key) None (length t.lits) al; attached = attached; clause = clause; held = held; forces = rw (get_or_push t.lits l 0 (length t.lits) refl, front) forces }

-- how much was looked at makes no difference
pub AddsForced-look : (p : Attached) (s : StoreView) (old t new : TrailView) (n : ℕ) → new ≡ record t { head = n } → AddsForced p s old t → AddsForced p s old new
AddsForced-look p s old t new n e a = subst (AddsForced p s old) (sym e) (record {
  vars = a.vars;
  level_starts = a.level_starts;
  qheads = a.qheads;
  more = a.more;
  lits = a.lits;
  why = a.why;
  reasons = a.reasons;
  each = λ k le lt. let f = a.each k le lt in record { key = f.key; reason = f.reason; attached = f.attached; clause = f.clause; held = f.held; forces = f.forces };
})

pub added_length : (p : Attached) (s : StoreView) (a b : TrailView) → AddsForced p s a b → length a.lits ≤ length b.lits
added_length p s a b e = rw e.lits (simp length-append (omega arith))

-- the literals behind are derived from those before
pub added_derived : (p : Attached) (s : StoreView) (old new : TrailView) (clauses : List (List ℕ)) → AddsForced p s old new → ((k : ℕ) (clause : List ℕ) → IsAttached p k → Holds s k clause → Contains clauses clause) → IsDerivation clauses old.lits new.lits
added_derived p s old new clauses a has = record {
  each = λ k lt. elim (cases_lt k (length old.lits)) [
    | inl below ↦ inl (rw (a.lits, get_or_append_left old.lits a.more 0 k below) (Contains-get_or old.lits k 0 below))
    | inr high ↦ let f = a.each k high lt in inr (f.clause, has f.key f.clause f.attached f.held, f.forces)
  ];
}

-- the keys alone matter
pub AddsForced-keys : (p q : Attached) (s : StoreView) (a b : TrailView) → ((k : ℕ) → IsAttached p k → IsAttached q k) → AddsForced p s a b → AddsForced q s a b
AddsForced-keys p q s a b same e = record {
  vars = e.vars;
  level_starts = e.level_starts;
  qheads = e.qheads;
  more = e.more;
  lits = e.lits;
  why = e.why;
  reasons = e.reasons;
  each = λ k le lt. let f = e.each k le lt in record { key = f.key; reason = f.reason; attached = same f.key f.attached; clause = f.clause; held = f.held; forces = f.forces };
}
