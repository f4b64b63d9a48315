-- A search keeps its root level from slice to slice.
use Rattle.std.proofs.Common.{◌≡◌, ℕ, ◌<◌, ◌≤◌, Result, Ok, Err, Option, Some, None, List, [], ◌∷◌, length, take, get_or, refl, sym, ap, ◌∙◌, subst, arith, inl, inr}
use Rattle.std.specs.Result.{OnOk, OnErr}
use Rattle.std.specs.List.{Contains}
use Rattle.std.proofs.lemmas.Bool.{cases_lt, le-ltb}
use Rattle.gi_lit.specs.Closure.{Forces}
use Rattle.gi_store.specs.StoreView.{StoreView, with_learnt}
use Rattle.gi_prop.specs.TrailView.{TrailView, IsTrail, no_lits, cancelled}
use Rattle.gi_prop.specs.Attached.{Attached, IsAttached, IsForcedAt, Goes, Attaches, HasSameKeys}
use Rattle.gi_prop.proofs.Keys.{goes_edit}
use Rattle.gi_cdcl.specs.Sound.{IsSupported, IsTrailSound}
use Rattle.gi_cdcl.specs.Searching.{Searching, IsRooted, MatchesStore}
use Rattle.gi_cdcl.specs.Laws.{EditsKeepSearches}
use Rattle.gi_cdcl.specs.Invariant.{AreAttached}
use Rattle.gi_cdcl.proofs.Lists.{Contains-nil}
use Rattle.gi_cdcl.proofs.Uip.{holds_live}
use Rattle.gi_cdcl.proofs.Trails.{IsSound-learnt, IsSound-cut, cancelled_is}

pub rooted : (s : Searching) (h : StoreView) → MatchesStore s h → IsRooted s h
unfolding MatchesStore
rooted s h g = g

pub goes_with : (s : Searching) (h : StoreView) → IsRooted s h → MatchesStore s h
unfolding MatchesStore
goes_with s h r = r

-- a clause more supports what was supported
pub sound_learnt : (h new : StoreView) (t : TrailView) (key : ℕ) (c : List ℕ) → new ≡ with_learnt key c h → IsTrailSound h t → IsTrailSound new t
sound_learnt h new t key c e s = subst (λ (x : StoreView). IsTrailSound x t) (sym e) (IsSound-learnt h t s key c)

-- an edit of the store
pub goes_edited : EditsKeepSearches
goes_edited s old new g keeps live = goes_with s new (record {
  goes = goes_edit s.attached old new s.root (rooted s old g).goes keeps live;
  forced = λ k lt. let f = (rooted s old g).forced k lt in record {
    key = f.key;
    reason = f.reason;
    attached = f.attached;
    clause = f.clause;
    held = keeps.each f.key f.clause f.held (live f.key f.attached);
    forces = f.forces;
  };
})

-- the same literals, where what was attached is so still
forced_still : (p q : Attached) (h : StoreView) (t b : TrailView) → ((k : ℕ) → IsAttached p k → IsAttached q k) → b.lits ≡ t.lits → b.reasons ≡ t.reasons → (k : ℕ) → IsForcedAt p h t k → IsForcedAt q h b k
forced_still p q h t b keep el er k f = record {
  key = f.key;
  reason = ap (λ (rs : List (Option ℕ)). get_or rs k None) er ∙ f.reason;
  attached = keep f.key f.attached;
  clause = f.clause;
  held = f.held;
  forces = subst (λ (xs : List ℕ). Forces f.clause (get_or xs k 0) (take k xs)) (sym el) f.forces;
}

pub goes_still : (s t : Searching) (h : StoreView) → MatchesStore s h → ((k : ℕ) → IsAttached s.attached k → IsAttached t.attached k) → t.root.lits ≡ s.root.lits → t.root.reasons ≡ s.root.reasons → Goes t.attached h t.root → MatchesStore t h
goes_still s t h g keep el er goes = goes_with t h (record { goes = goes; forced = λ k lt. forced_still s.attached t.attached h s.root t.root keep el er k ((rooted s h g).forced k (subst (λ (xs : List ℕ). k < length xs) el lt)) })

-- an attempt to attach a key detaches none
pub attach_keeps : {X E : Type 0} (r : Result X E) (p q : Attached) (key : ℕ) → OnOk r (Attaches key p q) → OnErr r (HasSameKeys p q) → (k : ℕ) → IsAttached p k → IsAttached q k
attach_keeps (Ok x) p q key a e k i = a.kept k i
attach_keeps (Err x) p q key a e k i = e.kept k i

-- what two facts on an error give
pub err_both : {X E P Q R : Type 0} (r : Result X E) → (P → Q → R) → OnErr r P → OnErr r Q → OnErr r R
err_both (Ok x) f p q = p
err_both (Err x) f p q = f p q

-- with nothing on the trail
pub goes_blank : (s : Searching) (h : StoreView) (n : ℕ) → s.root ≡ no_lits n → Goes s.attached h s.root → MatchesStore s h
goes_blank s h n e goes = goes_with s h (record { goes = goes; forced = λ k lt. absurd (let z : length s.root.lits ≡ 0 = ap (λ (t : TrailView). length t.lits) e in omega (arith, lt, z)) })

-- what was forced is supported
pub rooted_sound : (s : Searching) (h : StoreView) → MatchesStore s h → IsTrailSound h s.root
rooted_sound s h g = record { each = λ k lt. let f = (rooted s h g).forced k lt in subst (IsSupported h s.root k) (sym f.reason) (f.clause, f.held, f.forces) }

-- back at the root
cancelled_same : (t : TrailView) → length t.level_starts ≤ 0 → cancelled 0 t ≡ t
cancelled_same t le = rw (le-ltb 0 (length t.level_starts) le) refl

cancelled_sound : (h : StoreView) (t : TrailView) → IsTrail t → IsTrailSound h t → IsTrailSound h (cancelled 0 t)
cancelled_sound h t tr s = elim (cases_lt 0 (length t.level_starts)) [
  | inl deep ↦ subst (IsTrailSound h) (sym (cancelled_is 0 t deep)) (IsSound-cut h t tr s 0 deep)
  | inr le ↦ subst (IsTrailSound h) (sym (cancelled_same t le)) s
]

take_none : (xs : List ℕ) → take 0 xs ≡ []
take_none [] = refl
take_none (x ∷ xs) = refl

none_of : (xs : List ℕ) → length xs ≤ 0 → xs ≡ []
none_of [] le = refl
none_of (x ∷ xs) le = absurd (omega arith)

pub cancelled_root : (t : TrailView) → (cancelled 0 t).level_starts ≡ []
cancelled_root t = elim (cases_lt 0 (length t.level_starts)) [
  | inl deep ↦ ap (λ (x : TrailView). x.level_starts) (cancelled_is 0 t deep) ∙ take_none t.level_starts
  | inr le ↦ ap (λ (x : TrailView). x.level_starts) (cancelled_same t le) ∙ none_of t.level_starts le
]

-- and the search goes with the store
pub goes_back : (p : Attached) (h : StoreView) (t b : TrailView) → IsTrail t → AreAttached p h t → IsTrailSound h t → b ≡ cancelled 0 t → Goes p h b → MatchesStore (record { attached = p; root = b }) h
goes_back p h t b tr a s e goes = goes_with (record { attached = p; root = b }) h (record { goes = goes; forced = λ k lt. at_place k (get_or b.reasons k None) refl (sound.each k lt) })
  where
    sound : IsTrailSound h b
    sound = subst (IsTrailSound h) (sym e) (cancelled_sound h t tr s)

    root : b.level_starts ≡ []
    root = ap (λ (x : TrailView). x.level_starts) e ∙ cancelled_root t

    at_place : (k : ℕ) (o : Option ℕ) → get_or b.reasons k None ≡ o → IsSupported h b k o → IsForcedAt p h b k
    at_place k None er u = absurd (Contains-nil k (subst (λ (xs : List ℕ). Contains xs k) root u))
    at_place k (Some r) er u = record { key = r; reason = er; attached = a.all r (holds_live h r u.0 u.1); clause = u.0; held = u.1; forces = u.2 }
