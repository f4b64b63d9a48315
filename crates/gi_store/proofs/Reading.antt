-- What is read of a store.
use Rattle.std.proofs.Common.{◌≡◌, ℕ, zero, suc, ◌-◌, ◌<◌, ◌≤◌, cond, Option, Some, None, List, [], ◌∷◌, ◌++◌, length, map, get_or, refl, sym, ap, ◌∙◌, subst, arith, inl, inr}
use Rattle.std.specs.List.{Contains, slice_get}
use Rattle.std.specs.Option.{IsSome}
use Rattle.std.proofs.lemmas.Bool.{ne_eqb}
use Rattle.std.proofs.lemmas.List.Elements.{Contains-append_left, Contains-append_right, Contains-append_cases}
use Rattle.slab.specs.Slab.{Slab, get}
use Rattle.gi_lit.specs.Lists.{IsDistinct}
use Rattle.gi_store.specs.StoreView.{Entry, StoreView, full_entry, entries, keys_of, Holds, IsLive, at_place}
use Rattle.gi_store.specs.declared.group_key.GroupKey.{GroupKey}
use Rattle.gi_store.specs.Stored.{clause_at, entry_at, keys_in, group_at, held_of, IsStored}
use Rattle.gi_store.proofs.Lists.{Contains-map, Contains-unmap}
use Rattle.gi_store.proofs.Views.{keys_are}
use Rattle.gi_store.proofs.Removing.{one_clause}

pub get_left : {X : Type 0} (xs ys : List X) (i : ℕ) → i < length xs → slice_get (xs ++ ys) i ≡ slice_get xs i
get_left [] ys i lt = absurd (omega (arith, lt))
get_left (x ∷ xs) ys zero lt = refl
get_left (x ∷ xs) ys (suc i) lt = get_left xs ys i (omega arith)

pub get_right : {X : Type 0} (xs ys : List X) (i : ℕ) → length xs ≤ i → slice_get (xs ++ ys) i ≡ slice_get ys (i - length xs)
get_right [] ys i le = ap (slice_get ys) (let e : i ≡ i - 0 = omega arith in e)
get_right (x ∷ xs) ys zero le = absurd (omega (arith, le))
get_right (x ∷ xs) ys (suc i) le = get_right xs ys i (omega arith) ∙ ap (slice_get ys) (let e : i - length xs ≡ suc i - suc (length xs) = omega arith in e)

pub get_read : {X : Type 0} (xs : List X) (i : ℕ) (x : X) → i < length xs → x ≡ get_or xs i x → Some x ≡ slice_get xs i
get_read [] i x lt e = absurd (omega (arith, lt))
get_read (y ∷ xs) zero x lt e = ap Some e
get_read (y ∷ xs) (suc i) x lt e = get_read xs i x (omega arith) e

pub get_past : {X : Type 0} (xs : List X) (i : ℕ) → length xs ≤ i → None ≡ slice_get xs i
get_past [] i le = refl
get_past (y ∷ xs) zero le = absurd (omega (arith, le))
get_past (y ∷ xs) (suc i) le = get_past xs i (omega arith)

pub get_map : {X Y : Type 0} (f : X → Y) (xs : List X) (i : ℕ) (x : X) → i < length xs → x ≡ get_or xs i x → Some (f x) ≡ slice_get (map f xs) i
get_map f [] i x lt e = absurd (omega (arith, lt))
get_map f (y ∷ xs) zero x lt e = ap (λ z. Some (f z)) e
get_map f (y ∷ xs) (suc i) x lt e = get_map f xs i x (omega arith) e

pub at_number : {X : Type 0} (xs : List X) (i : ℕ) (o : Option X) → (i ≡ 0 → ⊥) → o ≡ slice_get xs (i - 1) → o ≡ at_place xs i
at_number xs i o n e = e ∙ sym (ap (λ b. cond b None (slice_get xs (i - 1))) (ne_eqb i 0 n))

pub known_read : (s : Slab (List ℕ)) (l : List ℕ) (i x : ℕ) → i < length l → x ≡ get_or l i x → Some (clause_at s x) ≡ slice_get (map (λ (e : Entry). e.lits) (map (entry_at s) l)) i
known_read s [] i x lt e = absurd (omega (arith, lt))
known_read s (y ∷ l) zero x lt e = ap (λ z. Some (clause_at s z)) e
known_read s (y ∷ l) (suc i) x lt e = known_read s l i x (omega arith) e

module _ (s : Slab (List ℕ)) (p : List ℕ) (q : List GroupKey) (l : List ℕ) (n : ℕ) (a f : List ℕ) (h : IsStored s p q l) where
  abbrev held : StoreView
  held = held_of n s p q l a f

  pub distinct_keys : IsDistinct (keys_of held)
  distinct_keys = subst IsDistinct (sym (keys_are s p q l n a f)) h.keys.distinct

  pub key_known : (k : ℕ) → IsLive held k → Contains (p ++ (keys_in q ++ l)) k
  key_known k c = subst (λ ks. Contains ks k) (keys_are s p q l n a f) c

  pub key_live : (k : ℕ) → Contains (p ++ (keys_in q ++ l)) k → IsLive held k
  key_live k c = subst (λ ks. Contains ks k) (sym (keys_are s p q l n a f)) c

  pub has_slot : (k : ℕ) → IsLive held k → IsSome (get s k)
  has_slot k c = h.keys.live k (key_known k c)

  pub holds_slot : (k : ℕ) → IsLive held k → Holds held k (clause_at s k)
  holds_slot k c = elim (Contains-append_cases p (keys_in q ++ l) k (key_known k c)) [
    | inl x ↦ Contains-append_left held.plain (map full_entry held.groups ++ held.learnt) (entry_at s k) (Contains-map (entry_at s) p k x)
    | inr r ↦ Contains-append_right held.plain (map full_entry held.groups ++ held.learnt) (entry_at s k) (elim (Contains-append_cases (keys_in q) l k r) [
      | inl x ↦ Contains-append_left (map full_entry held.groups) held.learnt (entry_at s k) (of_group (Contains-unmap (λ (g : GroupKey). g.key) q k x))
      | inr y ↦ Contains-append_right (map full_entry held.groups) held.learnt (entry_at s k) (Contains-map (entry_at s) l k y)
    ])
  ]
    where
      of_group : (g : GroupKey) × Contains q g × (g.key ≡ k) → Contains (map full_entry held.groups) (entry_at s k)
      of_group u = subst (λ j. Contains (map full_entry held.groups) (entry_at s j)) u.2 (subst (Contains (map full_entry held.groups)) (sym (h.ends u.0 u.1)) (Contains-map full_entry held.groups (group_at s u.0) (Contains-map (group_at s) q u.0 u.1)))

  pub holds_only : (k : ℕ) → IsLive held k → (c : List ℕ) → Holds held k c → clause_at s k ≡ c
  holds_only k live c x = one_clause (entries held) distinct_keys k (clause_at s k) c (holds_slot k live) x

  pub key_read : (i : ℕ) (o : Option ℕ) → (i ≡ 0 → ⊥) → o ≡ slice_get (p ++ (keys_in q ++ l)) (i - 1) → o ≡ at_place (keys_of held) i
  key_read i o some e = at_number (keys_of held) i o some (e ∙ ap (λ (ks : List ℕ). slice_get ks (i - 1)) (sym (keys_are s p q l n a f)))
