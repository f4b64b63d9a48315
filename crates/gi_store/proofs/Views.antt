-- How the lists of keys are seen.
use Rattle.std.proofs.Common.{◌≡◌, ◌≢◌, ℕ, ◌+◌, ◌-◌, ◌*◌, ◌/◌, Option, Some, None, List, [], ◌∷◌, ◌++◌, length, take, drop, map, reverse, refl, sym, ap, ◌∙◌, subst, arith, inl, inr, length-append, append_assoc}
use Rattle.std.specs.List.{Contains}
use Rattle.std.specs.Option.{IsSome, unwrap_or}
use Rattle.std.proofs.lemmas.Bool.{false≢true}
use Rattle.std.proofs.lemmas.List.{map_push, map-append, append-nil, take_at, drop_at, length-map}
use Rattle.std.proofs.lemmas.List.Elements.{Contains-append_left, Contains-append_right, Contains-append_cases}
use Rattle.slab.specs.Slab.{Slab, get, Updates}
use Rattle.gi_lit.specs.Problem.{negatives}
use Rattle.gi_store.specs.StoreView.{Entry, GroupEntry, StoreView, full_entry, keys_of, with_plain, with_under, with_learnt}
use Rattle.gi_store.specs.declared.group_key.GroupKey.{GroupKey}
use Rattle.gi_store.specs.Stored.{entry_at, keys_in, guard_part, group_of, group_at, held_of, AreKeys, IsStored}
use Rattle.slab.proofs.SlabLemmas.{Contains-cons_cases}
use Rattle.gi_store.proofs.Lists.{map_same, IsDistinct-insert, Contains-insert, Contains-map, Contains-nil}

abbrev entry_of : ℕ → Option (List ℕ) → Entry
entry_of k o = record { key = k; lits = unwrap_or o [] }

abbrev built : ℕ → List ℕ → List ℕ → List Entry → List GroupEntry → List Entry → StoreView
built n active freed plain groups learnt = record { vars = n; plain = plain; groups = groups; active = active; freed = reverse freed; learnt = learnt }

abbrev key_in : GroupKey → ℕ
key_in g = g.key

module _ (s t : Slab (List ℕ)) where
  pub entries_same : (ks : List ℕ) → ((k : ℕ) → Contains ks k → get t k ≡ get s k) → map (entry_at t) ks ≡ map (entry_at s) ks
  entries_same ks h = map_same (entry_at t) (entry_at s) ks (λ k c. ap (entry_of k) (h k c))

  pub groups_same : (gs : List GroupKey) → ((k : ℕ) → Contains (keys_in gs) k → get t k ≡ get s k) → map (group_at t) gs ≡ map (group_at s) gs
  groups_same gs h = map_same (group_at t) (group_at s) gs (λ g c. ap (λ (o : Option (List ℕ)). group_of g (unwrap_or o [])) (h g.key (Contains-map key_in gs g c)))

  module _ (p : List ℕ) (q : List GroupKey) (l : List ℕ) (h : (k : ℕ) → Contains (p ++ (keys_in q ++ l)) k → get t k ≡ get s k) where
    in_plain : (k : ℕ) → Contains p k → get t k ≡ get s k
    in_plain k c = h k (Contains-append_left p (keys_in q ++ l) k c)

    in_groups : (k : ℕ) → Contains (keys_in q) k → get t k ≡ get s k
    in_groups k c = h k (Contains-append_right p (keys_in q ++ l) k (Contains-append_left (keys_in q) l k c))

    in_learnt : (k : ℕ) → Contains l k → get t k ≡ get s k
    in_learnt k c = h k (Contains-append_right p (keys_in q ++ l) k (Contains-append_right (keys_in q) l k c))

    pub held_same : (n : ℕ) (a f : List ℕ) → held_of n t p q l a f ≡ held_of n s p q l a f
    held_same n a f =
        ap (λ x. built n a f x (map (group_at t) q) (map (entry_at t) l)) (entries_same p in_plain)
        ∙ ap (λ x. built n a f (map (entry_at s) p) x (map (entry_at t) l)) (groups_same q in_groups)
        ∙ ap (λ x. built n a f (map (entry_at s) p) (map (group_at s) q) x) (entries_same l in_learnt)

    pub stored_same : IsStored s p q l → IsStored t p q l
    stored_same i = record {
      keys = record { live = λ k c. subst (λ (o : Option (List ℕ)). IsSome o) (sym (h k c)) (i.keys.live k c); distinct = i.keys.distinct };
      ends = λ g c. let e = in_groups g.key (Contains-map key_in q g c) in ap (entry_of g.key) e ∙ i.ends g c ∙ ap (λ (o : Option (List ℕ)). full_entry (group_of g (unwrap_or o []))) (sym e);
    }

-- the keys are the keys
keys_entries : (s : Slab (List ℕ)) (ks : List ℕ) → map (λ (e : Entry). e.key) (map (entry_at s) ks) ≡ ks
keys_entries s [] = refl
keys_entries s (k ∷ ks) = ap (λ xs. k ∷ xs) (keys_entries s ks)

keys_groups : (s : Slab (List ℕ)) (gs : List GroupKey) → map (λ (e : Entry). e.key) (map full_entry (map (group_at s) gs)) ≡ keys_in gs
keys_groups s [] = refl
keys_groups s (g ∷ gs) = ap (λ xs. g.key ∷ xs) (keys_groups s gs)

pub keys_are : (s : Slab (List ℕ)) (p : List ℕ) (q : List GroupKey) (l : List ℕ) (n : ℕ) (a f : List ℕ) → keys_of (held_of n s p q l a f) ≡ p ++ (keys_in q ++ l)
keys_are s p q l n a f =
    map-append (λ (e : Entry). e.key) (map (entry_at s) p) (map full_entry (map (group_at s) q) ++ map (entry_at s) l)
    ∙ ap (λ xs. xs ++ map (λ (e : Entry). e.key) (map full_entry (map (group_at s) q) ++ map (entry_at s) l)) (keys_entries s p)
    ∙ ap (λ xs. p ++ xs) (map-append (λ (e : Entry). e.key) (map full_entry (map (group_at s) q)) (map (entry_at s) l)
    ∙ ap (λ xs. xs ++ map (λ (e : Entry). e.key) (map (entry_at s) l)) (keys_groups s q)
    ∙ ap (λ xs. keys_in q ++ xs) (keys_entries s l))

abbrev made : ℕ → List ℕ → List ℕ → GroupEntry
made k gs c = record { key = k; guards = gs; clause = c }

-- so many guards under a key
abbrev pub placed : ℕ → List ℕ → GroupKey
placed k gs = record { key = k; guards = length gs }

pub vars_of_negatives : (gs : List ℕ) → map (λ l. l / 2) (negatives gs) ≡ gs
vars_of_negatives [] = refl
vars_of_negatives (g ∷ gs) = ap (λ x. x ∷ map (λ l. l / 2) (negatives gs)) (let e : (2 * g + 1) / 2 ≡ g = omega arith in e) ∙ ap (λ xs. g ∷ xs) (vars_of_negatives gs)

-- a clause with the guards' negative literals behind it
pub group_of_guarded : (k : ℕ) (gs c : List ℕ) → group_of (placed k gs) (c ++ negatives gs) ≡ made k gs c
group_of_guarded k gs c = ap (λ x. made k x (take (length (c ++ negatives gs) - length gs) (c ++ negatives gs))) guards ∙ ap (made k gs) clause
  where
    long : length (c ++ negatives gs) - length gs ≡ length c
    long = omega (arith, length-append c (negatives gs), length-map gs (λ (g : ℕ). 2 * g + 1))

    guards : map (λ l. l / 2) (guard_part (length gs) (c ++ negatives gs)) ≡ gs
    guards = ap (λ i. map (λ l. l / 2) (drop i (c ++ negatives gs))) long ∙ ap (map (λ l. l / 2)) (drop_at c (negatives gs) (length c) refl) ∙ vars_of_negatives gs

    clause : take (length (c ++ negatives gs) - length gs) (c ++ negatives gs) ≡ c
    clause = ap (λ i. take i (c ++ negatives gs)) long ∙ take_at c (negatives gs) (length c) refl

pub some_not_none : (o : Option (List ℕ)) → IsSome o → o ≡ None → ⊥
some_not_none None h e = false≢true h
some_not_none (Some x) h e = cc

-- a clause is stored at a key that had none
module _ (s t : Slab (List ℕ)) (k : ℕ) (c : List ℕ) (vacant : get s k ≡ None) (u : Updates s t k (Some c)) where
  differs : (j : ℕ) → IsSome (get s j) → j ≢ k
  differs j h e = some_not_none (get s j) h (ap (get s) e ∙ vacant)

  kept : (j : ℕ) → IsSome (get s j) → get t j ≡ get s j
  kept j h = u.others j (differs j h)

  keys_insert : (a b : List ℕ) → AreKeys s (a ++ b) → AreKeys t (a ++ k ∷ b)
  keys_insert a b h = record {
    live = λ j m. elim (Contains-insert a b k j m) [
      | inl e ↦ subst (λ i. IsSome (get t i)) e (subst (λ (o : Option (List ℕ)). IsSome o) (sym u.changed) refl)
      | inr r ↦ subst (λ (o : Option (List ℕ)). IsSome o) (sym (kept j (h.live j r))) (h.live j r)
    ];
    distinct = IsDistinct-insert a b k (λ m. differs k (h.live k m) refl) h.distinct;
  }

  new_entry : entry_at t k ≡ (let e : Entry = record { key = k; lits = c } in e)
  new_entry = ap (entry_of k) u.changed

  module _ (p : List ℕ) (q : List GroupKey) (l : List ℕ) (h : IsStored s p q l) where
    same : (j : ℕ) → Contains (p ++ (keys_in q ++ l)) j → get t j ≡ get s j
    same j m = kept j (h.keys.live j m)

    ends_same : (g : GroupKey) → Contains q g → entry_at t g.key ≡ full_entry (group_at t g)
    ends_same = (stored_same s t p q l same h).ends

    pub stored_plain : IsStored t (p ++ k ∷ []) q l
    stored_plain = record { keys = subst (AreKeys t) (sym (append_assoc p (k ∷ []) (keys_in q ++ l))) (keys_insert p (keys_in q ++ l) h.keys); ends = ends_same }

    pub stored_learnt : IsStored t p q (l ++ k ∷ [])
    stored_learnt = record {
      keys = subst (AreKeys t) (append_assoc (p ++ keys_in q) l (k ∷ []) ∙ append_assoc p (keys_in q) (l ++ k ∷ []))
          (keys_insert ((p ++ keys_in q) ++ l) [] (subst (AreKeys s) (sym (append_assoc p (keys_in q) l) ∙ sym (append-nil ((p ++ keys_in q) ++ l))) h.keys));
      ends = ends_same;
    }

    pub stored_group : (gs d : List ℕ) → c ≡ d ++ negatives gs → IsStored t p (q ++ placed k gs ∷ []) l
    stored_group gs d e = record {
      keys = subst (AreKeys t) (append_assoc p (keys_in q) (k ∷ l) ∙ ap (λ xs. p ++ xs) (sym (append_assoc (keys_in q) (k ∷ []) l)) ∙ ap (λ xs. p ++ (xs ++ l)) (sym (map_push key_in q (placed k gs))))
          (keys_insert (p ++ keys_in q) l (subst (AreKeys s) (sym (append_assoc p (keys_in q) l)) h.keys));
      ends = λ g m. elim (Contains-append_cases q (placed k gs ∷ []) g m) [
        | inl a ↦ ends_same g a
        | inr b ↦ subst (λ (x : GroupKey). entry_at t x.key ≡ full_entry (group_at t x)) (one g b) new_ends
      ];
    }
      where
        one : (g : GroupKey) → Contains (placed k gs ∷ []) g → placed k gs ≡ g
        one g b = elim (Contains-cons_cases (placed k gs) g [] b) [ inl x ↦ x | inr y ↦ absurd (Contains-nil g y) ]

        group_is : group_at t (placed k gs) ≡ made k gs d
        group_is = ap (λ (o : Option (List ℕ)). group_of (placed k gs) (unwrap_or o [])) u.changed ∙ ap (group_of (placed k gs)) e ∙ group_of_guarded k gs d

        new_ends : entry_at t k ≡ full_entry (group_at t (placed k gs))
        new_ends = new_entry ∙ ap (λ x. entry_of k (Some x)) e ∙ ap full_entry (sym group_is)

    pub held_plain : (n : ℕ) (a f : List ℕ) → held_of n t (p ++ k ∷ []) q l a f ≡ with_plain k c (held_of n s p q l a f)
    held_plain n a f =
        ap (λ x. built n a f x (map (group_at t) q) (map (entry_at t) l)) (map_push (entry_at t) p k ∙ ap (λ e. map (entry_at t) p ++ e ∷ []) new_entry)
        ∙ ap (with_plain k c) (held_same s t p q l same n a f)

    pub held_learnt : (n : ℕ) (a f : List ℕ) → held_of n t p q (l ++ k ∷ []) a f ≡ with_learnt k c (held_of n s p q l a f)
    held_learnt n a f =
        ap (λ x. built n a f (map (entry_at t) p) (map (group_at t) q) x) (map_push (entry_at t) l k ∙ ap (λ e. map (entry_at t) l ++ e ∷ []) new_entry)
        ∙ ap (with_learnt k c) (held_same s t p q l same n a f)

    pub held_group : (gs d : List ℕ) → c ≡ d ++ negatives gs → (n : ℕ) (a f : List ℕ) → held_of n t p (q ++ placed k gs ∷ []) l a f ≡ with_under k gs d (held_of n s p q l a f)
    held_group gs d e n a f =
        ap (λ x. built n a f (map (entry_at t) p) x (map (entry_at t) l)) (map_push (group_at t) q (placed k gs) ∙ ap (λ r. map (group_at t) q ++ r ∷ []) group_is)
        ∙ ap (with_under k gs d) (held_same s t p q l same n a f)
      where
        group_is : group_at t (placed k gs) ≡ made k gs d
        group_is = ap (λ (o : Option (List ℕ)). group_of (placed k gs) (unwrap_or o [])) u.changed ∙ ap (group_of (placed k gs)) e ∙ group_of_guarded k gs d

    -- the key was not in use
    pub was_free : (n : ℕ) (a f : List ℕ) → ¬ Contains (keys_of (held_of n s p q l a f)) k
    was_free n a f m = differs k (h.keys.live k (subst (λ ks. Contains ks k) (keys_are s p q l n a f) m)) refl
