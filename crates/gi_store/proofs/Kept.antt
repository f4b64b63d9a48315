-- All that a store keeps, after each edit.
use Rattle.std.proofs.Common.{◌≡◌, ℕ, ◌+◌, ◌-◌, ◌/◌, ◌<◌, ◌≤◌, true, Some, None, List, [], ◌∷◌, ◌++◌, length, take, drop, max, set, reverse, replicate, refl, sym, ap, ◌∙◌, subst, arith, length-append, length-set}
use Rattle.std.specs.List.{All, Contains, filter}
use Rattle.std.proofs.lemmas.List.{length-replicate, reverse-append}
use Rattle.slab.specs.Slab.{Slab, get, Updates}
use Rattle.gi_lit.specs.Literals.{max_var}
use Rattle.gi_lit.specs.Problem.{IsPlain, names, negatives, without}
use Rattle.gi_store.specs.StoreView.{StoreView, problem_of, IsWithin, with_plain, with_under, with_learnt, with_new_guard, without_guard_of, trimmed}
use Rattle.gi_store.specs.declared.group_key.GroupKey.{GroupKey}
use Rattle.gi_store.specs.Stored.{clause_at, held_of, StoreInvariant}
use Rattle.gi_store.specs.Whole.{IsWhole, IsTable}
use Rattle.gi_store.specs.declared.kind.VarKind.{VarKind}
use Rattle.gi_store.specs.declared.kind.VarKind.TheVariants as kind
use Rattle.gi_store.proofs.Forgetting.{keeps, spares, IsOther}
use Rattle.gi_store.proofs.Views.{held_same, stored_same, stored_plain, stored_learnt, stored_group, held_plain, held_learnt, held_group, placed}
use Rattle.gi_store.proofs.Edits.{table_same, whole_plain, whole_under, whole_learnt, whole_grown, table_grown, whole_without, table_without, whole_next, table_next, whole_again, table_again, whole_trimmed}
use Rattle.gi_store.proofs.Removing.{stored_without, held_without, stored_trimmed, held_trimmed}

module _ (kinds : List VarKind) (s t : Slab (List ℕ)) (p : List ℕ) (q : List GroupKey) (l a f : List ℕ) (room : ℕ) (i : StoreInvariant kinds s p q l a f room) where
  abbrev was : StoreView
  was = held_of (length kinds) s p q l a f

  module _ (k : ℕ) (c : List ℕ) (vacant : get s k ≡ None) (u : Updates s t k (Some c)) where
    pub kept_plain : IsPlain (problem_of was) c → StoreInvariant kinds t (p ++ k ∷ []) q l a f room
    kept_plain plain = let e = held_plain s t k c vacant u p q l i.stored (length kinds) a f in record {
      stored = stored_plain s t k c vacant u p q l i.stored;
      whole = subst IsWhole (sym e) (whole_plain was i.whole k c plain);
      table = subst (λ h. IsTable h kinds) (sym e) (table_same was (with_plain k c was) kinds refl refl refl i.table);
      rooms = i.rooms;
    }

    pub kept_learnt : IsWithin (length kinds) c → StoreInvariant kinds t p q (l ++ k ∷ []) a f room
    kept_learnt within = let e = held_learnt s t k c vacant u p q l i.stored (length kinds) a f in record {
      stored = stored_learnt s t k c vacant u p q l i.stored;
      whole = subst IsWhole (sym e) (whole_learnt was i.whole k c within);
      table = subst (λ h. IsTable h kinds) (sym e) (table_same was (with_learnt k c was) kinds refl refl refl i.table);
      rooms = i.rooms;
    }

    pub kept_group : (gs d : List ℕ) → c ≡ d ++ negatives gs → 0 < length gs → All (Contains a) gs → IsPlain (problem_of was) d → StoreInvariant kinds t p (q ++ placed k gs ∷ []) l a f room
    kept_group gs d ends some act plain = let e = held_group s t k c vacant u p q l i.stored gs d ends (length kinds) a f in record {
      stored = stored_group s t k c vacant u p q l i.stored gs d ends;
      whole = subst IsWhole (sym e) (whole_under was i.whole k d gs some act plain);
      table = subst (λ h. IsTable h kinds) (sym e) (table_same was (with_under k gs d was) kinds refl refl refl i.table);
      rooms = i.rooms;
    }

  pub kept_trimmed : (n : ℕ) → n ≡ length l / 2 → ((k : ℕ) → ¬ Contains (take n l) k → get t k ≡ get s k) → StoreInvariant kinds t p q (drop n l) a f room
  kept_trimmed n half others = let e = held_trimmed s t p q l n i.stored others (length kinds) a f half in record {
    stored = stored_trimmed s t p q l n i.stored others;
    whole = subst IsWhole (sym e) (whole_trimmed was i.whole);
    table = subst (λ h. IsTable h kinds) (sym e) (table_same was (trimmed was) kinds refl refl refl i.table);
    rooms = i.rooms;
  }

module _ (kinds : List VarKind) (s : Slab (List ℕ)) (p : List ℕ) (q : List GroupKey) (l a f : List ℕ) (room : ℕ) (i : StoreInvariant kinds s p q l a f room) where
  abbrev before : StoreView
  before = held_of (length kinds) s p q l a f

  abbrev kept_at : StoreView → List VarKind → Type 0
  kept_at h ks = IsWhole h × IsTable h ks

  long : (n : ℕ) → length (kinds ++ replicate (n - length kinds) kind.Problem) ≡ max (length kinds) n
  long n = omega (arith, length-append kinds (replicate (n - length kinds) kind.Problem), length-replicate (n - length kinds) kind.Problem)

  pub kept_grown : (n : ℕ) → n ≤ max_var → StoreInvariant (kinds ++ replicate (n - length kinds) kind.Problem) s p q l a f room
  kept_grown n limit = record {
    stored = i.stored;
    whole = subst (λ m. IsWhole (held_of m s p q l a f)) (sym (long n)) (whole_grown before i.whole n limit);
    table = subst (λ m. IsTable (held_of m s p q l a f) (kinds ++ replicate (n - length kinds) kind.Problem)) (sym (long n)) (table_grown before i.whole n limit kinds refl i.table);
    rooms = i.rooms;
  }

  pub grown_held : (n : ℕ) → held_of (length (kinds ++ replicate (n - length kinds) kind.Problem)) s p q l a f ≡ record before { vars = max (length kinds) n }
  grown_held n = ap (λ m. held_of m s p q l a f) (long n)

  -- the next variable is a guard
  module _ (e : f ≡ []) where
    next_is : held_of (length (kinds ++ kind.Active ∷ [])) s p q l (a ++ (length kinds + 1) ∷ []) [] ≡ with_new_guard before
    next_is = rw e (ap (λ m. held_of m s p q l (a ++ (length kinds + 1) ∷ []) []) (length-append kinds (kind.Active ∷ [])))

    pub kept_next : (more : ℕ) → length kinds < max_var → 1 + length a ≤ more → StoreInvariant (kinds ++ kind.Active ∷ []) s p q l (a ++ (length kinds + 1) ∷ []) [] more
    kept_next more limit rooms = record {
      stored = i.stored;
      whole = subst IsWhole (sym next_is) (whole_next before i.whole (rw e refl) limit);
      table = subst (λ m. IsTable (held_of m s p q l (a ++ (length kinds + 1) ∷ []) []) (kinds ++ kind.Active ∷ [])) (sym (length-append kinds (kind.Active ∷ []))) (table_next before i.whole (rw e refl) kinds refl i.table);
      rooms = omega (arith, length-append a ((length kinds + 1) ∷ []));
    }

    pub next_held : held_of (length (kinds ++ kind.Active ∷ [])) s p q l (a ++ (length kinds + 1) ∷ []) [] ≡ with_new_guard before
    next_held = next_is

  -- a freed guard comes again
  module _ (g : ℕ) (rest : List ℕ) (e : f ≡ rest ++ g ∷ []) where
    turned : reverse f ≡ g ∷ reverse rest
    turned = ap reverse e ∙ reverse-append rest (g ∷ [])

    again_is : held_of (length (set kinds (g - 1) kind.Active)) s p q l (a ++ g ∷ []) rest ≡ with_new_guard before
    again_is = ap (λ m. held_of m s p q l (a ++ g ∷ []) rest) (length-set kinds (g - 1) kind.Active) ∙ sym (ap (λ (fs : List ℕ). guarded_again fs) turned)
      where
        guarded_again : List ℕ → StoreView
        guarded_again fs = with_new_guard (record before { freed = fs })

    pub kept_again : (more : ℕ) → length rest + 1 + length a ≤ more → StoreInvariant (set kinds (g - 1) kind.Active) s p q l (a ++ g ∷ []) rest more
    kept_again more rooms = record {
      stored = i.stored;
      whole = subst IsWhole (sym again_is) (whole_again before i.whole g (reverse rest) turned);
      table = subst (λ m. IsTable (held_of m s p q l (a ++ g ∷ []) rest) (set kinds (g - 1) kind.Active)) (sym (length-set kinds (g - 1) kind.Active)) (table_again before i.whole g (reverse rest) turned kinds refl i.table);
      rooms = omega (arith, length-append a (g ∷ []));
    }

    pub again_held : held_of (length (set kinds (g - 1) kind.Active)) s p q l (a ++ g ∷ []) rest ≡ with_new_guard before
    again_held = again_is

-- a guard's clauses go
module _ (kinds : List VarKind) (s m t : Slab (List ℕ)) (p : List ℕ) (q : List GroupKey) (l a f : List ℕ) (room : ℕ) (i : StoreInvariant kinds s p q l a f room) (g : ℕ) (act : Contains a g)
    (first : (k : ℕ) → IsOther g s q k → get m k ≡ get s k)
    (second : (k : ℕ) → ¬ (Contains l k × (names g (clause_at m k) ≡ true)) → get t k ≡ get m k) where
  without_is : held_of (length (set kinds (g - 1) kind.Freed)) t p (filter (spares g s) q) (filter (keeps g m) l) (without g a) (f ++ g ∷ []) ≡ without_guard_of g (held_of (length kinds) s p q l a f)
  without_is = ap (λ n. held_of n t p (filter (spares g s) q) (filter (keeps g m) l) (without g a) (f ++ g ∷ [])) (length-set kinds (g - 1) kind.Freed)
      ∙ held_without s m t p q l g i.stored first second (length kinds) a f

  pub kept_without : (more : ℕ) → length f + 1 + length (without g a) ≤ more → StoreInvariant (set kinds (g - 1) kind.Freed) t p (filter (spares g s) q) (filter (keeps g m) l) (without g a) (f ++ g ∷ []) more
  kept_without more rooms = record {
    stored = stored_without s m t p q l g i.stored first second;
    whole = subst IsWhole (sym without_is) (whole_without (held_of (length kinds) s p q l a f) i.whole g act);
    table = subst (λ h. IsTable h (set kinds (g - 1) kind.Freed)) (sym without_is) (table_without (held_of (length kinds) s p q l a f) i.whole g act kinds refl i.table);
    rooms = omega (arith, length-append f (g ∷ []));
  }

  pub without_held : held_of (length (set kinds (g - 1) kind.Freed)) t p (filter (spares g s) q) (filter (keeps g m) l) (without g a) (f ++ g ∷ []) ≡ without_guard_of g (held_of (length kinds) s p q l a f)
  without_held = without_is

-- nothing has changed but room
pub kept_same : (kinds : List VarKind) (s t : Slab (List ℕ)) (p : List ℕ) (q : List GroupKey) (l a f : List ℕ) (room : ℕ) → StoreInvariant kinds s p q l a f room → ((k : ℕ) → get t k ≡ get s k) → StoreInvariant kinds t p q l a f room
kept_same kinds s t p q l a f room i same = let e = held_same s t p q l (λ k c. same k) (length kinds) a f in record {
  stored = stored_same s t p q l (λ k c. same k) i.stored;
  whole = subst IsWhole (sym e) i.whole;
  table = subst (λ h. IsTable h kinds) (sym e) i.table;
  rooms = i.rooms;
}
