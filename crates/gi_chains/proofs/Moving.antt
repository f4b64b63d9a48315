use Rattle.std.proofs.Common.{◌≡◌, ◌≢◌, ℕ, ◌+◌, ◌<◌, List, [], length, get_or, set, sym, ap, ◌∙◌, subst, arith, ◌⊎◌, inl, inr, length-set, get_or-set_other, get_or-set_same}
use Rattle.std.specs.List.{remove}
use Rattle.std.proofs.lemmas.Bool.{cases_lt, cases_eq}
use Rattle.std.proofs.lemmas.List.{set-set}
use Rattle.std.proofs.lemmas.List.Edits.{length-remove, get_or-remove_below, get_or-remove_above}
use Rattle.gi_chains.specs.Lists.{items_at, StandsAt, IsFree, IsApart}

module _ (lists : List (List ℕ)) (n : ℕ) (words : List ℕ) (apart : IsApart (record { lists = lists; nodes = n; words = words })) (l i k : ℕ) (s : StandsAt lists l i k) where
  -- a node that was taken out stands nowhere
  pub IsFree-unlinked : IsFree (set lists l (remove (items_at lists l) i)) k
  IsFree-unlinked m j t = go (cases_eq m l)
    where
      xs : List ℕ
      xs = items_at lists l

      here : (y : ℕ) → y ≢ i → y < length (items_at lists l) → get_or (items_at lists l) y 0 ≡ k → ⊥
      here y ne yl e = ne (apart.same_place l y l i k (record { list = s.list; place = yl; item = e }) s)

      go : (m ≡ l) ⊎ (m ≡ l → ⊥) → ⊥
      go (inl same) =
          let it : items_at (set lists l (remove (items_at lists l) i)) m ≡ remove (items_at lists l) i = ap (items_at (set lists l (remove (items_at lists l) i))) same ∙ get_or-set_same lists l (remove (items_at lists l) i) [] s.list in
          let jl : j < length (remove (items_at lists l) i) = subst (λ (z : List ℕ). j < length z) it t.place in
          let e : get_or (remove (items_at lists l) i) j 0 ≡ k = subst (λ (z : List ℕ). get_or z j 0 ≡ k) it t.item in
          let len = length-remove (items_at lists l) i s.place in
          elim (cases_lt j i) [
            | inl below ↦ let il : i < length (items_at lists l) = s.place in here j (omega arith) (omega arith) (sym (get_or-remove_below (items_at lists l) i 0 j below s.place) ∙ e)
            | inr above ↦ here (j + 1) (omega arith) (omega arith) (sym (get_or-remove_above (items_at lists l) i 0 j above s.place) ∙ e)
          ]
      go (inr other) =
          let it : items_at (set lists l (remove (items_at lists l) i)) m ≡ items_at lists m = get_or-set_other lists l m (remove (items_at lists l) i) [] other in
          let old : StandsAt lists m j k = record {
            list = subst (λ (z : ℕ). m < z) (length-set lists l (remove (items_at lists l) i)) t.list;
            place = subst (λ (z : List ℕ). j < length z) it t.place;
            item = subst (λ (z : List ℕ). get_or z j 0 ≡ k) it t.item;
          } in
          other (apart.same_list m j l i k old s)

  pub moved : (ys : List ℕ → List ℕ) → set (set lists l (remove (items_at lists l) i)) l (ys (items_at (set lists l (remove (items_at lists l) i)) l)) ≡ set lists l (ys (remove (items_at lists l) i))
  moved ys = set-set lists l _ _ ∙ ap (λ z. set lists l (ys z)) (get_or-set_same lists l (remove (items_at lists l) i) [] s.list)
