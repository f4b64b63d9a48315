use Rattle.std.proofs.Common.{◌≡◌, ℕ, zero, suc, List, [], ◌∷◌, sym, ap, ◌∙◌, subst, arith}
use Rattle.std.specs.List.{Contains}
use Rattle.std.proofs.Common.{map}
use Rattle.std.proofs.lemmas.List.{get_or-map, length-map}
use Rattle.gi_lit.specs.Lists.{IsDistinct}
use Rattle.gi_store.specs.StoreView.{Entry, StoreView, entries, keys_of}
use Rattle.gi_prop.proofs.Closing.{HasOnly}

key_in : (es : List Entry) (k : ℕ) (c : List ℕ) → Contains es (record { key = k; lits = c }) → Contains (map (λ (e : Entry). e.key) es) k
key_in es k c h =
    let none : Entry = record { key = k; lits = c } in
    (h.0, rw length-map h.1, get_or-map (λ (x : Entry). x.key) es h.0 none k h.1 ∙ ap (λ (x : Entry). x.key) h.2)

only_in : (es : List Entry) → IsDistinct (map (λ (e : Entry). e.key) es) → (k : ℕ) (c d : List ℕ) → Contains es (record { key = k; lits = c }) → Contains es (record { key = k; lits = d }) → c ≡ d
only_in [] distinct k c d x y = absurd (let l = x.1 in omega arith)
only_in (e ∷ es) distinct k c d (zero, lx, ex) (zero, ly, ey) = sym (ap (λ (z : Entry). z.lits) ex) ∙ ap (λ (z : Entry). z.lits) ey
only_in (e ∷ es) distinct k c d (zero, lx, ex) (suc j, ly, ey) = absurd (distinct.0 (subst (Contains (map (λ (z : Entry). z.key) es)) (sym (ap (λ (z : Entry). z.key) ex)) (key_in es k d (j, omega arith, ey))))
only_in (e ∷ es) distinct k c d (suc i, lx, ex) (zero, ly, ey) = absurd (distinct.0 (subst (Contains (map (λ (z : Entry). z.key) es)) (sym (ap (λ (z : Entry). z.key) ey)) (key_in es k c (i, omega arith, ex))))
only_in (e ∷ es) distinct k c d (suc i, lx, ex) (suc j, ly, ey) = only_in es distinct.1 k c d (i, omega arith, ex) (j, omega arith, ey)

pub has_only : (s : StoreView) → IsDistinct (keys_of s) → HasOnly s
has_only s distinct k c d x y = only_in (entries s) distinct k c d x y
