-- Lists that a function tells, with a place changed and with more places.
use Rattle.std.proofs.Common.{◌≡◌, ◌≢◌, ℕ, zero, suc, ◌+◌, ◌-◌, ◌<◌, ◌≤◌, List, [], ◌∷◌, ◌++◌, length, get_or, set, map, replicate, ◌⊎◌, inl, inr, refl, sym, ap, ◌∙◌, arith, length-append, length-set, get_or-set_other, get_or-set_same}
use Rattle.std.specs.List.{range_with_len}
use Rattle.std.proofs.lemmas.Bool.{cases_eq, cases_lt}
use Rattle.std.proofs.lemmas.List.{get_or_append_left, get_or-append_right, get_or-replicate, length-replicate}
use Rattle.std.proofs.lemmas.List.FromFn.{length-map-range_with_len, get_or-map-range_with_len, fill_by_all}

-- an empty page behind the last changes no page
pub empty_page : {A : Type 0} (xs : List A) (d : A) (k : ℕ) → get_or (xs ++ d ∷ []) k d ≡ get_or xs k d
empty_page [] d zero = refl
empty_page [] d (suc k) = refl
empty_page (x ∷ xs) d zero = refl
empty_page (x ∷ xs) d (suc k) = empty_page xs d k

pub told_at : {T : Type 0} (f : ℕ → T) (n v : ℕ) (d : T) → v < n → get_or (map f (range_with_len 0 n)) v d ≡ f v
told_at f n v d lt = get_or-map-range_with_len f 0 n v v d lt (omega arith)

pub told_put : {T : Type 0} (f g : ℕ → T) (n v : ℕ) (x : T) → g v ≡ x → ((w : ℕ) → w ≢ v → g w ≡ f w) → v < n → map g (range_with_len 0 n) ≡ set (map f (range_with_len 0 n)) v x
told_put {T} f g n v x same other lt =
    sym (fill_by_all g (set (map f (range_with_len 0 n)) v x) n x (length-set (map f (range_with_len 0 n)) v x ∙ length-map-range_with_len f 0 n) (λ k kl. by_place k kl (cases_eq k v)))
  where
    by_place : (k : ℕ) → k < n → (k ≡ v) ⊎ (k ≢ v) → get_or (set (map f (range_with_len 0 n)) v x) k x ≡ g k
    by_place k kl (inl e) =
        ap (λ i. get_or (set (map f (range_with_len 0 n)) v x) i x) e
        ∙ get_or-set_same (map f (range_with_len 0 n)) v x x (omega (arith, lt, length-map-range_with_len f 0 n))
        ∙ sym same ∙ ap g (sym e)
    by_place k kl (inr ne) = get_or-set_other (map f (range_with_len 0 n)) v k x x ne ∙ told_at f n k x kl ∙ sym (other k ne)

pub told_more : {T : Type 0} (f : ℕ → T) (n m : ℕ) (d : T) → n ≤ m → ((v : ℕ) → n ≤ v → f v ≡ d) → map f (range_with_len 0 m) ≡ map f (range_with_len 0 n) ++ replicate (m - n) d
told_more {T} f n m d le past =
    let l = length-map-range_with_len f 0 n in
    let r = length-replicate (m - n) d in
    sym (fill_by_all f (map f (range_with_len 0 n) ++ replicate (m - n) d) m d (omega (arith, length-append (map f (range_with_len 0 n)) (replicate (m - n) d), l, r, le)) (λ k kl. by_place k kl (cases_lt k n)))
  where
    by_place : (k : ℕ) → k < m → (k < n) ⊎ (n ≤ k) → get_or (map f (range_with_len 0 n) ++ replicate (m - n) d) k d ≡ f k
    by_place k kl (inl lt) = get_or_append_left (map f (range_with_len 0 n)) (replicate (m - n) d) d k (omega (arith, lt, length-map-range_with_len f 0 n)) ∙ told_at f n k d lt
    by_place k kl (inr ge) =
        get_or-append_right (map f (range_with_len 0 n)) (replicate (m - n) d) n k d (length-map-range_with_len f 0 n) ge
        ∙ get_or-replicate (m - n) (k - n) d d (omega (arith, kl, ge))
        ∙ sym (past k ge)

pub told_same : {T : Type 0} (f : ℕ → T) (n : ℕ) (d : T) → ((v : ℕ) → f v ≡ d) → map f (range_with_len 0 n) ≡ replicate n d
told_same f n d same = told_more f 0 n d (omega arith) (λ v ge. same v) ∙ ap (λ k. replicate k d) (let e : n - 0 ≡ n = omega arith in e)
