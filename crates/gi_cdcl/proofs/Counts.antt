-- Counting marks.
use Rattle.std.proofs.Common.{◌≡◌, ℕ, zero, suc, ◌+◌, ◌-◌, ◌<◌, ◌≤◌, Bool, true, false, cond, nat_lt, List, [], ◌∷◌, length, get_or, set, refl, sym, ap, ◌∙◌, arith, inl, inr, add-one, zero-add}
use Rattle.std.proofs.lemmas.Bool.{le-ltb, lt-ltb, cases_lt}
use Rattle.gi_cdcl.specs.Marks.{marked}
use Rattle.gi_cdcl.specs.Touched.{IsBlank}

pub marked-le : (n : ℕ) (bs : List Bool) → marked n bs ≤ n
marked-le zero bs = omega arith
marked-le (suc n) [] = omega arith
marked-le (suc n) (true ∷ bs) = omega (arith, marked-le n bs)
marked-le (suc n) (false ∷ bs) = omega (arith, marked-le n bs)

pub marked-suc : (n : ℕ) (bs : List Bool) → marked (suc n) bs ≡ marked n bs + cond (get_or bs n false) 1 0
marked-suc zero [] = refl
marked-suc zero (true ∷ bs) = refl
marked-suc zero (false ∷ bs) = refl
marked-suc (suc n) [] = refl
marked-suc (suc n) (b ∷ bs) = let h : marked (suc n) bs ≡ marked n bs + cond (get_or bs n false) 1 0 = marked-suc n bs in ap (λ m. cond b 1 0 + m) h ∙ omega arith

pub marked-more : (n : ℕ) (bs : List Bool) → marked (n + 1) bs ≡ marked n bs + cond (get_or bs n false) 1 0
marked-more n bs = rw add-one (marked-suc n bs)

nat_lt-suc : (i n : ℕ) → nat_lt (suc i) (suc n) ≡ nat_lt i n
nat_lt-suc i n = elim (cases_lt i n) [ inl lt ↦ lt-ltb (suc i) (suc n) (omega arith) ∙ sym (lt-ltb i n lt) | inr le ↦ le-ltb (suc i) (suc n) (omega arith) ∙ sym (le-ltb i n le) ]

pub marked-set : (n : ℕ) (bs : List Bool) (i : ℕ) → i < length bs → get_or bs i false ≡ false → marked n (set bs i true) ≡ marked n bs + cond (nat_lt i n) 1 0
marked-set zero bs i lt e = let f : nat_lt i 0 ≡ false = le-ltb i 0 (omega arith) in rw f (omega arith)
marked-set (suc n) [] i lt e = absurd (omega arith)
marked-set (suc n) (b ∷ bs) zero lt e = let f : nat_lt 0 (suc n) ≡ true = lt-ltb 0 (suc n) (omega arith) in rw (e, f) (omega arith)
marked-set (suc n) (b ∷ bs) (suc i) lt e = let h : marked n (set bs i true) ≡ marked n bs + cond (nat_lt i n) 1 0 = marked-set n bs i (omega arith) e in rw nat_lt-suc (omega (arith, h))

-- where none is marked
pub marked_blank : (bs : List Bool) → IsBlank bs → (n : ℕ) → marked n bs ≡ 0
marked_blank bs blank zero = refl
marked_blank bs blank (suc n) = let m : marked (suc n) bs ≡ marked n bs + 0 = rw (blank n) at (marked-suc n bs) in omega (arith, m, marked_blank bs blank n)

pub marked-mono : (bs : List Bool) (a n : ℕ) → marked a bs ≤ marked (n + a) bs
marked-mono bs a zero = rw zero-add (omega arith)
marked-mono bs a (suc n) =
    let h = marked-suc (n + a) bs in
    let e : suc n + a ≡ suc (n + a) = omega arith in
    rw e (omega (arith, marked-mono bs a n))

pub marked-le-marked : (bs : List Bool) (a b : ℕ) → a ≤ b → marked a bs ≤ marked b bs
marked-le-marked bs a b h = let e : (b - a) + a ≡ b = omega arith in rw e at (marked-mono bs a (b - a))

-- where no mark lies between, each flag there is unset
pub marked_gap : (bs : List Bool) (a b : ℕ) → marked b bs ≤ marked a bs → (k : ℕ) → a ≤ k → k < b → get_or bs k false ≡ false
marked_gap bs a b h k ak kb = go (get_or bs k false) refl
  where
    go : (t : Bool) → get_or bs k false ≡ t → get_or bs k false ≡ false
    go false e = e
    go true e =
        let m : marked (suc k) bs ≡ marked k bs + 1 = rw e at (marked-suc k bs) in
        absurd (omega (arith, marked-le-marked bs a k ak, marked-le-marked bs (suc k) b kb))

-- where there are more marks, one lies between
pub marked_between : (bs : List Bool) (a n : ℕ) → marked a bs < marked (n + a) bs → (k : ℕ) × (a ≤ k) × (k < n + a) × (get_or bs k false ≡ true)
marked_between bs a zero h = absurd (let e : zero + a ≡ a = omega arith in let g : marked a bs < marked a bs = rw e at h in omega arith)
marked_between bs a (suc n) h = go (get_or bs (n + a) false) refl (marked_between bs a n)
  where
    up : marked (suc n + a) bs ≡ marked (n + a) bs + cond (get_or bs (n + a) false) 1 0
    up = let e : suc n + a ≡ suc (n + a) = omega arith in rw e (marked-suc (n + a) bs)

    go : (t : Bool) → get_or bs (n + a) false ≡ t → (marked a bs < marked (n + a) bs → (k : ℕ) × (a ≤ k) × (k < n + a) × (get_or bs k false ≡ true)) → (k : ℕ) × (a ≤ k) × (k < suc n + a) × (get_or bs k false ≡ true)
    go true e rest = (n + a, omega arith, omega arith, e)
    go false e rest =
        let same : marked (suc n + a) bs ≡ marked (n + a) bs + 0 = rw e at up in
        let r = rest (omega (arith, same)) in
        (r.0, r.1, omega (arith, r.2), r.3)

pub marked_some : (bs : List Bool) (a b : ℕ) → a ≤ b → marked a bs < marked b bs → (k : ℕ) × (a ≤ k) × (k < b) × (get_or bs k false ≡ true)
marked_some bs a b le h =
    let e : (b - a) + a ≡ b = omega arith in
    let r = marked_between bs a (b - a) (rw e h) in
    (r.0, r.1, omega (arith, r.2), r.3)
