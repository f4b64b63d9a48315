-- The place in the Luby sequence, folded into smaller and smaller parts.
use Rattle.std.proofs.Common.{◌≡◌, ◌≢◌, ℕ, zero, suc, ◌+◌, ◌-◌, ◌*◌, ◌/◌, ◌^◌, ◌<◌, ◌≤◌, Bool, nat_lt, cond, sym, ap, ◌∙◌, subst, arith, add-one, inl, inr}
use Rattle.std.proofs.lemmas.Bool.{cases_Bool, ltb-true, ltb-false}
use Rattle.std.proofs.Math.Nat.{pow-suc}
use Rattle.std.proofs.Math.Pow.{pow_mono}
use Rattle.gi_model.specs.Luby.{IsLuby, peak, again}

-- what is left of the place lies in two parts of this size
pub record IsFolded (first left size e : ℕ) : Type 0 where
  pub low : 1 ≤ left
  pub power : size + 1 ≡ 2 ^ e
  pub high : left ≤ 2 * size
  pub goes : (n : ℕ) → IsLuby left n → IsLuby first n

double : (k : ℕ) → 2 ^ (k + 1) ≡ 2 ^ k * 2
double k = rw add-one (pow-suc 2 k)

-- folded once
pub fold : (first left size e rest : ℕ) → IsFolded first left size e → rest ≡ cond (nat_lt size left) (left - size) left → IsFolded first rest size e × (rest ≤ size)
fold first left size e rest f r = elim (cases_Bool (nat_lt size left)) [
  | inl t ↦
      let lt = ltb-true size left t in
      let is : rest ≡ left - size = r ∙ ap (λ (b : Bool). cond b (left - size) left) t in
      let h = f.high in let l = f.low in let p = f.power in let d = double e in
      let same : left + 1 - 2 ^ e ≡ rest = omega arith in (
        record {
          low = omega arith;
          power = p;
          high = omega arith;
          goes = λ n q. f.goes n (again e left n (omega arith) (omega arith) (subst (λ (x : ℕ). IsLuby x n) (sym same) q));
        },
        omega arith,
      )
  | inr t ↦
      let le = ltb-false size left t in
      let is : rest ≡ left = r ∙ ap (λ (b : Bool). cond b (left - size) left) t in
      (subst (λ (x : ℕ). IsFolded first x size e) (sym is) f, omega arith)
]

-- at the end of a part
pub fold_peak : (first size e n : ℕ) → IsFolded first size size e → 1 ≤ e → n ≡ size / 2 + 1 → IsLuby first n
fold_peak first size e n f low q =
    let k = e - 1 in
    let s : e ≡ k + 1 = omega arith in
    let p : size + 1 ≡ 2 ^ (k + 1) = f.power ∙ ap (λ (x : ℕ). 2 ^ x) s in
    let d = double k in
    f.goes n (peak k size n p (omega arith))

-- else in its first half
pub fold_next : (first rest size e : ℕ) → IsFolded first rest size e → rest ≤ size → rest ≢ size → 1 ≤ e → IsFolded first rest (size / 2) (e - 1)
fold_next first rest size e f le ne low =
    let s : e ≡ e - 1 + 1 = omega arith in
    let p : size + 1 ≡ 2 ^ (e - 1 + 1) = f.power ∙ ap (λ (x : ℕ). 2 ^ x) s in
    let d = double (e - 1) in
    record { low = f.low; power = omega arith; high = omega arith; goes = f.goes }

power_low : (k : ℕ) → 1 ≤ 2 ^ k
power_low zero = omega arith
power_low (suc k) = let h = power_low k in rw (pow-suc 2 k) (omega arith)

pub luby_low : (place n : ℕ) → IsLuby place n → 1 ≤ n
luby_low _ _ (peak k place n p e) = let h = power_low k in omega arith
luby_low _ _ (again k place n low high rest) = luby_low (place + 1 - 2 ^ k) n rest

-- two powers of 2 with the place between each and its double are one
one_part : (j k place : ℕ) → 2 ^ j ≤ place → place < 2 ^ (j + 1) → 2 ^ k ≤ place → place < 2 ^ (k + 1) → j ≡ k
one_part j k place a b c d = elim (cases_Bool (nat_lt j k)) [
  | inl t ↦ (let lt = ltb-true j k t in let le = pow_mono {i = j + 1} {j = k} (omega arith) in absurd (omega arith))
  | inr f ↦ elim (cases_Bool (nat_lt k j)) [
    | inl t ↦ (let lt = ltb-true k j t in let le = pow_mono {i = k + 1} {j = j} (omega arith) in absurd (omega arith))
    | inr g ↦ (let u = ltb-false j k f in let v = ltb-false k j g in omega arith)
  ]
]

-- what stands at the end of a part
peak_same : (place n : ℕ) → IsLuby place n → (j m : ℕ) → place + 1 ≡ 2 ^ (j + 1) → m ≡ 2 ^ j → m ≡ n
peak_same _ _ (peak k place n q f) j m p e =
    let a = double j in let b = double k in let c = power_low j in let d = power_low k in
    e ∙ ap (λ (x : ℕ). 2 ^ x) (one_part j k place (omega arith) (omega arith) (omega arith) (omega arith)) ∙ sym f
peak_same _ _ (again k place n low high rest) j m p e =
    let a = double j in let c = power_low j in
    let s : j ≡ k = one_part j k place (omega arith) (omega arith) low (omega arith) in
    let t : 2 ^ (j + 1) ≡ 2 ^ (k + 1) = ap (λ (x : ℕ). 2 ^ (x + 1)) s in
    absurd (omega arith)

-- what stands within a part
again_same : (place n : ℕ) → IsLuby place n → (j m : ℕ) → 2 ^ j ≤ place → place + 1 < 2 ^ (j + 1) → ((o : ℕ) → IsLuby (place + 1 - 2 ^ j) o → m ≡ o) → m ≡ n
again_same _ _ (peak k place n q f) j m l h same =
    let b = double k in let d = power_low k in
    let s : j ≡ k = one_part j k place l (omega arith) (omega arith) (omega arith) in
    let t : 2 ^ (j + 1) ≡ 2 ^ (k + 1) = ap (λ (x : ℕ). 2 ^ (x + 1)) s in
    absurd (omega arith)
again_same _ _ (again k place n low high rest) j m l h same =
    let s : j ≡ k = one_part j k place l (omega arith) low (omega arith) in
    same n (subst (λ (x : ℕ). IsLuby (place + 1 - 2 ^ x) n) (sym s) rest)

-- one number stands at each place
pub luby_same : (place m n : ℕ) → IsLuby place m → IsLuby place n → m ≡ n
luby_same _ _ n (peak j place m p e) b = peak_same place n b j m p e
luby_same _ _ n (again j place m low high rest) b = again_same place n b j m low high (λ o c. luby_same (place + 1 - 2 ^ j) m o rest c)
