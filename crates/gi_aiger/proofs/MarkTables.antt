-- Marks by a table, with the mark of a variable changed.
use Rattle.std.proofs.Common.{◌≡◌, ◌≢◌, ℕ, ◌+◌, ◌-◌, ◌^◌, ◌<◌, ◌≤◌, max, true, cond, List, ◌++◌, length, set, map, replicate, inl, inr, sym, ap, ◌∙◌, subst, arith}
use Rattle.std.specs.List.{range_with_len}
use Rattle.std.proofs.lemmas.Bool.{cases_lt}
use Rattle.std.proofs.lemmas.List.{get_or_past}
use Rattle.std.proofs.lemmas.List.FromFn.{length-map-range_with_len}
use Rattle.std.proofs.lemmas.List.Sums.{count_by-le-length}
use Rattle.gi_aiger.specs.declared.mark.Mark.{Mark}
use Rattle.gi_aiger.specs.declared.mark.Mark.TheVariants.{Fresh}
use Rattle.gi_aiger.specs.Marks.{AreMarked, is_used, mark_at, missing, reaches, with_mark}
use Rattle.gi_aiger.proofs.Marking.{weight, missing_with}
use Rattle.gi_aiger.proofs.Tabling.{told_at, told_put, told_more}

pub mark_told : (f : ℕ → Mark) (len count v : ℕ) → AreMarked f len count → mark_at (map f (range_with_len 0 len)) v ≡ f v
mark_told f len count v a = elim (cases_lt v len) [
  | inl lt ↦ told_at f len v Fresh lt
  | inr ge ↦ get_or_past (map f (range_with_len 0 len)) v Fresh (omega (arith, ge, length-map-range_with_len f 0 len)) ∙ sym (a.past v ge)
]

-- a used variable is counted, and the count is small
pub some_used : (f : ℕ → Mark) (len count v : ℕ) → AreMarked f len count → is_used (f v) ≡ true → 0 < count
some_used f len count v a e =
    let told = ap weight (mark_told f len count v a) in
    let one : weight (f v) ≡ 1 = ap (λ b. cond b 1 0) e in
    let counts = missing_with v Fresh (map f (range_with_len 0 len)) in
    let was = a.counted in
    omega (arith, told, one, counts, was)

pub few_used : (f : ℕ → Mark) (len count : ℕ) → AreMarked f len count → count ≤ 2 ^ 32
few_used f len count a =
    let le = count_by-le-length is_used (map f (range_with_len 0 len)) in
    let was = a.counted in
    let limit = a.small in
    omega (arith, le, was, limit, length-map-range_with_len f 0 len)

-- the same marks
pub AreMarked-same : (f g : ℕ → Mark) (len count : ℕ) → ((w : ℕ) → g w ≡ f w) → AreMarked f len count → AreMarked g len count
AreMarked-same f g len count h a = subst (λ (t : ℕ → Mark). AreMarked t len count) (λ i w. sym (h w) i) a

pub told_again : (f g : ℕ → Mark) (len : ℕ) → ((w : ℕ) → g w ≡ f w) → map g (range_with_len 0 len) ≡ map f (range_with_len 0 len)
told_again f g len h = ap (λ (t : ℕ → Mark). map t (range_with_len 0 len)) (λ i w. h w i)

module _ (f g : ℕ → Mark) (len count v : ℕ) (mark : Mark) (a : AreMarked f len count) (same : g v ≡ mark) (other : (w : ℕ) → w ≢ v → g w ≡ f w) where
  grown : map f (range_with_len 0 (max len (v + 1))) ≡ reaches v (map f (range_with_len 0 len))
  grown =
      told_more f len (max len (v + 1)) Fresh (omega arith) a.past
      ∙ ap (λ n. map f (range_with_len 0 len) ++ replicate n Fresh) (let l = length-map-range_with_len f 0 len in let e : max len (v + 1) - len ≡ v + 1 - length (map f (range_with_len 0 len)) = omega (arith, l) in e)

  pub marks_with : map g (range_with_len 0 (max len (v + 1))) ≡ with_mark v mark (map f (range_with_len 0 len))
  marks_with = told_put f g (max len (v + 1)) v mark same other (omega arith) ∙ ap (λ xs. set xs v mark) grown

  pub AreMarked-with : (more : ℕ) → more + weight (f v) ≡ count + weight mark → v < 2 ^ 32 → AreMarked g (max len (v + 1)) more
  AreMarked-with more e small =
      let told = mark_told f len count v a in
      let counts = missing_with v mark (map f (range_with_len 0 len)) in
      let new = ap missing marks_with in
      let was = a.counted in
      let limit = a.small in
      record {
        past = λ w ge. other w (λ e. omega (arith, ge, e)) ∙ a.past w (omega (arith, ge));
        counted = omega (arith, e, ap weight told, counts, new, was);
        small = omega (arith, limit, small);
      }
