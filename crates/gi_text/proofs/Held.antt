-- What the fields of a `Lines` keep, from one call to the next.
use Rattle.std.proofs.Common.{◌≡◌, ◌≢◌, ℕ, ◌<◌, ◌≤◌, min, List, ◌∷◌, ◌++◌, length, take, get_or, Option, Some, None, Bool, true, false, ◌&&◌, ◌==◌, refl, ap, sym, ◌∙◌, subst, arith, length-append}
use Rattle.std.specs.Option.{is_none}
use Rattle.std.proofs.lemmas.List.{append-nil, get_or-take, get_or_append_left, length-take}
use Rattle.std.proofs.lemmas.Bool.{ne_eqb}
use Rattle.gi_text.specs.Lines.{Kept, fed, from_lf, line_at}
use Rattle.gi_text.specs.Holding.{IsHeld}
use Rattle.gi_text.proofs.Dropping.{fed_cut, fed_whole, from_lf_none, from_lf_some, none_in_front, some_by_lf, stays_sound}

before_append : (xs ys : List ℕ) (looked : ℕ) → looked ≤ length xs → ((k : ℕ) → k < looked → get_or xs k 0 ≢ 10) → (k : ℕ) → k < looked → get_or (xs ++ ys) k 0 ≢ 10
before_append xs ys looked le before k lt e =
    let lt_length : k < length xs = omega arith in
    before k lt (sym (get_or_append_left xs ys 0 k lt_length) ∙ e)

-- a piece where nothing is dropped
pub held_whole : (left new piece : List ℕ) (looked : ℕ) (long dropping : Bool) → IsHeld left looked long dropping → dropping ≡ false → new ≡ left ++ piece → IsHeld new looked long dropping
held_whole left new piece looked long dropping held off e = subst (λ (xs : List ℕ). IsHeld xs looked long dropping) (sym e) record {
  within = omega (arith, held.within, length-append left piece);
  before = before_append left piece looked held.within held.before;
  drops = stays_sound dropping long left piece held.drops off;
}

cut_drops : (left piece : List ℕ) (o : Option (List ℕ × List ℕ)) (long : Bool) → line_at piece ≡ o → true ≡ (long && is_none (line_at left)) → (length (from_lf piece) == 0) ≡ (long && is_none (line_at (left ++ from_lf piece)))
cut_drops left piece o false e on = cc
cut_drops left piece None true e on =
    let none = from_lf_none piece e in
    rw (none, append-nil left) on
cut_drops left piece (Some p) true e on =
    let some = from_lf_some piece p e in
    let more : (length (10 ∷ p.1) == 0) ≡ false = ne_eqb (length (10 ∷ p.1)) 0 (λ e. omega arith) in
    rw (some, some_by_lf left p.1) more

-- a piece of a line that is too long
pub held_cut : (left new piece : List ℕ) (looked : ℕ) (long dropping drops : Bool) → IsHeld left looked long dropping → dropping ≡ true → new ≡ left ++ from_lf piece → drops ≡ (length (from_lf piece) == 0) → IsHeld new looked long drops
held_cut left new piece looked long dropping drops held on e d = subst (λ (xs : List ℕ). IsHeld xs looked long drops) (sym e) record {
  within = omega (arith, held.within, length-append left (from_lf piece));
  before = before_append left (from_lf piece) looked held.within held.before;
  drops = d ∙ cut_drops left piece (line_at piece) long refl (sym on ∙ held.drops);
}

-- a line under way
pub held_front : (left new : List ℕ) (looked n now : ℕ) (long dropping over : Bool) → IsHeld left looked long dropping → line_at left ≡ None → new ≡ take n left → now ≡ min looked (length new) → IsHeld new now over over
held_front left new looked n now long dropping over held none e m = subst (λ (xs : List ℕ). now ≡ min looked (length xs) → IsHeld xs now over over) (sym e) (λ m. record {
  within = omega arith;
  before = λ k lt here.
      let within : k < n = omega (arith, length-take n left, m) in
      held.before k (omega arith) (sym (get_or-take n left k 0 within) ∙ here);
  drops = both over (ap is_none (none_in_front left n none));
}) m where
  both : (b : Bool) {o : Bool} → o ≡ true → b ≡ (b && o)
  both false e = refl
  both true e = sym e

-- what a `Lines` is seen as once a piece was fed
pub view_whole : (left new piece : List ℕ) (ended long : Bool) (most : ℕ) (now : Kept) → (let old : Kept = record { left = left; ended = ended; long = long; most = most } in old ≡ now) → (long && is_none (line_at left)) ≡ false → new ≡ left ++ piece → (let next : Kept = record { left = new; ended = ended; long = long; most = most } in next ≡ record now { left = fed now piece })
view_whole left new piece ended long most now view off e =
    let P : Kept → Type 0 = λ k. (let next : Kept = record { left = new; ended = ended; long = long; most = most } in next ≡ record k { left = fed k piece }) in
    let old : Kept = record { left = left; ended = ended; long = long; most = most } in
    let Q : List ℕ → Kept = λ xs. record { left = xs; ended = ended; long = long; most = most } in
    subst P view (ap Q (e ∙ sym (fed_whole old piece off)))

pub view_cut : (left new piece : List ℕ) (ended long : Bool) (most : ℕ) (now : Kept) → (let old : Kept = record { left = left; ended = ended; long = long; most = most } in old ≡ now) → (long && is_none (line_at left)) ≡ true → new ≡ left ++ from_lf piece → (let next : Kept = record { left = new; ended = ended; long = long; most = most } in next ≡ record now { left = fed now piece })
view_cut left new piece ended long most now view on e =
    let P : Kept → Type 0 = λ k. (let next : Kept = record { left = new; ended = ended; long = long; most = most } in next ≡ record k { left = fed k piece }) in
    let old : Kept = record { left = left; ended = ended; long = long; most = most } in
    let Q : List ℕ → Kept = λ xs. record { left = xs; ended = ended; long = long; most = most } in
    subst P view (ap Q (e ∙ sym (fed_cut old piece on)))
