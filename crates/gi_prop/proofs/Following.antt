use Rattle.std.proofs.Common.{◌≡◌, ℕ, ◌+◌, ◌-◌, ◌/◌, ◌<◌, ◌≤◌, Option, List, length, sym, ap, ◌∙◌, subst, arith, length-append}
use Rattle.std.proofs.lemmas.List.Elements.{All-get_or}
use Rattle.gi_lit.specs.Literals.{opposite}
use Rattle.gi_lit.proofs.Literals.{opposite-opposite, var-opposite}
use Rattle.gi_store.specs.StoreView.{StoreView}
use Rattle.gi_chains.specs.Lists.{Lists}
use Rattle.gi_prop.specs.TrailView.{TrailView, IsTrail, IsUnseen}
use Rattle.gi_prop.specs.Attached.{AddsForced, keys_alone}
use Rattle.gi_prop.specs.Watched.{IsKeyed}
use Rattle.gi_prop.specs.Watching.{IsWatched, IsAdded, IsLooking, LeavesAside}
use Rattle.gi_prop.proofs.Guards.{guarded_less, guarded_as}
use Rattle.gi_prop.proofs.Moves.{aside_on}
use Rattle.gi_prop.proofs.Keys.{keyed_swap, keyed_trail}
use Rattle.gi_prop.proofs.Adding.{AddsForced-trans, AddsForced-look}

-- the two sides exchanged
pub watched_swap : (slots : List (Option ℕ)) (a b : Lists) (s : StoreView) (t : TrailView) (h1 h2 : ℕ) → IsWatched slots a b s t h1 h2 → IsWatched slots b a s t h2 h1
watched_swap slots a b s t h1 h2 w = record {
  kept = record { numbered = w.kept.numbered; first_linked = w.kept.second_linked; second_linked = w.kept.first_linked };
  trail = w.trail;
  keyed = λ k h. keyed_swap a b s t h1 h2 k (w.keyed k h);
}

-- less looked at
pub watched_less : (slots : List (Option ℕ)) (a b : Lists) (s : StoreView) (t : TrailView) (h1 h2 k1 k2 : ℕ) → k1 ≤ h1 → k2 ≤ h2 → IsWatched slots a b s t h1 h2 → IsWatched slots a b s t k1 k2
watched_less slots a b s t h1 h2 k1 k2 le le' w = record {
  kept = w.kept;
  trail = w.trail;
  keyed = λ k h. keyed_trail a b s t t h1 h2 k1 k2 k (omega arith) (λ c v g. guarded_less t h1 k1 c v le g) (λ c v g. guarded_less t h2 k2 c v le' g) (w.keyed k h);
}

-- the literal at the head was looked at on both sides
pub watched_next : (slots : List (Option ℕ)) (a b : Lists) (s : StoreView) (t u : TrailView) → IsWatched slots a b s t (t.head + 1) (t.head + 1) → u ≡ record t { head = t.head + 1 } → IsTrail u → IsWatched slots a b s u u.head u.head
watched_next slots a b s t u w e trail = record {
  kept = w.kept;
  trail = trail;
  keyed = λ k h.
      let head : u.head ≡ t.head + 1 = ap (λ (z : TrailView). z.head) e in
      let vars : u.vars ≡ t.vars = ap (λ (z : TrailView). z.vars) e in
      subst (λ (n : ℕ). IsKeyed a b s u n n k) (sym head) (keyed_trail a b s t u (t.head + 1) (t.head + 1) (t.head + 1) (t.head + 1) k (omega arith) (λ c v g. guarded_as t u (t.head + 1) (t.head + 1) c v e g) (λ c v g. guarded_as t u (t.head + 1) (t.head + 1) c v e g) (w.keyed k h));
}

pub looking_at : (t : TrailView) (l f : ℕ) → IsTrail t → f ≡ opposite l → IsUnseen t l → IsLooking t f
looking_at t l f tr e u =
    let big = All-get_or (λ m. (1 ≤ m / 2) × (m / 2 ≤ t.vars)) t.lits t.head 0 u.below tr.within in
    let low : 1 ≤ l / 2 = subst (λ (m : ℕ). 1 ≤ m / 2) u.is big.0 in
    let v : f / 2 ≡ l / 2 = ap (λ z. z / 2) e ∙ var-opposite l in
    record {
      below = u.below;
      is = u.is ∙ sym (ap opposite e ∙ opposite-opposite l);
      literal = omega arith;
    }

-- where the following of the trail stands
pub record IsFollowing (slots : List (Option ℕ)) (old_first old_second first second : Lists) (s : StoreView) (old t : TrailView) : Type 0 where
  pub watched : IsWatched slots first second s t t.head t.head
  pub adds : AddsForced (keys_alone slots) s old t
  pub first_aside : LeavesAside old_first first
  pub second_aside : LeavesAside old_second second

pub adds_on : (slots : List (Option ℕ)) (s : StoreView) (a b c : TrailView) → IsTrail b → AddsForced (keys_alone slots) s a b → IsAdded slots s b c → AddsForced (keys_alone slots) s a c
adds_on slots s a b c tr x y = AddsForced-trans (keys_alone slots) s a b c tr.reasons x y.adds

-- one literal more was looked at
pub follow_on : (slots : List (Option ℕ)) (old_first old_second first second first' second' : Lists) (s : StoreView) (old t u v w : TrailView) → IsFollowing slots old_first old_second first second s old t → IsAdded slots s t u → LeavesAside first first' → IsTrail u → IsWatched slots second' first' s v (v.head + 1) (v.head + 1) → IsAdded slots s u v → LeavesAside second second' → w ≡ record v { head = v.head + 1 } → IsTrail w → IsFollowing slots old_first old_second first' second' s old w
follow_on slots old_first old_second first second first' second' s old t u v w f x xa xt y ya yb e trail = record {
  watched = watched_next slots first' second' s v w (watched_swap slots second' first' s v (v.head + 1) (v.head + 1) y) e trail;
  adds = AddsForced-look (keys_alone slots) s old v w (v.head + 1) e (adds_on slots s old u v xt (adds_on slots s old t u f.watched.trail f.adds x) ya);
  first_aside = aside_on old_first first first' f.first_aside xa;
  second_aside = aside_on old_second second second' f.second_aside yb;
}

-- the trail after what was added is as long
pub head_below : (slots : List (Option ℕ)) (s : StoreView) (t u : TrailView) → IsAdded slots s t u → t.head < length t.lits → u.head < length u.lits
head_below slots s t u e lt =
    let len : length u.lits ≡ length t.lits + length e.adds.more = ap length e.adds.lits ∙ length-append t.lits e.adds.more in
    let head : u.head ≡ t.head = e.head in
    omega arith

pub follow_fewer : (slots : List (Option ℕ)) (s : StoreView) (t u v w : TrailView) → t.head < length t.lits → IsTrail t → IsAdded slots s t u → IsAdded slots s u v → w ≡ record v { head = v.head + 1 } → w.vars - w.head < t.vars - t.head
follow_fewer slots s t u v w lt tr x y e =
    let vars : w.vars ≡ t.vars = ap (λ (z : TrailView). z.vars) e ∙ y.adds.vars ∙ x.adds.vars in
    let head : w.head ≡ v.head + 1 = ap (λ (z : TrailView). z.head) e in
    let same : v.head ≡ t.head = y.head ∙ x.head in
    let room : length t.lits ≤ t.vars = tr.room in
    omega arith
