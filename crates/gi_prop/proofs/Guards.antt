use Rattle.std.proofs.Common.{◌≡◌, ◌≢◌, ℕ, ◌+◌, ◌/◌, ◌<◌, ◌≤◌, Bool, true, false, List, [], ◌∷◌, ◌++◌, length, take, get_or, refl, sym, ap, ◌∙◌, subst, arith, ◌⊎◌, inl, inr, length-append, nat_eq}
use Rattle.std.specs.List.{Contains, list_any}
use Rattle.std.proofs.lemmas.Bool.{cases_lt, eqb-true, eq-eqb, both_ways}
use Rattle.std.proofs.lemmas.List.{get_or-take, get_or_default, get_or_append_left, get_or_push, length-take-le, length-take}
use Rattle.std.proofs.lemmas.List.Elements.{Contains-get_or}
use Rattle.std.proofs.lemmas.List.Folds.{list_any_at}
use Rattle.std.proofs.lemmas.Map.Views.{Contains-from_any}
use Rattle.gi_lit.specs.Literals.{opposite}
use Rattle.gi_lit.specs.Closure.{IsSettled}
use Rattle.gi_lit.specs.Closure.IsSettled.{has_true, has_two}
use Rattle.gi_lit.proofs.Literals.{var-opposite}
use Rattle.gi_prop.specs.TrailView.{TrailView, IsTrail, IsLate, AreLevels, with_level, cut_at}
use Rattle.gi_prop.specs.Watched.{HasTrueWith, IsGuarded, IsPair}

-- a literal stands in a list or not
pub known : (xs : List ℕ) (x : ℕ) → Contains xs x ⊎ (Contains xs x → ⊥)
known xs x = go (list_any (nat_eq x) xs) refl
  where
    go : (t : Bool) → list_any (nat_eq x) xs ≡ t → Contains xs x ⊎ (Contains xs x → ⊥)
    go true e = inl (Contains-from_any {eq = nat_eq} eqb-true x xs e)
    go false e = inr (λ h. both_ways _ e (list_any_at (nat_eq x) xs h.0 x h.1 (eq-eqb x (get_or xs h.0 x) (sym h.2))))

-- a false watch of a clause all of whose looks were done has a true literal beside it
pub false_true : (t : TrailView) (clause : List ℕ) (w : ℕ) → length t.lits ≤ t.head → IsGuarded t t.head clause w → Contains t.lits (opposite w) → (l : ℕ) × Contains clause l × Contains t.lits l
false_true t clause w le g k =
    let e : get_or t.lits k.0 0 ≡ opposite w = get_or_default t.lits k.0 0 (opposite w) k.1 ∙ k.2 in
    let kl : k.0 < length t.lits = k.1 in
    let q = g.each k.0 (omega arith) k.1 e in
    (get_or t.lits q.at 0, q.stands, Contains-get_or t.lits q.at 0 q.below)

-- where all of the trail was looked at, a watched clause is settled
pub watched_settled : (t : TrailView) (clause : List ℕ) (a b : ℕ) → length t.lits ≤ t.head → IsPair clause a b → IsGuarded t t.head clause a → IsGuarded t t.head clause b → IsSettled t.lits clause
watched_settled t clause a b le h ga gb = go (known t.lits (opposite a)) (known t.lits (opposite b))
  where
    by : (w : ℕ) → IsGuarded t t.head clause w → Contains t.lits (opposite w) → IsSettled t.lits clause
    by w g k = let r = false_true t clause w le g k in has_true r.0 r.1 r.2

    go : Contains t.lits (opposite a) ⊎ (Contains t.lits (opposite a) → ⊥) → Contains t.lits (opposite b) ⊎ (Contains t.lits (opposite b) → ⊥) → IsSettled t.lits clause
    go (inl k) o = by a ga k
    go (inr n) (inl k) = by b gb k
    go (inr n) (inr m) = has_two a b h.first h.second h.differ n m

-- literals behind those that were looked at
pub guarded_extends : (t u : TrailView) (more : List ℕ) (head : ℕ) (clause : List ℕ) (w : ℕ) → u.lits ≡ t.lits ++ more → u.level_starts ≡ t.level_starts → u.qheads ≡ t.qheads → head ≤ length t.lits → IsGuarded t head clause w → IsGuarded u head clause w
guarded_extends t u more head clause w el em eh le g = record {
  each = λ p ph pl e.
      let lt : p < length t.lits = omega arith in
      let read : get_or u.lits p 0 ≡ get_or t.lits p 0 = ap (λ z. get_or z p 0) el ∙ get_or_append_left t.lits more 0 p lt in
      let q = g.each p ph lt (sym read ∙ e) in
      let read_q : get_or u.lits q.at 0 ≡ get_or t.lits q.at 0 = ap (λ z. get_or z q.at 0) el ∙ get_or_append_left t.lits more 0 q.at q.below in
      record {
        at = q.at;
        below = (let b : q.at < length t.lits = q.below in omega (arith, ap length el, length-append t.lits more));
        stands = subst (Contains clause) (sym read_q) q.stands;
        stays = λ j jl h. subst (λ (z : List ℕ). q.at < get_or z j 0) (sym em) (q.stays j (subst (λ (z : List ℕ). j < length z) em jl) (subst (λ (z : List ℕ). p < get_or z j 0) eh h));
      };
}

-- a new level
pub guarded_level : (t : TrailView) (clause : List ℕ) (w : ℕ) → length t.qheads ≡ length t.level_starts → IsGuarded t t.head clause w → IsGuarded (with_level t) t.head clause w
guarded_level t clause w al g = record { each = λ p ph pl e. let q = g.each p ph pl e in record { at = q.at; below = q.below; stands = q.stands; stays = stays' p q } }
  where
    stays' : (p : ℕ) (q : HasTrueWith t clause p) → (j : ℕ) → j < length (with_level t).level_starts → p < get_or (with_level t).qheads j 0 → q.at < get_or (with_level t).level_starts j 0
    stays' p q j jl = elim (cases_lt j (length t.level_starts)) [
      | inl below ↦ rw (get_or_append_left t.level_starts (length t.lits ∷ []) 0 j below, get_or_append_left t.qheads (t.head ∷ []) 0 j (subst (λ (z : ℕ). j < z) (sym al) below)) (q.stays j below)
      | inr le ↦ rw (get_or_push t.level_starts (length t.lits) 0 j (let x : length t.level_starts ≡ j = omega (arith, length-append t.level_starts (length t.lits ∷ [])) in x)) (λ _. q.below)
    ]

-- what was there when a level began
pub guarded_cut : (t : TrailView) (clause : List ℕ) (w level : ℕ) → AreLevels t.lits t.level_starts t.head t.qheads → level < length t.level_starts → IsGuarded t t.head clause w → IsGuarded (cut_at level t) (cut_at level t).head clause w
guarded_cut t clause w level v lt g = record {
  each = λ p ph pl e.
      let within : get_or t.level_starts level 0 ≤ length t.lits = v.within level lt in
      let len : length (take (get_or t.level_starts level 0) t.lits) ≡ get_or t.level_starts level 0 = length-take-le (get_or t.level_starts level 0) t.lits within in
      let low : p < get_or t.level_starts level 0 = omega arith in
      let head : get_or t.qheads level 0 ≤ t.head = v.looked level lt in
      let q = g.each p (omega arith) (omega arith) (sym (get_or-take (get_or t.level_starts level 0) t.lits p 0 low) ∙ e) in
      let ql : q.at < get_or t.level_starts level 0 = q.stays level lt ph in
      record {
        at = q.at;
        below = subst (λ (n : ℕ). q.at < n) (sym len) ql;
        stands = rw (get_or-take (get_or t.level_starts level 0) t.lits q.at 0 ql) q.stands;
        stays = λ j jl. let b : j < level = omega (arith, length-take level t.level_starts) in rw (get_or-take level t.level_starts j 0 b, get_or-take level t.qheads j 0 b) (q.stays j (omega arith));
      };
}

-- one literal more, which isn't the watch's opposite
pub guarded_more : (t : TrailView) (clause : List ℕ) (w head : ℕ) → get_or t.lits head 0 ≢ opposite w → IsGuarded t head clause w → IsGuarded t (head + 1) clause w
guarded_more t clause w head ne g = record {
  each = λ p ph pl e. elim (cases_lt p head) [
    | inl below ↦ g.each p below pl e
    | inr ge ↦ absurd (ne (ap (λ z. get_or t.lits z 0) (let q : head ≡ p = omega arith in q) ∙ e))
  ];
}

-- the literal at the head, where a literal of the clause is true
pub guarded_true : (t : TrailView) (clause : List ℕ) (w q : ℕ) → AreLevels t.lits t.level_starts t.head t.qheads → q < length t.lits → Contains clause (get_or t.lits q 0) → IsGuarded t t.head clause w → IsGuarded t (t.head + 1) clause w
guarded_true t clause w q v ql c g = record {
  each = λ p ph pl e. elim (cases_lt p t.head) [
    | inl below ↦ g.each p below pl e
    | inr ge ↦ record { at = q; below = ql; stands = c; stays = λ j jl lt. absurd (omega (arith, v.looked j jl)) }
  ];
}

-- a watch that isn't false
pub guarded_free : (t : TrailView) (head : ℕ) (clause : List ℕ) (w : ℕ) → (Contains t.lits (opposite w) → ⊥) → IsGuarded t head clause w
guarded_free t head clause w n = record { each = λ p ph pl e. absurd (n (subst (Contains t.lits) e (Contains-get_or t.lits p 0 pl))) }

-- of less of the trail
pub guarded_less : (t : TrailView) (head less : ℕ) (clause : List ℕ) (w : ℕ) → less ≤ head → IsGuarded t head clause w → IsGuarded t less clause w
guarded_less t head less clause w le g = record { each = λ p ph. g.each p (omega arith) }

-- how much of it was looked at now is no part of it
pub guarded_as : (t u : TrailView) (head n : ℕ) (clause : List ℕ) (w : ℕ) → u ≡ record t { head = n } → IsGuarded t head clause w → IsGuarded u head clause w
guarded_as t u head n clause w e g = subst (λ (z : TrailView). IsGuarded z head clause w) (sym e) (record { each = λ p ph pl q. let r = g.each p ph pl q in record { at = r.at; below = r.below; stands = r.stands; stays = r.stays } })

-- a watch that is true
pub guarded_own : (t : TrailView) (head : ℕ) (clause : List ℕ) (w : ℕ) → IsTrail t → Contains t.lits w → IsGuarded t head clause w
guarded_own t head clause w tr h = guarded_free t head clause w (λ k. tr.consistent.each w h k)

-- a watch whose variable got its value late, where another literal of the clause is true
pub guarded_late : (t : TrailView) (head : ℕ) (clause : List ℕ) (w l : ℕ) → IsTrail t → Contains clause l → Contains t.lits l → IsLate t (w / 2) → IsGuarded t head clause w
guarded_late t head clause w l tr h k late = record {
  each = λ p ph pl e.
      let names : get_or t.lits p 0 / 2 ≡ get_or t.lits late.place 0 / 2 = ap (λ (x : ℕ). x / 2) e ∙ var-opposite w ∙ sym late.stands.names in
      let same : p ≡ late.place = tr.apart p late.place pl late.stands.below names in
      record {
        at = k.0;
        below = k.1;
        stands = subst (Contains clause) (sym (get_or_default t.lits k.0 0 l k.1 ∙ k.2)) h;
        stays = λ j jl lt.
            let al : length t.qheads ≡ length t.level_starts = tr.levels.aligned in
            let below : get_or t.qheads j 0 ≤ late.place = late.late j 0 (omega arith) in
            absurd (omega arith);
      };
}
