-- Going back over the trail from a conflict: marked places are those of the clause that was resolved so far.
use Rattle.std.proofs.Common.{◌≡◌, ◌≢◌, ℕ, ◌+◌, ◌-◌, ◌/◌, ◌<◌, ◌≤◌, Bool, true, false, Some, None, List, length, take, get_or, refl, sym, ap, ◌∙◌, subst, arith, ◌⊎◌, inl, inr}
use Rattle.std.specs.List.{Contains}
use Rattle.std.proofs.lemmas.Bool.{cases_lt, cases_eq, false≢true}
use Rattle.std.proofs.lemmas.List.{get_or_default}
use Rattle.std.proofs.lemmas.List.Elements.{Contains-append_left, Contains-append_right, Contains-append_cases, All-contains}
use Rattle.gi_lit.specs.Literals.{opposite}
use Rattle.gi_lit.specs.Closure.{Forces, IsFalsified, IsSettled}
use Rattle.gi_lit.specs.Closure.IsSettled.{has_true, has_two}
use Rattle.gi_lit.specs.Problem.{without}
use Rattle.gi_lit.proofs.Literals.{opposite-opposite, opposite-injective, var-opposite}
use Rattle.gi_store.specs.StoreView.{StoreView, Holds}
use Rattle.gi_prop.specs.TrailView.{TrailView, StandsAt, IsTrail}
use Rattle.gi_cdcl.specs.Uip.{resolvent, HasHigh, IsResolved}
use Rattle.gi_cdcl.specs.Uip.IsResolved.{begins, passes, resolves}
use Rattle.gi_cdcl.specs.Marks.{marked, IsMarked, Marks, IsCut}
use Rattle.gi_cdcl.specs.Touched.{IsBlank}
use Rattle.gi_prop.proofs.Fronts.{place_in_take, Contains-take, front_contains}
use Rattle.gi_cdcl.proofs.Lists.{without_keeps, without_has}
use Rattle.gi_cdcl.proofs.Marking.{IsSeen}
use Rattle.gi_cdcl.proofs.Counts.{marked-le, marked-more, marked_blank, marked_gap, marked_some}

pub record Resolving (h : StoreView) (t : TrailView) (conflict : List ℕ) (start at : ℕ) (seen : List Bool) (left : ℕ) : Type 0 where
  pub len : length t.lits ≤ length seen
  pub at_le : at ≤ length t.lits
  pub low : start ≤ at
  pub count : left + marked start seen ≡ marked at seen
  pub positive : 1 ≤ left
  pub resolved : List ℕ
  pub comes : IsResolved h t conflict start at resolved
  pub has : (m : ℕ) → Contains resolved m → IsMarked t.lits seen at m
  pub all : (m : ℕ) → IsMarked t.lits seen at m → Contains resolved m

-- the place of a literal whose opposite stands before `end`
pub record FalseAt (lits : List ℕ) (end m : ℕ) : Type 0 where
  pub place : ℕ
  pub before : place < end
  pub below : place < length lits
  pub is : get_or lits place 0 ≡ opposite m

pub false_at : (lits : List ℕ) (end m : ℕ) → Contains (take end lits) (opposite m) → FalseAt lits end m
false_at lits end m c = let p = place_in_take end lits (opposite m) c in record { place = p.0; before = p.1; below = p.2; is = p.3 }

-- it is where the variable stands
pub stands_at : (lits : List ℕ) (end m : ℕ) (f : FalseAt lits end m) → StandsAt lits (m / 2) f.place
stands_at lits end m f = record { below = f.below; names = ap (λ n. n / 2) f.is ∙ var-opposite m }

module _ (h : StoreView) (t : TrailView) (tr : IsTrail t) (conflict : List ℕ) (start : ℕ) where
  -- the opposite of a literal that stands at a place, where the clause's literal is false
  same_literal : (end k m : ℕ) → FalseAt t.lits end m → StandsAt t.lits (m / 2) k → m ≡ opposite (get_or t.lits k 0)
  same_literal end k m f s =
      let g = stands_at t.lits end m f in
      let e : f.place ≡ k = tr.apart f.place k f.below s.below (g.names ∙ sym s.names) in
      sym (ap opposite (sym (ap (λ n. get_or t.lits n 0) e) ∙ f.is) ∙ opposite-opposite m)

  module _ (f : IsFalsified t.lits conflict) (old seen : List Bool) (blank : IsBlank old) (room : length t.lits ≤ length old) (more : ℕ) (m : Marks t.lits conflict start (length t.lits) old seen more) (within : start ≤ length t.lits) where
    counted : marked (length t.lits) seen ≡ marked start seen + more
    counted = let a = marked_blank old blank (length t.lits) in let b = marked_blank old blank start in omega (arith, m.count, a, b)

    all_false : (l : ℕ) → Contains conflict l → FalseAt t.lits (length t.lits) l
    all_false l c = let q = All-contains (λ m. Contains t.lits (opposite m)) conflict l f c in record { place = q.0; before = q.1; below = q.1; is = get_or_default t.lits q.0 0 (opposite l) q.1 ∙ q.2 }

    marked_in : (l : ℕ) → Contains conflict l → IsMarked t.lits seen (length t.lits) l
    marked_in l c =
        let q = all_false l c in
        record {
          place = q.place;
          before = q.before;
          flag = All-contains (IsSeen t.lits (length t.lits) seen) conflict l m.all c q.place q.before (stands_at t.lits (length t.lits) l q);
          is = sym (ap opposite q.is ∙ opposite-opposite l);
        }

    from_mark : (l : ℕ) → IsMarked t.lits seen (length t.lits) l → Contains conflict l
    from_mark l k = elim (m.only k.place k.flag) [
      | inl was ↦ absurd (false≢true (sym (blank k.place) ∙ was))
      | inr new ↦ subst (Contains conflict) (same_literal (length t.lits) k.place new.1.lit (all_false new.1.lit new.1.stands) new.1.at ∙ sym k.is) new.1.stands
    ]

    some_high : IsSettled (take start t.lits) conflict → 1 ≤ more
    some_high s = elim (cases_lt 0 more) [ inl lt ↦ lt | inr le ↦ absurd (go le s) ]
      where
        low : more ≤ 0 → (l : ℕ) → Contains conflict l → Contains (take start t.lits) (opposite l)
        low le l c =
            let k = marked_in l c in
            elim (cases_lt k.place start) [
              | inl lt ↦ subst (Contains (take start t.lits)) (sym (ap opposite k.is ∙ opposite-opposite _)) (front_contains start t.lits k.place lt k.before)
              | inr ge ↦ absurd (false≢true (sym (marked_gap seen start (length t.lits) (omega (arith, counted)) k.place ge k.before) ∙ k.flag))
            ]

        go : more ≤ 0 → IsSettled (take start t.lits) conflict → ⊥
        go le (has_true l inside known) = tr.consistent.each l (Contains-take start t.lits l known) (All-contains (λ m. Contains t.lits (opposite m)) conflict l f inside)
        go le (has_two l k inside other ne free free') = free (low le l inside)

    pub Resolving-init : IsSettled (take start t.lits) conflict → Resolving h t conflict start (length t.lits) seen more
    Resolving-init s = record {
      len = let n = m.len in omega (arith, room, n);
      at_le = omega arith;
      low = within;
      count = omega (arith, counted);
      positive = some_high s;
      resolved = conflict;
      comes = begins;
      has = marked_in;
      all = from_mark;
    }

  module _ (a : ℕ) (seen : List Bool) (left : ℕ) (above : start < a + 1) (r : Resolving h t conflict start (a + 1) seen left) where
    here : a < length t.lits
    here = let x = r.at_le in omega arith

    apart_from : (k : ℕ) → k < length t.lits → k ≢ a → get_or t.lits k 0 / 2 ≡ get_or t.lits a 0 / 2 → ⊥
    apart_from k kl ne e = ne (tr.apart k a kl here e)

    pub Resolving-skip : get_or seen a false ≡ false → Resolving h t conflict start a seen left
    Resolving-skip e = record {
      len = r.len;
      at_le = let x = r.at_le in omega arith;
      low = omega arith;
      count = r.count ∙ marked-more a seen ∙ rw e (omega arith);
      positive = r.positive;
      resolved = r.resolved;
      comes = passes a r.resolved r.comes (λ c. let k = r.has _ c in
          let same : k.place ≡ a = tr.apart k.place a (let x = r.at_le in let y = k.before in omega arith) here (ap (λ n. n / 2) (opposite-injective _ _ (sym k.is))) in
          false≢true (sym e ∙ ap (λ n. get_or seen n false) (sym same) ∙ k.flag));
      has = λ m c. let k = r.has m c in record { place = k.place; before = elim (cases_eq k.place a) [ inl same ↦ absurd (false≢true (sym e ∙ ap (λ n. get_or seen n false) (sym same) ∙ k.flag)) | inr other ↦ let y = k.before in omega arith ]; flag = k.flag; is = k.is };
      all = λ m k. r.all m (record { place = k.place; before = let y = k.before in omega arith; flag = k.flag; is = k.is });
    }

    module _ (e : get_or seen a false ≡ true) where
      one_more : marked (a + 1) seen ≡ marked a seen + 1
      one_more = marked-more a seen ∙ rw e refl

      pub Resolving-top : left ≡ 1 → IsCut h t conflict start seen a
      Resolving-top one = record {
        len = r.len;
        low = omega arith;
        high = here;
        flag = e;
        alone = marked_gap seen start a (omega (arith, r.count, one_more));
        resolved = r.resolved;
        comes = r.comes;
        is = λ m. (r.has m, r.all m);
      }

      -- it begins no level: another literal of the last level is left
      pub not_decision : left ≢ 1 → ((j : ℕ) → Contains t.level_starts j → j ≤ start) → ¬ Contains t.level_starts a
      not_decision ne low k =
          let le = low a k in
          let same : a ≡ start = omega arith in
          ne (let q : marked start seen ≡ marked a seen = ap (λ n. marked n seen) (sym same) in omega (arith, r.count, one_more))

      other_high : left ≢ 1 → HasHigh t start a r.resolved
      other_high ne =
          let le : start ≤ a = omega arith in
          let k = marked_some seen start a le (let p = r.positive in omega (arith, r.count, one_more)) in
          record { place = k.0; low = k.1; high = k.2; stands = r.all _ (record { place = k.0; before = let y = k.2 in omega arith; flag = k.3; is = refl }) }

      pub step_bound : (clause : List ℕ) (new : List Bool) (more : ℕ) → Marks t.lits clause start a seen new more → (left - 1) + more ≤ a
      step_bound clause new more m = let x = r.positive in omega (arith, m.count, r.count, one_more, marked-le a new)

      module _ (clause : List ℕ) (key : ℕ) (reason : get_or t.reasons a None ≡ Some key) (holds : Holds h key clause) (f : Forces clause (get_or t.lits a 0) (take a t.lits)) (new : List Bool) (more : ℕ) (m : Marks t.lits clause start a seen new more) where
        x : ℕ
        x = get_or t.lits a 0

        other_false : (y : ℕ) → Contains clause y → y ≢ get_or t.lits a 0 → FalseAt t.lits a y
        other_false y c ne = elim (All-contains (λ m. (m ≡ get_or t.lits a 0) ⊎ Contains (take a t.lits) (opposite m)) clause y f.others c) [ inl same ↦ absurd (ne same) | inr before ↦ false_at t.lits a y before ]

        has' : (y : ℕ) → Contains (resolvent r.resolved clause (get_or t.lits a 0)) y → IsMarked t.lits new a y
        has' y c = elim (Contains-append_cases (without (opposite (get_or t.lits a 0)) r.resolved) (without (get_or t.lits a 0) clause) y c) [
          | inl left ↦
              let w = without_has _ r.resolved y left in
              let k = r.has y w.0 in
              record {
                place = k.place;
                before = elim (cases_eq k.place a) [ inl same ↦ absurd (w.1 (k.is ∙ ap (λ n. opposite (get_or t.lits n 0)) same)) | inr other ↦ let b = k.before in omega arith ];
                flag = m.keeps k.place k.flag;
                is = k.is;
              }
          | inr right ↦
              let w = without_has _ clause y right in
              let q = other_false y w.0 w.1 in
              record {
                place = q.place;
                before = q.before;
                flag = All-contains (IsSeen t.lits a new) clause y m.all w.0 q.place q.before (stands_at t.lits a y q);
                is = sym (ap opposite q.is ∙ opposite-opposite y);
              }
        ]

        all' : (y : ℕ) → IsMarked t.lits new a y → Contains (resolvent r.resolved clause (get_or t.lits a 0)) y
        all' y k = elim (m.only k.place k.flag) [
          | inl old ↦ Contains-append_left (without (opposite (get_or t.lits a 0)) r.resolved) _ y (without_keeps _ r.resolved y
              (r.all y (record { place = k.place; before = let b = k.before in omega arith; flag = old; is = k.is }))
              (λ q. apart_from k.place (let b = k.before in let z = r.at_le in omega arith) (let b = k.before in omega arith) (ap (λ n. n / 2) (opposite-injective _ _ (sym k.is ∙ q)))))
          | inr added ↦
              let i = added.1 in
              let ne : i.lit ≢ get_or t.lits a 0 = λ q. apart_from k.place i.at.below (let b = k.before in omega arith) (i.at.names ∙ ap (λ n. n / 2) q) in
              let same : i.lit ≡ y = same_literal a k.place i.lit (other_false i.lit i.stands ne) i.at ∙ sym k.is in
              Contains-append_right (without (opposite (get_or t.lits a 0)) r.resolved) _ y (subst (Contains (without (get_or t.lits a 0) clause)) same (without_keeps _ clause i.lit i.stands ne))
        ]

        pub Resolving-step : left ≢ 1 → Resolving h t conflict start a new ((left - 1) + more)
        Resolving-step ne = record {
          len = let n = m.len in let z = r.len in omega (arith, n, z);
          at_le = let z = r.at_le in omega arith;
          low = omega arith;
          count = let z = r.positive in omega (arith, m.count, r.count, one_more);
          positive = let z = r.positive in omega arith;
          resolved = resolvent r.resolved clause (get_or t.lits a 0);
          comes = resolves a key r.resolved clause r.comes (r.all _ (record { place = a; before = omega arith; flag = e; is = refl })) (other_high ne) reason holds f;
          has = has';
          all = all';
        }
