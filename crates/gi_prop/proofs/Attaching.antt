use Rattle.std.proofs.Common.{◌≡◌, ◌≢◌, ℕ, ◌+◌, ◌-◌, ◌*◌, ◌/◌, ◌<◌, ◌≤◌, Option, Some, None, List, [], ◌++◌, length, get_or, set, replicate, sym, ap, ◌∙◌, subst, arith, inl, inr}
use Rattle.std.specs.List.{All, Contains}
use Rattle.std.specs.Prelude.{◌↔◌}
use Rattle.std.proofs.lemmas.Bool.{cases_eq}
use Rattle.std.proofs.lemmas.List.{append-nil}
use Rattle.std.proofs.lemmas.List.Elements.{All-contains}
use Rattle.gi_lit.specs.Literals.{max_var, IsLiteral}
use Rattle.gi_store.specs.StoreView.{StoreView, Holds, IsWithin}
use Rattle.gi_chains.specs.Lists.{Lists, IsFree, IsApart}
use Rattle.gi_prop.specs.TrailView.{TrailView}
use Rattle.gi_prop.specs.Attached.{Attached, IsAttached, Goes, HasSameKeys, HasWatches, KeepsWatches, HasTwoLeft, Attaches}
use Rattle.gi_prop.specs.Watched.{IsIn, IsBlocker, IsPlaced, IsKeyed}
use Rattle.gi_prop.specs.Watched.IsPlaced.{watched, aside}
use Rattle.gi_prop.specs.Watching.{AreNumbered, AreLinked, AreKept, HasMore, AreHome}
use Rattle.gi_prop.specs.Watching.AreHome.{two, rests}
use Rattle.gi_prop.proofs.Indexing.{none_more}
use Rattle.gi_prop.proofs.Guards.{guarded_free}
use Rattle.gi_prop.proofs.Moves.{one_list}
use Rattle.gi_prop.proofs.Keys.{keyed_chains, goes_keyed, goes_by}
use Rattle.gi_prop.proofs.Settling.{aside_low}
use Rattle.gi_prop.proofs.Slots.{attached_at, attached_by, numbered_more, numbered_attached, slot_there, slot_other, attaches}
use Rattle.gi_prop.proofs.Rooms.{IsPut}

-- a key that isn't attached has no node
pub free_at : (slots : List (Option ℕ)) (chains : Lists) (key : ℕ) → AreLinked slots chains → (get_or slots key None ≡ Some key → ⊥) → IsFree chains.lists key
free_at slots chains key l n list i s = n (l.attached key list (record { place = i; stands = s }))

pub free_more : (old new : Lists) (key : ℕ) → HasMore old new → IsFree old.lists key → IsFree new.lists key
free_more old new key m f list i s = let r = m.others list key (record { place = i; stands = s }) in f list r.place r.stands

-- lists of literals that have a variable up to the top one
pub listed : (clause : List ℕ) (top lists : ℕ) → All (λ l. l / 2 ≤ top) clause → 2 * top + 3 ≤ lists → All (λ l. l + 1 < lists) clause
listed clause top lists h le i d il = let x = h i d il in omega arith

pub are_literals : (clause : List ℕ) (top n : ℕ) → All (λ l. l / 2 ≤ top) clause → top ≤ max_var → IsWithin n clause → All IsLiteral clause
are_literals clause top n h le w i d il = let x = h i d il in let y = w i d il in (omega (arith, y.0), omega arith)

-- where the lists of a clause's nodes are, there are lists
pub home_lists : (lits clause : List ℕ) (x y lists : ℕ) → All (λ l. l + 1 < lists) clause → 3 ≤ lists → AreHome lits clause x y → (x < lists) × (y < lists)
home_lists lits clause x y lists h le (two a b ex ey p n m) = let s = All-contains (λ l. l + 1 < lists) clause a h p.first in let t = All-contains (λ l. l + 1 < lists) clause b h p.second in (omega arith, omega arith)
home_lists lits clause x y lists h le (rests e i n) = let s = aside_low clause x i in (omega arith, omega arith)

pub home_placed : (first second : Lists) (t : TrailView) (h1 h2 key : ℕ) (clause : List ℕ) (x y : ℕ) → IsIn first x key → IsIn second y key → AreHome t.lits clause x y → IsPlaced first second t h1 h2 key clause
home_placed first second t h1 h2 key clause x y hx hy (two a b ex ey p n m) = watched a b (subst (λ (z : ℕ). IsIn first z key) ex hx) (subst (λ (z : ℕ). IsIn second z key) ey hy) p (guarded_free t h1 clause a n) (guarded_free t h2 clause b m)
home_placed first second t h1 h2 key clause x y hx hy (rests e i n) = aside x hx (subst (λ (z : ℕ). IsIn second z key) (sym e) hy) i

-- slots more keep what is attached
pub more_attached : (p q : Attached) (m : ℕ) → q.slots ≡ p.slots ++ replicate m None → HasSameKeys p q
more_attached p q m e = record {
  kept = λ k h. attached_by q k (ap (λ (xs : List (Option ℕ)). get_or xs k None) e ∙ none_more p.slots m k ∙ attached_at p k h);
  others = λ k h. attached_by p k (sym (none_more p.slots m k) ∙ ap (λ (xs : List (Option ℕ)). get_or xs k None) (sym e) ∙ attached_at q k h);
}

-- more room, with the same keys
module _ (p q : Attached) (m : ℕ) (e : q.slots ≡ p.slots ++ replicate m None) (first : HasMore p.first q.first) (second : HasMore p.second q.second) where
  pub goes_more : (s : StoreView) (t : TrailView) → Goes p s t → Goes q s t
  goes_more s t g = goes_by q s t (λ k h. keyed_chains p.first p.second q.first q.second s t t.head t.head k first.lists second.lists (λ l x. first.kept l k x) (λ l x. second.kept l k x) (first.words k) (second.words k) (goes_keyed p s t g k ((more_attached p q m e).others k h)))

  pub watches_more : (k : ℕ) → KeepsWatches p q k
  watches_more k = record {
    kept = λ a b w. record { first = first.kept (a + 1) k w.first; second = second.kept (b + 1) k w.second; first_literal = w.first_literal; second_literal = w.second_literal };
    others = λ a b w. record { first = first.others (a + 1) k w.first; second = second.others (b + 1) k w.second; first_literal = w.first_literal; second_literal = w.second_literal };
  }

more_slots : (slots new : List (Option ℕ)) (m k : ℕ) → new ≡ slots ++ replicate m None → get_or new k None ≡ get_or slots k None
more_slots slots new m k e = ap (λ (xs : List (Option ℕ)). get_or xs k None) e ∙ none_more slots m k

linked_more : (slots new : List (Option ℕ)) (m : ℕ) (a b : Lists) → new ≡ slots ++ replicate m None → HasMore a b → AreLinked slots a → AreLinked new b
linked_more slots new m a b e more l = record {
  linked = λ k h. let r = l.linked k (sym (more_slots slots new m k e) ∙ h) in (r.0, more.kept r.0 k r.1);
  attached = λ k list h. more_slots slots new m k e ∙ l.attached k list (more.others list k h);
  apart = more.apart;
}

pub kept_more : (slots new : List (Option ℕ)) (m : ℕ) (first second first' second' : Lists) → new ≡ slots ++ replicate m None → HasMore first first' → HasMore second second' → AreKept slots first second → AreKept new first' second'
kept_more slots new m first second first' second' e a b k = record {
  numbered = subst AreNumbered (sym e) (numbered_more slots k.numbered m);
  first_linked = linked_more slots new m first first' e a k.first_linked;
  second_linked = linked_more slots new m second second' e b k.second_linked;
}

linked_put : (slots : List (Option ℕ)) (a b : Lists) (list key : ℕ) → key < length slots → IsPut a b list key → AreLinked slots a → AreLinked (set slots key (Some key)) b
linked_put slots a b list key lt put l = record {
  linked = λ k h. elim (cases_eq k key) [
    | inl e ↦ (list, subst (IsIn b list) (sym e) put.there)
    | inr n ↦ let r = l.linked k (sym (slot_after k n) ∙ h) in (r.0, put.others r.0 k r.1)
  ];
  attached = λ k m h. elim (put.came m k h) [
    | inl r ↦ subst (λ (z : ℕ). get_or (set slots key (Some key)) z None ≡ Some z) (sym r.0) (slot_there slots slots 0 key lt none)
    | inr r ↦ slot_after k r.0 ∙ l.attached k m r.1
  ];
  apart = put.apart;
}
  where
    none : slots ≡ slots ++ replicate 0 None
    none = sym (append-nil slots)

    slot_after : (k : ℕ) → k ≢ key → get_or (set slots key (Some key)) k None ≡ get_or slots k None
    slot_after k n = slot_other slots slots 0 key lt none k n

pub kept_put : (slots : List (Option ℕ)) (first second first' second' : Lists) (x y key : ℕ) → key < length slots → IsPut first first' x key → IsPut second second' y key → AreKept slots first second → AreKept (set slots key (Some key)) first' second'
kept_put slots first second first' second' x y key lt a b k = record {
  numbered = numbered_attached slots slots 0 key lt (sym (append-nil slots)) k.numbered;
  first_linked = linked_put slots first first' x key lt a k.first_linked;
  second_linked = linked_put slots second second' y key lt b k.second_linked;
}

-- one key more
module _ (p q : Attached) (m : ℕ) (first second : Lists) (x y key : ℕ) (slots : List (Option ℕ)) (lt : key < length slots) (more : slots ≡ p.slots ++ replicate m None) (is : q.slots ≡ set slots key (Some key)) (a : HasMore p.first first) (b : HasMore p.second second) (pa : IsPut first q.first x key) (pb : IsPut second q.second y key) where
  pub goes_attached : (s : StoreView) (t : TrailView) → IsKeyed q.first q.second s t t.head t.head key → Goes p s t → Goes q s t
  goes_attached s t own g = goes_by q s t (λ k h. elim (cases_eq k key) [
    | inl e ↦ subst (IsKeyed q.first q.second s t t.head t.head) (sym e) own
    | inr n ↦
        let old : IsAttached p k = attached_by p k (sym (slot_other p.slots slots m key lt more k n) ∙ ap (λ (xs : List (Option ℕ)). get_or xs k None) (sym is) ∙ attached_at q k h) in
        let la : length q.first.lists ≡ length first.lists = pa.lists in
        let lb : length q.second.lists ≡ length second.lists = pb.lists in
        let ma : length p.first.lists ≤ length first.lists = a.lists in
        let mb : length p.second.lists ≤ length second.lists = b.lists in
        keyed_chains p.first p.second q.first q.second s t t.head t.head k (omega arith) (omega arith) (λ l z. pa.others l k (a.kept l k z)) (λ l z. pb.others l k (b.kept l k z)) (pa.words k n ∙ a.words k) (pb.words k n ∙ b.words k) (goes_keyed p s t g k old)
  ])

  pub watches_attached : (k : ℕ) → k ≢ key → KeepsWatches p q k
  watches_attached k n = record {
    kept = λ u v w. record { first = pa.others (u + 1) k (a.kept (u + 1) k w.first); second = pb.others (v + 1) k (b.kept (v + 1) k w.second); first_literal = w.first_literal; second_literal = w.second_literal };
    others = λ u v w. record { first = a.others (u + 1) k (before first q.first x pa (u + 1) w.first); second = b.others (v + 1) k (before second q.second y pb (v + 1) w.second); first_literal = w.first_literal; second_literal = w.second_literal };
  }
    where
      before : (old new : Lists) (z : ℕ) → IsPut old new z key → (l : ℕ) → IsIn new l k → IsIn old l k
      before old new z put l h = elim (put.came l k h) [ inl r ↦ absurd (n r.0) | inr r ↦ r.1 ]

  -- it watches two exactly where two are left
  pub watches_home : (lits clause : List ℕ) → All IsLiteral clause → AreHome lits clause x y → HasWatches q key ↔ HasTwoLeft lits clause
  watches_home lits clause lit (two u v ex ey pr n o) = (
    λ _. record { a = u; b = v; pair = pr; a_left = n; b_left = o },
    λ _. record {
      a = u;
      b = v;
      watches = record {
        first = subst (λ (z : ℕ). IsIn q.first z key) ex pa.there;
        second = subst (λ (z : ℕ). IsIn q.second z key) ey pb.there;
        first_literal = All-contains IsLiteral clause u lit pr.first;
        second_literal = All-contains IsLiteral clause v lit pr.second;
      };
    },
  )
  watches_home lits clause lit (rests e i n) = (
    λ w. absurd (let s : w.a + 1 ≡ x = one_list q.first (w.a + 1) x key pa.apart w.watches.first pa.there in let small = aside_low clause x i in let big = w.watches.first_literal in omega (arith, big.0)),
    λ h. absurd (n h),
  )

-- a watch's literal blocks the other, and what is no literal's list gives no blocker
block_of : (clause : List ℕ) (x a : ℕ) → x ≡ a + 1 → Contains clause a → IsBlocker clause (x - 1)
block_of clause x a e h = let same : a ≡ x - 1 = omega arith in record { each = λ low. subst (Contains clause) same h }

no_block : (clause : List ℕ) (x : ℕ) → x < 3 → IsBlocker clause (x - 1)
no_block clause x lt = record { each = λ low. absurd (omega arith) }

home_blocks : (lits clause : List ℕ) (x y : ℕ) → AreHome lits clause x y → IsBlocker clause (x - 1) × IsBlocker clause (y - 1)
home_blocks lits clause x y (two a b ex ey p n m) = (block_of clause x a ex p.first, block_of clause y b ey p.second)
home_blocks lits clause x y (rests e i n) = let lt : x < 3 = aside_low clause x i in (no_block clause x lt, no_block clause y (omega arith))

-- nothing attached
pub none_at : (slots : List (Option ℕ)) (k : ℕ) → slots ≡ [] → get_or slots k None ≡ Some k → ⊥
none_at slots k e h = let z : None ≡ Some k = sym (ap (λ (xs : List (Option ℕ)). get_or xs k None) e) ∙ h in cc

no_nodes : (chains : Lists) → chains ≡ record { lists = []; nodes = 0; words = [] } → (l k : ℕ) → IsIn chains l k → ⊥
no_nodes chains e l k h = let lt : l < length chains.lists = h.stands.list in let z : length chains.lists ≡ 0 = ap (λ (c : Lists). length c.lists) e in omega arith

pub kept_none : (slots : List (Option ℕ)) (first second : Lists) → slots ≡ [] → first ≡ record { lists = []; nodes = 0; words = [] } → second ≡ record { lists = []; nodes = 0; words = [] } → IsApart first → IsApart second → AreKept slots first second
kept_none slots first second e ef es fa sa = record {
  numbered = record { each = λ i k h. let z : None ≡ Some k = sym (ap (λ (xs : List (Option ℕ)). get_or xs i None) e) ∙ h in absurd (cc) };
  first_linked = record { linked = λ k h. absurd (none_at slots k e h); attached = λ k l h. absurd (no_nodes first ef l k h); apart = fa };
  second_linked = record { linked = λ k h. absurd (none_at slots k e h); attached = λ k l h. absurd (no_nodes second es l k h); apart = sa };
}

-- how a key was attached: room was made, and its two nodes were put
pub record IsAttaching (p q : Attached) (x y key : ℕ) : Type 0 where
  pub slots : List (Option ℕ)
  pub first : Lists
  pub second : Lists
  pub m : ℕ
  pub below : key < length slots
  pub more : slots ≡ p.slots ++ replicate m None
  pub is : q.slots ≡ set slots key (Some key)
  pub first_more : HasMore p.first first
  pub second_more : HasMore p.second second
  pub first_put : IsPut first q.first x key
  pub second_put : IsPut second q.second y key
  pub first_word : get_or q.first.words key 0 ≡ y - 1
  pub second_word : get_or q.second.words key 0 ≡ x - 1

module _ (p q : Attached) (x y key : ℕ) (a : IsAttaching p q x y key) where
  pub attaching_kept : AreKept p.slots p.first p.second → AreKept q.slots q.first q.second
  attaching_kept k = subst (λ (xs : List (Option ℕ)). AreKept xs q.first q.second) (sym a.is) (kept_put a.slots a.first a.second q.first q.second x y key a.below a.first_put a.second_put (kept_more p.slots a.slots a.m p.first p.second a.first a.second a.more a.first_more a.second_more k))

  pub attaching_goes : (s : StoreView) (t : TrailView) → IsKeyed q.first q.second s t t.head t.head key → Goes p s t → Goes q s t
  attaching_goes s t own g = goes_attached p q a.m a.first a.second x y key a.slots a.below a.more a.is a.first_more a.second_more a.first_put a.second_put s t own g

  pub attaching_others : (k : ℕ) → k ≢ key → KeepsWatches p q k
  attaching_others k n = watches_attached p q a.m a.first a.second x y key a.slots a.below a.more a.is a.first_more a.second_more a.first_put a.second_put k n

  pub attaching_watched : (lits clause : List ℕ) → All IsLiteral clause → AreHome lits clause x y → HasWatches q key ↔ HasTwoLeft lits clause
  attaching_watched lits clause lit h = watches_home p q a.m a.first a.second x y key a.slots a.below a.more a.is a.first_more a.second_more a.first_put a.second_put lits clause lit h

  pub attaching_attaches : (r : Attached) → r.slots ≡ p.slots → Attaches key r q
  attaching_attaches r e = attaches p.slots a.slots a.m key a.below a.more r q e a.is

  -- its clause is watched
  pub attaching_keyed : (s : StoreView) (t : TrailView) (clause : List ℕ) (top : ℕ) → Holds s key clause → IsWithin t.vars clause → All (λ l. l / 2 ≤ top) clause → top ≤ max_var → 2 * top + 3 ≤ length a.first.lists → 2 * top + 3 ≤ length a.second.lists → AreHome t.lits clause x y → IsKeyed q.first q.second s t t.head t.head key
  attaching_keyed s t clause top held within tops high lf ls home = record {
    clause = clause;
    held = held;
    within = within;
    literals = are_literals clause top t.vars tops high within;
    our_lists = listed clause top (length q.first.lists) tops (let e = a.first_put.lists in omega arith);
    their_lists = listed clause top (length q.second.lists) tops (let e = a.second_put.lists in omega arith);
    our_blocker = subst (IsBlocker clause) (sym a.first_word) (home_blocks t.lits clause x y home).1;
    their_blocker = subst (IsBlocker clause) (sym a.second_word) (home_blocks t.lits clause x y home).0;
    placed = home_placed q.first q.second t t.head t.head key clause x y a.first_put.there a.second_put.there home;
  }
