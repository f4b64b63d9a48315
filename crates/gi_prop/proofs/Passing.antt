use Rattle.std.proofs.Common.{◌≡◌, ◌≢◌, ℕ, zero, suc, ◌+◌, ◌<◌, ◌≤◌, Bool, true, false, Option, Some, None, List, [], ◌∷◌, length, get_or, sym, ap, ◌∙◌, subst, arith, inl, inr}
use Rattle.std.specs.List.{All, Contains, slice_get}
use Rattle.std.specs.Prelude.{IfNone, IfSome}
use Rattle.std.proofs.lemmas.Bool.{cases_eq, cases_lt}
use Rattle.std.proofs.lemmas.List.Elements.{All-contains, Contains-append_left}
use Rattle.gi_lit.specs.Literals.{opposite, IsLiteral}
use Rattle.gi_store.specs.StoreView.{StoreView, Holds, IsWithin}
use Rattle.gi_chains.specs.Lists.{Lists, items_at, StandsAt, IsApart}
use Rattle.gi_prop.specs.TrailView.{TrailView, IsTrail, HasValue, with_lit}
use Rattle.gi_prop.specs.Attached.{AddsForced, keys_alone}
use Rattle.gi_prop.specs.Watched.{IsGuarded, IsIn, IsPair, IsBlocker, IsPlaced, IsKeyed}
use Rattle.gi_prop.specs.Watched.IsPlaced.{watched, aside}
use Rattle.gi_prop.specs.Watching.{IsWatched, IsAdded, IsMoved, LeavesAside, IsPassed, ArePassed}
use Rattle.gi_prop.specs.Steps.{AreOthersFalse}
use Rattle.gi_prop.proofs.Moves.{one_list, moved_there, moved_stays, moved_length, moved_linked, moved_aside, aside_on, before_moved}
use Rattle.gi_prop.proofs.Keys.{keyed_chains}
use Rattle.gi_prop.proofs.Settling.{watched_push}
use Rattle.gi_prop.proofs.Visiting.{IsWalking, standing, walked_past, walk_on, walk_gone, added_on}

-- a clause that watches nothing
pub record IsAtAside (first second : Lists) (s : StoreView) (t : TrailView) (list key : ℕ) : Type 0 where
  pub clause : List ℕ
  pub held : Holds s key clause
  pub within : IsWithin t.vars clause
  pub literals : All IsLiteral clause
  pub first_lists : All (λ l. l + 1 < length first.lists) clause
  pub second_lists : All (λ l. l + 1 < length second.lists) clause
  pub there : IsIn second list key

pub at_aside : (slots : List (Option ℕ)) (first second : Lists) (s : StoreView) (t : TrailView) (h1 h2 list key : ℕ) → IsWatched slots first second s t h1 h2 → list < 3 → IsIn first list key → IsAtAside first second s t list key
at_aside slots first second s t h1 h2 list key w low here = let k = w.keyed key (w.kept.first_linked.attached key list here) in go k k.placed
  where
    go : (k : IsKeyed first second s t h1 h2 key) → IsPlaced first second t h1 h2 key k.clause → IsAtAside first second s t list key
    go k (watched a b x y p ga gb) =
        let same : a + 1 ≡ list = one_list first (a + 1) list key w.kept.first_linked.apart x here in
        let big = All-contains IsLiteral k.clause a k.literals p.first in
        absurd (omega (arith, big.0))
    go k (aside l x y i) =
        let same : l ≡ list = one_list first l list key w.kept.first_linked.apart x here in
        record {
          clause = k.clause;
          held = k.held;
          within = k.within;
          literals = k.literals;
          first_lists = k.our_lists;
          second_lists = k.their_lists;
          there = subst (λ (z : ℕ). IsIn second z key) same y;
        }

-- both nodes go to the lists of two literals that are guarded
module _ (slots : List (Option ℕ)) (first second first' second' : Lists) (s : StoreView) (t : TrailView) (head list node : ℕ) (w : IsWatched slots first second s t head head) (low : list < 3) (here : IsIn first list node) (at : IsAtAside first second s t list node) (a b : ℕ) (pair : IsPair at.clause a b) (a_guarded : IsGuarded t head at.clause a) (b_guarded : IsGuarded t head at.clause b) where
  pub first_exists : a + 1 < length first.lists
  first_exists = All-contains (λ l. l + 1 < length first.lists) at.clause a at.first_lists pair.first

  pub second_exists : b + 1 < length second.lists
  second_exists = All-contains (λ l. l + 1 < length second.lists) at.clause b at.second_lists pair.second

  pub first_big : 2 ≤ a
  first_big = (All-contains IsLiteral at.clause a at.literals pair.first).0

  second_big : 2 ≤ b
  second_big = (All-contains IsLiteral at.clause b at.literals pair.second).0

  first_ne : a + 1 ≢ list
  first_ne e = let x = first_big in absurd (omega arith)

  second_ne : b + 1 ≢ list
  second_ne e = let x = second_big in absurd (omega arith)

  module _ (ma : IsMoved first first' (a + 1) node) (mb : IsMoved second second' (b + 1) node) (wa : get_or first'.words node 0 ≡ b) (wb : get_or second'.words node 0 ≡ a) where
    pub promoted : IsWatched slots first' second' s t head head
    promoted = record {
      kept = record {
        numbered = w.kept.numbered;
        first_linked = moved_linked first first' list (a + 1) node w.kept.first_linked.apart here first_exists first_ne ma slots w.kept.first_linked;
        second_linked = moved_linked second second' list (b + 1) node w.kept.second_linked.apart at.there second_exists second_ne mb slots w.kept.second_linked;
      };
      trail = w.trail;
      keyed = λ k h. elim (cases_eq k node) [
        | inl e ↦ subst (IsKeyed first' second' s t head head) (sym e) own
        | inr n ↦ keyed_chains first second first' second' s t head head k (omega (arith, len)) (omega (arith, len'))
            (λ l x. moved_stays first first' list (a + 1) node w.kept.first_linked.apart here first_exists first_ne ma l k n x)
            (λ l x. moved_stays second second' list (b + 1) node w.kept.second_linked.apart at.there second_exists second_ne mb l k n x)
            (ma.words k n) (mb.words k n) (w.keyed k h)
      ];
    }
      where
        len : length first'.lists ≡ length first.lists
        len = moved_length first first' list (a + 1) node w.kept.first_linked.apart here first_exists first_ne ma

        len' : length second'.lists ≡ length second.lists
        len' = moved_length second second' list (b + 1) node w.kept.second_linked.apart at.there second_exists second_ne mb

        own : IsKeyed first' second' s t head head node
        own = record {
          clause = at.clause;
          held = at.held;
          within = at.within;
          literals = at.literals;
          our_lists = λ i d il. rw len (at.first_lists i d il);
          their_lists = λ i d il. rw len' (at.second_lists i d il);
          our_blocker = subst (IsBlocker at.clause) (sym wa) (record { each = λ low. pair.second });
          their_blocker = subst (IsBlocker at.clause) (sym wb) (record { each = λ low. pair.first });
          placed = watched a b (moved_there first first' list (a + 1) node w.kept.first_linked.apart here first_exists first_ne ma) (moved_there second second' list (b + 1) node w.kept.second_linked.apart at.there second_exists second_ne mb) pair a_guarded b_guarded;
        }

    pub promoted_aside : LeavesAside second second'
    promoted_aside = let x = second_big in moved_aside second second' list (b + 1) node w.kept.second_linked.apart at.there second_exists second_ne mb (omega arith)

-- a literal that has a value and isn't false is true
pub some_true : (lits : List ℕ) (l : ℕ) (v : Bool) → HasValue lits l (Some v) → ¬ Contains lits (opposite l) → Contains lits l
some_true lits l true h n = h
some_true lits l false h n = absurd (n h)

-- where a literal was added the others are false still
pub others_pushed : (t u : TrailView) (clause : List ℕ) (l : ℕ) (why : Option ℕ) → u ≡ with_lit l why t → AreOthersFalse t.lits clause l → AreOthersFalse u.lits clause l
others_pushed t u clause l why e others = λ k d kl. elim (others k d kl) [ inl x ↦ inl x | inr x ↦ inr (subst (λ (z : TrailView). Contains z.lits (opposite (get_or clause k d))) (sym e) (Contains-append_left t.lits (l ∷ []) _ x)) ]

pub forced_aside : (slots : List (Option ℕ)) (a b : Lists) (s : StoreView) (t u : TrailView) (l : ℕ) (why : Option ℕ) → IsWatched slots a b s t t.head t.head → u ≡ with_lit l why t → IsTrail u → IsWatched slots a b s u u.head u.head
forced_aside slots a b s t u l why w e trail =
    let head : u.head ≡ t.head = ap (λ (z : TrailView). z.head) e in
    subst (λ (n : ℕ). IsWatched slots a b s u n n) (sym head) (watched_push slots a b s t t.head t.head w l why u e trail w.trail.levels.high w.trail.levels.high)

-- a longer trail
pub passed_longer : (slots : List (Option ℕ)) (s : StoreView) (t u : TrailView) (key : ℕ) → AddsForced (keys_alone slots) s t u → IsPassed s t.lits key → IsPassed s u.lits key
passed_longer slots s t u key e p = record {
  clause = p.clause;
  held = p.held;
  only = record {
    lit = p.only.lit;
    stands = p.only.stands;
    true = more p.only.lit p.only.true;
    others = λ k d kl. elim (p.only.others k d kl) [ inl x ↦ inl x | inr x ↦ inr (more _ x) ];
  };
}
  where
    more : (m : ℕ) → Contains t.lits m → Contains u.lits m
    more m h = subst (λ (z : List ℕ). Contains z m) (sym e.lits) (Contains-append_left t.lits e.more m h)

pub passed_on : (slots : List (Option ℕ)) (first first' : Lists) (s : StoreView) (t u : TrailView) (list : ℕ) → list < 3 → LeavesAside first first' → AddsForced (keys_alone slots) s t u → ArePassed first s t.lits list → ArePassed first' s u.lits list
passed_on slots first first' s t u list low x e p = record { each = λ k h. passed_longer slots s t u k e (p.each k (x.each list k low h)) }

-- where a pass over one list stands: what is before the place was seen to
pub record IsPassing (slots : List (Option ℕ)) (old_first old_second first second : Lists) (s : StoreView) (old t : TrailView) (list : ℕ) (at : Option ℕ) : Type 0 where
  pub watched : IsWatched slots first second s t t.head t.head
  pub added : IsAdded slots s old t
  pub first_aside : LeavesAside old_first first
  pub second_aside : LeavesAside old_second second
  pub low : list < 3
  pub place : ℕ
  pub walking : IsWalking first list at place
  pub done : (j k : ℕ) → j < place → StandsAt first.lists list j k → IsPassed s t.lits k

module _ (slots : List (Option ℕ)) (old_first old_second first second : Lists) (s : StoreView) (old t : TrailView) (list : ℕ) (at : Option ℕ) (v : IsPassing slots old_first old_second first second s old t list at) where
  -- the end of the list
  pub all_passed : at ≡ None → ArePassed first s t.lits list
  all_passed e = record {
    each = λ k x.
        let past : length (items_at first.lists list) ≤ v.place = walked_past first list at v.place v.walking e in
        let jl : x.place < length (items_at first.lists list) = x.stands.place in
        v.done x.place k (omega arith) x.stands;
  }

  module _ (node : ℕ) (is : at ≡ Some node) (next : Option ℕ) (next_is : next ≡ slice_get (items_at first.lists list) (v.place + 1)) (first' second' : Lists) (u : TrailView) (w : IsWatched slots first' second' s u u.head u.head) (e : IsAdded slots s t u) (x : LeavesAside second second') where
    -- the nodes stay
    pub pass_kept : (first' ≡ first) × IsPassed s u.lits node → IsPassing slots old_first old_second first' second' s old u list next
    pass_kept q = record {
      watched = w;
      added = added_on slots s old t u v.watched.trail.reasons v.added e;
      first_aside = subst (LeavesAside old_first) (sym q.0) v.first_aside;
      second_aside = aside_on old_second second second' v.second_aside x;
      low = v.low;
      place = v.place + 1;
      walking = walk_on first first' list at v.place v.walking next next_is (ap (λ (z : Lists). z.lists) q.0) (subst IsApart (sym q.0) v.walking.apart);
      done = λ j k jl st.
          let so : StandsAt first.lists list j k = subst (λ (z : Lists). StandsAt z.lists list j k) q.0 st in
          elim (cases_lt j v.place) [
            | inl below ↦ passed_longer slots s t u k e.adds (v.done j k below so)
            | inr ge ↦
                let same : j ≡ v.place = omega arith in
                let key_is : k ≡ node = sym so.item ∙ ap (λ z. get_or (items_at first.lists list) z 0) same ∙ (standing first list at v.place v.walking node is).item in
                subst (IsPassed s u.lits) (sym key_is) q.1
          ];
    }

    -- the nodes went
    pub pass_gone : (m : ℕ) → 2 ≤ m → m + 1 < length first.lists → IsMoved first first' (m + 1) node → IsPassing slots old_first old_second first' second' s old u list next
    pass_gone m big ml mv =
        let here : StandsAt first.lists list v.place node = standing first list at v.place v.walking node is in
        let low : list < 3 = v.low in
        let ne : m + 1 ≢ list = λ q. absurd (omega arith) in
        record {
          watched = w;
          added = added_on slots s old t u v.watched.trail.reasons v.added e;
          first_aside = aside_on old_first first first' v.first_aside (moved_aside first first' list (m + 1) node v.walking.apart (record { place = v.place; stands = here }) ml ne mv (omega arith));
          second_aside = aside_on old_second second second' v.second_aside x;
          low = v.low;
          place = v.place;
          walking = walk_gone first first' list at v.place v.walking node is (m + 1) ml ne mv next next_is;
          done = λ j k jl st.
              let r = before_moved first first' list v.place (m + 1) node v.walking.apart here ml ne mv j k jl st in
              passed_longer slots s t u k e.adds (v.done j k jl r.0);
        }

-- no node is in a list that isn't there
pub none_passed : (first : Lists) (s : StoreView) (lits : List ℕ) (list : ℕ) → length first.lists ≤ list → ArePassed first s lits list
none_passed first s lits list le = record { each = λ k x. absurd (let z = x.stands.list in omega arith) }

-- what follows where nothing is given
pub if_none : {A : Type 0} (o : Option A) (P Q : Type 0) → (P → Q) → IfNone o P → IfNone o Q
if_none None P Q f h = f h
if_none (Some x) P Q f h = tt

pub if_some : {A : Type 0} (o : Option A) (P Q : A → Type 0) → ((x : A) → P x → Q x) → IfSome o P → IfSome o Q
if_some None P Q f h = tt
if_some (Some x) P Q f h = f x h

-- three lists, one after the other
pub lists_passed : (slots : List (Option ℕ)) (a b c : Lists) (s : StoreView) (t u v : TrailView) → LeavesAside a b → LeavesAside b c → AddsForced (keys_alone slots) s t u → AddsForced (keys_alone slots) s u v → ArePassed a s t.lits 2 → ArePassed b s u.lits 1 → ArePassed c s v.lits 0 → (list : ℕ) → list < 3 → ArePassed c s v.lits list
lists_passed slots a b c s t u v x y e f p2 p1 p0 zero low = p0
lists_passed slots a b c s t u v x y e f p2 p1 p0 (suc zero) low = passed_on slots b c s u v 1 (omega arith) y f p1
lists_passed slots a b c s t u v x y e f p2 p1 p0 (suc (suc zero)) low = passed_on slots b c s u v 2 (omega arith) y f (passed_on slots a b s t u 2 (omega arith) x e p2)
lists_passed slots a b c s t u v x y e f p2 p1 p0 (suc (suc (suc n))) low = absurd (omega arith)
