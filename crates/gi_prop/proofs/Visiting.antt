use Rattle.std.proofs.Common.{◌≡◌, ◌≢◌, ℕ, zero, suc, ◌+◌, ◌-◌, ◌<◌, ◌≤◌, cond, nat_eq, Option, Some, None, List, [], ◌∷◌, length, get_or, refl, sym, ap, ◌∙◌, subst, arith, inl, inr, length-append}
use Rattle.std.specs.List.{remove, slice_get}
use Rattle.std.proofs.lemmas.Bool.{cases_lt, cases_eq, eq-eqb, ne_eqb}
use Rattle.std.proofs.lemmas.Option.{slice_get_past, slice_get_within, slice_get-get_or, get_or_from_slice_get}
use Rattle.std.proofs.lemmas.List.Edits.{length-remove, get_or-remove_above}
use Rattle.gi_lit.proofs.Literals.{opposite-injective}
use Rattle.gi_store.specs.StoreView.{StoreView}
use Rattle.gi_chains.specs.Lists.{Lists, items_at, StandsAt, IsApart}
use Rattle.gi_prop.specs.TrailView.{TrailView}
use Rattle.gi_prop.specs.Attached.{AddsForced, keys_alone}
use Rattle.gi_prop.specs.Watched.{IsIn, IsPlaced, IsKeyed}
use Rattle.gi_prop.specs.Watched.IsPlaced.{watched, aside}
use Rattle.gi_prop.specs.Watching.{IsWatched, IsLooking, IsAdded, IsMoved, KeepsLists, LeavesAside}
use Rattle.gi_prop.proofs.Guards.{guarded_more, guarded_extends}
use Rattle.gi_prop.proofs.Moves.{items_moved, before_moved, moved_length, moved_aside, aside_on, aside_kept}
use Rattle.gi_prop.proofs.Keys.{keyed_trail}
use Rattle.gi_prop.proofs.Settling.{keyed_other, keyed_kept, looking_added}
use Rattle.gi_prop.proofs.Adding.{AddsForced-trans}

-- how many nodes are left from one on
unfoldable pub non_false : Option ℕ → List ℕ → ℕ
non_false None xs = 0
non_false (Some k) [] = 0
non_false (Some k) (x ∷ xs) = cond (nat_eq x k) (suc (length xs)) (non_false (Some k) xs)

left_at : (xs : List ℕ) (i k : ℕ) → i < length xs → get_or xs i 0 ≡ k → ((j : ℕ) → j < i → get_or xs j 0 ≢ k) → non_false (Some k) xs ≡ length xs - i
unfolding non_false
left_at [] i k lt e h = absurd (omega arith)
left_at (x ∷ xs) zero k lt e h = rw (eq-eqb x k e) (omega arith)
left_at (x ∷ xs) (suc i) k lt e h = rw (ne_eqb x k (h zero (omega arith))) (left_at xs i k (omega arith) e (λ j jl. h (suc j) (omega arith)) ∙ omega arith)

left_none : (xs : List ℕ) → non_false None xs ≡ 0
unfolding non_false
left_none xs = refl

-- where a walk along a list stands
pub record IsWalking (chains : Lists) (list : ℕ) (at : Option ℕ) (place : ℕ) : Type 0 where
  pub exists : list < length chains.lists
  pub apart : IsApart chains
  pub at_is : at ≡ slice_get (items_at chains.lists list) place

module _ (chains : Lists) (list : ℕ) (at : Option ℕ) (place : ℕ) (v : IsWalking chains list at place) where
  abbrev xs : List ℕ
  xs = items_at chains.lists list

  pub standing : (k : ℕ) → at ≡ Some k → StandsAt chains.lists list place k
  standing k e = let g : slice_get xs place ≡ Some k = sym v.at_is ∙ e in record { list = v.exists; place = slice_get_within xs place k g; item = get_or_from_slice_get xs place k 0 g }

  pub left_is : non_false at xs ≡ length xs - place
  left_is = elim (cases_lt place (length xs)) [
    | inl lt ↦
        let k : ℕ = get_or xs place 0 in
        let e : at ≡ Some (get_or xs place 0) = v.at_is ∙ slice_get-get_or xs place 0 lt in
        ap (λ o. non_false o xs) e
        ∙ left_at xs place (get_or xs place 0) lt refl (λ j jl same.
        let jx : j < length xs = omega arith in
        let p : j ≡ place = v.apart.same_place list j list place (get_or xs place 0) (record { list = v.exists; place = jx; item = same }) (record { list = v.exists; place = lt; item = refl }) in
        omega arith)
    | inr ge ↦ ap (λ o. non_false o xs) (v.at_is ∙ slice_get_past xs place ge) ∙ left_none xs ∙ omega arith
  ]

  -- at the end of the list
  pub walked_past : at ≡ None → length xs ≤ place
  walked_past e = elim (cases_lt place (length xs)) [ inl lt ↦ absurd (let g : None ≡ Some (get_or xs place 0) = sym e ∙ v.at_is ∙ slice_get-get_or xs place 0 lt in cc) | inr ge ↦ ge ]

-- on to the next node, where the lists stay
pub walk_on : (chains new : Lists) (list : ℕ) (at : Option ℕ) (place : ℕ) → IsWalking chains list at place → (next : Option ℕ) → next ≡ slice_get (items_at chains.lists list) (place + 1) → new.lists ≡ chains.lists → IsApart new → IsWalking new list next (place + 1)
walk_on chains new list at place v next is e apart = record {
  exists = subst (λ (z : List (List ℕ)). list < length z) (sym e) v.exists;
  apart = apart;
  at_is = is ∙ ap (λ z. slice_get (items_at z list) (place + 1)) (sym e);
}

slice_get-removed : (ys : List ℕ) (i : ℕ) → i < length ys → slice_get (remove ys i) i ≡ slice_get ys (i + 1)
slice_get-removed ys i il = elim (cases_lt (i + 1) (length ys)) [
  | inl lt ↦ let len = length-remove ys i il in slice_get-get_or (remove ys i) i 0 (omega arith) ∙ ap Some (get_or-remove_above ys i 0 i (omega arith) il) ∙ sym (slice_get-get_or ys (i + 1) 0 lt)
  | inr ge ↦ let len = length-remove ys i il in slice_get_past (remove ys i) i (omega arith) ∙ sym (slice_get_past ys (i + 1) ge)
]

-- where the node goes to another list
module _ (chains new : Lists) (list : ℕ) (at : Option ℕ) (place : ℕ) (v : IsWalking chains list at place) (node : ℕ) (is : at ≡ Some node) (to : ℕ) (ml : to < length chains.lists) (ne : to ≢ list) (mv : IsMoved chains new to node) where
  abbrev here : StandsAt chains.lists list place node
  here = standing chains list at place v node is

  pub items_gone : items_at new.lists list ≡ remove (items_at chains.lists list) place
  items_gone = items_moved chains new list place to node v.apart (standing chains list at place v node is) ml ne mv

  pub walk_gone : (next : Option ℕ) → next ≡ slice_get (items_at chains.lists list) (place + 1) → IsWalking new list next place
  walk_gone next nis = record {
    exists = (let e = v.exists in omega (arith, moved_length chains new list to node v.apart (record { place = place; stands = standing chains list at place v node is }) ml ne mv));
    apart = mv.apart;
    at_is = nis ∙ sym (slice_get-removed (items_at chains.lists list) place (standing chains list at place v node is).place) ∙ ap (λ z. slice_get z place) (sym items_gone);
  }

-- fewer nodes are left
pub fewer_on : (chains new : Lists) (list : ℕ) (at : Option ℕ) (place : ℕ) (v : IsWalking chains list at place) (node : ℕ) → at ≡ Some node → (next : Option ℕ) → next ≡ slice_get (items_at chains.lists list) (place + 1) → new.lists ≡ chains.lists → IsApart new → non_false next (items_at new.lists list) < non_false at (items_at chains.lists list)
fewer_on chains new list at place v node is next nis e apart =
    let il : place < length (items_at chains.lists list) = (standing chains list at place v node is).place in
    let len : length (items_at new.lists list) ≡ length (items_at chains.lists list) = ap (λ z. length (items_at z list)) e in
    omega (arith, left_is chains list at place v, left_is new list next (place + 1) (walk_on chains new list at place v next nis e apart))

pub fewer_gone : (chains new : Lists) (list : ℕ) (at : Option ℕ) (place : ℕ) (v : IsWalking chains list at place) (node : ℕ) (is : at ≡ Some node) (to : ℕ) (ml : to < length chains.lists) (ne : to ≢ list) (mv : IsMoved chains new to node) (next : Option ℕ) → next ≡ slice_get (items_at chains.lists list) (place + 1) → non_false next (items_at new.lists list) < non_false at (items_at chains.lists list)
fewer_gone chains new list at place v node is to ml ne mv next nis =
    let il : place < length (items_at chains.lists list) = (standing chains list at place v node is).place in
    let len : length (items_at new.lists list) + 1 ≡ length (items_at chains.lists list) = ap (λ z. length z + 1) (items_gone chains new list at place v node is to ml ne mv) ∙ length-remove (items_at chains.lists list) place il in
    omega (arith, left_is chains list at place v, left_is new list next place (walk_gone chains new list at place v node is to ml ne mv next nis))

-- what was added in two steps
pub added_on : (slots : List (Option ℕ)) (s : StoreView) (a b c : TrailView) → length b.reasons ≡ length b.lits → IsAdded slots s a b → IsAdded slots s b c → IsAdded slots s a c
added_on slots s a b c al x y = record { adds = AddsForced-trans (keys_alone slots) s a b c al x.adds y.adds; head = y.head ∙ x.head }

-- what was looked at stays so
pub keyed_added : (slots : List (Option ℕ)) (ours theirs : Lists) (s : StoreView) (t u : TrailView) (h1 h2 k : ℕ) → AddsForced (keys_alone slots) s t u → h1 ≤ length t.lits → h2 ≤ length t.lits → IsKeyed ours theirs s t h1 h2 k → IsKeyed ours theirs s u h1 h2 k
keyed_added slots ours theirs s t u h1 h2 k e le le' = keyed_trail ours theirs s t u h1 h2 h1 h2 k (omega (arith, e.vars)) (λ c v g. guarded_extends t u e.more h1 c v e.lits e.level_starts e.qheads le g) (λ c v g. guarded_extends t u e.more h2 c v e.lits e.level_starts e.qheads le' g)

-- where the visit of one list stands: what is before the place was looked at
pub record IsVisiting (slots : List (Option ℕ)) (old_ours ours theirs : Lists) (s : StoreView) (old t : TrailView) (seen f : ℕ) (at : Option ℕ) : Type 0 where
  pub watched : IsWatched slots ours theirs s t t.head seen
  pub added : IsAdded slots s old t
  pub aside : LeavesAside old_ours ours
  pub looking : IsLooking t f
  pub high : seen ≤ length t.lits
  pub place : ℕ
  pub walking : IsWalking ours (f + 1) at place
  pub done : (j k : ℕ) → j < place → StandsAt ours.lists (f + 1) j k → IsKeyed ours theirs s t (t.head + 1) seen k

-- a clause that doesn't watch f needs no look
pub keyed_more : (ours theirs : Lists) (s : StoreView) (t : TrailView) (h2 f k : ℕ) → IsLooking t f → (IsIn ours (f + 1) k → IsKeyed ours theirs s t (t.head + 1) h2 k) → IsKeyed ours theirs s t t.head h2 k → IsKeyed ours theirs s t (t.head + 1) h2 k
keyed_more ours theirs s t h2 f k lk here q = go q.placed
  where
    with_placed : IsPlaced ours theirs t (t.head + 1) h2 k q.clause → IsKeyed ours theirs s t (t.head + 1) h2 k
    with_placed p = record { clause = q.clause; held = q.held; within = q.within; literals = q.literals; our_lists = q.our_lists; their_lists = q.their_lists; our_blocker = q.our_blocker; their_blocker = q.their_blocker; placed = p }

    go : IsPlaced ours theirs t t.head h2 k q.clause → IsKeyed ours theirs s t (t.head + 1) h2 k
    go (watched a b x y p ga gb) = elim (cases_eq a f) [
      | inl e ↦ here (subst (λ (z : ℕ). IsIn ours (z + 1) k) e x)
      | inr n ↦ with_placed (watched a b x y p (guarded_more t q.clause a t.head (λ g. n (opposite-injective a f (sym g ∙ lk.is))) ga) gb)
    ]
    go (aside l x y i) = with_placed (aside l x y i)

module _ (slots : List (Option ℕ)) (old_ours ours theirs : Lists) (s : StoreView) (old t : TrailView) (seen f : ℕ) (at : Option ℕ) (v : IsVisiting slots old_ours ours theirs s old t seen f at) where
  -- the end of the list
  pub all_seen : at ≡ None → IsWatched slots ours theirs s t (t.head + 1) seen
  all_seen e = record {
    kept = v.watched.kept;
    trail = v.watched.trail;
    keyed = λ k h. keyed_more ours theirs s t seen f k v.looking (λ x.
        let past : length (items_at ours.lists (f + 1)) ≤ v.place = walked_past ours (f + 1) at v.place v.walking e in
        let jl : x.place < length (items_at ours.lists (f + 1)) = x.stands.place in
        v.done x.place k (omega arith) x.stands) (v.watched.keyed k h);
  }

  module _ (node : ℕ) (is : at ≡ Some node) (next : Option ℕ) (next_is : next ≡ slice_get (items_at ours.lists (f + 1)) (v.place + 1)) (new : Lists) (u : TrailView) (w : IsWatched slots new theirs s u u.head seen) (e : IsAdded slots s t u) where
    later : (k : ℕ) → IsKeyed ours theirs s t (t.head + 1) seen k → IsKeyed ours theirs s u (u.head + 1) seen k
    later k q =
        let head : u.head ≡ t.head = e.head in
        let lt : t.head < length t.lits = v.looking.below in
        subst (λ (z : ℕ). IsKeyed ours theirs s u (z + 1) seen k) (sym head) (keyed_added slots ours theirs s t u (t.head + 1) seen k e.adds (omega arith) v.high q)

    higher : seen ≤ length u.lits
    higher = let len : length u.lits ≡ length t.lits + length e.adds.more = ap length e.adds.lits ∙ length-append t.lits e.adds.more in let h = v.high in omega arith

    -- the watch stays
    pub visit_kept : KeepsLists ours new node × IsKeyed new theirs s u (u.head + 1) seen node → IsVisiting slots old_ours new theirs s old u seen f next
    visit_kept q = record {
      watched = w;
      added = added_on slots s old t u v.watched.trail.reasons v.added e;
      aside = aside_kept old_ours ours new v.aside q.0.lists;
      looking = looking_added slots s t u f e v.looking;
      high = higher;
      place = v.place + 1;
      walking = walk_on ours new (f + 1) at v.place v.walking next next_is q.0.lists q.0.apart;
      done = λ j k jl st.
          let so : StandsAt ours.lists (f + 1) j k = subst (λ (z : List (List ℕ)). StandsAt z (f + 1) j k) q.0.lists st in
          elim (cases_lt j v.place) [
            | inl below ↦
                let other : k ≢ node = (λ g.
                let here : StandsAt ours.lists (f + 1) j node = subst (StandsAt ours.lists (f + 1) j) g so in
                let same : j ≡ v.place = v.walking.apart.same_place (f + 1) j (f + 1) v.place node here (standing ours (f + 1) at v.place v.walking node is) in
                absurd (omega arith)) in
                keyed_kept ours new theirs s u (u.head + 1) seen k node q.0 other (later k (v.done j k below so))
            | inr ge ↦
                let same : j ≡ v.place = omega arith in
                let key_is : k ≡ node = sym so.item ∙ ap (λ z. get_or (items_at ours.lists (f + 1)) z 0) same ∙ (standing ours (f + 1) at v.place v.walking node is).item in
                subst (IsKeyed new theirs s u (u.head + 1) seen) (sym key_is) q.1
          ];
    }

    -- the watch went
    pub visit_gone : (m : ℕ) → 2 ≤ m → m ≢ f → m + 1 < length ours.lists → IsMoved ours new (m + 1) node → IsVisiting slots old_ours new theirs s old u seen f next
    visit_gone m big mf ml mv =
        let here : StandsAt ours.lists (f + 1) v.place node = standing ours (f + 1) at v.place v.walking node is in
        let ne : m + 1 ≢ f + 1 = λ q. mf (omega arith) in
        record {
          watched = w;
          added = added_on slots s old t u v.watched.trail.reasons v.added e;
          aside = aside_on old_ours ours new v.aside (moved_aside ours new (f + 1) (m + 1) node v.walking.apart (record { place = v.place; stands = here }) ml ne mv (omega arith));
          looking = looking_added slots s t u f e v.looking;
          high = higher;
          place = v.place;
          walking = walk_gone ours new (f + 1) at v.place v.walking node is (m + 1) ml ne mv next next_is;
          done = λ j k jl st.
              let r = before_moved ours new (f + 1) v.place (m + 1) node v.walking.apart here ml ne mv j k jl st in
              keyed_other ours theirs new s u (f + 1) (m + 1) node v.walking.apart (record { place = v.place; stands = here }) ml ne mv k (u.head + 1) seen r.1 (later k (v.done j k jl r.0));
        }

-- no clause watches what has no list
pub none_seen : (slots : List (Option ℕ)) (ours theirs : Lists) (s : StoreView) (t : TrailView) (seen f : ℕ) → IsWatched slots ours theirs s t t.head seen → IsLooking t f → length ours.lists ≤ f + 1 → IsWatched slots ours theirs s t (t.head + 1) seen
none_seen slots ours theirs s t seen f w lk le = record {
  kept = w.kept;
  trail = w.trail;
  keyed = λ k h. keyed_more ours theirs s t seen f k lk (λ x. absurd (let z = x.stands.list in omega arith)) (w.keyed k h);
}
