use Rattle.std.proofs.Common.{◌≡◌, ◌≢◌, ℕ, ◌+◌, ◌-◌, ◌/◌, ◌<◌, ◌≤◌, Option, Some, None, List, [], ◌∷◌, length, get_or, refl, sym, ap, ◌∙◌, subst, arith, inl, inr, length-append, get_or-set_other, get_or-set_same}
use Rattle.std.specs.List.{All, Contains}
use Rattle.std.proofs.lemmas.Bool.{cases_eq}
use Rattle.std.proofs.lemmas.List.{get_or_push, get_or_default, get_or_append_left}
use Rattle.std.proofs.lemmas.List.Elements.{All-contains, Contains-get_or}
use Rattle.gi_lit.specs.Literals.{opposite, IsLiteral}
use Rattle.gi_lit.specs.Closure.{Forces}
use Rattle.gi_store.specs.StoreView.{StoreView, Holds, IsWithin}
use Rattle.gi_chains.specs.Lists.{Lists, StandsAt, IsApart, with_word}
use Rattle.gi_prop.specs.TrailView.{TrailView, IsTrail, with_lit}
use Rattle.gi_prop.specs.Attached.{keys_alone}
use Rattle.gi_prop.specs.Watched.{IsGuarded, IsIn, IsPair, IsBlocker, IsAside, IsPlaced, IsKeyed}
use Rattle.gi_prop.specs.Watched.IsPlaced.{watched, aside}
use Rattle.gi_prop.specs.Watched.IsAside.{waits, single, empty}
use Rattle.gi_prop.specs.Watching.{IsWatched, IsLooking, IsAdded, IsMoved, KeepsLists}
use Rattle.gi_prop.proofs.Guards.{guarded_extends, guarded_true, guarded_free}
use Rattle.gi_prop.proofs.Moves.{one_list, moved_there, moved_stays, moved_length, moved_linked, in_kept, linked_kept}
use Rattle.gi_prop.proofs.Keys.{keyed_trail, keyed_chains}
use Rattle.gi_prop.proofs.Slots.{attached_by}
use Rattle.gi_prop.proofs.Adding.{AddsForced-refl, AddsForced-one}

pub aside_low : (clause : List ℕ) (list : ℕ) → IsAside clause list → list < 3
aside_low clause list (waits e a b p) = omega arith
aside_low clause list (single e a h s) = omega arith
aside_low clause list (empty e n) = omega arith

-- a clause that watches f on our side
pub record IsAtWatch (ours theirs : Lists) (s : StoreView) (t : TrailView) (h1 h2 f key : ℕ) : Type 0 where
  pub clause : List ℕ
  pub held : Holds s key clause
  pub within : IsWithin t.vars clause
  pub literals : All IsLiteral clause
  pub our_lists : All (λ l. l + 1 < length ours.lists) clause
  pub their_lists : All (λ l. l + 1 < length theirs.lists) clause
  pub other : ℕ
  pub there : IsIn theirs (other + 1) key
  pub pair : IsPair clause f other
  pub ours_guarded : IsGuarded t h1 clause f
  pub theirs_guarded : IsGuarded t h2 clause other
  pub our_blocker : IsBlocker clause (get_or ours.words key 0)
  pub their_blocker : IsBlocker clause (get_or theirs.words key 0)

pub at_watch : (ours theirs : Lists) (s : StoreView) (t : TrailView) (h1 h2 f key : ℕ) → IsApart ours → IsIn ours (f + 1) key → 2 ≤ f → IsKeyed ours theirs s t h1 h2 key → IsAtWatch ours theirs s t h1 h2 f key
at_watch ours theirs s t h1 h2 f key apart here low k = go k.placed
  where
    go : IsPlaced ours theirs t h1 h2 key k.clause → IsAtWatch ours theirs s t h1 h2 f key
    go (watched a b x y p ga gb) =
        let same : a + 1 ≡ f + 1 = one_list ours (a + 1) (f + 1) key apart x here in
        let e : a ≡ f = omega arith in
        record {
          clause = k.clause;
          held = k.held;
          within = k.within;
          literals = k.literals;
          our_lists = k.our_lists;
          their_lists = k.their_lists;
          other = b;
          there = y;
          pair = subst (λ (z : ℕ). IsPair k.clause z b) e p;
          ours_guarded = subst (IsGuarded t h1 k.clause) e ga;
          theirs_guarded = gb;
          our_blocker = k.our_blocker;
          their_blocker = k.their_blocker;
        }
    go (aside l x y i) =
        let same : l ≡ f + 1 = one_list ours l (f + 1) key apart x here in
        let small : l < 3 = aside_low k.clause l i in
        absurd (omega arith)

module _ (ours theirs : Lists) (s : StoreView) (t : TrailView) (h1 h2 f key : ℕ) (w : IsAtWatch ours theirs s t h1 h2 f key) where
  pub other_literal : IsLiteral w.other
  other_literal = All-contains IsLiteral w.clause w.other w.literals w.pair.second

  pub other_within : (1 ≤ w.other / 2) × (w.other / 2 ≤ t.vars)
  other_within = All-contains (λ l. (1 ≤ l / 2) × (l / 2 ≤ t.vars)) w.clause w.other w.within w.pair.second

  pub list_exists : (m : ℕ) → Contains w.clause m → m + 1 < length ours.lists
  list_exists m h = All-contains (λ l. l + 1 < length ours.lists) w.clause m w.our_lists h

  -- it stays, and is guarded so far
  pub at_keep : (h : ℕ) → IsIn ours (f + 1) key → IsGuarded t h w.clause f → IsKeyed ours theirs s t h h2 key
  at_keep h here g = record {
    clause = w.clause;
    held = w.held;
    within = w.within;
    literals = w.literals;
    our_lists = w.our_lists;
    their_lists = w.their_lists;
    our_blocker = w.our_blocker;
    their_blocker = w.their_blocker;
    placed = watched f w.other here w.there w.pair g w.theirs_guarded;
  }

  -- it watches a literal that isn't false
  pub at_move : (h m : ℕ) (new : Lists) → Contains w.clause m → m ≢ w.other → ¬ Contains t.lits (opposite m) → IsIn new (m + 1) key → length new.lists ≡ length ours.lists → get_or new.words key 0 ≡ w.other → IsKeyed new theirs s t h h2 key
  at_move h m new mc mo free here len word = record {
    clause = w.clause;
    held = w.held;
    within = w.within;
    literals = w.literals;
    our_lists = λ i d il. rw len (w.our_lists i d il);
    their_lists = w.their_lists;
    our_blocker = subst (IsBlocker w.clause) (sym word) (record { each = λ low. w.pair.second });
    their_blocker = w.their_blocker;
    placed = watched m w.other here w.there (record { first = mc; second = w.pair.second; differ = mo }) (guarded_free t h w.clause m free) w.theirs_guarded;
  }

-- the literal at the head makes the other false
pub looking_false : (t : TrailView) (f : ℕ) → IsLooking t f → Contains t.lits (opposite f)
looking_false t f lk = subst (Contains t.lits) lk.is (Contains-get_or t.lits t.head 0 lk.below)

pub not_false_differs : (t : TrailView) (f m : ℕ) → IsLooking t f → ¬ Contains t.lits (opposite m) → m ≢ f
not_false_differs t f m lk n e = n (subst (λ (z : ℕ). Contains t.lits (opposite z)) (sym e) (looking_false t f lk))

-- where a literal of the clause is true, the watch is guarded further
pub guarded_kept : (t : TrailView) (clause : List ℕ) (f l : ℕ) → IsTrail t → Contains clause l → Contains t.lits l → IsGuarded t t.head clause f → IsGuarded t (t.head + 1) clause f
guarded_kept t clause f l tr h k g = guarded_true t clause f k.0 tr.levels k.1 (subst (Contains clause) (sym (get_or_default t.lits k.0 0 l k.1 ∙ k.2)) h) g

pub added_none : (slots : List (Option ℕ)) (s : StoreView) (t : TrailView) → IsAdded slots s t t
added_none slots s t = record { adds = AddsForced-refl (keys_alone slots) s t; head = refl }

-- a literal more, forced by a clause of a key that is attached
module _ (slots : List (Option ℕ)) (ours theirs : Lists) (s : StoreView) (t : TrailView) (h1 h2 : ℕ) (w : IsWatched slots ours theirs s t h1 h2) (l : ℕ) (why : Option ℕ) (u : TrailView) (added : u ≡ with_lit l why t) (trail : IsTrail u) where
  pub keyed_push : (k g1 g2 : ℕ) → g1 ≤ length t.lits → g2 ≤ length t.lits → IsKeyed ours theirs s t g1 g2 k → IsKeyed ours theirs s u g1 g2 k
  keyed_push k g1 g2 le le' = subst (λ (z : TrailView). IsKeyed ours theirs s t g1 g2 k → IsKeyed ours theirs s z g1 g2 k) (sym added) (keyed_trail ours theirs s t (with_lit l why t) g1 g2 g1 g2 k (omega arith) (λ c v g. guarded_extends t (with_lit l why t) (l ∷ []) g1 c v refl refl refl le g) (λ c v g. guarded_extends t (with_lit l why t) (l ∷ []) g2 c v refl refl refl le' g))

  pub watched_push : h1 ≤ length t.lits → h2 ≤ length t.lits → IsWatched slots ours theirs s u h1 h2
  watched_push le le' = record { kept = w.kept; trail = trail; keyed = λ k h. keyed_push k h1 h2 le le' (w.keyed k h) }

pub added_one : (slots : List (Option ℕ)) (s : StoreView) (t u : TrailView) (l key : ℕ) (clause : List ℕ) → IsTrail t → get_or slots key None ≡ Some key → Holds s key clause → Forces clause l t.lits → u ≡ with_lit l (Some key) t → IsAdded slots s t u
added_one slots s t u l key clause tr at held forces e = subst (IsAdded slots s t) (sym e) (record {
  adds = AddsForced-one (keys_alone slots) s t l key clause tr.reasons (attached_by (keys_alone slots) key at) held forces;
  head = refl;
})

-- the last literal is true
pub last_true : (t u : TrailView) (l : ℕ) (why : Option ℕ) → u ≡ with_lit l why t → Contains u.lits l
last_true t u l why e = subst (λ (z : TrailView). Contains z.lits l) (sym e) (length t.lits, omega (arith, length-append t.lits (l ∷ [])), get_or_push t.lits l l (length t.lits) refl)

-- one node of our side moves
pub keyed_other : (ours theirs new : Lists) (s : StoreView) (t : TrailView) (from to node : ℕ) → IsApart ours → IsIn ours from node → to < length ours.lists → to ≢ from → IsMoved ours new to node → (k g1 g2 : ℕ) → k ≢ node → IsKeyed ours theirs s t g1 g2 k → IsKeyed new theirs s t g1 g2 k
keyed_other ours theirs new s t from to node apart here ml ne mv k g1 g2 n = keyed_chains ours theirs new theirs s t g1 g2 k (omega (arith, moved_length ours new from to node apart here ml ne mv)) (omega arith) (λ list h. moved_stays ours new from to node apart here ml ne mv list k n h) (λ list h. h) (mv.words k n) refl

module _ (slots : List (Option ℕ)) (ours theirs new : Lists) (s : StoreView) (t : TrailView) (h1 h2 : ℕ) (w : IsWatched slots ours theirs s t h1 h2) (from to node : ℕ) (here : IsIn ours from node) (ml : to < length ours.lists) (ne : to ≢ from) (mv : IsMoved ours new to node) where
  pub watched_move : IsKeyed new theirs s t h1 h2 node → IsWatched slots new theirs s t h1 h2
  watched_move q = record {
    kept = record { numbered = w.kept.numbered; first_linked = moved_linked ours new from to node w.kept.first_linked.apart here ml ne mv slots w.kept.first_linked; second_linked = w.kept.second_linked };
    trail = w.trail;
    keyed = λ k h. elim (cases_eq k node) [
      | inl e ↦ subst (IsKeyed new theirs s t h1 h2) (sym e) q
      | inr n ↦ keyed_other ours theirs new s t from to node w.kept.first_linked.apart here ml ne mv k h1 h2 n (w.keyed k h)
    ];
  }

-- the clause of a node in the list of what became false
pub watch_at : (slots : List (Option ℕ)) (ours theirs : Lists) (s : StoreView) (t : TrailView) (h1 h2 f node : ℕ) → IsWatched slots ours theirs s t h1 h2 → IsLooking t f → IsIn ours (f + 1) node → IsAtWatch ours theirs s t h1 h2 f node
watch_at slots ours theirs s t h1 h2 f node w lk here = at_watch ours theirs s t h1 h2 f node w.kept.first_linked.apart here lk.literal (w.keyed node (w.kept.first_linked.attached node (f + 1) here))

-- what is read of it
pub read_is : (s : StoreView) (key node : ℕ) (c r : List ℕ) → key ≡ node → Holds s node c → ((d : List ℕ) → Holds s key d → r ≡ d) → r ≡ c
read_is s key node c r e h only = only c (subst (λ (k : ℕ). Holds s k c) (sym e) h)

pub other_is : (theirs : Lists) (list other b node : ℕ) → IsApart theirs → (i : ℕ) × StandsAt theirs.lists list i node → other ≡ list - 1 → IsIn theirs (b + 1) node → other ≡ b
other_is theirs list other b node apart h e there = let l : list ≡ b + 1 = one_list theirs list (b + 1) node apart (record { place = h.0; stands = h.1 }) there in omega arith

pub list_is : (theirs : Lists) (list b node : ℕ) → IsApart theirs → (i : ℕ) × StandsAt theirs.lists list i node → IsIn theirs (b + 1) node → list ≡ b + 1
list_is theirs list b node apart h there = one_list theirs list (b + 1) node apart (record { place = h.0; stands = h.1 }) there

pub moved_as : (old new : Lists) (list m node : ℕ) → list ≡ m + 1 → IsMoved old new list node → IsMoved old new (m + 1) node
moved_as old new list m node e h = subst (λ (z : ℕ). IsMoved old new z node) e h

pub looking_added : (slots : List (Option ℕ)) (s : StoreView) (t u : TrailView) (f : ℕ) → IsAdded slots s t u → IsLooking t f → IsLooking u f
looking_added slots s t u f e l =
    let lt : t.head < length t.lits = l.below in
    let len : length u.lits ≡ length t.lits + length e.adds.more = ap length e.adds.lits ∙ length-append t.lits e.adds.more in
    let head : u.head ≡ t.head = e.head in
    record {
      below = omega arith;
      is = ap (λ z. get_or u.lits z 0) head ∙ ap (λ z. get_or z t.head 0) e.adds.lits ∙ get_or_append_left t.lits e.adds.more 0 t.head lt ∙ l.is;
      literal = l.literal;
    }

-- the watch moves to a literal that isn't false
module _ (slots : List (Option ℕ)) (ours theirs new : Lists) (s : StoreView) (t : TrailView) (seen f node : ℕ) (w : IsWatched slots ours theirs s t t.head seen) (lk : IsLooking t f) (here : IsIn ours (f + 1) node) (m : ℕ) (a : IsAtWatch ours theirs s t t.head seen f node) (mc : Contains a.clause m) (mo : m ≢ a.other) (free : ¬ Contains t.lits (opposite m)) (mv : IsMoved ours new (m + 1) node) (word : get_or new.words node 0 ≡ a.other) where
  ml : m + 1 < length ours.lists
  ml = list_exists ours theirs s t t.head seen f node a m mc

  ne : m + 1 ≢ f + 1
  ne e = not_false_differs t f m lk free (omega arith)

  key_moved : (h : ℕ) → IsKeyed new theirs s t h seen node
  key_moved h = at_move ours theirs s t t.head seen f node a h m new mc mo free (moved_there ours new (f + 1) (m + 1) node w.kept.first_linked.apart here ml ne mv) (moved_length ours new (f + 1) (m + 1) node w.kept.first_linked.apart here ml ne mv) word

  pub settle_moved : IsWatched slots new theirs s t t.head seen
  settle_moved = watched_move slots ours theirs new s t t.head seen w (f + 1) (m + 1) node here ml ne mv (key_moved t.head)

  pub step_moved : (k : ℕ) × (2 ≤ k) × (k ≢ f) × (k + 1 < length ours.lists) × IsMoved ours new (k + 1) node × IsKeyed new theirs s t (t.head + 1) seen node
  step_moved = (m, (All-contains IsLiteral a.clause m a.literals mc).0, not_false_differs t f m lk free, ml, mv, key_moved (t.head + 1))

-- the other watch is forced
module _ (slots : List (Option ℕ)) (ours theirs : Lists) (s : StoreView) (t u : TrailView) (seen f node : ℕ) (w : IsWatched slots ours theirs s t t.head seen) (lk : IsLooking t f) (here : IsIn ours (f + 1) node) (l : ℕ) (why : Option ℕ) (e : u ≡ with_lit l why t) (trail : IsTrail u) (high : seen ≤ length t.lits) where
  pub settle_forced : IsWatched slots ours theirs s u u.head seen
  settle_forced =
      let head : u.head ≡ t.head = ap (λ (z : TrailView). z.head) e in
      let lt : t.head < length t.lits = lk.below in
      subst (λ (n : ℕ). IsWatched slots ours theirs s u n seen) (sym head) (watched_push slots ours theirs s t t.head seen w l why u e trail (omega arith) high)

  pub step_forced : IsAdded slots s t u → (b : ℕ) → IsIn theirs (b + 1) node → l ≡ b → IsKeyed ours theirs s u (u.head + 1) seen node
  step_forced added b there is =
      let a = watch_at slots ours theirs s u u.head seen f node settle_forced (looking_added slots s t u f added lk) here in
      let same : a.other + 1 ≡ b + 1 = one_list theirs (a.other + 1) (b + 1) node w.kept.second_linked.apart a.there there in
      let o : l ≡ a.other = omega arith in
      at_keep ours theirs s u u.head seen f node a (u.head + 1) here (guarded_kept u a.clause f a.other trail a.pair.second (subst (Contains u.lits) o (last_true t u l why e)) a.ours_guarded)

-- the word of the node is true: the watch stays
pub step_blocked : (slots : List (Option ℕ)) (ours theirs : Lists) (s : StoreView) (t : TrailView) (seen f node : ℕ) → IsWatched slots ours theirs s t t.head seen → IsLooking t f → IsIn ours (f + 1) node → (2 ≤ get_or ours.words node 0) × Contains t.lits (get_or ours.words node 0) → IsKeyed ours theirs s t (t.head + 1) seen node
step_blocked slots ours theirs s t seen f node w lk here q =
    let a = watch_at slots ours theirs s t t.head seen f node w lk here in
    at_keep ours theirs s t t.head seen f node a (t.head + 1) here (guarded_kept t a.clause f (get_or ours.words node 0) w.trail (a.our_blocker.each q.0) q.1 a.ours_guarded)

-- the word of a node is a literal of a variable of the trail
pub word_within : (slots : List (Option ℕ)) (ours theirs : Lists) (s : StoreView) (t : TrailView) (seen f node : ℕ) → IsWatched slots ours theirs s t t.head seen → IsLooking t f → IsIn ours (f + 1) node → 2 ≤ get_or ours.words node 0 → get_or ours.words node 0 / 2 ≤ t.vars
word_within slots ours theirs s t seen f node w lk here low =
    let a = watch_at slots ours theirs s t t.head seen f node w lk here in
    (All-contains (λ l. (1 ≤ l / 2) × (l / 2 ≤ t.vars)) a.clause (get_or ours.words node 0) a.within (a.our_blocker.each low)).1

-- the word of a node changes
pub keyed_kept : (ours new theirs : Lists) (s : StoreView) (t : TrailView) (g1 g2 k node : ℕ) → KeepsLists ours new node → k ≢ node → IsKeyed ours theirs s t g1 g2 k → IsKeyed new theirs s t g1 g2 k
keyed_kept ours new theirs s t g1 g2 k node e n = keyed_chains ours theirs new theirs s t g1 g2 k (let x : length new.lists ≡ length ours.lists = ap length e.lists in omega arith) (omega arith) (λ list h. in_kept ours new e.lists list k h) (λ list h. h) (e.words k n) refl

-- the word of a node that watches f is its other watch now
module _ (slots : List (Option ℕ)) (ours theirs new : Lists) (s : StoreView) (t : TrailView) (seen f node : ℕ) (w : IsWatched slots ours theirs s t t.head seen) (a : IsAtWatch ours theirs s t t.head seen f node) (here : IsIn ours (f + 1) node) (e : KeepsLists ours new node) (word : get_or new.words node 0 ≡ a.other) where
  own : (h : ℕ) → IsGuarded t h a.clause f → IsKeyed new theirs s t h seen node
  own h g = record {
    clause = a.clause;
    held = a.held;
    within = a.within;
    literals = a.literals;
    our_lists = λ i d il. (let x : length new.lists ≡ length ours.lists = ap length e.lists in rw x (a.our_lists i d il));
    their_lists = a.their_lists;
    our_blocker = subst (IsBlocker a.clause) (sym word) (record { each = λ low. a.pair.second });
    their_blocker = a.their_blocker;
    placed = watched f a.other (in_kept ours new e.lists (f + 1) node here) a.there a.pair g a.theirs_guarded;
  }

  pub worded_watched : IsWatched slots new theirs s t t.head seen
  worded_watched = record {
    kept = record { numbered = w.kept.numbered; first_linked = linked_kept slots ours new e.lists e.apart w.kept.first_linked; second_linked = w.kept.second_linked };
    trail = w.trail;
    keyed = λ k h. elim (cases_eq k node) [
      | inl g ↦ subst (IsKeyed new theirs s t t.head seen) (sym g) (own t.head a.ours_guarded)
      | inr n ↦ keyed_kept ours new theirs s t t.head seen k node e n (w.keyed k h)
    ];
  }

  pub worded_step : Contains t.lits a.other → KeepsLists ours new node × IsKeyed new theirs s t (t.head + 1) seen node
  worded_step k = (e, own (t.head + 1) (guarded_kept t a.clause f a.other w.trail a.pair.second k a.ours_guarded))

-- nothing changes
pub lists_same : (old : Lists) (node : ℕ) → IsApart old → KeepsLists old old node
lists_same old node apart = record { lists = refl; words = λ k n. refl; apart = apart }

-- what a new word changes
pub lists_worded : (old new : Lists) (node word : ℕ) → new ≡ with_word old node word → IsApart new → KeepsLists old new node
lists_worded old new node word e apart = record {
  lists = ap (λ (z : Lists). z.lists) e;
  words = λ k n. ap (λ (z : Lists). get_or z.words k 0) e ∙ get_or-set_other old.words node k word 0 n;
  apart = apart;
}

pub word_now : (old new : Lists) (node word : ℕ) → new ≡ with_word old node word → IsApart old → node < old.nodes → get_or new.words node 0 ≡ word
word_now old new node word e apart lt = let long : length old.words ≡ old.nodes = apart.worded in ap (λ (z : Lists). get_or z.words node 0) e ∙ get_or-set_same old.words node word 0 (omega arith)
