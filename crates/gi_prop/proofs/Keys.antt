use Rattle.std.proofs.Common.{◌≡◌, ℕ, ◌+◌, ◌<◌, ◌≤◌, List, [], ◌∷◌, ◌++◌, length, take, get_or, sym, ap, ◌∙◌, subst, arith}
use Rattle.std.proofs.lemmas.List.{append-nil, length-take-le}
use Rattle.gi_store.specs.StoreView.{StoreView, IsLive, Keeps}
use Rattle.gi_chains.specs.Lists.{Lists}
use Rattle.gi_prop.specs.TrailView.{TrailView, AreLevels, with_level, cut_at}
use Rattle.gi_prop.specs.Attached.{Attached, IsAttached, HasClause, Goes}
use Rattle.gi_prop.specs.Watched.{IsGuarded, IsIn, IsBlocker, IsPlaced, IsKeyed}
use Rattle.gi_prop.specs.Watched.IsPlaced.{watched, aside}
use Rattle.gi_prop.proofs.Guards.{guarded_extends, guarded_level, guarded_cut}

-- guards carried from one trail to another
pub placed_trail : (ours theirs : Lists) (t u : TrailView) (h1 h2 k1 k2 key : ℕ) (clause : List ℕ) → ((w : ℕ) → IsGuarded t h1 clause w → IsGuarded u k1 clause w) → ((w : ℕ) → IsGuarded t h2 clause w → IsGuarded u k2 clause w) → IsPlaced ours theirs t h1 h2 key clause → IsPlaced ours theirs u k1 k2 key clause
placed_trail ours theirs t u h1 h2 k1 k2 key clause f g (watched a b x y p ga gb) = watched a b x y p (f a ga) (g b gb)
placed_trail ours theirs t u h1 h2 k1 k2 key clause f g (aside l x y i) = aside l x y i

pub keyed_trail : (ours theirs : Lists) (s : StoreView) (t u : TrailView) (h1 h2 k1 k2 key : ℕ) → t.vars ≤ u.vars → ((c : List ℕ) (w : ℕ) → IsGuarded t h1 c w → IsGuarded u k1 c w) → ((c : List ℕ) (w : ℕ) → IsGuarded t h2 c w → IsGuarded u k2 c w) → IsKeyed ours theirs s t h1 h2 key → IsKeyed ours theirs s u k1 k2 key
keyed_trail ours theirs s t u h1 h2 k1 k2 key le f g k = record {
  clause = k.clause;
  held = k.held;
  within = λ i d il. let w = k.within i d il in (w.0, omega (arith, w.1));
  literals = k.literals;
  our_lists = k.our_lists;
  their_lists = k.their_lists;
  our_blocker = k.our_blocker;
  their_blocker = k.their_blocker;
  placed = placed_trail ours theirs t u h1 h2 k1 k2 key k.clause (f k.clause) (g k.clause) k.placed;
}

-- nodes that stay where they are, in chains that have as many lists
pub placed_chains : (ours theirs ours' theirs' : Lists) (t : TrailView) (h1 h2 key : ℕ) (clause : List ℕ) → ((l : ℕ) → IsIn ours l key → IsIn ours' l key) → ((l : ℕ) → IsIn theirs l key → IsIn theirs' l key) → IsPlaced ours theirs t h1 h2 key clause → IsPlaced ours' theirs' t h1 h2 key clause
placed_chains ours theirs ours' theirs' t h1 h2 key clause f g (watched a b x y p ga gb) = watched a b (f (a + 1) x) (g (b + 1) y) p ga gb
placed_chains ours theirs ours' theirs' t h1 h2 key clause f g (aside l x y i) = aside l (f l x) (g l y) i

pub keyed_chains : (ours theirs ours' theirs' : Lists) (s : StoreView) (t : TrailView) (h1 h2 key : ℕ) → length ours.lists ≤ length ours'.lists → length theirs.lists ≤ length theirs'.lists → ((l : ℕ) → IsIn ours l key → IsIn ours' l key) → ((l : ℕ) → IsIn theirs l key → IsIn theirs' l key) → get_or ours'.words key 0 ≡ get_or ours.words key 0 → get_or theirs'.words key 0 ≡ get_or theirs.words key 0 → IsKeyed ours theirs s t h1 h2 key → IsKeyed ours' theirs' s t h1 h2 key
keyed_chains ours theirs ours' theirs' s t h1 h2 key le le' f g v w k = record {
  clause = k.clause;
  held = k.held;
  within = k.within;
  literals = k.literals;
  our_lists = λ i d il. omega (arith, k.our_lists i d il);
  their_lists = λ i d il. omega (arith, k.their_lists i d il);
  our_blocker = subst (IsBlocker k.clause) (sym v) k.our_blocker;
  their_blocker = subst (IsBlocker k.clause) (sym w) k.their_blocker;
  placed = placed_chains ours theirs ours' theirs' t h1 h2 key k.clause f g k.placed;
}

-- the two sides exchanged
pub keyed_swap : (ours theirs : Lists) (s : StoreView) (t : TrailView) (h1 h2 key : ℕ) → IsKeyed ours theirs s t h1 h2 key → IsKeyed theirs ours s t h2 h1 key
keyed_swap ours theirs s t h1 h2 key k = record {
  clause = k.clause;
  held = k.held;
  within = k.within;
  literals = k.literals;
  our_lists = k.their_lists;
  their_lists = k.our_lists;
  our_blocker = k.their_blocker;
  their_blocker = k.our_blocker;
  placed = go k.placed;
}
  where
    go : IsPlaced ours theirs t h1 h2 key k.clause → IsPlaced theirs ours t h2 h1 key k.clause
    go (watched a b x y p ga gb) = watched b a y x (record { first = p.second; second = p.first; differ = λ e. p.differ (sym e) }) gb ga
    go (aside l x y i) = aside l y x i

-- the clause of a key, whatever else is known of it
pub keyed_clause : (ours theirs : Lists) (s : StoreView) (t : TrailView) (h1 h2 key : ℕ) → IsKeyed ours theirs s t h1 h2 key → HasClause s t.vars key
keyed_clause ours theirs s t h1 h2 key k = record { clause = k.clause; held = k.held; within = k.within }

pub goes_clause : (p : Attached) (s : StoreView) (t : TrailView) → Goes p s t → (k : ℕ) → IsAttached p k → HasClause s t.vars k
unfolding Goes
goes_clause p s t g k h = keyed_clause p.first p.second s t t.head t.head k (g k h)

pub goes_keyed : (p : Attached) (s : StoreView) (t : TrailView) → Goes p s t → (k : ℕ) → IsAttached p k → IsKeyed p.first p.second s t t.head t.head k
unfolding Goes
goes_keyed p s t g = g

pub goes_by : (p : Attached) (s : StoreView) (t : TrailView) → ((k : ℕ) → IsAttached p k → IsKeyed p.first p.second s t t.head t.head k) → Goes p s t
unfolding Goes
goes_by p s t g = g

-- an edit of the store
pub goes_edit : (p : Attached) (old new : StoreView) (t : TrailView) → Goes p old t → Keeps old new → ((k : ℕ) → IsAttached p k → IsLive new k) → Goes p new t
unfolding Goes
goes_edit p old new t g keeps live = λ k h. let c = g k h in record {
  clause = c.clause;
  held = keeps.each k c.clause c.held (live k h);
  within = c.within;
  literals = c.literals;
  our_lists = c.our_lists;
  their_lists = c.their_lists;
  our_blocker = c.our_blocker;
  their_blocker = c.their_blocker;
  placed = c.placed;
}

pub goes_none : (p : Attached) (s : StoreView) (t : TrailView) → ((k : ℕ) → ¬ IsAttached p k) → Goes p s t
unfolding Goes
goes_none p s t none = λ k h. absurd (none k h)

-- a trail in whose part that was looked at guards are kept; the first trail is the same as that of a view
goes_trail : (a t b : TrailView) → a ≡ t → a.vars ≤ b.vars → ((c : List ℕ) (w : ℕ) → IsGuarded a a.head c w → IsGuarded b b.head c w) → (p : Attached) (s : StoreView) → Goes p s t → Goes p s b
unfolding Goes
goes_trail a t b e le f p s g k h = keyed_trail p.first p.second s a b a.head a.head b.head b.head k le f f (subst (λ (z : TrailView). IsKeyed p.first p.second s z z.head z.head k) (sym e) (g k h))

-- literals more, or none
pub goes_lits : (a t b : TrailView) (more : List ℕ) → a ≡ t → a.vars ≤ b.vars → b.lits ≡ a.lits ++ more → b.level_starts ≡ a.level_starts → b.qheads ≡ a.qheads → b.head ≡ a.head → a.head ≤ length a.lits → (p : Attached) (s : StoreView) → Goes p s t → Goes p s b
goes_lits a t b more e le el em eh head high = goes_trail a t b e le (λ c w g. subst (λ (n : ℕ). IsGuarded b n c w) (sym head) (guarded_extends a b more a.head c w el em eh high g))

pub goes_same : (a t b : TrailView) → a ≡ t → a.vars ≤ b.vars → b.lits ≡ a.lits → b.level_starts ≡ a.level_starts → b.qheads ≡ a.qheads → b.head ≡ a.head → a.head ≤ length a.lits → (p : Attached) (s : StoreView) → Goes p s t → Goes p s b
goes_same a t b e le el em eh head high = goes_lits a t b [] e le (el ∙ sym (append-nil a.lits)) em eh head high

-- a level more
pub goes_level : (a t b : TrailView) → a ≡ t → AreLevels a.lits a.level_starts a.head a.qheads → b.vars ≡ a.vars → b.lits ≡ a.lits → b.level_starts ≡ a.level_starts ++ length a.lits ∷ [] → b.qheads ≡ a.qheads ++ a.head ∷ [] → b.head ≡ a.head → (p : Attached) (s : StoreView) → Goes p s t → Goes p s b
goes_level a t b e v ev el em eh head = goes_trail a t b e (omega arith) (λ c w g.
    let x : IsGuarded (with_level a) a.head c w = guarded_level a c w v.aligned g in
    subst (λ (n : ℕ). IsGuarded b n c w) (sym head) (guarded_extends (with_level a) b [] a.head c w (el ∙ sym (append-nil a.lits)) em eh v.high x))

-- what was there when a level began
pub goes_cut : (a t b : TrailView) (level n : ℕ) → a ≡ t → AreLevels a.lits a.level_starts a.head a.qheads → level < length a.level_starts → a.vars ≤ b.vars → n ≡ get_or a.level_starts level 0 → b.lits ≡ take n a.lits → b.level_starts ≡ take level a.level_starts → b.qheads ≡ take level a.qheads → b.head ≡ get_or a.qheads level 0 → (p : Attached) (s : StoreView) → Goes p s t → Goes p s b
goes_cut a t b level n e v lt le en el em eh head = goes_trail a t b e le (λ c w g.
    let x : IsGuarded (cut_at level a) (cut_at level a).head c w = guarded_cut a c w level v lt g in
    subst (λ (n : ℕ). IsGuarded b n c w) (sym head) (guarded_extends (cut_at level a) b [] (get_or a.qheads level 0) c w (el ∙ ap (λ m. take m a.lits) en ∙ sym (append-nil (take (get_or a.level_starts level 0) a.lits))) em eh (let l : length (take (get_or a.level_starts level 0) a.lits) ≡ get_or a.level_starts level 0 = length-take-le (get_or a.level_starts level 0) a.lits (v.within level lt) in omega (arith, v.seen level lt)) x))

-- a trail that wasn't looked at
pub goes_unseen : (a t b : TrailView) → a ≡ t → a.vars ≤ b.vars → b.head ≡ 0 → (p : Attached) (s : StoreView) → Goes p s t → Goes p s b
goes_unseen a t b e le head = goes_trail a t b e le (λ c w g. record { each = λ place ph. absurd (omega arith) })
