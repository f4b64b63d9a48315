use Rattle.std.proofs.Common.{◌≡◌, ℕ, ◌+◌, ◌<◌, ◌≤◌, List, length, sym, subst, arith, ◌⊎◌, inl, inr}
use Rattle.std.specs.List.{All, Contains}
use Rattle.std.proofs.lemmas.List.Elements.{All-contains}
use Rattle.gi_lit.specs.Literals.{opposite, IsLiteral}
use Rattle.gi_lit.specs.Closure.{IsSettled}
use Rattle.gi_lit.specs.Closure.IsSettled.{has_true}
use Rattle.gi_store.specs.StoreView.{StoreView, Holds}
use Rattle.gi_chains.specs.Lists.{IsApart}
use Rattle.gi_prop.specs.TrailView.{TrailView, IsTrail}
use Rattle.gi_prop.specs.Attached.{Attached, IsAttached, Goes, Watches, HasWatches, HasTwoLeft, AreOfClause, AreWatched, AreSettled, IsConflict}
use Rattle.gi_prop.specs.Watched.{IsPair, IsPlaced, IsKeyed}
use Rattle.gi_prop.specs.Watched.IsPlaced.{watched, aside}
use Rattle.gi_prop.specs.Watching.{AreKept, IsWatched, LeavesAside, ArePassed}
use Rattle.gi_prop.proofs.Guards.{false_true, watched_settled}
use Rattle.gi_prop.proofs.Moves.{one_list}
use Rattle.gi_prop.proofs.Keys.{goes_keyed, goes_by}
use Rattle.gi_prop.proofs.Settling.{aside_low}
use Rattle.gi_prop.proofs.Slots.{attached_at, attached_by, attached_same}
use Rattle.gi_prop.proofs.Watches.{one_left}

-- what a propagator that goes with a store and a trail keeps
pub watched_goes : (p : Attached) (s : StoreView) (t : TrailView) → AreKept p.slots p.first p.second → IsTrail t → Goes p s t → IsWatched p.slots p.first p.second s t t.head t.head
watched_goes p s t kept trail g = record { kept = kept; trail = trail; keyed = λ k h. goes_keyed p s t g k (attached_by p k h) }

pub goes_watched : (p : Attached) (s : StoreView) (t : TrailView) → IsWatched p.slots p.first p.second s t t.head t.head → Goes p s t
goes_watched p s t w = goes_by p s t (λ k h. w.keyed k (attached_at p k h))

-- no key has two clauses in a store
abbrev pub HasOnly : StoreView → Type 0
HasOnly s = (k : ℕ) (c d : List ℕ) → Holds s k c → Holds s k d → c ≡ d

module _ (p : Attached) (s : StoreView) (t : TrailView) (only : HasOnly s) (w : IsWatched p.slots p.first p.second s t t.head t.head) (all : length t.lits ≤ t.head) (passed : (list : ℕ) → list < 3 → ArePassed p.first s t.lits list) where
  -- each attached clause is settled
  pub are_settled : AreSettled p s t.lits
  are_settled = record { each = λ key clause h held. let k = w.keyed key (attached_at p key h) in subst (IsSettled t.lits) (only key k.clause clause k.held held) (go key k.clause k.held k.placed) }
    where
      go : (key : ℕ) (c : List ℕ) → Holds s key c → IsPlaced p.first p.second t t.head t.head key c → IsSettled t.lits c
      go key c held (watched a b x y pr ga gb) = watched_settled t c a b all pr ga gb
      go key c held (aside l x y i) =
          let r = (passed l (aside_low c l i)).each key x in
          subst (IsSettled t.lits) (only key r.clause c r.held held) (has_true r.only.lit r.only.stands r.only.true)

  pub are_watched : AreWatched p s t.lits
  are_watched = record { two = two'; true = true' }
    where
      pick : (key : ℕ) (c : List ℕ) → Holds s key c → All IsLiteral c → IsPlaced p.first p.second t t.head t.head key c → HasTwoLeft t.lits c → HasWatches p key
      pick key c held lit (watched a b x y pr ga gb) h = record { a = a; b = b; watches = record { first = x; second = y; first_literal = All-contains IsLiteral c a lit pr.first; second_literal = All-contains IsLiteral c b lit pr.second } }
      pick key c held lit (aside l x y i) h =
          let r = (passed l (aside_low c l i)).each key x in
          absurd (one_left t.lits r.clause r.only.lit r.only.others (subst (HasTwoLeft t.lits) (sym (only key r.clause c r.held held)) h))

      two' : (key : ℕ) (clause : List ℕ) → IsAttached p key → Holds s key clause → HasTwoLeft t.lits clause → HasWatches p key
      two' key clause h held left =
          let k = w.keyed key (attached_at p key h) in
          pick key k.clause k.held k.literals k.placed (subst (HasTwoLeft t.lits) (sym (only key k.clause clause k.held held)) left)

      go : (key a b : ℕ) (c : List ℕ) → IsPlaced p.first p.second t t.head t.head key c → Watches p key a b → Contains t.lits (opposite a) ⊎ Contains t.lits (opposite b) → (l : ℕ) × Contains c l × Contains t.lits l
      go key a b c (watched u v x y pr ga gb) ws (inl f) =
          let same : u + 1 ≡ a + 1 = one_list p.first (u + 1) (a + 1) key w.kept.first_linked.apart x ws.first in
          let e : a ≡ u = omega arith in
          false_true t c u all ga (subst (λ (z : ℕ). Contains t.lits (opposite z)) e f)
      go key a b c (watched u v x y pr ga gb) ws (inr f) =
          let same : v + 1 ≡ b + 1 = one_list p.second (v + 1) (b + 1) key w.kept.second_linked.apart y ws.second in
          let e : b ≡ v = omega arith in
          false_true t c v all gb (subst (λ (z : ℕ). Contains t.lits (opposite z)) e f)
      go key a b c (aside l x y i) ws f =
          let same : l ≡ a + 1 = one_list p.first l (a + 1) key w.kept.first_linked.apart x ws.first in
          let small : l < 3 = aside_low c l i in
          let big = ws.first_literal in
          absurd (omega (arith, big.0))

      true' : (key a b : ℕ) (clause : List ℕ) → IsAttached p key → Holds s key clause → Watches p key a b → Contains t.lits (opposite a) ⊎ Contains t.lits (opposite b) → (l : ℕ) × Contains clause l × Contains t.lits l
      true' key a b clause h held ws f =
          let k = w.keyed key (attached_at p key h) in
          subst (λ (c : List ℕ). (l : ℕ) × Contains c l × Contains t.lits l) (only key k.clause clause k.held held) (go key a b k.clause k.placed ws f)

-- what watches two literals does so still where no node came into a list that is no literal's
pub watches_stay : (p q : Attached) (s : StoreView) (t : TrailView) (h1 h2 key : ℕ) → IsApart p.first → IsWatched q.slots q.first q.second s t h1 h2 → IsAttached q key → LeavesAside p.first q.first → HasWatches p key → HasWatches q key
watches_stay p q s t h1 h2 key apart w h x ws = go (w.keyed key (attached_at q key h))
  where
    pick : (k : IsKeyed q.first q.second s t h1 h2 key) → IsPlaced q.first q.second t h1 h2 key k.clause → HasWatches q key
    pick k (watched a b y z pr ga gb) = record { a = a; b = b; watches = record { first = y; second = z; first_literal = All-contains IsLiteral k.clause a k.literals pr.first; second_literal = All-contains IsLiteral k.clause b k.literals pr.second } }
    pick k (aside l y z i) =
        let small : l < 3 = aside_low k.clause l i in
        let same : l ≡ ws.a + 1 = one_list p.first l (ws.a + 1) key apart (x.each l key small y) ws.watches.first in
        let big = ws.watches.first_literal in
        absurd (omega (arith, big.0))

    go : IsKeyed q.first q.second s t h1 h2 key → HasWatches q key
    go k = pick k k.placed

-- the two are different literals of the clause
pub watches_of : (p : Attached) (s : StoreView) (t : TrailView) (key a b : ℕ) → IsApart p.first → IsApart p.second → IsAttached p key → Goes p s t → Watches p key a b → AreOfClause s key a b
watches_of p s t key a b fa sa h g ws = go (goes_keyed p s t g key h)
  where
    pick : (k : IsKeyed p.first p.second s t t.head t.head key) → IsPlaced p.first p.second t t.head t.head key k.clause → AreOfClause s key a b
    pick k (watched u v x y pr ga gb) =
        let e : u + 1 ≡ a + 1 = one_list p.first (u + 1) (a + 1) key fa x ws.first in
        let f : v + 1 ≡ b + 1 = one_list p.second (v + 1) (b + 1) key sa y ws.second in
        let eu : u ≡ a = omega arith in
        let ev : v ≡ b = omega arith in
        record { clause = k.clause; held = k.held; pair = subst (λ (z : ℕ). IsPair k.clause a z) ev (subst (λ (z : ℕ). IsPair k.clause z v) eu pr) }
    pick k (aside l x y i) =
        let small : l < 3 = aside_low k.clause l i in
        let same : l ≡ a + 1 = one_list p.first l (a + 1) key fa x ws.first in
        let big = ws.first_literal in
        absurd (omega (arith, big.0))

    go : IsKeyed p.first p.second s t t.head t.head key → AreOfClause s key a b
    go k = pick k k.placed

-- the keys alone matter
pub conflict_keys : (p q : Attached) (s : StoreView) (lits : List ℕ) (key : ℕ) → q.slots ≡ p.slots → IsConflict p s lits key → IsConflict q s lits key
conflict_keys p q s lits key e x = record { attached = attached_same p q key e x.attached; clause = x.clause; held = x.held; falsified = x.falsified }
