use Rattle.std.proofs.Common.{◌≡◌, ◌≢◌, ℕ, zero, suc, ◌+◌, ◌-◌, ◌<◌, ◌≤◌, List, [], ◌∷◌, ◌++◌, length, get_or, set, replicate, max, refl, sym, ap, ◌∙◌, subst, arith, ◌⊎◌, inl, inr, length-append, length-set, get_or-set_other, get_or-set_same}
use Rattle.std.proofs.lemmas.Bool.{cases_eq, cases_lt}
use Rattle.std.proofs.lemmas.List.{length-replicate, get_or_past}
use Rattle.gi_chains.specs.Lists.{Lists, items_at, StandsAt, IsFree, IsApart, with_list, with_word, grown}
use Rattle.gi_prop.specs.Watched.{IsIn}
use Rattle.gi_prop.specs.Watching.{HasMore}

none_there : {X : Type 0} (d : X) (m i : ℕ) → get_or (replicate m d) i d ≡ d
none_there d zero i = refl
none_there d (suc m) zero = refl
none_there d (suc m) (suc i) = none_there d m i

more_same : {X : Type 0} (d : X) (xs : List X) (m i : ℕ) → get_or (xs ++ replicate m d) i d ≡ get_or xs i d
more_same d [] m i = none_there d m i
more_same d (x ∷ xs) m zero = refl
more_same d (x ∷ xs) m (suc i) = more_same d xs m i

-- empty lists more
module _ (lists : List (List ℕ)) (m : ℕ) where
  stands_more : (l i k : ℕ) → StandsAt lists l i k → StandsAt (lists ++ replicate m []) l i k
  stands_more l i k s =
      let same : items_at (lists ++ replicate m []) l ≡ items_at lists l = more_same [] lists m l in
      record {
        list = (let x = s.list in omega (arith, length-append lists (replicate m [])));
        place = subst (λ (z : List ℕ). i < length z) (sym same) s.place;
        item = ap (λ z. get_or z i 0) same ∙ s.item;
      }

  stood : (l i k : ℕ) → StandsAt (lists ++ replicate m []) l i k → StandsAt lists l i k
  stood l i k s =
      let same : items_at (lists ++ replicate m []) l ≡ items_at lists l = more_same [] lists m l in
      let place : i < length (items_at lists l) = subst (λ (z : List ℕ). i < length z) same s.place in
      record {
        list = elim (cases_lt l (length lists)) [ inl lt ↦ lt | inr le ↦ absurd (let e : length (items_at lists l) ≡ 0 = ap length (get_or_past lists l [] le) in omega arith) ];
        place = place;
        item = sym (ap (λ z. get_or z i 0) same) ∙ s.item;
      }

pub more_grown : (old new : Lists) (lists nodes : ℕ) → new ≡ grown old lists nodes → IsApart new → HasMore old new
more_grown old new lists nodes e apart = record {
  lists = (let x : length new.lists ≡ length (old.lists ++ replicate (lists - length old.lists) []) = ap (λ (z : Lists). length z.lists) e in omega (arith, length-append old.lists (replicate (lists - length old.lists) [])));
  kept = λ l k h. record { place = h.place; stands = subst (λ (z : Lists). StandsAt z.lists l h.place k) (sym e) (stands_more old.lists (lists - length old.lists) l h.place k h.stands) };
  others = λ l k h. record { place = h.place; stands = stood old.lists (lists - length old.lists) l h.place k (subst (λ (z : Lists). StandsAt z.lists l h.place k) e h.stands) };
  words = λ k. ap (λ (z : Lists). get_or z.words k 0) e ∙ more_same 0 old.words (nodes - old.nodes) k;
  apart = apart;
}

pub more_same_lists : (old new : Lists) → new ≡ old → IsApart old → HasMore old new
more_same_lists old new e apart = subst (HasMore old) (sym e) (record { lists = omega arith; kept = λ l k h. h; others = λ l k h. h; words = λ k. refl; apart = apart })

pub grown_lists : (old new : Lists) (lists nodes : ℕ) → new ≡ grown old lists nodes → lists ≤ length new.lists
grown_lists old new lists nodes e = let x : length new.lists ≡ length (old.lists ++ replicate (lists - length old.lists) []) = ap (λ (z : Lists). length z.lists) e in omega (arith, length-append old.lists (replicate (lists - length old.lists) []), length-replicate (lists - length old.lists) (let o : List ℕ = [] in o))

pub grown_node : (old new : Lists) (lists node : ℕ) → new ≡ grown old lists (node + 1) → node < new.nodes
grown_node old new lists node e = let x : new.nodes ≡ max old.nodes (node + 1) = ap (λ (z : Lists). z.nodes) e in omega arith

-- a node that stood nowhere stands at the front of a list, and the others stand where they stood, with their words
pub record IsPut (old new : Lists) (list node : ℕ) : Type 0 where
  pub there : IsIn new list node
  pub others : (l k : ℕ) → IsIn old l k → IsIn new l k
  pub came : (l k : ℕ) → IsIn new l k → ((k ≡ node) × (l ≡ list)) ⊎ ((k ≢ node) × IsIn old l k)
  pub lists : length new.lists ≡ length old.lists
  pub words : (k : ℕ) → k ≢ node → get_or new.words k 0 ≡ get_or old.words k 0
  pub apart : IsApart new

module _ (old : Lists) (m key : ℕ) (ml : m < length old.lists) (free : IsFree old.lists key) where
  abbrev put : List (List ℕ)
  put = set old.lists m (key ∷ items_at old.lists m)

  here : items_at put m ≡ key ∷ items_at old.lists m
  here = get_or-set_same old.lists m (key ∷ items_at old.lists m) [] ml

  other : (a : ℕ) → a ≢ m → items_at put a ≡ items_at old.lists a
  other a n = get_or-set_other old.lists m a (key ∷ items_at old.lists m) [] n

  placed : (a i k : ℕ) (ys : List ℕ) → a < length old.lists → items_at put a ≡ ys → i < length ys → get_or ys i 0 ≡ k → StandsAt put a i k
  placed a i k ys al e il at = record {
    list = subst (λ (z : ℕ). a < z) (sym (length-set old.lists m (key ∷ items_at old.lists m))) al;
    place = subst (λ (z : List ℕ). i < length z) (sym e) il;
    item = ap (λ z. get_or z i 0) e ∙ at;
  }

  stands_put : StandsAt put m zero key
  stands_put = placed m zero key (key ∷ items_at old.lists m) ml here (omega arith) refl

  stays_put : (a i k : ℕ) → StandsAt old.lists a i k → (j : ℕ) × StandsAt put a j k
  stays_put a i k s = elim (cases_eq a m) [
    | inl e ↦
        let t : StandsAt old.lists m i k = subst (λ (z : ℕ). StandsAt old.lists z i k) e s in
        let il : i < length (items_at old.lists m) = t.place in
        (suc i, subst (λ (z : ℕ). StandsAt put z (suc i) k) (sym e) (placed m (suc i) k (key ∷ items_at old.lists m) ml here (omega arith) t.item))
    | inr n ↦ (i, placed a i k (items_at old.lists a) s.list (other a n) s.place s.item)
  ]

  not_key : (a i k : ℕ) → StandsAt old.lists a i k → k ≢ key
  not_key a i k s e = free a i (subst (λ (z : ℕ). StandsAt old.lists a i z) e s)

  in_m : (i k : ℕ) → i < length (key ∷ items_at old.lists m) → get_or (key ∷ items_at old.lists m) i 0 ≡ k → (k ≡ key) ⊎ ((j : ℕ) × StandsAt old.lists m j k)
  in_m zero k lt at = inl (sym at)
  in_m (suc i) k lt at = inr (i, record { list = ml; place = omega arith; item = at })

  came_put : (a i k : ℕ) → StandsAt put a i k → ((k ≡ key) × (a ≡ m)) ⊎ ((k ≢ key) × ((j : ℕ) × StandsAt old.lists a j k))
  came_put a i k s = elim (cases_eq a m) [
    | inl e ↦
        let t : StandsAt put m i k = subst (λ (z : ℕ). StandsAt put z i k) e s in
        elim (in_m i k (subst (λ (z : List ℕ). i < length z) here t.place) (sym (ap (λ z. get_or z i 0) here) ∙ t.item)) [
          | inl same ↦ inl (same, e)
          | inr o ↦ inr (not_key m o.0 k o.1, (o.0, subst (λ (z : ℕ). StandsAt old.lists z o.0 k) (sym e) o.1))
        ]
    | inr n ↦
        let t : StandsAt old.lists a i k = record {
          list = subst (λ (z : ℕ). a < z) (length-set old.lists m (key ∷ items_at old.lists m)) s.list;
          place = subst (λ (z : List ℕ). i < length z) (other a n) s.place;
          item = sym (ap (λ z. get_or z i 0) (other a n)) ∙ s.item;
        } in
        inr (not_key a i k t, (i, t))
  ]

  pub put_is : (new : Lists) → new.lists ≡ put → ((k : ℕ) → k ≢ key → get_or new.words k 0 ≡ get_or old.words k 0) → IsApart new → IsPut old new m key
  put_is new e words apart = record {
    there = record { place = zero; stands = subst (λ (z : List (List ℕ)). StandsAt z m zero key) (sym e) stands_put };
    others = λ l k h. let r = stays_put l h.place k h.stands in record { place = r.0; stands = subst (λ (z : List (List ℕ)). StandsAt z l r.0 k) (sym e) r.1 };
    came = λ l k h. elim (came_put l h.place k (subst (λ (z : List (List ℕ)). StandsAt z l h.place k) e h.stands)) [
      | inl r ↦ inl r
      | inr r ↦ inr (r.0, record { place = r.1.0; stands = r.1.1 })
    ];
    lists = ap length e ∙ length-set old.lists m (key ∷ items_at old.lists m);
    words = words;
    apart = apart;
  }

-- the same where the node is the key's number, and has another word
pub put_as : (old mid now : Lists) (m key node word : ℕ) → node ≡ key → m < length old.lists → IsFree old.lists key → mid ≡ with_list old m (node ∷ items_at old.lists m) → now ≡ with_word mid node word → IsApart now → IsPut old now m key
put_as old mid now m key node word e ml free after worded apart = put_is old m key ml free now
    (ap (λ (z : Lists). z.lists) worded ∙ ap (λ (z : Lists). z.lists) after ∙ ap (λ (n : ℕ). set old.lists m (n ∷ items_at old.lists m)) e)
    (λ k ne. ap (λ (z : Lists). get_or z.words k 0) worded ∙ get_or-set_other mid.words node k word 0 (λ g. ne (g ∙ e)) ∙ ap (λ (z : Lists). get_or z.words k 0) after)
    apart

-- the word that the node has then
pub put_word : (mid now : Lists) (key node word : ℕ) → node ≡ key → node < mid.nodes → IsApart mid → now ≡ with_word mid node word → get_or now.words key 0 ≡ word
put_word mid now key node word e lt apart worded =
    let long : length mid.words ≡ mid.nodes = apart.worded in
    ap (λ (z : Lists). get_or z.words key 0) worded ∙ ap (λ (n : ℕ). get_or (set mid.words node word) n 0) (sym e) ∙ get_or-set_same mid.words node word 0 (omega arith)
