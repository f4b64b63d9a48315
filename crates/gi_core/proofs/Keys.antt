-- Which keys are attached after an edit.
use Rattle.std.proofs.Common.{◌≡◌, ℕ, zero, suc, Some, None, ◌+◌, ◌-◌, ◌/◌, ◌<◌, ◌≤◌, cond, List, [], ◌∷◌, ◌++◌, length, drop, map, get_or, refl, sym, ap, ◌∙◌, subst, arith, inl, inr, append_assoc, add-one, drop-cons, length-append}
use Rattle.std.specs.List.{Contains, slice_get}
use Rattle.std.proofs.lemmas.Bool.{ne_eqb}
use Rattle.std.proofs.lemmas.List.{map-append, length-map}
use Rattle.std.proofs.lemmas.List.Elements.{Contains-append_left, Contains-append_right, Contains-append_cases}
use Rattle.gi_lit.specs.Lists.{IsDistinct}
use Rattle.gi_lit.proofs.Distinct.{Contains-cons_cases}
use Rattle.gi_lit.specs.Problem.{negatives}
use Rattle.gi_store.specs.StoreView.{Entry, StoreView, known_of, full_entry, entries, keys_of, at_place, Holds, IsLive, Keeps, with_plain, with_under, without_guard_of, trimmed}
use Rattle.gi_store.proofs.Lists.{Contains-head, Contains-insert}
use Rattle.gi_store.proofs.Reading.{get_right}
use Rattle.gi_store.proofs.Entries.{under_split}
use Rattle.gi_prop.specs.Attached.{IsAttached, Attaches, Detaches}
use Rattle.gi_cdcl.specs.Laws.{EditsKeepSearches}
use Rattle.gi_cdcl.specs.Searching.{Searching, MatchesStore, HasAll}
use Rattle.gi_core.specs.Joined.{IsJoined, AreAttached, HasKeys, keys}

abbrev pub key_of : Entry → ℕ
key_of e = e.key

Contains-cons : {X : Type 0} (y x : X) (xs : List X) → Contains xs x → Contains (y ∷ xs) x
Contains-cons y x xs c = Contains-append_right (y ∷ []) xs x c

-- a number taken out of the middle
Contains-skip : (xs ys : List ℕ) (k j : ℕ) → Contains (xs ++ ys) j → Contains (xs ++ k ∷ ys) j
Contains-skip xs ys k j c = elim (Contains-append_cases xs ys j c) [ inl a ↦ Contains-append_left xs (k ∷ ys) j a | inr b ↦ Contains-append_right xs (k ∷ ys) j (Contains-cons k j ys b) ]

pub Contains-middle : (xs ys : List ℕ) (k : ℕ) → Contains (xs ++ k ∷ ys) k
Contains-middle xs ys k = Contains-append_right xs (k ∷ ys) k (Contains-head k ys)

IsDistinct-without : (xs ys : List ℕ) (k : ℕ) → IsDistinct (xs ++ k ∷ ys) → IsDistinct (xs ++ ys)
IsDistinct-without [] ys k d = d.1
IsDistinct-without (x ∷ xs) ys k d = (λ c. d.0 (Contains-skip xs ys k x c), IsDistinct-without xs ys k d.1)

middle_apart : (xs ys : List ℕ) (k : ℕ) → IsDistinct (xs ++ k ∷ ys) → ¬ Contains (xs ++ ys) k
middle_apart [] ys k d = d.0
middle_apart (x ∷ xs) ys k d = λ c. elim (Contains-cons_cases x (xs ++ ys) k c) [
  | inl e ↦ d.0 (subst (Contains (xs ++ k ∷ ys)) (sym e) (Contains-middle xs ys k))
  | inr r ↦ middle_apart xs ys k d.1 r
]

-- one key more, and one less
attached_more : (s t : Searching) (xs ys : List ℕ) (k : ℕ) → AreAttached s (xs ++ ys) → Attaches k s.attached t.attached → AreAttached t (xs ++ k ∷ ys)
attached_more s t xs ys k h a = record { each = λ j. (there j, back j) }
  where
    there : (j : ℕ) → IsAttached t.attached j → Contains (xs ++ k ∷ ys) j
    there j i = elim (a.others j i) [ inl e ↦ subst (Contains (xs ++ k ∷ ys)) (sym e) (Contains-middle xs ys k) | inr o ↦ Contains-skip xs ys k j ((h.each j).0 o) ]

    back : (j : ℕ) → Contains (xs ++ k ∷ ys) j → IsAttached t.attached j
    back j c = elim (Contains-insert xs ys k j c) [ inl e ↦ subst (IsAttached t.attached) e a.there | inr r ↦ a.kept j ((h.each j).1 r) ]

attached_less : (s t : Searching) (xs ys : List ℕ) (k : ℕ) → IsDistinct (xs ++ k ∷ ys) → AreAttached s (xs ++ k ∷ ys) → Detaches k s.attached t.attached → AreAttached t (xs ++ ys)
attached_less s t xs ys k u h d = record { each = λ j. (there j, back j) }
  where
    there : (j : ℕ) → IsAttached t.attached j → Contains (xs ++ ys) j
    there j i = elim (Contains-insert xs ys k j ((h.each j).0 (d.others j i))) [ inl e ↦ absurd (d.gone (subst (IsAttached t.attached) (sym e) i)) | inr r ↦ r ]

    back : (j : ℕ) → Contains (xs ++ ys) j → IsAttached t.attached j
    back j c = d.kept j (λ e. middle_apart xs ys k u (subst (Contains (xs ++ ys)) e c)) ((h.each j).1 (Contains-skip xs ys k j c))

pub keys_split : (xs ys : List Entry) (e : Entry) → keys (xs ++ e ∷ ys) ≡ keys xs ++ e.key ∷ keys ys
keys_split xs ys e = map-append key_of xs (e ∷ ys)

pub has_less : (s t : Searching) (xs ys : List Entry) (e : Entry) → HasKeys s (xs ++ e ∷ ys) → Detaches e.key s.attached t.attached → HasKeys t (xs ++ ys)
has_less s t xs ys e h d =
    let u = subst IsDistinct (keys_split xs ys e) h.distinct in
    let a = subst (AreAttached s) (keys_split xs ys e) h.attached in
    record {
      attached = subst (AreAttached t) (sym (map-append key_of xs ys)) (attached_less s t (keys xs) (keys ys) e.key u a d);
      distinct = subst IsDistinct (sym (map-append key_of xs ys)) (IsDistinct-without (keys xs) (keys ys) e.key u);
    }

pub has_all : (s : Searching) (h : StoreView) → HasAll s h → AreAttached s (keys_of h)
has_all s h a = record { each = λ k. (a.only k, a.all k) }

pub all_has : (s : Searching) (h : StoreView) → AreAttached s (keys_of h) → HasAll s h
all_has s h a = record { all = λ k l. (a.each k).1 l; only = λ k i. (a.each k).0 i }

-- a store with other clauses, none of them new and none of them changed
pub joined_after : (law : EditsKeepSearches) (s : Searching) (old new : StoreView) → MatchesStore s old → Keeps old new → AreAttached s (keys_of new) → IsJoined s new
joined_after law s old new g k a = record { goes = law s old new g k (λ i c. (a.each i).0 c); all = all_has s new a }

-- with one clause more
plain_split : (key : ℕ) (c : List ℕ) (h : StoreView) → entries (with_plain key c h) ≡ h.plain ++ record { key = key; lits = c } ∷ (map full_entry h.groups ++ h.learnt)
plain_split key c h = append_assoc h.plain (record { key = key; lits = c } ∷ []) (map full_entry h.groups ++ h.learnt)

pub attached_plain : (s t : Searching) (h : StoreView) (key : ℕ) (c : List ℕ) → AreAttached s (keys_of h) → Attaches key s.attached t.attached → AreAttached t (keys_of (with_plain key c h))
attached_plain s t h key c a e =
    let r : List Entry = map full_entry h.groups ++ h.learnt in
    let x : Entry = record { key = key; lits = c } in
    subst (AreAttached t) (sym (ap keys (plain_split key c h) ∙ keys_split h.plain r x)) (attached_more s t (keys h.plain) (keys r) key (subst (AreAttached s) (map-append key_of h.plain r) a) e)

pub attached_under : (s t : Searching) (h : StoreView) (key : ℕ) (gs c : List ℕ) → AreAttached s (keys_of h) → Attaches key s.attached t.attached → AreAttached t (keys_of (with_under key gs c h))
attached_under s t h key gs c a e =
    let r : List Entry = h.plain ++ map full_entry h.groups in
    let x : Entry = record { key = key; lits = c ++ negatives gs } in
    subst (AreAttached t) (sym (ap keys (under_split key gs c h) ∙ keys_split r h.learnt x)) (attached_more s t (keys r) (keys h.learnt) key (subst (AreAttached s) (ap keys (sym (append_assoc h.plain (map full_entry h.groups) h.learnt)) ∙ map-append key_of r h.learnt) a) e)

pub live_plain : (h : StoreView) (key : ℕ) (c : List ℕ) (k : ℕ) → IsLive h k → IsLive (with_plain key c h) k
live_plain h key c k l =
    let r : List Entry = map full_entry h.groups ++ h.learnt in
    subst (λ ks. Contains ks k) (sym (ap keys (plain_split key c h) ∙ keys_split h.plain r (record { key = key; lits = c }))) (Contains-skip (keys h.plain) (keys r) key k (subst (λ ks. Contains ks k) (map-append key_of h.plain r) l))

pub live_under : (h : StoreView) (key : ℕ) (gs c : List ℕ) (k : ℕ) → IsLive h k → IsLive (with_under key gs c h) k
live_under h key gs c k l =
    let r : List Entry = h.plain ++ map full_entry h.groups in
    subst (λ ks. Contains ks k) (sym (ap keys (under_split key gs c h) ∙ keys_split r h.learnt (record { key = key; lits = c ++ negatives gs }))) (Contains-skip (keys r) (keys h.learnt) key k (subst (λ ks. Contains ks k) (ap keys (sym (append_assoc h.plain (map full_entry h.groups) h.learnt)) ∙ map-append key_of r h.learnt) l))

pub entry_count : (h : StoreView) → length (entries h) ≡ length h.plain + length h.groups + length h.learnt
entry_count h = omega (arith, length-append h.plain (map full_entry h.groups ++ h.learnt), length-append (map full_entry h.groups) h.learnt, length-map h.groups full_entry)

-- without the first so many learnt clauses
abbrev pub later : StoreView → ℕ → List Entry
later h i = (h.plain ++ map full_entry h.groups) ++ drop i h.learnt

pub later_start : (s : Searching) (h : StoreView) → HasAll s h → IsDistinct (keys_of h) → HasKeys s (later h 0)
later_start s h a d = let e : entries h ≡ later h 0 = sym (append_assoc h.plain (map full_entry h.groups) h.learnt) in subst (HasKeys s) e (record { attached = has_all s h a; distinct = d })

later_now : (h : StoreView) (i : ℕ) (e : Entry) → i < length h.learnt → e ≡ get_or h.learnt i e → later h i ≡ (h.plain ++ map full_entry h.groups) ++ e ∷ drop (i + 1) h.learnt
later_now h i e lt q = ap (λ r. (h.plain ++ map full_entry h.groups) ++ r) (drop-cons h.learnt i e lt ∙ ap (λ x. x ∷ drop (suc i) h.learnt) (sym q) ∙ rw add-one refl)

pub later_attached : (s : Searching) (h : StoreView) (i : ℕ) (e : Entry) → i < length h.learnt → e ≡ get_or h.learnt i e → HasKeys s (later h i) → IsAttached s.attached e.key
later_attached s h i e lt q k =
    let r : List Entry = h.plain ++ map full_entry h.groups in
    let a = subst (HasKeys s) (later_now h i e lt q) k in
    ((subst (AreAttached s) (keys_split r (drop (i + 1) h.learnt) e) a.attached).each e.key).1 (Contains-middle (keys r) (keys (drop (i + 1) h.learnt)) e.key)

pub later_drop : (s t : Searching) (h : StoreView) (i : ℕ) (e : Entry) → i < length h.learnt → e ≡ get_or h.learnt i e → HasKeys s (later h i) → Detaches e.key s.attached t.attached → HasKeys t (later h (i + 1))
later_drop s t h i e lt q k d = has_less s t (h.plain ++ map full_entry h.groups) (drop (i + 1) h.learnt) e (subst (HasKeys s) (later_now h i e lt q) k) d

pub later_end : (s : Searching) (h : StoreView) → HasKeys s (later h (length h.learnt / 2)) → AreAttached s (keys_of (trimmed h))
later_end s h k = subst (AreAttached s) (ap keys (append_assoc h.plain (map full_entry h.groups) (drop (length h.learnt / 2) h.learnt))) k.attached

-- the store grows, and then takes a clause
pub live_grown : (s : Searching) (h h1 : StoreView) (n : ℕ) → IsJoined s h → h1 ≡ record h { vars = n } → (k : ℕ) → IsAttached s.attached k → IsLive h1 k
live_grown s h h1 n j e k a = subst (λ (x : StoreView). IsLive x k) (sym e) (j.all.only k a)

pub put_goes : (law : EditsKeepSearches) (s : Searching) (h h1 h2 : StoreView) (n key : ℕ) (c : List ℕ) → IsJoined s h → h1 ≡ record h { vars = n } → Keeps h h1 → h2 ≡ with_plain key c h1 → Keeps h1 h2 → MatchesStore s h2
put_goes law s h h1 h2 n key c j e1 k1 e2 k2 =
    law s h1 h2 (law s h h1 j.goes k1 (live_grown s h h1 n j e1)) k2
    (λ k a. subst (λ (x : StoreView). IsLive x k) (sym e2) (live_plain h1 key c k (live_grown s h h1 n j e1 k a)))

pub put_joined : (s t : Searching) (h h1 h2 : StoreView) (n key : ℕ) (c : List ℕ) → IsJoined s h → h1 ≡ record h { vars = n } → h2 ≡ with_plain key c h1 → Attaches key s.attached t.attached → MatchesStore t h2 → IsJoined t h2
put_joined s t h h1 h2 n key c j e1 e2 a g =
    let e = sym (e2 ∙ ap (with_plain key c) e1) in
    record {
      goes = g;
      all = all_has t h2 (subst (λ (x : StoreView). AreAttached t (keys_of x)) e (attached_plain s t (record h { vars = n }) key c (has_all s h j.all) a));
    }

pub under_goes : (law : EditsKeepSearches) (s : Searching) (h h1 h2 : StoreView) (n key : ℕ) (gs c : List ℕ) → IsJoined s h → h1 ≡ record h { vars = n } → Keeps h h1 → h2 ≡ with_under key gs c h1 → Keeps h1 h2 → MatchesStore s h2
under_goes law s h h1 h2 n key gs c j e1 k1 e2 k2 =
    law s h1 h2 (law s h h1 j.goes k1 (live_grown s h h1 n j e1)) k2
    (λ k a. subst (λ (x : StoreView). IsLive x k) (sym e2) (live_under h1 key gs c k (live_grown s h h1 n j e1 k a)))

pub under_joined : (s t : Searching) (h h1 h2 : StoreView) (n key : ℕ) (gs c : List ℕ) → IsJoined s h → h1 ≡ record h { vars = n } → h2 ≡ with_under key gs c h1 → Attaches key s.attached t.attached → MatchesStore t h2 → IsJoined t h2
under_joined s t h h1 h2 n key gs c j e1 e2 a w =
    let e = sym (e2 ∙ ap (with_under key gs c) e1) in
    record {
      goes = w;
      all = all_has t h2 (subst (λ (x : StoreView). AreAttached t (keys_of x)) e (attached_under s t (record h { vars = n }) key gs c (has_all s h j.all) a));
    }

-- the entry whose key was read at a place
pub record Got (xs : List Entry) (i key : ℕ) : Type 0 where
  pub entry : Entry
  pub within : i < length xs
  pub is : entry ≡ get_or xs i entry
  pub key_is : entry.key ≡ key

got : (xs : List Entry) (i key : ℕ) → Some key ≡ slice_get (keys xs) i → Got xs i key
got [] i key q = absurd cc
got (x ∷ xs) zero key q = record { entry = x; within = omega arith; is = refl; key_is = cc }
got (x ∷ xs) (suc i) key q = let r = got xs i key q in record { entry = r.entry; within = (let h = r.within in omega arith); is = r.is; key_is = r.key_is }

at_some : {X : Type 0} (xs : List X) (m i : ℕ) → m ≡ i + 1 → at_place xs m ≡ slice_get xs i
at_some xs m i e = ap (λ b. cond b None (slice_get xs (m - 1))) (ne_eqb m 0 (omega arith)) ∙ ap (slice_get xs) (let q : m - 1 ≡ i = omega arith in q)

pub got_any : (h : StoreView) (n i key : ℕ) → n ≡ i + 1 → Some key ≡ at_place (keys_of h) n → Got (entries h) i key
got_any h n i key e q = got (entries h) i key (q ∙ at_some (keys_of h) n i e)

pub got_learnt : (h : StoreView) (n i key : ℕ) → n ≡ length h.plain + length h.groups → Some key ≡ at_place (keys_of h) (n + (i + 1)) → Got h.learnt i key
got_learnt h n i key e q =
    let front : List Entry = h.plain ++ map full_entry h.groups in
    let long : length (keys front) ≡ n = length-map front key_of ∙ length-append h.plain (map full_entry h.groups) ∙ ap (λ m. length h.plain + m) (length-map h.groups full_entry) ∙ sym e in
    let split : keys_of h ≡ keys front ++ keys h.learnt = ap keys (sym (append_assoc h.plain (map full_entry h.groups) h.learnt)) ∙ map-append key_of front h.learnt in
    let back : n + i - length (keys front) ≡ i = rw long (omega arith) in
    got h.learnt i key (q ∙ at_some (keys_of h) (n + (i + 1)) (n + i) (omega arith) ∙ ap (λ (ks : List ℕ). slice_get ks (n + i)) split ∙ get_right (keys front) (keys h.learnt) (n + i) (rw long (omega arith)) ∙ ap (slice_get (keys h.learnt)) back)

-- the clause that was read for it
pub got_clause : (h : StoreView) (i key : ℕ) (clause : List ℕ) (e : Got (entries h) i key) → ((c : List ℕ) → Holds h key c → clause ≡ c) → clause ≡ e.entry.lits
got_clause h i key clause e only = only e.entry.lits (subst (λ (k : ℕ). Contains (entries h) (let x : Entry = record { key = k; lits = e.entry.lits } in x)) e.key_is (i, e.within, sym e.is))

pub count_all : (h : StoreView) (a b i : ℕ) → a ≡ length h.plain + length h.groups → b ≡ length (known_of h) → a + b ≤ i → length (entries h) ≤ i
count_all h a b i p q le = omega (arith, entry_count h, length-map h.learnt (λ (e : Entry). e.lits))

-- after a guard was dropped, and after a trim
pub dropped_joined : (law : EditsKeepSearches) (s t : Searching) (h h1 : StoreView) (g : ℕ) → IsJoined s h → ((k : StoreView) → MatchesStore s k → MatchesStore t k) → AreAttached t (keys_of (without_guard_of g h)) → h1 ≡ without_guard_of g h → Keeps h h1 → IsJoined t h1
dropped_joined law s t h h1 g j goes a e k =
    joined_after law t h h1 (goes h j.goes) k (subst (λ (x : StoreView). AreAttached t (keys_of x)) (sym e) a)

pub trimmed_joined : (law : EditsKeepSearches) (s t : Searching) (h h1 : StoreView) → IsJoined s h → ((k : StoreView) → MatchesStore s k → MatchesStore t k) → AreAttached t (keys_of (trimmed h)) → h1 ≡ trimmed h → Keeps h h1 → IsJoined t h1
trimmed_joined law s t h h1 j goes a e k =
    joined_after law t h h1 (goes h j.goes) k (subst (λ (x : StoreView). AreAttached t (keys_of x)) (sym e) a)

-- there is a key at each place
none_past : (xs : List ℕ) (i : ℕ) → None ≡ slice_get xs i → length xs ≤ i
none_past [] i q = omega arith
none_past (x ∷ xs) zero q = absurd cc
none_past (x ∷ xs) (suc i) q = let h = none_past xs i q in omega arith

pub learnt_there : (h : StoreView) (n i : ℕ) → n ≡ length h.plain + length h.groups → None ≡ at_place (keys_of h) (n + (i + 1)) → length h.learnt ≤ i
learnt_there h n i e q =
    let le = none_past (keys_of h) (n + i) (q ∙ at_some (keys_of h) (n + (i + 1)) (n + i) (omega arith)) in
    omega (arith, length-map (entries h) key_of, entry_count h)
