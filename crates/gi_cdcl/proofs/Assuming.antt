-- What a false assumption goes back to, and that levels are led by assumptions.
use Rattle.std.proofs.Common.{◌≡◌, ◌≢◌, ℕ, zero, suc, ◌+◌, ◌-◌, ◌/◌, ◌<◌, ◌≤◌, Bool, true, false, None, List, [], ◌∷◌, ◌++◌, length, take, get_or, set, refl, sym, ap, ◌∙◌, subst, arith, ◌⊎◌, inl, inr, length-append}
use Rattle.std.specs.List.{All, Contains}
use Rattle.std.proofs.lemmas.Bool.{cases_lt, cases_eq, false≢true}
use Rattle.std.proofs.lemmas.List.{get_or-take, get_or_default, get_or_append_left, get_or_push, take_all, take_more, get_or_read, take-append-le, length-set, get_or-set_same, take-take, length-take, length-take-le}
use Rattle.std.proofs.lemmas.List.Elements.{All-take, Contains-append_left, Contains-push, Contains-push_cases, All-contains, Contains-get_or}
use Rattle.gi_lit.specs.Literals.{opposite}
use Rattle.gi_lit.specs.Lists.{IsSublist}
use Rattle.gi_lit.specs.Closure.{Forces, IsConsistent}
use Rattle.gi_lit.proofs.Literals.{var-opposite}
use Rattle.gi_lit.proofs.Closure.{IsDerivation-push}
use Rattle.gi_store.specs.StoreView.{StoreView, Holds}
use Rattle.gi_prop.specs.TrailView.{TrailView, HasValue, StandsAt, IsTrail, with_lit, with_level, cut_at}
use Rattle.gi_cdcl.specs.Sound.{stored}
use Rattle.gi_cdcl.specs.Marks.{Marks}
use Rattle.gi_cdcl.specs.Assumed.{IsTurn, DecidesAssumptionsFirst, LeadsFrom}
use Rattle.gi_prop.proofs.Fronts.{Contains-take, front_contains, sublist_skip, sublist_push}
use Rattle.gi_cdcl.proofs.Marking.{IsSeen}
use Rattle.gi_cdcl.proofs.Resolving.{false_at, stands_at}
use Rattle.gi_cdcl.proofs.Uip.{holds_stored}
use Rattle.gi_cdcl.proofs.Trails.{Grows}

pub record Tracing (h : StoreView) (t : TrailView) (failed : ℕ) (seen : List Bool) (at : ℕ) : Type 0 where
  pub len : length t.lits ≤ length seen
  pub at_le : at ≤ length t.lits
  pub leads : LeadsFrom h t failed seen at

module _ (h : StoreView) (t : TrailView) (tr : IsTrail t) (failed : ℕ) where
  pub Tracing-init : Contains t.lits (opposite failed) → (p : ℕ) → StandsAt t.lits (failed / 2) p → (old : List Bool) → length t.lits ≤ length old → Tracing h t failed (set old p true) (length t.lits)
  Tracing-init f p st old room =
      let q : get_or t.lits f.0 0 ≡ opposite failed = get_or_default t.lits f.0 0 (opposite failed) f.1 ∙ f.2 in
      let e : p ≡ f.0 = tr.apart p f.0 st.below f.1 (st.names ∙ sym (ap (λ n. n / 2) q ∙ var-opposite failed)) in
      let inside : p < length old = let b = st.below in omega arith in
      record {
        len = omega (arith, length-set old p true);
        at_le = omega arith;
        leads = λ given d dd known m. record {
          lits = d;
          derived = dd;
          clash = inl (failed, known, subst (Contains d) (ap (λ n. get_or t.lits n 0) e ∙ q) (m p st.below (get_or-set_same old p true false inside) (inl st.below)));
        };
      }

  module _ (a : ℕ) (seen : List Bool) (r : Tracing h t failed seen (a + 1)) where
    below : (k : ℕ) → k ≢ a → (k < a + 1) ⊎ Contains t.level_starts k → (k < a) ⊎ Contains t.level_starts k
    below k ne (inl lt) = inl (omega arith)
    below k ne (inr d) = inr d

    pub Tracing-skip : get_or seen a false ≡ false → Tracing h t failed seen a
    Tracing-skip e = record {
      len = r.len;
      at_le = let x = r.at_le in omega arith;
      leads = λ given d dd known m. r.leads given d dd known (λ k kl q side. elim (cases_eq k a) [ inl same ↦ absurd (false≢true (sym e ∙ ap (λ i. get_or seen i false) (sym same) ∙ q)) | inr other ↦ m k kl q (below k other side) ]);
    }

    pub Tracing-decision : Contains t.level_starts a → Tracing h t failed seen a
    Tracing-decision mk = record {
      len = r.len;
      at_le = let x = r.at_le in omega arith;
      leads = λ given d dd known m. r.leads given d dd known (λ k kl q side. m k kl q (elim (cases_eq k a) [ inl same ↦ inr (rw same mk) | inr other ↦ below k other side ]));
    }

    pub Tracing-step : (clause : List ℕ) (key : ℕ) → Holds h key clause → Forces clause (get_or t.lits a 0) (take a t.lits) → (start : ℕ) (new : List Bool) (more : ℕ) → Marks t.lits clause start a seen new more → Tracing h t failed new a
    Tracing-step clause key c f start new more m = record {
      len = let n = m.len in let z = r.len in omega (arith, n, z);
      at_le = let x = r.at_le in omega arith;
      leads = λ given d dd known p.
          r.leads given (d ++ get_or t.lits a 0 ∷ [])
          (IsDerivation-push (stored h) given d (get_or t.lits a 0) dd (inr (clause, holds_stored h key clause c, record { stands = f.stands; others = λ j e jl. earlier d p (get_or clause j e) (Contains-get_or clause j e jl) })))
          (Contains-append_left d (get_or t.lits a 0 ∷ []) failed known)
          (λ k kl q side. elim (cases_eq k a) [ inl same ↦ rw same (Contains-push d (get_or t.lits a 0)) | inr other ↦ Contains-append_left d (get_or t.lits a 0 ∷ []) (get_or t.lits k 0) (p k kl (m.keeps k q) (below k other side)) ]);
    }
      where
        earlier : (d : List ℕ) → ((k : ℕ) → k < length t.lits → get_or new k false ≡ true → (k < a) ⊎ Contains t.level_starts k → Contains d (get_or t.lits k 0)) → (m' : ℕ) → Contains clause m' → (m' ≡ get_or t.lits a 0) ⊎ Contains d (opposite m')
        earlier d p m' inside = elim (All-contains (λ m. (m ≡ get_or t.lits a 0) ⊎ Contains (take a t.lits) (opposite m)) clause m' f.others inside) [
          | inl same ↦ inl same
          | inr before ↦
              let q = false_at t.lits a m' before in
              let flag = All-contains (IsSeen t.lits a new) clause m' m.all inside q.place q.before (stands_at t.lits a m' q) in
              inr (subst (Contains d) q.is (p q.place q.below flag (inl q.before)))
        ]

-- where an assumption is false, each decision is an assumption
pub decisions_assumed : (t : TrailView) (assumed : List ℕ) (failed : ℕ) → IsConsistent t.lits → DecidesAssumptionsFirst assumed t → Contains assumed failed → Contains t.lits (opposite failed) → (k : ℕ) → Contains t.level_starts k → Contains assumed (get_or t.lits k 0)
decisions_assumed t assumed failed c led a f k h =
    let e : get_or t.level_starts h.0 0 ≡ k = get_or_default t.level_starts h.0 0 k h.1 ∙ h.2 in
    elim (led.each h.0 h.1) [
      | inl w ↦ subst (Contains assumed) (sym w.is ∙ ap (λ n. get_or t.lits n 0) e) (Contains-get_or assumed w.place 0 w.within)
      | inr all ↦ absurd (c.each failed (Contains-take (get_or t.level_starts h.0 0) t.lits failed (All-contains (Contains (take (get_or t.level_starts h.0 0) t.lits)) assumed failed all a)) f)
    ]

-- what was found among the first i assumptions
pub record Found (assumed lits : List ℕ) (seen : List Bool) (failed i : ℕ) (found : List ℕ) : Type 0 where
  pub sublist : IsSublist found (take i assumed)
  pub failed_in : Contains (take i assumed) failed → Contains found failed
  pub marked : (k : ℕ) → k < length lits → get_or seen k false ≡ true → Contains (take i assumed) (get_or lits k 0) → Contains found (get_or lits k 0)

module _ (assumed lits : List ℕ) (seen : List Bool) (failed i : ℕ) (found : List ℕ) (h : Found assumed lits seen failed i found) (x : ℕ) (lt : i < length assumed) (item : x ≡ get_or assumed i x) where
  taken : take (i + 1) assumed ≡ take i assumed ++ x ∷ []
  taken = take_more assumed i 0 lt ∙ ap (λ (y : ℕ). take i assumed ++ y ∷ []) (sym (get_or_read assumed i x lt item 0))

  cases : (y : ℕ) → Contains (take (i + 1) assumed) y → Contains (take i assumed) y ⊎ (x ≡ y)
  cases y k = Contains-push_cases (take i assumed) x y (subst (λ (xs : List ℕ). Contains xs y) taken k)

  pub Found-push : Found assumed lits seen failed (i + 1) (found ++ x ∷ [])
  Found-push = record {
    sublist = rw taken (sublist_push found (take i assumed) x h.sublist);
    failed_in = λ k. elim (cases failed k) [ inl old ↦ Contains-append_left found (x ∷ []) failed (h.failed_in old) | inr e ↦ subst (Contains (found ++ x ∷ [])) e (Contains-push found x) ];
    marked = λ k kl q c. elim (cases (get_or lits k 0) c) [ inl old ↦ Contains-append_left found (x ∷ []) (get_or lits k 0) (h.marked k kl q old) | inr e ↦ subst (Contains (found ++ x ∷ [])) e (Contains-push found x) ];
  }

  pub Found-skip : (x ≡ failed → ⊥) → ((k : ℕ) → k < length lits → get_or lits k 0 ≡ x → get_or seen k false ≡ true → ⊥) → Found assumed lits seen failed (i + 1) found
  Found-skip nf nm = record {
    sublist = rw taken (sublist_skip found (take i assumed) x h.sublist);
    failed_in = λ k. elim (cases failed k) [ inl old ↦ h.failed_in old | inr e ↦ absurd (nf e) ];
    marked = λ k kl q c. elim (cases (get_or lits k 0) c) [ inl old ↦ h.marked k kl q old | inr e ↦ absurd (nm k kl (sym e) q) ];
  }

-- how a level was begun, told of another trail that is the same as far as that
begins_on : (assumed : List ℕ) (t b : TrailView) (j : ℕ) → get_or b.level_starts j 0 ≡ get_or t.level_starts j 0 → get_or b.lits (get_or t.level_starts j 0) 0 ≡ get_or t.lits (get_or t.level_starts j 0) 0 → take (get_or t.level_starts j 0) b.lits ≡ take (get_or t.level_starts j 0) t.lits
    → IsTurn assumed (take (get_or t.level_starts j 0) t.lits) j (get_or t.lits (get_or t.level_starts j 0) 0) ⊎ All (Contains (take (get_or t.level_starts j 0) t.lits)) assumed
    → IsTurn assumed (take (get_or b.level_starts j 0) b.lits) j (get_or b.lits (get_or b.level_starts j 0) 0) ⊎ All (Contains (take (get_or b.level_starts j 0) b.lits)) assumed
begins_on assumed t b j m l k (inl w) = inl (record {
  place = w.place;
  low = w.low;
  within = w.within;
  is = ap (λ n. get_or b.lits n 0) m ∙ l ∙ w.is;
  before = subst (λ (xs : List ℕ). All (Contains xs) (take w.place assumed)) (sym (ap (λ n. take n b.lits) m ∙ k)) w.before;
})
begins_on assumed t b j m l k (inr a) = inr (subst (λ (xs : List ℕ). All (Contains xs) assumed) (sym (ap (λ n. take n b.lits) m ∙ k)) a)

-- there are no more levels than assumptions that were passed, where one has no value
led_low : (assumed : List ℕ) (t : TrailView) → DecidesAssumptionsFirst assumed t → (p : ℕ) → p < length assumed → ¬ Contains t.lits (get_or assumed p 0) → length t.level_starts ≤ p
led_low assumed t led p lt free = elim (cases_lt p (length t.level_starts)) [ inl deep ↦ absurd (go deep (led.each p deep)) | inr le ↦ le ]
  where
    up : Contains (take (get_or t.level_starts p 0) t.lits) (get_or assumed p 0) → ⊥
    up c = free (Contains-take (get_or t.level_starts p 0) t.lits (get_or assumed p 0) c)

    go : p < length t.level_starts → IsTurn assumed (take (get_or t.level_starts p 0) t.lits) p (get_or t.lits (get_or t.level_starts p 0) 0) ⊎ All (Contains (take (get_or t.level_starts p 0) t.lits)) assumed → ⊥
    go deep (inr all) = up (All-contains (Contains (take (get_or t.level_starts p 0) t.lits)) assumed (get_or assumed p 0) all (Contains-get_or assumed p 0 lt))
    go deep (inl w) = elim (cases_eq w.place p) [
      | inl same ↦ free (subst (Contains t.lits) (w.is ∙ ap (λ n. get_or assumed n 0) same) (Contains-get_or t.lits (get_or t.level_starts p 0) 0 (led.within p deep)))
      | inr other ↦ up (All-contains (Contains (take (get_or t.level_starts p 0) t.lits)) (take w.place assumed) (get_or assumed p 0) w.before (front_contains w.place assumed p (let low = w.low in omega (arith, low, other)) lt))
    ]

pub next_turn : (assumed : List ℕ) (t : TrailView) → DecidesAssumptionsFirst assumed t → (p l : ℕ) → (p < length assumed) × (l ≡ get_or assumed p 0) → HasValue t.lits l None → All (Contains t.lits) (take p assumed) → IsTurn assumed t.lits (length t.level_starts) l
next_turn assumed t led p l w v before = record { place = p; low = led_low assumed t led p w.0 (λ k. v.0 (subst (Contains t.lits) (sym w.1) k)); within = w.0; is = w.1; before = before }

-- as many assumptions were true when a level began as levels were there before
pub led_front : (assumed : List ℕ) (t : TrailView) → DecidesAssumptionsFirst assumed t → (level m : ℕ) → level < length t.level_starts → m ≤ level → All (Contains (take (get_or t.level_starts level 0) t.lits)) (take m assumed)
led_front assumed t led level m deep le = elim (led.each level deep) [
  | inl w ↦ subst (All (Contains (take (get_or t.level_starts level 0) t.lits))) (take-take m w.place assumed (let low = w.low in omega (arith, low, le))) (All-take (Contains (take (get_or t.level_starts level 0) t.lits)) m (take w.place assumed) w.before)
  | inr all ↦ All-take (Contains (take (get_or t.level_starts level 0) t.lits)) m assumed all
]

module _ (assumed : List ℕ) (t : TrailView) (led : DecidesAssumptionsFirst assumed t) where
  pub DecidesAssumptionsFirst-grows : (h : StoreView) (b : TrailView) → Grows h t b → DecidesAssumptionsFirst assumed b
  DecidesAssumptionsFirst-grows h b e = record {
    within = λ j lt. let w = led.within j (rw e.level_starts at lt) in rw (e.level_starts, e.lits) (omega (arith, w, length-append t.lits e.more_lits));
    strict = λ i j lt jl. rw e.level_starts (led.strict i j lt (rw e.level_starts at jl));
    each = λ j lt. let w = led.within j (rw e.level_starts at lt) in begins_on assumed t b j (ap (λ (xs : List ℕ). get_or xs j 0) e.level_starts)
        (ap (λ (xs : List ℕ). get_or xs (get_or t.level_starts j 0) 0) e.lits ∙ get_or_append_left t.lits e.more_lits 0 (get_or t.level_starts j 0) w)
        (ap (λ (xs : List ℕ). take (get_or t.level_starts j 0) xs) e.lits ∙ take-append-le (get_or t.level_starts j 0) t.lits e.more_lits (omega (arith, w)))
        (led.each j (rw e.level_starts at lt));
  }

  module _ (l : ℕ) (why : IsTurn assumed t.lits (length t.level_starts) l ⊎ All (Contains t.lits) assumed) where
    old : (j : ℕ) → j < length t.level_starts → get_or (t.level_starts ++ length t.lits ∷ []) j 0 ≡ get_or t.level_starts j 0
    old j lt = get_or_append_left t.level_starts (length t.lits ∷ []) 0 j lt

    new : (j : ℕ) → length t.level_starts ≤ j → j < length (t.level_starts ++ length t.lits ∷ []) → get_or (t.level_starts ++ length t.lits ∷ []) j 0 ≡ length t.lits
    new j le lt = get_or_push t.level_starts (length t.lits) 0 j (omega (arith, length-append t.level_starts (length t.lits ∷ [])))

    at_end : (take (length t.lits) (t.lits ++ l ∷ [])) ≡ t.lits
    at_end = take-append-le (length t.lits) t.lits (l ∷ []) (omega arith) ∙ take_all (length t.lits) t.lits (omega arith)

    newest : (j : ℕ) → length t.level_starts ≤ j → j < length (t.level_starts ++ length t.lits ∷ []) → IsTurn assumed t.lits (length t.level_starts) l ⊎ All (Contains t.lits) assumed
        → IsTurn assumed (take (get_or (t.level_starts ++ length t.lits ∷ []) j 0) (t.lits ++ l ∷ [])) j (get_or (t.lits ++ l ∷ []) (get_or (t.level_starts ++ length t.lits ∷ []) j 0) 0) ⊎ All (Contains (take (get_or (t.level_starts ++ length t.lits ∷ []) j 0) (t.lits ++ l ∷ []))) assumed
    newest j le lt (inl w) = inl (record {
      place = w.place;
      low = let low = w.low in omega (arith, low, lt, length-append t.level_starts (length t.lits ∷ []));
      within = w.within;
      is = ap (λ n. get_or (t.lits ++ l ∷ []) n 0) (new j le lt) ∙ get_or_push t.lits l 0 (length t.lits) refl ∙ w.is;
      before = subst (λ (xs : List ℕ). All (Contains xs) (take w.place assumed)) (sym (ap (λ n. take n (t.lits ++ l ∷ [])) (new j le lt) ∙ at_end)) w.before;
    })
    newest j le lt (inr a) = inr (subst (λ (xs : List ℕ). All (Contains xs) assumed) (sym (ap (λ n. take n (t.lits ++ l ∷ [])) (new j le lt) ∙ at_end)) a)

    each' : (j : ℕ) → j < length (t.level_starts ++ length t.lits ∷ []) → IsTurn assumed (take (get_or (t.level_starts ++ length t.lits ∷ []) j 0) (t.lits ++ l ∷ [])) j (get_or (t.lits ++ l ∷ []) (get_or (t.level_starts ++ length t.lits ∷ []) j 0) 0) ⊎ All (Contains (take (get_or (t.level_starts ++ length t.lits ∷ []) j 0) (t.lits ++ l ∷ []))) assumed
    each' j lt = elim (cases_lt j (length t.level_starts)) [
      | inl below ↦ let w = led.within j below in begins_on assumed t (with_lit l None (with_level t)) j (old j below) (get_or_append_left t.lits (l ∷ []) 0 (get_or t.level_starts j 0) w) (take-append-le (get_or t.level_starts j 0) t.lits (l ∷ []) (omega (arith, w))) (led.each j below)
      | inr le ↦ newest j le lt why
    ]

    pub DecidesAssumptionsFirst-decide : DecidesAssumptionsFirst assumed (with_lit l None (with_level t))
    DecidesAssumptionsFirst-decide = record {
      within = λ j lt. elim (cases_lt j (length t.level_starts)) [
        | inl below ↦ let w = led.within j below in rw (old j below) (omega (arith, length-append t.lits (l ∷ [])))
        | inr le ↦ rw (new j le lt) (omega (arith, length-append t.lits (l ∷ [])))
      ];
      strict = λ i j lt jl. elim (cases_lt j (length t.level_starts)) [
        | inl below ↦ let b : i < length t.level_starts = omega arith in rw (old i b, old j below) (led.strict i j lt below)
        | inr le ↦ let b : i < length t.level_starts = omega (arith, length-append t.level_starts (length t.lits ∷ [])) in rw (old i b, new j le jl) (led.within i b)
      ];
      each = each';
    }

  pub DecidesAssumptionsFirst-cut : (level : ℕ) → level < length t.level_starts → DecidesAssumptionsFirst assumed (cut_at level t)
  DecidesAssumptionsFirst-cut level lt = record {
    within = λ j jl. let b = low j jl in rw (marks_at j b, lits_len) (led.strict j level b lt);
    strict = λ i j ij jl. let b = low j jl in let a : i < level = omega arith in rw (marks_at i a, marks_at j b) (led.strict i j ij (omega arith));
    each = λ j jl. let b = low j jl in let m = led.strict j level b lt in
        begins_on assumed t (cut_at level t) j (marks_at j b) (get_or-take (get_or t.level_starts level 0) t.lits (get_or t.level_starts j 0) 0 m) (take-take (get_or t.level_starts j 0) (get_or t.level_starts level 0) t.lits (omega (arith, m))) (led.each j (omega (arith, b, lt)));
  }
    where
      low : (j : ℕ) → j < length (take level t.level_starts) → j < level
      low j jl = omega (arith, length-take level t.level_starts)

      marks_at : (j : ℕ) → j < level → get_or (take level t.level_starts) j 0 ≡ get_or t.level_starts j 0
      marks_at j jl = get_or-take level t.level_starts j 0 jl

      lits_len : length (take (get_or t.level_starts level 0) t.lits) ≡ get_or t.level_starts level 0
      lits_len = length-take-le (get_or t.level_starts level 0) t.lits (let w = led.within level lt in omega arith)

climbs : (starts : List ℕ) → ((i j : ℕ) → i < j → j < length starts → get_or starts i 0 < get_or starts j 0) → (j : ℕ) → j < length starts → j ≤ get_or starts j 0
climbs starts strict zero lt = omega arith
climbs starts strict (suc j) lt = omega (arith, strict j (suc j) (omega arith) lt, climbs starts strict j (omega arith))

-- levels that begin one behind the other are no more than the literals
pub levels_few : (starts : List ℕ) (n : ℕ) → ((i j : ℕ) → i < j → j < length starts → get_or starts i 0 < get_or starts j 0) → ((j : ℕ) → j < length starts → get_or starts j 0 < n) → length starts ≤ n
levels_few starts n strict within = elim (cases_lt 0 (length starts)) [
  | inr none ↦ omega arith
  | inl some ↦ let last : length starts - 1 < length starts = omega arith in omega (arith, climbs starts strict (length starts - 1) last, within (length starts - 1) last)
]
