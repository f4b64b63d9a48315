-- What steps of a search keep.
use Rattle.std.proofs.Common.{◌≡◌, ℕ, ◌+◌, ◌-◌, ◌/◌, ◌<◌, ◌≤◌, None, List, [], ◌∷◌, ◌++◌, length, take, map, get_or, refl, sym, ap, ◌∙◌, subst, arith, ◌⊎◌, inl, inr, length-append, append_assoc}
use Rattle.std.specs.List.{All, Contains}
use Rattle.std.proofs.lemmas.Bool.{cases_lt}
use Rattle.std.proofs.lemmas.List.{map-append, append-nil, get_or_push, get_or_default}
use Rattle.std.proofs.lemmas.List.Elements.{All-contains, All-push, All-map, All-weaker, Contains-get_or, Contains-append_left, Contains-push, Contains-push_cases}
use Rattle.gi_lit.specs.Literals.{opposite}
use Rattle.gi_lit.specs.Closure.{IsFalsified, IsSettled, IsClosed, Conflicts}
use Rattle.gi_lit.specs.Closure.IsSettled.{has_true, has_two}
use Rattle.gi_lit.specs.Problem.{Problem, IsWellFormed}
use Rattle.gi_lit.specs.Learnt.{IsImplied, IsFresh, IsDerived, AreFresh}
use Rattle.gi_lit.proofs.Literals.{var-opposite}
use Rattle.gi_store.specs.StoreView.{Entry, StoreView, Holds, IsLive, IsWithin, Keeps, entries, keys_of, problem_of, known_of, with_learnt}
use Rattle.gi_prop.specs.TrailView.{TrailView, IsTrail, with_lit, with_level, cut_at}
use Rattle.gi_prop.specs.Attached.{Attached, IsAttached, Goes, Attaches, HasSameKeys, AddsForced, AreSettled}
use Rattle.gi_prop.proofs.Keys.{goes_edit}
use Rattle.gi_cdcl.specs.Sound.{stored, IsUsed, IsSupported, IsTrailSound}
use Rattle.gi_cdcl.specs.Uip.{IsUip, IsJump}
use Rattle.gi_cdcl.specs.Values.{IsPassed}
use Rattle.gi_cdcl.specs.Assumed.{IsTurn, DecidesAssumptionsFirst}
use Rattle.gi_lit.specs.Ends.{EndsNonempty}
use Rattle.gi_cdcl.specs.Ends.{IsFull, IsTaught, AreTaught}
use Rattle.gi_cdcl.specs.Searching.{AreKnown}
use Rattle.gi_cdcl.specs.Laws.{LearntClausesStayKnown}
use Rattle.gi_cdcl.specs.Invariant.{AreAttached, AttachedExactly, IsReady, HasPassed, SearchInvariant, HasLearnt}
use Rattle.gi_prop.proofs.Fronts.{front_contains}
use Rattle.gi_cdcl.proofs.Uip.{holds_stored, holds_live, uip_one_high}
use Rattle.gi_cdcl.proofs.Trails.{Grows, entries_learnt, stored_more_all, IsSound-learnt, IsSound-grown, IsSound-grows, IsSound-decide, IsSound-cut, IsLeveled-grows, IsLeveled-decide, IsLeveled-jump}
use Rattle.gi_cdcl.proofs.Fresh.{uip_fresh, empty_fresh, root_conflict, AreFresh-push}
use Rattle.gi_cdcl.proofs.Assuming.{led_front, DecidesAssumptionsFirst-grows, DecidesAssumptionsFirst-decide, DecidesAssumptionsFirst-cut}
use Rattle.gi_cdcl.proofs.Stores.{used_within, all_used}
use Rattle.gi_cdcl.proofs.Teaching.{stored_is}

-- one key more is in use
keys_learnt : (key : ℕ) (c : List ℕ) (h : StoreView) → keys_of (with_learnt key c h) ≡ keys_of h ++ key ∷ []
keys_learnt key c h = ap (λ (xs : List Entry). map (λ (e : Entry). e.key) xs) (entries_learnt key c h) ∙ map-append (λ (e : Entry). e.key) (entries h) (record { key = key; lits = c } ∷ [])

pub live_on : (key : ℕ) (c : List ℕ) (h : StoreView) (k : ℕ) → IsLive h k → IsLive (with_learnt key c h) k
live_on key c h k l = subst (λ (xs : List ℕ). Contains xs k) (sym (keys_learnt key c h)) (Contains-append_left (keys_of h) (key ∷ []) k l)

pub live_new : (key : ℕ) (c : List ℕ) (h : StoreView) → IsLive (with_learnt key c h) key
live_new key c h = subst (λ (xs : List ℕ). Contains xs key) (sym (keys_learnt key c h)) (Contains-push (keys_of h) key)

pub live_cases : (key : ℕ) (c : List ℕ) (h : StoreView) (k : ℕ) → IsLive (with_learnt key c h) k → IsLive h k ⊎ (key ≡ k)
live_cases key c h k l = Contains-push_cases (keys_of h) key k (subst (λ (xs : List ℕ). Contains xs k) (keys_learnt key c h) l)

pub goes_learnt : (p : Attached) (h : StoreView) (t : TrailView) (new : StoreView) (key : ℕ) (c : List ℕ) → AreAttached p h t → new ≡ with_learnt key c h → Keeps h new → Goes p new t
goes_learnt p h t new key c a e keeps = goes_edit p h new t a.goes keeps (λ k l. subst (λ (s : StoreView). IsLive s k) (sym e) (live_on key c h k (a.only k l)))

attached_learnt : (p q : Attached) (h : StoreView) (t : TrailView) (key : ℕ) (c : List ℕ) → AreAttached p h t → Attaches key p q → Goes q (with_learnt key c h) t → AreAttached q (with_learnt key c h) t
attached_learnt p q h t key c a m g = record {
  goes = g;
  all = λ k l. elim (live_cases key c h k l) [ inl old ↦ m.kept k (a.all k old) | inr e ↦ subst (IsAttached q) e m.there ];
  only = λ k l. elim (m.others k l) [ inl e ↦ subst (IsLive (with_learnt key c h)) (sym e) (live_new key c h) | inr old ↦ live_on key c h k (a.only k old) ];
}

pub tied_learnt : (p q : Attached) (h : StoreView) (t : TrailView) (new : StoreView) (key : ℕ) (c : List ℕ) → AttachedExactly p h t → new ≡ with_learnt key c h → Attaches key p q → Goes q new t → AttachedExactly q new t
tied_learnt p q h t new key c a e m g = subst (λ (s : StoreView). AttachedExactly q s t) (sym e) (record { attached = attached_learnt p q h t key c a.attached m (subst (λ (s : StoreView). Goes q s t) e g); room = a.room })

-- what propagation adds
pub grows_of : (q : Attached) (h : StoreView) (t b : TrailView) → AddsForced q h t b → Grows h t b
grows_of q h t b a = record {
  vars = a.vars;
  level_starts = a.level_starts;
  more_lits = a.more;
  lits = a.lits;
  more_reasons = a.why;
  reasons = a.reasons;
  forced = λ k le lt. let f = a.each k le lt in subst (IsSupported h b k) (sym f.reason) (f.clause, f.held, f.forces);
}

pub attached_same : (p q : Attached) (h : StoreView) (t b : TrailView) → AreAttached p h t → HasSameKeys p q → Goes q h b → AreAttached q h b
attached_same p q h t b a s g = record { goes = g; all = λ k l. s.kept k (a.all k l); only = λ k l. a.only k (s.others k l) }

pub closed_of : (q : Attached) (h : StoreView) (b : TrailView) → AreAttached q h b → AreSettled q h b.lits → IsClosed (stored h) b.lits
closed_of q h b a s = record { each = All-map (λ c. IsSettled b.lits c) (λ (e : Entry). e.lits) (entries h) (λ k d lt. one (get_or (entries h) k d) (Contains-get_or (entries h) k d lt)) }
  where
    one : (e : Entry) → Contains (entries h) e → IsSettled b.lits e.lits
    one e k = s.each e.key e.lits (a.all e.key (holds_live h e.key e.lits k)) k

passed_more : (h : StoreView) (t b : TrailView) (assumed more : List ℕ) (vars lits : ℕ) → b.lits ≡ t.lits ++ more → HasPassed h t assumed vars lits → HasPassed h b assumed vars lits
passed_more h t b assumed more vars lits e p = record {
  vars_are = record { each = λ l u le. elim (p.vars_are.each l u le) [ inl k ↦ inl (up l k) | inr k ↦ inr (up (opposite l) k) ] };
  lits_are = All-weaker (Contains t.lits) (Contains b.lits) up (take lits assumed) p.lits_are;
}
  where
    up : (l : ℕ) → Contains t.lits l → Contains b.lits l
    up l k = subst (λ (xs : List ℕ). Contains xs l) (sym e) (Contains-append_left t.lits more l k)

pub going_grows : (p q : Attached) (h : StoreView) (t b : TrailView) (assumed : List ℕ) (vars lits : ℕ) → IsTrail t → SearchInvariant p h t assumed vars lits → HasSameKeys p q → Goes q h b → AddsForced q h t b → SearchInvariant q h b assumed vars lits
going_grows p q h t b assumed vars lits tr g s gs a =
    let w = grows_of q h t b a in
    record {
      known = g.known;
      tied = record { attached = attached_same p q h t b g.tied.attached s gs; room = rw a.vars g.tied.room };
      ready = record { sound = IsSound-grows h t tr g.ready.sound b w; leveled = IsLeveled-grows h t tr g.ready.leveled b w };
      led = DecidesAssumptionsFirst-grows assumed t g.led h b w;
      within = g.within;
      passed = passed_more h t b assumed a.more vars lits a.lits g.passed;
    }

-- a decision
module _ (p : Attached) (h : StoreView) (t : TrailView) (assumed : List ℕ) (v0 l0 : ℕ) (tr : IsTrail t) (g : SearchInvariant p h t assumed v0 l0) (cl : IsClosed (stored h) t.lits) where
  decided : (l vars lits : ℕ) → IsTurn assumed t.lits (length t.level_starts) l ⊎ All (Contains t.lits) assumed → HasPassed h t assumed vars lits → Goes p h (with_lit l None (with_level t)) → SearchInvariant p h (with_lit l None (with_level t)) assumed vars lits
  decided l vars lits why passed goes = record {
    known = g.known;
    tied = record { attached = record { goes = goes; all = g.tied.attached.all; only = g.tied.attached.only }; room = g.tied.room };
    ready = record { sound = IsSound-decide h t tr g.ready.sound l; leveled = IsLeveled-decide h t tr g.ready.leveled cl l };
    led = DecidesAssumptionsFirst-decide assumed t g.led l why;
    within = g.within;
    passed = passed_more h t (with_lit l None (with_level t)) assumed (l ∷ []) vars lits refl passed;
  }

  pub leads_decided : (b : TrailView) (l vars lits : ℕ) → b ≡ with_lit l None (with_level t) → IsTurn assumed t.lits (length t.level_starts) l ⊎ All (Contains t.lits) assumed → HasPassed h t assumed vars lits → ((p : Attached) (s : StoreView) → Goes p s t → Goes p s b) → length t.lits < t.vars
      → SearchInvariant p h b assumed vars lits × (b.vars ≡ t.vars) × (length t.lits < length b.lits) × (length b.lits ≤ b.vars)
  leads_decided b l vars lits e why passed goes room =
      let n : length b.lits ≡ length t.lits + 1 = ap (λ (x : TrailView). length x.lits) e ∙ length-append t.lits (l ∷ []) in
      let m : b.vars ≡ t.vars = ap (λ (x : TrailView). x.vars) e in (
        subst (λ (x : TrailView). SearchInvariant p h x assumed vars lits) (sym e) (decided l vars lits why passed (subst (λ (x : TrailView). Goes p h x) e (goes p h g.tied.attached.goes))),
        m,
        omega (arith, n),
        omega (arith, n, m, room),
      )

known_learnt : (key : ℕ) (c : List ℕ) (h : StoreView) → known_of (with_learnt key c h) ≡ known_of h ++ c ∷ []
known_learnt key c h = map-append (λ (e : Entry). e.lits) h.learnt (record { key = key; lits = c } ∷ [])

-- with a fresh clause
pub AreKnown-learnt : (key : ℕ) (c : List ℕ) (h : StoreView) → AreKnown h → IsFresh (problem_of h) (known_of h) c → AreKnown (with_learnt key c h)
AreKnown-learnt key c h f n = record {
  implied = subst (All (IsImplied (problem_of h))) (sym (known_learnt key c h)) (All-push (IsImplied (problem_of h)) (known_of h) c f.implied n.implied);
  used = subst (All (All (IsUsed h))) (sym (known_learnt key c h)) (All-push (All (IsUsed h)) (known_of h) c f.used n.within);
}

-- one more that is taught
AreTaught-push : (h : StoreView) (es : List Entry) (e : Entry) → AreTaught h es → IsTaught (record h { learnt = h.learnt ++ es }) e.lits → AreTaught h (es ++ e ∷ [])
AreTaught-push h [] e a t = (subst (λ (xs : List Entry). IsTaught (record h { learnt = xs }) e.lits) (append-nil h.learnt) t, tt)
AreTaught-push h (x ∷ xs) e a t = (a.0, AreTaught-push (with_learnt x.key x.lits h) xs e a.1 (subst (λ (ys : List Entry). IsTaught (record h { learnt = ys }) e.lits) (sym (append_assoc h.learnt (x ∷ []) xs)) t))

pub HasLearnt-none : (old : StoreView) → HasLearnt old old []
HasLearnt-none old = record { learns = record { entries = []; are = refl; new_is = ap (λ (xs : List Entry). record old { learnt = xs }) (sym (append-nil old.learnt)); taught = tt }; fresh = tt }

HasLearnt-push : (old now : StoreView) (news : List (List ℕ)) → HasLearnt old now news → (key : ℕ) (c : List ℕ) → IsTaught now c → IsFresh (problem_of now) (known_of now) c × IsDerived (problem_of now) (known_of now) c → HasLearnt old (with_learnt key c now) (news ++ c ∷ [])
HasLearnt-push old now news h key c t n =
    let l = h.learns in
    let e : Entry = record { key = key; lits = c } in
    let known_is : known_of now ≡ known_of old ++ news = ap known_of l.new_is ∙ map-append (λ (e : Entry). e.lits) old.learnt l.entries ∙ ap (λ (xs : List (List ℕ)). known_of old ++ xs) (sym l.are) in
    let problem_is : problem_of now ≡ problem_of old = ap problem_of l.new_is in
    record {
      learns = record {
        entries = l.entries ++ e ∷ [];
        are = ap (λ (xs : List (List ℕ)). xs ++ c ∷ []) l.are ∙ sym (map-append (λ (e : Entry). e.lits) l.entries (e ∷ []));
        new_is = ap (λ (s : StoreView). with_learnt key c s) l.new_is ∙ ap (λ (xs : List Entry). record old { learnt = xs }) (append_assoc old.learnt l.entries (e ∷ []));
        taught = AreTaught-push old l.entries e l.taught (subst (λ (s : StoreView). IsTaught s c) l.new_is t);
      };
      fresh = AreFresh-push (problem_of old) (known_of old) news c h.fresh (subst (λ (ks : List (List ℕ)). IsFresh (problem_of old) ks c × IsDerived (problem_of old) ks c) known_is (subst (λ (p : Problem). IsFresh p (known_of now) c × IsDerived p (known_of now) c) problem_is n));
    }

pub learnt_more : (s old new : StoreView) (news more : List (List ℕ)) (key : ℕ) (c : List ℕ) → new ≡ with_learnt key c old → more ≡ news ++ c ∷ [] → IsTaught old c → IsFresh (problem_of old) (known_of old) c × IsDerived (problem_of old) (known_of old) c → HasLearnt s old news → HasLearnt s new more
learnt_more s old new news more key c e f t n h = subst (λ (x : StoreView). HasLearnt s x more) (sym e) (subst (HasLearnt s (with_learnt key c old)) (sym f) (HasLearnt-push s old news h key c t n))

pub learnt_same : (s old new : StoreView) (news more : List (List ℕ)) → new ≡ old → more ≡ news → HasLearnt s old news → HasLearnt s new more
learnt_same s old new news more e f h = subst (λ (x : StoreView). HasLearnt s x more) (sym e) (subst (HasLearnt s old) (sym f) h)

pub passed_none : (h : StoreView) (t : TrailView) (assumed : List ℕ) → IsWellFormed (problem_of h) → HasPassed h t assumed 0 0
passed_none h t assumed w = record {
  vars_are = record { each = λ l u le. absurd (let r = used_within h w l u in omega (arith, r.0, le)) };
  lits_are = λ k d lt. absurd (omega arith);
}

-- the variables before the least one that lost its value keep theirs
passed_cut : (h : StoreView) → IsWellFormed (problem_of h) → (t : TrailView) (cut v0 vars least : ℕ) → IsPassed h t.lits v0 → vars ≤ v0 → vars ≤ least - 1 → ((k : ℕ) → cut ≤ k → k < length t.lits → least ≤ get_or t.lits k 0 / 2) → (l : ℕ) → IsUsed h l → l / 2 ≤ vars → Contains (take cut t.lits) l ⊎ Contains (take cut t.lits) (opposite l)
passed_cut h w t cut v0 vars least p below low lost l u le =
    elim (p.each l u (omega (arith, le, below))) [ inl k ↦ inl (front l refl k) | inr k ↦ inr (front (opposite l) (var-opposite l) k) ]
  where
    front : (m : ℕ) → m / 2 ≡ l / 2 → Contains t.lits m → Contains (take cut t.lits) m
    front m same k =
        let lt : k.0 < length t.lits = k.1 in
        let is : get_or t.lits k.0 0 ≡ m = get_or_default t.lits k.0 0 m lt ∙ k.2 in
        elim (cases_lt k.0 cut) [
          | inl before ↦ subst (Contains (take cut t.lits)) is (front_contains cut t.lits k.0 before lt)
          | inr ge ↦ absurd (let a = lost k.0 ge lt in let b : get_or t.lits k.0 0 / 2 ≡ l / 2 = ap (λ n. n / 2) is ∙ same in let r = used_within h w l u in omega (arith, a, b, r.0, le, low))
        ]

-- a conflict above level 0
module _ (h : StoreView) (w : IsWellFormed (problem_of h)) (f : AreKnown h) (t : TrailView) (tr : IsTrail t) (r : IsReady h t) (deep : 0 < length t.level_starts) (key : ℕ) (conflict : List ℕ) (held : Holds h key conflict) (false' : IsFalsified t.lits conflict) (learnt : List ℕ) (u : IsUip h t conflict (get_or t.level_starts (length t.level_starts - 1) 0) learnt) where
  front_closed : IsClosed (stored h) (take (get_or t.level_starts (length t.level_starts - 1) 0) t.lits)
  front_closed = r.leveled.closed (length t.level_starts - 1) (omega arith)

  pub learnt_fresh : IsFresh (problem_of h) (known_of h) learnt × IsDerived (problem_of h) (known_of h) learnt
  learnt_fresh = uip_fresh h (stored_is h) f.implied t tr conflict (get_or t.level_starts (length t.level_starts - 1) 0) learnt front_closed (all_used h w f.used) (holds_stored h key conflict held) false' u

  pub learnt_within : IsWithin h.vars learnt
  learnt_within = λ k d lt. used_within h w _ (learnt_fresh.0.within k d lt)

  pub learnt_taught : IsTaught h learnt
  learnt_taught = record { trail = t; is_trail = tr; sound = r.sound; leveled = r.leveled; key = key; conflict = conflict; holds = held; falsified = false'; teaches = inr (deep, u) }

  pub learnt_nonempty : 0 < length learnt
  learnt_nonempty = let o = uip_one_high h t conflict _ false' learnt u in let s = o.stands in omega (arith, s.1)

  -- and the jump back
  pub going_jump : (p q : Attached) (new : StoreView) (b : TrailView) (at level v0 vars least lits : ℕ) (assumed : List ℕ) → lits ≤ level → IsJump t learnt (get_or t.level_starts (length t.level_starts - 1) 0) level → new ≡ with_learnt at learnt h → b ≡ cut_at level t → AttachedExactly q new b → DecidesAssumptionsFirst assumed t → IsWithin h.vars assumed
      → IsPassed h t.lits v0 → vars ≤ v0 → vars ≤ least - 1 → ((k : ℕ) → get_or t.level_starts level 0 ≤ k → k < length t.lits → least ≤ get_or t.lits k 0 / 2) → SearchInvariant q new b assumed vars lits
  going_jump p q new b at level v0 vars least lits assumed few j e eb tied led within before below' gone' lost =
      subst (λ (x : StoreView). SearchInvariant q x b assumed vars lits) (sym e) (subst (λ (y : TrailView). SearchInvariant q (with_learnt at learnt h) y assumed vars lits) (sym eb) (record {
        known = AreKnown-learnt at learnt h f learnt_fresh.0;
        tied = subst (AttachedExactly q (with_learnt at learnt h)) eb (subst (λ (x : StoreView). AttachedExactly q x b) e tied);
        ready = record {
          sound = IsSound-learnt h (cut_at level t) (IsSound-cut h t tr r.sound level j.below) at learnt;
          leveled = IsLeveled-jump h t tr r.leveled (get_or t.level_starts (length t.level_starts - 1) 0) refl learnt level (uip_one_high h t conflict _ false' learnt u) j at;
        };
        led = DecidesAssumptionsFirst-cut assumed t led level j.below;
        within = within;
        passed = record { vars_are = record { each = λ l u le. passed_cut h w t (get_or t.level_starts level 0) v0 vars least before below' gone' lost l u le }; lits_are = led_front assumed t led level lits j.below few };
      }))

-- a conflict where nothing was decided
module _ (h : StoreView) (f : AreKnown h) (t : TrailView) (tr : IsTrail t) (s : IsTrailSound h t) (root : t.level_starts ≡ []) (key : ℕ) (conflict : List ℕ) (held : Holds h key conflict) (false' : IsFalsified t.lits conflict) where
  pub empty_conflicts : Conflicts (stored h) []
  empty_conflicts = root_conflict h t conflict s (ap length root) (holds_stored h key conflict held) false'

  pub empty_is_fresh : All (λ c. 0 < length c) (stored h) → IsFresh (problem_of h) (known_of h) [] × IsDerived (problem_of h) (known_of h) []
  empty_is_fresh full' = empty_fresh h (stored_is h) f.implied full' empty_conflicts

  pub empty_taught : IsTaught h []
  empty_taught = record { trail = t; is_trail = tr; sound = s; leveled = record { closed = λ j lt. absurd (let n : length t.level_starts ≡ 0 = ap length root in omega arith) }; key = key; conflict = conflict; holds = held; falsified = false'; teaches = inl (root, refl) }

pub going_passed : (p : Attached) (h : StoreView) (t : TrailView) (assumed : List ℕ) (v0 l0 vars lits : ℕ) → SearchInvariant p h t assumed v0 l0 → HasPassed h t assumed vars lits → SearchInvariant p h t assumed vars lits
going_passed p h t assumed v0 l0 vars lits g passed = record { known = g.known; tied = g.tied; ready = g.ready; led = g.led; within = g.within; passed = passed }

-- the news with one more
last_is : (old new : List (List ℕ)) (c : List ℕ) → new ≡ old ++ c ∷ [] → (length new ≡ length old + 1) × (get_or new (length new - 1) [] ≡ c)
last_is old new c e =
    let n : length new ≡ length old + 1 = ap (λ (xs : List (List ℕ)). length xs) e ∙ length-append old (c ∷ []) in
    (n, ap (λ (xs : List (List ℕ)). get_or xs (length new - 1) []) e ∙ get_or_push old c [] (length new - 1) (omega (arith, n)))

pub adds_learnt : (old new : List (List ℕ)) (c : List ℕ) → new ≡ old ++ c ∷ [] → 0 < length c → (length new ≡ length old + 1) × EndsNonempty new
adds_learnt old new c e lt = let l = last_is old new c e in let n = l.0 in (n, (omega (arith, n), subst (λ (xs : List ℕ). 0 < length xs) (sym l.1) lt))

pub adds_refuted : (old new : List (List ℕ)) → new ≡ old ++ [] ∷ [] → (length new ≤ length old + 1) × ((limit : ℕ) → length old < limit → ¬ IsFull limit new)
adds_refuted old new e = let l = last_is old new [] e in let n = l.0 in (omega (arith, n), λ limit low f. let q = f.1 in let z : 0 < length (get_or new (length new - 1) []) = q.1 in let y : length (get_or new (length new - 1) []) ≡ 0 = ap (λ (xs : List ℕ). length xs) l.1 in omega (arith, z, y))

-- with the root level alone
pub going_start : (p : Attached) (h : StoreView) (t b : TrailView) (assumed : List ℕ) → IsWellFormed (problem_of h) → AreKnown h → AreAttached p h t → IsTrailSound h t → t.level_starts ≡ [] → b ≡ record t { vars = b.vars } → Goes p h b → h.vars ≤ b.vars → IsWithin h.vars assumed → SearchInvariant p h b assumed 0 0
going_start p h t b assumed w known a sound root e goes room within =
    let no_mark : length b.level_starts ≡ 0 = ap (λ (x : TrailView). length x.level_starts) e ∙ ap (λ (xs : List ℕ). length xs) root in
    record {
      known = known;
      tied = record { attached = record { goes = goes; all = a.all; only = a.only }; room = room };
      ready = record { sound = subst (IsTrailSound h) (sym e) (IsSound-grown h t b.vars sound); leveled = record { closed = λ j lt. absurd (omega (arith, lt, no_mark)) } };
      led = record { within = λ j lt. absurd (omega (arith, lt, no_mark)); strict = λ i j ij lt. absurd (omega (arith, lt, no_mark)); each = λ j lt. absurd (omega (arith, lt, no_mark)) };
      within = within;
      passed = passed_none h b assumed w;
    }

news_known : (h : StoreView) (known news : List (List ℕ)) → AreFresh (problem_of h) known news → All (IsImplied (problem_of h)) known → All (All (IsUsed h)) known → All (IsImplied (problem_of h)) (known ++ news) × All (All (IsUsed h)) (known ++ news)
news_known h known [] f i u = (subst (All (IsImplied (problem_of h))) (sym (append-nil known)) i, subst (All (All (IsUsed h))) (sym (append-nil known)) u)
news_known h known (c ∷ cs) f i u =
    let r = news_known h (known ++ c ∷ []) cs f.2 (All-push (IsImplied (problem_of h)) known c i f.0.implied) (All-push (All (IsUsed h)) known c u f.0.within) in
    (subst (All (IsImplied (problem_of h))) (append_assoc known (c ∷ []) cs) r.0, subst (All (All (IsUsed h))) (append_assoc known (c ∷ []) cs) r.1)

pub stay_known : LearntClausesStayKnown
stay_known old new news l f k =
    let now : StoreView = record old { learnt = old.learnt ++ l.entries } in
    let is : known_of now ≡ known_of old ++ news = map-append (λ (e : Entry). e.lits) old.learnt l.entries ∙ ap (λ (xs : List (List ℕ)). known_of old ++ xs) (sym l.are) in
    let r = news_known old (known_of old) news f k.implied k.used in
    subst AreKnown (sym l.new_is) (record { implied = subst (All (IsImplied (problem_of old))) (sym is) r.0; used = subst (All (All (IsUsed old))) (sym is) r.1 })

-- with nothing new
pub adds_none : (old new : List (List ℕ)) → new ≡ old → (length new ≤ length old + 1) × ((limit : ℕ) → length old < limit → ¬ IsFull limit new)
adds_none old new e = let n : length new ≡ length old = ap (λ (xs : List (List ℕ)). length xs) e in (omega (arith, n), λ limit low f. let q = f.0 in omega (arith, n, q, low))

-- an empty clause isn't settled
nothing_settled : (lits : List ℕ) → IsSettled lits [] → ⊥
nothing_settled lits (has_true l inside known) = omega (arith, inside.1)
nothing_settled lits (has_two l m inside other ne free free') = omega (arith, inside.1)

pub closed_full : (h : StoreView) (lits : List ℕ) → IsClosed (stored h) lits → Contains (stored h) [] → ⊥
closed_full h lits cl e = nothing_settled lits (All-contains (IsSettled lits) (stored h) [] cl.each e)

-- where something was decided, no clause is empty
pub deep_full : (h : StoreView) (t : TrailView) → IsReady h t → 0 < length t.level_starts → Contains (stored h) [] → ⊥
deep_full h t r deep e = closed_full h (take (get_or t.level_starts 0 0) t.lits) (r.leveled.closed 0 deep) e

-- what was stored stays so
pub stored_on : (old now : StoreView) (news : List (List ℕ)) → HasLearnt old now news → (c : List ℕ) → Contains (stored old) c → Contains (stored now) c
stored_on old now news h c k = subst (λ (s : StoreView). Contains (stored s) c) (sym h.learns.new_is) (stored_more_all old h.learns.entries c k)
