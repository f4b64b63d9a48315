-- What a session asks, entry by entry.
use Rattle.std.proofs.Common.{◌≡◌, ℕ, ◌+◌, ◌==◌, ◌&&◌, ◌||◌, ◌⊎◌, inl, inr, not, Bool, true, false, cond, List, [], ◌∷◌, ◌++◌, length, Option, Some, None, refl, ap, sym, ◌∙◌, arith}
use Rattle.std.proofs.lemmas.Bool.{eq-eqb, eqb-true}
use Rattle.std.proofs.lemmas.List.{append-nil}
use Rattle.std.proofs.lemmas.List.Elements.{Contains-append_right}
use Rattle.gi_model.specs.History.{Entry}
use Rattle.gi_model.specs.Refusals.{is_work}
use Rattle.gi_model.specs.declared.calls.Call.{Call}
use Rattle.gi_model.specs.declared.calls.Call.TheVariants as call
use Rattle.gi_model.specs.declared.replies.Reply.{Reply}
use Rattle.gi_model.specs.declared.replies.Reply.TheVariants as reply
use Rattle.gi_room.specs.Entries.{all_own_of, own_of}
use Rattle.gi_room.specs.Histories.{IsStarted}
use Rattle.gi_room.specs.Seen.{Seen}
use Rattle.gi_host.specs.Visits.{Asking, after_entries, after_entry, after_own, any_starts, asks_of, has_started, started_by, starts}

pub after_append : (n : ℕ) (xs ys : List Entry) (a : Asking) → after_entries n (xs ++ ys) a ≡ after_entries n ys (after_entries n xs a)
unfolding after_entries
after_append n [] ys a = refl
after_append n (x ∷ xs) ys a = after_append n xs ys (after_entry n x a)

here_entry : (n : ℕ) (e : Entry) (a : Asking) → (after_entry n e a).here ≡ a.here + 1
here_entry n e a = go (e.by == n)
  where
    go : (b : Bool) → (cond b (after_own e a) (record a { here = a.here + 1 })).here ≡ a.here + 1
    go true = refl
    go false = refl

pub here_after : (n : ℕ) (es : List Entry) (a : Asking) → (after_entries n es a).here ≡ a.here + length es
unfolding after_entries
here_after n [] a = omega arith
here_after n (e ∷ es) a = let r = here_after n es (after_entry n e a) in let h = here_entry n e a in omega arith

-- nothing new was asked or started
abbrev pub SameAsks : Asking → Asking → Type 0
SameAsks a b = (b.started ≡ a.started) × (b.asked ≡ a.asked)

asks_work : (c : Call) (s : Option ℕ) (k : ℕ) → is_work c ≡ true → asks_of c s k ≡ []
asks_work call.Stop s k h = absurd cc
asks_work c s k h = refl

started_work : (c : Call) (r : Reply) (s : Option ℕ) → is_work c ≡ true → started_by c r s ≡ s
started_work (call.Solve budget) r s h = absurd cc
started_work c r s h = refl

quiet_entry : (n : ℕ) (e : Entry) (a : Asking) → ((e.by == n) && not (is_work e.call)) ≡ false → SameAsks a (after_entry n e a)
quiet_entry n e a h = go (e.by == n) (is_work e.call) refl h
  where
    go : (b w : Bool) → is_work e.call ≡ w → (b && not w) ≡ false → SameAsks a (cond b (after_own e a) (record a { here = a.here + 1 }))
    go false w work h = (refl, refl)
    go true true work h = (started_work e.call e.reply a.started work, ap (λ xs. a.asked ++ xs) (asks_work e.call a.started a.seen work) ∙ append-nil a.asked)
    go true false work h = absurd cc

head_none : (t : Bool) (e : Entry) (es : List Entry) → cond t (e ∷ es) es ≡ [] → (t ≡ false) × (es ≡ [])
head_none true e es h = absurd cc
head_none false e es h = (refl, h)

-- own work asks nothing, and starts nothing
pub quiet : (n : ℕ) (es : List Entry) (a : Asking) → own_of n es ≡ [] → SameAsks a (after_entries n es a)
unfolding after_entries
quiet n [] a h = (refl, refl)
quiet n (e ∷ es) a h =
    let x = head_none ((e.by == n) && not (is_work e.call)) e (own_of n es) h in
    let one = quiet_entry n e a x.0 in
    let rest = quiet n es (after_entry n e a) x.1 in (rest.0 ∙ one.0, rest.1 ∙ one.1)

-- others' entries are not seen
pub unseen : (n : ℕ) (es : List Entry) (a : Asking) → all_own_of n es ≡ [] → (after_entries n es a).seen ≡ a.seen
unfolding after_entries
unseen n [] a h = refl
unseen n (e ∷ es) a h =
    let x = head_none (e.by == n) e (all_own_of n es) h in
    unseen n es (after_entry n e a) x.1 ∙ ap (λ (b : Bool). (cond b (after_own e a) (record a { here = a.here + 1 })).seen) x.0

pub calls_none : (n : ℕ) (es : List Entry) → all_own_of n es ≡ [] → own_of n es ≡ []
calls_none n [] h = refl
calls_none n (e ∷ es) h =
    let x = head_none (e.by == n) e (all_own_of n es) h in
    ap (λ (b : Bool). cond (b && not (is_work e.call)) (e ∷ own_of n es) (own_of n es)) x.0 ∙ calls_none n es x.1

-- after an own entry
pub after_last : (n : ℕ) (es : List Entry) (e : Entry) (a : Asking) → e.by ≡ n → after_entries n (es ++ e ∷ []) a ≡ after_own e (after_entries n es a)
unfolding after_entries
after_last n es e a is =
    let y = after_entries n es a in
    after_append n es (e ∷ []) a ∙ ap (λ (b : Bool). cond b (after_own e y) (record y { here = y.here + 1 })) (eq-eqb e.by n is)

-- the asks before a call, by what was seen then, unless it is a wait
pub asks_same : (what : Call) (s t : Option ℕ) (k l : ℕ) → s ≡ t → (k ≡ l) ⊎ (what ≡ call.Wait) → asks_of what s k ≡ asks_of what t l
asks_same what s t k l p (inl q) = (λ i. asks_of what (p i) (q i))
asks_same what s t k l p (inr wait) = ap (λ (c : Call). asks_of c s k) wait ∙ sym (ap (λ (c : Call). asks_of c t l) wait)

-- starts that a history has
any_left : (xs ys : List Entry) (k : ℕ) → any_starts xs k ≡ true → any_starts (xs ++ ys) k ≡ true
unfolding any_starts
any_left [] ys k h = absurd cc
any_left (x ∷ xs) ys k h = go (starts k x.reply) h (any_left xs ys k)
  where
    go : (b : Bool) → (b || any_starts xs k) ≡ true → (any_starts xs k ≡ true → any_starts (xs ++ ys) k ≡ true) → (b || any_starts (xs ++ ys) k) ≡ true
    go true h rest = refl
    go false h rest = rest h

any_last : (xs : List Entry) (e : Entry) (k : ℕ) → starts k e.reply ≡ true → any_starts (xs ++ e ∷ []) k ≡ true
unfolding any_starts
any_last [] e k h = ap (λ (b : Bool). b || false) h
any_last (x ∷ xs) e k h = go (starts k x.reply) (any_last xs e k h)
  where
    go : (b : Bool) → any_starts (xs ++ e ∷ []) k ≡ true → (b || any_starts (xs ++ e ∷ []) k) ≡ true
    go true rest = refl
    go false rest = rest

pub started_kept : (s : Option ℕ) (xs ys : List Entry) → has_started s xs ≡ true → has_started s (xs ++ ys) ≡ true
started_kept None xs ys h = refl
started_kept (Some k) xs ys h = any_left xs ys k h

pub started_now : (what : Call) (answer : Reply) (s : Option ℕ) (xs : List Entry) (n : ℕ) → has_started s xs ≡ true
    → has_started (started_by what answer s) (xs ++ record { by = n; call = what; reply = answer } ∷ []) ≡ true
started_now (call.Solve budget) (reply.Started k) s xs n h = any_last xs (record { by = n; call = call.Solve budget; reply = reply.Started k }) k (eq-eqb k k refl)
started_now what answer s xs n h = started_kept s xs (record { by = n; call = what; reply = answer } ∷ []) h

starts_is : (r : Reply) (k : ℕ) → starts k r ≡ true → r ≡ reply.Started k
starts_is (reply.Started j) k h = ap reply.Started (eqb-true j k h)
starts_is r k h = absurd cc

pub is_started : (es : List Entry) (k : ℕ) → any_starts es k ≡ true → IsStarted es k
unfolding any_starts
is_started [] k h = absurd cc
is_started (e ∷ es) k h = go (starts k e.reply) refl h (is_started es k)
  where
    go : (b : Bool) → starts k e.reply ≡ b → (b || any_starts es k) ≡ true → (any_starts es k ≡ true → IsStarted es k) → IsStarted (e ∷ es) k
    go true is h rest = (e, (0, omega arith, refl), starts_is e.reply k is)
    go false is h rest = let r = rest h in (r.0, Contains-append_right (e ∷ []) es r.0 r.1, r.2)

pub has_it : (s : Option ℕ) (k : ℕ) (es : List Entry) → s ≡ Some k → has_started s es ≡ true → IsStarted es k
has_it None k es is h = absurd cc
has_it (Some j) k es is h = is_started es k (let same : j ≡ k = cc in ap (λ (x : ℕ). any_starts es x) (sym same) ∙ h)

pub unasked : (p : Seen) → p ≡ record p { asked = p.asked ++ [] }
unasked p = λ i. record p { asked = sym (append-nil p.asked) i }
