-- A session with a shut behind it, and a worker beside it.
use Rattle.std.proofs.Common.{◌≡◌, ◌≢◌, ℕ, zero, suc, ◌-◌, ◌*◌, ◌/◌, ◌<◌, ◌≤◌, ◌==◌, ◌&&◌, inl, inr, ⊎_elim, not, Bool, true, false, cond, List, [], ◌∷◌, ◌++◌, length, drop, refl, ap, sym, ◌∙◌, subst, arith}
use Rattle.std.specs.Prelude.{All, Contains, slice_index_or}
use Rattle.std.proofs.Math.Seq.{drop-append_seam}
use Rattle.std.proofs.lemmas.Bool.{eq-eqb, eqb-true}
use Rattle.std.proofs.lemmas.List.{append-nil, append_assoc}
use Rattle.std.proofs.lemmas.List.Elements.{All-append, All-head, All-nil, All-push, All-tail, All-weaker, Contains-append_cases, Contains-append_left, filter-append}
use Rattle.gi_outside.specs.World.{World}
use Rattle.gi_model.specs.History.{Entry, IsLegal}
use Rattle.gi_model.specs.Refusals.{is_work}
use Rattle.gi_model.specs.declared.calls.Call.TheVariants as call
use Rattle.gi_model.specs.declared.replies.Reply.{Reply}
use Rattle.gi_model.specs.declared.replies.Reply.TheVariants as reply
use Rattle.gi_net.specs.Over.{Over}
use Rattle.gi_net.specs.Standing.{Standing}
use Rattle.gi_net.specs.declared.how.How.{How}
use Rattle.gi_outside.specs.Link.{Rose}
use Rattle.gi_room.specs.Entries.{all_own_of, own_of}
use Rattle.gi_room.specs.Seen.{Seen}
use Rattle.gi_room.specs.Calls.{Calls, HasCauses, HoldsAsBefore, InCall, IsClosed, IsOwnWork, Joins, JoinsAreCounted, NoneIsOut, OnlyHelps, Sole, SoleBut, SplitsAreCounted, split_left, split_right}
use Rattle.gi_host.specs.Hosts.{Closes, Hosts, IsAlone, IsShutAlone, Serves, Shuts}
use Rattle.gi_host.proofs.Asking.{calls_none}
use Rattle.gi_host.proofs.Visiting.{called_of}

-- lists
cancel : (xs ys zs : List Entry) → xs ++ ys ≡ xs ++ zs → ys ≡ zs
cancel [] ys zs e = e
cancel (x ∷ xs) ys zs e = cancel xs ys zs (let t : xs ++ ys ≡ xs ++ zs = cc in t)

all_rest : (P : Entry → Type 0) (xs ys : List Entry) → All P (xs ++ ys) → All P ys
all_rest P [] ys all = all
all_rest P (x ∷ xs) ys all = all_rest P xs ys (All-tail P x (xs ++ ys) all)

own_none : (held : List ℕ) (n : ℕ) (es : List Entry) → Contains held n → All (λ e. ¬ Contains held e.by) es → all_own_of n es ≡ []
own_none held n [] has none = refl
own_none held n (e ∷ es) has none = go (e.by == n) refl (own_none held n es has (All-tail (λ (x : Entry). ¬ Contains held x.by) e es none))
  where
    go : (b : Bool) → (e.by == n) ≡ b → all_own_of n es ≡ [] → cond b (e ∷ all_own_of n es) (all_own_of n es) ≡ []
    go true is rest = absurd (All-head (λ (x : Entry). ¬ Contains held x.by) e es none (subst (Contains held) (sym (eqb-true e.by n is)) has))
    go false is rest = rest

no_calls : (held : List ℕ) (n : ℕ) (es : List Entry) → Contains held n → All (λ e. ¬ Contains held e.by) es → own_of n es ≡ []
no_calls held n es has none = calls_none n es (own_none held n es has none)

own_append : (n : ℕ) (xs ys : List Entry) → own_of n (xs ++ ys) ≡ own_of n xs ++ own_of n ys
own_append n xs ys = filter-append (λ (e : Entry). (e.by == n) && not (is_work e.call)) xs ys

quarter : (n : ℕ) → n ≤ 4 * ((n - n / 2) - (n - n / 2) / 2)
quarter n = omega arith

-- what a shut leaves behind it
record Behind (mid after : Seen) : Type 0 where
  rest : List Entry
  history : after.history ≡ mid.history ++ rest
  place : after.place ≡ mid.place
  number : after.number ≡ mid.number
  held : after.held ≡ mid.held
  kin : after.kin ≡ mid.kin
  asked : after.asked ≡ mid.asked
  only : All (λ e. Contains mid.held e.by → e.by ≡ mid.number) rest
  alone : IsShutAlone mid.number rest
  spent : own_of mid.number rest ≡ [] → mid.left ≡ 0

never_spent : (answer : Reply) (mid after : Seen) → 0 < mid.left → Calls call.Shut answer mid after → answer ≢ reply.Spent
never_spent answer mid after some h is =
    let s : InCall call.Shut mid after × (after.left ≡ 0) × IsLegal after.history = subst (λ (r : Reply). Calls call.Shut r mid after) is h in
    elim s.0.comes.waits [ inl none ↦ (let l = s.0.left in let z = s.1 in let k = ap length none in omega arith) | inr wait ↦ cc ]

behind : (mid after : Seen) → Shuts mid after → Behind mid after
behind mid after (inl h) =
    let is : after ≡ mid = h.1 in record {
      rest = [];
      history = ap (λ (p : Seen). p.history) is ∙ sym (append-nil mid.history);
      place = ap (λ (p : Seen). p.place) is;
      number = ap (λ (p : Seen). p.number) is;
      held = ap (λ (p : Seen). p.held) is;
      kin = ap (λ (p : Seen). p.kin) is;
      asked = ap (λ (p : Seen). p.asked) is;
      only = All-nil (λ (e : Entry). Contains mid.held e.by → e.by ≡ mid.number);
      alone = inl refl;
      spent = λ none. h.0;
    }
behind mid after (inr h) =
    let answer : Reply = h.1.0 in
    let own : Entry = record { by = mid.number; call = call.Shut; reply = answer } in
    let holds : HoldsAsBefore mid after = h.1.2 in
    let c = called_of call.Shut answer mid after (never_spent answer mid after h.0 h.1.1) h.1.1 in
    let P : Entry → Type 0 = λ e. Contains mid.held e.by → e.by ≡ mid.number in
    let one : own_of mid.number (c.before ++ own ∷ []) ≡ own ∷ []
    = own_append mid.number c.before (own ∷ []) ∙ ap (λ es. es ++ own_of mid.number (own ∷ [])) c.comes.no_call ∙ ap (λ (b : Bool). cond (b && true) (own ∷ []) []) (eq-eqb mid.number mid.number refl) in record {
      rest = c.before ++ own ∷ [];
      history = c.history;
      place = holds.place;
      number = holds.number;
      held = holds.held;
      kin = holds.kin;
      asked = holds.asked;
      only = All-push P c.before own (All-weaker (λ (e : Entry). Contains mid.held e.by → IsOwnWork mid e) P (λ e w has. (w has).help.by) c.before c.comes.works) (λ has. refl);
      alone = inr (answer, one);
      spent = λ none. absurd (let q : own ∷ [] ≡ [] = sym one ∙ none in cc);
    }

-- the same numbers
sole_as : (p q : Seen) (out : List ℕ) → q.held ≡ p.held → q.kin ≡ p.kin → SoleBut p out → SoleBut q out
sole_as p q out held kin h = (
  subst (λ ns. Contains ns 0) (sym held) h.0,
  λ n has. ⊎_elim (λ x. inl (subst (λ ns. Contains ns n) (sym held) x)) inr (h.1 n (subst (λ ns. Contains ns n) kin has)),
)

swapped : (a b n : ℕ) → Contains (a ∷ b ∷ []) n → Contains (b ∷ a ∷ []) n
swapped a b n (zero, lt, e) = (1, omega arith, e)
swapped a b n (suc zero, lt, e) = (0, omega arith, e)
swapped a b n (suc (suc k), lt, e) = absurd (omega arith)

sole_swapped : (p : Seen) (a b : ℕ) → SoleBut p (a ∷ b ∷ []) → SoleBut p (b ∷ a ∷ [])
sole_swapped p a b h = (h.0, λ n has. ⊎_elim inl (λ x. inr (swapped a b n x)) (h.1 n has))

has_none : (n : ℕ) → ¬ Contains [] n
has_none n has = let l = has.1 in omega arith

itself : (n : ℕ) → Contains (n ∷ []) n
itself n = (0, omega arith, refl)

-- with nobody beside it
module _ (old new : World) (before mid after : Seen) (by : How) (serves : Serves old new before mid by) (shuts : Shuts mid after) (causes : HasCauses after) where
  abbrev d : Behind mid after
  d = behind mid after shuts

  abbrev all_added : List Entry
  all_added = serves.visits.entries ++ d.rest

  alone_history : after.history ≡ before.history ++ all_added
  alone_history = d.history ∙ ap (λ es. es ++ d.rest) serves.visits.history ∙ append_assoc before.history serves.visits.entries d.rest

  alone_held : after.held ≡ before.held
  alone_held = d.held ∙ serves.visits.held

  alone_sole : Sole before → Sole after
  alone_sole sole = (
    subst (λ ns. Contains ns 0) (sym alone_held) sole.0,
    λ n has. subst (λ ns. Contains ns n) (sym alone_held) (sole.1 n (subst (λ ns. Contains ns n) (d.kin ∙ serves.visits.kin) has)),
  )

  abbrev A : Entry → Type 0
  A e = Contains before.held e.by → e.by ≡ before.number

  alone_only : All A all_added
  alone_only = All-append A serves.visits.entries d.rest serves.visits.own
      (All-weaker (λ (e : Entry). Contains mid.held e.by → e.by ≡ mid.number) A (λ e h has. h (subst (λ ns. Contains ns e.by) (sym serves.visits.held) has) ∙ serves.visits.number) d.rest d.only)

  alone_all : Sole before → All (λ e. e.by ≡ before.number) all_added
  alone_all sole =
      let held = all_rest (λ (e : Entry). Contains before.held e.by) before.history all_added
      (subst (λ ns. All (λ (e : Entry). Contains ns e.by) (before.history ++ all_added)) alone_held (subst (λ es. All (λ (e : Entry). Contains after.held e.by) es) alone_history (causes.whole (alone_sole sole)))) in
      λ k x lt. alone_only k x lt (held k x lt)

  pub own_alone : Sole before → All (λ e. e.by ≡ before.number) (drop (length before.history) after.history)
  own_alone sole = subst (λ es. All (λ (e : Entry). e.by ≡ before.number) es) (sym (ap (drop (length before.history)) alone_history ∙ drop-append_seam before.history all_added)) (alone_all sole)

  pub hosted_alone : IsLegal after.history → Hosts old new before after by
  hosted_alone legal = record {
    first = before;
    mid = mid;
    number = refl;
    history = refl;
    asked = refl;
    quarter = omega arith;
    serves = serves;
    behind = d.rest;
    after_history = d.history;
    after_place = d.place ∙ serves.visits.place;
    after_number = d.number ∙ serves.visits.number;
    after_asked = d.asked;
    shut = subst (λ (n : ℕ). IsShutAlone n d.rest) serves.visits.number d.alone;
    spent = λ none. d.spent (subst (λ (n : ℕ). own_of n d.rest ≡ []) (sym serves.visits.number) none);
    legal = legal;
    alone = λ sole. record {
      sole = alone_sole sole;
      others = λ k x lt other. absurd (other (alone_all sole k x lt));
      marks = causes.sole (alone_sole sole);
    };
  }

-- with a worker beside it
module _ (old new : World) (before done worker after : Seen) (by : How) (closes : Closes old new (split_left (split_left before)) (split_right before) done by)
    (helps : OnlyHelps (split_right (split_left before)) worker) (joins : Joins done worker after) (own : Contains before.held before.number) where
  abbrev first : Seen
  first = split_left (split_left before)

  abbrev spare : Seen
  spare = split_right before

  abbrev started : Seen
  started = split_right (split_left before)

  abbrev entries : List Entry
  entries = closes.serves.visits.entries

  abbrev b : Behind closes.whole done
  b = behind closes.whole done closes.shuts

  abbrev more : List Entry
  more = closes.joins.grown.more ++ (b.rest ++ joins.grown.more)

  after_mid : after.history ≡ closes.mid.history ++ more
  after_mid =
      joins.grown.history ∙ ap (λ es. es ++ joins.grown.more) (b.history ∙ ap (λ es. es ++ b.rest) closes.joins.grown.history ∙ append_assoc closes.mid.history closes.joins.grown.more b.rest)
      ∙ append_assoc closes.mid.history (closes.joins.grown.more ++ b.rest) joins.grown.more ∙ ap (λ es. closes.mid.history ++ es) (append_assoc closes.joins.grown.more b.rest joins.grown.more)

  after_before : after.history ≡ before.history ++ (entries ++ more)
  after_before = after_mid ∙ ap (λ es. es ++ more) closes.serves.visits.history ∙ append_assoc before.history entries more

  whole_held : closes.whole.held ≡ before.held ++ spare.held
  whole_held = closes.joins.held ∙ ap (λ ns. ns ++ spare.held) closes.serves.visits.held

  whole_number : closes.whole.number ≡ before.number
  whole_number = closes.joins.number ∙ closes.serves.visits.number

  mine : Contains closes.mid.held before.number
  mine = subst (λ ns. Contains ns before.number) (sym closes.serves.visits.held) own

  mine_done : Contains done.held before.number
  mine_done = subst (λ ns. Contains ns before.number) (sym (b.held ∙ whole_held)) (Contains-append_left before.held spare.held before.number own)

  own_more : own_of before.number more ≡ own_of before.number b.rest
  own_more =
      own_append before.number closes.joins.grown.more (b.rest ++ joins.grown.more)
      ∙ ap (λ es. es ++ own_of before.number (b.rest ++ joins.grown.more)) (no_calls closes.mid.held before.number closes.joins.grown.more mine closes.joins.grown.foreign)
      ∙ own_append before.number b.rest joins.grown.more
      ∙ ap (λ es. own_of before.number b.rest ++ es) (no_calls done.held before.number joins.grown.more mine_done joins.grown.foreign)
      ∙ append-nil (own_of before.number b.rest)

  shut_alone : IsShutAlone closes.whole.number b.rest → IsShutAlone before.number more
  shut_alone h = go (subst (λ (n : ℕ). IsShutAlone n b.rest) whole_number h)
    where
      go : IsShutAlone before.number b.rest → IsShutAlone before.number more
      go (inl none) = inl (own_more ∙ none)
      go (inr one) = inr (one.0, own_more ∙ one.1)

  after_asked : after.asked ≡ closes.mid.asked
  after_asked =
      joins.asked ∙ (λ i. (b.asked ∙ closes.joins.asked ∙ append-nil closes.mid.asked) i ++ helps.holds.asked i) ∙ append-nil closes.mid.asked

  after_held : after.held ≡ closes.whole.held ++ started.held
  after_held = joins.held ∙ (λ i. b.held i ++ helps.holds.held i)

  -- the pass that was kept back made no entry
  no_spare : All (λ e. ¬ Contains spare.held e.by) (entries ++ closes.joins.grown.more)
  no_spare =
      let g = closes.joins.grown_other in
      let same : g.more ≡ entries ++ closes.joins.grown.more = cancel before.history g.more (entries ++ closes.joins.grown.more)
      (sym g.history ∙ closes.joins.grown.history ∙ ap (λ es. es ++ closes.joins.grown.more) closes.serves.visits.history ∙ append_assoc before.history entries closes.joins.grown.more) in
      subst (λ es. All (λ (e : Entry). ¬ Contains spare.held e.by) es) same g.foreign

  -- the worker has only worked
  works : All (λ e. Contains started.held e.by → is_work e.call ≡ true) (entries ++ more)
  works =
      let g = joins.grown_other in
      let P : Entry → Type 0 = λ e. Contains started.held e.by → is_work e.call ≡ true in
      let same : helps.entries ++ g.more ≡ entries ++ more = cancel before.history (helps.entries ++ g.more) (entries ++ more)
      (sym (append_assoc before.history helps.entries g.more) ∙ ap (λ es. es ++ g.more) (sym helps.history) ∙ sym g.history ∙ after_before) in
      subst (All P) same (All-append P helps.entries g.more
      (λ k d lt has. (helps.helps k d lt has).work)
      (All-weaker (λ (e : Entry). ¬ Contains worker.held e.by) P (λ e never has. absurd (never (subst (λ ns. Contains ns e.by) (sym helps.holds.held) has))) g.more g.foreign))

  -- of the numbers that the pass holds then, its own alone has entries that are no work
  abbrev Q : Entry → Type 0
  Q e = Contains closes.whole.held e.by → e.by ≡ before.number

  in_two : (e : Entry) → (Contains before.held e.by → e.by ≡ before.number) → ¬ Contains spare.held e.by → Q e
  in_two e one none has = ⊎_elim one (λ h. absurd (none h)) (Contains-append_cases before.held spare.held e.by (subst (λ ns. Contains ns e.by) whole_held has))

  session_own : All (λ e. Contains before.held e.by → e.by ≡ before.number) (entries ++ closes.joins.grown.more)
  session_own = All-append (λ (e : Entry). Contains before.held e.by → e.by ≡ before.number) entries closes.joins.grown.more closes.serves.visits.own
      (All-weaker (λ (e : Entry). ¬ Contains closes.mid.held e.by) (λ (e : Entry). Contains before.held e.by → e.by ≡ before.number) (λ e never has. absurd (never (subst (λ ns. Contains ns e.by) (sym closes.serves.visits.held) has))) closes.joins.grown.more closes.joins.grown.foreign)

  behind_own : All Q (b.rest ++ joins.grown.more)
  behind_own = All-append Q b.rest joins.grown.more
      (All-weaker (λ (e : Entry). Contains closes.whole.held e.by → e.by ≡ closes.whole.number) Q (λ e h has. h has ∙ whole_number) b.rest b.only)
      (All-weaker (λ (e : Entry). ¬ Contains done.held e.by) Q (λ e never has. absurd (never (subst (λ ns. Contains ns e.by) (sym b.held) has))) joins.grown.more joins.grown.foreign)

  all_own : All Q (entries ++ more)
  all_own = subst (All Q) (append_assoc entries closes.joins.grown.more (b.rest ++ joins.grown.more)) (All-append Q (entries ++ closes.joins.grown.more) (b.rest ++ joins.grown.more)
      (λ k d lt. in_two (slice_index_or (entries ++ closes.joins.grown.more) k d) (session_own k d lt) (no_spare k d lt)) behind_own)

  sole_after : SplitsAreCounted → JoinsAreCounted → NoneIsOut → Sole before → Sole after
  sole_after splits counted none sole =
      let s0 : SoleBut before [] = (sole.0, λ n has. inl (sole.1 n has)) in
      let s1 : SoleBut (split_left before) (spare.number ∷ []) = splits before [] s0 in
      let s2 : SoleBut first (started.number ∷ spare.number ∷ []) = splits (split_left before) (spare.number ∷ []) s1 in
      let s3 = sole_swapped closes.mid started.number spare.number (sole_as first closes.mid (started.number ∷ spare.number ∷ []) closes.serves.visits.held closes.serves.visits.kin s2) in
      let s4 : SoleBut closes.whole (started.number ∷ []) = counted closes.mid spare closes.whole spare.number (started.number ∷ []) s3 (λ n has. absurd (has_none n has)) (itself spare.number) closes.joins in
      let s5 : SoleBut done (started.number ∷ []) = sole_as closes.whole done (started.number ∷ []) b.held b.kin s4 in
      let shut : IsClosed worker = λ n has. absurd (has_none n (subst (λ ns. Contains ns n) helps.holds.kin has)) in
      none after (counted done worker after started.number [] s5 shut (subst (λ ns. Contains ns started.number) (sym helps.holds.held) (itself started.number)) joins)

  is_alone : HasCauses after → Sole after → IsAlone before after (entries ++ more)
  is_alone causes sole = record {
    sole = sole;
    others = λ k d lt other. ⊎_elim
        (λ h. absurd (other (all_own k d lt h)))
        (λ h. works k d lt h)
        (Contains-append_cases closes.whole.held started.held _ (held k d lt));
    marks = causes.sole sole;
  }
    where
      held : All (λ e. Contains (closes.whole.held ++ started.held) e.by) (entries ++ more)
      held = all_rest (λ (e : Entry). Contains (closes.whole.held ++ started.held) e.by) before.history (entries ++ more)
          (subst (λ ns. All (λ (e : Entry). Contains ns e.by) (before.history ++ (entries ++ more))) after_held (subst (λ es. All (λ (e : Entry). Contains after.held e.by) es) after_before (causes.whole sole)))

  pub hosted : IsLegal after.history → HasCauses after → SplitsAreCounted → JoinsAreCounted → NoneIsOut → Hosts old new before after by
  hosted legal causes splits counted none = record {
    first = first;
    mid = closes.mid;
    number = refl;
    history = refl;
    asked = refl;
    quarter = quarter before.left;
    serves = closes.serves;
    behind = more;
    after_history = after_mid;
    after_place = joins.place ∙ b.place ∙ closes.joins.place ∙ closes.serves.visits.place;
    after_number = joins.number ∙ b.number ∙ whole_number;
    after_asked = after_asked;
    shut = shut_alone b.alone;
    spent = λ none. (let out = b.spent (subst (λ (n : ℕ). own_of n b.rest ≡ []) (sym whole_number) (sym own_more ∙ none)) in let all = closes.joins.left in omega arith);
    legal = legal;
    alone = λ sole. is_alone causes (sole_after splits counted none sole);
  }

pub hosted_by : (old new : World) (before one kept two other done worker after : Seen) (by : How)
    → one ≡ split_left before → kept ≡ split_right before → two ≡ split_left one → other ≡ split_right one
    → Closes old new two kept done by → OnlyHelps other worker → Joins done worker after → Contains before.held before.number
    → IsLegal after.history → HasCauses after → SplitsAreCounted → JoinsAreCounted → NoneIsOut → Hosts old new before after by
hosted_by old new before one kept two other done worker after by is_one is_kept is_two is_other closes helps joins own legal causes splits counted none =
    hosted old new before done worker after by
    (subst (λ p. Closes old new p (split_right before) done by) (is_two ∙ ap split_left is_one) (subst (λ p. Closes old new two p done by) is_kept closes))
    (subst (λ p. OnlyHelps p worker) (is_other ∙ ap split_right is_one) helps) joins own legal causes splits counted none

-- the caller never lacks memory for an entry
pub never_starved : (old new : World) (before after : Standing) (by : How) → Over old new before after (Rose 0 0) by → Over old new before after ⊥ by
never_starved old new before after by h = record {
  session = h.session;
  wanted = λ e. elim (h.wanted e) [ inl told ↦ inl told | inr other ↦ inr (elim other [ inl poor ↦ absurd (omega arith) | inr read ↦ inr read ]) ];
}
