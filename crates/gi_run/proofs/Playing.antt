-- A drill that was served on a pass.
use Rattle.std.proofs.Common.{◌≡◌, ◌≢◌, ℕ, ◌+◌, ◌<◌, ◌≤◌, ◌==◌, Bool, true, false, Option, Some, None, option_map, option_to_list, List, [], ◌∷◌, ◌++◌, length, map, ◌⊎◌, inl, inr, refl, sym, ap, subst, ◌∙◌, arith, eq-eqb, append-nil, append_assoc, length-append}
use Rattle.std.specs.Option.{IfSome}
use Rattle.std.specs.List.{All, AllByRecursion, Contains}
use Rattle.std.specs.Prelude.{drop}
use Rattle.std.proofs.Math.Seq.{drop-append_seam}
use Rattle.std.proofs.lemmas.List.Elements.{All-append, All-head, All-nil, All-tail, All-weaker, Contains-append_left, Contains-append_right, filter-append}
use Rattle.gi_outside.specs.Link.{Rose, ins}
use Rattle.gi_outside.specs.World.{World, Wrote, WroteCut}
use Rattle.gi_model.specs.History.{Entry, IsLegal}
use Rattle.gi_model.specs.declared.calls.Call.{Call}
use Rattle.gi_model.specs.declared.calls.Call.TheVariants as call
use Rattle.gi_model.specs.declared.replies.Reply.{Reply}
use Rattle.gi_model.specs.declared.replies.Reply.TheVariants as reply
use Rattle.gi_wire.specs.Items.{items}
use Rattle.gi_wire.specs.Laws.{ItemsStay}
use Rattle.gi_wire.specs.declared.reader.RequestKind.{RequestKind}
use Rattle.gi_wire.specs.declared.reader.RequestKind.TheVariants as asked
use Rattle.gi_wire.specs.declared.reader.Request.{Request}
use Rattle.gi_net.specs.Answers.{Answer, answers, call_in, calls, replies_after, reply_for}
use Rattle.gi_net.specs.Entries.{all_own_of, own_of, replies}
use Rattle.gi_net.specs.Laws.{AllowedIsReply}
use Rattle.gi_net.specs.Over.{Over}
use Rattle.gi_net.specs.Served.{IsQuiet}
use Rattle.gi_net.specs.Session.{Session}
use Rattle.gi_net.specs.Standing.{Standing}
use Rattle.gi_net.specs.declared.how.How.{How}
use Rattle.gi_net.specs.declared.how.How.TheVariants as how
use Rattle.gi_net.proofs.Answering.{calls-append, replies_fit}
use Rattle.gi_drill.specs.Counted.{tally_since}
use Rattle.gi_drill.specs.Counting.{noted, tally_from, tally_of}
use Rattle.gi_drill.specs.Laws.{ByeIsLast, CallsAloneAreCounted, ClausesAreTaken, FewAreSat, FewAreUnsat, IsLively, Plays, ScriptIsRead, ScriptIsShort, VariablesAreTold, without_work}
use Rattle.gi_drill.specs.Printing.{tally_text}
use Rattle.gi_drill.specs.Script.{numbered, script, script_text}
use Rattle.gi_drill.specs.declared.tally.Tally.{Tally}
use Rattle.gi_run.specs.declared.drilling.Drilled.{Drilled}
use Rattle.gi_run.specs.declared.drilling.Drilled.TheVariants as drilled
use Rattle.gi_room.specs.Calls.{HasCauses, HoldsAsBefore}
use Rattle.gi_room.specs.Seen.{Seen}
use Rattle.gi_host.specs.Hosts.{Hosts, IsShutAlone, Shuts}
use Rattle.gi_host.specs.Laws.{UsesAQuarter}
use Rattle.gi_host.specs.Visits.{IsBusy, Visits, asking, standing_of, visit}
use Rattle.gi_host.proofs.Hosting.{hosted_alone, never_starved}
use Rattle.gi_run.specs.Drilling.{AreCounted, DrillEnds, HasDrilled, IsPlayed, IsUndisturbed, ServesCounted, TellsDrill, tally_of_calls}
use Rattle.gi_run.specs.Drilling as drill
use Rattle.gi_run.specs.Kept.{IsHistory, IsNew, IsOwn}
use Rattle.gi_run.specs.Shutting.{HasEnded, HasLostWork}
use Rattle.gi_run.proofs.Alone.{all_front, cancel, kept, same_work}
use Rattle.gi_run.proofs.Closing.{Closed, closed, same_calls}
use Rattle.gi_run.proofs.Filing.{visits_as}
use Rattle.gi_run.proofs.Having.{Has, has_left, has_right}
use Rattle.gi_run.proofs.Hosting.{has_hosted, lost}
use Rattle.gi_run.proofs.Lost.{IsOurs}
use Rattle.gi_run.proofs.Over.{first_is, rest_is}
use Rattle.gi_run.proofs.Unasked.{IsStop, called_stop, script_calls, unasked}

-- one entry more is counted
pub tally_push : (es : List Entry) (e : Entry) (t : Tally) → tally_from t (es ++ e ∷ []) ≡ noted (tally_from t es) e.call e.reply
unfolding tally_from
tally_push [] e t = refl
tally_push (x ∷ es) e t = tally_push es e (noted t x.call x.reply)

-- the items of a front of the bytes are a front of the items of all
pub front_items : (stay : ItemsStay) (ended : Bool) (bytes rest : List ℕ) → (ended ≡ true → rest ≡ []) → (more : List Request) × (items ended bytes ++ more ≡ items ended (bytes ++ rest))
front_items stay true bytes rest none = ([], append-nil (items true bytes) ∙ sym (ap (λ r. items true (bytes ++ r)) (none refl) ∙ ap (items true) (append-nil bytes)))
front_items stay false bytes rest none = let m = stay false bytes rest in (m.0, sym m.1)

calls_numbered : (line : ℕ) (cs : List Call) → calls (numbered line cs) ≡ cs
calls_numbered line [] = refl
calls_numbered line (c ∷ cs) = ap (λ ds. c ∷ ds) (calls_numbered (line + 1) cs)

-- a front of a list that has its last element, which stands nowhere else, is all of it
whole_front : (xs ys before : List Call) (b : Call) → xs ++ ys ≡ before ++ b ∷ [] → AllByRecursion (λ c. c ≢ b) before → Has (λ (c : Call). c ≡ b) xs → (xs ≡ before ++ b ∷ []) × (ys ≡ [])
whole_front [] ys before b e others h = absurd h
whole_front (x ∷ xs) ys [] b e others h =
    let first : x ≡ b = cc in
    let rest : xs ++ ys ≡ [] = cc in
    (ap (λ (zs : List Call). x ∷ zs) (no_left xs ys rest) ∙ ap (λ (z : Call). z ∷ []) first, no_right xs ys rest)
  where
    no_left : (xs ys : List Call) → xs ++ ys ≡ [] → xs ≡ []
    no_left [] ys e = refl
    no_left (x ∷ xs) ys e = absurd cc

    no_right : (xs ys : List Call) → xs ++ ys ≡ [] → ys ≡ []
    no_right [] ys e = e
    no_right (x ∷ xs) ys e = absurd cc
whole_front (x ∷ xs) ys (c ∷ before) b e others h =
    let first : x ≡ c = cc in
    let rest : xs ++ ys ≡ before ++ b ∷ [] = cc in
    let later : Has (λ (c : Call). c ≡ b) xs = there h first in
    let r = whole_front xs ys before b rest others.1 later in
    (ap (λ (zs : List Call). x ∷ zs) r.0 ∙ ap (λ (z : Call). z ∷ (before ++ b ∷ [])) first, r.1)
  where
    there : (x ≡ b) ⊎ Has (λ (c : Call). c ≡ b) xs → x ≡ c → Has (λ (c : Call). c ≡ b) xs
    there (inl is) first = absurd (others.0 (sym first ∙ is))
    there (inr h) first = h

-- what the last answer was asked for is a call
answered_at : (is : List Request) (rs : List Reply) (before : List Answer) (last : Answer) (c : Call) → answers is rs ≡ before ++ last ∷ [] → last.item.asked ≡ asked.Call c → Has (λ (d : Call). d ≡ c) (calls is)
unfolding answers
answered_at [] rs before last c e a = let no : 0 ≡ length before + 1 = ap length e ∙ length-append before (last ∷ []) in absurd (omega (arith, no))
answered_at (i ∷ is) rs [] last c e a =
    let same : i ≡ last.item = ap (λ (x : Answer). x.item) (first_is (record { item = i; reply = reply_for i.asked rs }) last (answers is (replies_after i.asked rs)) [] e) in
    let asks : i.asked ≡ asked.Call c = ap (λ (j : Request). j.asked) same ∙ a in
    subst (λ x. Has (λ (d : Call). d ≡ c) (option_to_list (call_in x) ++ calls is)) (sym asks) (inl refl)
answered_at (i ∷ is) rs (b ∷ bs) last c e a =
    has_right (λ (d : Call). d ≡ c) (option_to_list (call_in i.asked)) (calls is)
    (answered_at is (replies_after i.asked rs) bs last c (rest_is (record { item = i; reply = reply_for i.asked rs }) b (answers is (replies_after i.asked rs)) (bs ++ last ∷ []) e) a)

-- a session that goes on was asked for no bye
quiet_none : (is : List Request) (rs : List Reply) → AllByRecursion IsQuiet (answers is rs) → ¬ Has (λ (d : Call). d ≡ call.Bye) (calls is)
unfolding answers
quiet_none [] rs q h = h
quiet_none (i ∷ is) rs q h = go (quiet_none is (replies_after i.asked rs) q.1) i.asked q.0.not_bye h
  where
    go : (¬ Has (λ (d : Call). d ≡ call.Bye) (calls is)) → (a : RequestKind) → a ≢ asked.Call call.Bye → ¬ Has (λ (d : Call). d ≡ call.Bye) (option_to_list (call_in a) ++ calls is)
    go rest (asked.Call d) n (inl here) = n (ap asked.Call here)
    go rest (asked.Call d) n (inr there) = rest there
    go rest asked.Syntax n there = rest there
    go rest asked.Long n there = rest there

-- what was taken of told bytes, and what is left
taken : (a : Option (List ℕ)) (bytes text : List ℕ) → Some text ≡ option_map (λ xs. bytes ++ xs) a → (r : List ℕ) × (a ≡ Some r) × (text ≡ bytes ++ r)
taken None bytes text e = absurd cc
taken (Some r) bytes text e = (r, refl, cc)

has_last : (before : List Call) (b : Call) → Has (λ (c : Call). c ≡ b) (before ++ b ∷ [])
has_last before b = has_right (λ (c : Call). c ≡ b) before (b ∷ []) (inl refl)

module _ (rounds : ℕ) (start end : World) (first mid : Standing) (stay : ItemsStay) (read : ScriptIsRead) (bye_last : ByeIsLast) (rest : start.rest ≡ Some (script_text rounds)) (empty : end.ended ≡ true → IfSome end.rest (λ bytes. bytes ≡ [])) where
  module _ (by : How) (s : Session start end first mid by) where
    took : (r : List ℕ) × (end.rest ≡ Some r) × (script_text rounds ≡ ins s.added ++ r)
    took = taken end.rest (ins s.added) (script_text rounds) (sym rest ∙ s.rest)

    none_left : end.ended ≡ true → took.0 ≡ []
    none_left e = subst (λ (o : Option (List ℕ)). IfSome o (λ bytes. bytes ≡ [])) took.1 (empty e)

    pub few_bytes : length (ins s.added) ≤ length (script_text rounds)
    few_bytes = let n = ap length took.2 ∙ length-append (ins s.added) took.0 in omega arith

    -- the calls that were answered are a front of the script
    front_of : (more : List Call) × (calls s.served.front ++ more ≡ script rounds)
    front_of =
        let f = front_items stay end.ended (ins s.added) took.0 none_left in
        let all : items end.ended (ins s.added) ++ f.0 ≡ numbered 1 (script rounds) = f.1 ∙ ap (items end.ended) (sym took.2) ∙ read end.ended rounds in
        let cs : calls (items end.ended (ins s.added)) ++ calls f.0 ≡ script rounds = sym (calls-append (items end.ended (ins s.added)) f.0) ∙ ap calls all ∙ calls_numbered 1 (script rounds) in
        let split : calls (items end.ended (ins s.added)) ≡ calls s.served.front ++ calls s.served.rest = ap calls s.served.split ∙ calls-append s.served.front s.served.rest in
        (calls s.served.rest ++ calls f.0, sym (append_assoc (calls s.served.front) (calls s.served.rest) (calls f.0)) ∙ ap (λ xs. xs ++ calls f.0) (sym split) ∙ cs)

  -- where the session ended by its bye, all calls of the script were made
  pub all_called : (s : Session start end first mid how.Bye) → map (λ (e : Entry). e.call) (own_of first.number s.entries) ≡ script rounds
  all_called s =
      let b = bye_last rounds in
      let ends = s.served.ends.0 in
      let h = answered_at s.served.front (replies (own_of first.number s.entries)) ends.by.before ends.by.last call.Bye ends.by.split ends.asked in
      let f = front_of how.Bye s in
      s.served.calls_are ∙ (whole_front (calls s.served.front) f.0 b.0 call.Bye (f.1 ∙ b.1) b.2 h).0 ∙ sym b.1

  -- and it can't have ended at the end of its input
  pub no_eof : ¬ Session start end first mid how.Eof
  no_eof s =
      let b = bye_last rounds in
      let ends = s.served.ends in
      let all : items end.ended (ins s.added) ≡ numbered 1 (script rounds) =
      ap (items end.ended) (sym (append-nil (ins s.added)) ∙ ap (λ r. ins s.added ++ r) (sym (none_left how.Eof s ends.0)) ∙ sym (took how.Eof s).2) ∙ read end.ended rounds in
      let front : s.served.front ≡ items end.ended (ins s.added) = sym (append-nil s.served.front) ∙ ap (λ r. s.served.front ++ r) (sym ends.1) ∙ sym s.served.split in
      let cs : calls s.served.front ≡ b.0 ++ call.Bye ∷ [] = ap calls (front ∙ all) ∙ calls_numbered 1 (script rounds) ∙ b.1 in
      quiet_none s.served.front (replies (own_of first.number s.entries)) ends.2 (subst (Has (λ (c : Call). c ≡ call.Bye)) (sym cs) (has_last b.0 call.Bye))

-- the calls of a pass are all its entries but work
own_without_work : (n : ℕ) (es : List Entry) → All (IsOwn n) es → own_of n es ≡ without_work es
own_without_work n [] h = refl
own_without_work n (e ∷ es) h = rw (eq-eqb e.by n (All-head (IsOwn n) e es h).by, same_work e.call, own_without_work n es (All-tail (IsOwn n) e es h)) refl

abbrev AreLively : List Reply → Type 0
AreLively rs = AllByRecursion IsLively rs

-- all replies of a session that ended by its bye are of a machine that stands
lively_replies : (is : List Request) (rs : List Reply) → length (calls is) ≡ length rs → AllByRecursion (λ (a : Answer). IsLively a.reply) (answers is rs) → AreLively rs
unfolding answers
lively_replies [] [] e h = tt
lively_replies [] (r ∷ rs) e h = absurd (omega (arith, e))
lively_replies (i ∷ is) rs e h = go i.asked rs (λ ts t. lively_replies is ts t) e h
  where
    go : (a : RequestKind) (rs : List Reply) → ((ts : List Reply) → length (calls is) ≡ length ts → AllByRecursion (λ (a : Answer). IsLively a.reply) (answers is ts) → AreLively ts)
        → length (option_to_list (call_in a) ++ calls is) ≡ length rs → IsLively (reply_for a rs) × AllByRecursion (λ (a : Answer). IsLively a.reply) (answers is (replies_after a rs)) → AreLively rs
    go (asked.Call c) [] rest e h = absurd (omega (arith, e))
    go (asked.Call c) (r ∷ rs) rest e h = (h.0, rest rs (omega (arith, e)) h.1)
    go asked.Syntax rs rest e h = rest rs e h.1
    go asked.Long rs rest e h = rest rs e h.1

lively_answers : (before : List Answer) (last : Answer) → AllByRecursion IsQuiet before → last.reply ≡ reply.Bye → AllByRecursion (λ (a : Answer). IsLively a.reply) (before ++ last ∷ [])
lively_answers [] last q e = (subst IsLively (sym e) (record { memory = λ x. cc; alive = λ x. cc }), tt)
lively_answers (a ∷ before) last q e = (record { memory = q.0.memory; alive = q.0.alive }, lively_answers before last q.1 e)

lively_entries : (es : List Entry) → AreLively (replies es) → AllByRecursion (λ (e : Entry). IsLively e.reply) es
lively_entries [] h = tt
lively_entries (e ∷ es) h = (h.0, lively_entries es h.1)

-- a shut isn't counted
shut_uncounted : (xs rest : List Entry) (n : ℕ) → IsShutAlone n rest → tally_of (xs ++ own_of n rest) ≡ tally_of xs
shut_uncounted xs rest n (inl none) = ap (λ es. tally_of (xs ++ es)) (sym (same_calls n rest) ∙ none) ∙ ap tally_of (append-nil xs)
shut_uncounted xs rest n (inr one) = ap (λ es. tally_of (xs ++ es)) (sym (same_calls n rest) ∙ one.1) ∙ tally_push xs (record { by = n; call = call.Shut; reply = one.0 }) _

module _ (start end : World) (p q : Seen) (by : How) (t : Tally) (c : ServesCounted start end p q by t) where
  abbrev s : Session start end (standing_of p) (standing_of c.mid) by
  s = c.serves.over.session

  abbrev v : Visits (visit p None) (visit c.mid c.serves.started)
  v = c.serves.visits

  abbrev back : Closed c.mid q
  back = closed c.mid q c.shuts

  same_entries : s.entries ≡ v.entries
  same_entries = cancel p.history s.entries v.entries (sym s.history ∙ v.history)

  history : q.history ≡ p.history ++ (v.entries ++ back.rest)
  history = back.history ∙ ap (λ es. es ++ back.rest) v.history ∙ append_assoc p.history v.entries back.rest

  -- what is printed is the count of the calls
  pub tally_is : t ≡ tally_of_calls p q
  tally_is =
      let before : drop (length p.history) c.mid.history ≡ v.entries = ap (drop (length p.history)) v.history ∙ drop-append_seam p.history v.entries in
      let after : drop (length p.history) q.history ≡ v.entries ++ back.rest = ap (drop (length p.history)) history ∙ drop-append_seam p.history (v.entries ++ back.rest) in
      let split : own_of p.number (v.entries ++ back.rest) ≡ own_of p.number v.entries ++ own_of p.number back.rest = filter-append _ v.entries back.rest in
      c.tally_is ∙ ap (λ es. tally_of (own_of p.number es)) before
      ∙ sym (shut_uncounted (own_of p.number v.entries) back.rest p.number (subst (λ (n : ℕ). IsShutAlone n back.rest) v.number back.alone))
      ∙ ap tally_of (sym split) ∙ ap (λ es. tally_of (own_of p.number es)) (sym after)

  pub hosts_of : Hosts start end p q by
  hosts_of = hosted_alone start end p c.mid q by c.serves c.shuts c.causes c.legal

  -- where no call was left, none is
  pub left_none : c.mid.left ≡ 0 → q.left ≡ 0
  left_none none = elim c.shuts [ inl same ↦ ap (λ (x : Seen). x.left) same.1 ∙ none | inr some ↦ absurd (let more = some.0 in omega arith) ]

  pub lost_after : HasLostWork s.entries → HasLostWork q.history
  lost_after lost = (
    lost.0,
    subst (λ hs. Contains hs lost.0) (sym back.history) (Contains-append_left c.mid.history back.rest lost.0
        (subst (λ hs. Contains hs lost.0) (sym s.history) (Contains-append_right p.history s.entries lost.0 lost.1))),
    lost.2,
    lost.3,
  )

  module _ (rounds : ℕ) (stay : ItemsStay) (read : ScriptIsRead) (bye_last : ByeIsLast) (rest : start.rest ≡ Some (script_text rounds)) (empty : end.ended ≡ true → IfSome end.rest (λ bytes. bytes ≡ [])) where
    -- the script asks for no stop
    no_stops : ¬ Has IsStop (own_of p.number v.entries)
    no_stops has =
        let f = front_of rounds start end (standing_of p) (standing_of c.mid) stay read bye_last rest empty by s in
        let own : Has IsStop (own_of p.number s.entries) = subst (λ es. Has IsStop (own_of p.number es)) (sym same_entries) has in
        script_calls rounds (subst (Has (λ (d : Call). d ≡ call.Stop)) f.1 (has_left (λ (d : Call). d ≡ call.Stop) (calls s.served.front) f.0
        (subst (Has (λ (d : Call). d ≡ call.Stop)) s.served.calls_are (called_stop (own_of p.number s.entries) own))))

    holds : HoldsAsBefore p q
    holds = record {
      place = back.holds.place ∙ v.place;
      number = back.holds.number ∙ v.number;
      held = back.holds.held ∙ v.held;
      kin = back.holds.kin ∙ v.kin;
      splits = back.holds.splits ∙ v.splits;
      asked = back.holds.asked ∙ sym v.asked ∙ unasked p.number v.entries (asking (visit p None)) no_stops;
    }

    own : All (λ (e : Entry). Contains p.held e.by → e.by ≡ p.number) (v.entries ++ back.rest)
    own = All-append (λ (e : Entry). Contains p.held e.by → e.by ≡ p.number) v.entries back.rest v.own
        (All-weaker (λ (e : Entry). Contains c.mid.held e.by → e.by ≡ c.mid.number) (λ (e : Entry). Contains p.held e.by → e.by ≡ p.number)
        (λ e h has. h (subst (λ ns. Contains ns e.by) (sym v.held) has) ∙ v.number) back.rest back.only)

    busy : All IsBusy (all_own_of p.number (v.entries ++ back.rest))
    busy = subst (All IsBusy) (sym (filter-append (λ (e : Entry). e.by == p.number) v.entries back.rest))
        (All-append IsBusy (all_own_of p.number v.entries) (all_own_of p.number back.rest) v.busy (subst (λ (n : ℕ). All IsBusy (all_own_of n back.rest)) v.number back.busy))

    pub kept_of : AllowedIsReply → IsNew p → IsHistory q.number q.history
    kept_of law new = kept p q (v.entries ++ back.rest) new history own holds c.causes law c.legal busy

    pub number_is : q.number ≡ p.number
    number_is = holds.number

    pub place_is : q.place ≡ p.place
    place_is = holds.place

module _ (rounds : ℕ) (few : rounds ≤ 10000) (start end : World) (p q : Seen) (stay : ItemsStay) (read : ScriptIsRead) (bye_last : ByeIsLast) (rest : start.rest ≡ Some (script_text rounds)) (empty : end.ended ≡ true → IfSome end.rest (λ bytes. bytes ≡ []))
    (law : AllowedIsReply) (new : IsNew p) (t : Tally) (c : ServesCounted start end p q how.Bye t) where
  abbrev session : Session start end (standing_of p) (standing_of c.mid) how.Bye
  session = c.serves.over.session

  abbrev behind : Closed c.mid q
  behind = closed c.mid q c.shuts

  same_number : q.number ≡ p.number
  same_number = number_is start end p q how.Bye t c rounds stay read bye_last rest empty

  kept_own : All (IsOwn p.number) c.mid.history
  kept_own = all_front (IsOwn p.number) c.mid.history behind.rest (subst (All (IsOwn p.number)) behind.history
      (subst (λ (n : ℕ). All (IsOwn n) q.history) same_number (kept_of start end p q how.Bye t c rounds stay read bye_last rest empty law new).own))

  entered_mid : c.mid.history ≡ session.entries
  entered_mid = session.history ∙ ap (λ es. es ++ session.entries) new.history

  calls_are : map (λ (e : Entry). e.call) (own_of p.number c.mid.history) ≡ script rounds
  calls_are = ap (λ es. map (λ (e : Entry). e.call) (own_of p.number es)) entered_mid ∙ all_called rounds start end (standing_of p) (standing_of c.mid) stay read bye_last rest empty session

  lively : AllByRecursion (λ (e : Entry). IsLively e.reply) (without_work c.mid.history)
  lively =
      let ends = session.served.ends.0 in
      let given = subst (AllByRecursion (λ (a : Answer). IsLively a.reply)) (sym ends.by.split) (lively_answers ends.by.before ends.by.last ends.by.quiet ends.by.is) in
      let own = lively_entries (own_of p.number session.entries) (lively_replies session.served.front (replies (own_of p.number session.entries)) (replies_fit session.served.front (own_of p.number session.entries) session.served.calls_are) given) in
      subst (AllByRecursion (λ (e : Entry). IsLively e.reply)) (ap (own_of p.number) (sym entered_mid) ∙ own_without_work p.number c.mid.history kept_own) own

  plays : Plays rounds c.mid.history behind.rest
  plays = record {
    few = few;
    legal = subst IsLegal behind.history c.legal;
    calls_are = ap (map (λ (e : Entry). e.call)) (sym (own_without_work p.number c.mid.history kept_own)) ∙ calls_are;
    lively = lively;
  }

  pub played_of : IsPlayed rounds q
  played_of = record {
    mid = c.mid.history;
    behind = behind.rest;
    split = behind.history;
    calls_are = subst (λ (n : ℕ). map (λ (e : Entry). e.call) (own_of n c.mid.history) ≡ script rounds) (sym same_number) calls_are;
    shut = subst (λ (n : ℕ). IsShutAlone n behind.rest) (sym behind.holds.number) behind.alone;
    spent = λ none. behind.spent (subst (λ (n : ℕ). own_of n behind.rest ≡ []) behind.holds.number none);
  }

  -- all that was counted is counted of the history
  tally_mid : CallsAloneAreCounted → tally_of_calls p q ≡ tally_of c.mid.history
  tally_mid alone =
      sym (tally_is start end p q how.Bye t c) ∙ c.tally_is
      ∙ ap (λ (es : List Entry). tally_of (own_of p.number (drop (length es) c.mid.history))) new.history
      ∙ ap tally_of (own_without_work p.number c.mid.history kept_own) ∙ alone c.mid.history

  pub counted_of : CallsAloneAreCounted → VariablesAreTold → ClausesAreTaken → FewAreSat → FewAreUnsat → AreCounted rounds (tally_of_calls p q)
  counted_of alone vars clauses sat unsat =
      let same = tally_mid alone in record {
        vars = ap (λ (t : Tally). t.vars) same ∙ vars rounds c.mid.history behind.rest plays;
        clauses = ap (λ (t : Tally). t.clauses) same ∙ clauses rounds c.mid.history behind.rest plays;
        sat = subst (λ (t : Tally). t.sat ≤ 2) (sym same) (sat rounds c.mid.history behind.rest plays);
        unsat = subst (λ (t : Tally). t.unsat ≤ rounds) (sym same) (unsat rounds c.mid.history behind.rest plays);
      }

none_ended : (es : List Entry) → es ≡ [] → ¬ HasEnded es
none_ended [] e ended = let at = ended.1.1 in omega arith
none_ended (x ∷ es) e ended = absurd cc

-- there was no memory for the script
pub not_drilled : (rounds : ℕ) (old : World) (p : Seen) → IsLegal p.history → HasDrilled drilled.NoMemory rounds old old p p
not_drilled rounds old p legal = record {
  ends = (inl refl, refl);
  place = refl;
  legal = legal;
  kept = λ new. record { legal = legal; own = subst (All (IsOwn p.number)) (sym new.history) (All-nil (IsOwn p.number)) };
  played = λ new e. absurd cc;
  counted = λ new e. absurd cc;
  whole = λ new u. absurd (u.memory refl);
}

module _ (rounds : ℕ) (few : rounds ≤ 10000) (start end old now : World) (p q : Seen) (stay : ItemsStay) (read : ScriptIsRead) (short : ScriptIsShort) (bye_last : ByeIsLast) (rest : start.rest ≡ Some (script_text rounds)) (empty : end.ended ≡ true → IfSome end.rest (λ bytes. bytes ≡ []))
    (law : AllowedIsReply) (quarter : UsesAQuarter) (t : Tally) where
  abbrev Served : How → Type 0
  Served by = ServesCounted start end p q by t

  abbrev Told : How → Drilled → Type 0
  Told by d = TellsDrill by d rounds old now t

  never_eof : ¬ Served how.Eof
  never_eof c = no_eof rounds start end (standing_of p) (standing_of c.mid) stay read bye_last rest empty c.serves.over.session

  -- the script is short, so what is too much is that no call is left
  spent_all : Served how.TooMuch → q.left ≡ 0
  spent_all c = elim c.serves.over.session.served.ends.0 [
    | inl many ↦ absurd (let taken = few_bytes rounds start end (standing_of p) (standing_of c.mid) stay read bye_last rest empty how.TooMuch c.serves.over.session in let all = (short rounds).1 in omega arith)
    | inr spent ↦ left_none start end p q how.TooMuch t c spent.1
  ]

  abbrev played_by : (by : How) → Served by → drill.Plays rounds p q by
  played_by by c = record { start = start; end = end; rest = rest; has = has_hosted start end p q by (hosts_of start end p q by t c) quarter }

  ends_of : (by : How) (d : Drilled) → Told by d → Served by → DrillEnds d rounds old now p q
  ends_of how.Bye drilled.Done told c = (played_by how.Bye c, subst (λ (x : Tally). Wrote old now (tally_text rounds x)) (tally_is start end p q how.Bye t c) told)
  ends_of how.Bye drilled.Cut told c = (played_by how.Bye c, subst (λ (x : Tally). WroteCut old now (tally_text rounds x)) (tally_is start end p q how.Bye t c) told)
  ends_of how.NoMemory drilled.NoMemory told c = (inr (inl (played_by how.NoMemory c)), told)
  ends_of how.ReadFault drilled.NoMemory told c = (inr (inr (inl (played_by how.ReadFault c))), told)
  ends_of how.WriteFault drilled.NoMemory told c = (inr (inr (inr (played_by how.WriteFault c))), told)
  ends_of how.TooMuch drilled.TooMuch told c = ((played_by how.TooMuch c, spent_all c), told)
  ends_of how.Dead drilled.Dead told c = (played_by how.Dead c, told)
  ends_of how.Eof drilled.Dead told c = absurd (never_eof c)
  ends_of by d told c = elim told [ ]

  played : (by : How) (d : Drilled) → Told by d → Served by → IsNew p → d ≡ drilled.Done → IsPlayed rounds q
  played how.Bye drilled.Done told c new e = played_of rounds few start end p q stay read bye_last rest empty law new t c
  played by drilled.Done told c new e = elim told [ ]
  played by d told c new e = absurd cc

  counted : CallsAloneAreCounted → VariablesAreTold → ClausesAreTaken → FewAreSat → FewAreUnsat → (by : How) (d : Drilled) → Told by d → Served by → IsNew p → d ≡ drilled.Done → AreCounted rounds (tally_of_calls p q)
  counted alone vars clauses sat unsat how.Bye drilled.Done told c new e = counted_of rounds few start end p q stay read bye_last rest empty law new t c alone vars clauses sat unsat
  counted alone vars clauses sat unsat by drilled.Done told c new e = elim told [ ]
  counted alone vars clauses sat unsat by d told c new e = absurd cc

  lost_dead : Served how.Dead → IsNew p → HasLostWork q.history
  lost_dead c new =
      let k = kept_of start end p q how.Dead t c rounds stay read bye_last rest empty law new in
      let all : All (IsOwn p.number) q.history = subst (λ (n : ℕ). All (IsOwn n) q.history) (number_is start end p q how.Dead t c rounds stay read bye_last rest empty) k.own in
      let b = closed c.mid q c.shuts in
      let mid : All (IsOwn p.number) c.mid.history = all_front (IsOwn p.number) c.mid.history b.rest (subst (All (IsOwn p.number)) b.history all) in
      let es : All (IsOwn p.number) c.serves.over.session.entries = subst (All (IsOwn p.number)) (c.serves.over.session.history ∙ ap (λ xs. xs ++ c.serves.over.session.entries) new.history) mid in
      lost_after start end p q how.Dead t c
      (lost start end (standing_of p) (standing_of c.mid) how.Dead c.serves.over.session c.serves.legal (All-weaker (IsOwn p.number) (IsOurs p.number) (λ e o. inl o.by) c.serves.over.session.entries es) refl (none_ended p.history new.history))

  whole : (by : How) (d : Drilled) → Told by d → Served by → IsNew p → IsUndisturbed d rounds old now q → d ≡ drilled.Done
  whole how.Bye drilled.Done told c new u = refl
  whole how.Bye drilled.Cut told c new u = absurd (u.writes told.cause)
  whole how.NoMemory drilled.NoMemory told c new u = absurd (u.memory refl)
  whole how.ReadFault drilled.NoMemory told c new u = absurd (u.memory refl)
  whole how.WriteFault drilled.NoMemory told c new u = absurd (u.memory refl)
  whole how.TooMuch drilled.TooMuch told c new u = absurd (let none = spent_all c in let some = u.calls in omega arith)
  whole how.Dead drilled.Dead told c new u = absurd (u.work (lost_dead c new))
  whole how.Eof drilled.Dead told c new u = absurd (never_eof c)
  whole by d told c new u = elim told [ ]

  -- all that holds of a drill that was served on a pass
  pub has_drilled : CallsAloneAreCounted → VariablesAreTold → ClausesAreTaken → FewAreSat → FewAreUnsat → (by : How) (d : Drilled) → Told by d → Served by → HasDrilled d rounds old now p q
  has_drilled alone vars clauses sat unsat by d told c = record {
    ends = ends_of by d told c;
    place = place_is start end p q by t c rounds stay read bye_last rest empty;
    legal = c.legal;
    kept = kept_of start end p q by t c rounds stay read bye_last rest empty law;
    played = played by d told c;
    counted = counted alone vars clauses sat unsat by d told c;
    whole = whole by d told c;
  }

-- a session whose answers were counted, by other words for its pass
pub counted_on : (old new : World) (p a b mid q : Seen) (by : How) (s t : Option ℕ) (count : Tally) → a ≡ p → s ≡ None → mid ≡ b
    → Over old new (standing_of a) (standing_of b) (Rose 0 0) by → Visits (visit a s) (visit b t) → IsLegal mid.history → Shuts mid q → HasCauses q → IsLegal q.history
    → count ≡ tally_since (standing_of a) (standing_of b) → ServesCounted old new p q by count
counted_on old new p a b mid q by s t count first fresh last over v legal_mid shuts causes legal is = record {
  mid = mid;
  serves = record {
    over = subst (λ (x : Seen). Over old new (standing_of p) (standing_of x) ⊥ by) (sym last)
        (subst (λ (x : Seen). Over old new (standing_of x) (standing_of b) ⊥ by) first (never_starved old new (standing_of a) (standing_of b) by over));
    started = t;
    visits = visits_as p a b mid s t first fresh last v;
    legal = legal_mid;
  };
  shuts = shuts;
  causes = causes;
  legal = legal;
  tally_is = is ∙ (λ i. tally_since (standing_of (first i)) (standing_of (sym last i)));
}
