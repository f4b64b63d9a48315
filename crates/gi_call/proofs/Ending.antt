-- How a client ends.
use Rattle.std.proofs.Common.{◌≡◌, inl, inr, ℕ, ◌+◌, ◌^◌, ◌≤◌, Bool, true, false, List, [], ◌∷◌, ◌++◌, length, map, refl, ap, sym, ◌∙◌, subst}
use Rattle.std.specs.List.{AllByRecursion}
use Rattle.std.proofs.lemmas.List.{append-nil, map-append}
use Rattle.gi_outside.specs.Link.{ins}
use Rattle.gi_outside.specs.World.{World, Wrote}
use Rattle.gi_model.specs.declared.calls.Call.{Call}
use Rattle.gi_model.specs.declared.replies.Reply.{Reply}
use Rattle.gi_kept.specs.Exchanges.{AreTrue, Exchange}
use Rattle.gi_kept.specs.Kept.{nothing_kept}
use Rattle.gi_wire.specs.CallText.{call_text}
use Rattle.gi_wire.specs.Gives.{GivesItem}
use Rattle.gi_wire.specs.Items.{item, items}
use Rattle.gi_wire.specs.Source.{Source, ahead}
use Rattle.gi_wire.specs.declared.reader.RequestKind.TheVariants as asked
use Rattle.gi_wire.specs.declared.reader.Request.{Request}
use Rattle.gi_net.specs.Answers.{Answer, texts}
use Rattle.gi_net.proofs.Answering.{All-append}
use Rattle.gi_call.specs.declared.end.CallEnd.{CallEnd}
use Rattle.gi_call.specs.declared.end.CallEnd.TheVariants as by
use Rattle.gi_call.specs.declared.asking.Asking.{Asking}
use Rattle.gi_call.specs.Called.{Called, Ends, GoesOn, HasCause, IsAwaiting, IsBetween, IsEven, IsMidCall, IsRightAnswer, Talk, talk}
use Rattle.gi_call.specs.Exchanged.{Heard, IsWhole, call_texts, exchanges}
use Rattle.gi_call.specs.MidCall.{Calling, Exchanging, Stops, Stuck, Told, Typed}
use Rattle.gi_call.proofs.Exchanging.{exchanges_more}
use Rattle.gi_call.proofs.Typing.{typed_item, typed_wrote}

pub heard_at : (es : List Exchange) (behind came : List ℕ) (ended now : Bool) → Heard es behind ended came → (ended ≡ true → now ≡ true) → Heard es behind now came
heard_at es behind came ended now h closed = elim h [ inl e ↦ inl e | inr f ↦ inr (closed f.0, f.1, f.2) ]

-- the two sides when the client ends
pub record Sides (server sv user uv : World) (given : List Answer) (sent printed : List ℕ) (source : Source) : Type 0 where
  pub stuck : Stuck server sv (exchanges given) sent
  pub taken : ℕ
  pub typed : Typed user uv source taken (map (λ (a : Answer). a.item) given) printed
  pub same : uv.ended ≡ source.lines.ended
  pub right : AllByRecursion IsRightAnswer given
  pub models : AreTrue nothing_kept (exchanges given)

abbrev pub talk_of : {server sv user uv : World} {given : List Answer} {sent printed : List ℕ} {source : Source} → Sides server sv user uv given sent printed source → Talk
talk_of {sv = sv} {uv = uv} {given = given} {source = source} s = talk given (ahead source source.lines.ended []) s.stuck.spoken.added s.typed.added sv.ended uv.ended

pub called : {server sv user uv : World} {given : List Answer} {sent printed : List ℕ} {source : Source} (end : CallEnd) (s : Sides server sv user uv given sent printed source) → Ends end (talk_of s) → HasCause end server sv user uv → Called server sv user uv end
called {uv = uv} {given = given} {source = source} end s ends cause = record {
  spoken = s.stuck.spoken.added;
  typed = s.typed.added;
  server_tape = s.stuck.spoken.tape;
  server_rest = s.stuck.spoken.rest;
  user_tape = s.typed.tape;
  user_rest = s.typed.rest;
  server_reads = s.stuck.spoken.reads;
  server_writes = s.stuck.spoken.writes;
  user_reads = s.typed.reads;
  user_writes = s.typed.writes;
  server_pieces = s.stuck.spoken.pieces;
  user_pieces = s.typed.pieces;
  given = given;
  rest = ahead source source.lines.ended [];
  split = ap (λ (e : Bool). items e (ins s.typed.added)) s.same ∙ ap (items source.lines.ended) (sym (append-nil (ins s.typed.added))) ∙ s.typed.items_are source.lines.ended [] (λ e. (e, refl));
  turns = s.stuck.spoken.turns;
  models = s.models;
  ends = ends;
  cause = cause;
}

-- the sides of a client that goes on
abbrev pub sides_now : {server sv user uv : World} {c : Asking} {source : Source} {taken : ℕ} (x : Calling server sv user uv c source taken) → uv.ended ≡ source.lines.ended → Sides server sv user uv x.given (call_texts (exchanges x.given)) (texts x.given) source
sides_now {c = c} {taken = taken} x same = record {
  stuck = record { lines = c.lines; taken = c.taken; spoken = x.spoken.spoken };
  taken = taken;
  typed = x.typed;
  same = same;
  right = x.right;
  models = x.spoken.models;
}

-- every answer was printed
pub even : {server sv user uv : World} {given : List Answer} {source : Source} (s : Sides server sv user uv given (call_texts (exchanges given)) (texts given) source) → IsEven (talk_of s)
even {sv = sv} {given = given} s = record {
  printed = s.typed.printed_is;
  sent = s.stuck.spoken.sent_is;
  behind = s.stuck.lines.left;
  heard = heard_at (exchanges given) s.stuck.lines.left (ins s.stuck.spoken.added) s.stuck.lines.ended sv.ended s.stuck.spoken.heard s.stuck.spoken.closed;
  right = s.right;
}

pub between : {server sv user uv : World} {given : List Answer} {source : Source} (s : Sides server sv user uv given (call_texts (exchanges given)) (texts given) source)
    → AllByRecursion GoesOn given → source.lines.ended ≡ false → ahead source false [] ≡ [] → IsBetween (talk_of s)
between {source = source} s goes still_open none = record {
  even = even s;
  goes_on = goes;
  answered = ap (λ (e : Bool). ahead source e []) still_open ∙ none;
  not_ended = s.same ∙ still_open;
}

-- a call was sent and not answered
pub awaiting : {server sv user uv : World} {given : List Answer} {source : Source} (call : Call) (s : Sides server sv user uv given (call_texts (exchanges given) ++ call_text call) (texts given) source) (line : ℕ) (later : List Request)
    → AllByRecursion GoesOn given → ahead source source.lines.ended [] ≡ item line (asked.Call call) ∷ later → IsAwaiting (talk_of s) call (length (exchanges given) + 1) s.stuck.lines.left
awaiting {sv = sv} {given = given} call s line later goes next = record {
  printed = s.typed.printed_is;
  sent = s.stuck.spoken.sent_is;
  heard = heard_at (exchanges given) s.stuck.lines.left (ins s.stuck.spoken.added) s.stuck.lines.ended sv.ended s.stuck.spoken.heard s.stuck.spoken.closed;
  right = s.right;
  goes_on = goes;
  line = line;
  later = later;
  next = next;
  number_is = refl;
}

whole_at : (ended now : Bool) (bytes : List ℕ) → IsWhole ended bytes → (ended ≡ true → now ≡ true) → IsWhole now bytes
whole_at ended now bytes h closed = elim h [ inl e ↦ inl e | inr f ↦ inr (closed f.0, f.1) ]

-- the call of an item ended the client
pub call_ends : {server sv user uv : World} {source : Source} (given : List Answer) (end : CallEnd) (call : Call) (line taken : ℕ) (later : List Request)
    → Typed user uv source taken (map (λ (a : Answer). a.item) given) (texts given) → uv.ended ≡ source.lines.ended → AllByRecursion IsRightAnswer given → AreTrue nothing_kept (exchanges given) → AllByRecursion GoesOn given
    → ahead source source.lines.ended [] ≡ item line (asked.Call call) ∷ later → Stops end call server sv (exchanges given) → Called server sv user uv end
call_ends {server = server} {sv = sv} {user = user} {uv = uv} {source = source} given end call line taken later typed same right models goes next stops = of end stops where
  sides : {sent : List ℕ} → Stuck server sv (exchanges given) sent → Sides server sv user uv given sent (texts given) source
  sides stuck = record { stuck = stuck; taken = taken; typed = typed; same = same; right = right; models = models }

  mid : (s : Sides server sv user uv given (call_texts (exchanges given) ++ call_text call) (texts given) source) → IsMidCall (talk_of s)
  mid s = record { call = call; number = length (exchanges given) + 1; behind = s.stuck.lines.left; awaits = awaiting call s line later goes next }

  of : (end : CallEnd) → Stops end call server sv (exchanges given) → Called server sv user uv end
  of (by.BadReply k) h =
      let s = sides h.1.0 in
      called (by.BadReply k) s (record {
        call = call;
        behind = h.1.0.lines.left;
        awaits = subst (λ (n : ℕ). IsAwaiting (talk_of s) call n h.1.0.lines.left) (sym h.0) (awaiting call s line later goes next);
        bad = elim h.1.1 [ inl long ↦ inl long | inr none ↦ inr (whole_at h.1.0.lines.ended sv.ended h.1.0.lines.left none.0 h.1.0.spoken.closed, none.1) ];
      }) tt
  of (by.FalseModel k) h =
      let s = sides h.1.0 in
      called (by.FalseModel k) s (record {
        behind = h.1.0.lines.left;
        awaits = subst (λ (w : Call). IsAwaiting (talk_of s) w k h.1.0.lines.left) h.1.1.call_is (subst (λ (n : ℕ). IsAwaiting (talk_of s) call n h.1.0.lines.left) (sym h.0) (awaiting call s line later goes next));
        whole = whole_at h.1.0.lines.ended sv.ended h.1.0.lines.left h.1.1.whole h.1.0.spoken.closed;
        model = h.1.1.model;
        line_is = h.1.1.line_is;
        untrue = h.1.1.untrue;
      }) tt
  of by.Early h =
      let s = sides h.0 in
      called by.Early s (record {
        call = call;
        number = length (exchanges given) + 1;
        awaits = subst (λ (xs : List ℕ). IsAwaiting (talk_of s) call (length (exchanges given) + 1) xs) h.1 (awaiting call s line later goes next);
        ended = h.0.spoken.closed h.2;
      }) tt
  of by.ReadFault h = let s = sides h.0 in called by.ReadFault s (inr (mid s)) (inl h.1)
  of by.NoMemory h =
      let s = sides h.0 in
      called by.NoMemory s (inr (record { call = call; number = length (exchanges given) + 1; behind = h.0.lines.left; awaits = awaiting call s line later goes next }, h.1)) tt
  of by.TooMuch h =
      let s = sides h.0 in
      called by.TooMuch s (inr (mid s, subst (λ (n : ℕ). 2 ^ 62 ≤ n) (sym h.0.spoken.taken_is) h.1)) tt
  of by.WriteFault h =
      let s = sides h.stuck in
      called by.WriteFault s (inl (record {
        printed = s.typed.printed_is;
        line = line;
        call = call;
        later = later;
        next = next;
        cut = h.cut;
        is_cut = h.is_cut;
        sent = h.stuck.spoken.sent_is;
        behind = h.stuck.lines.left;
        heard = heard_at (exchanges given) h.stuck.lines.left (ins h.stuck.spoken.added) h.stuck.lines.ended sv.ended h.stuck.spoken.heard h.stuck.spoken.closed;
        right = right;
        goes_on = goes;
      })) (inl h.cause)
  of by.Done h = absurd h

-- with one more item answered
pub sides_told : {server sv sw user uv : World} {c d : Asking} {source : Source} {taken : ℕ} (t : Source) (i : Request) (answer : Reply) (bytes : List ℕ) (uw : World)
    (x : Calling server sv user uv c source taken) → uv.ended ≡ source.lines.ended → GivesItem i source t → Told i answer server sw d (exchanges x.given) → Wrote uv uw bytes
    → Sides server sw user uw (x.given ++ record { item = i; reply = answer } ∷ []) (call_texts (exchanges (x.given ++ record { item = i; reply = answer } ∷ []))) (texts x.given ++ bytes) t
sides_told {server = server} {sw = sw} {user = user} {d = d} {taken = taken} t i answer bytes uw x same gives told wrote =
    let a : Answer = record { item = i; reply = answer } in
    let more = exchanges_more x.given a in
    let now : Exchanging server sw d (exchanges (x.given ++ a ∷ [])) = subst (λ (es : List Exchange). Exchanging server sw d es) (sym more) told.spoken in
    record {
      stuck = record { lines = d.lines; taken = d.taken; spoken = now.spoken };
      taken = taken;
      typed = subst (λ (is : List Request). Typed user uw t taken is (texts x.given ++ bytes)) (sym (map-append (λ (b : Answer). b.item) x.given (a ∷ []))) (typed_wrote uw bytes (typed_item t i x.typed gives) wrote);
      same = wrote.ended ∙ same ∙ sym gives.ended;
      right = All-append IsRightAnswer x.given (a ∷ []) x.right (told.right, tt);
      models = now.models;
    }
