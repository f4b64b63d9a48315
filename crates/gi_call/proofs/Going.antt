-- A client that goes on, and how an item or a read ends it.
use Rattle.std.proofs.Common.{◌≡◌, ◌⊎◌, inl, inr, ℕ, ◌^◌, ◌<◌, ◌≤◌, Bool, true, false, List, [], ◌∷◌, ◌++◌, map, Option, Some, None, refl, ap, sym, ◌∙◌, subst, arith}
use Rattle.std.proofs.lemmas.List.{map-append}
use Rattle.gi_outside.specs.Link.{ins}
use Rattle.gi_outside.specs.World.{World}
use Rattle.gi_outside.proofs.Writing.{rose_since}
use Rattle.gi_model.specs.declared.calls.Call.{Call}
use Rattle.gi_model.specs.declared.replies.Reply.{Reply}
use Rattle.gi_kept.specs.Exchanges.{Exchange, kept_by}
use Rattle.gi_kept.specs.Kept.{nothing_kept}
use Rattle.gi_wire.specs.Gives.{GivesItem, SameAhead}
use Rattle.gi_wire.specs.Items.{item}
use Rattle.gi_wire.specs.Source.{Source, ahead}
use Rattle.gi_wire.specs.Text.{text}
use Rattle.gi_wire.specs.declared.reader.RequestKind.{RequestKind}
use Rattle.gi_wire.specs.declared.reader.RequestKind.TheVariants as asked
use Rattle.gi_wire.specs.declared.reader.Request.{Request}
use Rattle.gi_net.specs.Answers.{Answer, texts}
use Rattle.gi_net.proofs.Answering.{All-append, texts_more}
use Rattle.gi_net.proofs.Moving.{opening, opening_ahead}
use Rattle.gi_call.specs.declared.end.CallEnd.{CallEnd}
use Rattle.gi_call.specs.declared.end.CallEnd.TheVariants as by
use Rattle.gi_call.specs.declared.asking.Asking.{Asking}
use Rattle.gi_call.specs.Called.{Called, GoesOn, HasRead}
use Rattle.gi_call.specs.Exchanged.{call_texts, exchanges}
use Rattle.gi_call.specs.MidCall.{AnswersItem, Breaks, Calling, Exchanging, Misses, PrintsCut, Stops, Tells, Told, Typed}
use Rattle.gi_call.proofs.Ending.{Sides, between, call_ends, called, even, heard_at, sides_now, sides_told, talk_of}
use Rattle.gi_call.proofs.Exchanging.{exchanges_more}
use Rattle.gi_call.proofs.Speaking.{begun}
use Rattle.gi_call.proofs.Telling.{bye_asked}
use Rattle.gi_call.proofs.Typing.{typed_item, typed_none, typed_same, typed_wrote}

abbrev answer_of : Request → Reply → Answer
answer_of i r = record { item = i; reply = r }

-- nothing was asked yet
pub calling_none : (server user : World) (c : Asking) → c.lines.left ≡ [] → c.lines.ended ≡ false → c.taken ≡ 0 → c.sent ≡ 0 → c.kept ≡ nothing_kept → Calling server server user user c opening 0
unfolding exchanges kept_by
calling_none server user c left still_open taken sent kept = record {
  given = [];
  typed = typed_none user opening opening_ahead;
  spoken = record {
    spoken = begun server c.lines c.taken left still_open taken;
    sent = sent;
    kept = kept;
    models = tt;
  };
  right = tt;
  goes_on = tt;
}

-- an item was answered so that the client goes on
pub item_goes : {server sv sw user uv uw : World} {c d : Asking} {source : Source} {taken : ℕ} (t : Source) (i : Request)
    (x : Calling server sv user uv c source taken) → uv.ended ≡ source.lines.ended → GivesItem i source t → AnswersItem None i server sw d (exchanges x.given) uv uw → Calling server sw user uw d t taken
item_goes {server = server} {sw = sw} {user = user} {uw = uw} {d = d} {taken = taken} t i x same gives told =
    let a : Answer = answer_of i told.reply in
    let s = sides_told t i told.reply (text i.line told.reply) uw x same gives told.told told.wrote in
    record {
      given = x.given ++ a ∷ [];
      typed = subst (λ (p : List Request × List ℕ). Typed user uw t taken p.0 p.1) (sym (ap (λ (is : List Request). (is, texts (x.given ++ a ∷ []))) (map-append (λ (b : Answer). b.item) x.given (a ∷ [])) ∙ ap (λ (out : List ℕ). (map (λ (b : Answer). b.item) x.given ++ i ∷ [], out)) (texts_more x.given a)))
          (typed_wrote uw (text i.line told.reply) (typed_item t i x.typed gives) told.wrote);
      spoken = subst (λ (es : List Exchange). Exchanging server sw d es) (sym (exchanges_more x.given a)) told.told.spoken;
      right = s.right;
      goes_on = All-append GoesOn x.given (a ∷ []) x.goes_on (told.ends, tt);
    }

-- a call ended the client before it was answered
breaks_end : {server sv sw user uv uw : World} {c : Asking} {source : Source} {taken : ℕ} (t : Source) (i : Request) (end : CallEnd)
    (x : Calling server sv user uv c source taken) → uv.ended ≡ source.lines.ended → GivesItem i source t → Breaks end i server sw (exchanges x.given) uv uw → Called server sw user uw end
breaks_end {server = server} {sw = sw} {user = user} {source = source} {taken = taken} t i end x same gives broke =
    subst (λ (u : World). Called server sw user u end) (sym broke.same)
    (call_ends x.given end broke.what i.line taken (ahead t source.lines.ended []) x.typed same x.right x.spoken.models x.goes_on
    (gives.ahead_is source.lines.ended [] (λ e. (e, refl)) ∙ ap (λ (k : RequestKind). item i.line k ∷ ahead t source.lines.ended []) broke.asked_is) broke.stops)

-- a bye was answered and printed
bye_ends : {server sv sw user uv uw : World} {c d : Asking} {source : Source} {taken : ℕ} (t : Source) (i : Request)
    (x : Calling server sv user uv c source taken) → uv.ended ≡ source.lines.ended → GivesItem i source t → AnswersItem (Some by.Done) i server sw d (exchanges x.given) uv uw → Called server sw user uw by.Done
bye_ends {server = server} {sw = sw} {user = user} {uw = uw} t i x same gives told =
    let a : Answer = answer_of i told.reply in
    let given : List Answer = x.given ++ a ∷ [] in
    let s : Sides server sw user uw given (call_texts (exchanges given)) (texts given) t = subst (λ (out : List ℕ). Sides server sw user uw given (call_texts (exchanges given)) out t) (sym (texts_more x.given a)) (sides_told t i told.reply (text i.line told.reply) uw x same gives told.told told.wrote) in
    called by.Done s (
      even s,
      inl (record {
        before = x.given;
        last = a;
        split = refl;
        goes_on = x.goes_on;
        asked_is = bye_asked i.asked told.reply told.told.right told.ends;
        is = told.ends;
      }),
    ) tt

-- an answer was cut
cut_ends : {server sv sw user uv uw : World} {c d : Asking} {source : Source} {taken : ℕ} (t : Source) (i : Request)
    (x : Calling server sv user uv c source taken) → uv.ended ≡ source.lines.ended → GivesItem i source t → PrintsCut i server sw d (exchanges x.given) uv uw → Called server sw user uw by.WriteFault
cut_ends {sw = sw} {user = user} {uv = uv} {uw = uw} t i x same gives told =
    let a : Answer = answer_of i told.reply in
    let s = sides_told t i told.reply told.cut.sent uw x same gives told.told told.cut.wrote in
    called by.WriteFault s (inr (record {
      before = x.given;
      last = a;
      split = refl;
      goes_on = x.goes_on;
      cut = told.cut.sent;
      is_cut = told.cut.cut;
      printed = s.typed.printed_is;
      sent = s.stuck.spoken.sent_is;
      behind = s.stuck.lines.left;
      heard = heard_at (exchanges (x.given ++ a ∷ [])) s.stuck.lines.left (ins s.stuck.spoken.added) s.stuck.lines.ended sw.ended s.stuck.spoken.heard s.stuck.spoken.closed;
      right = s.right;
    })) (inr (rose_since user.failed_writes uv.failed_writes uw.failed_writes x.typed.writes told.cut.cause))

-- an item was answered, or not, so that the client ends
pub item_ends : {server sv sw user uv uw : World} {c : Asking} {source : Source} {taken : ℕ} (d : Asking) (t : Source) (i : Request) (end : CallEnd)
    (x : Calling server sv user uv c source taken) → uv.ended ≡ source.lines.ended → GivesItem i source t → AnswersItem (Some end) i server sw d (exchanges x.given) uv uw → Called server sw user uw end
item_ends d t i by.Done x same gives told = bye_ends t i x same gives told
item_ends d t i by.WriteFault x same gives (inl told) = cut_ends t i x same gives told
item_ends d t i by.WriteFault x same gives (inr broke) = breaks_end t i by.WriteFault x same gives broke
item_ends d t i (by.BadReply k) x same gives broke = breaks_end t i (by.BadReply k) x same gives broke
item_ends d t i (by.FalseModel k) x same gives broke = breaks_end t i (by.FalseModel k) x same gives broke
item_ends d t i by.Early x same gives broke = breaks_end t i by.Early x same gives broke
item_ends d t i by.ReadFault x same gives broke = breaks_end t i by.ReadFault x same gives broke
item_ends d t i by.NoMemory x same gives broke = breaks_end t i by.NoMemory x same gives broke
item_ends d t i by.TooMuch x same gives broke = breaks_end t i by.TooMuch x same gives broke

-- the reader has let go of bytes that make no difference
pub same_goes : {server sv user uv : World} {c : Asking} {source : Source} {taken : ℕ} (t : Source) → Calling server sv user uv c source taken → SameAhead source t → t.lines.ended ≡ source.lines.ended → Calling server sv user uv c t taken
same_goes t x same ended = record { given = x.given; typed = typed_same t x.typed same ended; spoken = x.spoken; right = x.right; goes_on = x.goes_on }

-- every item was answered
pub all_ends : {server sv user uv : World} {c : Asking} {source : Source} {taken : ℕ} → Calling server sv user uv c source taken → uv.ended ≡ source.lines.ended → source.lines.ended ≡ true → ahead source true [] ≡ [] → Called server sv user uv by.Done
all_ends {source = source} x same ended none =
    let s = sides_now x same in
    called by.Done s (even s, inr (x.goes_on, same ∙ ended, ap (λ (e : Bool). ahead source e []) ended ∙ none)) tt

-- there was no memory for an item
pub memory_ends : {server sv user uv : World} {c : Asking} {source : Source} {taken : ℕ} → Calling server sv user uv c source taken → uv.ended ≡ source.lines.ended → (0 < taken) ⊎ (uv.ended ≡ true) → Called server sv user uv by.NoMemory
memory_ends x same read =
    let s = sides_now x same in
    called by.NoMemory s (inl (even s, x.goes_on, has_read)) tt where
      has_read : HasRead (talk_of (sides_now x same))
      has_read = elim read [ inl some ↦ inl (subst (λ (n : ℕ). 0 < n) (sym x.typed.taken_is) some) | inr ended ↦ inr ended ]

-- so many bytes were taken from the user
pub many_end : {server sv user uv : World} {c : Asking} {source : Source} {taken : ℕ} → Calling server sv user uv c source taken → uv.ended ≡ source.lines.ended → source.lines.ended ≡ false → ahead source false [] ≡ [] → 2 ^ 62 ≤ taken → Called server sv user uv by.TooMuch
many_end x same still_open none many =
    let s = sides_now x same in
    called by.TooMuch s (inl (between s x.goes_on still_open none, subst (λ (n : ℕ). 2 ^ 62 ≤ n) (sym x.typed.taken_is) many)) tt

-- a read from the user ended the client
pub read_ends : {server sv user uv uw : World} {c : Asking} {source : Source} {taken : ℕ} (end : CallEnd) (x : Calling server sv user uv c source taken)
    → Misses end user uw (map (λ (a : Answer). a.item) x.given) (texts x.given) → Called server sv user uw end
read_ends {server = server} {sv = sv} {user = user} {uw = uw} {c = c} end x misses = of end misses where
  sides : (source : Source) (taken : ℕ) → Typed user uw source taken (map (λ (a : Answer). a.item) x.given) (texts x.given) → uw.ended ≡ source.lines.ended
      → Sides server sv user uw x.given (call_texts (exchanges x.given)) (texts x.given) source
  sides source taken typed same = record {
    stuck = record { lines = c.lines; taken = c.taken; spoken = x.spoken.spoken };
    taken = taken;
    typed = typed;
    same = same;
    right = x.right;
    models = x.spoken.models;
  }

  of : (end : CallEnd) → Misses end user uw (map (λ (a : Answer). a.item) x.given) (texts x.given) → Called server sv user uw end
  of by.ReadFault h =
      let u = h.0.0 in
      let s = sides u.source u.taken u.typed (u.not_ended ∙ sym u.open_is) in
      called by.ReadFault s (inl (between s x.goes_on u.open_is h.0.1)) (inr h.1)
  of by.NoMemory h =
      let u = h.0 in
      let s = sides u.source u.taken u.typed (u.not_ended ∙ sym u.open_is) in
      called by.NoMemory s (inl (even s, x.goes_on, inl (subst (λ (n : ℕ). 0 < n) (sym u.typed.taken_is) h.1))) tt
  of by.Done h = absurd h
  of (by.BadReply k) h = absurd h
  of (by.FalseModel k) h = absurd h
  of by.Early h = absurd h
  of by.WriteFault h = absurd h
  of by.TooMuch h = absurd h

-- what a refusal or an answer that was printed comes to
pub told_item : (end : Option CallEnd) (i : Request) (answer : Reply) (server sv : World) (c : Asking) (es : List Exchange) (v w : World) → Told i answer server sv c es → Tells end i.line answer v w → AnswersItem end i server sv c es v w
told_item None i answer server sv c es v w told wrote = record { reply = answer; told = told; wrote = wrote.0; ends = wrote.1 }
told_item (Some by.Done) i answer server sv c es v w told wrote = record { reply = answer; told = told; wrote = wrote.0; ends = wrote.1 }
told_item (Some by.WriteFault) i answer server sv c es v w told cut = inl (record { reply = answer; told = told; cut = cut })
told_item (Some (by.BadReply k)) i answer server sv c es v w told none = absurd none
told_item (Some (by.FalseModel k)) i answer server sv c es v w told none = absurd none
told_item (Some by.Early) i answer server sv c es v w told none = absurd none
told_item (Some by.ReadFault) i answer server sv c es v w told none = absurd none
told_item (Some by.NoMemory) i answer server sv c es v w told none = absurd none
told_item (Some by.TooMuch) i answer server sv c es v w told none = absurd none

-- a call that ended the client
pub broken_item : (end : CallEnd) (i : Request) (call : Call) (server sv : World) (c : Asking) (es : List Exchange) (v : World) → i.asked ≡ asked.Call call → Stops end call server sv es → AnswersItem (Some end) i server sv c es v v
broken_item by.WriteFault i call server sv c es v e stops = inr (record { what = call; asked_is = e; stops = stops; same = refl })
broken_item by.Done i call server sv c es v e stops = absurd stops
broken_item (by.BadReply k) i call server sv c es v e stops = record { what = call; asked_is = e; stops = stops; same = refl }
broken_item (by.FalseModel k) i call server sv c es v e stops = record { what = call; asked_is = e; stops = stops; same = refl }
broken_item by.Early i call server sv c es v e stops = record { what = call; asked_is = e; stops = stops; same = refl }
broken_item by.ReadFault i call server sv c es v e stops = record { what = call; asked_is = e; stops = stops; same = refl }
broken_item by.NoMemory i call server sv c es v e stops = record { what = call; asked_is = e; stops = stops; same = refl }
broken_item by.TooMuch i call server sv c es v e stops = record { what = call; asked_is = e; stops = stops; same = refl }

-- a piece was read from the user
pub calling_read : {server sv user uv uw : World} {c : Asking} {source : Source} {taken now : ℕ} (t : Source) (x : Calling server sv user uv c source taken)
    → Typed user uw t now (map (λ (a : Answer). a.item) x.given) (texts x.given) → Calling server sv user uw c t now
calling_read t x typed = record { given = x.given; typed = typed; spoken = x.spoken; right = x.right; goes_on = x.goes_on }

-- either some bytes were read, or the user has ended
pub read_some : {before now : ℕ} {end : Bool} (ended : Bool) → (ended ≡ false → before < now) → end ≡ ended → (0 < now) ⊎ (end ≡ true)
read_some true grows e = inr e
read_some false grows e = inl (let h = grows refl in omega arith)
