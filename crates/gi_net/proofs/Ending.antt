-- How a session ends.
use Rattle.std.proofs.Common.{◌≡◌, ℕ, ◌^◌, ◌<◌, ◌≤◌, ◌⊎◌, inl, inr, List, [], ◌∷◌, ◌++◌, length, drop, map, Some, None, Bool, true, false, refl, ap, sym, ◌∙◌, subst, arith}
use Rattle.std.specs.List.{AllByRecursion}
use Rattle.std.proofs.Math.Seq.{drop-append_seam}
use Rattle.std.proofs.lemmas.List.{append-nil}
use Rattle.gi_outside.specs.Link.{Rose, ins, outs}
use Rattle.gi_outside.specs.Told.{Adds, Takes}
use Rattle.gi_outside.specs.World.{World}
use Rattle.gi_outside.proofs.Writing.{rose_since}
use Rattle.gi_model.specs.History.{Entry}
use Rattle.gi_model.specs.declared.calls.Call.{Call}
use Rattle.gi_model.specs.declared.calls.Call.TheVariants as call
use Rattle.gi_model.specs.declared.replies.Reply.{Reply}
use Rattle.gi_model.specs.declared.replies.Reply.TheVariants as reply
use Rattle.gi_model.specs.declared.refusal.Refusal.TheVariants as refusal
use Rattle.gi_outside.specs.declared.link.Piece.{Piece}
use Rattle.gi_outside.specs.declared.link.Piece.TheVariants.{In, Out}
use Rattle.gi_wire.specs.Gives.{AsksMemory, GivesItem, TakesMemory}
use Rattle.gi_wire.specs.Items.{items}
use Rattle.gi_wire.specs.Source.{Source, ahead}
use Rattle.gi_wire.specs.Text.{text}
use Rattle.gi_wire.specs.declared.reader.RequestKind.{RequestKind}
use Rattle.gi_wire.specs.declared.reader.RequestKind.TheVariants as asked
use Rattle.gi_wire.specs.declared.reader.Request.{Request}
use Rattle.gi_net.specs.declared.how.How.{How}
use Rattle.gi_net.specs.declared.how.How.TheVariants as how
use Rattle.gi_net.specs.Answers.{Answer, answers, texts}
use Rattle.gi_net.specs.Entries.{all_own_of, own_of, replies}
use Rattle.gi_net.specs.MidSession.{MidSession, SoFar}
use Rattle.gi_net.specs.Served.{SessionEnds, EndsBy, IsPrompt, IsQuiet}
use Rattle.gi_net.specs.Over.{IsBehindRead, NextTakesMemory, Over, Wanted}
use Rattle.gi_net.specs.Session.{HasCause, IsWaitFirst, Session}
use Rattle.gi_net.specs.Standing.{Standing}
use Rattle.gi_net.specs.Told.{AnswersRequest, AnswersItem, Closes, TellsNoMemory, Told, ToldCut, Unanswered, entry_of}
use Rattle.gi_net.proofs.Answering.{All-append, given_more, texts_more}
use Rattle.gi_net.proofs.Moving.{answered, broke_off, has_ended, wrote_on, wrote_on_added}
use Rattle.gi_net.proofs.Works.{works-map}

-- a session that went so far ends
pub session : {last : Type 0} {start w : World} {first h : Standing} {s : Source} {taken : ℕ} {done : List Request} {own : List Entry} {out : List ℕ} (by : How)
    → SoFar last start w first h s taken done own out → w.ended ≡ s.lines.ended → (last → IsWaitFirst (ahead s s.lines.ended []))
    → SessionEnds by s.lines.ended taken (h.left ≡ 0) (answers done (replies own)) (ahead s s.lines.ended []) out → HasCause by start w
    → Session start w first h by
session {last = last} {w = w} {first = first} {h = h} {s = s} {taken = taken} {done = done} {own = own} {out = out} by was same wait ends cause = record {
  added = was.added;
  entries = was.entries;
  tape = was.tape;
  rest = was.rest;
  reads = was.reads;
  writes = was.writes;
  number = was.number;
  history = was.history;
  left = was.left;
  served = record {
    front = done;
    rest = ahead s s.lines.ended [];
    split = ap (λ (e : Bool). items e (ins was.added)) same ∙ ap (items s.lines.ended) (sym (append-nil (ins was.added))) ∙ was.items_are s.lines.ended [] (λ e. (e, refl));
    calls_are = ap (map (λ (e : Entry). e.call)) was.own_is ∙ was.calls_are;
    ends = moved was.own_is was.out_is was.taken_is same;
  };
  prompt = subst (λ (xs : List Entry). IsPrompt xs was.added) (sym was.own_is) was.prompt;
  pieces = was.pieces;
  works = works-map last (IsWaitFirst (ahead s s.lines.ended [])) (all_own_of first.number was.entries) wait was.works;
  cause = cause;
} where
  moved : own_of first.number was.entries ≡ own → outs was.added ≡ out → length (ins was.added) ≡ taken → w.ended ≡ s.lines.ended → SessionEnds by w.ended (length (ins was.added)) (h.left ≡ 0) (answers done (replies (own_of first.number was.entries))) (ahead s s.lines.ended []) (outs was.added)
  moved a b c d = rw (a, b, c, d) ends

-- with what memory was asked for
over : {last starved : Type 0} {start w : World} {first h : Standing} {s : Source} {taken : ℕ} {done : List Request} {own : List Entry} {out : List ℕ} (by : How)
    (was : SoFar last start w first h s taken done own out) → w.ended ≡ s.lines.ended → (last → IsWaitFirst (ahead s s.lines.ended []))
    → SessionEnds by s.lines.ended taken (h.left ≡ 0) (answers done (replies own)) (ahead s s.lines.ended []) out → HasCause by start w
    → (by ≡ how.NoMemory → Wanted starved (AsksMemory s) (answers done (replies own)) was.added)
    → Over start w first h starved by
unfolding session
over {starved = starved} {w = w} {first = first} {s = s} {done = done} {own = own} by was same wait ends cause wanted = record {
  session = session by was same wait ends cause;
  wanted = λ e. told (wanted e);
} where
  next : AsksMemory s → NextTakesMemory (ins was.added) w.ended done
  next asks = record {
    each = λ e more comes. subst TakesMemory (sym (ap (drop (length done)) (was.items_are e more (λ h. comes (same ∙ h))) ∙ drop-append_seam done (ahead s e more))) (asks.each e more (λ h. comes (same ∙ h)));
  }

  told : Wanted starved (AsksMemory s) (answers done (replies own)) was.added → Wanted starved (NextTakesMemory (ins was.added) w.ended done) (answers done (replies (own_of first.number was.entries))) was.added
  told (inl by_reply) = inl (subst (λ (xs : List Entry). EndsBy (answers done (replies xs)) reply.NoMemory) (sym was.own_is) by_reply)
  told (inr (inl poor)) = inr (inl poor)
  told (inr (inr (inl asks))) = inr (inr (inl (next asks)))
  told (inr (inr (inr read))) = inr (inr (inr read))

-- where no item is pending
plain : {starved : Type 0} {start w : World} {first h : Standing} {s : Source} {taken : ℕ} {done : List Request} {own : List Entry} {out : List ℕ} (by : How)
    (was : SoFar ⊥ start w first h s taken done own out) → w.ended ≡ s.lines.ended
    → SessionEnds by s.lines.ended taken (h.left ≡ 0) (answers done (replies own)) (ahead s s.lines.ended []) out → HasCause by start w
    → (by ≡ how.NoMemory → Wanted starved (AsksMemory s) (answers done (replies own)) was.added)
    → Over start w first h starved by
plain by was same ends cause wanted = over by was same (λ x. absurd x) ends cause wanted

-- the session goes on after such an answer
pub quiet_of : (i : Request) (r : Reply) → AnswersRequest i.asked r → Closes None r → IsQuiet (record { item = i; reply = r })
quiet_of i r may goes_on = record { no_bye = goes_on.0; memory = goes_on.1; alive = goes_on.2; not_bye = λ e. no_bye (subst (λ (a : RequestKind). AnswersRequest a r) e may) } where
  no_bye : AnswersRequest (asked.Call call.Bye) r → ⊥
  no_bye m = elim (m.0.bye refl) [ inl e ↦ goes_on.0 e | inr e ↦ goes_on.2 e ]

-- bye alone is answered bye
bye_asked : (a : RequestKind) (r : Reply) → AnswersRequest a r → r ≡ reply.Bye → a ≡ asked.Call call.Bye
bye_asked (asked.Call what) r m e = ap asked.Call (m.0.only_bye e)
bye_asked asked.Syntax r m e = let no = sym m ∙ e in cc
bye_asked asked.Long r m e = let no = sym m ∙ e in cc

-- an answer ends the session
line_closed : {starved : Type 0} {start v : World} {first h : Standing} {s : Source} {taken : ℕ} (w : World) (k : Standing) (t : Source) (i : Request) (by : How)
    → MidSession start v first h s taken → v.ended ≡ s.lines.ended → GivesItem i s t
    → Told (Some by) i h k v w → Over start w first k starved by
line_closed {starved = starved} {start = start} {first = first} {h = h} {s = s} {taken = taken} w k t i by going same gives told =
    plain by (answered w k t i told.reply (text i.line told.reply) going.so_far gives told.took told.wrote) (told.wrote.ended ∙ same ∙ sym gives.ended) (ends by told.closes) (cause by told.closes) (wanted by told.closes) where
      split : answers (going.done ++ i ∷ []) (replies (going.own ++ entry_of first.number i.asked told.reply)) ≡ answers going.done (replies going.own) ++ (record { item = i; reply = told.reply }) ∷ []
      split = given_more going.done going.own first.number i told.reply going.so_far.calls_are told.took.may_be

      out_is : texts (answers going.done (replies going.own)) ++ text i.line told.reply ≡ texts (answers (going.done ++ i ∷ []) (replies (going.own ++ entry_of first.number i.asked told.reply)))
      out_is = sym (ap texts split ∙ texts_more (answers going.done (replies going.own)) (record { item = i; reply = told.reply }))

      by_reply : (r : Reply) → told.reply ≡ r → EndsBy (answers (going.done ++ i ∷ []) (replies (going.own ++ entry_of first.number i.asked told.reply))) r
      by_reply r is = record { before = answers going.done (replies going.own); last = record { item = i; reply = told.reply }; split = split; quiet = going.quiet; is = is }

      wanted : (by : How) → Closes (Some by) told.reply → by ≡ how.NoMemory → Wanted starved (AsksMemory t) (answers (going.done ++ i ∷ []) (replies (going.own ++ entry_of first.number i.asked told.reply))) (answered w k t i told.reply (text i.line told.reply) going.so_far gives told.took told.wrote).added
      wanted how.NoMemory is e = inl (by_reply reply.NoMemory is)
      wanted how.Bye is e = absurd cc
      wanted how.Dead is e = absurd cc
      wanted how.Eof is e = absurd is
      wanted how.ReadFault is e = absurd is
      wanted how.WriteFault is e = absurd is
      wanted how.TooMuch is e = absurd is

      ends : (by : How) → Closes (Some by) told.reply → SessionEnds by t.lines.ended taken (k.left ≡ 0) (answers (going.done ++ i ∷ []) (replies (going.own ++ entry_of first.number i.asked told.reply))) (ahead t t.lines.ended []) (texts (answers going.done (replies going.own)) ++ text i.line told.reply)
      ends how.Bye is = (record { by = record { before = answers going.done (replies going.own); last = record { item = i; reply = told.reply }; split = split; quiet = going.quiet; is = is }; asked = bye_asked i.asked told.reply told.took.may_be is }, out_is)
      ends how.NoMemory is = inl (by_reply reply.NoMemory is, out_is)
      ends how.Dead is = (by_reply (reply.Refused refusal.Dead) is, out_is)
      ends how.Eof is = absurd is
      ends how.ReadFault is = absurd is
      ends how.WriteFault is = absurd is
      ends how.TooMuch is = absurd is

      cause : (by : How) → Closes (Some by) told.reply → HasCause by start w
      cause how.Bye is = tt
      cause how.NoMemory is = tt
      cause how.Dead is = tt
      cause how.Eof is = absurd is
      cause how.ReadFault is = absurd is
      cause how.WriteFault is = absurd is
      cause how.TooMuch is = absurd is

-- an answer was cut
line_cut : {starved : Type 0} {start v : World} {first h : Standing} {s : Source} {taken : ℕ} (w : World) (k : Standing) (t : Source) (i : Request)
    → MidSession start v first h s taken → v.ended ≡ s.lines.ended → GivesItem i s t
    → ToldCut i h k v w → Over start w first k starved how.WriteFault
line_cut {start = start} {v = v} {first = first} {s = s} w k t i going same gives told =
    plain how.WriteFault (answered w k t i told.reply told.cut.sent going.so_far gives told.took told.cut.wrote) (told.cut.wrote.ended ∙ same ∙ sym gives.ended)
    (inl (record { before = answers going.done (replies going.own); last = record { item = i; reply = told.reply }; split = given_more going.done going.own first.number i told.reply going.so_far.calls_are told.took.may_be; quiet = going.quiet; cut = told.cut.sent; is_cut = told.cut.cut; out_is = refl }))
    (rose_since start.failed_writes v.failed_writes w.failed_writes going.so_far.writes told.cut.cause) (λ e. absurd cc)

-- a tape that ends with what was read
pub record EndsInRead (tape : List Piece) : Type 0 where
  pub before : List Piece
  pub bytes : List ℕ
  pub split : tape ≡ before ++ In bytes ∷ []

-- there was no memory, and `nomem` was written or a front of it
pub no_memory : {last starved : Type 0} {start v : World} {first h : Standing} {s : Source} {taken : ℕ} {done : List Request} {own : List Entry} (w : World) (by : How)
    (was : SoFar last start v first h s taken done own (texts (answers done (replies own)))) → AllByRecursion IsQuiet (answers done (replies own)) → v.ended ≡ s.lines.ended → (last → IsWaitFirst (ahead s s.lines.ended []))
    → starved ⊎ (AsksMemory s ⊎ EndsInRead was.added)
    → TellsNoMemory by v w → Over start w first h starved by
no_memory {starved = starved} {s = s} w how.NoMemory was quiet same wait asked wrote =
    over how.NoMemory (wrote_on w (text 0 reply.NoMemory) was wrote) (wrote.ended ∙ same) wait (inr (quiet, refl)) tt
    (λ e. inr (behind asked)) where
      split : (read : EndsInRead was.added) → (wrote_on w (text 0 reply.NoMemory) was wrote).added ≡ (read.before ++ In read.bytes ∷ []) ++ map Out wrote.pieces
      split read = wrote_on_added w (text 0 reply.NoMemory) was wrote ∙ ap (λ (ps : List Piece). ps ++ map Out wrote.pieces) read.split

      behind : starved ⊎ (AsksMemory s ⊎ EndsInRead was.added) → starved ⊎ (AsksMemory s ⊎ IsBehindRead (wrote_on w (text 0 reply.NoMemory) was wrote).added)
      behind (inl poor) = inl poor
      behind (inr (inl takes)) = inr (inl takes)
      behind (inr (inr read)) = inr (inr (record { before = read.before; bytes = read.bytes; pieces = wrote.pieces; split = split read; joined = wrote.joined }))
no_memory {start = start} {v = v} w how.WriteFault was quiet same wait asked cut =
    over how.WriteFault (wrote_on w cut.sent was cut.wrote) (cut.wrote.ended ∙ same) wait
    (inr (record { quiet = quiet; cut = cut.sent; is_cut = cut.cut; out_is = refl }))
    (rose_since start.failed_writes v.failed_writes w.failed_writes was.writes cut.cause) (λ e. absurd cc)
no_memory w how.Bye was quiet same wait asked none = absurd none
no_memory w how.Eof was quiet same wait asked none = absurd none
no_memory w how.Dead was quiet same wait asked none = absurd none
no_memory w how.ReadFault was quiet same wait asked none = absurd none
no_memory w how.TooMuch was quiet same wait asked none = absurd none

-- the item that has no answer is the first of those ahead
first_is : (s t : Source) (i : Request) → GivesItem i s t → ahead s s.lines.ended [] ≡ i ∷ ahead t s.lines.ended []
first_is s t i gives = gives.ahead_is s.lines.ended [] (λ e. (e, refl))

waits_first : (s t : Source) (i : Request) (what : Call) → GivesItem i s t → i.asked ≡ asked.Call what → what ≡ call.Wait → IsWaitFirst (ahead s s.lines.ended [])
waits_first s t i what gives is wait = subst IsWaitFirst (sym (first_is s t i gives)) (is ∙ ap asked.Call wait)

-- a call has no entry, for want of memory
unentered : {starved : Type 0} {start v : World} {first h : Standing} {s : Source} {taken : ℕ} (w : World) (k : Standing) (t : Source) (i : Request) (by : How)
    → MidSession start v first h s taken → v.ended ≡ s.lines.ended → GivesItem i s t
    → Unanswered i h k → starved → TellsNoMemory by v w → Over start w first k starved by
unentered {s = s} w k t i by going same gives goes_on poor told =
    no_memory w by (broke_off k goes_on.what going.so_far goes_on.breaks) going.quiet same (waits_first s t i goes_on.what gives goes_on.asked_is) (inl poor) told

-- no call was left for a line
unserved : {starved : Type 0} {start v : World} {first h : Standing} {s : Source} {taken : ℕ} (k : Standing) (t : Source) (i : Request)
    → MidSession start v first h s taken → v.ended ≡ s.lines.ended → GivesItem i s t
    → Unanswered i h k → k.left ≡ 0 → Over start v first k starved how.TooMuch
unserved {s = s} k t i going same gives goes_on none =
    over how.TooMuch (broke_off k goes_on.what going.so_far goes_on.breaks) same (waits_first s t i goes_on.what gives goes_on.asked_is)
    (inr (there, none), going.quiet, refl) tt (λ e. absurd cc) where
      there : 0 < length (ahead s s.lines.ended [])
      there = rw (first_is s t i gives) (omega arith)

-- an item was answered so that the session ends
pub item_ends : {starved : Type 0} {start v : World} {first h : Standing} {s : Source} {taken : ℕ} (w : World) (k : Standing) (t : Source) (i : Request) (by : How)
    → MidSession start v first h s taken → v.ended ≡ s.lines.ended → GivesItem i s t
    → AnswersItem (Some by) i h k starved v w → Over start w first k starved by
item_ends w k t i how.WriteFault going same gives (inl told) = line_cut w k t i going same gives told
item_ends w k t i how.WriteFault going same gives (inr told) = unentered w k t i how.WriteFault going same gives told.0 told.1 told.2
item_ends w k t i how.NoMemory going same gives (inl told) = line_closed w k t i how.NoMemory going same gives told
item_ends w k t i how.NoMemory going same gives (inr told) = unentered w k t i how.NoMemory going same gives told.0 told.1 told.2
item_ends {starved = starved} {start = start} {first = first} w k t i how.TooMuch going same gives told = subst (λ (u : World). Over start u first k starved how.TooMuch) (sym told.2) (unserved k t i going same gives told.0 told.1)
item_ends w k t i how.Bye going same gives told = line_closed w k t i how.Bye going same gives told
item_ends w k t i how.Eof going same gives told = line_closed w k t i how.Eof going same gives told
item_ends w k t i how.Dead going same gives told = line_closed w k t i how.Dead going same gives told
item_ends w k t i how.ReadFault going same gives told = line_closed w k t i how.ReadFault going same gives told

-- an item was answered so that the session goes on
pub item_goes : {start v : World} {first h : Standing} {s : Source} {taken : ℕ} (w : World) (k : Standing) (t : Source) (i : Request)
    → MidSession start v first h s taken → GivesItem i s t → Told None i h k v w → MidSession start w first k t taken
item_goes {start = start} {first = first} {taken = taken} w k t i going gives told =
    let split = given_more going.done going.own first.number i told.reply going.so_far.calls_are told.took.may_be in
    let answer : Answer = record { item = i; reply = told.reply } in
    record {
      done = going.done ++ i ∷ [];
      own = going.own ++ entry_of first.number i.asked told.reply;
      so_far = subst (λ (out : List ℕ). SoFar ⊥ start w first k t taken (going.done ++ i ∷ []) (going.own ++ entry_of first.number i.asked told.reply) out)
          (sym (ap texts split ∙ texts_more (answers going.done (replies going.own)) answer))
          (answered w k t i told.reply (text i.line told.reply) going.so_far gives told.took told.wrote);
      quiet = subst (λ (xs : List Answer). AllByRecursion IsQuiet xs) (sym split) (All-append IsQuiet (answers going.done (replies going.own)) (answer ∷ []) going.quiet (quiet_of i told.reply told.took.may_be told.closes, tt));
    }

-- every line was answered
pub ends_eof : {starved : Type 0} {start w : World} {first h : Standing} {s : Source} {taken : ℕ} → MidSession start w first h s taken → w.ended ≡ s.lines.ended → s.lines.ended ≡ true → ahead s true [] ≡ [] → Over start w first h starved how.Eof
ends_eof {s = s} going same ended none = plain how.Eof going.so_far same (ended, ap (λ (e : Bool). ahead s e []) ended ∙ none, going.quiet, refl) tt (λ e. absurd cc)

-- a read failed
pub ends_read_fault : {starved : Type 0} {start v : World} {first h : Standing} {s : Source} {taken : ℕ} (w : World)
    → MidSession start v first h s taken → ahead s false [] ≡ [] → s.lines.ended ≡ false
    → Adds v.tape w.tape [] → Takes v.rest w.rest [] → v.failed_reads ≤ w.failed_reads → w.failed_writes ≡ v.failed_writes → w.ended ≡ false → Rose v.failed_reads w.failed_reads
    → Over start w first h starved how.ReadFault
ends_read_fault {start = start} {v = v} {s = s} w going none goes_on tape rest reads writes same rose =
    let now = has_ended w s going goes_on tape rest reads writes (λ e more. refl) in
    plain how.ReadFault now.so_far (same ∙ sym goes_on) (ap (λ (e : Bool). ahead s e []) goes_on ∙ none, now.quiet, refl) (rose_since start.failed_reads v.failed_reads w.failed_reads going.so_far.reads rose) (λ e. absurd cc)

-- so many bytes were taken
pub ends_too_much : {starved : Type 0} {start w : World} {first h : Standing} {s : Source} {taken : ℕ} → MidSession start w first h s taken → w.ended ≡ s.lines.ended → 2 ^ 62 ≤ taken → Over start w first h starved how.TooMuch
ends_too_much going same many = plain how.TooMuch going.so_far same (inl many, going.quiet, refl) tt (λ e. absurd cc)
