-- What answering one item does, by cases of the code.
use Rattle.std.proofs.Common.{◌≡◌, ℕ, inl, inr, [], Option, Some, None, true, refl, ap, sym, subst, arith}
use Rattle.std.proofs.lemmas.List.{append-nil}
use Rattle.gi_outside.specs.World.{World}
use Rattle.gi_model.specs.Fits.{fits}
use Rattle.gi_model.specs.declared.calls.Call.{Call}
use Rattle.gi_model.specs.declared.replies.Reply.{Reply}
use Rattle.gi_model.specs.declared.replies.Reply.TheVariants as reply
use Rattle.gi_model.specs.declared.refusal.Refusal.TheVariants as refusal
use Rattle.gi_wire.specs.Text.{is_answer}
use Rattle.gi_wire.specs.declared.reader.RequestKind.TheVariants as asked
use Rattle.gi_wire.specs.declared.reader.Request.{Request}
use Rattle.gi_net.specs.declared.how.How.{How}
use Rattle.gi_net.specs.declared.how.How.TheVariants as how
use Rattle.gi_net.specs.Calls.{BreaksOff, Enters}
use Rattle.gi_net.specs.Standing.{Standing}
use Rattle.gi_net.specs.Told.{AnswersItem, TellsReply, TellsNoMemory, Took}
use Rattle.gi_net.proofs.Works.{fits_no_work}

-- an item whose reply was told
pub told_item : (starved : Type 0) (by : Option How) (i : Request) (r : Reply) (h k : Standing) (v w : World) → Took i.asked r h k → TellsReply by i.line r v w → AnswersItem by i h k starved v w
told_item starved None i r h k v w took told = record { reply = r; took = took; wrote = told.0; closes = told.1 }
told_item starved (Some how.WriteFault) i r h k v w took told = inl (record { reply = r; took = took; cut = told })
told_item starved (Some how.NoMemory) i r h k v w took told = inl (record { reply = r; took = took; wrote = told.0; closes = told.1 })
told_item starved (Some how.TooMuch) i r h k v w took told = absurd told.1
told_item starved (Some how.Bye) i r h k v w took told = record { reply = r; took = took; wrote = told.0; closes = told.1 }
told_item starved (Some how.Eof) i r h k v w took told = absurd told.1
told_item starved (Some how.Dead) i r h k v w took told = record { reply = r; took = took; wrote = told.0; closes = told.1 }
told_item starved (Some how.ReadFault) i r h k v w took told = absurd told.1

-- a line that is no call
pub syntax_told : (starved : Type 0) (by : Option How) (line : ℕ) (h : Standing) (v w : World) → TellsReply by line (reply.Refused refusal.Syntax) v w → AnswersItem by (record { line = line; asked = asked.Syntax }) h h starved v w
syntax_told starved by line h v w told = told_item starved by (record { line = line; asked = asked.Syntax }) (reply.Refused refusal.Syntax) h h v w
    (record { may_be = refl; before = []; no_call = refl; waits = inl refl; number = refl; history = sym (append-nil h.history); left = omega arith }) told

pub long_told : (starved : Type 0) (by : Option How) (line : ℕ) (h : Standing) (v w : World) → TellsReply by line (reply.Refused refusal.Long) v w → AnswersItem by (record { line = line; asked = asked.Long }) h h starved v w
long_told starved by line h v w told = told_item starved by (record { line = line; asked = asked.Long }) (reply.Refused refusal.Long) h h v w
    (record { may_be = refl; before = []; no_call = refl; waits = inl refl; number = refl; history = sym (append-nil h.history); left = omega arith }) told

some_is : (o : Option Reply) (r q : Reply) → o ≡ Some r → o ≡ Some q → r ≡ q
some_is o r q d e = cc

-- a call that has an entry
pub entry_told : (starved : Type 0) (by : Option How) (line : ℕ) (what : Call) (o : Option Reply) (r : Reply) (h k : Standing) (v w : World) → fits what ≡ true → Enters what o h k → o ≡ Some r → TellsReply by line r v w → AnswersItem by (record { line = line; asked = asked.Call what }) h k starved v w
entry_told starved by line what o r h k v w may enters is told =
    let same : enters.reply ≡ r = some_is o enters.reply r enters.answer_is is in
    told_item starved by (record { line = line; asked = asked.Call what }) enters.reply h k v w
    (record {
      may_be = (enters.may_be, fits_no_work what may);
      before = enters.before;
      no_call = enters.comes_before.no_call;
      waits = elim enters.comes_before.waits [ inl none ↦ inl none | inr wait ↦ inr (ap asked.Call wait) ];
      number = enters.number;
      history = enters.history;
      left = enters.left;
    }) (subst (λ (q : Reply). TellsReply by line q v w) (sym same) told)

-- the reply that is told may be
pub entry_may_be : (what : Call) (o : Option Reply) (r : Reply) (h k : Standing) → Enters what o h k → o ≡ Some r → is_answer r ≡ true
entry_may_be what o r h k enters is = subst (λ (q : Reply). is_answer q ≡ true) (some_is o enters.reply r enters.answer_is is) enters.may_be.told

-- a call that has no entry for want of memory
pub unentered_told : {starved : Type 0} (by : How) (line : ℕ) (what : Call) (h k : Standing) (v w : World) → BreaksOff what h k → starved → TellsNoMemory by v w → AnswersItem (Some by) (record { line = line; asked = asked.Call what }) h k starved v w
unentered_told how.NoMemory line what h k v w breaks poor told = inr (record { what = what; asked_is = refl; breaks = breaks }, poor, told)
unentered_told how.WriteFault line what h k v w breaks poor told = inr (record { what = what; asked_is = refl; breaks = breaks }, poor, told)
unentered_told how.Bye line what h k v w breaks poor told = absurd told
unentered_told how.Eof line what h k v w breaks poor told = absurd told
unentered_told how.Dead line what h k v w breaks poor told = absurd told
unentered_told how.ReadFault line what h k v w breaks poor told = absurd told
unentered_told how.TooMuch line what h k v w breaks poor told = absurd told

pub unserved_told : (starved : Type 0) (line : ℕ) (what : Call) (h k : Standing) (v : World) → BreaksOff what h k → k.left ≡ 0 → AnswersItem (Some how.TooMuch) (record { line = line; asked = asked.Call what }) h k starved v v
unserved_told starved line what h k v breaks none = (record { what = what; asked_is = refl; breaks = breaks }, none, refl)

-- with a weaker account of the want of memory
pub starved_as : {A B : Type 0} (by : How) (i : Request) (h k : Standing) (v w : World) → (A → B) → AnswersItem (Some by) i h k A v w → AnswersItem (Some by) i h k B v w
starved_as how.WriteFault i h k v w f (inl told) = inl told
starved_as how.WriteFault i h k v w f (inr told) = inr (told.0, f told.1, told.2)
starved_as how.NoMemory i h k v w f (inl told) = inl told
starved_as how.NoMemory i h k v w f (inr told) = inr (told.0, f told.1, told.2)
starved_as how.TooMuch i h k v w f told = told
starved_as how.Bye i h k v w f told = told
starved_as how.Eof i h k v w f told = told
starved_as how.Dead i h k v w f told = told
starved_as how.ReadFault i h k v w f told = told
