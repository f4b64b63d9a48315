-- A session that ended by bye has made all calls of the script.
use Rattle.std.proofs.Common.{◌≡◌, ◌≢◌, ℕ, ◌+◌, Bool, true, false, List, [], ◌∷◌, ◌++◌, map, refl, ap, sym, ◌∙◌, subst, append_assoc, inl, inr}
use Rattle.std.specs.List.{AllByRecursion}
use Rattle.std.proofs.lemmas.List.{append-nil}
use Rattle.std.proofs.lemmas.Bool.{cases_Bool, eq-eqb}
use Rattle.gi_model.specs.History.{Entry}
use Rattle.gi_model.specs.Refusals.{is_work}
use Rattle.gi_model.specs.declared.calls.Call.{Call}
use Rattle.gi_model.specs.declared.calls.Call.TheVariants.{Bye}
use Rattle.gi_model.specs.declared.replies.Reply.{Reply}
use Rattle.gi_model.specs.declared.replies.Reply.TheVariants as reply
use Rattle.gi_model.specs.declared.refusal.Refusal.TheVariants as refusal
use Rattle.gi_wire.specs.Items.{item, items}
use Rattle.gi_wire.specs.declared.reader.RequestKind.TheVariants as asked
use Rattle.gi_wire.specs.declared.reader.Request.{Request}
use Rattle.gi_wire.proofs.Staying.{stay}
use Rattle.gi_net.specs.Answers.{Answer, answers, calls}
use Rattle.gi_net.specs.Entries.{replies}
use Rattle.gi_net.specs.Served.{EndsByBye, IsQuiet}
use Rattle.gi_drill.specs.Laws.{IsLively, OwnCallsAreAll, SessionsPlay}
use Rattle.gi_drill.specs.Script.{numbered, script, script_text}
use Rattle.gi_drill.proofs.Leaving.{bye_last}
use Rattle.gi_drill.proofs.Reading.{script_read}

calls_numbered : (line : ℕ) (cs : List Call) → calls (numbered line cs) ≡ cs
calls_numbered line [] = refl
calls_numbered line (c ∷ cs) = ap (λ (ds : List Call). c ∷ ds) (calls_numbered (line + 1) cs)

items_of : (is : List Request) (rs : List Reply) → map (λ (a : Answer). a.item) (answers is rs) ≡ is
unfolding answers
items_of [] rs = refl
items_of (i ∷ is) rs = ap (λ (js : List Request). i ∷ js) (items_of is _)

items_split : (before : List Answer) (last : Answer) → map (λ (a : Answer). a.item) (before ++ last ∷ []) ≡ map (λ (a : Answer). a.item) before ++ last.item ∷ []
items_split [] last = refl
items_split (a ∷ before) last = ap (λ (js : List Request). a.item ∷ js) (items_split before last)

-- nothing stands behind the only bye
last_item : (before : List Call) (line : ℕ) (front tail : List Request) (i : Request) → AllByRecursion (λ c. c ≢ Bye) before → numbered line (before ++ Bye ∷ []) ≡ front ++ i ∷ tail → i.asked ≡ asked.Call Bye → tail ≡ []
last_item [] line [] tail i other e is = cc
last_item [] line (f ∷ []) tail i other e is = absurd cc
last_item [] line (f ∷ g ∷ front) tail i other e is = absurd cc
last_item (c ∷ before) line [] tail i other e is =
    let q : item line (asked.Call c) ∷ numbered (line + 1) (before ++ Bye ∷ []) ≡ i ∷ tail = e in
    let same : item line (asked.Call c) ≡ i = cc in
    let both : asked.Call c ≡ asked.Call Bye = ap (λ (j : Request). j.asked) same ∙ is in
    absurd (other.0 cc)
last_item (c ∷ before) line (f ∷ front) tail i other e is =
    let q : item line (asked.Call c) ∷ numbered (line + 1) (before ++ Bye ∷ []) ≡ f ∷ (front ++ i ∷ tail) = e in
    let rest : numbered (line + 1) (before ++ Bye ∷ []) ≡ front ++ i ∷ tail = cc in
    last_item before (line + 1) front tail i other.1 rest is

quiet_lively : (given : List Answer) (last : Answer) → AllByRecursion IsQuiet given → last.reply ≡ reply.Bye → AllByRecursion (λ (a : Answer). IsLively a.reply) (given ++ last ∷ [])
quiet_lively [] last h is = (
  record {
    memory = λ e. (let no : reply.Bye ≡ reply.NoMemory = sym is ∙ e in absurd cc);
    alive = λ e. (let no : reply.Bye ≡ reply.Refused refusal.Dead = sym is ∙ e in absurd cc);
  },
  tt,
)
quiet_lively (a ∷ given) last h is = (record { memory = h.0.memory; alive = h.0.alive }, quiet_lively given last h.1 is)

-- the replies of the answers are those of the entries
lively_entries : (line : ℕ) (cs : List Call) (own : List Entry) → map (λ (e : Entry). e.call) own ≡ cs → AllByRecursion (λ (a : Answer). IsLively a.reply) (answers (numbered line cs) (replies own)) → AllByRecursion (λ (e : Entry). IsLively e.reply) own
unfolding answers
lively_entries line cs [] same h = tt
lively_entries line [] (e ∷ own) same h = absurd cc
lively_entries line (c ∷ cs) (e ∷ own) same h =
    let q : e.call ∷ map (λ (e : Entry). e.call) own ≡ c ∷ cs = same in
    let rest : map (λ (e : Entry). e.call) own ≡ cs = cc in
    (h.0, lively_entries (line + 1) cs own rest h.1)

none_left : (a b : List Request) → a ++ b ≡ [] → a ≡ []
none_left [] b e = refl
none_left (x ∷ a) b e = absurd cc

-- the items of a beginning are a front of the script's
front_of : (n : ℕ) (ended : Bool) (bytes rest : List ℕ) → bytes ++ rest ≡ script_text n → (ended ≡ true → rest ≡ []) → (more : List Request) × (numbered 1 (script n) ≡ items ended bytes ++ more)
front_of n false bytes rest same whole = let s = stay true bytes rest in (s.0, sym (script_read true n) ∙ ap (items true) (sym same) ∙ s.1)
front_of n true bytes rest same whole =
    ([], sym (script_read true n) ∙ ap (items true) (sym same ∙ ap (λ (xs : List ℕ). bytes ++ xs) (whole refl) ∙ append-nil bytes) ∙ sym (append-nil (items true bytes)))

-- all items were answered
all_answered : (n : ℕ) (front rest more : List Request) (rs : List Reply) → numbered 1 (script n) ≡ (front ++ rest) ++ more → EndsByBye (answers front rs) → front ≡ numbered 1 (script n)
all_answered n front rest more rs e h =
    let b = bye_last n in
    let before = map (λ (a : Answer). a.item) h.by.before in
    let split : front ≡ before ++ h.by.last.item ∷ [] = sym (items_of front rs) ∙ ap (map (λ (a : Answer). a.item)) h.by.split ∙ items_split h.by.before h.by.last in
    let full : numbered 1 (script n) ≡ before ++ h.by.last.item ∷ (rest ++ more) = e ∙ append_assoc front rest more ∙ ap (λ (xs : List Request). xs ++ (rest ++ more)) split ∙ append_assoc before (h.by.last.item ∷ []) (rest ++ more) in
    let none : rest ++ more ≡ [] = last_item b.0 1 before (rest ++ more) h.by.last.item b.2 (ap (numbered 1) (sym b.1) ∙ full) h.asked in
    split ∙ ap (λ (xs : List Request). before ++ h.by.last.item ∷ xs) (sym none) ∙ sym full

pub sessions : SessionsPlay
sessions n ended bytes rest own left out same whole s =
    let f = front_of n ended bytes rest same whole in
    let all : s.front ≡ numbered 1 (script n) = all_answered n s.front s.rest f.0 (replies own) (f.1 ∙ ap (λ (xs : List Request). xs ++ f.0) s.split) s.ends.0 in
    let made : map (λ (e : Entry). e.call) own ≡ script n = s.calls_are ∙ ap calls all ∙ calls_numbered 1 (script n) in
    let given : AllByRecursion (λ (a : Answer). IsLively a.reply) (answers s.front (replies own)) = subst (AllByRecursion (λ (a : Answer). IsLively a.reply)) (sym s.ends.0.by.split) (quiet_lively s.ends.0.by.before s.ends.0.by.last s.ends.0.by.quiet s.ends.0.by.is) in
    (made, lively_entries 1 (script n) own made (subst (λ (is : List Request). AllByRecursion (λ (a : Answer). IsLively a.reply) (answers is (replies own))) all given))

pub own_all : OwnCallsAreAll
own_all number [] h = refl
own_all number (e ∷ es) h = elim (cases_Bool (is_work e.call)) [
  | inl t ↦ rw (eq-eqb e.by number h.0, t) (own_all number es h.1)
  | inr f ↦ rw (eq-eqb e.by number h.0, f) (ap (λ (xs : List Entry). e ∷ xs) (own_all number es h.1))
]
