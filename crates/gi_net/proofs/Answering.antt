-- AnswersRequest to one more item, and with more replies than there are calls.
use Rattle.std.proofs.Common.{◌≡◌, ℕ, ◌≤◌, List, [], ◌∷◌, ◌++◌, length, map, refl, ap, sym, ◌∙◌, append_assoc, arith, option_to_list}
use Rattle.std.specs.List.{AllByRecursion}
use Rattle.std.proofs.lemmas.List.{append-nil, length-map, map-append}
use Rattle.std.proofs.lemmas.Grind.{flat_map-append}
use Rattle.gi_model.specs.History.{Entry}
use Rattle.gi_model.specs.declared.replies.Reply.{Reply}
use Rattle.gi_model.specs.declared.replies.Reply.TheVariants.{Refused}
use Rattle.gi_model.specs.declared.refusal.Refusal.TheVariants as refusal
use Rattle.gi_wire.specs.declared.reader.RequestKind.{RequestKind}
use Rattle.gi_wire.specs.declared.reader.RequestKind.TheVariants as asked
use Rattle.gi_wire.specs.declared.reader.Request.{Request}
use Rattle.gi_net.specs.Answers.{Answer, answers, call_in, calls, replies_after, reply_for, text_of, texts}
use Rattle.gi_net.specs.Entries.{replies}
use Rattle.gi_net.specs.Told.{AnswersRequest, entry_of}

-- the replies that an item brings
abbrev pub reply_list : RequestKind → Reply → List Reply
reply_list (asked.Call what) r = r ∷ []
reply_list asked.Syntax r = []
reply_list asked.Long r = []

own_reply : (a : RequestKind) (r : Reply) → AnswersRequest a r → reply_for a (reply_list a r) ≡ r
own_reply (asked.Call what) r m = refl
own_reply asked.Syntax r m = sym m
own_reply asked.Long r m = sym m

pub calls-append : (is js : List Request) → calls (is ++ js) ≡ calls is ++ calls js
calls-append [] js = refl
calls-append (i ∷ is) js = ap (λ xs. option_to_list (call_in i.asked) ++ xs) (calls-append is js) ∙ sym (append_assoc (option_to_list (call_in i.asked)) (calls is) (calls js))

pub answers_more : (is : List Request) (i : Request) (rs : List Reply) (r : Reply) → length (calls is) ≡ length rs → AnswersRequest i.asked r → answers (is ++ i ∷ []) (rs ++ reply_list i.asked r) ≡ answers is rs ++ (record { item = i; reply = r }) ∷ []
unfolding answers
answers_more [] i [] r same may = ap (λ (x : Reply). (record { item = i; reply = x }) ∷ []) (own_reply i.asked r may)
answers_more [] i (x ∷ rs) r same may = absurd (omega arith)
answers_more (j ∷ is) i rs r same may = by_asked (λ xs e. answers_more is i xs r e may) j.asked rs same where
  by_asked : ((rs : List Reply) → length (calls is) ≡ length rs → answers (is ++ i ∷ []) (rs ++ reply_list i.asked r) ≡ answers is rs ++ (record { item = i; reply = r }) ∷ []) → (a : RequestKind) (rs : List Reply) → length (option_to_list (call_in a) ++ calls is) ≡ length rs → (let x : Answer = record { item = j; reply = reply_for a (rs ++ reply_list i.asked r) } in x ∷ answers (is ++ i ∷ []) (replies_after a (rs ++ reply_list i.asked r))) ≡ (let x : Answer = record { item = j; reply = reply_for a rs } in x ∷ (answers is (replies_after a rs) ++ (record { item = i; reply = r }) ∷ []))
  by_asked ih asked.Syntax rs same = ap (λ (xs : List Answer). (record { item = j; reply = Refused refusal.Syntax }) ∷ xs) (ih rs same)
  by_asked ih asked.Long rs same = ap (λ (xs : List Answer). (record { item = j; reply = Refused refusal.Long }) ∷ xs) (ih rs same)
  by_asked ih (asked.Call what) [] same = absurd (omega arith)
  by_asked ih (asked.Call what) (x ∷ rs) same = ap (λ (xs : List Answer). (record { item = j; reply = x }) ∷ xs) (ih rs (omega arith))

pub answers_kept : (is : List Request) (rs more : List Reply) → length (calls is) ≤ length rs → answers is (rs ++ more) ≡ answers is rs
unfolding answers
answers_kept [] rs more enough = refl
answers_kept (j ∷ is) rs more enough = by_asked (λ xs e. answers_kept is xs more e) j.asked rs enough where
  by_asked : ((rs : List Reply) → length (calls is) ≤ length rs → answers is (rs ++ more) ≡ answers is rs) → (a : RequestKind) (rs : List Reply) → length (option_to_list (call_in a) ++ calls is) ≤ length rs → (let x : Answer = record { item = j; reply = reply_for a (rs ++ more) } in x ∷ answers is (replies_after a (rs ++ more))) ≡ (let x : Answer = record { item = j; reply = reply_for a rs } in x ∷ answers is (replies_after a rs))
  by_asked ih asked.Syntax rs enough = ap (λ (xs : List Answer). (record { item = j; reply = Refused refusal.Syntax }) ∷ xs) (ih rs enough)
  by_asked ih asked.Long rs enough = ap (λ (xs : List Answer). (record { item = j; reply = Refused refusal.Long }) ∷ xs) (ih rs enough)
  by_asked ih (asked.Call what) [] enough = absurd (omega arith)
  by_asked ih (asked.Call what) (x ∷ rs) enough = ap (λ (xs : List Answer). (record { item = j; reply = x }) ∷ xs) (ih rs (omega arith))

pub texts_more : (a : List Answer) (x : Answer) → texts (a ++ x ∷ []) ≡ texts a ++ text_of x
texts_more a x = flat_map-append text_of a (x ∷ []) ∙ ap (λ xs. texts a ++ xs) (append-nil (text_of x))

replies_of_entry : (n : ℕ) (a : RequestKind) (r : Reply) → replies (entry_of n a r) ≡ reply_list a r
replies_of_entry n (asked.Call what) r = refl
replies_of_entry n asked.Syntax r = refl
replies_of_entry n asked.Long r = refl

pub calls_of_entry : (n : ℕ) (a : RequestKind) (r : Reply) → map (λ (e : Entry). e.call) (entry_of n a r) ≡ option_to_list (call_in a)
calls_of_entry n (asked.Call what) r = refl
calls_of_entry n asked.Syntax r = refl
calls_of_entry n asked.Long r = refl

-- as many replies as calls
pub replies_fit : (done : List Request) (own : List Entry) → map (λ (e : Entry). e.call) own ≡ calls done → length (calls done) ≡ length (replies own)
replies_fit done own e = sym (ap length e) ∙ length-map own (λ (e : Entry). e.call) ∙ sym (length-map own (λ (e : Entry). e.reply))

-- the answers with one more
pub given_more : (done : List Request) (own : List Entry) (n : ℕ) (i : Request) (r : Reply) → map (λ (e : Entry). e.call) own ≡ calls done → AnswersRequest i.asked r → answers (done ++ i ∷ []) (replies (own ++ entry_of n i.asked r)) ≡ answers done (replies own) ++ (record { item = i; reply = r }) ∷ []
given_more done own n i r same may =
    ap (answers (done ++ i ∷ [])) (map-append (λ (e : Entry). e.reply) own (entry_of n i.asked r) ∙ ap (λ xs. replies own ++ xs) (replies_of_entry n i.asked r))
    ∙ answers_more done i (replies own) r (replies_fit done own same) may

pub All-append : {A : Type 0} (P : A → Type 0) (xs ys : List A) → AllByRecursion P xs → AllByRecursion P ys → AllByRecursion P (xs ++ ys)
All-append P [] ys h k = k
All-append P (x ∷ xs) ys h k = (h.0, All-append P xs ys h.1 k)
