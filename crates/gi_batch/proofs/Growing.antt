-- What making calls does.
use Rattle.std.proofs.Common.{◌≡◌, ℕ, ◌+◌, true, false, not, ◌&&◌, ◌==◌, List, [], ◌∷◌, ◌++◌, length, Option, Some, refl, ap, sym, ◌∙◌, subst, arith, append_assoc, length-append, eq-eqb}
use Rattle.std.proofs.lemmas.List.{append-nil}
use Rattle.std.proofs.lemmas.List.Elements.{filter-append}
use Rattle.gi_model.specs.Fits.{fits}
use Rattle.gi_model.specs.History.{Entry}
use Rattle.gi_model.specs.declared.calls.Call.{Call}
use Rattle.gi_model.specs.declared.calls.Call.TheVariants as call
use Rattle.gi_model.specs.declared.replies.Reply.{Reply}
use Rattle.gi_net.specs.Calls.{BreaksOff, Enters}
use Rattle.gi_net.specs.Entries.{all_own_of, is_work, own_of}
use Rattle.gi_net.specs.Standing.{Standing}
use Rattle.gi_batch.specs.Grown.{Grown}
use Rattle.gi_batch.specs.Making.{IsMade, entry_of}

-- nothing yet
pub grown_none : (h : Standing) → Grown h h []
grown_none h = record { entries = []; number = refl; history = sym (append-nil h.history); left = omega arith; own_is = refl }

own-append : (n : ℕ) (xs ys : List Entry) → own_of n (xs ++ ys) ≡ own_of n xs ++ own_of n ys
own-append n xs ys = filter-append (λ (e : Entry). (e.by == n) && not (is_work e.call)) xs ys

all_own-append : (n : ℕ) (xs ys : List Entry) → all_own_of n (xs ++ ys) ≡ all_own_of n xs ++ all_own_of n ys
all_own-append n xs ys = filter-append (λ (e : Entry). e.by == n) xs ys

-- one run of calls after another
pub grown_more : (g h k : Standing) (xs ys : List Entry) → Grown g h xs → Grown h k ys → Grown g k (xs ++ ys)
grown_more g h k xs ys a b =
    let same : own_of g.number b.entries ≡ ys = ap (λ n. own_of n b.entries) (sym a.number) ∙ b.own_is in
    let left : h.left ≡ k.left + length (all_own_of g.number b.entries) = b.left ∙ ap (λ n. k.left + length (all_own_of n b.entries)) a.number in
    let lengths : length (all_own_of g.number (a.entries ++ b.entries)) ≡ length (all_own_of g.number a.entries) + length (all_own_of g.number b.entries)
    = ap length (all_own-append g.number a.entries b.entries) ∙ length-append (all_own_of g.number a.entries) (all_own_of g.number b.entries) in
    record {
      entries = a.entries ++ b.entries;
      number = b.number ∙ a.number;
      history = b.history ∙ ap (λ es. es ++ b.entries) a.history ∙ append_assoc g.history a.entries b.entries;
      left = omega (arith, a.left, left, lengths);
      own_is = own-append g.number a.entries b.entries ∙ ap (λ es. es ++ own_of g.number b.entries) a.own_is ∙ ap (λ es. xs ++ es) same;
    }

-- a call that may be made is no work
fits_no_work : (what : Call) → fits what ≡ true → is_work what ≡ false
fits_no_work (call.Work mark) h = cc
fits_no_work what h = refl

own_entry : (h : Standing) (what : Call) (r : Reply) → is_work what ≡ false → own_of h.number (entry_of h what r ∷ []) ≡ entry_of h what r ∷ []
own_entry h what r w = rw (eq-eqb h.number h.number refl, w) refl

all_own_entry : (h : Standing) (what : Call) (r : Reply) → all_own_of h.number (entry_of h what r ∷ []) ≡ entry_of h what r ∷ []
all_own_entry h what r = rw (eq-eqb h.number h.number refl) refl

-- a call that has its entry
grown_entry : (what : Call) (answer : Option Reply) (h k : Standing) → fits what ≡ true → (enters : Enters what answer h k) → Grown h k (entry_of h what enters.reply ∷ [])
grown_entry what answer h k may enters =
    let e : Entry = entry_of h what enters.reply in
    let lengths : length (all_own_of h.number (enters.before ++ e ∷ [])) ≡ length (all_own_of h.number enters.before) + 1
    = ap length (all_own-append h.number enters.before (e ∷ []) ∙ ap (λ es. all_own_of h.number enters.before ++ es) (all_own_entry h what enters.reply)) ∙ length-append (all_own_of h.number enters.before) (e ∷ []) in
    record {
      entries = enters.before ++ e ∷ [];
      number = enters.number;
      history = enters.history;
      left = omega (arith, enters.left, lengths);
      own_is = own-append h.number enters.before (e ∷ []) ∙ ap (λ es. es ++ own_of h.number (e ∷ [])) enters.comes_before.no_call ∙ own_entry h what enters.reply (fits_no_work what may);
    }

-- a call that has none
pub grown_broken : (what : Call) (h k : Standing) → BreaksOff what h k → Grown h k []
grown_broken what h k b = record { entries = b.before; number = b.number; history = b.history; left = b.left; own_is = b.comes_before.no_call }

some_is : (o : Option Reply) (r q : Reply) → o ≡ Some r → o ≡ Some q → r ≡ q
some_is o r q d e = cc

-- the reply of an entry is the one that is told
pub made_entry : (what : Call) (answer : Option Reply) (r : Reply) (h k : Standing) → fits what ≡ true → Enters what answer h k → answer ≡ Some r → IsMade what r h k
made_entry what answer r h k may enters told = subst (λ (q : Reply). IsMade what q h k) (some_is answer enters.reply r enters.answer_is told) (record { grown = grown_entry what answer h k may enters })
