-- What is counted, call by call.
use Rattle.std.proofs.Common.{◌≡◌, ℕ, ◌==◌, ◌&&◌, not, Bool, true, false, cond, List, [], ◌∷◌, ◌++◌, length, drop, Option, Some, refl, ap, sym, ◌∙◌, append_assoc}
use Rattle.std.proofs.Math.Seq.{drop-append_seam}
use Rattle.std.proofs.lemmas.Bool.{eq-eqb}
use Rattle.std.proofs.lemmas.List.{append-nil}
use Rattle.std.proofs.lemmas.List.Elements.{filter-append}
use Rattle.gi_model.specs.Fits.{fits}
use Rattle.gi_model.specs.History.{Entry}
use Rattle.gi_model.specs.declared.calls.Call.{Call}
use Rattle.gi_model.specs.declared.calls.Call.TheVariants as call
use Rattle.gi_model.specs.declared.replies.Reply.{Reply}
use Rattle.gi_net.specs.Calls.{BreaksOff, Enters}
use Rattle.gi_net.specs.Entries.{is_work, own_of}
use Rattle.gi_net.specs.Leads.{Leads, more, none}
use Rattle.gi_net.specs.Standing.{Standing}
use Rattle.gi_net.proofs.Leading.{leads_to}
use Rattle.gi_drill.specs.Counted.{Counts, tally_since}
use Rattle.gi_drill.specs.Counting.{new_tally, noted, tally_from}
use Rattle.gi_drill.specs.Laws.{CallsAloneAreCounted, without_work}
use Rattle.gi_drill.specs.declared.tally.Tally.{Tally}

tally_append : (t : Tally) (xs ys : List Entry) → tally_from t (xs ++ ys) ≡ tally_from (tally_from t xs) ys
unfolding tally_from
tally_append t [] ys = refl
tally_append t (x ∷ xs) ys = tally_append (noted t x.call x.reply) xs ys

own_append : (n : ℕ) (xs ys : List Entry) → own_of n (xs ++ ys) ≡ own_of n xs ++ own_of n ys
own_append n xs ys = filter-append (λ (e : Entry). (e.by == n) && not (is_work e.call)) xs ys

-- a call that fits is no work
fits_call : (c : Call) → fits c ≡ true → is_work c ≡ false
fits_call (call.Work mark) h = absurd cc
fits_call c h = refl

own_last : (n : ℕ) (e : Entry) → e.by ≡ n → is_work e.call ≡ false → own_of n (e ∷ []) ≡ e ∷ []
own_last n e by work = (λ i. cond (eq-eqb e.by n by i && not (work i)) (e ∷ []) [])

-- a call that was answered
pub counts_entry : (what : Call) (answer : Option Reply) (told : Reply) (old new : Standing) (t after : Tally) → fits what ≡ true → Enters what answer old new → answer ≡ Some told → after ≡ noted t what told
    → Counts old new t after
unfolding tally_from
counts_entry what answer told old new t after fit e is note =
    let own : Entry = record { by = old.number; call = what; reply = e.reply } in
    let same : Some told ≡ Some e.reply = sym is ∙ e.answer_is in
    let told_is : told ≡ e.reply = cc in
    let calls : own_of old.number (e.before ++ own ∷ []) ≡ own ∷ [] =
    own_append old.number e.before (own ∷ []) ∙ ap (λ es. es ++ own_of old.number (own ∷ [])) e.comes_before.no_call ∙ own_last old.number own refl (fits_call what fit) in record {
      entries = e.before ++ own ∷ [];
      number = e.number;
      history = e.history;
      tally = note ∙ ap (noted t what) told_is ∙ sym (ap (tally_from t) calls);
    }

-- and one that has no entry
pub counts_none : (what : Call) (old new : Standing) (t : Tally) → BreaksOff what old new → Counts old new t t
unfolding tally_from
counts_none what old new t b = record {
  entries = b.before;
  number = b.number;
  history = b.history;
  tally = sym (ap (tally_from t) b.comes_before.no_call);
}

-- some calls, and then more
counts_both : (a b c : Standing) (t u v : Tally) → Counts a b t u → Counts b c u v → Counts a c t v
counts_both a b c t u v f g = record {
  entries = f.entries ++ g.entries;
  number = g.number ∙ f.number;
  history = g.history ∙ ap (λ es. es ++ g.entries) f.history ∙ append_assoc a.history f.entries g.entries;
  tally = g.tally ∙ (λ i. tally_from (f.tally i) (own_of (f.number i) g.entries)) ∙ sym (ap (tally_from t) (own_append a.number f.entries g.entries) ∙ tally_append t (own_of a.number f.entries) (own_of a.number g.entries));
}

counts_still : (a : Standing) (t : Tally) → Counts a a t t
unfolding tally_from
counts_still a t = record { entries = []; number = refl; history = sym (append-nil a.history); tally = refl }

pub counts_led : {A : Type 0} {goes : A → A → Type 0} (a b : A) → Leads goes a b → (standing : A → Standing) (tally : A → Tally)
    → ((v w : A) → goes v w → Counts (standing v) (standing w) (tally v) (tally w)) → Counts (standing a) (standing b) (tally a) (tally b)
counts_led {goes = goes} a b led standing tally step =
    leads_to goes (λ v w. Counts (standing v) (standing w) (tally v) (tally w)) (λ v. counts_still (standing v) (tally v))
    (λ u v w h g. counts_both (standing u) (standing v) (standing w) (tally u) (tally v) (tally w) h (step v w g)) a b led

-- what each step does to a part
pub leads_part : {A B : Type 0} {goes : A → A → Type 0} (a b : A) → Leads goes a b → (went : B → B → Type 0) (part : A → B) → ((v w : A) → goes v w → went (part v) (part w)) → Leads went (part a) (part b)
leads_part {goes = goes} a b led went part step =
    leads_to goes (λ v w. Leads went (part v) (part w)) (λ v. none) (λ u v w h g. more (part v) (part w) h (step v w g)) a b led

pub counted_since : (a b : Standing) (first t : Tally) → first ≡ new_tally → Counts a b first t → t ≡ tally_since a b
counted_since a b first t is c =
    c.tally ∙ (λ i. tally_from (is i) (own_of a.number c.entries))
    ∙ sym (ap (λ es. tally_from new_tally (own_of a.number es)) (ap (drop (length a.history)) c.history ∙ drop-append_seam a.history c.entries))

-- work is not counted
noted_work : (c : Call) (r : Reply) (t : Tally) → is_work c ≡ true → noted t c r ≡ t
noted_work (call.Work mark) r t h = refl
noted_work c r t h = absurd cc

alone : (t : Tally) (es : List Entry) → tally_from t (without_work es) ≡ tally_from t es
unfolding tally_from
alone t [] = refl
alone t (e ∷ es) = go (is_work e.call) refl (λ u. alone u es)
  where
    go : (b : Bool) → is_work e.call ≡ b → ((u : Tally) → tally_from u (without_work es) ≡ tally_from u es)
        → tally_from t (cond (not b) (e ∷ without_work es) (without_work es)) ≡ tally_from (noted t e.call e.reply) es
    go true is rest = rest t ∙ ap (λ (u : Tally). tally_from u es) (sym (noted_work e.call e.reply t is))
    go false is rest = rest (noted t e.call e.reply)

pub calls_alone : CallsAloneAreCounted
calls_alone es = alone new_tally es
