-- A pass that only helps.
use Rattle.std.proofs.Common.{◌≡◌, ℕ, ◌+◌, ◌<◌, ◌==◌, true, List, [], ◌∷◌, ◌++◌, length, length-append, refl, ap, sym, ◌∙◌, subst, arith, inr}
use Rattle.std.specs.Prelude.{All, Contains}
use Rattle.std.proofs.lemmas.List.{append-nil, append_assoc}
use Rattle.std.proofs.lemmas.List.Elements.{All-nil, All-append, All-push, All-weaker, filter-append}
use Rattle.std.proofs.lemmas.List.Sums.{sum_by-append}
use Rattle.gi_model.specs.History.{Entry}
use Rattle.gi_model.specs.declared.calls.Call.TheVariants as call
use Rattle.gi_model.specs.declared.phase.Phase.{Phase}
use Rattle.gi_model.specs.declared.replies.Reply.{Reply}
use Rattle.gi_model.specs.declared.replies.Reply.TheVariants as reply
use Rattle.gi_room.specs.Entries.{all_own_of}
use Rattle.gi_room.specs.Seen.{Seen}
use Rattle.gi_room.specs.Histories.{mark_of}
use Rattle.gi_room.specs.Calls.{HoldsAsBefore, Heeds, looks_of, all_looks, Works, Helps, IsHelp, OnlyHelps, HelpEnds, glanced, is_over}
use Rattle.gi_room.proofs.Calling.{holds_both, own_count, own_looks}

pub helps_none : (p q : Seen) → q.history ≡ p.history → q.left ≡ p.left → q.sees ≡ p.sees → HoldsAsBefore p q → OnlyHelps p q
helps_none p q same left sees holds = record {
  entries = [];
  history = same ∙ sym (append-nil p.history);
  helps = All-nil (λ (e : Entry). Contains p.held e.by → IsHelp p e);
  left = omega arith;
  looks = omega arith;
  holds = holds;
}

pub helps_looked : (p q : Seen) (g : ℕ × Phase) → q ≡ glanced p g → OnlyHelps p q
helps_looked p q g is = helps_none p q (ap (λ (s : Seen). s.history) is) (ap (λ (s : Seen). s.left) is) (ap (λ (s : Seen). s.sees) is) record {
  place = ap (λ (s : Seen). s.place) is;
  number = ap (λ (s : Seen). s.number) is;
  held = ap (λ (s : Seen). s.held) is;
  kin = ap (λ (s : Seen). s.kin) is;
  splits = ap (λ (s : Seen). s.splits) is;
  asked = ap (λ (s : Seen). s.asked) is;
}

works_helps : (answer : Reply) (p q : Seen) → Works answer p q → OnlyHelps p q
works_helps answer p q w =
    let a = w.adds in
    let own : Entry = record { by = p.number; call = call.Work w.mark; reply = answer } in
    let P : Entry → Type 0 = λ e. Contains p.held e.by → IsHelp p e in record {
      entries = a.others ++ own ∷ [];
      history = a.history;
      helps = All-push P a.others own (All-weaker (λ (e : Entry). ¬ Contains p.held e.by) P (λ e never has. absurd (never has)) a.others a.foreign) (λ has. record { by = refl; work = refl; heeds = w.heeds });
      left = (let l = a.left in let c = own_count p.number [] a.others own a.no_own refl in omega arith);
      looks = (let l = w.looks in let c = own_looks p.number [] a.others own a.no_own refl in omega arith);
      holds = a.holds;
    }

pub helps_done : (answer : Reply) (p q : Seen) → 0 < p.left → Helps answer p q → OnlyHelps p q
helps_done reply.Spent p q some h = absurd (let z = h.0 in omega arith)
helps_done answer p q some h = works_helps answer p q h

pub helps_both : (a b c : Seen) → OnlyHelps a b → OnlyHelps b c → OnlyHelps a c
helps_both a b c f g =
    let P : Entry → Type 0 = λ e. Contains a.held e.by → IsHelp a e in
    let more : All P g.entries = All-weaker (λ (e : Entry). Contains b.held e.by → IsHelp b e) P (λ e h has. (let x = h (subst (λ (ns : List ℕ). Contains ns e.by) (sym f.holds.held) has) in record { by = x.by ∙ f.holds.number; work = x.work; heeds = subst (λ (asked : List (ℕ × ℕ)). Heeds e.reply asked (mark_of e.call)) f.holds.asked x.heeds })) g.entries g.helps in
    let both : all_own_of a.number (f.entries ++ g.entries) ≡ all_own_of a.number f.entries ++ all_own_of a.number g.entries = filter-append (λ (e : Entry). e.by == a.number) f.entries g.entries in
    let count : length (all_own_of a.number (f.entries ++ g.entries)) ≡ length (all_own_of a.number f.entries) + length (all_own_of a.number g.entries) = ap length both ∙ length-append (all_own_of a.number f.entries) (all_own_of a.number g.entries) in
    let same : length (all_own_of b.number g.entries) ≡ length (all_own_of a.number g.entries) = ap (λ n. length (all_own_of n g.entries)) f.holds.number in
    let looked : all_looks (all_own_of a.number (f.entries ++ g.entries)) ≡ all_looks (all_own_of a.number f.entries) + all_looks (all_own_of a.number g.entries) = ap all_looks both ∙ sum_by-append (λ (e : Entry). looks_of e.reply) (all_own_of a.number f.entries) (all_own_of a.number g.entries) in
    let mine : all_looks (all_own_of b.number g.entries) ≡ all_looks (all_own_of a.number g.entries) = ap (λ n. all_looks (all_own_of n g.entries)) f.holds.number in record {
      entries = f.entries ++ g.entries;
      history = g.history ∙ ap (λ es. es ++ g.entries) f.history ∙ append_assoc a.history f.entries g.entries;
      helps = All-append P f.entries g.entries f.helps more;
      left = (let l = f.left in let k = g.left in omega arith);
      looks = (let l = f.looks in let k = g.looks in omega arith);
      holds = holds_both a b c f.holds g.holds;
    }

pub saw_end : (p q : Seen) (g : ℕ × Phase) → q ≡ glanced p g → is_over g.1 ≡ true → HelpEnds q
saw_end p q g is over = inr record { before = p.glances; last = g; glances = ap (λ (s : Seen). s.glances) is; over = over }
