-- A line in front of a reader.
use Rattle.std.proofs.Common.{◌≡◌, ℕ, ◌+◌, ◌≤◌, List, ◌++◌, length, take, Option, Some, None, true, refl, ap, ◌∙◌, subst, arith}
use Rattle.std.proofs.lemmas.List.{length-take}
use Rattle.gi_text.specs.Lines.{GivesLine, Kept}
use Rattle.gi_text.specs.Words.{words_of}
use Rattle.gi_wire.specs.declared.call.Load.{Load}
use Rattle.gi_wire.specs.declared.reader.NextRequest.{NextRequest}
use Rattle.gi_wire.specs.declared.reader.NextRequest.TheVariants.{NoMemory}
use Rattle.gi_wire.specs.declared.reader.Request.{Request}
use Rattle.gi_wire.specs.declared.reader.RequestKind.{RequestKind}
use Rattle.gi_wire.specs.Gives.{GivesItem, GivesLoad, GivesNext, GoesOn, MayBeAsked}
use Rattle.gi_wire.specs.Grammar.{Ask, Loads, has_list}
use Rattle.gi_wire.specs.Items.{Joined, Place, alone, at_line, item, join, line_by, then_after}
use Rattle.gi_wire.specs.Limits.{most_line}
use Rattle.gi_wire.specs.Source.{Source}
use Rattle.gi_wire.specs.Taken.{IsJoined, IsLast}
use Rattle.gi_wire.proofs.Reading.{last_line_is}
use Rattle.gi_wire.proofs.Sources.{after_same, begins_load, fewer_behind, gives_line, joins_line, line_wants, load_next, source_of}

-- with these fields, and seen so, a reader gives this line, which isn't too long
pub record HasLine (k : Kept) (line : ℕ) (j : Joined) (o : Option Load) (now : Source) (l : List ℕ) (new : Kept) : Type 0 where
  pub view : source_of k line j o ≡ now
  pub none : o ≡ None
  pub given : GivesLine l k new
  pub short : length l ≤ most_line

pub front : (k : Kept) (line : ℕ) (j : Joined) (o : Option Load) (now : Source) (new : Kept) (n : ℕ) → source_of k line j o ≡ now → now.load ≡ None → GivesLine (take n k.left) k new → n ≤ most_line → HasLine k line j o now (take n k.left) new
front k line j o now new n view none given short = record { view = view; none = ap (λ (r : Source). r.load) view ∙ none; given = given; short = omega (arith, length-take n k.left, short) }

-- the line makes an item
pub front_gives : {k : Kept} {line : ℕ} {j : Joined} {o : Option Load} {now : Source} {l : List ℕ} {new : Kept} → HasLine k line j o now l new → (t : Source) (what : RequestKind)
    → ((next : ℕ → Place → List Request) → at_line line j l next ≡ then_after j.first line what next) → MayBeAsked what → t ≡ record { lines = new; line = line + 1; joined = alone (line + 1); load = None } → GivesItem (item j.first what) now t
front_gives {k} {line} {j} {o} {now} {l} {new} h t what makes may same =
    subst (λ (r : Source). GivesItem (item j.first what) r t) h.view (gives_line (source_of k line j o) t new l what h.none h.given makes may same)

-- it is the last one of an item
pub front_ends : {k : Kept} {line : ℕ} {j : Joined} {o : Option Load} {now : Source} {l : List ℕ} {new : Kept} → HasLine k line j o now l new → (t : Source) (what : RequestKind) (ask : Option Ask) → IsLast l j ask
    → ((next : ℕ → Place → List Request) → line_by j.first line ask next ≡ then_after j.first line what next) → MayBeAsked what → t ≡ record { lines = new; line = line + 1; joined = alone (line + 1); load = None } → GivesItem (item j.first what) now t
front_ends {k} {line} {j} {o} {now} {l} {new} h t what ask last makes may same = front_gives h t what (λ next. last_line_is line j l ask next h.short last.few last.ends last.asks ∙ makes next) may same

-- it goes on
pub front_joins : {k : Kept} {line : ℕ} {j : Joined} {o : Option Load} {now : Source} {l : List ℕ} {new : Kept} → HasLine k line j o now l new → (b : Joined) → IsJoined l j b → GoesOn now (source_of new (line + 1) b o)
front_joins {k} {line} {j} {o} {now} {l} {new} h b goes =
    subst (λ (r : Source). GoesOn r (source_of new (line + 1) b o)) h.view
    (joins_line (source_of k line j o) (source_of new (line + 1) b o) new l h.none h.given h.short goes.few goes.goes_on
    (ap (λ (i : Joined). source_of new (line + 1) i o) goes.joined ∙ ap (λ (p : Option Load). source_of new (line + 1) (join j l) p) h.none))

-- it begins a load
pub front_loads : {k : Kept} {line : ℕ} {j : Joined} {o : Option Load} {now : Source} {l : List ℕ} {new : Kept} → HasLine k line j o now l new → (load : Load) (g : NextRequest) (t : Source) → IsLast l j (Some (Loads load.kind load.len))
    → GivesLoad g (source_of new line (alone line) (Some load)) t → GivesNext g now t
front_loads {k} {line} {j} {o} {now} {l} {new} h load g t last gives =
    let s : Source = source_of k line j o in
    let m : Source = source_of new line (alone line) (Some load) in
    let few = fewer_behind s m (alone line) new l load h.given refl refl in
    subst (λ (r : Source). GivesNext g r t) h.view
    (after_same g s m t (begins_load s m (alone line) new l load.kind load.len h.none h.given h.short last.few last.ends last.asks refl) h.given.ended few.0 few.1 (load_next g m t gives))

-- there is no memory for it
pub front_wants : {k : Kept} {line : ℕ} {j : Joined} {o : Option Load} {now : Source} {l : List ℕ} {new : Kept} → HasLine k line j o now l new → (b : Joined) → has_list (j.words ++ words_of l) ≡ true → GivesNext NoMemory now (source_of new line b o)
front_wants {k} {line} {j} {o} {now} {l} {new} h b list =
    subst (λ (r : Source). GivesNext NoMemory r (source_of new line b o)) h.view (h.given.ended, line_wants (source_of k line j o) new l h.none h.given list)
