use Rattle.std.proofs.Common.{◌≡◌, Some, ap, ◌∙◌, subst}
use Rattle.gi_text.specs.Lines.{Kept}
use Rattle.gi_wire.specs.declared.reader.RequestKind.TheVariants as asked
use Rattle.gi_wire.specs.declared.reader.NextRequest.TheVariants as answers
use Rattle.gi_wire.specs.Gives.{GivesItem, GivesLoad, Waits}
use Rattle.gi_wire.specs.Items.{item, load_call}
use Rattle.gi_wire.specs.Source.{Source}
use Rattle.gi_wire.proofs.Sources.{cuts_load, gives_load, load_waits, load_wants, source_of}
use Rattle.gi_wire.proofs.reader.Reader.next_load.Goals as goal

pub returns-in-Bytes : goal.returns-in-Bytes
returns-in-Bytes c =
    let s : Source = source_of c.self.inside.lines c.self.inside.line c.self.inside.begun c.self.inside.load in
    let under : c.self.inside.load ≡ Some c.args.load = ap (λ (r : Source). r.load) c.self.view_is ∙ c.requires.load in
    let raw = c.in-Bytes.ensures.raw in
    rw (c.number.ensures.item, c.call_of_load.ensures) (subst (λ (r : Source). GivesItem (item c.self.inside.line (asked.Call (load_call c.args.load.kind c.in-Bytes.bytes))) r c.number.new.self) c.self.view_is
    (gives_load s c.number.new.self c.args.load c.in-Bytes.bytes c.take_raw.new.self under (c.self.invariant.1.fits c.args.load under) raw.0 raw.1 raw.2 c.number.ensures.next))

pub returns-in-More : goal.returns-in-More
returns-in-More c =
    let s : Source = source_of c.self.inside.lines c.self.inside.line c.self.inside.begun c.self.inside.load in
    let t : Source = source_of c.take_raw.new.self c.self.inside.line c.self.inside.begun c.self.inside.load in
    let under : c.self.inside.load ≡ Some c.args.load = ap (λ (r : Source). r.load) c.self.view_is ∙ c.requires.load in
    let raw = c.in-More.ensures.raw in
    subst (λ (r : Source). Waits r t) c.self.view_is
    (load_waits s t c.args.load under raw.0 raw.1 (ap (λ (k : Kept). source_of k c.self.inside.line c.self.inside.begun c.self.inside.load) raw.2))

pub returns-in-Cut : goal.returns-in-Cut
returns-in-Cut c =
    let s : Source = source_of c.self.inside.lines c.self.inside.line c.self.inside.begun c.self.inside.load in
    let under : c.self.inside.load ≡ Some c.args.load = ap (λ (r : Source). r.load) c.self.view_is ∙ c.requires.load in
    let raw = c.in-Cut.ensures.raw in
    rw c.number-in-Cut.ensures.item (subst (λ (r : Source). GivesItem (item c.self.inside.line asked.Syntax) r c.number-in-Cut.new.self) c.self.view_is
    (cuts_load s c.number-in-Cut.new.self c.args.load c.take_raw.new.self under raw.0 raw.1 raw.2 c.number-in-Cut.ensures.next))

pub returns-in-NoMemory : goal.returns-in-NoMemory
returns-in-NoMemory c =
    let s : Source = source_of c.self.inside.lines c.self.inside.line c.self.inside.begun c.self.inside.load in
    let t : Source = source_of c.take_raw.new.self c.self.inside.line c.self.inside.begun c.self.inside.load in
    let under : c.self.inside.load ≡ Some c.args.load = ap (λ (r : Source). r.load) c.self.view_is ∙ c.requires.load in
    let raw = c.in-NoMemory.ensures.raw in
    subst (λ (r : Source). GivesLoad answers.NoMemory r t) c.self.view_is (ap (λ (k : Kept). k.ended) raw.1, load_wants s c.args.load under (c.self.invariant.1.fits c.args.load under) raw.0)
