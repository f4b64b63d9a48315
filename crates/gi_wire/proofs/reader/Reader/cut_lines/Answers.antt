use Rattle.std.proofs.Common.{◌≡◌, ◌<◌, length, List, [], ◌∷◌, ℕ, None, ap, sym, ◌∙◌, arith, subst, refl}
use Rattle.gi_wire.specs.declared.reader.RequestKind.TheVariants as asked
use Rattle.gi_wire.specs.declared.reader.NextRequest.TheVariants as answers
use Rattle.gi_wire.specs.Gives.{GivesItem, GivesNext}
use Rattle.gi_wire.specs.Items.{alone, item}
use Rattle.gi_wire.specs.Source.{Source}
use Rattle.gi_wire.proofs.Sources.{all_given, cuts_lines, source_of}
use Rattle.gi_wire.proofs.reader.Reader.cut_lines.Goals as goal

some_words : (ws : List (List ℕ)) → (ws ≡ [] → ⊥) → 0 < length ws
some_words [] some = absurd (some refl)
some_words (w ∷ ws) some = omega arith

pub returns-then-is_empty : goal.returns-then-is_empty
returns-then-is_empty c =
    let s : Source = source_of c.self.inside.lines c.self.inside.line c.self.inside.begun c.self.inside.load in
    let none : c.self.inside.load ≡ None = ap (λ (r : Source). r.load) c.self.view_is ∙ c.requires.load in
    let left = ap (λ (r : Source). r.lines.left) c.self.view_is ∙ c.requires.left in
    let ended = ap (λ (r : Source). r.lines.ended) c.self.view_is ∙ c.requires.ended in
    let empty = c.is_empty.ensures.none.0 c.if-is_empty.true in
    subst (λ (r : Source). GivesNext answers.Done r r) c.self.view_is (ended, all_given s none left empty, record { each = λ e more comes. refl })

pub returns : goal.returns
returns c =
    let s : Source = source_of c.self.inside.lines c.self.inside.line c.self.inside.begun c.self.inside.load in
    let t : Source = source_of c.self.inside.lines c.self.inside.line (alone c.self.inside.line) c.self.inside.load in
    let none : c.self.inside.load ≡ None = ap (λ (r : Source). r.load) c.self.view_is ∙ c.requires.load in
    let left = ap (λ (r : Source). r.lines.left) c.self.view_is ∙ c.requires.left in
    let ended = ap (λ (r : Source). r.lines.ended) c.self.view_is ∙ c.requires.ended in
    let some = some_words c.self.inside.begun.words (λ e. let no = sym (c.is_empty.ensures.none.1 e) ∙ c.if-is_empty.false in cc) in
    rw (c.first-line.ensures, c.new.ensures) (subst (λ (r : Source). GivesItem (item c.self.inside.begun.first asked.Syntax) r t) c.self.view_is
    (cuts_lines s t (alone c.self.inside.line) none left ended some refl refl))
