use Rattle.std.proofs.Common.{◌≡◌, ◌∙◌, [], Some, ap, map, subst}
use Rattle.std.specs.Prelude.{string_bytes}
use Rattle.clap.specs.Faults.{fault_of, is_simple_and_free}
use Rattle.clap.specs.Kinds.{HasKind}
use Rattle.clap.specs.Simple.{App, is_simple, matches_of}
use Rattle.gi_command.specs.Parsing.{program, rows_read}
use Rattle.gi_command.proofs.Programs.{faulty, free, simple}
use Rattle.gi_command.proofs.parsing.parse.Goals as goal

pub returns-in-Ok : goal.returns-in-Ok
unfolding rows_read
returns-in-Ok c =
    let words = map (λ word. string_bytes word) c.args.words.now in
    let app_is = c.in_ok-simple_command.ensures in
    let rows = (c.in-Ok.ensures.matches (ap is_simple app_is ∙ simple)).0 ∙ ap (λ (a : App). matches_of a words) app_is in
    let none : fault_of program words ≡ [] = subst (λ (a : App). fault_of a words ≡ []) app_is (c.in-Ok.ensures.kinds (ap is_simple_and_free app_is ∙ free)) in
    rw none (ap Some rows)

pub returns : goal.returns
unfolding rows_read
returns c =
    let words = map (λ word. string_bytes word) c.args.words.now in
    let app_is = c.in_ok-simple_command.ensures in
    let has = subst (λ (a : App). HasKind (fault_of a words) c.in-Err.error) app_is (c.in-Err.ensures.kinds (ap is_simple_and_free app_is ∙ free)) in
    faulty (fault_of program words) c.in-Err.error (matches_of program words) has (λ memory. c.in_default.not-OutOfMemory (c.kind.ensures ∙ memory))
