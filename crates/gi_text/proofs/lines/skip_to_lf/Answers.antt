use Rattle.std.proofs.Common.{sym, ◌∙◌, zero-le}
use Rattle.gi_text.proofs.LineAt.{found_at, is_lf, none_at, not_lf}
use Rattle.gi_text.proofs.Dropping.{drop_at_lf, from_lf_none}
use Rattle.gi_text.proofs.lines.skip_to_lf.Goals as goal

pub returns-in-Some : goal.returns-in-Some
returns-in-Some c =
    let none = c.in-Some.ensures.0 in
    let xs = c.args.bytes.now in
    c.skip.ensures.value ∙ drop_at_lf xs c.in-Some.i none.high (found_at xs c.in-Some.i none.high (λ k lt. not_lf xs 0 c.in-Some.i k none.before zero-le lt) (is_lf xs c.in-Some.i c.in-Some.ensures.1))

pub returns-in-None : goal.returns-in-None
returns-in-None c = sym (from_lf_none c.args.bytes.now (none_at c.args.bytes.now (λ k lt. not_lf c.args.bytes.now 0 _ k c.in-None.ensures zero-le lt)))
