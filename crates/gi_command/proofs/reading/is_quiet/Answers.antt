use Rattle.std.proofs.Common.{refl, codes}
use Rattle.clap.proofs.WalkLemmas.{first_value-rows}
use Rattle.clap.specs.Words.{found_of}
use Rattle.gi_command.proofs.reading.is_quiet.Goals as goal

pub returns-in-Some : goal.returns-in-Some
returns-in-Some c = rw (← first_value-rows (found_of c.args.matches.now) (codes "quiet"), ← c.get_str.ensures, c.in-Some.is, c.eq.ensures, c.as_bytes.ensures.value, c.as_slice.ensures) refl

pub returns-in-None : goal.returns-in-None
returns-in-None c = rw (← first_value-rows (found_of c.args.matches.now) (codes "quiet"), ← c.get_str.ensures, c.in-None.is) refl
