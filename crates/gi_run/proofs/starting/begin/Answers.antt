use Rattle.std.proofs.Common.{refl}
use Rattle.gi_run.proofs.starting.begin.Goals as goal

pub returns-in-Some : goal.returns-in-Some
returns-in-Some g c = rw (← c.page_asked.ensures, c.in-Some.is, c.end_without.ensures) (c.print_page.ensures, refl)

pub returns-in-None : goal.returns-in-None
returns-in-None g c = rw (← c.page_asked.ensures, c.in-None.is) c.run_opened.ensures
