use Rattle.gi_lit.proofs.Codes.{few_news}
use Rattle.gi_lit.proofs.laws.fresh_clauses_are_few.Goals as goal

pub returns : goal.returns
returns c = few_news
