use Rattle.gi_lit.proofs.Codes.{few_news}
use Rattle.gi_cdcl.proofs.laws.news_are_few.Goals as goal

pub returns : goal.returns
returns c = few_news
