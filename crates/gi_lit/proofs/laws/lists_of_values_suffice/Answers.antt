use Rattle.gi_lit.proofs.Fitting.{lists_suffice, consequences_among, failures_among, implied_among}
use Rattle.gi_lit.proofs.laws.lists_of_values_suffice.Goals as goal

pub returns-clause-satisfying : goal.returns-clause-satisfying
returns-clause-satisfying c = lists_suffice

pub returns-clause-consequences : goal.returns-clause-consequences
returns-clause-consequences c = consequences_among

pub returns-clause-failing : goal.returns-clause-failing
returns-clause-failing c = failures_among

pub returns-clause-implied : goal.returns-clause-implied
returns-clause-implied c = implied_among
