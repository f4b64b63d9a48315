use Rattle.std.proofs.Common.{◌≡◌, ℕ, ◌+◌, ◌/◌, ◌<◌, ◌≤◌, List, [], length, take, get_or, subst, arith}
use Rattle.std.specs.List.{All}
use Rattle.std.proofs.lemmas.List.{take_all}
use Rattle.std.proofs.lemmas.List.Elements.{All-more, All-weaker, at_read}
use Rattle.gi_reference.proofs.truth.top_of.Goals as goal

abbrev AreLow : ℕ → List ℕ → Type 0
AreLow n c = All (λ l. l / 2 ≤ n) c

more : (cs : List (List ℕ)) (i m n : ℕ) (c : List ℕ) → i < length cs → c ≡ get_or cs i c → m ≤ n → AreLow n c → All (AreLow m) (take i cs) → All (AreLow n) (take (i + 1) cs)
more cs i m n c lt e le p a =
    All-more (AreLow n) cs i [] lt (All-weaker (AreLow m) (AreLow n) (λ d h k x kl. let q = h k x kl in omega arith) (take i cs) a) (at_read cs (AreLow n) i c lt e p [])

pub loop-clause-preserved : goal.loop-clause-preserved
loop-clause-preserved c =
    let p : AreLow c.max-most.result c.as_slice.result.now = λ k d lt. let q = c.top_variable.ensures.within k d lt in omega arith in
    record {
      low = omega arith;
      each = more c.args.clauses.now c.loop-clause.clause-index c.loop-clause.most c.max-most.result c.clause-item.result c.loop-clause-test.true c.clause-item.is (omega arith) (subst (AreLow c.max-most.result) c.as_slice.ensures p) c.loop-clause.invariant.each;
    }

pub returns-clause-each : goal.returns-clause-each
returns-clause-each c = subst (All (AreLow c.loop-clause.most)) (take_all c.loop-clause.clause-index c.args.clauses.now (omega arith)) c.loop-clause.invariant.each
