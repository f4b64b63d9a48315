use Rattle.std.proofs.Common.{leb, leb-true, leb-false, arith, rules}
use Rattle.std.proofs.lemmas.List.Sorted.{IsPartitionPoint-from_clause, IsPartitionedBy-leb, IsNonDecreasingBy-from_default}
use Rattle.gi_prop.proofs.trail.level_at.Goals as goal

pub returns : goal.returns
returns c =
    let rising = IsNonDecreasingBy-from_default (λ s. s) c.args.starts.now 0 c.requires.ordered in
    let parted = IsPartitionedBy-leb (λ s. s) _ c.args.place rising in
    let point = IsPartitionPoint-from_clause (λ s. leb s c.args.place) _ _ c.partition_point.ensures.partitioned parted (λ a r q k. search rules) in
    record {
      most = c.partition_point.ensures.bound;
      begun = λ j jl. leb-true _ _ (point.0 j 0 (omega arith) jl);
      ahead = λ j le jl. leb-false _ _ (point.1 j 0 le jl);
    }
