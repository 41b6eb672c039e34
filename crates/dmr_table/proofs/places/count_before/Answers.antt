use Rattle.std.proofs.Common.{rules, ltb}
use Rattle.std.proofs.lemmas.List.Sorted.{IsPartitionPoint-from_clause, IsPartitionedBy-ltb}
use Rattle.dmr_table.specs.Places.{rank_of}
use Rattle.dmr_table.proofs.PlacesLemmas.{non_decreasing, gap_found}
use Rattle.dmr_table.proofs.places.count_before.Goals as goal

pub returns : goal.returns
returns c =
    let rank = rank_of c.args.place in
    let parted = IsPartitionedBy-ltb rank_of c.args.places.now rank (non_decreasing _ c.requires) in
    gap_found _ _ _ c.partition_point.ensures.bound
    (IsPartitionPoint-from_clause (λ p. ltb (rank_of p) rank) _ _ c.partition_point.ensures.partitioned parted
    (λ a r q k. search rules))
