use Rattle.std.proofs.Common.{rules, nat_lt}
use Rattle.std.proofs.lemmas.List.Sorted.{IsPartitionPoint-from_clause}
use Rattle.heap_image.specs.declared.image.Broken.{Broken}
use Rattle.heap_image.proofs.Between.{partitioned, are_below, are_from}
use Rattle.heap_image.proofs.lookup.count_below.Goals as goal

pub returns-clause-below : goal.returns-clause-below
returns-clause-below c =
    let p = IsPartitionPoint-from_clause (λ (b : Broken). nat_lt b.addr c.args.addr) c.args.broken.now c.partition_point.result c.partition_point.ensures.partitioned (partitioned c.args.broken.now c.args.addr c.requires.rising) (λ a r q k. search rules) in
    are_below c.args.broken.now c.args.addr c.partition_point.result p c.partition_point.ensures.bound

pub returns-clause-from : goal.returns-clause-from
returns-clause-from c =
    let p = IsPartitionPoint-from_clause (λ (b : Broken). nat_lt b.addr c.args.addr) c.args.broken.now c.partition_point.result c.partition_point.ensures.partitioned (partitioned c.args.broken.now c.args.addr c.requires.rising) (λ a r q k. search rules) in
    are_from c.args.broken.now c.args.addr c.partition_point.result p
