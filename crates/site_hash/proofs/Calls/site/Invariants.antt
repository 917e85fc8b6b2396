use Rattle.std.proofs.Common.{◌≡◌, ◌<◌, ◌^◌}
use Rattle.site_hash.proofs.Hashes.{hash_of}
use Rattle.site_hash.proofs.Calls.site.Given as goal

abbrev pub invariant-loop-nth : goal.invariant-loop-nth
invariant-loop-nth l = record {
  fits : l.hash < 2 ^ 32;
  so_far : l.hash ≡ hash_of l.self-inside.addresses.items l.nth;
}
