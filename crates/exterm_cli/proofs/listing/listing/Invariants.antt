use Rattle.std.proofs.Common.{◌≡◌, ◌++◌, drop, string_bytes}
use Rattle.exterm_cli.specs.Listing.{listing}
use Rattle.exterm_cli.proofs.listing.listing.Given as goal

abbrev pub invariant-loop-segment : goal.invariant-loop-segment
invariant-loop-segment l = string_bytes l.text ++ listing (drop l.segment-index l.segments) ≡ listing l.segments
