use Rattle.std.proofs.Common.{◌≡◌, map, string_bytes}
use Rattle.exterm_cli.proofs.Merging.{SoJoined}
use Rattle.exterm_cli.proofs.merge.join.Given as goal

abbrev pub invariant-loop-i : goal.invariant-loop-i
invariant-loop-i g l =
    SoJoined (map string_bytes l.fn.words) (g.F.Folder.files l.fn.files) l.fn.names l.i l.table
    × (g.F.Folder.files l.files ≡ g.F.Folder.files l.fn.files) × (g.F.Folder.faults l.files ≡ g.F.Folder.faults l.fn.files)
