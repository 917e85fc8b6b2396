use Rattle.std.proofs.Common.{◌≡◌, map, string_bytes}
use Rattle.exterm_cli.specs.Taking.{ReadsImage}
use Rattle.exterm_cli.proofs.Several.{SoRead}
use Rattle.exterm_cli.proofs.isolate.images_of.Given as goal

abbrev pub invariant-loop-i : goal.invariant-loop-i
invariant-loop-i g l =
    SoRead ReadsImage (map string_bytes l.fn.words) (g.F.Folder.files l.fn.files) l.fn.names l.i l.images.items
    × (g.F.Folder.files l.files ≡ g.F.Folder.files l.fn.files) × (g.F.Folder.faults l.files ≡ g.F.Folder.faults l.fn.files)
