use Rattle.std.proofs.Common.{◌≡◌, ◌++◌}
use Rattle.std.specs.List.{flat_map}
use Rattle.patch_table.specs.Spelling.{defer_line}
use Rattle.patch_table.proofs.writing.put_defers.Given as goal

abbrev pub invariant-loop-sites : goal.invariant-loop-sites
invariant-loop-sites l = l.out.items ++ flat_map defer_line l.sites-iterator ≡ l.fn.out.items ++ flat_map defer_line l.defers.entries
