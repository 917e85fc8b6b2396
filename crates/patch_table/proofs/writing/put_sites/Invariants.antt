use Rattle.std.proofs.Common.{◌≡◌, ◌++◌}
use Rattle.std.specs.List.{flat_map}
use Rattle.patch_table.specs.Spelling.{word_line}
use Rattle.patch_table.proofs.writing.put_sites.Given as goal

abbrev pub invariant-loop-site : goal.invariant-loop-site
invariant-loop-site l = l.out.items ++ flat_map (word_line l.word) l.site-iterator ≡ l.fn.out.items ++ flat_map (word_line l.word) l.sites.entries
