-- The one text of a table in each version (docs/patches.md, "One text a table").
use Rattle.std.specs.Prelude.{◌≡◌, ℕ, List, [], ◌∷◌, ◌++◌}
use Rattle.std.specs.List.{flat_map}
use Rattle.std.specs.Fmt.{decimal}
use Rattle.std.specs.FinMap.{entries, empty}
use Rattle.patch_table.specs.Table.{Table}
use Rattle.patch_table.specs.Line.{field, line_of}
use Rattle.patch_table.specs.declared.line.Key.TheVariants.{Pad, Front, Defer}
use Rattle.patch_table.specs.declared.line.Version.{Version}
use Rattle.patch_table.specs.declared.line.Version.TheVariants.{One, Two}
use Rattle.patch_table.specs.declared.reading.TheConstants.{HEAD_ONE, HEAD_TWO}

-- a site and its number, behind a word
abbrev pub word_line : List ℕ → ℕ × ℕ → List ℕ
word_line word e = word ++ field e.0 (decimal e.1) ++ 10 ∷ []

abbrev pub pad_line : ℕ × ℕ → List ℕ
pad_line e = line_of (Pad e.0) (decimal e.1)

abbrev pub front_line : ℕ × ℕ → List ℕ
front_line e = line_of (Front e.0) (decimal e.1)

abbrev pub defer_line : (ℕ × ℕ) × ℕ → List ℕ
defer_line e = line_of (Defer e.0.0 e.0.1) (decimal e.1)

-- the lines of a table, in their order
abbrev pub body_of : Table → List ℕ
body_of table = flat_map pad_line (entries table.pads) ++ (flat_map front_line (entries table.fronts) ++ flat_map defer_line (entries table.defers))

-- the first line tells the version
abbrev pub head_of : Version → List ℕ
head_of One = HEAD_ONE
head_of Two = HEAD_TWO

abbrev pub spelling : Version → Table → List ℕ
spelling version table = head_of version ++ body_of table

-- a table that the version can spell: version 1 has no fronts
abbrev pub IsSpelled : Version → Table → Type 0
IsSpelled One table = table.fronts ≡ empty
IsSpelled Two table = Unit {0}
