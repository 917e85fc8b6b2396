-- What parts the two versions of an image's bytes (docs/images.md, "Versions").
use Rattle.std.specs.Prelude.{ℕ, List, []}
use Rattle.patch_table.specs.Table.{Table}
use Rattle.patch_table.specs.Grammar.{IsText}
use Rattle.patch_table.specs.Spelling as patches
use Rattle.patch_table.specs.declared.line.Version as line
use Rattle.patch_table.specs.declared.line.Version.TheVariants as patch_text
use Rattle.heap_image.specs.declared.version.Version.{Version}
use Rattle.heap_image.specs.declared.version.Version.TheVariants.{One, Two}
use Rattle.heap_image.specs.Fields.{Word, number_bytes}
use Rattle.heap_image.specs.declared.version.TheConstants.{MARK_ONE, MARK_TWO}

unfoldable pub mark_of : Version → List ℕ
mark_of One = MARK_ONE
mark_of Two = MARK_TWO

abbrev pub greatest_class : Version → ℕ
greatest_class One = 21
greatest_class Two = 22

-- version 1 has no fields for fronts
abbrev pub front_bytes : Version → ℕ → List ℕ
front_bytes One front = []
front_bytes Two front = number_bytes Word front

-- the patch text has the version of the image
abbrev pub text_version : Version → line.Version
text_version One = patch_text.One
text_version Two = patch_text.Two

abbrev pub IsTextOf : Version → List ℕ → Table → Type 0
IsTextOf version text table = IsText (text_version version) text table

abbrev pub text_of : Version → Table → List ℕ
text_of version table = patches.spelling (text_version version) table

-- the first line of a patch text
abbrev pub text_head : Version → List ℕ
text_head version = patches.head_of (text_version version)
