use Rattle.std.proofs.Common.{◌≡◌, ◌++◌, List, ℕ}
use Rattle.patch_table.specs.Spelling.{head_of}
use Rattle.patch_table.specs.declared.line.Version.{Version}
use Rattle.patch_table.specs.declared.line.Version.TheVariants.{One, Two}
use Rattle.patch_table.specs.declared.reading.TheConstants.{HEAD_ONE, HEAD_TWO}
use Rattle.patch_table.proofs.reading.version_of.Goals as goal

neither : (text : List ℕ) → ((rest : List ℕ) → text ≡ HEAD_ONE ++ rest → ⊥) → ((rest : List ℕ) → text ≡ HEAD_TWO ++ rest → ⊥) → (version : Version) (rest : List ℕ) → text ≡ head_of version ++ rest → ⊥
neither text one two One rest e = one rest e
neither text one two Two rest e = two rest e

pub returns-in-None-after : goal.returns-in-None-after
returns-in-None-after c = neither c.args.text.now c.in-None.ensures c.in-None-after.ensures
