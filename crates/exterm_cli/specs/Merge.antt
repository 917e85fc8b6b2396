-- The command `merge`: docs/program.md, "Merge".
use Rattle.std.specs.Prelude.{◌≡◌, ℕ, List, [], ◌∷◌, Result, Ok, Err, Option}
use Rattle.ex_io.specs.Files.{FileMap}
use Rattle.patch_table.specs.Spelling.{spelling}
use Rattle.patch_table.specs.Table.{Table, join, no_patches}
use Rattle.patch_table.specs.declared.line.Version.TheVariants.{Two}
use Rattle.exterm_cli.specs.Plan.{Plan, Stage, Settles, gives}
use Rattle.exterm_cli.specs.Taking.{ReadsFiles, ReadsTable}
use Rattle.exterm_cli.specs.declared.words.FileWords.{FileWords}

-- a table joined with others, one after the other
abbrev pub joined : Table → List Table → Table
joined table [] = table
joined table (next ∷ others) = joined (join table next) others

abbrev pub merged : List (List ℕ) → (to : Option ℕ) → Result (List Table) Plan → Plan
merged words to (Ok tables) = gives words to (spelling Two (joined no_patches tables))
merged words to (Err plan) = plan

abbrev pub LeadsMerge : List (List ℕ) → FileMap → FileWords → Stage → Type 0
LeadsMerge words files names stage =
    (read : Result (List Table) Plan) × ReadsFiles ReadsTable words files names.count names.first 1 read × (stage ≡ Settles (merged words names.out read))
