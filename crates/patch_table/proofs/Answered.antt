-- What an answer says in each case.
use Rattle.std.proofs.Common.{◌≡◌, ◌⊎◌, List, ℕ, Result, Ok, Err}
use Rattle.std.specs.Prelude.{IfOk}
use Rattle.patch_table.specs.Table.{Table}
use Rattle.patch_table.specs.Grammar.{IsPatchText, IsRefused, Answers, WantsMemory}
use Rattle.patch_table.specs.Spelling.{spelling}
use Rattle.patch_table.specs.declared.line.Version.{Version}
use Rattle.patch_table.specs.declared.reading.PatchRefusal.{PatchRefusal}
use Rattle.patch_table.specs.declared.reading.PatchRefusal.TheVariants as why
use Rattle.patch_table.proofs.Texts.{text_is_spelling}
use Rattle.patch_table.proofs.Once.{told_apart}

abbrev failed : PatchRefusal → Result Table PatchRefusal
failed e = Err e

pub one_text : (text : List ℕ) (r : Result Table PatchRefusal) → Answers text r → IfOk r (λ table. (version : Version) × (text ≡ spelling version table))
one_text text (Ok table) h = (h.0, (text_is_spelling h.1).2)
one_text text (Err refusal) h = tt

pub accepts : (text : List ℕ) (r : Result Table PatchRefusal) → Answers text r → (table : Table) → IsPatchText text table → (r ≡ Ok table) ⊎ WantsMemory r
accepts text r h table is = told_apart text r (Ok table) h is (λ e. absurd cc)

pub refuses : (text : List ℕ) (r : Result Table PatchRefusal) → Answers text r → (refusal : PatchRefusal) → IsRefused text refusal → (r ≡ failed refusal) ⊎ WantsMemory r
refuses text r h why.Head is = told_apart text r (Err why.Head) h is (λ e. absurd cc)
refuses text r h (why.Line n) is = told_apart text r (Err (why.Line n)) h is (λ e. absurd cc)
refuses text r h (why.Limit n) is = told_apart text r (Err (why.Limit n)) h is (λ e. absurd cc)
refuses text r h (why.Order n) is = told_apart text r (Err (why.Order n)) h is (λ e. absurd cc)
refuses text r h why.Memory is = absurd is
