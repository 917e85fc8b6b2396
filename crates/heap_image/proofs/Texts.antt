-- A patch text that begins with the first line of a version is of no other version.
use Rattle.std.proofs.Common.{◌≡◌, ◌⊎◌, inl, inr, ℕ, List, ◌++◌, get_or, Option, Some, None, Bool, true, false, Result, Ok, Err, refl, sym, ap, ◌∙◌, arith}
use Rattle.std.specs.Prelude.{IfOk}
use Rattle.patch_table.specs.Table.{Table}
use Rattle.patch_table.specs.Grammar.{IsText, WantsMemory}
use Rattle.patch_table.specs.Spelling as patches
use Rattle.patch_table.specs.declared.reading.PatchRefusal.{PatchRefusal}
use Rattle.patch_table.specs.declared.line.Version as line
use Rattle.patch_table.specs.declared.line.Version.TheVariants as patch_text
use Rattle.heap_image.specs.declared.version.Version.{Version}
use Rattle.heap_image.specs.declared.version.Version.TheVariants.{One, Two}
use Rattle.heap_image.specs.Versions.{IsTextOf, text_head, text_version}
use Rattle.heap_image.specs.Reading.{IsAnswer, IsAnyAnswer}

-- each text of a table is its spelling
abbrev pub AreSpelled : Type 0
AreSpelled = (version : line.Version) (text : List ℕ) (table : Table) → IsText version text table → text ≡ patches.spelling version table

apart : (m n : ℕ) → m ≡ 49 → n ≡ 50 → m ≡ n → ⊥
apart m n p q e = absurd (omega arith)

heads_differ : (a b : List ℕ) → patches.head_of patch_text.One ++ a ≡ patches.head_of patch_text.Two ++ b → ⊥
heads_differ a b e = apart (get_or (patches.head_of patch_text.One ++ a) 15 0) (get_or (patches.head_of patch_text.Two ++ b) 15 0) refl refl (ap (λ (t : List ℕ). get_or t 15 0) e)

of_version : (version : Version) (other : line.Version) (text rest : List ℕ) (table : Table) → AreSpelled → text ≡ text_head version ++ rest → IsText other text table → IsTextOf version text table
of_version One patch_text.One text rest table spelled e h = h
of_version One patch_text.Two text rest table spelled e h = absurd (heads_differ rest (patches.body_of table) (sym e ∙ spelled patch_text.Two text table h))
of_version Two patch_text.One text rest table spelled e h = absurd (heads_differ (patches.body_of table) rest (sym (spelled patch_text.One text table h) ∙ e))
of_version Two patch_text.Two text rest table spelled e h = h

pub with_head : (version : Version) (text rest : List ℕ) → AreSpelled → text ≡ text_head version ++ rest → (answer : Option Table) → IsAnyAnswer text answer → IsAnswer version text answer
with_head version text rest spelled e None h = λ table is. h table (text_version version, is)
with_head version text rest spelled e (Some table) h = of_version version h.0 text rest table spelled e h.1

pub without_head : (version : Version) (text : List ℕ) → AreSpelled → (has : Bool) → has ≡ false → ((rest : List ℕ) → text ≡ text_head version ++ rest → has ≡ true) → IsAnswer version text None
without_head version text spelled has lacks all = λ table is. let e = all (patches.body_of table) (spelled (text_version version) text table is) in absurd cc

pub with_head_result : {E : Type 0} (version : Version) (text rest : List ℕ) → AreSpelled → text ≡ text_head version ++ rest → (result : Result (Option Table) E) → IfOk result (IsAnyAnswer text) → IfOk result (IsAnswer version text)
with_head_result version text rest spelled e (Ok answer) h = with_head version text rest spelled e answer h
with_head_result version text rest spelled e (Err d) h = tt

-- ---- one table

pub same_table : (a b : Table) (x y : Result Table PatchRefusal) → x ≡ Ok a → y ≡ Ok b → WantsMemory x ⊎ (WantsMemory y ⊎ (x ≡ y)) → a ≡ b
same_table a b x y p q h = elim h [ inl e ↦ absurd cc | inr g ↦ elim g [ inl e ↦ absurd cc | inr e ↦ cc ] ]
