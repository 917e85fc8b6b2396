-- Patch files that are joined, one after the other.
use Rattle.std.proofs.Common.{◌≡◌, ◌<◌, ◌≤◌, ℕ, ◌+◌, List, [], ◌∷◌, ◌++◌, Option, None, Some, Ok, Err, IfSome, refl, sym, ◌∙◌, ap, subst}
use Rattle.ex_io.specs.Files.{FileMap}
use Rattle.patch_table.specs.Table.{Table, join, no_patches}
use Rattle.exterm_cli.specs.Merge.{joined}
use Rattle.exterm_cli.specs.Parts.{IsPlanned, JoinsFiles}
use Rattle.exterm_cli.specs.Taking.{ReadsTable, ReadsTaken, taken_word}
use Rattle.exterm_cli.specs.declared.cut.Stop.{Stop}
use Rattle.exterm_cli.specs.declared.words.FileWords.{FileWords}
use Rattle.exterm_cli.proofs.Several.{HasRead, reads-begin, reads-end, reads-next, reads-stop}

joined-last : (table : Table) (tables : List Table) (last : Table) → joined table (tables ++ (last ∷ [])) ≡ join (joined table tables) last
joined-last table [] last = refl
joined-last table (next ∷ tables) last = joined-last (join table next) tables last

-- The first `i` files were read as these tables, whose join is `table`.
pub record HasJoined (words : List (List ℕ)) (files : FileMap) (f : FileWords) (i : ℕ) (table : Table) : Type 0 where
  pub tables : List Table
  pub is : joined no_patches tables ≡ table
  pub read : HasRead ReadsTable words files f i tables

pub record SoJoined (words : List (List ℕ)) (files : Option FileMap) (f : FileWords) (i : ℕ) (table : Table) : Type 0 where
  pub has : IfSome files (λ told. HasJoined words told f i table)

module _ (words : List (List ℕ)) (f : FileWords) where
  pub so-begins : (files : Option FileMap) (table : Table) → table ≡ no_patches → SoJoined words files f 0 table
  so-begins None table none = record { has = tt }
  so-begins (Some told) table none = record { has = record { tables = []; is = sym none; read = reads-begin ReadsTable words f told } }

  pub so-ends : (i : ℕ) (files : Option FileMap) (table : Table) → f.count ≤ i → SoJoined words files f i table → IfSome files (λ told. JoinsFiles words told f (Ok table))
  so-ends i None table all so = tt
  so-ends i (Some told) table all so = (so.has.tables, reads-end ReadsTable words f told i so.has.tables all so.has.read, so.has.is)

  module _ (i : ℕ) (less : i < f.count) where
    abbrev Next : (next : Table) → FileMap → Type 0
    Next next told = ReadsTaken ReadsTable (i + 1) (taken_word words told (f.first + i)) (Ok next)

    abbrev Stops : Stop → FileMap → Type 0
    Stops stop told = IsPlanned (λ table. table) (ReadsTaken ReadsTable (i + 1) (taken_word words told (f.first + i))) (Err stop)

    pub so-next : (files now : Option FileMap) (table next new : Table) → now ≡ files → IfSome now (λ told. ReadsTaken ReadsTable (i + 1) (taken_word words told (f.first + i)) (Ok next)) → new ≡ join table next → SoJoined words files f i table → SoJoined words files f (i + 1) new
    so-next None now table next new same here is so = record { has = tt }
    so-next (Some told) now table next new same here is so = record {
      has = record {
        tables = so.has.tables ++ (next ∷ []);
        is = joined-last no_patches so.has.tables next ∙ ap (λ t. join t next) so.has.is ∙ sym is;
        read = reads-next ReadsTable words f told i less so.has.tables so.has.read next (subst (λ files. IfSome files (Next next)) same here);
      };
    }

    pub so-stops : (files now : Option FileMap) (table : Table) (stop : Stop) → now ≡ files → IfSome now (λ told. IsPlanned (λ table. table) (ReadsTaken ReadsTable (i + 1) (taken_word words told (f.first + i))) (Err stop)) → SoJoined words files f i table → IfSome files (λ told. IsPlanned (λ table. table) (JoinsFiles words told f) (Err stop))
    so-stops None now table stop same here so = tt
    so-stops (Some told) now table stop same here so =
        reads-stop ReadsTable words f told i less so.has.tables so.has.read (λ t. t) (λ t. t) (JoinsFiles words told f) (λ plan reads. reads) stop (subst (λ files. IfSome files (Stops stop)) same here)
