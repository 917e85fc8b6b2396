-- What a file is shown as that doesn't begin as an ELF file.
use Rattle.std.proofs.Common.{◌≡◌, ℕ, false, List, Result, Ok, Err, refl, sym, subst}
use Rattle.heap_image.specs.Snapshot.{Snapshot}
use Rattle.infinite_heap.specs.ElfHeaders.{has_magic}
use Rattle.exterm_cli.specs.Parts.{IsPlanned, IsSettled, told}
use Rattle.exterm_cli.specs.Show.{ShowsAs, ShowsFile, imaged}
use Rattle.exterm_cli.specs.Taking.{ReadsImage}
use Rattle.exterm_cli.specs.declared.cut.Stop.{Stop}
use Rattle.exterm_cli.specs.declared.cut.Stop.TheVariants as stop
use Rattle.exterm_cli.specs.declared.plan.Plan.{Plan as Settled}

module _ (words : List (List ℕ)) (file : List ℕ) where
  as-image : (result : Result Settled Stop) → has_magic file ≡ false → IsSettled (ShowsAs false words file) result → IsSettled (ShowsFile words (Ok file)) result
  as-image result other shows = subst (λ b. IsSettled (ShowsAs b words file) result) (sym other) shows

  settled : (image : Snapshot) (result : Result Settled Stop) → ReadsImage 1 file (Ok image) → IsSettled (λ plan. plan ≡ imaged words (Ok image)) result → IsSettled (ShowsAs false words file) result
  settled image (Ok plan) reads is = (Ok image, reads, is)
  settled image (Err (stop.Refused verdict)) reads is = (Ok image, reads, is)
  settled image (Err (stop.CutShort cause)) reads is = tt

  pub shows-image : (image : Snapshot) (result : Result Settled Stop) → has_magic file ≡ false → ReadsImage 1 file (Ok image) → IsSettled (λ plan. plan ≡ imaged words (Ok image)) result → IsSettled (ShowsFile words (Ok file)) result
  shows-image image result other reads is = as-image result other (settled image result reads is)

  stopped : (stop : Stop) → IsPlanned (λ (s : Snapshot). s) (ReadsImage 1 file) (Err stop) → IsSettled (ShowsAs false words file) (Err stop)
  stopped (stop.Refused verdict) reads = (Err (told verdict), reads, refl)
  stopped (stop.CutShort cause) reads = tt

  pub shows-none : (stop : Stop) → has_magic file ≡ false → IsPlanned (λ (s : Snapshot). s) (ReadsImage 1 file) (Err stop) → IsSettled (ShowsFile words (Ok file)) (Err stop)
  shows-none stop other reads = as-image (Err stop) other (stopped stop reads)
