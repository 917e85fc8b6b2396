-- The images that bytes spell (docs/images.md, "Bytes").
use Rattle.std.specs.Prelude.{◌≡◌, ℕ, ◌<◌, ◌≤◌, ◌^◌, List, length}
use Rattle.std.specs.List.{AllByRecursion}
use Rattle.heap_image.specs.declared.version.Version.{Version}
use Rattle.heap_image.specs.declared.version.Version.TheVariants.{One, Two}
use Rattle.heap_image.specs.Snapshot.{Snapshot}
use Rattle.heap_image.specs.Versions.{greatest_class, IsTextOf}
use Rattle.heap_image.specs.Lawful.{IsLawful}
use Rattle.heap_image.specs.Spelling.{spelling}

-- version 1 has images without fronts and without the greatest class alone
abbrev pub HasVersion : Version → Snapshot → Type 0
HasVersion One s = AllByRecursion (λ c. c ≤ greatest_class One) s.miniheaps × AllByRecursion (λ r. r.front ≡ 0) s.rows
HasVersion Two s = Unit {0}

-- these bytes are the image's in a version
pub record IsImage (version : Version) (bytes : List ℕ) (s : Snapshot) : Type 0 where
  pub lawful : IsLawful s
  pub has_version : HasVersion version s
  pub text : List ℕ
  pub text_fits : length text < 2 ^ 32
  pub is_text : IsTextOf version text s.patches
  pub spelled : bytes ≡ spelling version text s

-- these bytes are the image's in one of the versions
abbrev pub IsRead : (bytes : List ℕ) → Snapshot → Type 0
IsRead bytes s = (version : Version) × IsImage version bytes s
