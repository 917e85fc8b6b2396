-- The texts of refusals: docs/program.md, "Report".
use Rattle.std.specs.Prelude.{ℕ, List, ◌++◌, codes, decimal}
use Rattle.heap_image.specs.declared.agreement.IsoRefusal.{IsoRefusal}
use Rattle.heap_image.specs.declared.agreement.IsoRefusal.TheVariants as iso
use Rattle.heap_image.specs.declared.refusal.ImageRefusal.{ImageRefusal}
use Rattle.heap_image.specs.declared.refusal.ImageRefusal.TheVariants as image
use Rattle.infinite_heap.specs.declared.program.ElfRefusal.{ElfRefusal}
use Rattle.infinite_heap.specs.declared.program.ElfRefusal.TheVariants as elf
use Rattle.patch_table.specs.declared.reading.PatchRefusal.{PatchRefusal}
use Rattle.patch_table.specs.declared.reading.PatchRefusal.TheVariants as patches
use Rattle.exterm_cli.specs.Plan.{Plan, refusal}
use Rattle.exterm_cli.specs.declared.words.Kind.{Kind}
use Rattle.exterm_cli.specs.declared.words.Kind.TheVariants as kind
use Rattle.exterm_cli.specs.declared.words.Refusal.{Refusal}

abbrev pub kind_text : Kind → List ℕ
kind_text kind.Command = codes "command"
kind_text kind.Unknown = codes "unknown"
kind_text kind.Repeat = codes "repeat"
kind_text kind.Value = codes "value"
kind_text kind.Name = codes "name"
kind_text kind.Excess = codes "excess"
kind_text kind.Guest = codes "guest"
kind_text kind.Missing = codes "missing"

abbrev pub words_text : Refusal → List ℕ
words_text refused = codes "words " ++ (decimal refused.place ++ (codes " " ++ kind_text refused.kind))

abbrev pub name_text : (place : ℕ) → List ℕ → List ℕ
name_text place what = codes "name " ++ (decimal place ++ what)

abbrev pub elf_text : ElfRefusal → List ℕ
elf_text elf.Short = codes "elf short"
elf_text elf.Magic = codes "elf magic"
elf_text elf.Class = codes "elf class"
elf_text elf.Kind = codes "elf kind"
elf_text elf.Machine = codes "elf machine"
elf_text elf.Flags = codes "elf flags"
elf_text elf.Headers = codes "elf headers"
elf_text elf.Dynamic = codes "elf dynamic"
elf_text elf.Region = codes "elf region"
elf_text elf.Overlap = codes "elf overlap"
elf_text elf.Total = codes "elf total"
elf_text elf.Entry = codes "elf entry"
elf_text elf.Symbols = codes "elf symbols"
elf_text elf.Memory = codes "memory"

-- of patch file k of the command
abbrev pub patches_text : (k : ℕ) → PatchRefusal → List ℕ
patches_text k patches.Head = codes "patches " ++ (decimal k ++ codes " head")
patches_text k (patches.Line n) = codes "patches " ++ (decimal k ++ (codes " line " ++ decimal n))
patches_text k (patches.Limit n) = codes "patches " ++ (decimal k ++ (codes " limit line " ++ decimal n))
patches_text k (patches.Order n) = codes "patches " ++ (decimal k ++ (codes " order line " ++ decimal n))
patches_text k patches.Memory = codes "memory"

-- of image k of the command
abbrev pub image_text : (k : ℕ) → ImageRefusal → List ℕ
image_text k image.Head = codes "image " ++ (decimal k ++ codes " head")
image_text k image.Short = codes "image " ++ (decimal k ++ codes " short")
image_text k (image.Bad at) = codes "image " ++ (decimal k ++ (codes " bad at " ++ decimal at))
image_text k image.Tail = codes "image " ++ (decimal k ++ codes " tail")
image_text k image.Memory = codes "memory"

abbrev pub isolate_text : IsoRefusal → List ℕ
isolate_text iso.Few = codes "isolate few"
isolate_text iso.Mixed = codes "isolate mixed"
isolate_text iso.Memory = codes "memory"

abbrev pub unbuilt : Plan
unbuilt = refusal 114 (codes "unbuilt")

abbrev pub wrong_words : Refusal → Plan
wrong_words refused = refusal 120 (words_text refused)

abbrev pub absent : (place : ℕ) → Plan
absent place = refusal 113 (name_text place (codes " absent"))

abbrev pub too_long : (place : ℕ) → Plan
too_long place = refusal 113 (name_text place (codes " long"))

abbrev pub no_program : ElfRefusal → Plan
no_program refused = refusal 121 (elf_text refused)

abbrev pub no_patches_in : (k : ℕ) → PatchRefusal → Plan
no_patches_in k refused = refusal 122 (patches_text k refused)

abbrev pub no_image_in : (k : ℕ) → ImageRefusal → Plan
no_image_in k refused = refusal 119 (image_text k refused)

abbrev pub not_isolated : IsoRefusal → Plan
not_isolated refused = refusal 117 (isolate_text refused)

-- the images of runs can't be compared
abbrev pub mixed_images : Plan
mixed_images = not_isolated iso.Mixed

abbrev pub long_input : Plan
long_input = refusal 116 (codes "input")
