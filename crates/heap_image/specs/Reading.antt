-- What reading bytes answers (docs/images.md, "Refusals").
use Rattle.std.specs.Prelude.{◌≡◌, ℕ, ◌-◌, ◌==◌, List, length, Option, Some, None, Result, Ok, Err, if◌then◌else◌}
use Rattle.patch_table.specs.Table.{Table}
use Rattle.patch_table.specs.Grammar.{IsPatchText}
use Rattle.heap_image.specs.declared.refusal.ImageRefusal.{ImageRefusal}
use Rattle.heap_image.specs.declared.refusal.ImageRefusal.TheVariants as why
use Rattle.exact_heap.specs.declared.row.SlotRow.{SlotRow}
use Rattle.heap_image.specs.declared.image.Broken.{Broken}
use Rattle.heap_image.specs.declared.image.Head.{Head}
use Rattle.heap_image.specs.declared.version.Version.{Version}
use Rattle.heap_image.specs.declared.whole.Body.{Body}
use Rattle.heap_image.specs.Fields.{Word}
use Rattle.heap_image.specs.Rules.{contents_len}
use Rattle.heap_image.specs.Snapshot.{Snapshot}
use Rattle.heap_image.specs.Versions.{IsTextOf}
use Rattle.heap_image.specs.Steps.{◌>>=◌, number_at, part_at, mark_at, read_at, counted_at}
use Rattle.heap_image.specs.Formats.{head_format, class_format, row_format, broken_format}

-- what stands before the miniheaps; the patch text is the first part of the bytes from `begins` on
pub record Front : Type 0 where
  pub version : Version
  pub head : Head
  pub begins : List ℕ
  pub text : List ℕ
  pub rest : List ℕ

abbrev pub text_front : Version → Head → (begins : List ℕ) → List ℕ × List ℕ → Result Front ImageRefusal
text_front version head begins text = Ok (record { version = version; head = head; begins = begins; text = text.0; rest = text.1 })

unfoldable pub front_at : List ℕ → Result Front ImageRefusal
front_at bytes =
    mark_at bytes >>= λ mark. read_at (length bytes) head_format mark.1 >>= λ head. number_at Word head.1 >>= λ len.
    part_at len.0 len.1 >>= λ text. text_front mark.0 head.0 len.1 text

-- what stands behind the patch text
pub record Parts : Type 0 where
  pub miniheaps : List ℕ
  pub rows : List SlotRow
  pub contents : List ℕ
  pub broken : List Broken

abbrev pub parts_in : Body → Parts
parts_in b = record { miniheaps = b.miniheaps.items; rows = b.rows.items; contents = b.contents.items; broken = b.broken.items }

abbrev pub ended : Parts → (rest : List ℕ) → Result Parts ImageRefusal
ended parts rest = if length rest == 0 then Ok parts else Err why.Tail

unfoldable pub contents_at : (whole : ℕ) → (seed : ℕ) → (miniheaps : List ℕ) → (rows : List SlotRow) → List ℕ → Result Parts ImageRefusal
contents_at whole seed miniheaps rows bytes =
    part_at (contents_len miniheaps rows) bytes >>= λ contents. counted_at whole (broken_format seed miniheaps rows) contents.1 >>= λ broken.
    ended (record { miniheaps = miniheaps; rows = rows; contents = contents.0; broken = broken.0 }) broken.1

unfoldable pub parts_at : Version → (whole : ℕ) → Head → List ℕ → Result Parts ImageRefusal
parts_at version whole head bytes =
    counted_at whole (class_format version) bytes >>= λ minis. counted_at whole (row_format version minis.0 head.clock) minis.1 >>= λ rows.
    contents_at whole head.seed minis.0 rows.0 rows.1

abbrev pub image_of : Head → Table → Parts → Snapshot
image_of head table parts = record {
  tag = head.tag;
  seed = head.seed;
  place = head.place;
  clock = head.clock;
  patches = table;
  miniheaps = parts.miniheaps;
  rows = parts.rows;
  contents = parts.contents;
  broken = parts.broken;
}

-- what comes of the patch text's table, or of there being none: the text's first byte is bad
abbrev pub image_at : (whole : ℕ) → Front → Option Table → Result Snapshot ImageRefusal
image_at whole f None = Err (why.Bad (whole - length f.begins))
image_at whole f (Some table) = parts_at f.version whole f.head f.rest >>= λ parts. Ok (image_of f.head table parts)

-- a patch text is a table's, or no table's
abbrev pub IsAnswer : Version → (text : List ℕ) → Option Table → Type 0
IsAnswer version text (Some table) = IsTextOf version text table
IsAnswer version text None = (table : Table) → IsTextOf version text table → ⊥

-- the same, in either version
abbrev pub IsAnyAnswer : (text : List ℕ) → Option Table → Type 0
IsAnyAnswer text (Some table) = IsPatchText text table
IsAnyAnswer text None = (table : Table) → IsPatchText text table → ⊥

abbrev pub AnswersFrom : (whole : ℕ) → Result Front ImageRefusal → Result Snapshot ImageRefusal → Type 0
AnswersFrom whole (Err e) result = result ≡ Err e
AnswersFrom whole (Ok f) result = (table : Option Table) × IsAnswer f.version f.text table × (result ≡ image_at whole f table)

abbrev pub IsAnswered : List ℕ → Result Snapshot ImageRefusal → Type 0
IsAnswered bytes result = AnswersFrom (length bytes) (front_at bytes) result

-- the image that the bytes spell, the first field that is wrong, or want of memory
abbrev pub Answers : List ℕ → Result Snapshot ImageRefusal → Type 0
Answers bytes (Ok image) = IsAnswered bytes (Ok image)
Answers bytes (Err why.Head) = IsAnswered bytes (Err why.Head)
Answers bytes (Err why.Short) = IsAnswered bytes (Err why.Short)
Answers bytes (Err (why.Bad at)) = IsAnswered bytes (Err (why.Bad at))
Answers bytes (Err why.Tail) = IsAnswered bytes (Err why.Tail)
Answers bytes (Err why.Memory) = Unit {0}

abbrev pub WantsMemory : Result Snapshot ImageRefusal → Type 0
WantsMemory result = result ≡ Err why.Memory
