-- The grammar of patch texts, and what reading a text may answer (docs/patches.md, "The text", "Refusals").
use Rattle.std.specs.Prelude.{◌≡◌, ◌≢◌, ◌==◌, ℕ, ◌+◌, ◌<◌, List, [], ◌++◌, length, count_by, Result, Ok, Err}
use Rattle.std.specs.List.{AllByRecursion}
use Rattle.std.specs.Ordering.{nat_cmp}
use Rattle.std.specs.declared.cmp.Ordering.{Ordering}
use Rattle.std.specs.declared.cmp.Ordering.TheVariants.{Less}
use Rattle.std.specs.FinMap.{entries}
use Rattle.patch_table.specs.Table.{Table, no_patches, pair_cmp, raised}
use Rattle.patch_table.specs.Line.{IsLine, InLimit}
use Rattle.patch_table.specs.declared.line.Key.{Key}
use Rattle.patch_table.specs.declared.line.Key.TheVariants.{Pad, Front, Defer}
use Rattle.patch_table.specs.declared.line.Line.{Line}
use Rattle.patch_table.specs.declared.line.Version.{Version}
use Rattle.patch_table.specs.Spelling.{head_of}
use Rattle.patch_table.specs.declared.reading.PatchRefusal.{PatchRefusal}
use Rattle.patch_table.specs.declared.reading.PatchRefusal.TheVariants as why

abbrev pub AllBelow : {K X : Type 0} → (K → K → Ordering) → List (K × X) → K → Type 0
AllBelow R es k = AllByRecursion (λ e. R e.0 k ≡ Less) es

-- a line that may follow the lines of a table: pads by rising sites, then fronts by rising sites, then deferrals by rising pairs
abbrev pub Rises : Table → Key → Type 0
Rises table (Pad site) = (entries table.fronts ≡ []) × (entries table.defers ≡ []) × AllBelow nat_cmp (entries table.pads) site
Rises table (Front site) = (entries table.defers ≡ []) × AllBelow nat_cmp (entries table.fronts) site
Rises table (Defer alloc_site free_site) = AllBelow pair_cmp (entries table.defers) (alloc_site, free_site)

-- a table with one line more
abbrev pub with_line : Table → Key → ℕ → Table
with_line table (Pad site) n = record table { pads = raised table.pads site n }
with_line table (Front site) n = record table { fronts = raised table.fronts site n }
with_line table (Defer alloc_site free_site) n = record table { defers = raised table.defers (alloc_site, free_site) n }

-- A text of a table, in a version, is the first line, or a text and one line that may follow it.
pub data IsText : Version → List ℕ → Table → Type 0 where
  head : {version : Version} → IsText version (head_of version) no_patches
  next : {version : Version} {text : List ℕ} {table : Table} (line : List ℕ) (key : Key) (n : ℕ) → IsText version text table → IsLine version line key n → InLimit key n → Rises table key
      → IsText version (text ++ line) (with_line table key n)

-- a text of a table, in its version
abbrev pub IsPatchText : List ℕ → Table → Type 0
IsPatchText text table = (version : Version) × IsText version text table

-- ---- refusals

-- the number of the line that follows a text of whole lines
abbrev pub next_line : List ℕ → ℕ
next_line text = count_by (λ b. b == 10) text + 1

-- The lines up to the n-th are a text of a table, and what follows breaks a rule.
pub record BreaksAt (text : List ℕ) (n : ℕ) (Rule : Version → Table → List ℕ → Type 0) : Type 0 where
  pub version : Version
  pub table : Table
  pub before : List ℕ
  pub rest : List ℕ
  pub so_far : IsText version before table
  pub whole : text ≡ before ++ rest
  pub place : n ≡ next_line before
  pub breaks : Rule version table rest

-- not at the end, and no line of the version with its line feed
pub record IsNoLine (version : Version) (table : Table) (rest : List ℕ) : Type 0 where
  pub some : 0 < length rest
  pub none : (line : List ℕ) (key : Key) (n : ℕ) (more : List ℕ) → IsLine version line key n → rest ≢ line ++ more

pub record IsBeyond (version : Version) (table : Table) (rest : List ℕ) : Type 0 where
  pub line : List ℕ
  pub key : Key
  pub value : ℕ
  pub more : List ℕ
  pub parts : rest ≡ line ++ more
  pub is_line : IsLine version line key value
  pub beyond : InLimit key value → ⊥

pub record IsOutOfOrder (version : Version) (table : Table) (rest : List ℕ) : Type 0 where
  pub line : List ℕ
  pub key : Key
  pub value : ℕ
  pub more : List ℕ
  pub parts : rest ≡ line ++ more
  pub is_line : IsLine version line key value
  pub within : InLimit key value
  pub falls : Rises table key → ⊥

-- a text is refused: the first line that breaks a rule, and that rule
abbrev pub IsRefused : List ℕ → PatchRefusal → Type 0
IsRefused text why.Head = (version : Version) (rest : List ℕ) → text ≢ head_of version ++ rest
IsRefused text (why.Line n) = BreaksAt text n IsNoLine
IsRefused text (why.Limit n) = BreaksAt text n IsBeyond
IsRefused text (why.Order n) = BreaksAt text n IsOutOfOrder
IsRefused text why.Memory = ⊥

-- the text's table, its refusal, or want of memory
abbrev pub Answers : List ℕ → Result Table PatchRefusal → Type 0
Answers text (Ok table) = IsPatchText text table
Answers text (Err why.Head) = IsRefused text why.Head
Answers text (Err (why.Line n)) = IsRefused text (why.Line n)
Answers text (Err (why.Limit n)) = IsRefused text (why.Limit n)
Answers text (Err (why.Order n)) = IsRefused text (why.Order n)
Answers text (Err why.Memory) = Unit {0}

-- A text is answered where it has a table or a refusal. Want of memory is neither.
pub data IsAnswered (text : List ℕ) : Type 0 where
  read : (table : Table) → IsPatchText text table → IsAnswered text
  refused : (refusal : PatchRefusal) → IsRefused text refusal → IsAnswered text

abbrev pub WantsMemory : Result Table PatchRefusal → Type 0
WantsMemory result = result ≡ Err why.Memory

-- ---- a line taken by the reader

-- what taking a line, the n-th of the text, may answer
abbrev pub Takes : Table → Line → ℕ → Result (Unit {0}) PatchRefusal → Table → Type 0
Takes old line n (Ok done) new = InLimit line.key line.number × Rises old line.key × (new ≡ with_line old line.key line.number)
Takes old line n (Err why.Head) new = ⊥
Takes old line n (Err (why.Line m)) new = ⊥
Takes old line n (Err (why.Limit m)) new = (m ≡ n) × (InLimit line.key line.number → ⊥)
Takes old line n (Err (why.Order m)) new = (m ≡ n) × InLimit line.key line.number × (Rises old line.key → ⊥)
Takes old line n (Err why.Memory) new = Unit {0}
