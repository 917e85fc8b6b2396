-- The command line, one word at a time: docs/command-line.md. Words are numbered from 1, and kept by their index, from 0.
use Rattle.std.specs.Prelude.{ℕ, ◌+◌, ◌-◌, ◌^◌, ◌==◌, ◌&&◌, Bool, true, false, nat_lt, nat_le, is_some, unwrap_or, List, [], ◌∷◌, slice_index, length, Result, Ok, Err, Option, None, Some, codes, if◌then◌else◌}
use Rattle.std.specs.Str.{bytes_eq}
use Rattle.layout_run.specs.Whole.{most_steps}
use Rattle.exterm_cli.specs.Number.{number_of}
use Rattle.exterm_cli.specs.declared.words.Command.{Command}
use Rattle.exterm_cli.specs.declared.words.Command.TheVariants as command
use Rattle.exterm_cli.specs.declared.words.FileWords.{FileWords}
use Rattle.exterm_cli.specs.declared.words.Flag.{Flag}
use Rattle.exterm_cli.specs.declared.words.Flag.TheVariants as flag
use Rattle.exterm_cli.specs.declared.words.GuestWords.{GuestWords}
use Rattle.exterm_cli.specs.declared.words.Kind.{Kind}
use Rattle.exterm_cli.specs.declared.words.Kind.TheVariants as kind
use Rattle.exterm_cli.specs.declared.words.Options.{Options}
use Rattle.exterm_cli.specs.declared.words.Reading.{Reading}
use Rattle.exterm_cli.specs.declared.words.Refusal.{Refusal}
use Rattle.exterm_cli.specs.declared.words.Verb.{Verb}
use Rattle.exterm_cli.specs.declared.words.Verb.TheVariants as verb

abbrev pub refuse : {T : Type 0} → ℕ → Kind → Result T Refusal
refuse place kind = Err (record { place = place; kind = kind })

-- the steps of a run that isn't given any
abbrev pub usual_steps : ℕ
usual_steps = 1000000000

-- ---- commands and options

abbrev pub verb_of : List ℕ → Option Verb
verb_of word =
    if bytes_eq word (codes "run") then Some verb.Run
    else if bytes_eq word (codes "repair") then Some verb.Repair
    else if bytes_eq word (codes "replicate") then Some verb.Replicate
    else if bytes_eq word (codes "merge") then Some verb.Merge
    else if bytes_eq word (codes "isolate") then Some verb.Isolate
    else if bytes_eq word (codes "show") then Some verb.Show
    else if bytes_eq word (codes "make") then Some verb.Make
    else if bytes_eq word (codes "trial") then Some verb.Trial
    else if bytes_eq word (codes "judge") then Some verb.Judge
    else None

abbrev pub flag_of : List ℕ → Option Flag
flag_of word =
    if bytes_eq word (codes "--seed") then Some flag.Seed
    else if bytes_eq word (codes "--steps") then Some flag.Steps
    else if bytes_eq word (codes "--patches") then Some flag.Patches
    else if bytes_eq word (codes "--zero") then Some flag.Zero
    else if bytes_eq word (codes "--image") then Some flag.Image
    else if bytes_eq word (codes "--images") then Some flag.Images
    else if bytes_eq word (codes "--replicas") then Some flag.Replicas
    else if bytes_eq word (codes "--quantum") then Some flag.Quantum
    else if bytes_eq word (codes "--out") then Some flag.Out
    else None

-- the command has an ELF file, and takes guest words behind it
abbrev pub is_guest : Verb → Bool
is_guest verb.Run = true
is_guest verb.Repair = true
is_guest verb.Replicate = true
is_guest verb.Judge = true
is_guest other = false

-- the command's name is a number
abbrev pub is_numbered : Verb → Bool
is_numbered verb.Make = true
is_numbered verb.Trial = true
is_numbered other = false

-- the most names that the command may take
abbrev pub most_names : Verb → ℕ
most_names verb.Merge = 64
most_names verb.Isolate = 16
most_names other = 1

abbrev pub writes_out : Verb → Bool
writes_out verb.Repair = true
writes_out verb.Replicate = true
writes_out verb.Merge = true
writes_out verb.Isolate = true
writes_out verb.Make = true
writes_out other = false

abbrev pub is_seeded : Verb → Bool
is_seeded verb.Run = true
is_seeded verb.Repair = true
is_seeded verb.Replicate = true
is_seeded verb.Trial = true
is_seeded other = false

abbrev pub is_run : Verb → Bool
is_run verb.Run = true
is_run other = false

abbrev pub is_repair : Verb → Bool
is_repair verb.Repair = true
is_repair other = false

abbrev pub is_replicate : Verb → Bool
is_replicate verb.Replicate = true
is_replicate other = false

-- the command has the option
abbrev pub allows : Verb → Flag → Bool
allows v flag.Seed = is_seeded v
allows v flag.Steps = is_guest v
allows v flag.Patches = is_guest v
allows v flag.Zero = is_guest v
allows v flag.Image = is_run v
allows v flag.Images = is_repair v
allows v flag.Replicas = is_replicate v
allows v flag.Quantum = is_replicate v
allows v flag.Out = writes_out v

-- the option stands already
abbrev pub has : Options → Flag → Bool
has o flag.Seed = is_some o.seed
has o flag.Steps = is_some o.steps
has o flag.Patches = is_some o.patches
has o flag.Zero = o.zero
has o flag.Image = is_some o.image
has o flag.Images = is_some o.images
has o flag.Replicas = is_some o.replicas
has o flag.Quantum = is_some o.quantum
has o flag.Out = is_some o.out

abbrev pub no_options : Options
no_options = record { seed = None; steps = None; patches = None; zero = false; image = None; images = None; replicas = None; quantum = None; out = None }

abbrev pub begun : Verb → Reading
begun v = record { verb = v; options = no_options; expects = None; first = 0; names = 0; number = 0; guest = None; bytes = 0; strings = 0 }

-- ---- one word

abbrev pub with_flag : Reading → Flag → Reading
with_flag r flag.Zero = record r { options = record r.options { zero = true } }
with_flag r f = record r { expects = Some f }

abbrev pub flagged : Reading → (place : ℕ) → Option Flag → Result Reading Refusal
flagged r place None = refuse place kind.Unknown
flagged r place (Some f) = if allows r.verb f then (if has r.options f then refuse place kind.Repeat else Ok (with_flag r f)) else refuse place kind.Unknown

-- a number in the range of an option
abbrev pub in_range : (low high : ℕ) → Option ℕ → Option ℕ
in_range low high None = None
in_range low high (Some n) = if nat_le low n && nat_le n high then Some n else None

abbrev pub or_value : {A : Type 0} → Reading → (place : ℕ) → Option A → (A → Options) → Result Reading Refusal
or_value r place None options = refuse place kind.Value
or_value r place (Some a) options = Ok (record r { options = options a; expects = None })

-- a file's name, kept by its index
abbrev pub file_at : (place : ℕ) → List ℕ → Option ℕ
file_at place word = if length word == 0 then None else Some (place - 1)

abbrev pub valued : Reading → (place : ℕ) → List ℕ → Flag → Result Reading Refusal
valued r place word flag.Seed = or_value r place (number_of (2 ^ 64) word) (λ n. record r.options { seed = Some n })
valued r place word flag.Steps = or_value r place (in_range 1 most_steps (number_of (2 ^ 64) word)) (λ n. record r.options { steps = Some n })
valued r place word flag.Images = or_value r place (in_range 2 16 (number_of (2 ^ 64) word)) (λ n. record r.options { images = Some n })
valued r place word flag.Replicas = or_value r place (in_range 3 9 (number_of (2 ^ 64) word)) (λ n. record r.options { replicas = Some n })
valued r place word flag.Quantum = or_value r place (in_range 1 1000000 (number_of (2 ^ 64) word)) (λ n. record r.options { quantum = Some n })
valued r place word flag.Patches = or_value r place (file_at place word) (λ at. record r.options { patches = Some at })
valued r place word flag.Image = or_value r place (file_at place word) (λ at. record r.options { image = Some at })
valued r place word flag.Out = or_value r place (file_at place word) (λ at. record r.options { out = Some at })
valued r place word flag.Zero = refuse place kind.Value

-- a word of the argument list: with a zero byte behind each at most 65,536 bytes, at most 1,024 strings
abbrev pub with_string : Reading → (place : ℕ) → List ℕ → Result Reading Refusal
with_string r place word =
    if nat_le (r.strings + 1) 1024 && nat_le (r.bytes + length word + 1) 65536 then Ok (record r { strings = r.strings + 1; bytes = r.bytes + length word + 1 })
    else refuse place kind.Guest

abbrev pub with_name : Reading → (place : ℕ) → Reading
with_name r place = if r.names == 0 then record r { first = place - 1; names = 1 } else record r { names = r.names + 1 }

abbrev pub numbered : Reading → (place : ℕ) → Option ℕ → Result Reading Refusal
numbered r place None = refuse place kind.Name
numbered r place (Some n) = Ok (record (with_name r place) { number = n })

abbrev pub named : Reading → (place : ℕ) → List ℕ → Result Reading Refusal
named r place word =
    if length word == 0 then refuse place kind.Name
    else if is_numbered r.verb then numbered r place (in_range 0 4294967295 (number_of (2 ^ 64) word))
    else if is_guest r.verb then with_string (with_name r place) place word
    else Ok (with_name r place)

abbrev pub begins_with_dash : List ℕ → Bool
begins_with_dash word = slice_index word 0 == 45

-- a word before the last name that the command may take
abbrev pub before_last : Reading → (place : ℕ) → List ℕ → Result Reading Refusal
before_last r place word =
    if begins_with_dash word then (if r.names == 0 then flagged r place (flag_of word) else refuse place kind.Unknown)
    else named r place word

-- a word right after that name
abbrev pub after_last : Reading → (place : ℕ) → List ℕ → Result Reading Refusal
after_last r place word = if is_guest r.verb && bytes_eq word (codes "--") then Ok (record r { guest = Some place }) else refuse place kind.Excess

abbrev pub free_word : Reading → (place : ℕ) → List ℕ → Result Reading Refusal
free_word r place word = if nat_lt r.names (most_names r.verb) then before_last r place word else after_last r place word

abbrev pub unexpected : Reading → (place : ℕ) → List ℕ → Option ℕ → Result Reading Refusal
unexpected r place word (Some from) = with_string r place word
unexpected r place word None = free_word r place word

abbrev pub expected : Reading → (place : ℕ) → List ℕ → Option Flag → Result Reading Refusal
expected r place word (Some f) = valued r place word f
expected r place word None = unexpected r place word r.guest

abbrev pub word_read : Reading → (place : ℕ) → List ℕ → Result Reading Refusal
word_read r place word = expected r place word r.expects

-- ---- all words

abbrev pub and_then : {A B : Type 0} → Result A Refusal → (A → Result B Refusal) → Result B Refusal
and_then (Ok a) next = next a
and_then (Err refused) next = Err refused

abbrev pub words_read : Reading → (place : ℕ) → List (List ℕ) → Result Reading Refusal
words_read r place [] = Ok r
words_read r place (word ∷ words) = and_then (word_read r place word) (λ next. words_read next (place + 1) words)

-- the words about a guest, with the defaults of options that don't stand; `end` is the number of words
abbrev pub guest_words : Reading → (end : ℕ) → GuestWords
guest_words r end = record {
  elf = r.first;
  guest = unwrap_or r.guest end;
  seed = unwrap_or r.options.seed 1;
  steps = unwrap_or r.options.steps usual_steps;
  patches = r.options.patches;
  zero = r.options.zero;
}

abbrev pub file_words : Reading → FileWords
file_words r = record { first = r.first; count = r.names; out = r.options.out }

abbrev pub repair_to : Reading → (end : ℕ) → Option ℕ → Result Command Refusal
repair_to r end None = refuse (end + 1) kind.Missing
repair_to r end (Some out) = Ok (command.Repair (guest_words r end) (unwrap_or r.options.images 3) out)

abbrev pub command_of : Reading → (end : ℕ) → Verb → Result Command Refusal
command_of r end verb.Run = Ok (command.Run (guest_words r end) r.options.image)
command_of r end verb.Repair = repair_to r end r.options.out
command_of r end verb.Replicate = Ok (command.Replicate (guest_words r end) (unwrap_or r.options.replicas 3) (unwrap_or r.options.quantum 1000) r.options.out)
command_of r end verb.Merge = Ok (command.Merge (file_words r))
command_of r end verb.Isolate = Ok (command.Isolate (file_words r))
command_of r end verb.Show = Ok (command.Show r.first)
command_of r end verb.Make = Ok (command.Make r.number r.options.out)
command_of r end verb.Trial = Ok (command.Trial r.number (unwrap_or r.options.seed 1))
command_of r end verb.Judge = Ok (command.Judge (guest_words r end))

-- what the words ask for, when all of them are read
abbrev pub finished : (end : ℕ) → Reading → Result Command Refusal
finished end r =
    if is_some r.expects then refuse (end + 1) kind.Value
    else if r.names == 0 then refuse (end + 1) kind.Missing
    else command_of r end r.verb

abbrev pub with_verb : List (List ℕ) → Option Verb → Result Command Refusal
with_verb words None = refuse 1 kind.Command
with_verb words (Some v) = and_then (words_read (begun v) 2 words) (finished (length words + 1))

-- what a command line asks for, or its first refusal
abbrev pub words_of : List (List ℕ) → Result Command Refusal
words_of [] = refuse 1 kind.Command
words_of (first ∷ words) = with_verb words (verb_of first)

-- options whose value is a file, and those whose value is a number
abbrev pub IsFileFlag : Flag → Type 0
IsFileFlag flag.Patches = Unit {0}
IsFileFlag flag.Image = Unit {0}
IsFileFlag flag.Out = Unit {0}
IsFileFlag other = ⊥

abbrev pub IsNumberFlag : Flag → Type 0
IsNumberFlag flag.Seed = Unit {0}
IsNumberFlag flag.Steps = Unit {0}
IsNumberFlag flag.Images = Unit {0}
IsNumberFlag flag.Replicas = Unit {0}
IsNumberFlag flag.Quantum = Unit {0}
IsNumberFlag other = ⊥
