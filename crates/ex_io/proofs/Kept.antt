-- A list of files as a map, when one of them is replaced or one is added.
use Rattle.std.proofs.Common.{◌≡◌, ℕ, ◌+◌, ◌<◌, Bool, true, false, zero, suc, List, [], ◌∷◌, ◌++◌, length, get_or, drop, Option, None, Some, refl, sym, ◌∙◌, ap, add-one, string_bytes, if◌then◌else◌}
use Rattle.std.proofs.Math.ListN.{set}
use Rattle.std.proofs.Math.Seq.{drop-cons}
use Rattle.std.specs.Str.{bytes_eq}
use Rattle.std.proofs.lemmas.Bool.{false_from_ne_true}
use Rattle.std.proofs.lemmas.Slice.Eq.{bytes_eq-Decides}
use Rattle.std.specs.declared.vec.Vec.{Vec}
use Rattle.std.specs.declared.string.String.{String}
use Rattle.std.specs.declared.alloc.Global.{Global}
use mathlib.Core.Path.{fun_ext}
use Rattle.ex_io.specs.Files.{FileMap, IsPlace, OthersStay, entries_of, entry_of, find_file, with_file}

-- files as they are kept, and as they are seen
abbrev pub File : Type 0
File = String Global × Vec ℕ Global

abbrev pub Entry : Type 0
Entry = List ℕ × List ℕ

-- a place among the files after one of another name
pub place-after : (files : List File) (name : List ℕ) (index : ℕ) (file : File) → index < length files → file ≡ get_or files index file → bytes_eq (string_bytes file.0) name ≡ false
    → (k : ℕ) → IsPlace (entries_of (drop (index + 1) files)) name k → IsPlace (entries_of (drop index files)) name (suc k)
place-after files name index file within is differs k place = rw (drop-cons files index file, ← is) (differs, rw add-one at place)

-- the file of the name is at the front
pub place-here : (files : List File) (name : List ℕ) (index : ℕ) (file : File) → index < length files → file ≡ get_or files index file → bytes_eq (string_bytes file.0) name ≡ true
    → IsPlace (entries_of (drop index files)) name 0
place-here files name index file within is same = rw (drop-cons files index file, ← is) same

pub find_file-after : (files : List File) (name : List ℕ) (index : ℕ) (file : File) → index < length files → file ≡ get_or files index file → bytes_eq (string_bytes file.0) name ≡ false
    → find_file (entries_of (drop index files)) name ≡ find_file (entries_of (drop (index + 1) files)) name
find_file-after files name index file within is differs = rw (drop-cons files index file, ← is, differs, add-one) refl

-- what is seen of a list of files, when one of them is replaced or one is added
pub entries_of-set : (files : List File) (place : ℕ) (file : File) → entries_of (set files place file) ≡ set (entries_of files) place (entry_of file)
entries_of-set [] place file = refl
entries_of-set (first ∷ rest) zero file = refl
entries_of-set (first ∷ rest) (suc place) file = ap (λ (es : List Entry). entry_of first ∷ es) (entries_of-set rest place file)

pub entries_of-append : (files : List File) (file : File) → entries_of (files ++ file ∷ []) ≡ entries_of files ++ entry_of file ∷ []
entries_of-append [] file = refl
entries_of-append (first ∷ rest) file = ap (λ (es : List Entry). entry_of first ∷ es) (entries_of-append rest file)

-- two names that are told apart by a third
differs-by : (a b c : List ℕ) → bytes_eq a b ≡ false → bytes_eq a c ≡ true → bytes_eq b c ≡ false
differs-by a b c apart same = false_from_ne_true (bytes_eq b c) (λ e.
    let equal : a ≡ b = (bytes_eq-Decides a c).0 same ∙ sym ((bytes_eq-Decides b c).0 e) in
    let clash : true ≡ false = sym ((bytes_eq-Decides a b).1 equal) ∙ apart in
    cc)

-- a map in which a name is set, behind a file of another name
set-behind : (name first other : List ℕ) (kept found : Option (List ℕ)) (rest : Option (List ℕ)) → bytes_eq first name ≡ false
    → (if bytes_eq first other then found else (if bytes_eq name other then kept else rest)) ≡ (if bytes_eq name other then kept else (if bytes_eq first other then found else rest))
set-behind name first other kept found rest apart =
    elim (bytes_eq first other) as (λ b. bytes_eq first other ≡ b → (if b then found else (if bytes_eq name other then kept else rest)) ≡ (if bytes_eq name other then kept else (if b then found else rest))) [
      | true ↦ λ e. rw (differs-by first name other apart e) refl
      | false ↦ λ e. refl
    ] refl

-- a map in which a name is set twice
set-over : (test : Bool) (kept found rest : Option (List ℕ)) → (if test then kept else rest) ≡ (if test then kept else (if test then found else rest))
set-over true kept found rest = refl
set-over false kept found rest = refl

-- the first file of the name is replaced
pub find_file-set : (entries : List Entry) (name : List ℕ) (place : ℕ) (entry : Entry) → IsPlace entries name place → entry.0 ≡ name
    → (other : List ℕ) → find_file (set entries place entry) other ≡ with_file (find_file entries) name entry.1 other
find_file-set [] name place entry at is other = absurd at
find_file-set (first ∷ rest) name zero entry at is other =
    let same : first.0 ≡ name = (bytes_eq-Decides first.0 name).0 at in
    rw (is, same) (set-over (bytes_eq name other) (Some entry.1) (Some first.1) (find_file rest other))
find_file-set (first ∷ rest) name (suc place) entry at is other =
    rw (find_file-set rest name place entry at.1 is other) (set-behind name first.0 other (Some entry.1) (Some first.1) (find_file rest other) at.0)

-- a name that isn't found is that of neither the first file nor another
none-apart : (test : Bool) (bytes : List ℕ) (rest : Option (List ℕ)) → (if test then Some bytes else rest) ≡ None → (test ≡ false) × (rest ≡ None)
none-apart true bytes rest none = cc
none-apart false bytes rest none = (refl, none)

-- a file of a new name is added
pub find_file-append : (entries : List Entry) (name : List ℕ) (entry : Entry) → find_file entries name ≡ None → entry.0 ≡ name
    → (other : List ℕ) → find_file (entries ++ entry ∷ []) other ≡ with_file (find_file entries) name entry.1 other
find_file-append [] name entry none is other = rw is refl
find_file-append (first ∷ rest) name entry none is other =
    let parts = none-apart (bytes_eq first.0 name) first.1 (find_file rest name) none in
    rw (find_file-append rest name entry parts.1 is other) (set-behind name first.0 other (Some entry.1) (Some first.1) (find_file rest other) parts.0)

-- the bytes of the file at a place
pub IsPlace-found : (files : List File) (name : List ℕ) (place : ℕ) (file : File) → IsPlace (entries_of files) name place → file ≡ get_or files place file → find_file (entries_of files) name ≡ Some file.1.items
IsPlace-found [] name place file at is = absurd at
IsPlace-found (first ∷ rest) name zero file at is = rw at (ap (λ (f : File). Some f.1.items) (sym is))
IsPlace-found (first ∷ rest) name (suc place) file at is = rw at.0 (IsPlace-found rest name place file at.1 is)

pub IsPlace-name : (files : List File) (name : List ℕ) (place : ℕ) (file : File) → IsPlace (entries_of files) name place → file ≡ get_or files place file → string_bytes file.0 ≡ name
IsPlace-name [] name place file at is = absurd at
IsPlace-name (first ∷ rest) name zero file at is = ap (λ (f : File). string_bytes f.0) is ∙ (bytes_eq-Decides (string_bytes first.0) name).0 at
IsPlace-name (first ∷ rest) name (suc place) file at is = IsPlace-name rest name place file at.1 is

-- the first file of the name is replaced, or one is added: the map afterwards
pub kept-replaced : (files : List File) (name : List ℕ) (place : ℕ) (file : File) → IsPlace (entries_of files) name place → string_bytes file.0 ≡ name
    → find_file (entries_of (set files place file)) ≡ with_file (find_file (entries_of files)) name file.1.items
kept-replaced files name place file at is =
    fun_ext (λ other. ap (λ (es : List Entry). find_file es other) (entries_of-set files place file) ∙ find_file-set (entries_of files) name place (entry_of file) at is other)

pub kept-added : (files : List File) (name : List ℕ) (file : File) → find_file (entries_of files) name ≡ None → string_bytes file.0 ≡ name
    → find_file (entries_of (files ++ file ∷ [])) ≡ with_file (find_file (entries_of files)) name file.1.items
kept-added files name file none is =
    fun_ext (λ other. ap (λ (es : List Entry). find_file es other) (entries_of-append files file) ∙ find_file-append (entries_of files) name (entry_of file) none is other)

-- the map with a file that was kept, at its name and at every other
pub with_file-same : (files : FileMap) (name bytes : List ℕ) → with_file files name bytes name ≡ Some bytes
with_file-same files name bytes = rw ((bytes_eq-Decides name name).1 refl) refl

pub with_file-others : (files : FileMap) (name bytes : List ℕ) → OthersStay files (with_file files name bytes) name
with_file-others files name bytes other apart = rw (false_from_ne_true (bytes_eq name other) (λ same. apart (sym ((bytes_eq-Decides name other).0 same)))) refl
