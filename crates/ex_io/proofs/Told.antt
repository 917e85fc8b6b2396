-- What is told of files are bytes.
use Rattle.std.proofs.Common.{◌≡◌, ◌<◌, ℕ, ◌+◌, Bool, true, false, cond, List, [], ◌∷◌, ◌++◌, length, get_or, take, Some, string_bytes, sym, ◌∙◌, ap, subst}
use Rattle.std.specs.Prelude.{All}
use Rattle.std.specs.Str.{bytes_eq}
use Rattle.std.proofs.lemmas.List.{take_more}
use Rattle.std.proofs.lemmas.List.Elements.{All-append, All-cons, All-head, All-nil, All-tail}
use Rattle.ex_io.specs.Bytes.{TellsBytes}
use Rattle.ex_io.specs.Files.{entries_of, find_file}
use Rattle.ex_io.proofs.Kept.{File}

abbrev pub HasBytes : File → Type 0
HasBytes file = All (λ b. b < 256) file.1.items

-- the file of a name among files of bytes
pub found-bytes : (files : List File) → All HasBytes files → (name : List ℕ) → TellsBytes (find_file (entries_of files) name)
found-bytes [] all name = tt
found-bytes (file ∷ files) all name = at (bytes_eq (string_bytes file.0) name) (All-head HasBytes file files all) (found-bytes files (All-tail HasBytes file files all) name)
  where
    at : (b : Bool) → HasBytes file → TellsBytes (find_file (entries_of files) name) → TellsBytes (cond b (Some file.1.items) (find_file (entries_of files) name))
    at true here rest = here
    at false here rest = rest

-- the files before the next place have bytes, where those before this place have, and the file here has
pub next-bytes : (files : List File) (index : ℕ) (file : File) → index < length files → file ≡ get_or files index file → HasBytes file → All HasBytes (take index files) → All HasBytes (take (index + 1) files)
next-bytes files index file within is here before =
    let more : take (index + 1) files ≡ take index files ++ file ∷ [] = take_more files index file within ∙ ap (λ f. take index files ++ f ∷ []) (sym is) in
    subst (All HasBytes) (sym more) (All-append HasBytes (take index files) (file ∷ []) before (All-cons HasBytes file [] here (All-nil HasBytes)))
