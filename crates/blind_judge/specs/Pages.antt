-- The pages in which the judge keeps the entries of an object's offsets: 64 offsets each.
use Rattle.std.specs.Prelude.{ℕ, ◌+◌, ◌&&◌, ◌||◌, Bool, true, not, if◌then◌else◌, List, [], ◌∷◌, slice_index_or, slice_set, replicate}
use Rattle.std.specs.Borrow.{Bor}
use Rattle.std.specs.declared.option.Option.{Option}
use Rattle.std.specs.declared.option.Option.TheVariants.{Some, None}
use Rattle.infinite_heap.specs.declared.value.Cell.{Cell}
use Rattle.blind_judge.specs.declared.entries.Entry.{Entry}
use Rattle.blind_judge.specs.Entries.{no_entry, entry_of}

abbrev pub entry_in : List Entry → ℕ → Entry
entry_in page at = slice_index_or page at no_entry

unfoldable pub empty_page : List Entry
empty_page = replicate 64 no_entry

-- a page after cells were written from a place on; `marks` says of each place whether its cell counts as stored
abbrev pub page_with : (marks : ℕ → Bool) → List Entry → (at : ℕ) → List Cell → List Entry
page_with marks page at [] = page
page_with marks page at (c ∷ cs) = page_with marks (slice_set page at (entry_of c (marks at || (entry_in page at).stored))) (at + 1) cs

-- how many of the cells are stored that weren't before
abbrev pub newly_stored : (marks : ℕ → Bool) → List Entry → (at : ℕ) → List Cell → ℕ
newly_stored marks page at [] = 0
newly_stored marks page at (c ∷ cs) =
    (if marks at && not (entry_in page at).stored then 1 else 0)
    + newly_stored marks (slice_set page at (entry_of c (marks at || (entry_in page at).stored))) (at + 1) cs

-- all cells count as stored, or those that are stored in a page
abbrev pub marks_of : Option (Bor (List Entry)) → ℕ → Bool
marks_of None at = true
marks_of (Some page) at = (entry_in page.now at).stored
