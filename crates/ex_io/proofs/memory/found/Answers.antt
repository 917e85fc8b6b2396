use Rattle.std.proofs.Common.{ℕ, List, Some, sym, ap, ◌∙◌}
use Rattle.ex_io.proofs.Kept.{File, IsPlace-found}
use Rattle.ex_io.proofs.memory.found.Goals as goal

pub returns-in-Some : goal.returns-in-Some
returns-in-Some c =
    ap (λ (bytes : List ℕ). Some bytes) c.as_slice.ensures.value
    ∙ ap (λ (file : File). Some file.1.items) (sym c.index-files-place.is)
    ∙ sym (IsPlace-found c.args.files.now c.args.name.now c.in-Some.place c.index-files-place.result c.in-Some.ensures.first c.index-files-place.is)
