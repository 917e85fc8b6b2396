use Rattle.std.proofs.Common.{arith, ◌≡◌, ◌<◌, suc, true, false, length, string_bytes, sym, ap, subst, ◌∙◌}
use Rattle.std.specs.Str.{bytes_eq}
use Rattle.ex_io.specs.Files.{IsPlace, entries_of}
use Rattle.ex_io.proofs.Kept.{place-here, place-after, find_file-after}
use Rattle.ex_io.proofs.memory.place_of.Goals as goal

pub returns-then-eq-clause-first : goal.returns-then-eq-clause-first
returns-then-eq-clause-first c =
    let same : bytes_eq (string_bytes c.index-files-index.result.0) c.args.name.now ≡ true = ap (λ n. bytes_eq n c.args.name.now) (sym c.as_str.ensures.value) ∙ sym c.if-eq.ensures in
    let within : c.loop-index.index < length c.args.files.now = omega arith in
    subst (IsPlace (entries_of c.args.files.now) c.args.name.now) (omega arith) (c.loop-index.invariant.1 0 (place-here c.args.files.now c.args.name.now c.loop-index.index c.index-files-index.result within c.index-files-index.is same))

pub loop-index-preserved : goal.loop-index-preserved
loop-index-preserved c =
    let differs : bytes_eq (string_bytes c.index-files-index.result.0) c.args.name.now ≡ false = ap (λ n. bytes_eq n c.args.name.now) (sym c.as_str.ensures.value) ∙ sym c.if-eq.ensures in
    let within : c.loop-index.index < length c.args.files.now = omega arith in (
      c.loop-index.invariant.0 ∙ find_file-after c.args.files.now c.args.name.now c.loop-index.index c.index-files-index.result within c.index-files-index.is differs,
      λ k place. subst (IsPlace (entries_of c.args.files.now) c.args.name.now) (omega arith) (c.loop-index.invariant.1 (suc k) (place-after c.args.files.now c.args.name.now c.loop-index.index c.index-files-index.result within c.index-files-index.is differs k place)),
    )
