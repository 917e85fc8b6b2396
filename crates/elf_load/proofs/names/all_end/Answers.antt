use Rattle.std.proofs.Common.{◌≡◌, ◌∙◌, sym, arith, true, false}
use Rattle.infinite_heap.specs.ElfSymbols.{name_ends}
use Rattle.elf_load.proofs.Rows.{all_row, not_all_rows, all_rows}
use Rattle.elf_load.proofs.names.all_end.Goals as goal

pub returns-then-not-name_ends : goal.returns-then-not-name_ends
returns-then-not-name_ends c =
    let this : name_ends c.args.file.now c.args.strings.now c.loop.at ≡ false = sym (c.name_ends.ensures c.args.strings.now c.names_end-end.ensures) ∙ c.if-not-name_ends.true in
    sym (not_all_rows (name_ends c.args.file.now c.args.strings.now) c.loop.at 16 _ _ c.loop-test.true this) ∙ c.loop.invariant.rest

pub loop-preserved : goal.loop-preserved
loop-preserved c =
    let this : name_ends c.args.file.now c.args.strings.now c.loop.at ≡ true = sym (c.name_ends.ensures c.args.strings.now c.names_end-end.ensures) ∙ c.if-not-name_ends.false in
    record {
      inside = omega (arith, c.loop.invariant.inside, c.loop-test.true);
      rest = all_row (name_ends c.args.file.now c.args.strings.now) c.loop.at 16 _ _ _ c.loop-test.true this c.loop.invariant.rest;
    }

pub returns : goal.returns
returns c = sym (all_rows (name_ends c.args.file.now c.args.strings.now) c.loop.at 16 _ _ c.loop-test.false) ∙ c.loop.invariant.rest
