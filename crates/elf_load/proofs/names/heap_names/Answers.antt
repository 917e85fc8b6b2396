use Rattle.std.proofs.Common.{◌∙◌, sym, arith}
use Rattle.infinite_heap.specs.ElfSymbols.{heap_name}
use Rattle.elf_load.proofs.NameOrder.{named_row, unnamed_row, no_names}
use Rattle.elf_load.proofs.names.heap_names.Goals as goal

pub loop-left-init : goal.loop-left-init
loop-left-init c = record { inside = omega arith; behind = no_names (heap_name c.args.file.now c.args.strings.now) _ c.args.symbols.count _ c.new-calls.ensures.empty }

pub loop-left-preserved-in_ok-insert : goal.loop-left-preserved-in_ok-insert
loop-left-preserved-in_ok-insert c = record {
  inside = omega (arith, c.loop-left.invariant.inside);
  behind = named_row (heap_name c.args.file.now c.args.strings.now) c.args.symbols.from c.loop-left.left c.args.symbols.count c.in-Some.name c.loop-left.calls.entries c.insert.new.self.entries c.loop-left-test.true c.loop-left.invariant.inside (sym c.heap_name.ensures ∙ c.in-Some.is) c.in_ok-insert.ensures.entries c.loop-left.invariant.behind;
}

pub loop-left-preserved : goal.loop-left-preserved
loop-left-preserved c = record {
  inside = omega (arith, c.loop-left.invariant.inside);
  behind = unnamed_row (heap_name c.args.file.now c.args.strings.now) c.args.symbols.from c.loop-left.left c.args.symbols.count c.loop-left.calls.entries c.loop-left-test.true c.loop-left.invariant.inside (sym c.heap_name.ensures ∙ c.in_default.is) c.loop-left.invariant.behind;
}
