use Rattle.std.proofs.Common.{◌∙◌, sym, eqb, arith}
use Rattle.std.proofs.lemmas.Bool.{ne_eqb, eq-eqb}
use Rattle.infinite_heap.specs.ElfFields.{sh_type}
use Rattle.elf_load.proofs.Rows.{found_row, passed_row, no_row}
use Rattle.elf_load.proofs.symbols.find_symbols.Goals as goal

pub returns-then-u32_at-eq-SYMBOL_TABLE-clause-first : goal.returns-then-u32_at-eq-SYMBOL_TABLE-clause-first
returns-then-u32_at-eq-SYMBOL_TABLE-clause-first c =
    sym (found_row (λ at. eqb (sh_type c.args.file.now at) 2) c.loop.at 40 _ _ c.loop-test.true (eq-eqb _ _ (sym c.u32_at.ensures ∙ c.if-u32_at-eq-SYMBOL_TABLE.true))) ∙ c.loop.invariant.rest

pub loop-preserved : goal.loop-preserved
loop-preserved c = record {
  inside = omega (arith, c.loop.invariant.inside, c.loop-test.true);
  rest = passed_row (λ at. eqb (sh_type c.args.file.now at) 2) c.loop.at 40 _ _ _ c.loop-test.true (ne_eqb _ _ (λ e. c.if-u32_at-eq-SYMBOL_TABLE.false (c.u32_at.ensures ∙ e))) c.loop.invariant.rest;
}

pub returns-clause-first : goal.returns-clause-first
returns-clause-first c = sym (no_row (λ at. eqb (sh_type c.args.file.now at) 2) c.loop.at 40 _ _ c.loop-test.false) ∙ c.loop.invariant.rest
