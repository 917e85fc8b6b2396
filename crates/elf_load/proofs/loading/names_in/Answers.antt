use Rattle.std.proofs.Common.{◌∙◌, sym, ap, not}
use Rattle.elf_load.proofs.SymbolRules.{table_is, nothing_breaks, nothing_named, unlinked, ended, named}
use Rattle.elf_load.proofs.Refusals as refusal
use Rattle.elf_load.proofs.loading.names_in.Goals as goal

pub returns-in-None : goal.returns-in-None
returns-in-None c =
    let table = table_is c.args.file.now _ _ c.find_symbols.ensures.first c.requires.table.same ∙ c.in-None.is in
    (nothing_breaks c.args.file.now table, c.new.ensures.items ∙ sym (nothing_named c.args.file.now table))

pub returns-then-not-is_linked : goal.returns-then-not-is_linked
returns-then-not-is_linked c =
    let table = table_is c.args.file.now _ _ c.find_symbols.ensures.first c.requires.table.same ∙ c.in-Some.is in
    refusal.symbols c.args.file.now c.requires.rules (unlinked c.args.file.now _ table (sym c.is_linked.ensures ∙ c.if-not-is_linked.true))

pub returns-then-not-all_end : goal.returns-then-not-all_end
returns-then-not-all_end c =
    let table = table_is c.args.file.now _ _ c.find_symbols.ensures.first c.requires.table.same ∙ c.in-Some.is in
    refusal.symbols c.args.file.now c.requires.rules
    (ended c.args.file.now _ _ _ _ table (sym c.is_linked.ensures ∙ c.if-not-is_linked.false) c.strings_of-strings.ensures c.symbols_of-symbols.ensures.places c.all_end.ensures ∙ ap not c.if-not-all_end.true)

pub returns-in-Ok : goal.returns-in-Ok
returns-in-Ok c =
    let table = table_is c.args.file.now _ _ c.find_symbols.ensures.first c.requires.table.same ∙ c.in-Some.is in (
      ended c.args.file.now _ _ _ _ table (sym c.is_linked.ensures ∙ c.if-not-is_linked.false) c.strings_of-strings.ensures c.symbols_of-symbols.ensures.places c.all_end.ensures ∙ ap not c.if-not-all_end.false,
      named c.args.file.now _ _ _ _ table c.strings_of-strings.ensures c.symbols_of-symbols.ensures.places c.in-Ok.ensures,
    )
