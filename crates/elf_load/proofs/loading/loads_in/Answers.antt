use Rattle.std.proofs.Common.{◌∙◌, sym, ap, subst, map}
use Rattle.std.specs.List.{filter}
use Rattle.elf_load.specs.Headers.{header_at, loads}
use Rattle.elf_load.specs.Stages.{AreLoads}
use Rattle.elf_load.proofs.Loads.{breaks_is, links_is, are_loads}
use Rattle.elf_load.proofs.Refusals as refusal
use Rattle.elf_load.proofs.loading.loads_in.Goals as goal

pub returns-then-any_breaks : goal.returns-then-any_breaks
returns-then-any_breaks c =
    let file = c.args.file.now in
    let all = c.in-Ok.ensures ∙ ap (map (header_at file)) c.requires.table.same in
    refusal.loads file c.requires.head c.requires.programs c.requires.sections (breaks_is file _ _ (c.deref.ensures.value ∙ all) c.any_breaks.ensures ∙ c.if-any_breaks.true)

pub returns-then-any_links : goal.returns-then-any_links
returns-then-any_links c =
    let file = c.args.file.now in
    let all = c.in-Ok.ensures ∙ ap (map (header_at file)) c.requires.table.same in
    refusal.dynamic file c.requires.head c.requires.programs c.requires.sections (breaks_is file _ _ (c.deref.ensures.value ∙ all) c.any_breaks.ensures ∙ c.if-any_breaks.false)
    (links_is file _ _ (c.deref-2.ensures.value ∙ all) c.any_links.ensures ∙ c.if-any_links.true)

pub returns : goal.returns
returns c =
    let file = c.args.file.now in
    let all = c.in-Ok.ensures ∙ ap (map (header_at file)) c.requires.table.same in
    let unbroken = breaks_is file _ _ (c.deref.ensures.value ∙ all) c.any_breaks.ensures ∙ c.if-any_breaks.false in (
      record {
        head = c.requires.head;
        programs = c.requires.programs;
        sections = c.requires.sections;
        loads = unbroken;
        still = links_is file _ _ (c.deref-2.ensures.value ∙ all) c.any_links.ensures ∙ c.if-any_links.false;
      },
      subst (AreLoads file) (sym (c.keep_loads.ensures ∙ ap (filter loads) all)) (are_loads file unbroken),
    )
