use Rattle.rv_machine.proofs.RunMapped.{HeapLaws, steps_stay_mapped, runs_stay_mapped}
use Rattle.rv_machine.proofs.law.runs_stay_mapped.Goals as goal

pub returns : goal.returns
returns c =
    let laws : HeapLaws = record {
      begins = c.histories_stay_lawful.ensures.begins;
      malloc_lawful = c.histories_stay_lawful.ensures.malloc;
      calloc_lawful = c.histories_stay_lawful.ensures.calloc;
      memalign_lawful = c.histories_stay_lawful.ensures.memalign;
      free_lawful = c.histories_stay_lawful.ensures.free;
      realloc_lawful = c.histories_stay_lawful.ensures.realloc;
      malloc_mapped = c.miniheaps_are_mapped.ensures.malloc;
      calloc_mapped = c.miniheaps_are_mapped.ensures.calloc;
      memalign_mapped = c.miniheaps_are_mapped.ensures.memalign;
      free_mapped = c.miniheaps_are_mapped.ensures.free;
      realloc_mapped = c.miniheaps_are_mapped.ensures.realloc;
    } in
    record { step = steps_stay_mapped laws; run = runs_stay_mapped laws }
