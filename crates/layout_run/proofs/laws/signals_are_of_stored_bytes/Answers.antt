use Rattle.layout_run.proofs.StoredRuns.{broken_bytes_were_stored, signals_are_of_stored_bytes, end_signals_are_of_stored_bytes, runs_go_step_by_step, whole_runs_are_runs}
use Rattle.layout_run.proofs.StoredSteps.{HeapLaws}
use Rattle.layout_run.proofs.laws.signals_are_of_stored_bytes.Goals as goal

pub returns : goal.returns
returns c =
    let laws : HeapLaws = record {
      begins = c.histories_stay_lawful.ensures.begins;
      malloc_lawful = c.histories_stay_lawful.ensures.malloc;
      calloc_lawful = c.histories_stay_lawful.ensures.calloc;
      memalign_lawful = c.histories_stay_lawful.ensures.memalign;
      free_lawful = c.histories_stay_lawful.ensures.free;
      realloc_lawful = c.histories_stay_lawful.ensures.realloc;
      malloc_one = c.calls_are_counted.ensures.malloc;
      calloc_one = c.calls_are_counted.ensures.calloc;
      memalign_one = c.calls_are_counted.ensures.memalign;
      free_one = c.calls_are_counted.ensures.free;
      realloc_one = c.calls_are_counted.ensures.realloc;
      malloc_leaves = c.unowned_slots_are_left_alone.ensures.malloc;
      calloc_leaves = c.unowned_slots_are_left_alone.ensures.calloc;
      memalign_leaves = c.unowned_slots_are_left_alone.ensures.memalign;
      free_leaves = c.unowned_slots_are_left_alone.ensures.free;
      realloc_leaves = c.unowned_slots_are_left_alone.ensures.realloc;
      end_leaves = c.unowned_slots_are_left_alone.ensures.check_end;
      hold = c.slots_have_their_places.ensures.hold;
    } in
    record { broken = broken_bytes_were_stored laws; calls = signals_are_of_stored_bytes laws; end = end_signals_are_of_stored_bytes laws; runs = runs_go_step_by_step; whole = whole_runs_are_runs }
