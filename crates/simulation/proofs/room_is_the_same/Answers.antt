use Rattle.simulation.proofs.AlikeRuns.{room_is_the_same}
use Rattle.simulation.proofs.room_is_the_same.Goals as goal

pub returns : goal.returns
returns c = room_is_the_same (record {
  calls = record {
    laid = c.heaps_are_laid_out.ensures.layout;
    owners = record { found = c.owners_are_exact.ensures.found; none = c.owners_are_exact.ensures.none; inner = c.owners_are_exact.ensures.inner };
    malloc = c.seeds_decide_addresses_alone.ensures.malloc;
    memalign = c.seeds_decide_addresses_alone.ensures.memalign;
    calloc = c.seeds_decide_addresses_alone.ensures.calloc;
    free = c.seeds_decide_addresses_alone.ensures.free;
    realloc = c.seeds_decide_addresses_alone.ensures.realloc;
  };
  begins = c.seeds_decide_addresses_alone.ensures.begins;
  rules = c.runs_keep_rules.ensures;
  mapped = c.runs_stay_mapped.ensures.run;
  shape = c.steps_are_shaped.ensures.guest;
  harmless = c.covered_runs_agree.ensures.harmless;
  agree = c.covered_runs_agree.ensures.agree;
  quiet = c.covered_runs_are_quiet.ensures;
})
