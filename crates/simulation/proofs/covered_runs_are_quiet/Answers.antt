use Rattle.simulation.proofs.QuietSteps.{SilentFacts}
use Rattle.simulation.proofs.QuietRuns.{covered_runs_are_quiet}
use Rattle.simulation.proofs.covered_runs_are_quiet.Goals as goal

pub returns : goal.returns
returns c =
    let silent : SilentFacts = record {
      malloc = c.whole_heaps_are_quiet.ensures.malloc;
      memalign = c.whole_heaps_are_quiet.ensures.memalign;
      calloc = c.whole_heaps_are_quiet.ensures.calloc;
      free = c.whole_heaps_are_quiet.ensures.free;
      realloc = c.whole_heaps_are_quiet.ensures.realloc;
      holders = c.holders_have_held_slots.ensures;
      hold = c.slots_have_their_places.ensures.hold;
      within = c.slots_have_their_places.ensures.within;
    } in
    covered_runs_are_quiet (record {
      silent = silent;
      begins = c.whole_heaps_are_quiet.ensures.begins;
      check_end = c.whole_heaps_are_quiet.ensures.check_end;
      layouts = c.heaps_are_laid_out.ensures.layout;
      stores = c.stores_are_recorded.ensures;
      outside = c.runs_match.ensures.outside;
      rules = c.runs_keep_rules.ensures;
      home = c.covered_runs_agree.ensures.steps;
      agree = c.covered_runs_agree.ensures.agree;
    })
