use Rattle.simulation.specs.Coverage.{CoveredStaysHome, CoveredStepsStayHome, CoveredRunsAreHarmless}
use Rattle.simulation.proofs.Covered.{covered_stays_home}
use Rattle.simulation.proofs.CoveredRuns.{covered_steps_stay_home, covered_runs_are_harmless, covered_runs_agree}
use Rattle.simulation.proofs.covered_runs_agree.Goals as goal

pub returns : goal.returns
returns c =
    let home : CoveredStaysHome = covered_stays_home (record {
      laid = c.heaps_are_laid_out.ensures.layout;
      apart = c.held_slots_are_apart.ensures.apart;
      within = c.held_slots_are_apart.ensures.within;
      released = c.released_addresses_are_free.ensures.slots;
      reach = c.reach_is_least.ensures;
      classes = c.classes_are_least.ensures.least;
      rise = c.slots_are_powers.ensures.rise;
    }) in
    let steps : CoveredStepsStayHome = covered_steps_stay_home (record {
      begins = c.patches_decide.ensures.begins;
      malloc = c.patches_decide.ensures.malloc;
      memalign = c.patches_decide.ensures.memalign;
      calloc = c.patches_decide.ensures.calloc;
      free = c.patches_decide.ensures.free;
      realloc = c.patches_decide.ensures.realloc;
      rules = c.runs_keep_rules.ensures;
      mapped = c.runs_stay_mapped.ensures.run;
      known = c.records_are_known.ensures;
    }) home in
    let harmless : CoveredRunsAreHarmless = covered_runs_are_harmless steps in
    record { home = home; steps = steps; harmless = harmless; agree = covered_runs_agree harmless c.harmless_runs_agree.ensures.run }
