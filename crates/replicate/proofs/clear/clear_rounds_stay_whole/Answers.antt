use Rattle.replicate.proofs.ClearGroups.{clear_rounds_stay_whole as whole}
use Rattle.replicate.proofs.Lockstep.{Laws}
use Rattle.replicate.proofs.clear.clear_rounds_stay_whole.Goals as goal

pub returns : goal.returns
returns c =
    let laws : Laws = record {
      facts = record { laid = c.heaps_are_laid_out.ensures.layout; calls = c.heap_calls_match.ensures; steps = c.steps_match.ensures };
      outside = c.runs_match.ensures.outside;
      rules = c.runs_keep_rules.ensures;
      agree = c.covered_runs_agree.ensures.agree;
      harmless = c.covered_runs_agree.ensures.harmless;
      quiet = c.covered_runs_are_quiet.ensures;
      room = c.room_is_the_same.ensures;
      last = c.harmless_runs_agree.ensures.last;
      match = c.clear_runs_match.ensures;
      prefixes = c.clear_runs_print_prefixes.ensures;
      unstopped = c.unstopped_runs_are_flat_runs.ensures;
      counted = c.steps_are_counted.ensures;
      shaped = c.steps_are_shaped.ensures.guest;
    } in
    whole laws
