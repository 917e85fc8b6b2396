use Rattle.simulation.proofs.Stepped.{steps_agree}
use Rattle.simulation.proofs.Ran.{harmless_runs_agree, room_comes_last}
use Rattle.simulation.specs.Runs.{StepsAgree}
use Rattle.simulation.proofs.harmless_runs_agree.Goals as goal

pub returns : goal.returns
returns c =
    let step : StepsAgree = steps_agree (record {
      laid = c.heaps_are_laid_out.ensures.layout;
      calls = c.heap_calls_match.ensures;
      steps = c.steps_match.ensures;
      mapped = c.runs_stay_mapped.ensures.step;
      shaped = c.steps_are_shaped.ensures.guest;
      lift = c.lift_is_sound.ensures;
      rows = c.rows_are_in_range.ensures;
    }) in
    record {
      step = step;
      run = harmless_runs_agree step (record {
        outside = c.runs_match.ensures.outside;
        nameless = c.runs_match.ensures.run;
        mapped = c.runs_stay_mapped.ensures.run;
        rules = c.runs_keep_rules.ensures;
        dues = c.released_addresses_are_free.ensures.begins;
      });
      last = room_comes_last;
    }
