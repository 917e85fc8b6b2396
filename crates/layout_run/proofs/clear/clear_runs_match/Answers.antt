use Rattle.layout_run.proofs.Cleared.{Laws, clear_runs_match as whole}
use Rattle.layout_run.proofs.clear.clear_runs_match.Goals as goal

pub returns : goal.returns
returns c =
    let laws : Laws = record {
      agree = c.covered_runs_agree.ensures.agree;
      quiet = c.covered_runs_are_quiet.ensures;
      same = c.room_is_the_same.ensures;
      last = c.harmless_runs_agree.ensures.last;
      malloc = c.objects_after_calls.ensures.malloc;
      memalign = c.objects_after_calls.ensures.memalign;
      calloc = c.objects_after_calls.ensures.calloc;
      realloc = c.objects_after_calls.ensures.realloc;
    } in
    whole laws c.steps_are_shaped.ensures.guest
