use Rattle.simulation.proofs.Placed.{PlacedFacts}
use Rattle.simulation.proofs.Allocated.{AllocationLaws, malloc_matches, calloc_matches, memalign_matches}
use Rattle.simulation.proofs.Owned.{OwnerFacts}
use Rattle.simulation.proofs.Freed.{ChangeFacts}
use Rattle.simulation.proofs.CalledByName.{calls_match}
use Rattle.simulation.proofs.heap_calls_match.Goals as goal

pub returns : goal.returns
returns c =
    let placed : PlacedFacts = record {
      holders = c.objects_last.ensures.holders;
      values = c.later_layouts_keep.ensures.values;
      memory = c.later_layouts_keep.ensures.memory;
    } in
    let owners : OwnerFacts = record {
      found = c.owners_are_exact.ensures.found;
      none = c.owners_are_exact.ensures.none;
      inner = c.owners_are_exact.ensures.inner;
    } in
    let changes : ChangeFacts = record {
      change = c.objects_after_calls.ensures.change;
      count = c.objects_after_calls.ensures.change_count;
    } in
    let allocation : AllocationLaws = record {
      facts = record {
        placed = placed;
        within = c.held_slots_are_apart.ensures.within;
        new = c.objects_after_calls.ensures.new;
        new_count = c.objects_after_calls.ensures.new_count;
      };
      alignments = c.heaps_are_laid_out.ensures.alignments;
      malloc = λ rules size site. record {
        lawful = c.histories_stay_lawful.ensures.malloc rules size site;
        dues = c.released_addresses_are_free.ensures.malloc rules size site;
        mapped = c.miniheaps_are_mapped.ensures.malloc rules size site;
        held = c.held_slots_are_kept.ensures.malloc rules size site;
        last = c.objects_last.ensures.malloc rules size site;
      };
      memalign = λ rules align size site. record {
        lawful = c.histories_stay_lawful.ensures.memalign rules align size site;
        dues = c.released_addresses_are_free.ensures.memalign rules align size site;
        mapped = c.miniheaps_are_mapped.ensures.memalign rules align size site;
        held = c.held_slots_are_kept.ensures.memalign rules align size site;
        last = c.objects_last.ensures.memalign rules align size site;
      };
      calloc = λ rules count each site. record {
        lawful = c.histories_stay_lawful.ensures.calloc rules count each site;
        dues = c.released_addresses_are_free.ensures.calloc rules count each site;
        mapped = c.miniheaps_are_mapped.ensures.calloc rules count each site;
        held = c.held_slots_are_kept.ensures.calloc rules count each site;
        last = c.objects_last.ensures.calloc rules count each site;
      };
      malloc_ends = c.objects_after_calls.ensures.malloc;
      memalign_ends = c.objects_after_calls.ensures.memalign;
      calloc_ends = c.objects_after_calls.ensures.calloc;
      malloc_slot = c.new_slots_are_fresh.ensures.malloc;
      memalign_slot = c.new_slots_are_fresh.ensures.memalign;
      calloc_slot = c.new_slots_are_fresh.ensures.calloc;
    } in
    calls_match (record {
      malloc = λ p s g back a low v x h. malloc_matches allocation p s g a back low v x h;
      calloc = λ p s g back a low v x h u y k. calloc_matches allocation p s g a back low v u x y h k;
      memalign = λ p s g back a low v x h u y k. memalign_matches allocation p s g a back low v u x y h k;
      free = record {
        laid = c.heaps_are_laid_out.ensures.layout;
        placed = placed;
        owners = owners;
        changes = changes;
        calls = λ rules address site. record {
          lawful = c.histories_stay_lawful.ensures.free rules address site;
          dues = c.released_addresses_are_free.ensures.free rules address site;
          mapped = c.miniheaps_are_mapped.ensures.free rules address site;
          held = c.held_slots_are_kept.ensures.free rules address site;
          last = c.objects_last.ensures.free rules address site;
        };
        ends = c.objects_after_calls.ensures.free;
      };
      move = record {
        laid = c.heaps_are_laid_out.ensures.layout;
        placed = placed;
        owners = owners;
        changes = changes;
        calls = λ rules old size site. record {
          lawful = c.histories_stay_lawful.ensures.realloc rules old size site;
          dues = c.released_addresses_are_free.ensures.realloc rules old size site;
          mapped = c.miniheaps_are_mapped.ensures.realloc rules old size site;
          held = c.held_slots_are_kept.ensures.realloc rules old size site;
          last = c.objects_last.ensures.realloc rules old size site;
        };
        ends = c.objects_after_calls.ensures.realloc;
        copies = c.held_slots_are_kept.ensures.copies;
        fresh = c.new_slots_are_fresh.ensures.realloc;
        adds = c.objects_after_calls.ensures.new;
        more = c.objects_after_calls.ensures.new_count;
        within = c.held_slots_are_apart.ensures.within;
        written = c.written_is_read.ensures.written;
        others = c.written_is_read.ensures.others;
      };
    })
