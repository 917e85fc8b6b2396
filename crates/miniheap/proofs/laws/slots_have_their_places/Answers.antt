use Rattle.miniheap.proofs.LawLemmas.{slots_hold_their_addresses, slots_lie_within, slots_are_apart, slots_are_aligned, slots_begin_at_multiples, slots_are_known, slots_stay, slots_are_added}
use Rattle.miniheap.proofs.SlotsLemmas.{nth_slot_at}
use Rattle.miniheap.proofs.WalkLemmas.{slots_follow}
use Rattle.miniheap.proofs.laws.slots_have_their_places.Goals as goal

pub returns : goal.returns
returns c = record {
  hold = slots_hold_their_addresses;
  within = slots_lie_within;
  apart = slots_are_apart;
  aligned = slots_are_aligned;
  multiples = slots_begin_at_multiples;
  known = slots_are_known;
  found = nth_slot_at;
  follow = slots_follow;
  stay = slots_stay;
  added = slots_are_added;
}
