use Rattle.miniheap.proofs.PlaceLaws.{slots_are_at_places, places_hold_their_addresses, places_lie_within, places_are_apart, places_begin_at_multiples, places_are_known, places_are_found, places_stay}
use Rattle.miniheap.proofs.NextLemmas.{places_are_numbered, numbers_are_apart}
use Rattle.miniheap.proofs.laws.places_hold_the_slots.Goals as goal

pub returns : goal.returns
returns c = record {
  slots = slots_are_at_places;
  hold = places_hold_their_addresses;
  within = places_lie_within;
  apart = places_are_apart;
  multiples = places_begin_at_multiples;
  known = places_are_known;
  found = places_are_found;
  numbered = places_are_numbered;
  once = numbers_are_apart;
  stay = places_stay;
}
