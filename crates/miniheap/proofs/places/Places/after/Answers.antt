use Rattle.miniheap.proofs.PlaceLemmas.{rows_are, next_fits}
use Rattle.miniheap.proofs.places.Places.after.Goals as goal

pub overflow_add-place : goal.overflow_add-place
overflow_add-place c =
    record { fits = next_fits c.self.inside c.args.self.now (rows_are c.self.inside c.self.invariant c.args.self.now c.self.view_is) c.args.place.now.mini c.args.place.now.nth c.requires.known.mini_known c.requires.known.nth_known }
