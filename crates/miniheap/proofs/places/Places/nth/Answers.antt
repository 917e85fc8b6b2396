use Rattle.std.proofs.Math.Nat.{mod-eq_of_lt}
use Rattle.miniheap.proofs.PlaceLemmas.{rows_are, fits, place_read}
use Rattle.miniheap.proofs.places.Places.nth.Goals as goal

pub overflow_shl-result : goal.overflow_shl-result
overflow_shl-result c =
    (fits c.self.inside c.args.self.now (rows_are c.self.inside c.self.invariant c.args.self.now c.self.view_is) c.args.mini c.args.nth c.requires.mini_known c.requires.nth_known c.index-row.result.now c.index-row.ensures).class_small

pub overflow_add-result : goal.overflow_add-result
overflow_add-result c =
    let f = (fits c.self.inside c.args.self.now (rows_are c.self.inside c.self.invariant c.args.self.now c.self.view_is) c.args.mini c.args.nth c.requires.mini_known c.requires.nth_known c.index-row.result.now c.index-row.ensures) in
    rw (mod-eq_of_lt f.shifted) (record { fits = f.added })

pub overflow_cast-result-2 : goal.overflow_cast-result-2
overflow_cast-result-2 c =
    record {
      fits = (fits c.self.inside c.args.self.now (rows_are c.self.inside c.self.invariant c.args.self.now c.self.view_is) c.args.mini c.args.nth c.requires.mini_known c.requires.nth_known c.index-row.result.now c.index-row.ensures).few;
    }

pub returns : goal.returns
returns c =
    place_read c.self.inside c.args.self.now (rows_are c.self.inside c.self.invariant c.args.self.now c.self.view_is) c.args.mini c.args.nth c.requires.mini_known c.requires.nth_known c.index-row.result.now c.index-row.ensures
