use Rattle.std.proofs.Common.{◌≤◌, subst, sym, ℕ}
use Rattle.miniheap.specs.Layout.{count_of}
use Rattle.miniheap.proofs.RowLemmas.{few_members}
use Rattle.miniheap.proofs.places.Places.wanted.Goals as goal

pub miniheap_bytes-requires-clause-nth_high : goal.miniheap_bytes-requires-clause-nth_high
miniheap_bytes-requires-clause-nth_high c =
    let t = c.self.invariant.tallies c.args.class c.requires.low c.requires.high in
    subst (λ (n : ℕ). n ≤ 31) (sym t.members_are) (few_members c.args.class (count_of c.args.class c.self.inside.classes.items) t.next_fits)
