use Rattle.std.proofs.Common.{◌≡◌, true, false, sym, ◌∙◌, ap}
use Rattle.std.specs.Ordering.{is_lt}
use Rattle.std.specs.declared.cmp.Ordering.{Ordering}
use Rattle.std.specs.declared.cmp.Ordering.TheVariants.{Less, Equal, Greater}
use Rattle.std.specs.Map.{keys_of}
use Rattle.std.proofs.lemmas.List.Elements.{recursion_from_All}
use Rattle.patch_table.specs.Table.{pair_cmp}
use Rattle.patch_table.proofs.Trees.{pairs_total}
use Rattle.patch_table.proofs.Fits.{below_last, last_below}
use Rattle.patch_table.proofs.reading.pair_rises.Goals as goal

less : (o : Ordering) → is_lt o ≡ true → o ≡ Less
less Less h = cc
less Equal h = absurd cc
less Greater h = absurd cc

pub returns-in-Some : goal.returns-in-Some
returns-in-Some c =
    let last = c.in-Some.last.now in
    let es = c.args.pairs.now.entries in
    let tests = c.is_lt.ensures ∙ ap is_lt c.cmp.ensures in (
      λ t. below_last pair_cmp pairs_total es last c.args.pair (recursion_from_All (λ q. is_lt (pair_cmp last q) ≡ false) (keys_of es) c.in-Some.ensures.all_up_to) (less (pair_cmp last c.args.pair) (sym tests ∙ t)),
      λ h. tests ∙ ap is_lt (last_below pair_cmp pairs_total es _ last c.args.pair _ c.in-Some.ensures.last h),
    )
