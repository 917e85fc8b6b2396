-- What is kept beside rows and broken bytes, so that the rules of the next one are tested at once.
use Rattle.std.specs.Prelude.{◌≡◌, ℕ, nat_le, nat_lt, not, ◌==◌, ◌||◌}
use Rattle.std.specs.List.{list_all}
use Rattle.std.specs.Ordering.{nat_cmp}
use Rattle.std.specs.BTreeMap.{get}
use Rattle.std.specs.BTreeSet as sorted
use Rattle.heap_image.specs.Agreement.{row_of}
use Rattle.heap_image.specs.Rules.{is_fresh, is_owned}
use Rattle.heap_image.specs.declared.rows.Rows.TheInside as rows
use Rattle.heap_image.specs.declared.breaks.Breaks.TheInside as breaks
use Rattle.heap_image.specs.declared.lookup.Indexed.TheInside as lookup

pub record KnowsRows (a : rows.Inside) : Type 0 where
  pub above : (addr : ℕ) → list_all (λ r. nat_lt r.addr addr) a.rows.items ≡ nat_le a.floor addr
  pub fresh : (object : ℕ) → is_fresh a.rows.items object ≡ not (sorted.contains nat_cmp a.objects object)
  pub unowned : (addr : ℕ) → list_all (λ r. not (is_owned r) || not (r.addr == addr)) a.rows.items ≡ not (sorted.contains nat_cmp a.owned addr)

abbrev pub KnowsBreaks : breaks.Inside → Type 0
KnowsBreaks a = (addr : ℕ) → list_all (λ b. nat_lt b.addr addr) a.items.items ≡ nat_le a.floor addr

abbrev pub KnowsObjects : lookup.Inside → Type 0
KnowsObjects a = (object : ℕ) → get nat_cmp a.by_object object ≡ row_of object a.image.now
