-- What the fields of places stand for.
use Rattle.std.specs.Prelude.{◌≡◌, ℕ, ◌+◌, ◌^◌, ◌<◌, ◌≤◌, List, length, map, take, get_or, All}
use Rattle.size_class.specs.Classes.{nth_bytes}
use Rattle.miniheap.specs.Layout.{Mini, heap_from, heap_limit, count_of, minis, bytes_of, class_slots}
use Rattle.miniheap.specs.declared.places.Row.{Row}
use Rattle.miniheap.specs.declared.places.Places.TheInside.{Inside}

abbrev pub row_at : List Row → ℕ → Row
row_at rows i = get_or rows i (record { class = 0; base = 0; slots = 0; first = 0; prev = 0 })

abbrev pub row_mini : Row → Mini
row_mini r = record { class = r.class; base = r.base; slots = r.slots }

-- row r follows the row of number `prev` among those of its class
pub record FollowsPrev (rows : List Row) (r : Row) (i : ℕ) : Type 0 where
  pub prev_below : r.prev < i
  pub prev_class : (row_at rows r.prev).class ≡ r.class
  pub prev_ends : (row_at rows r.prev).first + (row_at rows r.prev).slots ≡ r.first

-- row i knows how many slots of its class come before it
pub record IsLinked (rows : List Row) (i : ℕ) : Type 0 where
  pub first_is : (row_at rows i).first ≡ length (class_slots (row_at rows i).class (take i (map row_mini rows)))
  pub follows : 0 < (row_at rows i).first → FollowsPrev rows (row_at rows i) i

abbrev pub AreLinked : List Row → Type 0
AreLinked rows = (i : ℕ) → i < length rows → IsLinked rows i

-- one more than the number of a row's last slot in its class
abbrev pub numbers_end : Row → ℕ
numbers_end r = r.first + r.slots

abbrev pub BasesRise : List Row → Type 0
BasesRise rows = (i j : ℕ) → i ≤ j → j < length rows → (row_at rows i).base ≤ (row_at rows j).base

-- the last row of a class that has slots
pub record IsLast (rows : List Row) (c last slots : ℕ) : Type 0 where
  pub known : last < length rows
  pub class_is : (row_at rows last).class ≡ c
  pub ends : (row_at rows last).first + (row_at rows last).slots ≡ slots

pub record IsTally (classes : List ℕ) (rows : List Row) (c members last slots : ℕ) : Type 0 where
  pub members_are : members ≡ count_of c classes
  pub slots_are : slots ≡ length (class_slots c (minis classes))
  pub next_fits : nth_bytes c (count_of c classes) ≤ 2 ^ 31
  pub last_is : 0 < slots → IsLast rows c last slots

pub record AreRows (classes : List ℕ) (rows : List Row) (end : ℕ) (members last slots : List ℕ) : Type 0 where
  pub in_classes : All (λ c. (4 ≤ c) × (c ≤ 22)) classes
  pub minis_are : map row_mini rows ≡ minis classes
  pub linked : AreLinked rows
  pub end_is : end ≡ heap_from + bytes_of (minis classes)
  pub in_limit : bytes_of (minis classes) ≤ heap_limit
  pub tallies : (c : ℕ) → 4 ≤ c → c ≤ 22 → IsTally classes rows c (get_or members c 0) (get_or last c 0) (get_or slots c 0)

abbrev pub are_rows : Inside → Type 0
are_rows p = AreRows p.classes.items p.rows.items p.end p.tally.members p.tally.last p.tally.slots
