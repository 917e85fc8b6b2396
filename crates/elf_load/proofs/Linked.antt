-- What sound section headers of symbols say.
use Rattle.std.proofs.Common.{◌≡◌, ℕ, ◌+◌, ◌*◌, ◌%◌, ◌<◌, ◌≤◌, Bool, true, false, ◌&&◌, not, ltb, eqb, List, length, arith, refl}
use Rattle.std.proofs.lemmas.Bool.Decides.{nat_tests}
use Rattle.infinite_heap.specs.ElfFields.{e_shoff, e_shnum, sh_offset, sh_size, sh_link}
use Rattle.infinite_heap.specs.ElfSymbols.{is_linked, linked}

pub record Linked (file : List ℕ) (table : ℕ) : Type 0 where
  pub whole : sh_size file table % 16 ≡ 0
  pub inside : sh_offset file table + sh_size file table ≤ length file
  pub link : sh_link file table < e_shnum file
  pub strings : sh_offset file (linked file table) + sh_size file (linked file table) ≤ length file

and_left : (a b : Bool) → (a && b) ≡ true → a ≡ true
and_left true b e = refl
and_left false b e = absurd cc

and_right : (a b : Bool) → (a && b) ≡ true → b ≡ true
and_right true b e = e
and_right false b e = absurd cc

not_above : (a b : ℕ) → not (ltb a b) ≡ true → b ≤ a
not_above a b e = grind (arith, nat_tests)

is_below : (a b : ℕ) → ltb a b ≡ true → a < b
is_below a b e = grind (arith, nat_tests)

is_equal : (a b : ℕ) → eqb a b ≡ true → a ≡ b
is_equal a b e = grind (arith, nat_tests)

pub linked_says : (file : List ℕ) (table : ℕ) → is_linked file table ≡ true → Linked file table
unfolding is_linked
linked_says file table e =
    let a = and_right _ _ e in
    let b = and_right _ _ a in
    let c = and_right _ _ b in
    record {
      whole = is_equal _ _ (and_left _ _ a);
      inside = not_above _ _ (and_left _ _ b);
      link = is_below _ _ (and_left _ _ c);
      strings = not_above _ _ (and_right _ _ c);
    }

-- the place of the linked header, from a table of sections and a field that was read
pub linked_place : (file : List ℕ) (table from link : ℕ) → from ≡ e_shoff file → link ≡ sh_link file table → from + 40 * link ≡ linked file table
linked_place file table from link f l = rw (f, l) refl
