-- A made program by its draws: docs/made-programs.md, "The program".
use Rattle.std.specs.Prelude.{◌≡◌, ℕ, zero, suc, ◌+◌, ◌/◌, ◌%◌, ◌==◌, ◌<◌, Bool, false, not, List, ◌++◌, length, slice_index_or, if◌then◌else◌}
use Rattle.infinite_heap.specs.declared.instr.Instr.{Instr}
use Rattle.work_maker.specs.Instrs.{start, allocation, release, again, ending}

-- what a draw picks: one of 64 places, and a size from 1 to 1,024
abbrev pub place_of : ℕ → ℕ
place_of draw = draw % 64

abbrev pub size_of : ℕ → ℕ
size_of draw = 1 + draw / 64 % 1024

-- place k is full before turn j where an odd number of the draws before it picked that place
unfoldable pub is_full : (ℕ → ℕ) → ℕ → ℕ → Bool
is_full draws zero k = false
is_full draws (suc j) k = if place_of (draws j) == k then not (is_full draws j k) else is_full draws j k

-- a program with turn j of the body behind it, by the turn's draw and whether the place that this picks is full
abbrev pub with_turn : Bool → (j draw : ℕ) → List Instr → List Instr
with_turn full j draw code =
    code
    ++ (if full then release (place_of draw) (length code)
    else allocation (place_of draw) (size_of draw) (j % 128) (length code))

-- the program up to turn j
unfoldable pub before_turn : (ℕ → ℕ) → ℕ → List Instr
before_turn draws zero = start
before_turn draws (suc j) = with_turn (is_full draws j (place_of (draws j))) j (draws j) (before_turn draws j)

-- a program with the release of place k behind it, where that is full
abbrev pub with_release : Bool → ℕ → List Instr → List Instr
with_release full k code = if full then code ++ release k (length code) else code

-- what the turns leave is freed by place: the program up to place k
unfoldable pub before_place : (ℕ → Bool) → List Instr → ℕ → List Instr
before_place full turns zero = turns
before_place full turns (suc k) = with_release (full k) k (before_place full turns k)

-- the program of draws and a number of turns
unfoldable pub program : (ℕ → ℕ) → ℕ → List Instr
program draws turns =
    let code = before_place (is_full draws turns) (before_turn draws turns) 64 in
    code ++ again (length code) ++ ending

-- these are the program up to turn j, and the places that are full then
pub record IsBefore (draws : ℕ → ℕ) (j : ℕ) (code : List Instr) (full : List Bool) : Type 0 where
  pub code_so_far : code ≡ before_turn draws j
  pub full_so_far : (k : ℕ) → k < 64 → slice_index_or full k false ≡ is_full draws j k
  pub places : length full ≡ 64
