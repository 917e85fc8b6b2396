-- The forms in memory: what they hold, and which of their calls fail (docs/outside.md, "Forms in memory").
use Rattle.std.specs.Prelude.{◌≡◌, ◌⊎◌, ℕ, ◌+◌, ◌-◌, ◌/◌, ◌^◌, ◌==◌, min, Bool, List, ◌++◌, length, take, drop, Result, Ok, Err, if◌then◌else◌}
use Rattle.std.specs.List.{list_any}
use Rattle.ex_io.specs.declared.outside.Failed.{Failed}

-- how many calls were made and how many of them failed, and the numbers of those that fail
pub record Attempts : Type 0 where
  pub made : ℕ
  pub faults : ℕ
  pub failing : List ℕ

-- one more, up to the last value of a counter
abbrev pub one_more : ℕ → ℕ
one_more count = min (count + 1) (2 ^ 64 - 1)

-- before the first call, whose number is 1
abbrev pub no_calls : List ℕ → Attempts
no_calls failing = record { made = 0; faults = 0; failing = failing }

-- whether the next call is one that fails
abbrev pub fails : Attempts → Bool
fails attempts = list_any (λ number. number == one_more attempts.made) attempts.failing

abbrev pub after_call : Attempts → Attempts
after_call attempts = record { made = one_more attempts.made; faults = if fails attempts then one_more attempts.faults else attempts.faults; failing = attempts.failing }

-- a source: the bytes left, and the most that a call gives
pub record Feed : Type 0 where
  pub left : List ℕ
  pub piece : ℕ
  pub attempts : Attempts

-- how many bytes the next call moves to a buffer of so many
abbrev pub moved : Feed → ℕ → ℕ
moved feed room = if fails feed.attempts then 0 else min (min (length feed.left) room) feed.piece

abbrev pub filled : Feed → ℕ → Result ℕ Failed
filled feed room = if fails feed.attempts then Err (record {}) else Ok (moved feed room)

abbrev pub after_fill : Feed → ℕ → Feed
after_fill feed room = record { left = drop (moved feed room) feed.left; piece = feed.piece; attempts = after_call feed.attempts }

-- a sink: the bytes held
pub record Store : Type 0 where
  pub bytes : List ℕ
  pub attempts : Attempts

-- a put that fails leaves the first half of its bytes, or none of them
abbrev pub PutsHalf : List ℕ → List ℕ → List ℕ → Type 0
PutsHalf old new bytes = (new ≡ old ++ take (length bytes / 2) bytes) ⊎ (new ≡ old)

-- a folder: its files with their names, of which the first with a name counts
pub record Cabinet : Type 0 where
  pub entries : List (List ℕ × List ℕ)
  pub attempts : Attempts
