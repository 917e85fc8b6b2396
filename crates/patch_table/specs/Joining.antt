-- How a map takes in another in place: first the keys that it lacks, each with a 0, then the greater values.
use Rattle.std.specs.Prelude.{ℕ, nat_eq, not, max, Bool, Option, Some, None}

-- what is at a key once the other map's keys are there
abbrev pub with_key : (here there : Option ℕ) → Option ℕ
with_key None None = None
with_key None (Some v) = Some 0
with_key (Some x) there = Some x

-- and once the greater value is kept, where the key is there
abbrev pub lifted : (here there : Option ℕ) → Option ℕ
lifted None there = None
lifted (Some x) None = Some x
lifted (Some x) (Some v) = Some (max x v)

-- an entry of a table, and not a key that was only added
abbrev pub is_entry : {K : Type 0} → K × ℕ → Bool
is_entry e = not (nat_eq e.1 0)
