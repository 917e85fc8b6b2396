-- What a run has of the outside at a moment: what its two sinks hold, where they tell it, and how often its source and
-- its sinks have failed.
use Rattle.std.specs.Prelude.{ℕ, List, Option}

pub record Held : Type 0 where
  pub out : Option (List ℕ)
  pub err : Option (List ℕ)

abbrev pub held : (out err : Option (List ℕ)) → Held
held out err = record { out = out; err = err }

pub record Faults : Type 0 where
  pub input : ℕ
  pub out : ℕ
  pub err : ℕ

abbrev pub faults : (input out err : ℕ) → Faults
faults input out err = record { input = input; out = out; err = err }
