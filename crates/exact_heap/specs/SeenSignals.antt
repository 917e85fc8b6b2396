-- The signals that a heap has seen: the first of them are kept, and their number.
use Rattle.std.specs.Prelude.{ℕ, ◌+◌, nat_lt, if◌then◌else◌, List, [], ◌∷◌, ◌++◌, length, take}
use Rattle.exact_heap.specs.declared.signal.Signal.{Signal}

pub record SeenSignals : Type 0 where
  pub first : List Signal
  pub count : ℕ

abbrev pub no_signals : SeenSignals
no_signals = record { first = []; count = 0 }

-- what is kept of all signals
abbrev pub seen : List Signal → SeenSignals
seen signals = record { first = take 64 signals; count = length signals }

-- one signal more, which is kept where there is room
abbrev pub with_signal : SeenSignals → Signal → SeenSignals
with_signal s signal = record { first = if nat_lt (length s.first) 64 then s.first ++ signal ∷ [] else s.first; count = s.count + 1 }
