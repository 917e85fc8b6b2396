-- The input as a tape keeps and answers it (docs/outside.md, "The tape").
use Rattle.std.specs.Prelude.{◌≡◌, ℕ, ◌+◌, ◌-◌, ◌<◌, ◌≤◌, Bool, true, false, List, [], ◌++◌, length, take, drop, Result, Ok, Err, Option, Some, IfSome, if◌then◌else◌}
use Rattle.std.specs.Io.KnownBytes.{Consumes, IsAtEnd, prepend_known}
use Rattle.ex_io.specs.Causes.{RoseOnly}
use Rattle.ex_io.specs.declared.tape.TapeFault.{TapeFault}
use Rattle.ex_io.specs.declared.tape.TapeFault.TheVariants as fault

-- the most bytes of an input that are kept
abbrev pub most_kept : ℕ
most_kept = 67108864

-- a tape: the bytes that it took and keeps, the place where those end that it has answered, whether it keeps all, and whether a read was refused
pub record Track : Type 0 where
  pub kept : List ℕ
  pub high : ℕ
  pub keep : Bool
  pub refused : Bool

-- the place in the input of the first byte that is kept
abbrev pub begins : Track → ℕ
begins track = if track.keep then 0 else track.high

-- the input from there on: what is kept, and then what the source has left
abbrev pub input : Track → Option (List ℕ) → Option (List ℕ)
input track left = prepend_known track.kept left

-- a tape at the start of the input
abbrev pub new_tape : (keep : Bool) → Track
new_tape keep = record { kept = []; high = 0; keep = keep; refused = false }

-- the count of a source rises only at the fault that names it
abbrev pub CountsTape : {T : Type 0} → ℕ → ℕ → Result T TapeFault → Type 0
CountsTape before now (Ok _) = now ≡ before
CountsTape before now (Err fault.Source) = RoseOnly before now
CountsTape before now (Err fault.Limit) = now ≡ before
CountsTape before now (Err fault.Memory) = now ≡ before

-- at most so many bytes were taken of what was left
abbrev pub TakesAtMost : Option (List ℕ) → Option (List ℕ) → ℕ → Type 0
TakesAtMost old new most = (taken : List ℕ) × Consumes old new taken × (length taken ≤ most)

-- at most `len` bytes of the input at a place
abbrev pub part : Track → ℕ → ℕ → List ℕ → List ℕ
part track from len bytes = take len (drop (from - begins track) bytes)

-- the input is as it was, from the first byte on that is still kept
abbrev pub InputStays : Track → Track → Option (List ℕ) → Option (List ℕ) → Type 0
InputStays old new left left' = IfSome (input old left) (λ bytes. input new left' ≡ Some (drop (begins new - begins old) bytes))

-- a read passes the limit where all is kept, it reaches past the limit, and the input does too
abbrev pub IsPast : Track → Option (List ℕ) → ℕ → ℕ → Type 0
IsPast track left from len = (track.keep ≡ true) × (most_kept < from + len) × IfSome (input track left) (λ bytes. most_kept < length bytes)

abbrev pub IsWithin : Track → Option (List ℕ) → ℕ → ℕ → Type 0
IsWithin track left from len = track.keep ≡ true → most_kept < from + len → IfSome (input track left) (λ bytes. length bytes ≤ most_kept)

-- a read is refused for the limit exactly where it passes it
abbrev pub Limits : {T : Type 0} → Track → Option (List ℕ) → ℕ → ℕ → Result T TapeFault → Type 0
Limits track left from len (Ok _) = IsWithin track left from len
Limits track left from len (Err fault.Limit) = IsPast track left from len
Limits track left from len (Err fault.Source) = Unit {0}
Limits track left from len (Err fault.Memory) = Unit {0}

-- while no read was refused, what was answered is kept, in its limit, or nothing is
abbrev pub HasAnswered : (count high : ℕ) → (keep refused : Bool) → Type 0
HasAnswered count high true false = (count ≡ high) × (high ≤ most_kept)
HasAnswered count high true true = Unit {0}
HasAnswered count high false refused = count ≡ 0

-- a part that is read passes the limit of what is kept
abbrev pub LimitsPart : {T : Type 0} → Option (List ℕ) → (end : ℕ) → Result T TapeFault → Type 0
LimitsPart all end (Ok _) = most_kept < end → IfSome all (λ bytes. length bytes ≤ most_kept)
LimitsPart all end (Err fault.Limit) = (most_kept < end) × IfSome all (λ bytes. most_kept < length bytes)
LimitsPart all end (Err fault.Source) = Unit {0}
LimitsPart all end (Err fault.Memory) = Unit {0}

-- bytes were added behind these, or none
abbrev pub Grows : List ℕ → List ℕ → Type 0
Grows old new = (more : List ℕ) × (new ≡ old ++ more)

-- bytes were taken while there were fewer than were wanted, and none past those
pub record Fills (old new : List ℕ) (left left' : Option (List ℕ)) (wanted : ℕ) : Type 0 where
  pub taken : List ℕ
  pub grown : new ≡ old ++ taken
  pub moved : Consumes left left' taken
  pub enough : length old ≤ wanted → length new ≤ wanted
  pub none : wanted ≤ length old → taken ≡ []

-- bytes were taken until there were as many as wanted, or the input ended
abbrev pub FillsUpTo : {E : Type 0} → List ℕ → List ℕ → Option (List ℕ) → Option (List ℕ) → ℕ → Result (Unit {0}) E → Type 0
FillsUpTo old new left left' wanted (Ok _) = Fills old new left left' wanted × (length new < wanted → IsAtEnd left')
FillsUpTo old new left left' wanted (Err _) = Grows old new × TakesAtMost left left' (wanted - length old)
