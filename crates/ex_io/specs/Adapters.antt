-- What reading a file to its end answers, where the file tells its bytes.
use Rattle.std.specs.Prelude.{◌≡◌, ◌<◌, ℕ, List, length, Result, Ok, Err, Option, IfSome}
use Rattle.std.specs.declared.vec.Vec.{Vec}
use Rattle.std.specs.declared.alloc.Global.{Global}
use Rattle.ex_io.specs.Files.{most_taken}
use Rattle.ex_io.specs.declared.outside.TakeFault.{TakeFault}
use Rattle.ex_io.specs.declared.outside.TakeFault.TheVariants as take_fault

-- all of its bytes, or it has more than may be taken
abbrev pub ReadsAll : List ℕ → Result (Vec ℕ Global) TakeFault → Type 0
ReadsAll told (Ok bytes) = bytes.items ≡ told
ReadsAll told (Err take_fault.Long) = most_taken < length told
ReadsAll told (Err take_fault.Absent) = Unit {0}
ReadsAll told (Err take_fault.Failed) = Unit {0}
ReadsAll told (Err take_fault.Memory) = Unit {0}

abbrev pub ReadsWhole : Option (List ℕ) → Result (Vec ℕ Global) TakeFault → Type 0
ReadsWhole told result = IfSome told (λ bytes. ReadsAll bytes result)
