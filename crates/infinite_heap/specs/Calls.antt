-- The return addresses of a guest, newest first, by the hints of the RISC-V Unprivileged ISA manual, "Unconditional Jumps": docs/guest.md, "Return addresses".
use Rattle.std.specs.Prelude.{ℕ, ◌&&◌, ◌||◌, Bool, not, nat_eq, if◌then◌else◌, List, [], ◌∷◌, take}

-- x1 and x5 are link registers
abbrev pub is_link : ℕ → Bool
is_link r = nat_eq r 1 || nat_eq r 5

-- at most 1,024 are kept, and the oldest is dropped
abbrev pub push : ℕ → List ℕ → List ℕ
push back calls = take 1024 (back ∷ calls)

abbrev pub pop : List ℕ → List ℕ
pop [] = []
pop (back ∷ calls) = calls

-- a JAL that leaves its return address in rd
abbrev pub after_jal : ℕ → ℕ → List ℕ → List ℕ
after_jal rd back calls = if is_link rd then push back calls else calls

-- a JALR through rs1 that leaves its return address in rd
abbrev pub after_jalr : ℕ → ℕ → ℕ → List ℕ → List ℕ
after_jalr rd rs1 back calls =
    if is_link rd then (if is_link rs1 && not (nat_eq rd rs1) then push back (pop calls) else push back calls)
    else if is_link rs1 then pop calls else calls
