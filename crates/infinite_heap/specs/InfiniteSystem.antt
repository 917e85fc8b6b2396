-- The system calls of the infinite-heap machine: docs/guest.md, "System calls", and docs/infinite-run.md, "System calls".
use Rattle.std.specs.Prelude.{ℕ, zero, suc, ◌+◌, ◌-◌, ◌%◌, ◌^◌, ◌&&◌, ◌||◌, Bool, true, not, nat_eq, nat_le, if◌then◌else◌, List, [], ◌∷◌, length, take, drop, map}
use Rattle.std.specs.declared.option.Option.{Option}
use Rattle.std.specs.declared.option.Option.TheVariants.{Some, None}
use Rattle.infinite_heap.specs.declared.access.Record.{Record}
use Rattle.infinite_heap.specs.declared.access.AccessKind.TheVariants as kind
use Rattle.infinite_heap.specs.declared.fault.Why.TheVariants as why
use Rattle.infinite_heap.specs.declared.value.Cell.{Cell}
use Rattle.infinite_heap.specs.declared.value.Cell.TheVariants.{Byte}
use Rattle.infinite_heap.specs.declared.value.Value.{Value}
use Rattle.infinite_heap.specs.declared.value.Value.TheVariants.{Num, Ptr}
use Rattle.infinite_heap.specs.Mapped.{Mapping}
use Rattle.infinite_heap.specs.Memory.{put_all, get_all, store_all}
use Rattle.infinite_heap.specs.Region.{region_from, region_end}
use Rattle.infinite_heap.specs.InfiniteState.{InfState, InfStep, Goes, Reads, Prints, Exits, Blurs, cells_of_state, access, inf_next}

-- the answers -9 (a bad descriptor), -14 (a bad span) and -38 (no such call)
abbrev pub bad_descriptor : ℕ
bad_descriptor = 2 ^ 32 - 9

abbrev pub bad_span : ℕ
bad_span = 2 ^ 32 - 14

abbrev pub no_call : ℕ
no_call = 2 ^ 32 - 38

abbrev pub is_read : ℕ → Bool
is_read a7 = nat_eq a7 63

abbrev pub is_write : ℕ → Bool
is_write a7 = nat_eq a7 64

abbrev pub is_exit : ℕ → Bool
is_exit a7 = nat_eq a7 93 || nat_eq a7 94

-- a test of each address of a span, which never wraps
abbrev pub all_in : (ℕ → Bool) → (from len : ℕ) → Bool
all_in test from zero = true
all_in test from (suc len) = test from && all_in test (from + 1) len

-- a span touches no place of the heap region
abbrev pub avoids_heap : (from len : ℕ) → Bool
avoids_heap from len = nat_le (from + len) region_from || nat_le region_end from

-- a span ends at 2^32 at most, and each of its addresses passes the test
abbrev pub is_span : (ℕ → Bool) → (from len : ℕ) → Bool
is_span test from len = nat_le (from + len) (2 ^ 32) && all_in test from len

-- a0 gets an answer
abbrev pub inf_answers : InfState → ℕ → InfStep
inf_answers s n = Goes (inf_next s 10 (Num n)) []

-- the bytes that a read of so many takes from the input
abbrev pub taken : (input : List ℕ) → (place len : ℕ) → List ℕ
taken input place len = take len (drop place input)

abbrev pub as_cells : List ℕ → List Cell
as_cells bytes = map Byte bytes

-- a read that fills cells: a0 gets how many, and the place in the input moves on
abbrev pub inf_read : InfState → List ℕ → InfState
inf_read s bytes = record (inf_next s 10 (Num (length bytes))) { place = s.place + length bytes }

abbrev pub inf_read_at : Mapping → (input : List ℕ) → InfState → Value → (len : ℕ) → InfStep
inf_read_at p input s (Num n) len =
    if not (avoids_heap n len) then Blurs why.Operand []
    else if is_span p.writable n len
    then Reads len (record (inf_read s (taken input s.place len)) { flat = put_all s.flat n (as_cells (taken input s.place len)) }) []
    else inf_answers s bad_span
inf_read_at p input s (Ptr o d) len =
    Reads len (record (inf_read s (taken input s.place len)) { written = store_all s.written o d (as_cells (taken input s.place len)) }) (access s kind.Store o d len ∷ [])
inf_read_at p input s v len = Blurs why.Operand []

-- the length of a read or a write is asked for after its descriptor
abbrev pub inf_read_from : Mapping → (input : List ℕ) → InfState → (descriptor : ℕ) → Value → Value → InfStep
inf_read_from p input s fd a1 (Num len) =
    if not (nat_eq fd 0) then inf_answers s bad_descriptor
    else if nat_eq len 0 then inf_answers s 0
    else inf_read_at p input s a1 len
inf_read_from p input s fd a1 a2 = if nat_eq fd 0 then Blurs why.Operand [] else inf_answers s bad_descriptor

-- the numbers of cells, none where one isn't a number
abbrev pub with_number : Cell → Option (List ℕ) → Option (List ℕ)
with_number (Byte b) (Some bytes) = Some (b ∷ bytes)
with_number c bytes = None

abbrev pub numbers_of : List Cell → Option (List ℕ)
numbers_of [] = Some []
numbers_of (c ∷ cs) = with_number c (numbers_of cs)

abbrev pub inf_prints : InfState → (fd len : ℕ) → Option (List ℕ) → List Record → InfStep
inf_prints s fd len (Some bytes) records = Prints fd bytes (inf_next s 10 (Num len)) records
inf_prints s fd len None records = Blurs why.Output records

abbrev pub inf_write_at : Mapping → InfState → (fd : ℕ) → Value → (len : ℕ) → InfStep
inf_write_at p s fd (Num n) len =
    if not (avoids_heap n len) then Blurs why.Operand []
    else if is_span p.mapped n len then inf_prints s fd len (numbers_of (get_all s.flat n len)) []
    else inf_answers s bad_span
inf_write_at p s fd (Ptr o d) len = inf_prints s fd len (numbers_of (get_all ((cells_of_state s).heap o) d len)) (access s kind.Load o d len ∷ [])
inf_write_at p s fd v len = Blurs why.Operand []

abbrev pub is_printed : ℕ → Bool
is_printed fd = nat_eq fd 1 || nat_eq fd 2

abbrev pub inf_write_to : Mapping → InfState → (fd : ℕ) → Value → Value → InfStep
inf_write_to p s fd a1 (Num len) =
    if not (is_printed fd) then inf_answers s bad_descriptor
    else if nat_eq len 0 then inf_answers s 0
    else inf_write_at p s fd a1 len
inf_write_to p s fd a1 a2 = if is_printed fd then Blurs why.Operand [] else inf_answers s bad_descriptor

-- a call that is served, by the number that a0 is
abbrev pub inf_served : Mapping → (input : List ℕ) → InfState → (a7 : ℕ) → Value → InfStep
inf_served p input s a7 (Num a0) =
    if is_exit a7 then Exits (a0 % 256) (record s { steps = s.steps + 1 })
    else if is_read a7 then inf_read_from p input s a0 (s.regs 11) (s.regs 12)
    else inf_write_to p s a0 (s.regs 11) (s.regs 12)
inf_served p input s a7 a0 = Blurs why.Operand []

-- an environment call, by a7
abbrev pub inf_ecall : Mapping → (input : List ℕ) → InfState → Value → InfStep
inf_ecall p input s (Num a7) = if is_exit a7 || (is_read a7 || is_write a7) then inf_served p input s a7 (s.regs 10) else inf_answers s no_call
inf_ecall p input s a7 = Blurs why.Operand []
