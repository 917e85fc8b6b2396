-- What a hart answers, from what its parts do.
use Rattle.std.proofs.Common.{◌≡◌, ◌≤◌, ℕ, zero, suc, ◌+◌, ◌^◌, ◌&&◌, nat_le, Bool, true, false, List, [], ◌∷◌, length, Option, None, Some, Ok, Err, refl, sym, ◌∙◌, ap, subst, arith, is_some}
use Rattle.std.specs.Int.{w32, from_le_bytes}
use Rattle.std.specs.declared.alloc.AllocError.{AllocError}
use Rattle.infinite_heap.specs.declared.fault.FaultKind.TheVariants as fault
use Rattle.infinite_heap.specs.Row.{row}
use Rattle.rv_memory.specs.Access.{number_of, read_as}
use Rattle.rv_memory.specs.Memory.{span, with_first, is_mapped, is_lawful}
use Rattle.rv_memory.specs.declared.access.Unmapped.{Unmapped}
use Rattle.rv_memory.specs.Laws.{is_some-span}
use Rattle.rv_machine.specs.Core.{Core, Next, Goes, Faults, Reads, Prints, Exits, Stays, register, stepped, filled}
use Rattle.rv_machine.specs.Steps.{decoded, fetched, next, next_of, prints}
use Rattle.rv_machine.specs.Harts.{IsAt, Gives, Finishes}
use Rattle.rv_machine.specs.Stops.{Takes, IsPrint}
use Rattle.rv_machine.specs.declared.ended.Ended.{Ended}
use Rattle.rv_machine.specs.declared.hart.Hart.{Hart}
use Rattle.rv_machine.specs.declared.stop.Waiting.{Waiting}
use Rattle.rv_machine.specs.declared.stop.Waiting.TheVariants.{Nothing, ReadBytes, WriteDone}
use Rattle.rv_machine.specs.Shape.{IsShaped}
use Rattle.rv_machine.proofs.Shaped.{shaped}

length-first : (first : Option ℕ) (others : Option (List ℕ)) (n : ℕ) (all : List ℕ) → ((rest : List ℕ) → others ≡ Some rest → length rest ≡ n) → with_first first others ≡ Some all → length all ≡ suc n
length-first None others n all rest is = absurd (cc)
length-first (Some byte) None n all rest is = absurd (cc)
length-first (Some byte) (Some bytes) n all rest is =
    let same : all ≡ byte ∷ bytes = cc in
    ap length same ∙ ap suc (rest bytes refl)

pub span-length : (bytes : ℕ → Option ℕ) (from n : ℕ) (all : List ℕ) → span bytes from n ≡ Some all → length all ≡ n
span-length bytes from zero all is = let same : all ≡ [] = cc in ap length same
span-length bytes from (suc n) all is = length-first (bytes from) (span bytes (from + 1) n) n all (λ rest known. span-length bytes (from + 1) n rest known) is

-- four bytes as a word
number-word : (bytes : List ℕ) → length bytes ≡ 4 → number_of bytes ≡ from_le_bytes w32 bytes
number-word [] is = absurd (omega arith)
number-word (a ∷ []) is = absurd (omega arith)
number-word (a ∷ b ∷ []) is = absurd (omega arith)
number-word (a ∷ b ∷ c ∷ []) is = absurd (omega arith)
number-word (a ∷ b ∷ c ∷ d ∷ []) is = omega arith
number-word (a ∷ b ∷ c ∷ d ∷ e ∷ bytes) is = absurd (omega arith)

-- a fetched word
pub fetch-ok : (core : Core) (s : Option (List ℕ)) (word : ℕ) → ((bytes : List ℕ) → s ≡ Some bytes → length bytes ≡ 4) → Ok word ≡ read_as s → fetched core s ≡ decoded core (row word)
fetch-ok core None word four is = absurd (cc)
fetch-ok core (Some bytes) word four is =
    let same : word ≡ number_of bytes = cc in
    ap (λ w. decoded core (row w)) (sym (same ∙ number-word bytes (four bytes refl)))

pub fetch-err : (core : Core) (s : Option (List ℕ)) (e : Unmapped) → Err e ≡ read_as s → fetched core s ≡ Faults fault.Fetch core.pc
fetch-err core None e is = refl
fetch-err core (Some bytes) e is = absurd (cc)

-- a lawful span has its bytes
pub some-bytes : (core : Core) (fd address len : ℕ) (s : Option (List ℕ)) → is_some s ≡ true → (bytes : List ℕ) × (prints core fd address len s ≡ Prints fd address len bytes (stepped core 10 len)) × (s ≡ Some bytes)
some-bytes core fd address len None is = absurd (cc)
some-bytes core fd address len (Some bytes) is = (bytes, refl, refl)

pub next-over : (core : Core) (e : Ended) → core.ended ≡ Some e → next core ≡ Stays e
next-over core e is = ap (next_of core) is

-- what finishing a write leaves
finish : (core : Core) (n : Next) (hart : Hart) → IsShaped core n → IsPrint n → IsAt (stepped core 10 (register core 12)) hart → Finishes n hart
finish core (Prints fd address len bytes to) hart shape is at = subst (λ c. IsAt c hart) (ap (λ l. stepped core 10 l) (sym shape.1) ∙ sym shape.3) at
finish core (Goes to) hart shape is at = absurd is
finish core (Faults kind address) hart shape is at = absurd is
finish core (Reads address len) hart shape is at = absurd is
finish core (Exits code to) hart shape is at = absurd is
finish core (Stays e) hart shape is at = absurd is

pub finishes : (core : Core) (hart : Hart) → IsPrint (next core) → IsAt (stepped core 10 (register core 12)) hart → Finishes (next core) hart
finishes core hart is at = finish core (next core) hart (shaped core) is at

-- what giving bytes leaves
given : (core : Core) (n : Next) (waiting : Waiting) (bytes : List ℕ) (hart : Hart) → IsShaped core n → Takes n waiting bytes → IsAt (filled core (register core 11) bytes) hart → Gives core n bytes (Ok tt) hart
given core (Reads address len) ReadBytes bytes hart shape is at = subst (λ a. IsAt (filled core a bytes) hart) (sym shape.0) at
given core (Reads address len) Nothing bytes hart shape is at = absurd is
given core (Reads address len) WriteDone bytes hart shape is at = absurd is
given core (Goes to) waiting bytes hart shape is at = absurd is
given core (Faults kind address) waiting bytes hart shape is at = absurd is
given core (Prints fd address len others to) waiting bytes hart shape is at = absurd is
given core (Exits code to) waiting bytes hart shape is at = absurd is
given core (Stays e) waiting bytes hart shape is at = absurd is

pub gives : (core : Core) (waiting : Waiting) (bytes : List ℕ) (hart : Hart) → Takes (next core) waiting bytes → IsAt (filled core (register core 11) bytes) hart → Gives core (next core) bytes (Ok tt) hart
gives core waiting bytes hart is at = given core (next core) waiting bytes hart (shaped core) is at

refused : (core : Core) (n : Next) (waiting : Waiting) (bytes : List ℕ) (e : AllocError) (hart : Hart) → Takes n waiting bytes → hart.spent ≡ true → Gives core n bytes (Err e) hart
refused core n waiting bytes e hart is spent = spent

-- a read's length is a word
pub takes-few : (core : Core) (waiting : Waiting) (bytes : List ℕ) → Takes (next core) waiting bytes → length bytes ≤ register core 12
takes-few core waiting bytes is = few (next core) waiting (shaped core) is
  where
    few : (n : Next) (waiting : Waiting) → IsShaped core n → Takes n waiting bytes → length bytes ≤ register core 12
    few (Reads address len) ReadBytes shape is = subst (λ l. length bytes ≤ l) shape.1 is
    few (Reads address len) Nothing shape is = absurd is
    few (Reads address len) WriteDone shape is = absurd is
    few (Goes to) waiting shape is = absurd is
    few (Faults kind address) waiting shape is = absurd is
    few (Prints fd address len others to) waiting shape is = absurd is
    few (Exits code to) waiting shape is = absurd is
    few (Stays e) waiting shape is = absurd is

second : (a b : Bool) → (a && b) ≡ true → b ≡ true
second true b is = is
second false b is = absurd (cc)

pub lawful-bytes : (core : Core) (fd address len : ℕ) → is_lawful core.memory address len false ≡ true → (bytes : List ℕ) × (prints core fd address len (span core.memory.bytes address len) ≡ Prints fd address len bytes (stepped core 10 len)) × (span core.memory.bytes address len ≡ Some bytes)
lawful-bytes core fd address len lawful = some-bytes core fd address len (span core.memory.bytes address len) (is_some-span core.memory.bytes address len ∙ second (nat_le (address + len) (2 ^ 32)) (is_mapped core.memory address len) lawful)
