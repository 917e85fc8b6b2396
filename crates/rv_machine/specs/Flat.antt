-- A run of a guest on flat memory: docs/guest.md, "Runs".
use Rattle.std.specs.Prelude.{ℕ, zero, suc, ◌+◌, List, [], length}
use Rattle.infinite_heap.specs.InfiniteRun.{printed_on}
use Rattle.infinite_heap.specs.InfiniteSystem.{taken}
use Rattle.infinite_heap.specs.Loaded.{Loaded}
use Rattle.rv_machine.specs.declared.settings.Settings.{Settings}
use Rattle.rv_machine.specs.Core.{Next, Goes, Faults, Reads, Prints, Exits, Stays, filled, faulted}
use Rattle.rv_machine.specs.Guest.{Guest, with_core, guest_start}
use Rattle.rv_machine.specs.HeapCalls.{GuestNext, Carries, Returns, Lacks, guest_next}

pub record Flat : Type 0 where
  pub guest : Guest
  -- how much of the input was read
  pub place : ℕ
  -- printed on descriptors 1 and 2
  pub out : List ℕ
  pub err : List ℕ

abbrev pub with_guest : Flat → Guest → Flat
with_guest flat g = record flat { guest = g }

abbrev pub read_in : Flat → (address : ℕ) → List ℕ → Flat
read_in flat address bytes = record flat { guest = with_core flat.guest (filled flat.guest.core address bytes); place = flat.place + length bytes }

-- after an instruction
abbrev pub carried : (input : List ℕ) → Flat → Next → Flat
carried input flat (Goes core) = with_guest flat (with_core flat.guest core)
carried input flat (Faults kind address) = with_guest flat (with_core flat.guest (faulted flat.guest.core kind address))
carried input flat (Reads address len) = read_in flat address (taken input flat.place len)
carried input flat (Prints fd address len bytes core) = record flat { guest = with_core flat.guest core; out = printed_on 1 fd flat.out bytes; err = printed_on 2 fd flat.err bytes }
carried input flat (Exits code core) = with_guest flat (with_core flat.guest core)
carried input flat (Stays ended) = flat

abbrev pub after_step : (input : List ℕ) → Flat → GuestNext → Flat
after_step input flat (Carries n) = carried input flat n
after_step input flat (Returns g) = with_guest flat g
after_step input flat (Lacks used wanted g) = with_guest flat g

abbrev pub flat_step : (input : List ℕ) → Flat → Flat
flat_step input flat = after_step input flat (guest_next flat.guest)

abbrev pub flat_start : Loaded → List (List ℕ) → Settings → Flat
flat_start program args settings = record { guest = guest_start program args settings; place = 0; out = []; err = [] }

-- what is there after so many more steps; a step of a guest that has ended changes nothing
unfoldable pub flat_steps : (input : List ℕ) → Flat → ℕ → Flat
flat_steps input flat zero = flat
flat_steps input flat (suc n) = flat_step input (flat_steps input flat n)

-- and what is there from the start on
abbrev pub flat_run : Loaded → (args : List (List ℕ)) → Settings → (input : List ℕ) → ℕ → Flat
flat_run program args settings input n = flat_steps input (flat_start program args settings) n
