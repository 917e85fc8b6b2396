-- A guest and its heap between two steps: docs/guest.md.
use Rattle.std.specs.Prelude.{ℕ, List}
use Rattle.infinite_heap.specs.declared.program.HeapName.{HeapName}
use Rattle.infinite_heap.specs.Loaded.{Loaded}
use Rattle.patch_table.specs.Table.{Table}
use Rattle.exact_heap.specs.Calls.{check_end}
use Rattle.exact_heap.specs.History.{History, no_history}
use Rattle.exact_heap.specs.Placing.{HeapState, Rules}
use Rattle.rv_machine.specs.declared.settings.Settings.{Settings}
use Rattle.rv_machine.specs.Core.{Core, start}

pub record Guest : Type 0 where
  pub core : Core
  -- the program's heap functions
  pub names : List HeapName
  -- the patches, and whether every object begins with zeros
  pub rules : Rules
  pub history : History

abbrev pub with_core : Guest → Core → Guest
with_core g core = record g { core = core }

-- the heap, and the memory that it lies in
abbrev pub heap_of : Guest → HeapState
heap_of g = record { history = g.history; memory = g.core.memory }

abbrev pub with_heap : Guest → HeapState → Guest
with_heap g s = record g { core = record g.core { memory = s.memory }; history = s.history }

-- other patches from now on
abbrev pub with_patches : Guest → Table → Guest
with_patches g patches = record g { rules = record g.rules { patches = patches } }

-- the check at the end of a run was made
abbrev pub checked : Guest → Guest
checked g = record g { history = check_end (heap_of g) }

abbrev pub rules_in : Settings → Rules
rules_in settings = record { patches = settings.patches; zero = settings.zero }

-- a guest before its first step
abbrev pub guest_start : Loaded → List (List ℕ) → Settings → Guest
guest_start program args settings = record { core = start program args; names = program.names; rules = rules_in settings; history = no_history settings.seed }
