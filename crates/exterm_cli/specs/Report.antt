-- The report of a run and its status: docs/program.md, "Report".
use Rattle.std.specs.Prelude.{ℕ, ◌==◌, List, [], ◌++◌, None, codes, decimal, if◌then◌else◌}
use Rattle.infinite_heap.specs.declared.fault.FaultKind.{FaultKind}
use Rattle.infinite_heap.specs.declared.fault.FaultKind.TheVariants as fault
use Rattle.layout_run.specs.declared.ran.Ending.{Ending}
use Rattle.layout_run.specs.declared.ran.Ending.TheVariants.{Exit, Fault, Budget, Room, Stopped}
use Rattle.hex_text.specs.Hex.{hex_of}
use Rattle.exterm_cli.specs.Plan.{Plan, line}
use Rattle.exterm_cli.specs.declared.report.HeapCounts.{HeapCounts}

abbrev pub counts_text : HeapCounts → List ℕ
counts_text counts = codes "allocations " ++ (decimal counts.allocations ++ (codes " frees " ++ (decimal counts.frees ++ (codes " signals " ++ decimal counts.signals))))

abbrev pub fault_text : FaultKind → List ℕ
fault_text fault.Fetch = codes "fetch"
fault_text fault.Illegal = codes "illegal"
fault_text fault.Break = codes "break"
fault_text fault.Jump = codes "jump"
fault_text fault.LoadAlign = codes "load-align"
fault_text fault.StoreAlign = codes "store-align"
fault_text fault.Load = codes "load"
fault_text fault.Store = codes "store"

abbrev pub after_steps : ℕ → List ℕ
after_steps steps = codes " after " ++ (decimal steps ++ codes " steps")

-- how a run ended. A run that is reported is never stopped
abbrev pub ending_text : Ending → (steps : ℕ) → List ℕ
ending_text (Exit code) steps = codes "exit " ++ (decimal code ++ after_steps steps)
ending_text (Fault kind pc address) steps = codes "fault " ++ (fault_text kind ++ (codes " pc 0x" ++ (hex_of 8 pc ++ (codes " addr 0x" ++ (hex_of 8 address ++ after_steps steps)))))
ending_text Budget steps = codes "budget" ++ after_steps steps
ending_text (Room used wanted) steps = codes "room used " ++ (decimal used ++ (codes " wanted " ++ (decimal wanted ++ after_steps steps)))
ending_text Stopped steps = codes "stopped" ++ after_steps steps

abbrev pub ending_status : Ending → ℕ
ending_status (Exit code) = code
ending_status (Fault kind pc address) = 123
ending_status Budget = 124
ending_status (Room used wanted) = 125
ending_status Stopped = 124

abbrev pub report_of : HeapCounts → Ending → (steps : ℕ) → List ℕ
report_of counts ending steps = line (codes "heap " ++ counts_text counts) ++ line (ending_text ending steps)

-- the images that were taken, and the sites and pairs of sites that were found
abbrev pub images_text : (images pads defers : ℕ) → List ℕ
images_text images pads defers = codes "images " ++ (decimal images ++ (codes " pads " ++ (decimal pads ++ (codes " defers " ++ decimal defers))))

-- the ending alone, and nothing of an exit with status 0
abbrev pub unless_done : Ending → (steps : ℕ) → List ℕ
unless_done ending steps = if ending_status ending == 0 then [] else line (ending_text ending steps)

-- a run that printed these bytes and ended so
abbrev pub ended : (out err : List ℕ) → HeapCounts → Ending → (steps : ℕ) → Plan
ended out err counts ending steps = record { status = ending_status ending; out = out; err = err; file = None; report = report_of counts ending steps }
