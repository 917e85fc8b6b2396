-- A guest that is to be run: its program, its arguments and its settings, as words and files give them.
use Rattle.std.specs.Prelude.{◌≡◌, ℕ, List, Result, Ok, Err}
use Rattle.ex_io.specs.Files.{FileMap}
use Rattle.infinite_heap.specs.Loaded.{Loaded}
use Rattle.patch_table.specs.Table.{Table}
use Rattle.rv_machine.specs.declared.settings.Settings.{Settings}
use Rattle.exterm_cli.specs.Counted.{args_of}
use Rattle.iterate.specs.Reruns.{Job}
use Rattle.exterm_cli.specs.Plan.{Plan}
use Rattle.exterm_cli.specs.Taking.{ReadsPatches, program_in, taken_word}
use Rattle.exterm_cli.specs.declared.words.GuestWords.{GuestWords}

abbrev pub settings_of : GuestWords → Table → Settings
settings_of g table = record { seed = g.seed; zero = g.zero; patches = table }

abbrev pub guest_with : List (List ℕ) → GuestWords → Loaded → Result Table Plan → Result Job Plan
guest_with words g program (Ok table) = Ok (record { program = program; args = args_of words g; settings = settings_of g table; budget = g.steps })
guest_with words g program (Err plan) = Err plan

-- the patch file is taken and read after the program is loaded
abbrev pub AcceptsLoaded : List (List ℕ) → FileMap → GuestWords → Result Loaded Plan → Result Job Plan → Type 0
AcceptsLoaded words files g (Ok program) accepted = (read : Result Table Plan) × ReadsPatches words files g.patches read × (accepted ≡ guest_with words g program read)
AcceptsLoaded words files g (Err plan) accepted = accepted ≡ Err plan

-- the guest of these words, or what is told where a file is refused
abbrev pub AcceptsGuest : List (List ℕ) → FileMap → GuestWords → Result Job Plan → Type 0
AcceptsGuest words files g accepted = AcceptsLoaded words files g (program_in (taken_word words files g.elf)) accepted
