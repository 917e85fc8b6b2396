use Rattle.std.proofs.Common.{arith, ◌≡◌, ◌<◌, ◌≤◌, ◌∙◌, sym, ap, subst, ℕ, List, Option, None, Some, Result, Ok, Err, IfSome, map, string_bytes}
use Rattle.std.specs.declared.alloc.Global.{Global}
use Rattle.std.specs.declared.string.String.{String}
use Rattle.ex_io.specs.Files.{FileMap}
use Rattle.infinite_heap.specs.Elf.{program_of}
use Rattle.infinite_heap.specs.Loaded.{Loaded}
use Rattle.rv_machine.specs.declared.settings.Settings.{Settings}
use Rattle.layout_run.specs.Outside.{Held, held}
use Rattle.layout_run.specs.declared.ran.RunRefusal.TheVariants as refused
use Rattle.ex_io.specs.Tape.{most_kept}
use Rattle.iterate.specs.Reruns.{furthest}
use Rattle.iterate.specs.Repairs.{LeavesInput as Rest, Repairs as Comes}
use Rattle.iterate.specs.declared.repairing.Repaired.{Repaired}
use Rattle.iterate.specs.declared.repairing.RepairRefusal.{RepairRefusal}
use Rattle.iterate.specs.declared.repairing.RepairRefusal.TheVariants.{Run, Mixed}
use Rattle.exterm_cli.specs.Parts.{PerformsOn, guest_as, verdict_in}
use Rattle.exterm_cli.specs.Plan.{Repairs}
use Rattle.exterm_cli.specs.Stages.{LeavesInput}
use Rattle.exterm_cli.specs.declared.cut.Cut.TheVariants as why
use Rattle.exterm_cli.proofs.Known.{each-some, mapped}
use Rattle.exterm_cli.proofs.Left.{ok-any}
use Rattle.exterm_cli.proofs.Repaired.{limit-past, repair-cut, repair-finished, repair-mixed, repair-too-long}
use Rattle.exterm_cli.proofs.repair.repair.Goals as goal

-- what the repair tells, of the program that its file holds
abbrev Tells : (left : Option (List ℕ)) (file : List ℕ) (args : List (String Global)) → Settings → (budget images : ℕ) → Result Repaired RepairRefusal → (before after : Held) → Type 0
Tells left file args settings budget images result before after =
    IfSome left (λ bytes. (program : Loaded) → program_of file ≡ Ok program → Comes (record { program = program; args = map string_bytes args; settings = settings; budget = budget }) bytes images result before after)

known : (left : Option (List ℕ)) (file other : List ℕ) (args others : List (String Global)) (settings : Settings) (budget images : ℕ) (result : Result Repaired RepairRefusal) (before after : Held) (program : Loaded)
    → file ≡ other → args ≡ others → program_of other ≡ Ok program → Tells left file args settings budget images result before after
    → IfSome left (λ bytes. Comes (record { program = program; args = map string_bytes others; settings = settings; budget = budget }) bytes images result before after)
known None file other args others settings budget images result before after program one two loads tells = tt
known (Some bytes) file other args others settings budget images result before after program one two loads tells =
    subst (λ a. Comes (record { program = program; args = map string_bytes a; settings = settings; budget = budget }) bytes images result before after) two (tells program (ap program_of one ∙ loads))

-- the files are as they were
same-files : (files : Option FileMap) (P : FileMap → Option FileMap → Type 0) → ((told : FileMap) → P told (Some told)) → IfSome files (λ told. P told files)
same-files files P each = each-some files _ (λ told is. subst (P told) (sym is) (each told))

pub repair-requires-clause-loads : goal.repair-requires-clause-loads
repair-requires-clause-loads g c = (c.args.accepted.program, ap program_of c.as_slice.ensures.value ∙ c.requires.may.loads)

pub returns-in-Ok-clause-performs : goal.returns-in-Ok-clause-performs
returns-in-Ok-clause-performs g c =
    let before = held (g.O.Sink.held c.args.out.now) (g.E.Sink.held c.args.err.now) in
    let after = held (g.O.Sink.held c.repair.new.out) (g.E.Sink.held c.repair.new.err) in
    let left = g.S.Source.left c.args.input.now in
    let accepted = c.args.accepted in
    mapped left _ _ (λ bytes is comes.
    mapped (g.F.Folder.files c.args.files.now) _ _ (λ told known keeps.
    repair-finished (guest_as accepted) c.args.images (string_bytes c.args.to) bytes c.images_isolate_one_table.ensures c.places_in_the_input_rise.ensures.places c.places_in_the_input_rise.ensures.limit before after told c.in-Ok.repaired (g.F.Folder.files c.finish.new.files) comes c.finish.result c.finish.ensures.status c.finish.ensures.report keeps) c.finish.ensures.keeps)
    (known left c.as_slice.result.now accepted.file.items c.as_slice-2.result.now accepted.args.items accepted.settings accepted.budget c.args.images (Ok c.in-Ok.repaired) before after accepted.program c.as_slice.ensures.value c.as_slice-2.ensures.value c.requires.may.loads c.in-Ok.ensures.repairs)

pub returns-in-Err-Mixed-clause-performs : goal.returns-in-Err-Mixed-clause-performs
returns-in-Err-Mixed-clause-performs g c =
    let before = held (g.O.Sink.held c.args.out.now) (g.E.Sink.held c.args.err.now) in
    let after = held (g.O.Sink.held c.repair.new.out) (g.E.Sink.held c.repair.new.err) in
    let left = g.S.Source.left c.args.input.now in
    let accepted = c.args.accepted in
    let tells = subst (λ why. Tells left c.as_slice.result.now c.as_slice-2.result.now accepted.settings accepted.budget c.args.images (Err why) before after) c.in-Err-Mixed.field-0-is c.in-Err-Mixed.ensures.repairs in
    rw c.told.ensures (mapped left _ _ (λ bytes is comes.
    same-files (g.F.Folder.files c.args.files.now) (λ told new. PerformsOn (Repairs (guest_as accepted) c.args.images (string_bytes c.args.to)) bytes (verdict_in c.mixed_images.result) before after told new) (λ told. repair-mixed (guest_as accepted) c.args.images (string_bytes c.args.to) bytes c.images_isolate_one_table.ensures c.places_in_the_input_rise.ensures.places c.places_in_the_input_rise.ensures.limit before after told c.mixed_images.result c.mixed_images.ensures comes))
    (known left c.as_slice.result.now accepted.file.items c.as_slice-2.result.now accepted.args.items accepted.settings accepted.budget c.args.images (Err Mixed) before after accepted.program c.as_slice.ensures.value c.as_slice-2.ensures.value c.requires.may.loads tells))

pub returns-in-Err-Run-Input-clause-performs : goal.returns-in-Err-Run-Input-clause-performs
returns-in-Err-Run-Input-clause-performs g c =
    let before = held (g.O.Sink.held c.args.out.now) (g.E.Sink.held c.args.err.now) in
    let after = held (g.O.Sink.held c.repair.new.out) (g.E.Sink.held c.repair.new.err) in
    let left = g.S.Source.left c.args.input.now in
    let accepted = c.args.accepted in
    let tells = subst (λ why. Tells left c.as_slice.result.now c.as_slice-2.result.now accepted.settings accepted.budget c.args.images (Err why) before after) (c.in-Err-Run-Input.field-0-is ∙ ap Run c.in-Err-Run-Input.field-0-0-is) c.in-Err-Run-Input.ensures.repairs in
    rw c.told-in-Err-Run-Input.ensures (mapped left _ _ (λ bytes is comes.
    same-files (g.F.Folder.files c.args.files.now) (λ told new. PerformsOn (Repairs (guest_as accepted) c.args.images (string_bytes c.args.to)) bytes (verdict_in c.long_input.result) before after told new) (λ told. repair-too-long (guest_as accepted) c.args.images (string_bytes c.args.to) bytes c.images_isolate_one_table.ensures c.places_in_the_input_rise.ensures.places c.places_in_the_input_rise.ensures.limit before after told c.long_input.result c.long_input.ensures comes))
    (known left c.as_slice.result.now accepted.file.items c.as_slice-2.result.now accepted.args.items accepted.settings accepted.budget c.args.images (Err (Run refused.Input)) before after accepted.program c.as_slice.ensures.value c.as_slice-2.ensures.value c.requires.may.loads tells))

pub returns-in-Err-Run-Memory-clause-performs : goal.returns-in-Err-Run-Memory-clause-performs
returns-in-Err-Run-Memory-clause-performs g c =
    let before = held (g.O.Sink.held c.args.out.now) (g.E.Sink.held c.args.err.now) in
    let after = held (g.O.Sink.held c.repair.new.out) (g.E.Sink.held c.repair.new.err) in
    let left = g.S.Source.left c.args.input.now in
    let accepted = c.args.accepted in
    let tells = subst (λ why. Tells left c.as_slice.result.now c.as_slice-2.result.now accepted.settings accepted.budget c.args.images (Err why) before after) (c.in-Err-Run-Memory.field-0-is ∙ ap Run c.in-Err-Run-Memory.field-0-0-is) c.in-Err-Run-Memory.ensures.repairs in
    mapped left _ _ (λ bytes is comes.
    same-files (g.F.Folder.files c.args.files.now) (λ told new. PerformsOn (Repairs (guest_as accepted) c.args.images (string_bytes c.args.to)) bytes (Err why.Memory) before after told new) (λ told. repair-cut (guest_as accepted) c.args.images (string_bytes c.args.to) bytes c.images_isolate_one_table.ensures c.places_in_the_input_rise.ensures.places c.places_in_the_input_rise.ensures.limit before after told refused.Memory why.Memory tt comes))
    (known left c.as_slice.result.now accepted.file.items c.as_slice-2.result.now accepted.args.items accepted.settings accepted.budget c.args.images (Err (Run refused.Memory)) before after accepted.program c.as_slice.ensures.value c.as_slice-2.ensures.value c.requires.may.loads tells)

pub returns-in-Err-Run-Source-clause-performs : goal.returns-in-Err-Run-Source-clause-performs
returns-in-Err-Run-Source-clause-performs g c =
    let before = held (g.O.Sink.held c.args.out.now) (g.E.Sink.held c.args.err.now) in
    let after = held (g.O.Sink.held c.repair.new.out) (g.E.Sink.held c.repair.new.err) in
    let left = g.S.Source.left c.args.input.now in
    let accepted = c.args.accepted in
    let tells = subst (λ why. Tells left c.as_slice.result.now c.as_slice-2.result.now accepted.settings accepted.budget c.args.images (Err why) before after) (c.in-Err-Run-Source.field-0-is ∙ ap Run c.in-Err-Run-Source.field-0-0-is) c.in-Err-Run-Source.ensures.repairs in
    mapped left _ _ (λ bytes is comes.
    same-files (g.F.Folder.files c.args.files.now) (λ told new. PerformsOn (Repairs (guest_as accepted) c.args.images (string_bytes c.args.to)) bytes (Err why.Input) before after told new) (λ told. repair-cut (guest_as accepted) c.args.images (string_bytes c.args.to) bytes c.images_isolate_one_table.ensures c.places_in_the_input_rise.ensures.places c.places_in_the_input_rise.ensures.limit before after told refused.Source why.Input tt comes))
    (known left c.as_slice.result.now accepted.file.items c.as_slice-2.result.now accepted.args.items accepted.settings accepted.budget c.args.images (Err (Run refused.Source)) before after accepted.program c.as_slice.ensures.value c.as_slice-2.ensures.value c.requires.may.loads tells)

pub returns-in-Err-Run-Out-clause-performs : goal.returns-in-Err-Run-Out-clause-performs
returns-in-Err-Run-Out-clause-performs g c =
    let before = held (g.O.Sink.held c.args.out.now) (g.E.Sink.held c.args.err.now) in
    let after = held (g.O.Sink.held c.repair.new.out) (g.E.Sink.held c.repair.new.err) in
    let left = g.S.Source.left c.args.input.now in
    let accepted = c.args.accepted in
    let tells = subst (λ why. Tells left c.as_slice.result.now c.as_slice-2.result.now accepted.settings accepted.budget c.args.images (Err why) before after) (c.in-Err-Run-Out.field-0-is ∙ ap Run c.in-Err-Run-Out.field-0-0-is) c.in-Err-Run-Out.ensures.repairs in
    mapped left _ _ (λ bytes is comes.
    same-files (g.F.Folder.files c.args.files.now) (λ told new. PerformsOn (Repairs (guest_as accepted) c.args.images (string_bytes c.args.to)) bytes (Err why.Output) before after told new) (λ told. repair-cut (guest_as accepted) c.args.images (string_bytes c.args.to) bytes c.images_isolate_one_table.ensures c.places_in_the_input_rise.ensures.places c.places_in_the_input_rise.ensures.limit before after told refused.Out why.Output tt comes))
    (known left c.as_slice.result.now accepted.file.items c.as_slice-2.result.now accepted.args.items accepted.settings accepted.budget c.args.images (Err (Run refused.Out)) before after accepted.program c.as_slice.ensures.value c.as_slice-2.ensures.value c.requires.may.loads tells)

pub returns-clause-performs : goal.returns-clause-performs
returns-clause-performs g c =
    let before = held (g.O.Sink.held c.args.out.now) (g.E.Sink.held c.args.err.now) in
    let after = held (g.O.Sink.held c.repair.new.out) (g.E.Sink.held c.repair.new.err) in
    let left = g.S.Source.left c.args.input.now in
    let accepted = c.args.accepted in
    let tells = subst (λ why. Tells left c.as_slice.result.now c.as_slice-2.result.now accepted.settings accepted.budget c.args.images (Err why) before after) (c.in-Err-Run-Err.field-0-is ∙ ap Run c.in-Err-Run-Err.field-0-0-is) c.in-Err-Run-Err.ensures.repairs in
    mapped left _ _ (λ bytes is comes.
    same-files (g.F.Folder.files c.args.files.now) (λ told new. PerformsOn (Repairs (guest_as accepted) c.args.images (string_bytes c.args.to)) bytes (Err why.Error) before after told new) (λ told. repair-cut (guest_as accepted) c.args.images (string_bytes c.args.to) bytes c.images_isolate_one_table.ensures c.places_in_the_input_rise.ensures.places c.places_in_the_input_rise.ensures.limit before after told refused.Err why.Error tt comes))
    (known left c.as_slice.result.now accepted.file.items c.as_slice-2.result.now accepted.args.items accepted.settings accepted.budget c.args.images (Err (Run refused.Err)) before after accepted.program c.as_slice.ensures.value c.as_slice-2.ensures.value c.requires.may.loads tells)

-- ---- what is left

too-far : (n : ℕ) → most_kept < n → n ≤ most_kept → ⊥
too-far n past within = omega (arith, past, within)

-- what the repair leaves of the input, of the program that its file holds
abbrev Left : (left : Option (List ℕ)) (file : List ℕ) (args : List (String Global)) → Settings → (budget images : ℕ) → Result Repaired RepairRefusal → (left' : Option (List ℕ)) → Type 0
Left left file args settings budget images result left' =
    IfSome left (λ bytes. (program : Loaded) → program_of file ≡ Ok program → Rest (record { program = program; args = map string_bytes args; settings = settings; budget = budget }) bytes images result left')

known-left : (left : Option (List ℕ)) (file other : List ℕ) (args others : List (String Global)) (settings : Settings) (budget images : ℕ) (result : Result Repaired RepairRefusal) (left' : Option (List ℕ)) (program : Loaded)
    → file ≡ other → args ≡ others → program_of other ≡ Ok program → Left left file args settings budget images result left'
    → IfSome left (λ bytes. Rest (record { program = program; args = map string_bytes others; settings = settings; budget = budget }) bytes images result left')
known-left None file other args others settings budget images result left' program one two loads rests = tt
known-left (Some bytes) file other args others settings budget images result left' program one two loads rests =
    subst (λ a. Rest (record { program = program; args = map string_bytes a; settings = settings; budget = budget }) bytes images result left') two (rests program (ap program_of one ∙ loads))

pub returns-in-Ok-clause-left : goal.returns-in-Ok-clause-left
returns-in-Ok-clause-left g c =
    let left = g.S.Source.left c.args.input.now in
    let left' = g.S.Source.left c.repair.new.input in
    let accepted = c.args.accepted in
    mapped left _ _ (λ bytes is rest. ok-any c.finish.result (LeavesInput (Repairs (guest_as accepted) c.args.images (string_bytes c.args.to)) bytes left') (λ within. rest))
    (known-left left c.as_slice.result.now accepted.file.items c.as_slice-2.result.now accepted.args.items accepted.settings accepted.budget c.args.images (Ok c.in-Ok.repaired) left' accepted.program c.as_slice.ensures.value c.as_slice-2.ensures.value c.requires.may.loads c.in-Ok.ensures.left)

pub returns-in-Err-Mixed-clause-left : goal.returns-in-Err-Mixed-clause-left
returns-in-Err-Mixed-clause-left g c =
    let left = g.S.Source.left c.args.input.now in
    let left' = g.S.Source.left c.repair.new.input in
    let accepted = c.args.accepted in
    let rests = subst (λ why. Left left c.as_slice.result.now c.as_slice-2.result.now accepted.settings accepted.budget c.args.images (Err why) left') c.in-Err-Mixed.field-0-is c.in-Err-Mixed.ensures.left in
    mapped left _ _ (λ bytes is rest. ok-any c.told.result (LeavesInput (Repairs (guest_as accepted) c.args.images (string_bytes c.args.to)) bytes left') (λ within. rest))
    (known-left left c.as_slice.result.now accepted.file.items c.as_slice-2.result.now accepted.args.items accepted.settings accepted.budget c.args.images (Err Mixed) left' accepted.program c.as_slice.ensures.value c.as_slice-2.ensures.value c.requires.may.loads rests)

pub returns-in-Err-Run-Input-clause-left : goal.returns-in-Err-Run-Input-clause-left
returns-in-Err-Run-Input-clause-left g c =
    let before = held (g.O.Sink.held c.args.out.now) (g.E.Sink.held c.args.err.now) in
    let after = held (g.O.Sink.held c.repair.new.out) (g.E.Sink.held c.repair.new.err) in
    let left = g.S.Source.left c.args.input.now in
    let left' = g.S.Source.left c.repair.new.input in
    let accepted = c.args.accepted in
    let tells = subst (λ why. Tells left c.as_slice.result.now c.as_slice-2.result.now accepted.settings accepted.budget c.args.images (Err why) before after) (c.in-Err-Run-Input.field-0-is ∙ ap Run c.in-Err-Run-Input.field-0-0-is) c.in-Err-Run-Input.ensures.repairs in
    mapped left _ _ (λ bytes is comes. ok-any c.told-in-Err-Run-Input.result (LeavesInput (Repairs (guest_as accepted) c.args.images (string_bytes c.args.to)) bytes left')
    (λ within.
    let past = limit-past (guest_as accepted) c.args.images (string_bytes c.args.to) bytes c.images_isolate_one_table.ensures c.places_in_the_input_rise.ensures.places c.places_in_the_input_rise.ensures.limit before after comes in
    absurd (too-far (furthest (guest_as accepted) bytes c.args.images) past within)))
    (known left c.as_slice.result.now accepted.file.items c.as_slice-2.result.now accepted.args.items accepted.settings accepted.budget c.args.images (Err (Run refused.Input)) before after accepted.program c.as_slice.ensures.value c.as_slice-2.ensures.value c.requires.may.loads tells)
