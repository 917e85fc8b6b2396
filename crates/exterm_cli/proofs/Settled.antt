-- What is printed and written where words and files settle it.
use Rattle.std.proofs.Common.{◌≡◌, ℕ, List, [], Option, None, Some, Ok, Err, IfSome, refl, sym}
use Rattle.std.proofs.lemmas.List.{append-nil}
use Rattle.ex_io.specs.Files.{FileMap}
use Rattle.layout_run.specs.Outside.{held}
use Rattle.exterm_cli.specs.Ends.{Printing, Keeping}
use Rattle.exterm_cli.specs.Outside.{RaisesAs, faults}
use Rattle.exterm_cli.specs.Parts.{CutsFolder, CutsOut, KeepsPart, Performs, PutsPart}
use Rattle.exterm_cli.specs.Plan.{Plan}
use Rattle.exterm_cli.specs.declared.cut.Cut.{Cut}
use Rattle.exterm_cli.specs.declared.cut.Cut.TheVariants as why
use Rattle.exterm_cli.proofs.Known.{appends-none}

module _ (plan : Plan) (none : plan.err ≡ []) (out out' : Option (List ℕ)) where
  -- the bytes were not all printed
  cut-printing : (cut : Cut) (files : FileMap) (err : Option (List ℕ)) → PutsPart plan.out (Err cut) out out' → Performs plan (Err cut) (held out err) (held out' err) files (Some files)
  cut-printing why.Memory files err puts = record { point = Printing; out = puts.0; err = []; printed = (puts.1, (plan.err, refl)); on_out = puts.2; on_err = appends-none err; keeps = refl }
  cut-printing why.Output files err puts = record { point = Printing; out = puts.0; err = []; printed = (puts.1, (plan.err, refl)); on_out = puts.2; on_err = appends-none err; keeps = refl }
  cut-printing why.Input files err puts = absurd puts
  cut-printing why.Error files err puts = absurd puts
  cut-printing why.File files err puts = absurd puts

  pub not-printed : (cut : Cut) (known : Option FileMap) → PutsPart plan.out (Err cut) out out' → IfSome known (λ files. (err : Option (List ℕ)) → Performs plan (Err cut) (held out err) (held out' err) files known)
  not-printed cut None puts = tt
  not-printed cut (Some files) puts = λ err. cut-printing cut files err puts

  -- the file was not written
  cut-keeping : (cut : Cut) (files : FileMap) (new : Option FileMap) (err : Option (List ℕ)) → PutsPart plan.out (Ok tt) out out' → KeepsPart {T = Unit {0}} plan.file (Err cut) files new → Performs plan (Err cut) (held out err) (held out' err) files new
  cut-keeping why.Memory files new err puts keeps = record { point = Printing; out = plan.out; err = []; printed = (([], sym (append-nil plan.out)), (plan.err, refl)); on_out = puts; on_err = appends-none err; keeps = keeps }
  cut-keeping why.File files new err puts keeps = record { point = Keeping; out = plan.out; err = []; printed = (refl, sym none); on_out = puts; on_err = appends-none err; keeps = keeps }
  cut-keeping why.Input files new err puts keeps = absurd keeps
  cut-keeping why.Output files new err puts keeps = absurd keeps
  cut-keeping why.Error files new err puts keeps = absurd keeps

  pub not-kept : (cut : Cut) (known new : Option FileMap) → PutsPart plan.out (Ok tt) out out' → IfSome known (λ files. KeepsPart {T = Unit {0}} plan.file (Err cut) files new) → IfSome known (λ files. (err : Option (List ℕ)) → Performs plan (Err cut) (held out err) (held out' err) files new)
  not-kept cut None new puts keeps = tt
  not-kept cut (Some files) new puts keeps = λ err. cut-keeping cut files new err puts keeps

pub folder-raises : (T : Type 0) (cut : Cut) (out out' files files' : ℕ) → CutsFolder cut files files' → (input err : ℕ) → RaisesAs {T = T} (Err cut) (faults input out err files) (faults input out' err files')
folder-raises T why.Memory out out' files files' rose input err = (tt, refl)
folder-raises T why.File out out' files files' rose input err = (rose, refl)
folder-raises T why.Input out out' files files' rose input err = absurd rose
folder-raises T why.Output out out' files files' rose input err = absurd rose
folder-raises T why.Error out out' files files' rose input err = absurd rose

pub out-raises : (T : Type 0) (cut : Cut) (out out' files files' : ℕ) → CutsOut cut out out' → (input err : ℕ) → RaisesAs {T = T} (Err cut) (faults input out err files) (faults input out' err files')
out-raises T why.Memory out out' files files' rose input err = (tt, refl)
out-raises T why.Output out out' files files' rose input err = (rose, refl)
out-raises T why.Input out out' files files' rose input err = absurd rose
out-raises T why.Error out out' files files' rose input err = absurd rose
out-raises T why.File out out' files files' rose input err = absurd rose
