-- What was printed stays where a call then tells that its input is too long.
use Rattle.std.proofs.Common.{ℕ, List, [], Some, refl, sym, ap}
use Rattle.std.proofs.lemmas.List.{append-nil}
use Rattle.std.specs.Io.KnownBytes.{Appends}
use Rattle.ex_io.specs.Files.{FileMap}
use Rattle.layout_run.specs.Outside.{Held}
use Rattle.exterm_cli.specs.Ends.{Printing}
use Rattle.exterm_cli.specs.Parts.{Performs, Refuses, verdict_in}
use Rattle.exterm_cli.specs.Plan.{Plan}
use Rattle.exterm_cli.specs.Refusals.{long_input}
use Rattle.exterm_cli.specs.declared.cut.Cut.TheVariants as why
use Rattle.exterm_cli.specs.declared.cut.Stop.{Stop}
use Rattle.exterm_cli.specs.declared.cut.Stop.TheVariants as stop

module _ (before after : Held) (files : FileMap) (out err : List ℕ) where
  pub long-told : (told : Stop) → Refuses long_input told → Appends before.out after.out out → Appends before.err after.err err → Performs (record long_input { out = out; err = err }) (verdict_in told) before after files (Some files)
  long-told (stop.Refused verdict) is on-out on-err = record { status = ap (λ (p : Plan). p.status) (sym is); report = ap (λ (p : Plan). p.report) (sym is); on_out = on-out; on_err = on-err; keeps = refl }
  long-told (stop.CutShort why.Memory) is on-out on-err = record { point = Printing; out = out; err = err; printed = (([], sym (append-nil out)), ([], sym (append-nil err))); on_out = on-out; on_err = on-err; keeps = refl }
  long-told (stop.CutShort why.Input) is on-out on-err = absurd is
  long-told (stop.CutShort why.Output) is on-out on-err = absurd is
  long-told (stop.CutShort why.Error) is on-out on-err = absurd is
  long-told (stop.CutShort why.File) is on-out on-err = absurd is
