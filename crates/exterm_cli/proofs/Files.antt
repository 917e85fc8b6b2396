-- What is known of the files doesn't depend on the status, nor on the cause of a cut.
use Rattle.std.proofs.Common.{ℕ, Option, None, Some}
use Rattle.ex_io.specs.Files.{FileMap}
use Rattle.exterm_cli.specs.Answers.{Keeps}
use Rattle.exterm_cli.specs.Ends.{Point, Printing, Keeping, Reporting, Done, Stops}
use Rattle.exterm_cli.specs.Plan.{Kept}
use Rattle.exterm_cli.specs.declared.cut.Cut.{Cut}

module _ (old : FileMap) (new : Option FileMap) where
  pub keeps-done : (kept : Option Kept) (one other : ℕ) → Keeps kept (Done one) old new → Keeps kept (Done other) old new
  keeps-done None one other keeps = keeps
  keeps-done (Some kept) one other keeps = keeps

  pub keeps-reported : (kept : Option Kept) (status : ℕ) (cause answer : Cut) → Keeps kept (Done status) old new → Keeps kept (Stops Reporting cause answer) old new
  keeps-reported None status cause answer keeps = keeps
  keeps-reported (Some kept) status cause answer keeps = keeps

pub keeps-cut : (kept : Option Kept) (point : Point) (old : FileMap) (new : Option FileMap) (cause one other : Cut) → Keeps kept (Stops point cause one) old new → Keeps kept (Stops point cause other) old new
keeps-cut kept Printing old new cause one other keeps = keeps
keeps-cut None Keeping old new cause one other keeps = absurd keeps
keeps-cut (Some kept) Keeping old None cause one other keeps = absurd keeps
keeps-cut (Some kept) Keeping old (Some new) cause one other keeps = keeps
keeps-cut None Reporting old new cause one other keeps = keeps
keeps-cut (Some kept) Reporting old new cause one other keeps = keeps
