-- Images lead to one plan.
use Rattle.std.proofs.Common.{◌≡◌, inl, inr, ℕ, List, [], ◌∷◌, length, Result, Ok, Err, Option, None, Some, IfSome, refl, sym, ◌∙◌, ap, arith}
use Rattle.ex_io.specs.Files.{FileMap}
use Rattle.layout_run.specs.Outside.{Held, held}
use Rattle.heap_image.specs.Agreement.{AreAlike, AreComparable, AreMixed, Differ}
use Rattle.heap_image.specs.Snapshot.{Snapshot}
use Rattle.heap_image.specs.declared.agreement.IsoRefusal.{IsoRefusal}
use Rattle.heap_image.specs.declared.agreement.IsoRefusal.TheVariants as why
use Rattle.iterate.specs.Isolated.{IsolatesOne}
use Rattle.culprits.specs.declared.isolated.Isolated.{Isolated}
use Rattle.exterm_cli.specs.Isolate.{IsIsolation, IsolatesAs, isolation, patches_of}
use Rattle.exterm_cli.specs.Plan.{Isolates, Plan, nothing}
use Rattle.exterm_cli.specs.Ends.{Printing}
use Rattle.exterm_cli.specs.Outside.{RaisesAs, faults}
use Rattle.exterm_cli.specs.Parts.{CutsFolder, CutsPrinted, Performs, PerformsOn, PerformsStage}
use Rattle.exterm_cli.specs.declared.cut.Cut.{Cut}
use Rattle.exterm_cli.specs.declared.cut.Cut.TheVariants as cut
use Rattle.exterm_cli.specs.declared.report.Verdict.{Verdict}
use Rattle.exterm_cli.proofs.Known.{appends-none}

not-alike : (a b : Snapshot) → AreAlike a b → Differ a b → ⊥
not-alike a b alike (inl tag) = tag alike.tag
not-alike a b alike (inr (inl place)) = place alike.place
not-alike a b alike (inr (inr (inl patches))) = patches alike.patches
not-alike a b alike (inr (inr (inr seed))) = alike.seeds seed

not-mixed : (images : List Snapshot) → AreComparable images → AreMixed images → ⊥
not-mixed [] alike (i, j, less, within, differ) = absurd (omega (arith, within))
not-mixed (image ∷ images) alike (i, j, less, within, differ) = not-alike _ _ (alike.alike i j image less within) (differ image)

module _ (one : IsolatesOne) (images : List Snapshot) where
  isolates-once : (a b : Result Isolated IsoRefusal) → IsolatesAs images a → IsolatesAs images b → a ≡ b
  isolates-once (Ok a) (Ok b) is also = ap Ok (one images (patches_of images) a b is also)
  isolates-once (Ok a) (Err why.Few) is also = let two = is.comparable.two in absurd (omega (arith, two, also))
  isolates-once (Ok a) (Err why.Mixed) is also = absurd (not-mixed images is.comparable also.1)
  isolates-once (Ok a) (Err why.Memory) is also = absurd also
  isolates-once (Err why.Few) (Ok b) is also = let two = also.comparable.two in absurd (omega (arith, two, is))
  isolates-once (Err why.Mixed) (Ok b) is also = absurd (not-mixed images also.comparable is.1)
  isolates-once (Err why.Memory) b is also = absurd is
  isolates-once (Err why.Few) (Err why.Few) is also = refl
  isolates-once (Err why.Few) (Err why.Mixed) is also = let two = also.0 in absurd (omega (arith, two, is))
  isolates-once (Err why.Few) (Err why.Memory) is also = absurd also
  isolates-once (Err why.Mixed) (Err why.Few) is also = let two = is.0 in absurd (omega (arith, two, also))
  isolates-once (Err why.Mixed) (Err why.Mixed) is also = refl
  isolates-once (Err why.Mixed) (Err why.Memory) is also = absurd also

  pub isolation-once : (to : Option (List ℕ)) (plan other : Plan) → IsIsolation images to plan → IsIsolation images to other → plan ≡ other
  isolation-once to plan other (a, is, planned) (b, also, others) = planned ∙ ap (isolation to (length images)) (isolates-once a b is also) ∙ sym others

-- ---- and it is done, or memory was wanting before it was made

module _ (one : IsolatesOne) (images : List Snapshot) (to : Option (List ℕ)) (result : Result Verdict Cut) (out out' : Option (List ℕ)) where
  pub isolation-performs : (plan : Plan) (known new : Option FileMap) → IsIsolation images to plan → IfSome known (λ files. (err : Option (List ℕ)) → Performs plan result (held out err) (held out' err) files new)
      → IfSome known (λ files. (err : Option (List ℕ)) → PerformsOn (Isolates images to) [] result (held out err) (held out' err) files new)
  isolation-performs plan None new is does = tt
  isolation-performs plan (Some files) new is does = λ err. inl (record { plan = plan; is = record { comes = is; only = λ other also. isolation-once one images to other plan also is }; performs = does err })

module _ (images : List Snapshot) (to : Option (List ℕ)) where
  none-part : (cause : Cut) (held : Held) (files : FileMap) → CutsFolder cause 0 0 → CutsPrinted (Isolates images to) [] (Err cause) held held files (Some files)
  none-part cut.Memory held files rose = record { most = nothing; at_most = refl; cause = cut.Memory; is = refl; part = record { point = Printing; out = []; err = []; printed = (([], refl), ([], refl)); on_out = appends-none held.out; on_err = appends-none held.err; keeps = refl }; printing = refl }
  none-part cut.File held files rose = absurd (omega (arith, rose))
  none-part cut.Input held files rose = absurd rose
  none-part cut.Output held files rose = absurd rose
  none-part cut.Error held files rose = absurd rose

  pub isolation-cut : (cause : Cut) (out : Option (List ℕ)) (known : Option FileMap) → CutsFolder cause 0 0 → IfSome known (λ files. (err : Option (List ℕ)) → PerformsOn (Isolates images to) [] (Err cause) (held out err) (held out err) files known)
  isolation-cut cause out None rose = tt
  isolation-cut cause out (Some files) rose = λ err. inr (none-part cause (held out err) files rose)

pub isolation-raises : (cause : Cut) (out files : ℕ) → CutsFolder cause 0 0 → (input err : ℕ) → RaisesAs {T = Verdict} (Err cause) (faults input out err files) (faults input out err files)
isolation-raises cut.Memory out files rose input err = (tt, refl)
isolation-raises cut.File out files rose input err = absurd (omega (arith, rose))
isolation-raises cut.Input out files rose input err = absurd rose
isolation-raises cut.Output out files rose input err = absurd rose
isolation-raises cut.Error out files rose input err = absurd rose

-- ---- whatever the input holds and is, it is left

module _ (images : List Snapshot) (to : Option (List ℕ)) (result : Result Verdict Cut) (left : Option (List ℕ)) (out out' err : Option (List ℕ)) where
  pub isolate-performs : (known new : Option FileMap) → IfSome known (λ files. (err : Option (List ℕ)) → PerformsOn (Isolates images to) [] result (held out err) (held out' err) files new)
      → IfSome known (λ files. PerformsStage (Isolates images to) result left left (held out err) (held out' err) files new)
  isolate-performs None new does = tt
  isolate-performs (Some files) new does = (does err, refl)
