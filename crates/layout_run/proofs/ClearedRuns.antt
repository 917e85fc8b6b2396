-- What a run that was carried out or cut short has of the run on the infinite heap.
use Rattle.std.proofs.Common.{◌≡◌, inl, inr, ℕ, zero, suc, ◌+◌, ◌-◌, ◌<◌, ◌≤◌, refl, ap, sym, ◌∙◌, subst, Bool, true, false, cond, arith, nat_eq, List, [], ◌++◌, Option, None, Some, Ok, Err}
use Rattle.std.specs.Prelude.{Result}
use Rattle.std.specs.Io.KnownBytes.{Appends}
use Rattle.std.proofs.lemmas.List.{append-nil}
use Rattle.ex_io.specs.Causes.{IsPrefix}
use Rattle.infinite_heap.specs.InfiniteRun.{InfRun, InfEnding, printed_on, inf_after, inf_mapping, inf_run, inf_step_of}
use Rattle.infinite_heap.specs.InfiniteState as inf
use Rattle.infinite_heap.specs.InfiniteState.{InfStep}
use Rattle.infinite_heap.specs.InfiniteStep.{inf_step}
use Rattle.infinite_heap.specs.Loaded.{Loaded}
use Rattle.infinite_heap.specs.Mapped.{Mapping}
use Rattle.infinite_heap.specs.declared.program.HeapName.{HeapName}
use Rattle.rv_machine.specs.declared.settings.Settings.{Settings}
use Rattle.rv_machine.specs.Flat.{Flat, flat_run}
use Rattle.layout_run.specs.Clear.{IsClearRun, ComesTo, EndsClear, ClearRunsMatch, RanAs, RunsClear}
use Rattle.layout_run.specs.Outside.{Held, held}
use Rattle.heap_image.specs.Snapshot.{Snapshot}
use Rattle.layout_run.specs.Imaged.{with_image}
use Rattle.layout_run.specs.Runs.{RunsAs}
use Rattle.layout_run.specs.Unstopped.{UnstoppedRunsAreFlatRuns}
use Rattle.layout_run.proofs.SoFar.{printed-by}
use Rattle.layout_run.proofs.Turned.{Grows as GrowsFlat}
use Rattle.layout_run.specs.Whole.{ran_of, run_until}
use Rattle.layout_run.specs.declared.ran.Ending.{Ending}
use Rattle.layout_run.specs.declared.ran.Ran.{Ran}
use Rattle.layout_run.specs.declared.ran.RunRefusal.{RunRefusal}
use Rattle.layout_run.proofs.Known.{front-trans, front-wider}

-- ---- what is printed grows

prefix-self : (xs : List ℕ) → IsPrefix xs xs
prefix-self xs = ([], sym (append-nil xs))

printed-grows : (descriptor fd : ℕ) (before bytes : List ℕ) → IsPrefix before (printed_on descriptor fd before bytes)
printed-grows descriptor fd before bytes = go (nat_eq fd descriptor)
  where
    go : (b : Bool) → IsPrefix before (cond b (before ++ bytes) before)
    go true = (bytes, refl)
    go false = prefix-self before

record Grows (run to : InfRun) : Type 0 where
  out : IsPrefix run.out to.out
  err : IsPrefix run.err to.err

grows-self : (run : InfRun) → Grows run run
grows-self run = record { out = prefix-self run.out; err = prefix-self run.err }

step-grows : (run : InfRun) (step : InfStep) → Grows run (inf_after run step)
step-grows run (inf.Goes s records) = record { out = prefix-self run.out; err = prefix-self run.err }
step-grows run (inf.Reads len s records) = record { out = prefix-self run.out; err = prefix-self run.err }
step-grows run (inf.Prints fd bytes s records) = record { out = printed-grows 1 fd run.out bytes; err = printed-grows 2 fd run.err bytes }
step-grows run (inf.Exits code s) = record { out = prefix-self run.out; err = prefix-self run.err }
step-grows run (inf.Faults kind records) = record { out = prefix-self run.out; err = prefix-self run.err }
step-grows run (inf.Blurs why records) = record { out = prefix-self run.out; err = prefix-self run.err }

next-grows : (p : Mapping) (names : List HeapName) (zeroed : Bool) (input : List ℕ) (run : InfRun) (e : Option InfEnding) → Grows run (inf_step_of p names zeroed input run e)
next-grows p names zeroed input run None = step-grows run (inf_step p names zeroed input run.state)
next-grows p names zeroed input run (Some ending) = grows-self run

grows-trans : (a b c : InfRun) → Grows a b → Grows b c → Grows a c
grows-trans a b c one two = record { out = front-trans a.out b.out c.out one.out two.out; err = front-trans a.err b.err c.err one.err two.err }

abbrev grown : (program : Loaded) (args : List (List ℕ)) (input : List ℕ) (zeroed : Bool) (n m : ℕ) → Type 0
grown program args input zeroed n m = Grows (inf_run program args input zeroed n) (inf_run program args input zeroed m)

run-grows : (program : Loaded) (args : List (List ℕ)) (input : List ℕ) (zeroed : Bool) (n k : ℕ) → grown program args input zeroed n (k + n)
unfolding inf_run
run-grows program args input zeroed n zero =
    let same : n ≡ 0 + n = omega arith in
    subst (grown program args input zeroed n) same (grows-self (inf_run program args input zeroed n))
run-grows program args input zeroed n (suc k) =
    let here : InfRun = inf_run program args input zeroed (k + n) in
    let same : suc (k + n) ≡ suc k + n = omega arith in
    subst (grown program args input zeroed n) same
    (grows-trans (inf_run program args input zeroed n) here (inf_run program args input zeroed (suc (k + n))) (run-grows program args input zeroed n k) (next-grows (inf_mapping program args) program.names zeroed input here here.ending))

-- what was printed by then is a prefix
grows-by : (program : Loaded) (args : List (List ℕ)) (input : List ℕ) (zeroed : Bool) (made budget : ℕ) → made < budget → grown program args input zeroed made budget
grows-by program args input zeroed made budget less =
    let same : (budget - made) + made ≡ budget = omega arith in
    subst (grown program args input zeroed made) same (run-grows program args input zeroed made (budget - made))

-- ---- a run

ran-as : (run : InfRun) (ending : Ending) (f : Flat) (image : Option Snapshot) (ran : Ran) (before after : Held) → ComesTo run ending f → ran ≡ with_image image (ran_of None f) → Appends before.out after.out f.out → Appends before.err after.err f.err → RanAs run ending ran before after
ran-as run ending f image ran before after comes is out err = record {
  is = ap (with_image None) is ∙ comes.ran;
  out = subst (Appends before.out after.out) comes.out out;
  err = subst (Appends before.err after.err) comes.err err;
}

module _ (program : Loaded) (args : List (List ℕ)) (settings : Settings) (input : List ℕ) (budget : ℕ) (f : Flat) (image : Option Snapshot) (before after : Held) where
  abbrev whole : InfRun
  whole = inf_run program args input settings.zero budget

  cut : EndsClear program args settings input budget f → Grows record { state = whole.state; out = f.out; err = f.err; records = whole.records; ending = whole.ending } whole
  cut (inl ends) = record { out = subst (λ out. IsPrefix out whole.out) (sym ends.comes.out) (prefix-self whole.out); err = subst (λ err. IsPrefix err whole.err) (sym ends.comes.err) (prefix-self whole.err) }
  cut (inr ends) =
      let grows = grows-by program args input settings.zero ends.made budget ends.within in record {
        out = subst (λ out. IsPrefix out whole.out) (sym ends.comes.out) grows.out;
        err = subst (λ err. IsPrefix err whole.err) (sym ends.comes.err) grows.err;
      }

  runs : EndsClear program args settings input budget f → (result : Result Ran RunRefusal) → RunsAs None f image result before after → RunsClear program args settings input budget result before after
  runs (inl ends) (Ok ran) (is, out, err) = inl (record { address = ends.address; runs = ran-as whole _ f image ran before after ends.comes is out err })
  runs (inr ends) (Ok ran) (is, out, err) = inr (record {
    made = ends.made;
    within = ends.within;
    used = ends.used;
    wanted = ends.wanted;
    meets = ends.meets;
    runs = ran-as (inf_run program args input settings.zero ends.made) _ f image ran before after ends.comes is out err;
  })
  runs ends (Err refused) (out, err, may) =
      let grows = cut ends in (front-wider before.out after.out f.out whole.out out grows.out, front-wider before.err after.err f.err whole.err err grows.err)

pub runs_clear : ClearRunsMatch → UnstoppedRunsAreFlatRuns → (program : Loaded) (args : List (List ℕ)) (settings : Settings) (input : List ℕ) (stop_at : Option ℕ) (budget : ℕ) (image : Option Snapshot) (result : Result Ran RunRefusal) (before after : Held)
    → RunsAs stop_at (run_until program args settings input stop_at budget) image result before after → stop_at ≡ None → IsClearRun program args settings input budget → RunsClear program args settings input budget result before after
runs_clear match unstopped program args settings input stop_at budget image result before after runs-as none clear =
    let there : RunsAs None (run_until program args settings input None budget) image result before after = subst (λ at. RunsAs at (run_until program args settings input at budget) image result before after) none runs-as in
    let flat : RunsAs None (flat_run program args settings input budget) image result before after = subst (λ f. RunsAs None f image result before after) (unstopped program args settings input budget) there in
    runs program args settings input budget (flat_run program args settings input budget) image before after (match program args settings input budget clear) result flat

pub prefixes : ClearRunsMatch → UnstoppedRunsAreFlatRuns → (program : Loaded) (args : List (List ℕ)) (settings : Settings) (input : List ℕ) (budget made : ℕ) → IsClearRun program args settings input budget → made ≤ budget
    → IsPrefix (run_until program args settings input None made).out (inf_run program args input settings.zero budget).out × IsPrefix (run_until program args settings input None made).err (inf_run program args input settings.zero budget).err
prefixes match unstopped program args settings input budget made clear less =
    let none : Held = held None None in
    let grows = subst (λ f. GrowsFlat (run_until program args settings input None made) f) (unstopped program args settings input budget) (printed-by program args settings input None made budget less) in
    let whole = cut program args settings input budget (flat_run program args settings input budget) None none none (match program args settings input budget clear) in
    (front-trans _ _ _ grows.0 whole.out, front-trans _ _ _ grows.1 whole.err)
