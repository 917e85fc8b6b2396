-- A run has one verdict.
use Rattle.std.proofs.Common.{◌≡◌, ℕ, zero, suc, ◌+◌, ◌-◌, ◌<◌, ◌≤◌, Bool, true, false, List, [], ◌∷◌, Some, Ok, Err, refl, sym, ap, subst, ◌∙◌, arith, ◌⊎◌, inl, inr, ⊎_elim}
use Rattle.std.specs.declared.result.Result.{Result}
use Rattle.infinite_heap.specs.declared.access.Access.{Access}
use Rattle.infinite_heap.specs.declared.access.Record.{Record}
use Rattle.infinite_heap.specs.declared.fault.Why.{Why}
use Rattle.infinite_heap.specs.Covered.{Cures, AllCovered, IsCoveredRun}
use Rattle.infinite_heap.specs.InfiniteRun.{InfEnding, InfBlur, inf_mapping, inf_run, inf_step_of, is_clear, is_clear_ending}
use Rattle.infinite_heap.specs.Objects.{Object}
use Rattle.blind_judge.specs.declared.verdict.Verdict.{Verdict}
use Rattle.blind_judge.specs.declared.verdict.Verdict.TheVariants.{Clear, Blur, Uncovered}
use Rattle.blind_judge.specs.declared.verdict.JudgeRefusal.{JudgeRefusal}
use Rattle.blind_judge.specs.declared.verdict.JudgeRefusal.TheVariants as refusal
use Rattle.blind_judge.specs.Steps.{IsFirstUncovered}
use Rattle.blind_judge.specs.Verdicts.{Case, Finds, FindsFirst, IsCoveredStep, IsSaid, Judges, OneVerdict, Passes, run_of}

not_covered : (cures : Cures) (objects : List Object) (records : List Record) (found : Record) → IsFirstUncovered cures objects records found → AllCovered cures objects records → ⊥
not_covered cures objects [] found first all = first
not_covered cures objects (r ∷ records) found first all = ⊎_elim (λ here. here.0 all.0) (λ later. not_covered cures objects records found later.1 all.1) first

one_first : (cures : Cures) (objects : List Object) (records : List Record) (f g : Record) → IsFirstUncovered cures objects records f → IsFirstUncovered cures objects records g → f ≡ g
one_first cures objects [] f g a b = absurd a
one_first cures objects (r ∷ records) f g a b =
    ⊎_elim
    (λ here. ⊎_elim (λ there. here.1 ∙ sym there.1) (λ later. absurd (here.0 later.0)) b)
    (λ later. ⊎_elim (λ there. absurd (there.0 later.0)) (λ also. one_first cures objects records f g later.1 also.1) b)
    a

last_or_before : (k n : ℕ) → k < suc n → (k ≡ n) ⊎ (k < n)
last_or_before k n less = search arith

covered_step : (c : Case) (n k : ℕ) → k < n → IsCoveredRun c.cures c.program c.args c.input c.zeroed n → IsCoveredStep c k
unfolding IsCoveredRun
covered_step c zero k less all = absurd (omega arith)
covered_step c (suc n) k less all =
    ⊎_elim
    (λ (here : k ≡ n). subst (IsCoveredStep c) (sym here) all.1)
    (λ (before : k < n). covered_step c n k before all.0)
    (last_or_before k n less)

next_of_ended : (c : Case) (n : ℕ) (e : InfEnding) → (run_of c n).ending ≡ Some e → run_of c (suc n) ≡ run_of c n
unfolding inf_run
next_of_ended c n e h = ap (inf_step_of (inf_mapping c.program c.args) c.program.names c.zeroed c.input (run_of c n)) h

stays_ended : (c : Case) (n k : ℕ) (e : InfEnding) → (run_of c n).ending ≡ Some e → (run_of c (k + n)).ending ≡ Some e
stays_ended c n zero e h = subst (λ m. (run_of c m).ending ≡ Some e) (omega arith) h
stays_ended c n (suc k) e h =
    let before = stays_ended c n k e h in
    subst (λ m. (run_of c m).ending ≡ Some e) (omega arith) (ap (λ run. run.ending) (next_of_ended c (k + n) e before) ∙ before)

blurred : (c : Case) (n m pc : ℕ) (why : Why) → suc n ≤ m → (run_of c (suc n)).ending ≡ Some (InfBlur why pc) → is_clear (run_of c m) ≡ false
blurred c n m pc why late h =
    let there : (run_of c m).ending ≡ Some (InfBlur why pc) =
    subst (λ k. (run_of c k).ending ≡ Some (InfBlur why pc)) (omega arith) (stays_ended c (suc n) (m - suc n) (InfBlur why pc) h) in
    ap is_clear_ending there

not_both : (b : Bool) → b ≡ true → b ≡ false → ⊥
not_both b t f = cc

-- a step with an answer isn't passed
stops : (c : Case) (n m : ℕ) (x : Result Verdict JudgeRefusal) → n < m → Passes c m → Finds c n x → ⊥
stops c n m (Ok Clear) less passes finds = finds
stops c n m (Ok (Uncovered access)) less passes finds = not_covered _ _ _ finds.0 finds.2 (covered_step c m n less passes.covered)
stops c n m (Ok (Blur pc why)) less passes finds = not_both (is_clear (run_of c m)) passes.clear (blurred c n m pc why less finds.1)
stops c n m (Err (refusal.Cells count)) less passes finds = let low = passes.cells n less in let high = finds.2 in omega arith
stops c n m (Err refusal.Input) less passes finds = finds
stops c n m (Err refusal.Source) less passes finds = finds
stops c n m (Err refusal.Memory) less passes finds = finds

-- a step has one answer
one_answer : (c : Case) (n : ℕ) (x y : Result Verdict JudgeRefusal) → Finds c n x → Finds c n y → x ≡ y
one_answer c n (Ok Clear) y f g = absurd f
one_answer c n (Err refusal.Input) y f g = absurd f
one_answer c n (Err refusal.Source) y f g = absurd f
one_answer c n (Err refusal.Memory) y f g = absurd f
one_answer c n x (Ok Clear) f g = absurd g
one_answer c n x (Err refusal.Input) f g = absurd g
one_answer c n x (Err refusal.Source) f g = absurd g
one_answer c n x (Err refusal.Memory) f g = absurd g
one_answer c n (Ok (Uncovered a)) (Ok (Uncovered b)) f g = ap (λ (access : Access). Ok (Uncovered access)) (f.1 ∙ ap (λ (r : Record). r.access) (one_first _ _ _ f.0 g.0 f.2 g.2) ∙ sym g.1)
one_answer c n (Ok (Uncovered a)) (Ok (Blur pc why)) f g = absurd (not_covered _ _ _ f.0 f.2 g.0)
one_answer c n (Ok (Uncovered a)) (Err (refusal.Cells count)) f g = absurd (not_covered _ _ _ f.0 f.2 g.0)
one_answer c n (Ok (Blur pc why)) (Ok (Uncovered a)) f g = absurd (not_covered _ _ _ g.0 g.2 f.0)
one_answer c n (Ok (Blur pc why)) (Ok (Blur pc' why')) f g =
    let e : Some (InfBlur why pc) ≡ Some (InfBlur why' pc') = sym f.1 ∙ g.1 in
    let p : pc ≡ pc' = cc in
    let w : why ≡ why' = cc in
    cc
one_answer c n (Ok (Blur pc why)) (Err (refusal.Cells count)) f g = absurd (not_both (is_clear (run_of c (suc n))) g.1 (ap is_clear_ending f.1))
one_answer c n (Err (refusal.Cells count)) (Ok (Uncovered a)) f g = absurd (not_covered _ _ _ g.0 g.2 f.0)
one_answer c n (Err (refusal.Cells count)) (Ok (Blur pc why)) f g = absurd (not_both (is_clear (run_of c (suc n))) f.1 (ap is_clear_ending g.1))
one_answer c n (Err (refusal.Cells count)) (Err (refusal.Cells count')) f g = ap (λ k. Err (refusal.Cells k)) (f.3 ∙ sym g.3)

-- an answer that says something is that of the first step that has one, or all steps are passed
told : (c : Case) (budget : ℕ) (x : Result Verdict JudgeRefusal) → IsSaid x → Judges c budget x → ((x ≡ Ok Clear) × Passes c budget) ⊎ FindsFirst c budget x
told c budget (Ok Clear) said judges = inl (refl, judges)
told c budget (Ok (Uncovered access)) said judges = inr judges
told c budget (Ok (Blur pc why)) said judges = inr judges
told c budget (Err (refusal.Cells count)) said judges = inr judges
told c budget (Err refusal.Input) said judges = absurd said
told c budget (Err refusal.Source) said judges = absurd said
told c budget (Err refusal.Memory) said judges = absurd said

three_ways : (a b : ℕ) → (a < b) ⊎ ((b < a) ⊎ (a ≡ b))
three_ways a b = search arith

one_first_answer : (c : Case) (budget : ℕ) (x y : Result Verdict JudgeRefusal) → FindsFirst c budget x → FindsFirst c budget y → x ≡ y
one_first_answer c budget x y f g =
    ⊎_elim
    (λ (less : f.at < g.at). absurd (stops c f.at g.at x less g.before f.finds))
    (λ more. ⊎_elim
    (λ (less : g.at < f.at). absurd (stops c g.at f.at y less f.before g.finds))
    (λ (same : f.at ≡ g.at). one_answer c g.at x y (subst (λ n. Finds c n x) same f.finds) g.finds)
    more)
    (three_ways f.at g.at)

pub one_verdict : OneVerdict
one_verdict c budget x y sx sy jx jy =
    ⊎_elim
    (λ clear. ⊎_elim
    (λ also. clear.0 ∙ sym also.0)
    (λ found. absurd (stops c found.at budget y found.within clear.1 found.finds))
    (told c budget y sy jy))
    (λ found. ⊎_elim
    (λ clear. absurd (stops c found.at budget x found.within clear.1 found.finds))
    (λ also. one_first_answer c budget x y found also)
    (told c budget y sy jy))
    (told c budget x sx jx)
