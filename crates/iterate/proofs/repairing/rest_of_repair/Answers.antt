use Rattle.std.proofs.Common.{◌≡◌, ◌<◌, ◌-◌, ◌∙◌, ap, arith, map, max, refl, string_bytes, subst, sym, IfSome, Ok, Vec, Global}
use Rattle.std.specs.List.{range_with_len}
use Rattle.ex_io.specs.Tape.{input, most_kept}
use Rattle.infinite_heap.specs.Elf.{program_of}
use Rattle.infinite_heap.specs.Loaded.{Loaded}
use Rattle.heap_image.specs.Snapshot.{Snapshot}
use Rattle.heap_image.specs.declared.image.Image.{Image}
use Rattle.layout_run.specs.Imaged.{with_image}
use Rattle.iterate.specs.Parts.{job_of}
use Rattle.iterate.specs.Reruns.{first_image, furthest, highest, printed_ran, rerun}
use Rattle.iterate.specs.declared.repairing.Repaired.{Repaired}
use Rattle.iterate.proofs.Cuts.{cuts_input_as, settles_cut}
use Rattle.iterate.proofs.Images.{image-is, images-are, printed-without}
use Rattle.iterate.proofs.Settled.{quiet, quiet-high, rerun-high, settled}
use Rattle.iterate.proofs.Whole.{at-some, each-some, mapped, refuses}
use Rattle.iterate.proofs.repairing.rest_of_repair.Goals as goal

pub returns-in_default-clause-settles : goal.returns-in_default-clause-settles
returns-in_default-clause-settles g c =
    each-some (input c.args.tape.now (g.S.Source.left c.args.input.now)) _ (λ bytes is. λ program loads ran fits.
    let job = job_of program (map string_bytes c.args.args.now) c.args.settings c.args.budget in
    let without = ap (λ o. with_image o c.args.ran) c.take-first.ensures.after ∙ printed-without job bytes c.args.ran ran in
    (quiet job bytes c.args.count _ without c.in_default.is refl refl, quiet-high job bytes c.args.count _ c.args.tape.now.high without c.in_default.is fits))

pub returns-in-Ok-clause-settles : goal.returns-in-Ok-clause-settles
returns-in-Ok-clause-settles g c =
    mapped (input c.args.tape.now (g.S.Source.left c.args.input.now)) _ _ (λ bytes is are. λ program loads ran fits.
    let job = job_of program (map string_bytes c.args.args.now) c.args.settings c.args.budget in
    let first = image-is c.args.ran (printed_ran job bytes) c.in-Some-first.first (first_image job bytes) ran (sym c.take-first.ensures.value ∙ c.in-Some-first.is) in
    let images = c.deref.ensures.value ∙ images-are job bytes c.args.count c.in-Some-first.first c.in-Ok.images.items first (are program loads) in
    let without = ap (λ o. with_image o c.args.ran) c.take-first.ensures.after ∙ printed-without job bytes c.args.ran ran in
    let read = at-some (input c.args.tape.now (g.S.Source.left c.args.input.now)) (λ b. (q : Loaded) → program_of c.args.file.now ≡ Ok q → c.images_from.new.tape.high ≡ max c.args.tape.now.high (highest (map (λ i. (rerun (job_of q (map string_bytes c.args.args.now) c.args.settings c.args.budget) b c.in-Some-first.first.place i).place) (range_with_len 1 (c.args.count - 1))))) bytes is c.in-Ok.ensures.high program loads in
    let high = read
    ∙ (λ k. max (fits k) (highest (map (λ i. (rerun job bytes (first k).place i).place) (range_with_len 1 (c.args.count - 1)))))
    ∙ rerun-high job bytes c.args.count _ c.in-Some.field-0 without c.in-Some.is in
    settled job bytes c.args.count c.deref.result.now _ c.in-Some.field-0 c.repaired_by.result c.images_from.new.tape.high images without c.in-Some.is c.repaired_by.ensures high) c.in-Ok.ensures.images

pub returns-clause-settles : goal.returns-clause-settles
returns-clause-settles g c =
    let args = map string_bytes c.args.args.now in
    let unread = input c.args.tape.now (g.S.Source.left c.args.input.now) in
    each-some unread _ (λ bytes is. λ program loads ran fits.
    let job = job_of program args c.args.settings c.args.budget in
    let first = image-is c.args.ran (printed_ran job bytes) c.in-Some-first.first (first_image job bytes) ran (sym c.take-first.ensures.value ∙ c.in-Some-first.is) in
    let without = ap (λ o. with_image o c.args.ran) c.take-first.ensures.after ∙ printed-without job bytes c.args.ran ran in
    settles_cut (Vec Image Global) job bytes c.args.count c.images_from.new.tape.high c.in-Err.refused c.args.tape.now
    (refuses (Vec Image Global) (Vec Image Global) c.in-Err.refused c.args.tape.now c.args.tape.now
    (IfSome unread (λ b. (q : Loaded) → program_of c.args.file.now ≡ Ok q → most_kept < highest (map (λ i. (rerun (job_of q args c.args.settings c.args.budget) b c.in-Some-first.first.place i).place) (range_with_len 1 (c.args.count - 1)))))
    (most_kept < furthest job bytes c.args.count)
    c.requires.whole
    (λ limit.
    let past = at-some unread (λ b. (q : Loaded) → program_of c.args.file.now ≡ Ok q → most_kept < highest (map (λ i. (rerun (job_of q args c.args.settings c.args.budget) b c.in-Some-first.first.place i).place) (range_with_len 1 (c.args.count - 1)))) bytes is limit program loads in
    let there = subst (λ (s : Snapshot). most_kept < highest (map (λ i. (rerun job bytes s.place i).place) (range_with_len 1 (c.args.count - 1)))) first past in
    let same = rerun-high job bytes c.args.count _ c.in-Some.field-0 without c.in-Some.is in
    omega (arith, there, same))
    c.in-Err.ensures.limit))

pub returns-clause-cause : goal.returns-clause-cause
returns-clause-cause g c = cuts_input_as (Vec Image Global) Repaired c.in-Err.refused (g.S.Source.faults c.args.input.now) (g.S.Source.faults c.images_from.new.input) c.in-Err.ensures.cause
