use Rattle.std.proofs.Common.{◌≡◌, ◌∷◌, ◌++◌, [], ◌∙◌, ◌+◌, ◌-◌, ◌<◌, ap, arith, length, length-append, map, max, refl, string_bytes, subst, IfSome, Some, Ok, Err, Vec, Global}
use Rattle.std.specs.List.{range_with_len}
use Rattle.ex_io.specs.Tape.{input, most_kept}
use Rattle.layout_run.specs.Advances.{CutsInput}
use Rattle.exact_heap.specs.declared.signal.Place.{Place}
use Rattle.heap_image.specs.Snapshot.{Snapshot}
use Rattle.heap_image.specs.declared.image.Image.{Image}
use Rattle.infinite_heap.specs.Elf.{program_of}
use Rattle.infinite_heap.specs.Loaded.{Loaded}
use Rattle.iterate.specs.Parts.{job_of}
use Rattle.iterate.specs.Reruns.{highest, rerun, rerun_image}
use Rattle.iterate.proofs.Cuts.{cuts_input_as}
use Rattle.iterate.proofs.Images.{more_images}
use Rattle.iterate.proofs.Places.{more-places, reached}
use Rattle.iterate.proofs.Whole.{at-some, each-some, mapped, refuses, same-on, same-start}
use Rattle.iterate.proofs.repairing.images_from.Goals as goal

pub rerun-requires-clause-whole : goal.rerun-requires-clause-whole
rerun-requires-clause-whole g c = c.loop-i.invariant.whole

pub loop-i-init : goal.loop-i-init
loop-i-init g c =
    let items : c.push.new.self.items ≡ c.args.first ∷ [] = c.in-Ok.ensures.items ∙ ap (λ xs. xs ++ c.args.first ∷ []) c.new-images.ensures.items in record {
      whole = c.requires.whole;
      same = same-start c.args.tape.now (g.S.Source.left c.args.input.now);
      faults = refl;
      place = ap (λ (s : Snapshot). s.place) c.first.view_is;
      count = ap length items;
      images = each-some (input c.args.tape.now (g.S.Source.left c.args.input.now)) _ (λ bytes is. λ program loads. items);
      high = each-some (input c.args.tape.now (g.S.Source.left c.args.input.now)) _ (λ bytes is. λ program loads. omega arith);
    }

pub loop-i-preserved : goal.loop-i-preserved
loop-i-preserved g c =
    let known = c.in-Ok-rerun.ensures {u = tt} in
    let items = c.in-Ok-push.ensures.items in
    let place : c.first.inside.place ≡ c.args.first.place = ap (λ (s : Snapshot). s.place) c.first.view_is in
    let longer : length (c.loop-i.images.items ++ c.in-Ok-rerun.image ∷ []) ≡ length c.loop-i.images.items + 1 = length-append c.loop-i.images.items (c.in-Ok-rerun.image ∷ []) in
    let counted : length c.push-in-loop-i.new.self.items ≡ length (c.loop-i.images.items ++ c.in-Ok-rerun.image ∷ []) = ap length items in record {
      whole = known.whole;
      same = same-on c.args.tape.now c.loop-i.tape c.rerun.new.tape (g.S.Source.left c.args.input.now) (g.S.Source.left c.loop-i.input) (g.S.Source.left c.rerun.new.input) c.loop-i.invariant.same known.same;
      faults = known.cause ∙ c.loop-i.invariant.faults;
      place = place;
      count = omega (arith, counted, longer, c.loop-i.invariant.count);
      images = mapped (input c.args.tape.now (g.S.Source.left c.args.input.now)) _ _ (λ bytes is are. λ program loads.
          let told = at-some (input c.args.tape.now (g.S.Source.left c.args.input.now)) (λ b. input c.loop-i.tape (g.S.Source.left c.loop-i.input) ≡ Some b) bytes is c.loop-i.invariant.same in
          more_images (rerun_image (job_of program (map string_bytes c.args.args.now) c.args.settings.now c.args.budget) bytes c.args.first.place) c.args.first c.loop-i.images.items c.push-in-loop-i.new.self.items c.in-Ok-rerun.image c.loop-i.i c.loop-i.auto.i (are program loads)
          (at-some (input c.loop-i.tape (g.S.Source.left c.loop-i.input)) (λ b. (q : Loaded) → program_of c.args.file.now ≡ Ok q → c.in-Ok-rerun.image ≡ rerun_image (job_of q (map string_bytes c.args.args.now) c.args.settings.now c.args.budget) b c.first.inside.place c.loop-i.i) bytes told known.image program loads
          ∙ ap (λ (p : Place). rerun_image (job_of program (map string_bytes c.args.args.now) c.args.settings.now c.args.budget) bytes p c.loop-i.i) place) items) c.loop-i.invariant.images;
      high = mapped (input c.args.tape.now (g.S.Source.left c.args.input.now)) _ _ (λ bytes is so. λ program loads.
          let job = job_of program (map string_bytes c.args.args.now) c.args.settings.now c.args.budget in
          let told = at-some (input c.args.tape.now (g.S.Source.left c.args.input.now)) (λ b. input c.loop-i.tape (g.S.Source.left c.loop-i.input) ≡ Some b) bytes is c.loop-i.invariant.same in
          let here = at-some (input c.loop-i.tape (g.S.Source.left c.loop-i.input)) (λ b. (q : Loaded) → program_of c.args.file.now ≡ Ok q → c.rerun.new.tape.high ≡ max c.loop-i.tape.high (rerun (job_of q (map string_bytes c.args.args.now) c.args.settings.now c.args.budget) b c.first.inside.place c.loop-i.i).place) bytes told known.high program loads in
          let same : (rerun job bytes c.first.inside.place c.loop-i.i).place ≡ (rerun job bytes c.args.first.place c.loop-i.i).place = ap (λ (p : Place). (rerun job bytes p c.loop-i.i).place) place in
          let more = more-places (λ i. (rerun job bytes c.args.first.place i).place) c.loop-i.i c.loop-i.auto.i in
          omega (arith, here, same, more, so program loads)) c.loop-i.invariant.high;
    }

pub returns-clause-images : goal.returns-clause-images
returns-clause-images g c =
    let same : c.loop-i.i ≡ c.args.count = omega (arith, c.loop-i-test.false, c.loop-i.auto.i-end c.requires.least) in
    mapped (input c.args.tape.now (g.S.Source.left c.args.input.now)) _ _ (λ bytes is are. λ program loads.
    are program loads ∙ ap (λ n. c.args.first ∷ map (rerun_image (job_of program (map string_bytes c.args.args.now) c.args.settings.now c.args.budget) bytes c.args.first.place) (range_with_len 1 (n - 1))) same) c.loop-i.invariant.images

pub returns-clause-count : goal.returns-clause-count
returns-clause-count g c =
    let same : c.loop-i.i ≡ c.args.count = omega (arith, c.loop-i-test.false, c.loop-i.auto.i-end c.requires.least) in
    c.loop-i.invariant.count ∙ same

pub returns-clause-high : goal.returns-clause-high
returns-clause-high g c =
    let same : c.loop-i.i ≡ c.args.count = omega (arith, c.loop-i-test.false, c.loop-i.auto.i-end c.requires.least) in
    mapped (input c.args.tape.now (g.S.Source.left c.args.input.now)) _ _ (λ bytes is so. λ program loads.
    so program loads
    ∙ ap (λ n. max c.args.tape.now.high (highest (map (λ i. (rerun (job_of program (map string_bytes c.args.args.now) c.args.settings.now c.args.budget) bytes c.args.first.place i).place) (range_with_len 1 (n - 1))))) same) c.loop-i.invariant.high

pub returns-in-Err-clause-limit : goal.returns-in-Err-clause-limit
returns-in-Err-clause-limit g c =
    let args = map string_bytes c.args.args.now in
    let unread = input c.args.tape.now (g.S.Source.left c.args.input.now) in
    let unread' = input c.loop-i.tape (g.S.Source.left c.loop-i.input) in
    let place : c.first.inside.place ≡ c.args.first.place = ap (λ (s : Snapshot). s.place) c.first.view_is in
    let less : c.loop-i.i < 1 + (c.args.count - 1) = omega (arith, c.loop-i-test.true) in
    refuses Snapshot (Vec Image Global) c.in-Err.refused c.args.tape.now c.loop-i.tape
    (IfSome unread' (λ bytes. (program : Loaded) → program_of c.args.file.now ≡ Ok program → most_kept < (rerun (job_of program args c.args.settings.now c.args.budget) bytes c.first.inside.place c.loop-i.i).place))
    (IfSome unread (λ bytes. (program : Loaded) → program_of c.args.file.now ≡ Ok program → most_kept < highest (map (λ i. (rerun (job_of program args c.args.settings.now c.args.budget) bytes c.args.first.place i).place) (range_with_len 1 (c.args.count - 1)))))
    c.requires.whole
    (λ limit. each-some unread _ (λ bytes is. λ program loads.
    let job = job_of program args c.args.settings.now c.args.budget in
    let told = at-some unread (λ b. unread' ≡ Some b) bytes is c.loop-i.invariant.same in
    let past = at-some unread' (λ b. (q : Loaded) → program_of c.args.file.now ≡ Ok q → most_kept < (rerun (job_of q args c.args.settings.now c.args.budget) b c.first.inside.place c.loop-i.i).place) bytes told limit program loads in
    let same : (rerun job bytes c.first.inside.place c.loop-i.i).place ≡ (rerun job bytes c.args.first.place c.loop-i.i).place = ap (λ (p : Place). (rerun job bytes p c.loop-i.i).place) place in
    let among = reached (λ i. (rerun job bytes c.args.first.place i).place) 1 (c.args.count - 1) c.loop-i.i c.loop-i.auto.i less in
    omega (arith, past, same, among)))
    c.in-Err.ensures.limit

pub returns-in-Err-clause-cause : goal.returns-in-Err-clause-cause
returns-in-Err-clause-cause g c = subst (λ n. CutsInput {T = Vec Image Global} (Err c.in-Err.refused) n (g.S.Source.faults c.rerun.new.input)) c.loop-i.invariant.faults (cuts_input_as Snapshot (Vec Image Global) c.in-Err.refused (g.S.Source.faults c.loop-i.input) (g.S.Source.faults c.rerun.new.input) c.in-Err.ensures.cause)
