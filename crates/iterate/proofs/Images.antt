-- The images of a repair, one after the other.
use Rattle.std.proofs.Common.{◌≡◌, ℕ, ◌+◌, ◌-◌, ◌≤◌, List, [], ◌∷◌, ◌++◌, map, None, Some, Ok, sym, ap, ◌∙◌, arith}
use Rattle.std.specs.List.{range_with_len}
use Rattle.std.proofs.lemmas.List.FromFn.{map-range_with_len_more}
use Rattle.heap_image.specs.Snapshot.{Snapshot}
use Rattle.infinite_heap.specs.Elf.{program_of}
use Rattle.infinite_heap.specs.Loaded.{Loaded}
use Rattle.exact_heap.specs.declared.signal.Place.{Place}
use Rattle.rv_machine.specs.declared.settings.Settings.{Settings}
use Rattle.layout_run.specs.Imaged.{image_of_run, with_image}
use Rattle.layout_run.specs.declared.ran.Ran.{Ran}
use Rattle.iterate.specs.Reruns.{Job, first_image, images_of, printed_ran, rerun_image, reseeded, stop_number}
use Rattle.iterate.specs.Parts.{job_of}

pub more_images : (f : ℕ → Snapshot) (first : Snapshot) (old new : List Snapshot) (image : Snapshot) (i : ℕ) → 1 ≤ i
    → old ≡ first ∷ map f (range_with_len 1 (i - 1)) → image ≡ f i → new ≡ old ++ image ∷ [] → new ≡ first ∷ map f (range_with_len 1 (i + 1 - 1))
more_images f first old new image i from are is more =
    let here : 1 + (i - 1) ≡ i = omega arith in
    let next : (i - 1) + 1 ≡ i + 1 - 1 = omega arith in
    let grown : map f (range_with_len 1 ((i - 1) + 1)) ≡ map f (range_with_len 1 (i - 1)) ++ f i ∷ [] = map-range_with_len_more f 1 (i - 1) i here in
    more ∙ (λ k. are k ++ is k ∷ []) ∙ ap (λ xs. first ∷ xs) (sym grown) ∙ ap (λ n. first ∷ map f (range_with_len 1 n)) next

pub printed-without : (job : Job) (bytes : List ℕ) (ran : Ran) → ran ≡ with_image (Some (first_image job bytes)) (printed_ran job bytes) → with_image None ran ≡ printed_ran job bytes
printed-without job bytes ran is = ap (λ (x : Ran). with_image None x) is

same-some : (a b : Snapshot) → Some a ≡ Some b → a ≡ b
same-some a b e = cc

pub image-is : (ran other : Ran) (image s : Snapshot) → ran ≡ with_image (Some s) other → ran.image ≡ Some image → image ≡ s
image-is ran other image s is has = same-some image s (sym has ∙ ap (λ (x : Ran). x.image) is)

pub images-are : (job : Job) (bytes : List ℕ) (count : ℕ) (first : Snapshot) (images : List Snapshot) → first ≡ first_image job bytes → images ≡ first ∷ map (rerun_image job bytes first.place) (range_with_len 1 (count - 1)) → images ≡ images_of job bytes count
images-are job bytes count first images is are = are ∙ ap (λ (s : Snapshot). s ∷ map (rerun_image job bytes s.place) (range_with_len 1 (count - 1))) is

pub rerun-is : (program : Loaded) (args : List (List ℕ)) (settings : Settings) (budget : ℕ) (bytes : List ℕ) (place : Place) (i : ℕ) (other_settings : Settings) (call : ℕ) (ran other : Ran) (image : Snapshot)
    → other_settings ≡ reseeded i settings → call ≡ stop_number place → ran ≡ with_image (Some (image_of_run program args other_settings bytes (Some call) budget)) other → ran.image ≡ Some image
    → image ≡ rerun_image (job_of program args settings budget) bytes place i
rerun-is program args settings budget bytes place i other_settings call ran other image seeded stops is has =
    image-is ran other image (image_of_run program args other_settings bytes (Some call) budget) is has ∙ (λ k. image_of_run program args (seeded k) bytes (Some (stops k)) budget)

pub one_program : (file : List ℕ) (p q : Loaded) → program_of file ≡ Ok p → program_of file ≡ Ok q → p ≡ q
one_program file p q a b = cc
