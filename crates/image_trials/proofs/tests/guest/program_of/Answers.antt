use Rattle.std.proofs.Common.{◌≡◌, ◌+◌, ◌<◌, ◌≤◌, ℕ, zero, suc, false, true, List, [], ◌∷◌, length, length-take, take, refl, ap, ◌∙◌, arith}
use Rattle.std.specs.List.{All, AllPairs}
use Rattle.infinite_heap.specs.Lawful.{IsLawful, IsPlaced}
use Rattle.infinite_heap.specs.declared.program.HeapCall.TheVariants.{Malloc, Free, Calloc}
use Rattle.infinite_heap.specs.declared.program.HeapName.{HeapName}
use Rattle.infinite_heap.specs.declared.program.Segment.{Segment}
use Rattle.image_trials.proofs.tests.guest.program_of.Goals as goal

abbrev code_segment : List ℕ → Segment
code_segment code = record { from = 65536; len = 8192; bytes = code; writable = false; runs = true }

abbrev functions : List HeapName
functions = record { at = 65536; call = Malloc } ∷ record { at = 65540; call = Free } ∷ record { at = 65544; call = Calloc } ∷ []

placed : (code : List ℕ) → length code ≤ 8192 → All IsPlaced (code_segment code ∷ [])
placed code small zero d within = record { some = omega arith; low = omega arith; high = omega arith; held = small }
placed code small (suc k) d within = absurd (omega arith)

apart : (code : List ℕ) → AllPairs (λ (s t : Segment). s.from + s.len ≤ t.from) (code_segment code ∷ [])
apart code i j d lt within = absurd (omega arith)

rising : AllPairs (λ (m n : HeapName). m.at < n.at) functions
rising zero zero d lt within = absurd (omega arith)
rising zero (suc zero) d lt within = omega arith
rising zero (suc (suc zero)) d lt within = omega arith
rising zero (suc (suc (suc j))) d lt within = absurd (omega arith)
rising (suc zero) zero d lt within = absurd (omega arith)
rising (suc zero) (suc zero) d lt within = absurd (omega arith)
rising (suc zero) (suc (suc zero)) d lt within = omega arith
rising (suc zero) (suc (suc (suc j))) d lt within = absurd (omega arith)
rising (suc (suc i)) zero d lt within = absurd (omega arith)
rising (suc (suc i)) (suc zero) d lt within = absurd (omega arith)
rising (suc (suc i)) (suc (suc j)) d lt within = absurd (omega arith)

lawful : (segments : List Segment) (names : List HeapName) (code : List ℕ) (tag : ℕ) → segments ≡ code_segment code ∷ [] → names ≡ functions → length code ≤ 8192 → IsLawful (record { segments = segments; entry = 65548; names = names; tag = tag })
lawful segments names code tag is names-are small =
    let whole : IsLawful (record { segments = code_segment code ∷ []; entry = 65548; names = functions; tag = tag }) = record {
      placed = placed code small;
      apart = apart code;
      total = omega arith;
      aligned = refl;
      entered = (zero, code_segment code, omega arith, refl, record { runs = refl; low = omega arith; high = omega arith });
      rising = rising;
    } in
    rw (is, names-are) whole

pub invariant_of-result : goal.invariant_of-result
invariant_of-result c =
    let same : length c.new.result ≡ length c.truncate.new.self.items = ap length c.new.ensures in
    let cut : length c.truncate.new.self.items ≡ length (take 8192 c.loop-word.bytes.items) = ap length c.truncate.ensures.items in
    lawful c.new-2.result c.new-3.result c.new.result c.from.result (c.new-2.ensures ∙ (c.in_ok-vec.ensures {u = tt}).items) (c.new-3.ensures ∙ (c.in_ok-vec-2.ensures {u = tt}).items) (omega (arith, same, cut, length-take 8192 c.loop-word.bytes.items))
