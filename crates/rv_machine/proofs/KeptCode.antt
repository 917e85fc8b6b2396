-- Instructions that are kept decoded.
use Rattle.std.proofs.Common.{◌≡◌, ℕ, ◌/◌, ◌%◌, List, Option, None, Some, Ok, refl, sym, subst, ap, ◌∙◌}
use Rattle.std.specs.Prelude.{slice_get, IsSomeAnd}
use Rattle.std.specs.List.{All}
use Rattle.std.proofs.lemmas.List.Elements.{All-get_or}
use Rattle.std.proofs.lemmas.Option.{get_or_from_slice_get, slice_get_within}
use Rattle.infinite_heap.specs.declared.program.HeapName.{HeapName}
use Rattle.infinite_heap.specs.InfiniteHeap.{call_at}
use Rattle.rv_memory.specs.Access.{fetched}
use Rattle.rv_machine.specs.declared.decoded.Decoded.{Decoded}
use Rattle.rv_machine.specs.declared.decoded.Entry.{Entry}
use Rattle.rv_machine.specs.declared.fields.Fields.{Fields}
use Rattle.rv_machine.specs.Core.{Core}
use Rattle.rv_machine.specs.Fields.{fields_at}
use Rattle.rv_machine.specs.KeptCode.{AreNameless, IsKept}

with-entry : (P Q : Entry → Type 0) (R : Type 0) (xs : List Entry) (k : ℕ) (o : Option Entry) → o ≡ slice_get xs k → All P xs → IsSomeAnd o Q → ((e : Entry) → P e → Q e → R) → R
with-entry P Q R xs k None is all some use' = absurd some
with-entry P Q R xs k (Some e) is all some use' = use' e (subst P (get_or_from_slice_get xs k e e (sym is)) (All-get_or P xs k e (slice_get_within xs k e (sym is)) all)) some

-- no heap function stands where the instruction is kept
pub nameless-there : (names : List HeapName) (core : Core) (kept : Decoded) → core.pc % 4 ≡ 0 → AreNameless names kept → IsKept core kept → call_at names core.pc ≡ None
nameless-there names core kept aligned all is =
    with-entry (λ e. e.at % 4 ≡ 0 → call_at names e.at ≡ None) (λ e. (e.at ≡ core.pc) × (Ok e.word ≡ fetched core.memory core.pc)) (call_at names core.pc ≡ None)
    kept.entries.items (core.pc / 4 % 4096) (slice_get kept.entries.items (core.pc / 4 % 4096)) refl all is
    (λ e named there. subst (λ a. call_at names a ≡ None) there.0 (named (ap (λ a. a % 4) there.0 ∙ aligned)))

-- the fields that are kept are those of the word that stands there
pub record KeptWord (core : Core) (f : Fields) : Type 0 where
  pub word : ℕ
  pub there : Ok word ≡ fetched core.memory core.pc
  pub fields : Some f ≡ fields_at word

pub kept-word : (core : Core) (o : Option Entry) (f : Fields) → IsSomeAnd o (λ e. (e.at ≡ core.pc) × (Ok e.word ≡ fetched core.memory core.pc)) → IsSomeAnd o (λ e. f ≡ e.fields) → KeptWord core f
kept-word core None f there is = absurd there
kept-word core (Some e) f there is = record { word = e.word; there = there.1; fields = ap Some is ∙ sym e.right }
