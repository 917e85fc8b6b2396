-- The next steps of the two machines match.
use Rattle.std.proofs.Common.{◌≡◌, ℕ, zero, suc, ◌+◌, ◌*◌, ◌%◌, ◌^◌, ◌<◌, ◌≤◌, refl, ap, sym, ◌∙◌, subst, Bool, true, false, cond, arith, List, [], ◌∷◌, Option, None, Some, is_some, w32}
use Rattle.std.specs.Prelude.{All, IfSome, ℤ, pos, negsuc, ◌<ℤ◌}
use Rattle.std.specs.Int.{from_le_bytes}
use Rattle.std.proofs.lemmas.Int.{ints}
use Rattle.infinite_heap.specs.declared.fault.FaultKind.{FaultKind}
use Rattle.infinite_heap.specs.declared.fault.FaultKind.TheVariants as fault
use Rattle.infinite_heap.specs.declared.fault.Why.{Why}
use Rattle.infinite_heap.specs.declared.fault.Why.TheVariants as why
use Rattle.infinite_heap.specs.declared.instr.Instr.{Instr}
use Rattle.infinite_heap.specs.declared.instr.Instr.TheVariants as instr
use Rattle.infinite_heap.specs.declared.instr.Op.{Op}
use Rattle.infinite_heap.specs.declared.instr.Op.TheVariants as op
use Rattle.infinite_heap.specs.declared.instr.Operation.{Operation}
use Rattle.infinite_heap.specs.declared.instr.Operation.TheVariants.{Add}
use Rattle.infinite_heap.specs.declared.program.HeapCall.{HeapCall}
use Rattle.infinite_heap.specs.declared.program.HeapName.{HeapName}
use Rattle.infinite_heap.specs.declared.value.Value.{Value}
use Rattle.infinite_heap.specs.declared.value.Value.TheVariants.{Num, Ptr, Mix, Low}
use Rattle.infinite_heap.specs.Alu.{alu}
use Rattle.infinite_heap.specs.Calls.{after_jal}
use Rattle.infinite_heap.specs.InfiniteHeap.{call_at}
use Rattle.infinite_heap.specs.InfiniteState as inf
use Rattle.infinite_heap.specs.InfiniteState.{InfState, InfStep, cells_of_state, clock_of, after}
use Rattle.infinite_heap.specs.InfiniteStep.{imm_word, decide, inf_operate, inf_system, inf_do, inf_decoded, inf_word, inf_fetch, inf_step_at, inf_step}
use Rattle.infinite_heap.specs.InfiniteSystem.{all_in}
use Rattle.infinite_heap.specs.InRange.{IsInRange, HoldsImm}
use Rattle.infinite_heap.specs.Layout.{Layout, IsLayout, Stands, AllStand}
use Rattle.infinite_heap.specs.Lift.{lift}
use Rattle.infinite_heap.specs.Mapped.{Mapping}
use Rattle.infinite_heap.specs.Memory.{get_all, value_from, word_from}
use Rattle.infinite_heap.specs.Values.{word_of}
use Rattle.infinite_heap.specs.Objects.{alignment_in, size_in}
use Rattle.infinite_heap.specs.Operations.{operation_of}
use Rattle.infinite_heap.specs.Region.{in_region}
use Rattle.infinite_heap.specs.Row.{row}
use Rattle.rv_memory.specs.Memory.{Memory, span, with_first, code_at}
use Rattle.rv_memory.specs.Laws.{span-none}
use Rattle.rv_machine.specs.Core as flat
use Rattle.rv_machine.specs.Core.{Core, Next, register}
use Rattle.rv_machine.specs.Laws.{StepsMatch}
use Rattle.rv_machine.specs.Matches.{IsOutside, MapsAlike, StateMatches, StepMatches, bytes_in}
use Rattle.rv_machine.specs.Steps.{holds, operate, system, executed, decoded, fetched, next, next_of}
use Rattle.rv_machine.proofs.Spanned.{two_ways, clash, all_in-same, all_in-each, span-all}
use Rattle.rv_machine.proofs.Stepped.{next_matches, passes, branch_matches, decide_holds, link_matches, jalr_matches, load_matches, store_does, spot}
use Rattle.rv_machine.proofs.Called.{ecall_matches}
use Rattle.rv_machine.specs.Facts.{Facts}
use Rattle.rv_machine.proofs.Loaded.{loaded_stands}

-- ---- immediates are words

pub imm-fits : (z : ℤ) (high : ℕ) → z <ℤ pos high → high ≤ 2 ^ 32 → imm_word z < 2 ^ 32
imm-fits (pos n) high h k = omega (arith, ints)
imm-fits (negsuc n) high h k = omega arith

pub held-fits : (o : Op) (imm : ℤ) → HoldsImm o imm → imm_word imm < 2 ^ 32
held-fits op.Addi imm h = imm-fits imm 2048 h.1 (omega arith)
held-fits op.Slti imm h = imm-fits imm 2048 h.1 (omega arith)
held-fits op.Sltiu imm h = imm-fits imm 2048 h.1 (omega arith)
held-fits op.Xori imm h = imm-fits imm 2048 h.1 (omega arith)
held-fits op.Ori imm h = imm-fits imm 2048 h.1 (omega arith)
held-fits op.Andi imm h = imm-fits imm 2048 h.1 (omega arith)
held-fits op.Slli imm h = imm-fits imm 32 h.1 (omega arith)
held-fits op.Srli imm h = imm-fits imm 32 h.1 (omega arith)
held-fits op.Srai imm h = imm-fits imm 32 h.1 (omega arith)
held-fits _ imm h = absurd h

-- ---- one instruction

operate_matches : Facts → (l : Layout) → IsLayout l → (p : Mapping) (input : List ℕ) (s : InfState) (t : Core) → StateMatches l p s t → (rd : ℕ) → rd < 32 → (o : Option Operation) (x y : Value) (a b : ℕ) → a < 2 ^ 32 → b < 2 ^ 32 → Stands l x a → Stands l y b
    → StepMatches l p input s t (inf_operate s rd o x y) (operate t rd o a b)
operate_matches laws l il p input s t m rd hr (Some o) x y a b ha hb h k = λ u. (next_matches l p s t m rd (lift (alignment_in s.objects) o x y) (alu o a b) hr (laws.lift l il.aligned (alignment_in s.objects) m.aligned o x y a b ha hb h k) (laws.words o a b ha hb), refl, refl)
operate_matches laws l il p input s t m rd hr None x y a b ha hb h k = λ u. refl

system_matches : Facts → (l : Layout) → IsLayout l → (p : Mapping) (input : List ℕ) → All (λ b. b < 256) input → (s : InfState) (t : Core) → StateMatches l p s t → (o : Op) → StepMatches l p input s t (inf_system p input s o) (system t o)
system_matches laws l il p input all s t m op.Ecall = ecall_matches laws l il p input all s t m (s.regs 17) (register t 17) (m.regs 17 (omega arith))
system_matches laws l il p input all s t m op.Ebreak = λ u. refl
system_matches laws l il p input all s t m op.Fence = λ u. (passes l p s t m, refl, refl)
system_matches laws l il p input all s t m op.FenceI = λ u. (passes l p s t m, refl, refl)
system_matches laws l il p input all s t m _ = λ u. refl

do_matches : Facts → (l : Layout) → IsLayout l → (p : Mapping) (input : List ℕ) → All (λ b. b < 256) input → (s : InfState) (t : Core) → StateMatches l p s t → (i : Instr) → IsInRange i → StepMatches l p input s t (inf_do p input s i) (executed t i)
do_matches laws l il p input all s t m (instr.Alu o rd rs1 rs2) (named, hd, h1, h2) =
    operate_matches laws l il p input s t m rd hd (operation_of o) (s.regs rs1) (s.regs rs2) (register t rs1) (register t rs2) (m.fits rs1 h1) (m.fits rs2 h2) (m.regs rs1 h1) (m.regs rs2 h2)
do_matches laws l il p input all s t m (instr.AluImm o rd rs1 imm) (hd, h1, held) =
    operate_matches laws l il p input s t m rd hd (operation_of o) (s.regs rs1) (Num (imm_word imm)) (register t rs1) (imm_word imm) (m.fits rs1 h1) (held-fits o imm held) (m.regs rs1 h1) refl
do_matches laws l il p input all s t m (instr.Lui rd top) (hd, ht) = λ u. (next_matches l p s t m rd (Num (top * 4096)) (top * 4096) hd refl (omega arith), refl, refl)
do_matches laws l il p input all s t m (instr.Auipc rd top) (hd, ht) =
    λ u. (next_matches l p s t m rd (Num ((s.pc + top * 4096) % 2 ^ 32)) ((t.pc + top * 4096) % 2 ^ 32) hd (ap (λ (x : ℕ). (x + top * 4096) % 2 ^ 32) (sym m.pc)) (omega arith), refl, refl)
do_matches laws l il p input all s t m (instr.Jal rd imm) (hd, within) =
    link_matches l p input s t m rd hd (after_jal rd (after s.pc) s.calls) (after_jal rd (after t.pc) t.calls)
    (ap (λ (x : ℕ). after_jal rd (after x) s.calls) m.pc ∙ ap (after_jal rd (after t.pc)) m.calls) ((s.pc + imm_word imm) % 2 ^ 32) ((t.pc + imm_word imm) % 2 ^ 32) (ap (λ (x : ℕ). (x + imm_word imm) % 2 ^ 32) m.pc) (omega arith)
do_matches laws l il p input all s t m (instr.Jalr rd rs1 imm) (hd, h1, within) =
    let w : imm_word imm < 2 ^ 32 = imm-fits imm 2048 within.1 (omega arith) in
    jalr_matches l p input s t m rd rs1 hd (lift (alignment_in s.objects) Add (s.regs rs1) (Num (imm_word imm))) (alu Add (register t rs1) (imm_word imm)) (laws.words Add (register t rs1) (imm_word imm) (m.fits rs1 h1) w)
    (laws.lift l il.aligned (alignment_in s.objects) m.aligned Add (s.regs rs1) (Num (imm_word imm)) (register t rs1) (imm_word imm) (m.fits rs1 h1) w (m.regs rs1 h1) refl)
do_matches laws l il p input all s t m (instr.Branch o rs1 rs2 imm) (named, h1, h2, within) =
    branch_matches l p input s t m (imm_word imm) (decide (size_in s.objects) o (s.regs rs1) (s.regs rs2)) (holds o (register t rs1) (register t rs2))
    (decide_holds laws l il (size_in s.objects) (clock_of s) s.pc o (s.regs rs1) (s.regs rs2) (register t rs1) (register t rs2) (m.fits rs1 h1) (m.fits rs2 h2) (m.regs rs1 h1) (m.regs rs2 h2))
do_matches laws l il p input all s t m (instr.Load o rd rs1 imm) (named, hd, h1, within) =
    let w : imm_word imm < 2 ^ 32 = imm-fits imm 2048 within.1 (omega arith) in
    load_matches laws l il p input s t m o named rd hd (lift (alignment_in s.objects) Add (s.regs rs1) (Num (imm_word imm))) (alu Add (register t rs1) (imm_word imm)) (laws.words Add (register t rs1) (imm_word imm) (m.fits rs1 h1) w)
    (laws.lift l il.aligned (alignment_in s.objects) m.aligned Add (s.regs rs1) (Num (imm_word imm)) (register t rs1) (imm_word imm) (m.fits rs1 h1) w (m.regs rs1 h1) refl)
do_matches laws l il p input all s t m (instr.Store o rs1 rs2 imm) (named, h1, h2, within) =
    let w : imm_word imm < 2 ^ 32 = imm-fits imm 2048 within.1 (omega arith) in
    store_does laws l il p input s t m o named (s.regs rs2) (register t rs2) (m.regs rs2 h2) (lift (alignment_in s.objects) Add (s.regs rs1) (Num (imm_word imm))) (alu Add (register t rs1) (imm_word imm)) (laws.words Add (register t rs1) (imm_word imm) (m.fits rs1 h1) w)
    (laws.lift l il.aligned (alignment_in s.objects) m.aligned Add (s.regs rs1) (Num (imm_word imm)) (register t rs1) (imm_word imm) (m.fits rs1 h1) w (m.regs rs1 h1) refl)
do_matches laws l il p input all s t m (instr.System o) named = system_matches laws l il p input all s t m o

-- a relation of two steps that holds of each blur, of two faults of one kind, and of each instruction
pub record HoldsOfEach (p : Mapping) (input : List ℕ) (s : InfState) (t : Core) (R : InfStep → Next → Type 0) : Type 0 where
  pub blurs : (why : Why) (n : Next) → R (inf.Blurs why []) n
  pub faults : (kind : FaultKind) (address : ℕ) → R (inf.Faults kind []) (flat.Faults kind address)
  pub does : (i : Instr) → IsInRange i → R (inf_do p input s i) (executed t i)

decoded_holds : (p : Mapping) (input : List ℕ) (s : InfState) (t : Core) (R : InfStep → Next → Type 0) → HoldsOfEach p input s t R → (o : Option Instr) → IfSome o IsInRange → R (inf_decoded p input s o) (decoded t o)
decoded_holds p input s t R each None h = each.faults fault.Illegal t.pc
decoded_holds p input s t R each (Some i) h = each.does i h

-- ---- the fetch

le_word : (a b c d : ℕ) → from_le_bytes w32 (a ∷ b ∷ c ∷ d ∷ []) ≡ word_of a b c d
le_word a b c d = omega arith

word_holds : Facts → (l : Layout) → (p : Mapping) (input : List ℕ) (s : InfState) (t : Core) (R : InfStep → Next → Type 0) → HoldsOfEach p input s t R → (v : Value) (w : ℕ) → Stands l v w → R (inf_word p input s v) (decoded t (row w))
word_holds laws l p input s t R each (Num n) w is = subst (λ (x : ℕ). R (inf_word p input s (Num x)) (decoded t (row w))) is (decoded_holds p input s t R each (row w) (laws.rows w))
word_holds laws l p input s t R each (Ptr o d) w is = each.blurs why.Fetch (decoded t (row w))
word_holds laws l p input s t R each (Mix a b c d) w is = each.blurs why.Fetch (decoded t (row w))
word_holds laws l p input s t R each (Low b) w is = each.blurs why.Fetch (decoded t (row w))

runs-alike : (l : Layout) (p : Mapping) → IsOutside p → (memory : Memory) → MapsAlike l p memory → (x : ℕ) → p.runs x ≡ memory.runs x
runs-alike l p out memory m x = two_ways (in_region x) (λ b. in_region x ≡ b → p.runs x ≡ memory.runs x) (λ e r. (out x r).2 ∙ sym (m.heap_runs x r)) (λ e r. sym (m.runs x r)) refl

code-there : (memory : Memory) (x : ℕ) → (memory.runs x ≡ true → is_some (memory.bytes x) ≡ true) → is_some (code_at memory x) ≡ memory.runs x
code-there memory x h = two_ways (memory.runs x) (λ b. is_some (cond b (memory.bytes x) None) ≡ b) h (λ e. refl)

code-same : (memory : Memory) (x n : ℕ) → ((y : ℕ) → x ≤ y → y < x + n → memory.runs y ≡ true) → span (code_at memory) x n ≡ span memory.bytes x n
code-same memory x zero h = refl
code-same memory x (suc n) h =
    let first : code_at memory x ≡ memory.bytes x = ap (λ (b : Bool). cond b (memory.bytes x) None) (h x (omega arith) (omega arith)) in
    let others : span (code_at memory) (x + 1) n ≡ span memory.bytes (x + 1) n = code-same memory (x + 1) n (λ y low high. h y (omega arith) (omega arith)) in
    ap (λ (b : Option ℕ). with_first b (span (code_at memory) (x + 1) n)) first ∙ ap (λ (r : Option (List ℕ)). with_first (memory.bytes x) r) others

-- both fetch one instruction
fetch_holds : Facts → (l : Layout) (p : Mapping) → IsOutside p → (input : List ℕ) (s : InfState) (t : Core) → StateMatches l p s t → (R : InfStep → Next → Type 0) → HoldsOfEach p input s t R → R (inf_fetch p input s) (fetched t (span (code_at t.memory) t.pc 4))
fetch_holds laws l p out input s t m R every = two_ways (all_in p.runs s.pc 4) (λ b. R (cond b (inf_word p input s (value_from false (get_all s.flat s.pc 4))) (inf.Faults fault.Fetch [])) (fetched t (span (code_at t.memory) t.pc 4)))
    (λ e. let each : (y : ℕ) → t.pc ≤ y → y < t.pc + 4 → t.memory.runs y ≡ true = λ y low high. sym (alike y) ∙ all_in-each p.runs t.pc 4 (ap (λ (x : ℕ). all_in p.runs x 4) (sym m.pc) ∙ e) y low high in
    let there : (y : ℕ) → t.pc ≤ y → y < t.pc + 4 → is_some (t.memory.bytes y) ≡ true = λ y low high. m.maps.bounded.runs_mapped y (each y low high) in
    let ends : t.pc + 4 ≤ 2 ^ 32 = let h : t.pc + 3 < 2 ^ 32 = m.maps.bounded.low (t.pc + 3) (there (t.pc + 3) (omega arith) (omega arith)) in omega arith in
    let far : (y : ℕ) → t.pc ≤ y → y < t.pc + 4 → in_region y ≡ false = λ y low high. two_ways (in_region y) (λ b. in_region y ≡ b → in_region y ≡ false) (λ z r. absurd (clash (each y low high) (m.maps.heap_runs y r))) (λ z r. r) refl in
    let whole : span (code_at t.memory) t.pc 4 ≡ Some (get_all (bytes_in t.memory) t.pc 4) = code-same t.memory t.pc 4 each ∙ span-all t.memory.bytes t.pc 4 ends there in
    let stood : AllStand l (get_all s.flat s.pc 4) (get_all (bytes_in t.memory) t.pc 4) = subst (λ (x : ℕ). AllStand l (get_all s.flat x 4) (get_all (bytes_in t.memory) t.pc 4)) (sym m.pc)
    (laws.outside_loads l (cells_of_state s) (bytes_in t.memory) m.memory t.pc 4 m.pc_fits (spot t.pc 4 (λ x. in_region x ≡ false) ends far)) in
    subst (λ (found : Option (List ℕ)). R (inf_word p input s (value_from false (get_all s.flat s.pc 4))) (fetched t found)) (sym whole)
    (subst (λ (w : ℕ). R (inf_word p input s (value_from false (get_all s.flat s.pc 4))) (decoded t (row w))) (sym (le_word _ _ _ _))
    (word_holds laws l p input s t R every (value_from false (get_all s.flat s.pc 4)) (word_from false (get_all (bytes_in t.memory) t.pc 4)) (loaded_stands laws l false stood).0)))
    (λ e. let gone : span (code_at t.memory) t.pc 4 ≡ None = span-none (code_at t.memory) t.pc 4
    (sym (all_in-same p.runs (λ y. is_some (code_at t.memory y)) t.pc 4 (λ y low high. alike y ∙ sym (code-there t.memory y (m.maps.bounded.runs_mapped y)))) ∙ (ap (λ (x : ℕ). all_in p.runs x 4) (sym m.pc) ∙ e)) in
    subst (λ (found : Option (List ℕ)). R (inf.Faults fault.Fetch []) (fetched t found)) (sym gone) (every.faults fault.Fetch t.pc))
  where
    alike : (y : ℕ) → p.runs y ≡ t.memory.runs y
    alike y = runs-alike l p out t.memory m.maps y

-- so does the step of a guest that goes on, where pc is at no heap function
pub step_holds : Facts → (l : Layout) (p : Mapping) → IsOutside p → (input : List ℕ) (names : List HeapName) (zeroed : Bool) (s : InfState) (t : Core) → StateMatches l p s t → t.ended ≡ None → call_at names s.pc ≡ None
    → (R : InfStep → Next → Type 0) → HoldsOfEach p input s t R → R (inf_step p names zeroed input s) (next t)
step_holds laws l p out input names zeroed s t m live none R each =
    subst (λ (e : Option _). R (inf_step p names zeroed input s) (next_of t e)) (sym live)
    (subst (λ (f : Option HeapCall). R (inf_step_at p zeroed input s f) (fetched t (span (code_at t.memory) t.pc 4))) (sym none) (fetch_holds laws l p out input s t m R each))

pub step_matches : Facts → StepsMatch
step_matches laws l il p out input all names zeroed s t m live none = step_holds laws l p out input names zeroed s t m live none (StepMatches l p input s t) (record {
  blurs = λ why n. tt;
  faults = λ kind address u. refl;
  does = do_matches laws l il p input all s t m;
})
