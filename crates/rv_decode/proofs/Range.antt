-- The fields of every row are in range.
use Rattle.std.proofs.Common.{◌≡◌, ◌<◌, ℕ, ◌+◌, ◌*◌, ◌/◌, ◌%◌, ◌^◌, Bool, true, false, arith}
use Rattle.std.specs.Prelude.{ℤ, pos, IsTrue, IfSome, ◌==◌, ◌||◌, if◌then◌else◌}
use Rattle.std.specs.Option.{option_map}
use Rattle.std.specs.declared.option.Option.{Option}
use Rattle.std.specs.declared.option.Option.TheVariants.{Some, None}
use Rattle.std.proofs.lemmas.Int.{ints}
use Rattle.std.proofs.lemmas.Bool.Decides.{nat_tests}
use Rattle.infinite_heap.specs.declared.instr.Instr.{Instr}
use Rattle.infinite_heap.specs.declared.instr.Instr.TheVariants.{Alu, AluImm, Lui, Auipc, Jal, Jalr, Branch, Load, Store, System}
use Rattle.infinite_heap.specs.declared.instr.Op.{Op}
use Rattle.infinite_heap.specs.Row.{row, opcode, rd, rs1, rs2, funct3, funct7, top, imm_i, imm_s, imm_b, imm_j, signed12, signed13, signed21, branch_op, load_op, store_op, imm_op, shift_op, alu_op, alternate_op, multiply_op, register_op, fence_op, environment_op, branch_row, load_row, store_row, shift_row, imm_row, register_row, jalr_row}
use Rattle.infinite_heap.specs.InRange.{IsInRange, IsWithin, IsImm12, IsImmB, IsImmJ, HoldsImm, is_register_op, is_branch_op, is_load_op, is_store_op, is_system_op}
use Rattle.rv_decode.specs.Laws.{RowsAreInRange}

if-some : {A : Type 0} (P : A → Type 0) (b : Bool) (x y : Option A) → IfSome x P → IfSome y P → IfSome (if b then x else y) P
if-some P true x y p q = p
if-some P false x y p q = q

map-some : (P : Op → Type 0) (f : Op → Instr) (found : Option Op) → IfSome found P → ((o : Op) → P o → IsInRange (f o)) → IfSome (option_map f found) IsInRange
map-some P f (Some o) p each = each o p
map-some P f None p each = tt

-- ---- the names that a row gives are of its kind

branch-named : (f3 : ℕ) → IfSome (branch_op f3) (λ o. IsTrue (is_branch_op o))
branch-named f3 = grind arith

load-named : (f3 : ℕ) → IfSome (load_op f3) (λ o. IsTrue (is_load_op o))
load-named f3 = grind arith

store-named : (f3 : ℕ) → IfSome (store_op f3) (λ o. IsTrue (is_store_op o))
store-named f3 = grind arith

alu-named : (f3 : ℕ) → IfSome (alu_op f3) (λ o. IsTrue (is_register_op o))
alu-named f3 = grind arith

alternate-named : (f3 : ℕ) → IfSome (alternate_op f3) (λ o. IsTrue (is_register_op o))
alternate-named f3 = grind arith

multiply-named : (f3 : ℕ) → IfSome (multiply_op f3) (λ o. IsTrue (is_register_op o))
multiply-named f3 = grind arith

register-named : (f3 f7 : ℕ) → IfSome (register_op f3 f7) (λ o. IsTrue (is_register_op o))
register-named f3 f7 =
    let P : Op → Type 0 = λ o. IsTrue (is_register_op o) in
    if-some P (f7 == 0) (alu_op f3) _ (alu-named f3)
    (if-some P (f7 == 0x20) (alternate_op f3) _ (alternate-named f3)
    (if-some P (f7 == 1) (multiply_op f3) None (multiply-named f3) tt))

fence-named : (f3 : ℕ) → IfSome (fence_op f3) (λ o. IsTrue (is_system_op o))
fence-named f3 = grind arith

environment-named : (word : ℕ) → IfSome (environment_op word) (λ o. IsTrue (is_system_op o))
environment-named word = grind arith

imm-held : (f3 : ℕ) (imm : ℤ) → IsImm12 imm → IfSome (imm_op f3) (λ o. HoldsImm o imm)
imm-held f3 imm within = grind arith

amount-held : (f3 f7 : ℕ) (imm : ℤ) → IsWithin (pos 0) (pos 32) imm → IfSome (shift_op f3 f7) (λ o. HoldsImm o imm)
amount-held f3 f7 imm within = grind arith

-- ---- immediates

signed12-within : (n : ℕ) → n < 4096 → IsImm12 (signed12 n)
signed12-within n small = grind (arith, ints, nat_tests)

signed13-within : (n : ℕ) → n < 8192 → n % 2 ≡ 0 → IsImmB (signed13 n)
signed13-within n small even = grind (arith, ints, nat_tests)

signed21-within : (n : ℕ) → n < 2097152 → n % 2 ≡ 0 → IsImmJ (signed21 n)
signed21-within n small even = grind (arith, ints, nat_tests)

imm_i-within : (word : ℕ) → IsImm12 (imm_i word)
imm_i-within word = signed12-within (word / 2 ^ 20 % 4096) (omega arith)

imm_s-within : (word : ℕ) → IsImm12 (imm_s word)
imm_s-within word = signed12-within (word / 2 ^ 25 % 128 * 32 + word / 2 ^ 7 % 32) (omega arith)

imm_b-within : (word : ℕ) → IsImmB (imm_b word)
imm_b-within word = signed13-within (word / 2 ^ 31 % 2 * 4096 + word / 2 ^ 7 % 2 * 2048 + word / 2 ^ 25 % 64 * 32 + word / 2 ^ 8 % 16 * 2) (omega arith) (omega arith)

imm_j-within : (word : ℕ) → IsImmJ (imm_j word)
imm_j-within word = signed21-within (word / 2 ^ 31 % 2 * 1048576 + word / 2 ^ 12 % 256 * 4096 + word / 2 ^ 20 % 2 * 2048 + word / 2 ^ 21 % 1024 * 2) (omega arith) (omega arith)

amount-within : (word : ℕ) → IsWithin (pos 0) (pos 32) (pos (rs2 word))
amount-within word = let small : rs2 word < 32 = omega arith in (omega (arith, ints), omega (arith, ints))

-- ---- rows

rd-small : (word : ℕ) → rd word < 32
rd-small word = omega arith

rs1-small : (word : ℕ) → rs1 word < 32
rs1-small word = omega arith

rs2-small : (word : ℕ) → rs2 word < 32
rs2-small word = omega arith

shift-within : (word : ℕ) → IfSome (shift_row word) IsInRange
shift-within word =
    map-some (λ o. HoldsImm o (pos (rs2 word))) (λ o. AluImm o (rd word) (rs1 word) (pos (rs2 word))) (shift_op (funct3 word) (funct7 word))
    (amount-held (funct3 word) (funct7 word) (pos (rs2 word)) (amount-within word)) (λ o held. (rd-small word, rs1-small word, held))

plain-within : (word : ℕ) → IfSome (option_map (λ o. AluImm o (rd word) (rs1 word) (imm_i word)) (imm_op (funct3 word))) IsInRange
plain-within word =
    map-some (λ o. HoldsImm o (imm_i word)) (λ o. AluImm o (rd word) (rs1 word) (imm_i word)) (imm_op (funct3 word))
    (imm-held (funct3 word) (imm_i word) (imm_i-within word)) (λ o held. (rd-small word, rs1-small word, held))

imm-within : (word : ℕ) → IfSome (imm_row word) IsInRange
imm-within word = if-some IsInRange ((funct3 word == 1) || (funct3 word == 5)) (shift_row word) _ (shift-within word) (plain-within word)

register-within : (word : ℕ) → IfSome (register_row word) IsInRange
register-within word =
    map-some (λ o. IsTrue (is_register_op o)) (λ o. Alu o (rd word) (rs1 word) (rs2 word)) (register_op (funct3 word) (funct7 word))
    (register-named (funct3 word) (funct7 word)) (λ o named. (named, rd-small word, rs1-small word, rs2-small word))

load-within : (word : ℕ) → IfSome (load_row word) IsInRange
load-within word =
    map-some (λ o. IsTrue (is_load_op o)) (λ o. Load o (rd word) (rs1 word) (imm_i word)) (load_op (funct3 word))
    (load-named (funct3 word)) (λ o named. (named, rd-small word, rs1-small word, imm_i-within word))

store-within : (word : ℕ) → IfSome (store_row word) IsInRange
store-within word =
    map-some (λ o. IsTrue (is_store_op o)) (λ o. Store o (rs1 word) (rs2 word) (imm_s word)) (store_op (funct3 word))
    (store-named (funct3 word)) (λ o named. (named, rs1-small word, rs2-small word, imm_s-within word))

branch-within : (word : ℕ) → IfSome (branch_row word) IsInRange
branch-within word =
    map-some (λ o. IsTrue (is_branch_op o)) (λ o. Branch o (rs1 word) (rs2 word) (imm_b word)) (branch_op (funct3 word))
    (branch-named (funct3 word)) (λ o named. (named, rs1-small word, rs2-small word, imm_b-within word))

system-within : (found : Option Op) → IfSome found (λ o. IsTrue (is_system_op o)) → IfSome (option_map (λ o. System o) found) IsInRange
system-within found named = map-some (λ o. IsTrue (is_system_op o)) (λ o. System o) found named (λ o is. is)

jalr-within : (word : ℕ) → IfSome (jalr_row word) IsInRange
jalr-within word = if-some IsInRange (funct3 word == 0) (Some (Jalr (rd word) (rs1 word) (imm_i word))) None (rd-small word, rs1-small word, imm_i-within word) tt

top-small : (word : ℕ) → top word < 2 ^ 20
top-small word = omega arith

pub rows_are_in_range : RowsAreInRange
unfolding row
rows_are_in_range word =
    if-some IsInRange (opcode word == 0x37) (Some (Lui (rd word) (top word))) _ (rd-small word, top-small word)
    (if-some IsInRange (opcode word == 0x17) (Some (Auipc (rd word) (top word))) _ (rd-small word, top-small word)
    (if-some IsInRange (opcode word == 0x6f) (Some (Jal (rd word) (imm_j word))) _ (rd-small word, imm_j-within word)
    (if-some IsInRange (opcode word == 0x67) (jalr_row word) _ (jalr-within word)
    (if-some IsInRange (opcode word == 0x63) (branch_row word) _ (branch-within word)
    (if-some IsInRange (opcode word == 0x03) (load_row word) _ (load-within word)
    (if-some IsInRange (opcode word == 0x23) (store_row word) _ (store-within word)
    (if-some IsInRange (opcode word == 0x13) (imm_row word) _ (imm-within word)
    (if-some IsInRange (opcode word == 0x33) (register_row word) _ (register-within word)
    (if-some IsInRange (opcode word == 0x0f) _ _ (system-within (fence_op (funct3 word)) (fence-named (funct3 word)))
    (if-some IsInRange (opcode word == 0x73) _ None (system-within (environment_op word) (environment-named word)) tt))))))))))
