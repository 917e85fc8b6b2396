-- The word of an instruction in range is that instruction.
use Rattle.std.proofs.Common.{◌≡◌, ◌<◌, ℕ, suc, ◌+◌, ◌*◌, ◌/◌, ◌%◌, ◌^◌, true, false, refl, sym, ◌∙◌, ap, subst, arith}
use Rattle.std.specs.Prelude.{ℤ, pos, negsuc, nat_lt, ◌==◌, ◌||◌, IsTrue}
use Rattle.std.specs.Option.{option_map}
use Rattle.std.specs.declared.option.Option.TheVariants.{Some}
use Rattle.std.proofs.lemmas.Int.{ints}
use Rattle.std.proofs.lemmas.Bool.Decides.{nat_tests}
use Rattle.infinite_heap.specs.declared.instr.Instr.{Instr}
use Rattle.infinite_heap.specs.declared.instr.Instr.TheVariants.{Alu, AluImm, Lui, Auipc, Jal, Jalr, Branch, Load, Store, System}
use Rattle.infinite_heap.specs.declared.instr.Op.{Op}
use Rattle.infinite_heap.specs.declared.instr.Op.TheVariants as op
use Rattle.infinite_heap.specs.Row.{row, opcode, rd, funct3, rs1, rs2, funct7, top, signed_field, signed12, signed13, signed21, imm_i, imm_s, imm_b, imm_j, register_op, shift_op, imm_op, branch_op, load_op, store_op}
use Rattle.infinite_heap.specs.Alu.{word}
use Rattle.infinite_heap.specs.InRange.{IsInRange, IsWithin, IsImm12, IsImmB, IsImmJ, HoldsImm, is_register_op, is_branch_op, is_load_op, is_store_op, is_system_op}
use Rattle.rv_decode.specs.Word.{word_of, bits, r_form, i_form, s_form, b_form, u_form, j_form, imm_word, system_word, funct3_of, funct7_of}
use Rattle.rv_decode.specs.Laws.{ReadsBack}

-- a field read as a signed number
signed-pos : (half x n : ℕ) → x ≡ n → n < half → signed_field half x ≡ pos n
signed-pos half x n is small = let yes : nat_lt x half ≡ true = grind (arith, nat_tests) in rw (yes, is)

signed-neg : (half x n : ℕ) → x + suc n ≡ 2 * half → n < half → signed_field half x ≡ negsuc n
signed-neg half x n is small = let no : nat_lt x half ≡ false = grind (arith, nat_tests) in rw no (omega (arith, ints))

-- the low bits of an immediate that they can hold are that immediate
signed12-back : (x : ℕ) (imm : ℤ) → IsImm12 imm → x ≡ word imm % 4096 → signed12 x ≡ imm
signed12-back x (pos n) within is = let small : n < 2048 = omega (arith, ints) in signed-pos 2048 x n (omega arith) small
signed12-back x (negsuc n) within is = let small : n < 2048 = omega (arith, ints) in signed-neg 2048 x n (omega arith) small

signed13-back : (x : ℕ) (imm : ℤ) → IsImmB imm → x ≡ word imm % 8192 → signed13 x ≡ imm
signed13-back x (pos n) within is = let small : n < 4096 = omega (arith, ints) in signed-pos 4096 x n (omega arith) small
signed13-back x (negsuc n) within is = let small : n < 4096 = omega (arith, ints) in signed-neg 4096 x n (omega arith) small

signed21-back : (x : ℕ) (imm : ℤ) → IsImmJ imm → x ≡ word imm % 2097152 → signed21 x ≡ imm
signed21-back x (pos n) within is = let small : n < 1048576 = omega (arith, ints) in signed-pos 1048576 x n (omega arith) small
signed21-back x (negsuc n) within is = let small : n < 1048576 = omega (arith, ints) in signed-neg 1048576 x n (omega arith) small

-- ---- the fields of each form, back from its word

imm_i-back : (imm : ℤ) (s1 f3 d o : ℕ) → IsImm12 imm → s1 < 32 → f3 < 8 → d < 32 → o < 128 → imm_i (i_form imm s1 f3 d o) ≡ imm
imm_i-back imm s1 f3 d o him h1 h3 hd ho =
    let w : ℕ = i_form imm s1 f3 d o in
    let is : w / 2 ^ 20 % 4096 ≡ word imm % 4096 = omega arith in
    signed12-back (w / 2 ^ 20 % 4096) imm him is

imm_s-back : (imm : ℤ) (s2 s1 f3 o : ℕ) → IsImm12 imm → s2 < 32 → s1 < 32 → f3 < 8 → o < 128 → imm_s (s_form imm s2 s1 f3 o) ≡ imm
imm_s-back imm s2 s1 f3 o him h2 h1 h3 ho =
    let w : ℕ = s_form imm s2 s1 f3 o in
    let is : w / 2 ^ 25 % 128 * 32 + w / 2 ^ 7 % 32 ≡ word imm % 4096 = omega arith in
    signed12-back (w / 2 ^ 25 % 128 * 32 + w / 2 ^ 7 % 32) imm him is

imm_b-back : (imm : ℤ) (s2 s1 f3 o : ℕ) → IsImmB imm → s2 < 32 → s1 < 32 → f3 < 8 → o < 128 → imm_b (b_form imm s2 s1 f3 o) ≡ imm
imm_b-back imm s2 s1 f3 o him h2 h1 h3 ho =
    let w : ℕ = b_form imm s2 s1 f3 o in
    let even : word imm % 2 ≡ 0 = him.1 in
    let is : w / 2 ^ 31 % 2 * 4096 + w / 2 ^ 7 % 2 * 2048 + w / 2 ^ 25 % 64 * 32 + w / 2 ^ 8 % 16 * 2 ≡ word imm % 8192 = omega arith in
    signed13-back (w / 2 ^ 31 % 2 * 4096 + w / 2 ^ 7 % 2 * 2048 + w / 2 ^ 25 % 64 * 32 + w / 2 ^ 8 % 16 * 2) imm him is

imm_j-back : (imm : ℤ) (d o : ℕ) → IsImmJ imm → d < 32 → o < 128 → imm_j (j_form imm d o) ≡ imm
imm_j-back imm d o him hd ho =
    let w : ℕ = j_form imm d o in
    let even : word imm % 2 ≡ 0 = him.1 in
    let is : w / 2 ^ 31 % 2 * 1048576 + w / 2 ^ 12 % 256 * 4096 + w / 2 ^ 20 % 2 * 2048 + w / 2 ^ 21 % 1024 * 2 ≡ word imm % 2097152 = omega arith in
    signed21-back (w / 2 ^ 31 % 2 * 1048576 + w / 2 ^ 12 % 256 * 4096 + w / 2 ^ 20 % 2 * 2048 + w / 2 ^ 21 % 1024 * 2) imm him is

-- ---- the row of each form's word

register-row : (f7 s2 s1 f3 d : ℕ) → f7 < 128 → s2 < 32 → s1 < 32 → f3 < 8 → d < 32 → row (r_form f7 s2 s1 f3 d 0x33) ≡ option_map (λ o. Alu o d s1 s2) (register_op f3 f7)
unfolding row
register-row f7 s2 s1 f3 d h7 hs2 hs1 h3 hd =
    let w : ℕ = r_form f7 s2 s1 f3 d 0x33 in
    let is : opcode w ≡ 0x33 = omega arith in
    let is7 : funct7 w ≡ f7 = omega arith in
    let is2 : rs2 w ≡ s2 = omega arith in
    let is1 : rs1 w ≡ s1 = omega arith in
    let is3 : funct3 w ≡ f3 = omega arith in
    let isd : rd w ≡ d = omega arith in
    rw (is, is7, is2, is1, is3, isd)

shift-row : (f7 s2 s1 f3 d : ℕ) → f7 < 128 → s2 < 32 → s1 < 32 → f3 < 8 → d < 32 → ((f3 == 1) || (f3 == 5)) ≡ true
    → row (r_form f7 s2 s1 f3 d 0x13) ≡ option_map (λ o. AluImm o d s1 (pos s2)) (shift_op f3 f7)
unfolding row
shift-row f7 s2 s1 f3 d h7 hs2 hs1 h3 hd shifts =
    let w : ℕ = r_form f7 s2 s1 f3 d 0x13 in
    let is : opcode w ≡ 0x13 = omega arith in
    let is7 : funct7 w ≡ f7 = omega arith in
    let is2 : rs2 w ≡ s2 = omega arith in
    let is1 : rs1 w ≡ s1 = omega arith in
    let is3 : funct3 w ≡ f3 = omega arith in
    let isd : rd w ≡ d = omega arith in
    rw (is, is3, shifts, is7, is2, is1, isd)

imm-row : (imm : ℤ) (s1 f3 d : ℕ) → IsImm12 imm → s1 < 32 → f3 < 8 → d < 32 → ((f3 == 1) || (f3 == 5)) ≡ false
    → row (i_form imm s1 f3 d 0x13) ≡ option_map (λ o. AluImm o d s1 imm) (imm_op f3)
unfolding row
imm-row imm s1 f3 d him hs1 h3 hd shifts =
    let w : ℕ = i_form imm s1 f3 d 0x13 in
    let is : opcode w ≡ 0x13 = omega arith in
    let is1 : rs1 w ≡ s1 = omega arith in
    let is3 : funct3 w ≡ f3 = omega arith in
    let isd : rd w ≡ d = omega arith in
    rw (is, is3, shifts, is1, isd, imm_i-back imm s1 f3 d 0x13 him hs1 h3 hd (omega arith))

load-row : (imm : ℤ) (s1 f3 d : ℕ) → IsImm12 imm → s1 < 32 → f3 < 8 → d < 32
    → row (i_form imm s1 f3 d 0x03) ≡ option_map (λ o. Load o d s1 imm) (load_op f3)
unfolding row
load-row imm s1 f3 d him hs1 h3 hd =
    let w : ℕ = i_form imm s1 f3 d 0x03 in
    let is : opcode w ≡ 0x03 = omega arith in
    let is1 : rs1 w ≡ s1 = omega arith in
    let is3 : funct3 w ≡ f3 = omega arith in
    let isd : rd w ≡ d = omega arith in
    rw (is, is3, is1, isd, imm_i-back imm s1 f3 d 0x03 him hs1 h3 hd (omega arith))

jalr-row : (imm : ℤ) (s1 d : ℕ) → IsImm12 imm → s1 < 32 → d < 32 → row (i_form imm s1 0 d 0x67) ≡ Some (Jalr d s1 imm)
unfolding row
jalr-row imm s1 d him hs1 hd =
    let w : ℕ = i_form imm s1 0 d 0x67 in
    let is : opcode w ≡ 0x67 = omega arith in
    let is1 : rs1 w ≡ s1 = omega arith in
    let is3 : funct3 w ≡ 0 = omega arith in
    let isd : rd w ≡ d = omega arith in
    rw (is, is3, is1, isd, imm_i-back imm s1 0 d 0x67 him hs1 (omega arith) hd (omega arith))

store-row : (imm : ℤ) (s2 s1 f3 : ℕ) → IsImm12 imm → s2 < 32 → s1 < 32 → f3 < 8
    → row (s_form imm s2 s1 f3 0x23) ≡ option_map (λ o. Store o s1 s2 imm) (store_op f3)
unfolding row
store-row imm s2 s1 f3 him hs2 hs1 h3 =
    let w : ℕ = s_form imm s2 s1 f3 0x23 in
    let is : opcode w ≡ 0x23 = omega arith in
    let is2 : rs2 w ≡ s2 = omega arith in
    let is1 : rs1 w ≡ s1 = omega arith in
    let is3 : funct3 w ≡ f3 = omega arith in
    rw (is, is3, is2, is1, imm_s-back imm s2 s1 f3 0x23 him hs2 hs1 h3 (omega arith))

branch-row : (imm : ℤ) (s2 s1 f3 : ℕ) → IsImmB imm → s2 < 32 → s1 < 32 → f3 < 8
    → row (b_form imm s2 s1 f3 0x63) ≡ option_map (λ o. Branch o s1 s2 imm) (branch_op f3)
unfolding row
branch-row imm s2 s1 f3 him hs2 hs1 h3 =
    let w : ℕ = b_form imm s2 s1 f3 0x63 in
    let is : opcode w ≡ 0x63 = omega arith in
    let is2 : rs2 w ≡ s2 = omega arith in
    let is1 : rs1 w ≡ s1 = omega arith in
    let is3 : funct3 w ≡ f3 = omega arith in
    rw (is, is3, is2, is1, imm_b-back imm s2 s1 f3 0x63 him hs2 hs1 h3 (omega arith))

jal-row : (imm : ℤ) (d : ℕ) → IsImmJ imm → d < 32 → row (j_form imm d 0x6f) ≡ Some (Jal d imm)
unfolding row
jal-row imm d him hd =
    let w : ℕ = j_form imm d 0x6f in
    let is : opcode w ≡ 0x6f = omega arith in
    let isd : rd w ≡ d = omega arith in
    rw (is, isd, imm_j-back imm d 0x6f him hd (omega arith))

lui-row : (t d : ℕ) → t < 2 ^ 20 → d < 32 → row (u_form t d 0x37) ≡ Some (Lui d t)
unfolding row
lui-row t d ht hd =
    let w : ℕ = u_form t d 0x37 in
    let is : opcode w ≡ 0x37 = omega arith in
    let isd : rd w ≡ d = omega arith in
    let ist : top w ≡ t = omega arith in
    rw (is, isd, ist)

auipc-row : (t d : ℕ) → t < 2 ^ 20 → d < 32 → row (u_form t d 0x17) ≡ Some (Auipc d t)
unfolding row
auipc-row t d ht hd =
    let w : ℕ = u_form t d 0x17 in
    let is : opcode w ≡ 0x17 = omega arith in
    let isd : rd w ≡ d = omega arith in
    let ist : top w ≡ t = omega arith in
    rw (is, isd, ist)

-- ---- the name of each kind, back from its constant fields

register-op-back : (o : Op) → IsTrue (is_register_op o) → (register_op (funct3_of o) (funct7_of o) ≡ Some o) × (funct7_of o < 128) × (funct3_of o < 8)
register-op-back op.Add named = (refl, omega arith, omega arith)
register-op-back op.Sub named = (refl, omega arith, omega arith)
register-op-back op.Sll named = (refl, omega arith, omega arith)
register-op-back op.Slt named = (refl, omega arith, omega arith)
register-op-back op.Sltu named = (refl, omega arith, omega arith)
register-op-back op.Xor named = (refl, omega arith, omega arith)
register-op-back op.Srl named = (refl, omega arith, omega arith)
register-op-back op.Sra named = (refl, omega arith, omega arith)
register-op-back op.Or named = (refl, omega arith, omega arith)
register-op-back op.And named = (refl, omega arith, omega arith)
register-op-back op.Mul named = (refl, omega arith, omega arith)
register-op-back op.Mulh named = (refl, omega arith, omega arith)
register-op-back op.Mulhsu named = (refl, omega arith, omega arith)
register-op-back op.Mulhu named = (refl, omega arith, omega arith)
register-op-back op.Div named = (refl, omega arith, omega arith)
register-op-back op.Divu named = (refl, omega arith, omega arith)
register-op-back op.Rem named = (refl, omega arith, omega arith)
register-op-back op.Remu named = (refl, omega arith, omega arith)
register-op-back o named = cc

branch-op-back : (o : Op) → IsTrue (is_branch_op o) → (branch_op (funct3_of o) ≡ Some o) × (funct3_of o < 8)
branch-op-back op.Beq named = (refl, omega arith)
branch-op-back op.Bne named = (refl, omega arith)
branch-op-back op.Blt named = (refl, omega arith)
branch-op-back op.Bge named = (refl, omega arith)
branch-op-back op.Bltu named = (refl, omega arith)
branch-op-back op.Bgeu named = (refl, omega arith)
branch-op-back o named = cc

load-op-back : (o : Op) → IsTrue (is_load_op o) → (load_op (funct3_of o) ≡ Some o) × (funct3_of o < 8)
load-op-back op.Lb named = (refl, omega arith)
load-op-back op.Lh named = (refl, omega arith)
load-op-back op.Lw named = (refl, omega arith)
load-op-back op.Lbu named = (refl, omega arith)
load-op-back op.Lhu named = (refl, omega arith)
load-op-back o named = cc

store-op-back : (o : Op) → IsTrue (is_store_op o) → (store_op (funct3_of o) ≡ Some o) × (funct3_of o < 8)
store-op-back op.Sb named = (refl, omega arith)
store-op-back op.Sh named = (refl, omega arith)
store-op-back op.Sw named = (refl, omega arith)
store-op-back o named = cc

system-back : (o : Op) → IsTrue (is_system_op o) → row (system_word o) ≡ Some (System o)
unfolding row
system-back op.Fence named = refl
system-back op.FenceI named = refl
system-back op.Ecall named = refl
system-back op.Ebreak named = refl
system-back o named = cc

amount-back : (imm : ℤ) → IsWithin (pos 0) (pos 32) imm → pos (bits imm 4 0) ≡ imm
amount-back (pos n) within = let small : n < 32 = omega (arith, ints) in ap pos (omega arith)
amount-back (negsuc n) within = absurd (omega (arith, ints))

shift-back : (o : Op) (d s1 : ℕ) (imm : ℤ) (f7 f3 : ℕ) → f7 < 128 → f3 < 8 → ((f3 == 1) || (f3 == 5)) ≡ true → shift_op f3 f7 ≡ Some o → d < 32 → s1 < 32 → IsWithin (pos 0) (pos 32) imm
    → row (r_form f7 (bits imm 4 0) s1 f3 d 0x13) ≡ Some (AluImm o d s1 imm)
shift-back o d s1 imm f7 f3 h7 h3 shifts named hd hs1 within =
    shift-row f7 (bits imm 4 0) s1 f3 d h7 (omega arith) hs1 h3 hd shifts
    ∙ ap (option_map (λ p. AluImm p d s1 (pos (bits imm 4 0)))) named
    ∙ ap (λ z. Some (AluImm o d s1 z)) (amount-back imm within)

imm-back : (o : Op) (d s1 : ℕ) (imm : ℤ) → d < 32 → s1 < 32 → HoldsImm o imm → row (imm_word o d s1 imm) ≡ Some (AluImm o d s1 imm)
imm-back op.Addi d s1 imm hd hs1 him = imm-row imm s1 0 d him hs1 (omega arith) hd refl
imm-back op.Slti d s1 imm hd hs1 him = imm-row imm s1 2 d him hs1 (omega arith) hd refl
imm-back op.Sltiu d s1 imm hd hs1 him = imm-row imm s1 3 d him hs1 (omega arith) hd refl
imm-back op.Xori d s1 imm hd hs1 him = imm-row imm s1 4 d him hs1 (omega arith) hd refl
imm-back op.Ori d s1 imm hd hs1 him = imm-row imm s1 6 d him hs1 (omega arith) hd refl
imm-back op.Andi d s1 imm hd hs1 him = imm-row imm s1 7 d him hs1 (omega arith) hd refl
imm-back op.Slli d s1 imm hd hs1 him = shift-back op.Slli d s1 imm 0 1 (omega arith) (omega arith) refl refl hd hs1 him
imm-back op.Srli d s1 imm hd hs1 him = shift-back op.Srli d s1 imm 0 5 (omega arith) (omega arith) refl refl hd hs1 him
imm-back op.Srai d s1 imm hd hs1 him = shift-back op.Srai d s1 imm 32 5 (omega arith) (omega arith) refl refl hd hs1 him
imm-back o d s1 imm hd hs1 him = absurd him

pub reads_back : ReadsBack
unfolding word_of
reads_back (Alu o d s1 s2) h =
    let k = register-op-back o h.0 in
    register-row (funct7_of o) s2 s1 (funct3_of o) d k.1 h.3 h.2 k.2 h.1 ∙ ap (option_map (λ p. Alu p d s1 s2)) k.0
reads_back (AluImm o d s1 imm) h = imm-back o d s1 imm h.0 h.1 h.2
reads_back (Lui d t) h = lui-row t d h.1 h.0
reads_back (Auipc d t) h = auipc-row t d h.1 h.0
reads_back (Jal d imm) h = jal-row imm d h.1 h.0
reads_back (Jalr d s1 imm) h = jalr-row imm s1 d h.2 h.1 h.0
reads_back (Branch o s1 s2 imm) h =
    let k = branch-op-back o h.0 in
    branch-row imm s2 s1 (funct3_of o) h.3 h.2 h.1 k.1 ∙ ap (option_map (λ p. Branch p s1 s2 imm)) k.0
reads_back (Load o d s1 imm) h =
    let k = load-op-back o h.0 in
    load-row imm s1 (funct3_of o) d h.3 h.2 k.1 h.1 ∙ ap (option_map (λ p. Load p d s1 imm)) k.0
reads_back (Store o s1 s2 imm) h =
    let k = store-op-back o h.0 in
    store-row imm s2 s1 (funct3_of o) h.3 h.2 h.1 k.1 ∙ ap (option_map (λ p. Store p s1 s2 imm)) k.0
reads_back (System o) h = system-back o h

pub imm_reads_back : (instr : Instr) (o : Op) (d s1 : ℕ) (imm : ℤ) (w : ℕ) → IsInRange instr → instr ≡ AluImm o d s1 imm → w ≡ imm_word o d s1 imm → row w ≡ Some instr
unfolding word_of
imm_reads_back instr o d s1 imm w h is spelled = ap row spelled ∙ reads_back (AluImm o d s1 imm) (subst IsInRange is h) ∙ ap (λ i. Some i) (sym is)
