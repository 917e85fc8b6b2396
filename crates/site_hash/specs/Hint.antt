-- What an instruction that is carried out does to the return addresses: docs/call-sites.md.
use Rattle.std.specs.Prelude.{ℕ, List}
use Rattle.infinite_heap.specs.declared.instr.Instr.{Instr}
use Rattle.infinite_heap.specs.declared.instr.Instr.TheVariants.{Jal, Jalr}
use Rattle.infinite_heap.specs.Calls.{after_jal, after_jalr}

-- the return addresses, newest first, behind an instruction whose return address is the given one
abbrev pub hinted : Instr → ℕ → List ℕ → List ℕ
hinted (Jal rd imm) link calls = after_jal rd link calls
hinted (Jalr rd rs1 imm) link calls = after_jalr rd rs1 link calls
hinted other link calls = calls
