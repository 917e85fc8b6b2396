-- Loaded numbers as words: the RISC-V Unprivileged ISA manual, "Load and Store Instructions".
use Rattle.std.specs.Prelude.{ℕ, ◌+◌, nat_lt, if◌then◌else◌}
use Rattle.infinite_heap.specs.declared.instr.Op.{Op}
use Rattle.infinite_heap.specs.declared.instr.Op.TheVariants as op

-- LB and LH extend the sign of the number that was loaded, the others put zeros above it
abbrev pub extended : Op → ℕ → ℕ
extended op.Lb n = if nat_lt n 128 then n else n + 0xFFFFFF00
extended op.Lh n = if nat_lt n 32768 then n else n + 0xFFFF0000
extended o n = n
