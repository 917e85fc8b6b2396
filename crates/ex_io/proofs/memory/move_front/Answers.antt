use Rattle.std.proofs.Common.{arith, ◌≡◌, ◌≤◌, ◌+◌, ◌-◌, take, drop, length, ap, ◌∙◌}
use Rattle.ex_io.proofs.Moves.{moves-front}
use Rattle.ex_io.proofs.memory.move_front.Goals as goal

pub returns-clause-bytes : goal.returns-clause-bytes
returns-clause-bytes c =
    let n = c.min-count.result in
    let within : n + c.args.at ≤ length c.args.bytes.now = omega arith in
    let size : c.args.at + n - c.args.at ≡ n = omega arith in
    moves-front c.args.bytes.now c.copy_from_slice.new.self (drop n c.args.buf.now) c.args.at n (c.copy_from_slice.ensures.after ∙ ap (λ k. take k (drop c.args.at c.args.bytes.now)) size) within
