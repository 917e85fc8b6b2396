use Rattle.std.proofs.Common.{◌≡◌, ◌≤◌, ◌^◌, ◌*◌, ◌%◌, arith, ℕ}
use Rattle.size_class.specs.Classes.{first_slots, nth_bytes}
use Rattle.size_class.proofs.ClassesLemmas.{bytes_are}
use Rattle.size_class.proofs.miniheap_bytes.Goals as goal

computed : (c n first : ℕ) → first ≡ first_slots c → c ≤ 22 → n ≤ 31 → first * 2 ^ c % 2 ^ 64 * 2 ^ n % 2 ^ 64 ≡ nth_bytes c n
computed c n first e h k = rw e (bytes_are c n h k)

pub returns-then-bytes-clause-none : goal.returns-then-bytes-clause-none
returns-then-bytes-clause-none c =
    let e = computed c.args.class c.args.nth c.first_slots.result c.first_slots.ensures c.requires.high c.requires.nth_high in
    (λ _. rw (← e) c.if-bytes.true, λ _. cc)

pub returns-else-bytes-clause-none : goal.returns-else-bytes-clause-none
returns-else-bytes-clause-none c =
    let e = computed c.args.class c.args.nth c.first_slots.result c.first_slots.ensures c.requires.high c.requires.nth_high in
    (λ h. absurd (cc), λ h. absurd (omega arith))

pub returns-else-bytes-clause-value : goal.returns-else-bytes-clause-value
returns-else-bytes-clause-value c = computed c.args.class c.args.nth c.first_slots.result c.first_slots.ensures c.requires.high c.requires.nth_high
