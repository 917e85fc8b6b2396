use Rattle.std.proofs.Common.{◌≡◌, length, refl, arith, rules}
use Rattle.std.proofs.lemmas.Bool.{true≢false}
use Rattle.miniheap.proofs.PlaceLemmas.{rows_are}
use Rattle.miniheap.proofs.RowLemmas.{classes_length}
use Rattle.miniheap.proofs.places.Places.miniheap.Goals as goal

pub returns-then-number-len-clause-none : goal.returns-then-number-len-clause-none
returns-then-number-len-clause-none c =
    let l : length c.args.self.now ≡ length c.self.inside.rows.items = classes_length c.args.self.now c.self.inside.rows.items (rows_are c.self.inside c.self.invariant c.args.self.now c.self.view_is).minis_are in
    let n : c.len.result ≡ length c.self.inside.rows.items = search rules in (λ _. omega (arith, l, n, c.if-number-len.true), λ _. refl)

pub returns-clause-none : goal.returns-clause-none
returns-clause-none c =
    let l : length c.args.self.now ≡ length c.self.inside.rows.items = classes_length c.args.self.now c.self.inside.rows.items (rows_are c.self.inside c.self.invariant c.args.self.now c.self.view_is).minis_are in
    let n : c.len.result ≡ length c.self.inside.rows.items = search rules in (λ e. absurd (true≢false e), λ h. absurd (omega (arith, l, n, h, c.if-number-len.false)))
