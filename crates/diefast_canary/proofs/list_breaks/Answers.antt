use Rattle.std.proofs.Common.{◌≡◌, true, false, [], ◌∷◌, ◌++◌, ap, sym, ◌∙◌}
use Rattle.std.proofs.lemmas.List.{append-nil}
use Rattle.diefast_canary.specs.Canary.{is_broken_at}
use Rattle.diefast_canary.proofs.Ranges.{filter_range_more}
use Rattle.diefast_canary.proofs.Canary.{is_broken_at-whole, is_broken_at-broken}
use Rattle.diefast_canary.proofs.list_breaks.Goals as goal
use Rattle.diefast_canary.proofs.list_breaks.Goals.{then-byte-expected+in_ok-push, else-byte-expected}

pub loop-place-preserved : goal.loop-place-preserved
loop-place-preserved c =
    let next = filter_range_more (is_broken_at c.args.word c.args.phase c.args.bytes.now) c.loop-place.place in
    elim c.if-byte-expected.branch [
      | then-byte-expected+in_ok-push w ↦
          let broken : is_broken_at c.args.word c.args.phase c.args.bytes.now c.loop-place.place ≡ true = is_broken_at-broken c.args.word c.args.phase c.args.bytes.now c.loop-place.place (λ e. w.if-byte-expected.true (e ∙ sym c.expected.ensures)) in
          ap (λ v. v.items) w.places-is ∙ w.in_ok-push.ensures.items ∙ ap (λ xs. xs ++ c.loop-place.place ∷ []) c.loop-place.invariant ∙ sym (rw broken at next)
      | else-byte-expected w ↦
          let whole : is_broken_at c.args.word c.args.phase c.args.bytes.now c.loop-place.place ≡ false = is_broken_at-whole c.args.word c.args.phase c.args.bytes.now c.loop-place.place (w.if-byte-expected.false ∙ c.expected.ensures) in
          ap (λ v. v.items) w.places-is ∙ c.loop-place.invariant ∙ sym (append-nil _) ∙ sym (rw whole at next)
    ]
