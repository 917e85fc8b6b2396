use Rattle.std.proofs.Common.{◌≡◌, ℕ, ◌*◌, ◌^◌, ◌<◌, sym, ap, arith, Bool, true, cond, nat_lt}
use Rattle.std.proofs.lemmas.Bool.{lt-ltb}
use Rattle.exact_heap.specs.Placing.{request, place}
use Rattle.exact_heap.specs.Calls.{usual, called, answers, size_limit, allocate, calloc}
use Rattle.exact_heap.specs.Stands.{rules_in}
use Rattle.exact_heap.proofs.Alignments.{usual_is}
use Rattle.exact_heap.proofs.Parting.{one_call, refused}
use Rattle.exact_heap.proofs.Sound.{call_sound}
use Rattle.exact_heap.proofs.parts.Parts.calloc.Goals as goal

pub allocate-requires-clause-align : goal.allocate-requires-clause-align
allocate-requires-clause-align c = usual_is

pub allocate-requires-clause-sound : goal.allocate-requires-clause-sound
allocate-requires-clause-sound c = call_sound c.args.self.now c.requires.sound

pub returns-in-Some : goal.returns-in-Some
unfolding calloc
returns-in-Some c =
    let rules = rules_in c.args.self.now in
    one_call (allocate rules true usual c.in-Some.size c.args.site) (calloc rules c.args.count c.args.each c.args.site) c.args.self.now c.allocate.new.self c.args.space.now c.allocate.new.space c.allocate.result
    (λ s. ap (λ (n : ℕ). allocate rules true usual n c.args.site (called s)) (sym c.in-Some.ensures.1)) c.allocate.ensures

pub returns-in-None : goal.returns-in-None
unfolding calloc
returns-in-None c =
    let rules = rules_in c.args.self.now in
    let big : nat_lt size_limit (c.args.count * c.args.each) ≡ true = lt-ltb size_limit (c.args.count * c.args.each) (above (c.args.count * c.args.each) c.in-None.ensures) in
    refused (calloc rules c.args.count c.args.each c.args.site) c.args.self.now c.args.space.now c.requires.sound c.requires.home
    (λ s. ap (λ (b : Bool). cond b (answers 0 (called s)) (place (request rules usual (c.args.count * c.args.each) c.args.site) true (called s))) big)
  where
    above : (n : ℕ) → (n < 2 ^ 32 → ⊥) → 2 ^ 20 < n
    above n h = omega (arith, h)
