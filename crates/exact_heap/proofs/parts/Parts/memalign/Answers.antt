use Rattle.std.proofs.Common.{◌≡◌, ℕ, sym, ap, subst, ◌∙◌, Bool, true, false, cond, max}
use Rattle.exact_heap.specs.Placing.{HeapState, Rules}
use Rattle.exact_heap.specs.Calls.{called, answers, usual, is_alignment, allocate, memalign}
use Rattle.exact_heap.specs.Lawful.{IsAlignment}
use Rattle.exact_heap.specs.Stands.{rules_in}
use Rattle.exact_heap.proofs.Alignments.{asked_is}
use Rattle.exact_heap.proofs.Parting.{one_call, refused}
use Rattle.exact_heap.proofs.Sound.{call_sound}
use Rattle.exact_heap.proofs.parts.Parts.memalign.Goals as goal

by_alignment : (rules : Rules) (align size site : ℕ) (s : HeapState) (b : Bool) → is_alignment align ≡ b
    → memalign rules align size site s ≡ cond b (allocate rules rules.zero (max align usual) size site (called s)) (answers 0 (called s))
unfolding memalign
by_alignment rules align size site s b e = ap (λ (x : Bool). cond x (allocate rules rules.zero (max align usual) size site (called s)) (answers 0 (called s))) e

pub allocate-requires-clause-align : goal.allocate-requires-clause-align
allocate-requires-clause-align c = subst IsAlignment (sym c.max.ensures) (asked_is c.args.align (sym c.is_alignment.ensures ∙ (c.if-not-is_alignment.false)))

pub allocate-requires-clause-sound : goal.allocate-requires-clause-sound
allocate-requires-clause-sound c = call_sound c.args.self.now c.requires.sound

pub returns : goal.returns
returns c =
    let rules = rules_in c.args.self.now in
    one_call (allocate rules rules.zero c.max.result c.args.size c.args.site) (memalign rules c.args.align c.args.size c.args.site) c.args.self.now c.allocate.new.self c.args.space.now c.allocate.new.space c.allocate.result
    (λ s. by_alignment rules c.args.align c.args.size c.args.site s true (sym c.is_alignment.ensures ∙ c.if-not-is_alignment.false) ∙ ap (λ (a : ℕ). allocate rules rules.zero a c.args.size c.args.site (called s)) (sym c.max.ensures)) c.allocate.ensures

pub returns-then-not-is_alignment : goal.returns-then-not-is_alignment
returns-then-not-is_alignment c =
    refused (memalign (rules_in c.args.self.now) c.args.align c.args.size c.args.site) c.args.self.now c.args.space.now c.requires.sound c.requires.home
    (λ s. by_alignment (rules_in c.args.self.now) c.args.align c.args.size c.args.site s false (sym c.is_alignment.ensures ∙ c.if-not-is_alignment.true))
