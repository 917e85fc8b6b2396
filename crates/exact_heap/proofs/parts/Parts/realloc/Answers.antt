use Rattle.std.proofs.Common.{◌≡◌, ℕ, ap, Bool, true, false, cond, nat_eq}
use Rattle.std.proofs.lemmas.Bool.{eq-eqb, ne_eqb}
use Rattle.exact_heap.specs.Owners.{owner_of}
use Rattle.exact_heap.specs.Placing.{HeapState, Rules}
use Rattle.exact_heap.specs.Calls.{usual, called, allocate, resized, realloc}
use Rattle.exact_heap.specs.Stands.{rules_in}
use Rattle.exact_heap.proofs.Alignments.{usual_is}
use Rattle.exact_heap.proofs.Parting.{one_call}
use Rattle.exact_heap.proofs.Sound.{call_sound}
use Rattle.exact_heap.proofs.parts.Parts.realloc.Goals as goal

pub allocate-requires-clause-align : goal.allocate-requires-clause-align
allocate-requires-clause-align c = usual_is

pub allocate-requires-clause-sound : goal.allocate-requires-clause-sound
allocate-requires-clause-sound c = call_sound c.args.self.now c.requires.sound

pub resize-requires-clause-sound : goal.resize-requires-clause-sound
resize-requires-clause-sound c = call_sound c.args.self.now c.requires.sound

-- the two ways of realloc
by_old : (rules : Rules) (old size site : ℕ) (s : HeapState) (b : Bool) → nat_eq old 0 ≡ b
    → realloc rules old size site s ≡ cond b (allocate rules rules.zero usual size site (called s)) (resized rules size site (called s) (owner_of s.history.objects old))
unfolding realloc
by_old rules old size site s b e = ap (λ (x : Bool). cond x (allocate rules rules.zero usual size site (called s)) (resized rules size site (called s) (owner_of s.history.objects old))) e

pub returns-then-old-eq0 : goal.returns-then-old-eq0
returns-then-old-eq0 c =
    let rules = rules_in c.args.self.now in
    one_call (allocate rules rules.zero usual c.args.size c.args.site) (realloc rules c.args.old c.args.size c.args.site) c.args.self.now c.allocate.new.self c.args.space.now c.allocate.new.space c.allocate.result
    (λ s. by_old rules c.args.old c.args.size c.args.site s true (eq-eqb c.args.old 0 c.if-old-eq0.true)) c.allocate.ensures

pub returns : goal.returns
returns c =
    let rules = rules_in c.args.self.now in
    one_call (λ (s : HeapState). resized rules c.args.size c.args.site s (owner_of s.history.objects c.args.old)) (realloc rules c.args.old c.args.size c.args.site) c.args.self.now c.resize.new.self c.args.space.now c.resize.new.space c.resize.result
    (λ s. by_old rules c.args.old c.args.size c.args.site s false (ne_eqb c.args.old 0 c.if-old-eq0.false)) c.resize.ensures
