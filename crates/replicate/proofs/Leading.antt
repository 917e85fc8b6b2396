-- How far replicas get ahead of one another between gates.
use Rattle.std.proofs.Common.{◌≡◌, ◌<◌, ◌≤◌, ℕ, zero, suc, ◌+◌, ◌-◌, max, Bool, false, true, cond, List, [], ◌∷◌, map, length, Option, None, Some, inl, inr, refl, sym, ◌∙◌, ap, ap₂, subst, arith}
use Rattle.std.proofs.lemmas.Bool.{true≢false}
use Rattle.std.specs.List.{AllByRecursion, range_with_len}
use Rattle.infinite_heap.specs.Loaded.{Loaded}
use Rattle.patch_table.specs.Table.{Table}
use Rattle.rv_machine.specs.Core.{Goes, Faults, Reads, Prints, Exits, Stays}
use Rattle.rv_machine.specs.Guest.{Guest}
use Rattle.rv_machine.specs.HeapCalls.{GuestNext, Carries, Returns, Lacks, guest_next}
use Rattle.rv_machine.specs.Shape.{IsGuestShaped}
use Rattle.rv_machine.specs.declared.settings.Settings.{Settings}
use Rattle.replicate.proofs.Ahead.{ahead-going, ahead-none, ahead-over, gate-awaits, moved-awaits, moved-live, moved-retired, onward-keeps, onward-live, started-await, turned-ahead, with-elsewhere, with-here, with_replicas}
use Rattle.replicate.proofs.Arriving.{fresh-counts}
use Rattle.replicate.proofs.Ending.{Order, order}
use Rattle.replicate.proofs.Onward.{onward-there, onward-zero, onward-suc}
use Rattle.replicate.specs.Counted.{IsGuestCounted, StepsAreCounted}
use Rattle.replicate.specs.Gates.{DecidesBy, GatesFrom, WaitsOrDecides, gone_on, missing_from, passed, wins, won, written}
use Rattle.replicate.specs.Groups.{Group, behind, farthest, lead_of, most_behind, moved, steps_since, turned}
use Rattle.replicate.specs.Leads.{CyclesKeepTheLead, GatesKeepTheLead, IsMarkedBehind, LeadsWithin, StartsWithoutLead, TurnsKeepTheLead, in_turn}
use Rattle.replicate.specs.Replicas.{Replica, attempt, attempted, has_arrived, onward}
use Rattle.replicate.specs.Rounds.{WaitsForWrite, ahead, each_ahead, no_steps, replica_at, with_steps}
use Rattle.replicate.specs.declared.answer.GateAnswer.{GateAnswer}
use Rattle.replicate.specs.declared.arrival.Arrival.{Arrival}
use Rattle.replicate.specs.declared.seat.Mark.{Mark}

-- ---- near to those that are farthest

-- one that hasn't arrived is at most so far behind
abbrev IsNear : (budget most lead : ℕ) → Replica → Type 0
IsNear budget most lead r = r.live ≡ true → has_arrived budget r ≡ false → most ≤ steps_since r + lead

near-behind : (budget most lead : ℕ) (r : Replica) → behind budget most r ≤ lead → IsNear budget most lead r
near-behind budget most lead r less = λ live fresh.
    let is : behind budget most r ≡ most - steps_since r = ap₂ (λ l there. cond l (cond there 0 (most - steps_since r)) 0) live fresh in
    omega (arith, less, is)

behind-near : (budget most lead : ℕ) (r : Replica) → IsNear budget most lead r → behind budget most r ≤ lead
behind-near budget most lead r near = go r.live (has_arrived budget r) refl refl
  where
    go : (l there : Bool) → r.live ≡ l → has_arrived budget r ≡ there → cond l (cond there 0 (most - steps_since r)) 0 ≤ lead
    go true false live fresh = let less = near live fresh in omega (arith, less)
    go true true live is = omega arith
    go false there retired is = omega arith

all-near : (budget most lead : ℕ) (rs : List Replica) → most_behind budget most rs ≤ lead → AllByRecursion (IsNear budget most lead) rs
all-near budget most lead [] less = tt
all-near budget most lead (r ∷ rs) less = (near-behind budget most lead r (omega (arith, less)), all-near budget most lead rs (omega (arith, less)))

near-all : (budget most lead : ℕ) (rs : List Replica) → AllByRecursion (IsNear budget most lead) rs → most_behind budget most rs ≤ lead
near-all budget most lead [] near = omega arith
near-all budget most lead (r ∷ rs) near =
    let one = behind-near budget most lead r near.0 in
    let rest = near-all budget most lead rs near.1 in
    omega (arith, one, rest)

-- ---- where nobody is ahead

-- a live one is where its last gate was
abbrev IsAtMark : Replica → Type 0
IsAtMark r = r.live ≡ true → steps_since r ≡ 0

farthest-none : (rs : List Replica) → AllByRecursion IsAtMark rs → farthest rs ≡ 0
farthest-none [] at = refl
farthest-none (r ∷ rs) at = go r.live refl (farthest-none rs at.1)
  where
    go : (b : Bool) → r.live ≡ b → farthest rs ≡ 0 → cond b (max (steps_since r) (farthest rs)) (farthest rs) ≡ 0
    go true live rest = let one = at.0 live in omega (arith, one, rest)
    go false retired rest = rest

behind-none : (budget : ℕ) (rs : List Replica) → most_behind budget 0 rs ≡ 0
behind-none budget [] = refl
behind-none budget (r ∷ rs) =
    let one = behind-near budget 0 0 r (λ live fresh. omega arith) in
    let rest = behind-none budget rs in
    omega (arith, one, rest)

lead-none : (budget : ℕ) (rs : List Replica) → AllByRecursion IsAtMark rs → lead_of budget rs ≡ 0
lead-none budget rs at = ap (λ most. most_behind budget most rs) (farthest-none rs at) ∙ behind-none budget rs

-- ---- a new group

all-marked : (program : Loaded) (args : List (List ℕ)) (settings : Settings) (numbers : List ℕ) → AllByRecursion IsMarkedBehind (map (replica_at program args settings) numbers)
all-marked program args settings [] = tt
all-marked program args settings (i ∷ numbers) = (omega arith, all-marked program args settings numbers)

all-at-mark : (program : Loaded) (args : List (List ℕ)) (settings : Settings) (numbers : List ℕ) → AllByRecursion IsAtMark (map (replica_at program args settings) numbers)
all-at-mark program args settings [] = tt
all-at-mark program args settings (i ∷ numbers) = (λ live. refl, all-at-mark program args settings numbers)

pub starts-without-lead : StartsWithoutLead
starts-without-lead program args settings budget count =
    let none = lead-none budget (map (replica_at program args settings) (range_with_len 0 count)) (all-at-mark program args settings (range_with_len 0 count)) in
    record { waits = started-await program args settings budget count; marks = all-marked program args settings (range_with_len 0 count); within = omega (arith, none) }

-- ---- a gate

passed-marked : (budget : ℕ) (a : Arrival) (table : Table) (r : Replica) → IsMarkedBehind r → IsMarkedBehind (passed budget a table r)
passed-marked budget a table r marked = go (wins budget a r)
  where
    go : (b : Bool) → IsMarkedBehind (cond b (gone_on table (written r)) (record r { live = false }))
    go true = omega arith
    go false = marked

passed-at-mark : (budget : ℕ) (a : Arrival) (table : Table) (r : Replica) → IsAtMark (passed budget a table r)
passed-at-mark budget a table r = go (wins budget a r)
  where
    go : (b : Bool) → IsAtMark (cond b (gone_on table (written r)) (record r { live = false }))
    go true = λ live. omega arith
    go false = λ live. absurd (true≢false (sym live))

all-passed-marked : (budget : ℕ) (a : Arrival) (table : Table) (rs : List Replica) → AllByRecursion IsMarkedBehind rs → AllByRecursion IsMarkedBehind (map (passed budget a table) rs)
all-passed-marked budget a table [] marked = tt
all-passed-marked budget a table (r ∷ rs) marked = (passed-marked budget a table r marked.0, all-passed-marked budget a table rs marked.1)

all-passed-at-mark : (budget : ℕ) (a : Arrival) (table : Table) (rs : List Replica) → AllByRecursion IsAtMark (map (passed budget a table) rs)
all-passed-at-mark budget a table [] = tt
all-passed-at-mark budget a table (r ∷ rs) = (passed-at-mark budget a table r, all-passed-at-mark budget a table rs)

abbrev KeepsMarks : Group → (lead : ℕ) → Type 0
KeepsMarks g lead = AllByRecursion IsMarkedBehind g.replicas × (lead_of g.budget g.replicas ≤ lead)

decided-leads : (vote : Option Arrival) (g : Group) (got : GateAnswer) (to : Group) (lead : ℕ) → DecidesBy vote g got to → KeepsMarks g lead → KeepsMarks to lead
decided-leads None g got to lead decides keeps = subst (λ (h : Group). KeepsMarks h lead) (sym decides.1) keeps
decided-leads (Some a) g got to lead decides keeps =
    let none = lead-none g.budget (map (passed g.budget a decides.cured.table) g.replicas) (all-passed-at-mark g.budget a decides.cured.table g.replicas) in
    subst (λ (h : Group). KeepsMarks h lead) (sym decides.is) (all-passed-marked g.budget a decides.cured.table g.replicas keeps.0, omega (arith, none))

waits-leads : (missing : Option ℕ) (g : Group) (got : GateAnswer) (to : Group) (lead : ℕ) → WaitsOrDecides missing g got to → KeepsMarks g lead → KeepsMarks to lead
waits-leads (Some i) g got to lead waits keeps = subst (λ (h : Group). KeepsMarks h lead) (sym waits.1) keeps
waits-leads None g got to lead decides keeps = decided-leads (won g) g got to lead decides keeps

gate-leads : (over : Option GateAnswer) (g : Group) (got : GateAnswer) (to : Group) (lead : ℕ) → GatesFrom over g got to → KeepsMarks g lead → KeepsMarks to lead
gate-leads (Some end) g got to lead gate keeps = subst (λ (h : Group). KeepsMarks h lead) (sym gate.1) keeps
gate-leads None g got to lead gate keeps = waits-leads (missing_from g.budget 0 g.replicas) g got to lead gate keeps

pub gates-keep : GatesKeepTheLead
gates-keep g got to lead so gate =
    let keeps = gate-leads g.over g got to lead gate (so.marks, so.within) in
    record { waits = gate-awaits g.over g got to gate so.waits; marks = keeps.0; within = keeps.1 }

-- ---- steps

attempted-mark : (input : List ℕ) (r : Replica) (n : GuestNext) → (attempted input r n).mark ≡ r.mark
attempted-mark input r (Carries (Prints fd address len bytes core)) = refl
attempted-mark input r n = refl

onward-mark : (input : List ℕ) (budget n : ℕ) (r : Replica) → (onward input budget n r).mark ≡ r.mark
onward-mark input budget n r = onward-keeps (λ (s : Replica). s.mark) input budget n r (λ s. attempted-mark input s (guest_next s.flat.guest))

-- n steps count at most n
record Counts (n : ℕ) (from to : Replica) : Type 0 where
  least : from.flat.guest.core.steps ≤ to.flat.guest.core.steps
  most : to.flat.guest.core.steps ≤ from.flat.guest.core.steps + n

counts-none : (n : ℕ) (r : Replica) → Counts n r r
counts-none n r = record { least = omega arith; most = omega arith }

counts-none-more : (n : ℕ) (r s : Replica) → s.flat.guest.core.steps ≡ r.flat.guest.core.steps → Counts n r s
counts-none-more n r s same = record { least = omega (arith, same); most = omega (arith, same) }

counts-one : (r s : Replica) → s.flat.guest.core.steps ≡ r.flat.guest.core.steps + 1 → Counts 1 r s
counts-one r s same = record { least = omega (arith, same); most = omega (arith, same) }

attempted-counts : (input : List ℕ) (r : Replica) (n : GuestNext) → IsGuestCounted r.flat.guest n → Counts 1 r (attempted input r n)
attempted-counts input r (Carries (Goes core)) counts = counts-one r (attempted input r (Carries (Goes core))) counts
attempted-counts input r (Carries (Faults kind address)) counts = counts-none-more 1 r (attempted input r (Carries (Faults kind address))) refl
attempted-counts input r (Carries (Reads address len)) counts = counts-one r (attempted input r (Carries (Reads address len))) refl
attempted-counts input r (Carries (Prints fd address len bytes core)) counts = counts-none-more 1 r (attempted input r (Carries (Prints fd address len bytes core))) refl
attempted-counts input r (Carries (Exits code core)) counts = counts-one r (attempted input r (Carries (Exits code core))) counts
attempted-counts input r (Carries (Stays ended)) counts = counts-none-more 1 r (attempted input r (Carries (Stays ended))) refl
attempted-counts input r (Returns g) counts = counts-one r (attempted input r (Returns g)) counts
attempted-counts input r (Lacks used wanted g) counts = counts-none-more 1 r (attempted input r (Lacks used wanted g)) counts

-- ---- shares of steps

-- what each replica was given when so many have had n steps
abbrev shares : (n : ℕ) → (count : ℕ) → ℕ → ℕ
shares n zero = no_steps
shares n (suc count) = with_steps count n (shares n count)

in-turn-ahead : (input : List ℕ) (n count : ℕ) (g : Group) → in_turn input n count g ≡ ahead input (shares n count) g
in-turn-ahead input n zero g = ahead-none input g
in-turn-ahead input n (suc count) g = ap (turned input count n) (in-turn-ahead input n count g) ∙ turned-ahead input count n (shares n count) g

shares-later : (n count j : ℕ) → count ≤ j → shares n count j ≡ 0
shares-later n zero j later = refl
shares-later n (suc count) j later = with-elsewhere count n (shares n count) j (omega (arith, later)) ∙ shares-later n count j (omega (arith, later))

shares-earlier : (n count j : ℕ) → j < count → shares n count j ≡ n
shares-earlier n zero j earlier = absurd (omega (arith, earlier))
shares-earlier n (suc count) j earlier = go (order j count) (shares-earlier n count j)
  where
    go : Order j count → (j < count → shares n count j ≡ n) → shares n (suc count) j ≡ n
    go (inl earlier') rest = with-elsewhere count n (shares n count) j (omega (arith, earlier')) ∙ rest earlier'
    go (inr (inl same)) rest =
        let none = shares-later n count j (omega (arith, same)) in
        let here = with-here count n (shares n count) j (sym same) in
        omega (arith, here, none)
    go (inr (inr after)) rest = absurd (omega (arith, after, earlier))

shares-most : (n count j : ℕ) → shares n count j ≤ n
shares-most n count j = go (order j count)
  where
    go : Order j count → shares n count j ≤ n
    go (inl before) = let all = shares-earlier n count j before in omega (arith, all)
    go (inr (inl same)) = let none = shares-later n count j (omega (arith, same)) in omega (arith, none)
    go (inr (inr after)) = let none = shares-later n count j (omega (arith, after)) in omega (arith, none)

-- ---- from one gate to the next

module _ (counted : StepsAreCounted) (shaped : (g : Guest) → IsGuestShaped g (guest_next g)) where
  attempt-counted : (input : List ℕ) (budget : ℕ) (r : Replica) → Counts 1 r (attempt input budget r)
  attempt-counted input budget r = go (has_arrived budget r)
    where
      go : (b : Bool) → Counts 1 r (cond b r (attempted input r (guest_next r.flat.guest)))
      go true = counts-none 1 r
      go false = attempted-counts input r (guest_next r.flat.guest) (counted r.flat.guest)

  onward-counted : (input : List ℕ) (budget n : ℕ) (r : Replica) → Counts n r (onward input budget n r)
  onward-counted input budget zero r = subst (λ (s : Replica). Counts 0 r s) (sym (onward-zero input budget r)) (counts-none 0 r)
  onward-counted input budget (suc n) r =
      let before = onward-counted input budget n r in
      let one = attempt-counted input budget (onward input budget n r) in
      subst (λ (s : Replica). Counts (suc n) r s) (sym (onward-suc input budget n r)) (record { least = omega (arith, before.least, one.least); most = omega (arith, before.most, one.most) })

  -- what one has done in a turn: its mark stays, and while it hasn't arrived it counts each step
  record HasMoved (budget n : ℕ) (from to : Replica) : Type 0 where
    live : to.live ≡ from.live
    mark : to.mark.steps ≡ from.mark.steps
    counts : Counts n from to
    fresh : to.live ≡ true → has_arrived budget to ≡ false → (has_arrived budget from ≡ false) × (to.flat.guest.core.steps ≡ from.flat.guest.core.steps + n)

  fresh-before : (input : List ℕ) (budget n : ℕ) (r : Replica) → has_arrived budget (onward input budget n r) ≡ false → has_arrived budget r ≡ false
  fresh-before input budget n r fresh = go (has_arrived budget r) refl
    where
      go : (b : Bool) → has_arrived budget r ≡ b → has_arrived budget r ≡ false
      go false is = is
      go true is = absurd (true≢false (sym is ∙ ap (has_arrived budget) (sym (onward-there input budget n r is)) ∙ fresh))

  has-moved : (input : List ℕ) (budget n : ℕ) (r : Replica) → WaitsForWrite r → HasMoved budget n r (moved input budget n r)
  has-moved input budget n r sound = go r.live refl
    where
      gone : HasMoved budget n r (onward input budget n r)
      gone = record {
        live = onward-live input budget n r;
        mark = ap (λ (m : Mark). m.steps) (onward-mark input budget n r);
        counts = onward-counted input budget n r;
        fresh = λ live fresh. (fresh-before input budget n r fresh, fresh-counts counted shaped input budget n r sound fresh);
      }

      go : (b : Bool) → r.live ≡ b → HasMoved budget n r (moved input budget n r)
      go true live = subst (λ (s : Replica). HasMoved budget n r s) (sym (moved-live input budget n r live)) gone
      go false retired =
          subst (λ (s : Replica). HasMoved budget n r s) (sym (moved-retired input budget n r retired))
          (record { live = refl; mark = refl; counts = counts-none n r; fresh = λ live fresh. absurd (true≢false (sym live ∙ retired)) })

  farther : (most : ℕ) (b b' : Bool) (x x' rest rest' : ℕ) → b' ≡ b → x' ≤ x + most → rest' ≤ rest + most → cond b' (max x' rest') rest' ≤ cond b (max x rest) rest + most
  farther most true true x x' rest rest' same one all = omega (arith, one, all)
  farther most false false x x' rest rest' same one all = all
  farther most true false x x' rest rest' same one all = absurd (true≢false (sym same))
  farther most false true x x' rest rest' same one all = absurd (true≢false same)

  farthest-moved : (input : List ℕ) (budget most : ℕ) (given : ℕ → ℕ) (k : ℕ) (rs : List Replica) → ((j : ℕ) → given j ≤ most) → AllByRecursion WaitsForWrite rs → farthest (each_ahead input budget given k rs) ≤ farthest rs + most
  farthest-moved input budget most given k [] bound sound = omega arith
  farthest-moved input budget most given k (r ∷ rs) bound sound =
      let has = has-moved input budget (given k) r sound.0 in
      let less = bound k in
      farther most r.live (moved input budget (given k) r).live (steps_since r) (steps_since (moved input budget (given k) r)) (farthest rs) (farthest (each_ahead input budget given (k + 1) rs)) has.live
      (omega (arith, has.mark, has.counts.most, less)) (farthest-moved input budget most given (k + 1) rs bound sound.1)

  near-moved : (input : List ℕ) (budget n least most far far' lead : ℕ) (r : Replica) → WaitsForWrite r → IsMarkedBehind r → least ≤ n → far' ≤ far + most → IsNear budget far lead r → IsNear budget far' (lead + (most - least)) (moved input budget n r)
  near-moved input budget n least most far far' lead r sound marked enough further near = λ live fresh.
      let has = has-moved input budget n r sound in
      let counts = has.fresh live fresh in
      let close = near (sym has.live ∙ live) counts.0 in
      omega (arith, close, counts.1, has.mark, marked, enough, further)

  all-near-moved : (input : List ℕ) (budget least most far far' lead : ℕ) (given : ℕ → ℕ) (k : ℕ) (rs : List Replica) → AllByRecursion WaitsForWrite rs → AllByRecursion IsMarkedBehind rs → ((j : ℕ) → k ≤ j → j < k + length rs → least ≤ given j) → far' ≤ far + most
      → AllByRecursion (IsNear budget far lead) rs → AllByRecursion (IsNear budget far' (lead + (most - least))) (each_ahead input budget given k rs)
  all-near-moved input budget least most far far' lead given k [] sound marked enough further near = tt
  all-near-moved input budget least most far far' lead given k (r ∷ rs) sound marked enough further near = (
    near-moved input budget (given k) least most far far' lead r sound.0 marked.0 (enough k (omega arith) (omega arith)) further near.0,
    all-near-moved input budget least most far far' lead given (k + 1) rs sound.1 marked.1 (λ j from to. enough j (omega (arith, from)) (omega (arith, to))) further near.1,
  )

  all-ahead : (input : List ℕ) (budget : ℕ) (given : ℕ → ℕ) (k : ℕ) (rs : List Replica) → AllByRecursion WaitsForWrite rs → AllByRecursion WaitsForWrite (each_ahead input budget given k rs)
  all-ahead input budget given k [] sound = tt
  all-ahead input budget given k (r ∷ rs) sound = (moved-awaits input budget (given k) r sound.0, all-ahead input budget given (k + 1) rs sound.1)

  all-marked-ahead : (input : List ℕ) (budget : ℕ) (given : ℕ → ℕ) (k : ℕ) (rs : List Replica) → AllByRecursion WaitsForWrite rs → AllByRecursion IsMarkedBehind rs → AllByRecursion IsMarkedBehind (each_ahead input budget given k rs)
  all-marked-ahead input budget given k [] sound marked = tt
  all-marked-ahead input budget given k (r ∷ rs) sound marked =
      let has = has-moved input budget (given k) r sound.0 in
      let behind = marked.0 in
      (omega (arith, has.mark, has.counts.least, behind), all-marked-ahead input budget given (k + 1) rs sound.1 marked.1)

  -- each has got from `least` to `most` steps
  leads-ahead : (input : List ℕ) (least most lead : ℕ) (given : ℕ → ℕ) (g : Group) → ((j : ℕ) → given j ≤ most) → ((j : ℕ) → j < length g.replicas → least ≤ given j) → LeadsWithin lead g → LeadsWithin (lead + (most - least)) (ahead input given g)
  leads-ahead input least most lead given g bound enough so = go g.over refl
    where
      there : LeadsWithin (lead + (most - least)) (with_replicas g (each_ahead input g.budget given 0 g.replicas))
      there = record {
        waits = all-ahead input g.budget given 0 g.replicas so.waits;
        marks = all-marked-ahead input g.budget given 0 g.replicas so.waits so.marks;
        within =
            near-all g.budget (farthest (each_ahead input g.budget given 0 g.replicas)) (lead + (most - least)) (each_ahead input g.budget given 0 g.replicas)
            (all-near-moved input g.budget least most (farthest g.replicas) (farthest (each_ahead input g.budget given 0 g.replicas)) lead given 0 g.replicas so.waits so.marks (λ j from to. enough j (omega (arith, to)))
            (farthest-moved input g.budget most given 0 g.replicas bound so.waits) (all-near g.budget (farthest g.replicas) lead g.replicas so.within));
      }

      go : (o : Option GateAnswer) → g.over ≡ o → LeadsWithin (lead + (most - least)) (ahead input given g)
      go (Some end) over = subst (λ (h : Group). LeadsWithin (lead + (most - least)) h) (sym (ahead-over input given g end over)) (record { waits = so.waits; marks = so.marks; within = let less = so.within in omega (arith, less) })
      go None over = subst (λ (h : Group). LeadsWithin (lead + (most - least)) h) (sym (ahead-going input given g over)) there

  pub turns-keep : TurnsKeepTheLead
  turns-keep input n count lead g so =
      subst (λ (h : Group). LeadsWithin (lead + n) h) (sym (in-turn-ahead input n count g))
      (subst (λ l. LeadsWithin l (ahead input (shares n count) g)) (no-less lead n) (leads-ahead input 0 n lead (shares n count) g (shares-most n count) (λ j to. omega arith) so))
    where
      no-less : (a b : ℕ) → a + (b - 0) ≡ a + b
      no-less a b = omega arith

  pub cycles-keep : CyclesKeepTheLead
  cycles-keep input n count lead g all so =
      subst (λ (h : Group). LeadsWithin lead h) (sym (in-turn-ahead input n count g))
      (subst (λ l. LeadsWithin l (ahead input (shares n count) g)) (no-more lead n) (leads-ahead input n n lead (shares n count) g (shares-most n count) (λ j to. let has = shares-earlier n count j (omega (arith, to, all)) in omega (arith, has)) so))
    where
      no-more : (a b : ℕ) → a + (b - b) ≡ a
      no-more a b = omega arith
