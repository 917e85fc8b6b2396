-- A gate has one answer and leaves one group.
use Rattle.std.proofs.Common.{◌≡◌, ◌≢◌, ◌⊎◌, ℕ, zero, suc, ◌+◌, Bool, false, true, List, [], ◌∷◌, ◌++◌, map, slice_index_or, Option, None, Some, inl, inr, sym, ◌∙◌, ap, subst, arith}
use Rattle.culprits.specs.declared.isolated.Isolated.{Isolated}
use Rattle.culprits.specs.Isolated.{IsIsolatedFrom, IsJoined}
use Rattle.culprits.specs.Laws.{JoinsOne}
use Rattle.patch_table.specs.Table.{Table}
use Rattle.heap_image.specs.Agreement.{AreAlike, AreComparable, AreMixed, Differ}
use Rattle.heap_image.specs.Snapshot.{Snapshot}
use Rattle.overflow_isolator.specs.Laws.{ImagesHaveOneList}
use Rattle.overflow_isolator.specs.Overflows.{AreOverflowsOf, AreUnderflowsOf}
use Rattle.dangling_isolator.specs.Danglings.{AreDanglings}
use Rattle.dangling_isolator.specs.Laws.{ImagesHaveOneList as HaveOneOfDanglings}
use Rattle.replicate.specs.declared.answer.GateAnswer.{GateAnswer}
use Rattle.replicate.specs.declared.arrival.Arrival.{Arrival}
use Rattle.replicate.specs.Gates.{Cured, CuresBy, CuresWhere, DecidesBy, Gates, GatesFrom, IsJoinedAt, IsOpened, WaitsOrDecides, any_signalled, cured_in, image_of, missing_from, opened, winners, won}
use Rattle.replicate.specs.Groups.{Group}
use Rattle.replicate.specs.Rounds.{GatesAreOne, IsRound, IsRoundAfter, Rounds, RoundsAreOne, gathered}

-- ---- images are comparable or mixed, and not both

not-both-alike : (a b : Snapshot) → AreAlike a b → Differ a b → ⊥
not-both-alike a b alike (inl tags) = tags alike.tag
not-both-alike a b alike (inr (inl places)) = places alike.place
not-both-alike a b alike (inr (inr (inl patches))) = patches alike.patches
not-both-alike a b alike (inr (inr (inr seeds))) = alike.seeds seeds

not-mixed : (images : List Snapshot) → AreComparable images → AreMixed images → ⊥
not-mixed [] comparable (i, j, less, within, differ) = absurd (omega arith)
not-mixed (s ∷ ss) comparable (i, j, less, within, differ) = not-both-alike (slice_index_or (s ∷ ss) i s) (slice_index_or (s ∷ ss) j s) (comparable.alike i j s less within) (differ s)

-- ---- so many rounds

pub rounds-zero : (input : List ℕ) (start g : Group) → Rounds input start 0 g → g ≡ start
unfolding Rounds
rounds-zero input start g are = are

pub rounds-suc : (input : List ℕ) (start : Group) (n : ℕ) (g : Group) → Rounds input start (suc n) g → IsRoundAfter input (Rounds input start n) g
unfolding Rounds
rounds-suc input start n g are = are

pub rounds-begin : (input : List ℕ) (start g : Group) → g ≡ start → Rounds input start 0 g
unfolding Rounds
rounds-begin input start g is = is

pub rounds-more : (input : List ℕ) (start : Group) (n : ℕ) (g : Group) → IsRoundAfter input (Rounds input start n) g → Rounds input start (suc n) g
unfolding Rounds
rounds-more input start n g are = are

-- ---- what they call for

module _ (found : ImagesHaveOneList) (late : HaveOneOfDanglings) (one : JoinsOne) where
  isolates-one : (images : List Snapshot) (old : Table) (a b : Isolated) → IsIsolatedFrom (AreOverflowsOf images) (AreUnderflowsOf images) (AreDanglings images) old a → IsIsolatedFrom (AreOverflowsOf images) (AreUnderflowsOf images) (AreDanglings images) old b → a ≡ b
  isolates-one images old a b p q =
      let overflows : p.overflows ≡ q.overflows = found.overflows images p.overflows q.overflows p.are_overflows q.are_overflows in
      let underflows : p.underflows ≡ q.underflows = found.underflows images p.underflows q.underflows p.are_underflows q.are_underflows in
      let danglings : p.danglings ≡ q.danglings = late images p.danglings q.danglings p.are_danglings q.are_danglings in
      one q.overflows q.underflows q.danglings old a b
      (subst (λ d. IsJoined q.overflows q.underflows d old a) danglings
      (subst (λ u. IsJoined q.overflows u p.danglings old a) underflows
      (subst (λ o. IsJoined o p.underflows p.danglings old a) overflows p.joined)))
      q.joined

  -- the list of gates that changed the table
  abbrev IsListed : (gate : ℕ) → (old : Cured) → Isolated → (new : Cured) → Type 0
  IsListed gate old isolated new = ((isolated.patches ≡ old.table) × (new.patched ≡ old.patched)) ⊎ ((isolated.patches ≢ old.table) × (new.patched ≡ old.patched ++ record { gate = gate; pads = isolated.pads; defers = isolated.defers } ∷ []))

  one-list : (gate : ℕ) (old : Cured) (a b : Isolated) (x y : Cured) → a ≡ b → IsListed gate old a x → IsListed gate old b y → x.patched ≡ y.patched
  one-list gate old a b x y same (inl (kept, is)) (inl (kept', is')) = is ∙ sym is'
  one-list gate old a b x y same (inl (kept, is)) (inr (changed, is')) = absurd (changed (ap (λ (i : Isolated). i.patches) (sym same) ∙ kept))
  one-list gate old a b x y same (inr (changed, is)) (inl (kept, is')) = absurd (changed (ap (λ (i : Isolated). i.patches) same ∙ kept))
  one-list gate old a b x y same (inr (changed, is)) (inr (changed', is')) =
      is ∙ ap (λ (i : Isolated). old.patched ++ record { gate = gate; pads = i.pads; defers = i.defers } ∷ []) same ∙ sym is'

  one-cured : (x y : Cured) → x.table ≡ y.table → x.patched ≡ y.patched → x ≡ y
  one-cured x y tables lists = λ i. record { table = tables i; patched = lists i }

  joined-one : (gate : ℕ) (images : List Snapshot) (old x y : Cured) → IsJoinedAt gate images old x → IsJoinedAt gate images old y → x ≡ y
  joined-one gate images old x y p q =
      let same : p.isolated ≡ q.isolated = isolates-one images old.table p.isolated q.isolated p.found q.found in
      one-cured x y (p.table ∙ ap (λ (i : Isolated). i.patches) same ∙ sym q.table) (one-list gate old p.isolated q.isolated x y same p.listed q.listed)

  cures-one : (gate : ℕ) (images : List Snapshot) (old x y : Cured) → CuresBy gate images old x → CuresBy gate images old y → x ≡ y
  cures-one gate images old x y (inl (mixed, is)) (inl (mixed', is')) = is ∙ sym is'
  cures-one gate images old x y (inl (mixed, is)) (inr q) = absurd (not-mixed images q.comparable mixed)
  cures-one gate images old x y (inr p) (inl (mixed, is)) = absurd (not-mixed images p.comparable mixed)
  cures-one gate images old x y (inr p) (inr q) = joined-one gate images old x y p q

  cured-one : (has_signal : Bool) (gate : ℕ) (images : List Snapshot) (old x y : Cured) → CuresWhere has_signal gate images old x → CuresWhere has_signal gate images old y → x ≡ y
  cured-one false gate images old x y p q = p ∙ sym q
  cured-one true gate images old x y p q = cures-one gate images old x y p q

  -- ---- the gate

  opened-one : (g : Group) (a : Arrival) (got got' : GateAnswer) (to to' : Group) → IsOpened g a got to → IsOpened g a got' to' → (got ≡ got') × (to ≡ to')
  opened-one g a got got' to to' p q =
      let same : p.cured ≡ q.cured = cured-one (any_signalled (winners g.budget a g.replicas)) (g.gates + 1) (map (image_of g.tag) (winners g.budget a g.replicas)) (cured_in g) p.cured q.cured p.cures q.cures in
      (p.answer ∙ sym q.answer, p.is ∙ ap (opened g a) same ∙ sym q.is)

  decides-one : (vote : Option Arrival) (g : Group) (got got' : GateAnswer) (to to' : Group) → DecidesBy vote g got to → DecidesBy vote g got' to' → (got ≡ got') × (to ≡ to')
  decides-one None g got got' to to' p q = (p.0 ∙ sym q.0, p.1 ∙ sym q.1)
  decides-one (Some a) g got got' to to' p q = opened-one g a got got' to to' p q

  waits-one : (missing : Option ℕ) (g : Group) (got got' : GateAnswer) (to to' : Group) → WaitsOrDecides missing g got to → WaitsOrDecides missing g got' to' → (got ≡ got') × (to ≡ to')
  waits-one (Some i) g got got' to to' p q = (p.0 ∙ sym q.0, p.1 ∙ sym q.1)
  waits-one None g got got' to to' p q = decides-one (won g) g got got' to to' p q

  gates-from-one : (over : Option GateAnswer) (g : Group) (got got' : GateAnswer) (to to' : Group) → GatesFrom over g got to → GatesFrom over g got' to' → (got ≡ got') × (to ≡ to')
  gates-from-one (Some over) g got got' to to' p q = (p.0 ∙ sym q.0, p.1 ∙ sym q.1)
  gates-from-one None g got got' to to' p q = waits-one (missing_from g.budget 0 g.replicas) g got got' to to' p q

  pub gates-one : GatesAreOne
  gates-one g got got' a b p q = gates-from-one g.over g got got' a b p q

  -- ---- rounds

  round-one : (input : List ℕ) (from from' to to' : Group) → from ≡ from' → IsRound input from to → IsRound input from' to' → to ≡ to'
  round-one input from from' to to' same p q = (gates-one (gathered input from') p.got q.got to to' (subst (λ (g : Group). Gates (gathered input g) p.got to) same p.gate) q.gate).1

  pub rounds-one : RoundsAreOne
  rounds-one input start zero a b p q = rounds-zero input start a p ∙ sym (rounds-zero input start b q)
  rounds-one input start (suc n) a b p q =
      let r = rounds-suc input start n a p in
      let s = rounds-suc input start n b q in
      round-one input r.from s.from a b (rounds-one input start n r.from s.from r.reached s.reached) r.round s.round
