-- Windows that have no broken byte in common.
use Rattle.std.proofs.Common.{inl, inr, ◌≡◌, ◌⊎◌, ℕ, ◌+◌, ◌-◌, ◌<◌, ◌≤◌, List, length, get_or, sym, ap, subst, ◌∙◌, arith}
use Rattle.std.specs.Prelude.{IsSomeAnd}
use Rattle.heap_image.specs.declared.image.Broken.{Broken}
use Rattle.heap_image.specs.Agreement.{Allocation, allocation_of, row_of}
use Rattle.heap_image.specs.Lookup.{AddrsRise}
use Rattle.heap_image.specs.Snapshot.{Snapshot}
use Rattle.overflow_isolator.specs.Windows.{AreApart, AreBreaksOf, IsApartIn, IsBrokenBefore, IsWindowOf, ShareNothing, end_from}
use Rattle.overflow_isolator.specs.declared.window.Window.{Window}
use Rattle.overflow_isolator.proofs.Windows.{at_any, moved}

-- ---- the walk through two windows side by side

-- no byte before one's place or the other's is as far back as one of the other window
pub record AreUnmet (one other : Window) (ones others : List Broken) (i j : ℕ) : Type 0 where
  pub unmet : (d : Broken) (k m : ℕ) → k < length ones → m < length others → (k < i) ⊎ (m < j) → one.end - (get_or ones k d).addr ≡ other.end - (get_or others m d).addr → ⊥

pub unmet_first : (one other : Window) (ones others : List Broken) → AreUnmet one other ones others 0 0
unmet_first one other ones others = record { unmet = λ d k m _ _ h _. none k m h }
  where
    none : (k m : ℕ) → (k < 0) ⊎ (m < 0) → ⊥
    none k m (inl h) = omega (arith, h)
    none k m (inr h) = omega (arith, h)

module _ (one other : Window) (ones others : List Broken) (i j far near : ℕ) (a b : Broken) (in_ones : i < length ones) (in_others : j < length others) (is_far : far ≡ one.end - (get_or ones i a).addr) (is_near : near ≡ other.end - (get_or others j b).addr) (miss : far ≡ near → ⊥) (walked : AreUnmet one other ones others i j) where
  far_at : (d : Broken) → far ≡ one.end - (get_or ones i d).addr
  far_at d = is_far ∙ ap (λ (x : Broken). one.end - x.addr) (at_any ones i a d in_ones)

  near_at : (d : Broken) → near ≡ other.end - (get_or others j d).addr
  near_at d = is_near ∙ ap (λ (x : Broken). other.end - x.addr) (at_any others j b d in_others)

  -- one's byte lies farther than all that are left of the other window
  pub unmet_one : AddrsRise others → near ≤ far → AreUnmet one other ones others (i + 1) j
  unmet_one rise le = record { unmet = λ d k m lt mt h same. split d k m lt mt (cases k m h) same }
    where
      cases : (k m : ℕ) → (k < i + 1) ⊎ (m < j) → ((k < i) ⊎ (m < j)) ⊎ ((k ≡ i) × (j ≤ m))
      cases k m h = grind arith

      split : (d : Broken) (k m : ℕ) → k < length ones → m < length others → ((k < i) ⊎ (m < j)) ⊎ ((k ≡ i) × (j ≤ m)) → one.end - (get_or ones k d).addr ≡ other.end - (get_or others m d).addr → ⊥
      split d k m lt mt (inl h) same = walked.unmet d k m lt mt h same
      split d k m lt mt (inr h) same =
          let here : far ≡ one.end - (get_or ones k d).addr = far_at d ∙ ap (λ n. one.end - (get_or ones n d).addr) (sym h.0) in
          let there : near ≡ other.end - (get_or others j d).addr = near_at d in
          let up : (get_or others j d).addr ≤ (get_or others m d).addr = rise d j m h.1 mt in
          miss (omega (arith, le, here, there, up, same))

  -- the other's byte lies farther than all that are left of the one window
  pub unmet_other : AddrsRise ones → far < near → AreUnmet one other ones others i (j + 1)
  unmet_other rise less = record { unmet = λ d k m lt mt h same. split d k m lt mt (cases k m h) same }
    where
      cases : (k m : ℕ) → (k < i) ⊎ (m < j + 1) → ((k < i) ⊎ (m < j)) ⊎ ((m ≡ j) × (i ≤ k))
      cases k m h = grind arith

      split : (d : Broken) (k m : ℕ) → k < length ones → m < length others → ((k < i) ⊎ (m < j)) ⊎ ((m ≡ j) × (i ≤ k)) → one.end - (get_or ones k d).addr ≡ other.end - (get_or others m d).addr → ⊥
      split d k m lt mt (inl h) same = walked.unmet d k m lt mt h same
      split d k m lt mt (inr h) same =
          let here : far ≡ one.end - (get_or ones i d).addr = far_at d in
          let there : near ≡ other.end - (get_or others m d).addr = near_at d ∙ ap (λ n. other.end - (get_or others n d).addr) (sym h.0) in
          let up : (get_or ones i d).addr ≤ (get_or ones k d).addr = rise d i k h.1 lt in
          omega (arith, less, here, there, up, same)

pub all_unmet : (one other : Window) (ones others : List Broken) (i j : ℕ) → AreBreaksOf one ones → AreBreaksOf other others → AreUnmet one other ones others i j → (length ones ≤ i) ⊎ (length others ≤ j) → AreApart one other
all_unmet one other ones others i j of_one of_other walked ended distance low high h k =
    let a = of_one.all distance low high h in
    let b = of_other.all distance low high k in
    let d : Broken = record { addr = 0; byte = 0 } in
    let here : (get_or ones a.0 d).addr + distance ≡ one.end = a.2 d in
    let there : (get_or others b.0 d).addr + distance ≡ other.end = b.2 d in
    walked.unmet d a.0 b.0 a.1 b.1 (either a.0 b.0 a.1 b.1 ended) (omega (arith, here, there))
  where
    either : (n m : ℕ) → n < length ones → m < length others → (length ones ≤ i) ⊎ (length others ≤ j) → (n < i) ⊎ (m < j)
    either n m nt mt (inl h) = inl (omega arith)
    either n m nt mt (inr h) = inr (omega arith)

-- ---- windows of an object

pub apart_in : (first w : Window) (object gap : ℕ) (a : Allocation) (s : Snapshot) → IsWindowOf object gap s w → AreApart first w → IsApartIn first object gap a s
apart_in first w object gap a s of apart agreed distance low high broken there = apart distance low high broken (moved object gap distance s w of there)

pub window_at : (images : List Snapshot) (object gap i : ℕ) (s d : Snapshot) (w : Window) → i < length images → s ≡ get_or images i s → IsWindowOf object gap s w → IsWindowOf object gap (get_or images i d) w
window_at images object gap i s d w lt is of = subst (λ t. IsWindowOf object gap t w) (is ∙ at_any images i s d lt) of

-- one image says otherwise
pub nothing_agreed : (images : List Snapshot) (object gap i : ℕ) (a : Allocation) (s : Snapshot) → i < length images → s ≡ get_or images i s → ¬ IsSomeAnd (row_of object s) (λ r. allocation_of r ≡ a) → ShareNothing images object gap a
nothing_agreed images object gap i a s lt is miss agreed distance low high all = miss (subst (λ t. IsSomeAnd (row_of object t) (λ r. allocation_of r ≡ a)) (sym is) (agreed i s lt))

-- one image has no broken byte in common with the first
pub nothing_shared : (images : List Snapshot) (object gap i : ℕ) (a : Allocation) (s : Snapshot) (first : Window) → 0 < length images → ((d : Snapshot) → IsWindowOf object gap (get_or images 0 d) first) → i < length images → s ≡ get_or images i s → IsApartIn first object gap a s → ShareNothing images object gap a
nothing_shared images object gap i a s first some at lt is apart agreed distance low high all =
    let here = subst (λ t. IsSomeAnd (row_of object t) (λ r. allocation_of r ≡ a)) (sym is) (agreed i s lt) in
    let there = subst (λ t. IsBrokenBefore (end_from gap (row_of object t)) distance t) (sym is) (all i s lt) in
    apart here distance low high (moved object gap distance (get_or images 0 s) first (at s) (all 0 s some)) there
