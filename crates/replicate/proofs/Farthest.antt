-- How far replicas are ahead of others, from one place of a group on.
use Rattle.std.proofs.Common.{◌≡◌, ◌+◌, ℕ, Bool, false, true, cond, max, List, [], drop, refl, ◌∙◌, ap, arith}
use Rattle.replicate.specs.Groups.{behind, farthest, most_behind, steps_since}
use Rattle.replicate.specs.Replicas.{Replica}
use Rattle.replicate.specs.Seats.{IsSeat}
use Rattle.replicate.specs.declared.seat.Seat.{Seat}
use Rattle.replicate.proofs.Voting.{IsPlaced}

farthest-by : (live : Bool) (steps rest : ℕ) → cond live (max steps rest) rest ≡ max (cond live steps 0) rest
farthest-by true steps rest = refl
farthest-by false steps rest = omega arith

pub farthest-more : (budget i most steps : ℕ) (rs : List Replica) (seat : Seat) → IsPlaced budget i rs seat → ((r : Replica) → IsSeat r seat → steps ≡ cond r.live (steps_since r) 0) → max most (farthest (drop i rs)) ≡ farthest rs
    → max (max most steps) (farthest (drop (i + 1) rs)) ≡ farthest rs
farthest-more budget i most steps rs seat p told so =
    let here : farthest (drop i rs) ≡ max (cond p.r.live (steps_since p.r) 0) (farthest (drop (i + 1) rs)) = ap farthest p.splits ∙ farthest-by p.r.live (steps_since p.r) (farthest (drop (i + 1) rs)) in
    let is = told p.r p.stands in
    omega (arith, here, is, so)

pub farthest-end : (i most : ℕ) (rs : List Replica) → drop i rs ≡ [] → max most (farthest (drop i rs)) ≡ farthest rs → most ≡ farthest rs
farthest-end i most rs none so = let here : farthest (drop i rs) ≡ 0 = ap farthest none in omega (arith, here, so)

pub behind-more : (budget i lead most steps : ℕ) (rs : List Replica) (seat : Seat) → IsPlaced budget i rs seat → ((r : Replica) → IsSeat r seat → steps ≡ behind seat.budget most r) → max lead (most_behind budget most (drop i rs)) ≡ most_behind budget most rs
    → max (max lead steps) (most_behind budget most (drop (i + 1) rs)) ≡ most_behind budget most rs
behind-more budget i lead most steps rs seat p told so =
    let here : most_behind budget most (drop i rs) ≡ max (behind budget most p.r) (most_behind budget most (drop (i + 1) rs)) = ap (most_behind budget most) p.splits in
    let is : steps ≡ behind budget most p.r = told p.r p.stands ∙ ap (λ b. behind b most p.r) p.budgeted in
    omega (arith, here, is, so)

pub behind-end : (budget i lead most : ℕ) (rs : List Replica) → drop i rs ≡ [] → max lead (most_behind budget most (drop i rs)) ≡ most_behind budget most rs → most ≡ farthest rs → lead ≡ most_behind budget (farthest rs) rs
behind-end budget i lead most rs none so is =
    let here : most_behind budget most (drop i rs) ≡ 0 = ap (most_behind budget most) none in
    let now : lead ≡ most_behind budget most rs = omega (arith, here, so) in
    now ∙ ap (λ m. most_behind budget m rs) is
