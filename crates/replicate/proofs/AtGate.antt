-- A gate of a whole group.
use Rattle.std.proofs.Common.{◌≡◌, ◌<◌, ◌≤◌, ◌+◌, ◌*◌, ℕ, suc, Bool, false, true, cond, nat_lt, List, [], ◌∷◌, ◌++◌, length, map, Option, Some, None, Result, Ok, Err, IfOk, refl, sym, ◌∙◌, ap, subst, arith}
use Rattle.std.specs.List.{AllByRecursion}
use Rattle.std.proofs.lemmas.Bool.{true≢false}
use Rattle.std.proofs.lemmas.Bool.Decides.{nat_tests}
use Rattle.ex_io.specs.Tape.{Track}
use Rattle.patch_table.specs.Table.{IsBelow, Table}
use Rattle.layout_run.specs.declared.ran.RunRefusal.{RunRefusal}
use Rattle.replicate.specs.declared.answer.GateAnswer.{GateAnswer}
use Rattle.replicate.specs.declared.answer.GateAnswer.TheVariants as answer
use Rattle.replicate.specs.declared.answer.Patched.{Patched}
use Rattle.replicate.specs.declared.answer.Retired.{Retired}
use Rattle.replicate.specs.declared.arrival.Arrival.{Arrival}
use Rattle.replicate.specs.declared.group.Group as code
use Rattle.replicate.specs.declared.seat.Seat.{Seat}
use Rattle.replicate.specs.Gates.{Cured, CuresWhere, DecidesBy, Gates, GatesFrom, IsOpened, WaitsOrDecides, answer_of, any_signalled, counted_gates, end_at, image_of, live_count, losers_from, lost, missing_from, opened, passed, settled_by, votes_of, winners, wins, won}
use Rattle.replicate.specs.GroupStands.{GoesBy, HaveTag, IsGroup}
use Rattle.replicate.specs.Groups as model
use Rattle.replicate.specs.Replicas.{Replica}
use Rattle.replicate.specs.Standings.{AreKept, AreSameSeats, IsAnswered, SeatsAre}
use Rattle.replicate.specs.Votes.{count_for, count_of, largest_of, vote_of, winner_of}

-- ---- what stays

tags-same : (tag : ℕ) (old new : List Seat) → AreSameSeats old new → HaveTag tag old → HaveTag tag new
tags-same tag [] [] same have = tt
tags-same tag [] (s ∷ ss) same have = absurd same
tags-same tag (s ∷ ss) [] same have = absurd same
tags-same tag (s ∷ ss) (t ∷ ts) same have = (same.0.tag ∙ have.0, tags-same tag ss ts same.1 have.1)

pub count-same : (old new : List Seat) → AreSameSeats old new → length new ≡ length old
count-same [] [] same = refl
count-same [] (s ∷ ss) same = absurd same
count-same (s ∷ ss) [] same = absurd same
count-same (s ∷ ss) (t ∷ ts) same = ap suc (count-same ss ts same.1)

known-same : (track : Track) (old new : List Seat) → AreSameSeats old new → AllByRecursion (IsAnswered track) old → AllByRecursion (IsAnswered track) new
known-same track [] [] same all = tt
known-same track [] (s ∷ ss) same all = absurd same
known-same track (s ∷ ss) [] same all = absurd same
known-same track (s ∷ ss) (t ∷ ts) same all = (subst (λ n. n < track.high + 1) (sym same.0.place) all.0, known-same track ss ts same.1 all.1)

pub places-same : (track : Track) (old new : List Seat) → AreSameSeats old new → AreKept track old → AreKept track new
places-same track old new same kept = record { keep = kept.keep; going = kept.going; known = known-same track old new same kept.known }

-- ---- those that go on

goes-on : (b : Bool) (table : Table) (r : Replica) → GoesBy table (settled_by b table r)
goes-on true table r = λ live. refl
goes-on false table r = λ live. absurd (true≢false (sym live))

all-go-on : (budget : ℕ) (a : Arrival) (table : Table) (rs : List Replica) → AllByRecursion (GoesBy table) (map (passed budget a table) rs)
all-go-on budget a table [] = tt
all-go-on budget a table (r ∷ rs) = (goes-on (wins budget a r) table r, all-go-on budget a table rs)

one-more : (b : Bool) (table : Table) (r : Replica) (n : ℕ) (ws : List Replica) → n ≡ length ws → cond (settled_by b table r).live (suc n) n ≡ length (cond b (r ∷ ws) ws)
one-more true table r n ws is = ap suc is
one-more false table r n ws is = is

live-winners : (budget : ℕ) (a : Arrival) (table : Table) (rs : List Replica) → live_count (map (passed budget a table) rs) ≡ length (winners budget a rs)
live-winners budget a table [] = refl
live-winners budget a table (r ∷ rs) = one-more (wins budget a r) table r (live_count (map (passed budget a table) rs)) (winners budget a rs) (live-winners budget a table rs)

-- ---- there are two winners at least

counted-by : (b : Bool) (r : Replica) (n : ℕ) (ws : List Replica) → n ≡ length ws → cond b (suc n) n ≡ length (cond b (r ∷ ws) ws)
counted-by true r n ws is = ap suc is
counted-by false r n ws is = is

count-winners : (budget : ℕ) (a : Arrival) (rs : List Replica) → count_for a (map (vote_of budget) rs) ≡ length (winners budget a rs)
count-winners budget a [] = refl
count-winners budget a (r ∷ rs) = counted-by (wins budget a r) r (count_for a (map (vote_of budget) rs)) (winners budget a rs) (count-winners budget a rs)

most-of : (live : ℕ) (a : Arrival) (all votes : List (Option Arrival)) → winner_of live all votes ≡ Some a → live < 2 * count_for a all
most-of live a all [] is = absurd (no is)
  where
    no : None ≡ Some a → ⊥
    no e = cc
most-of live a all (vote ∷ votes) is = go (most-of live a all votes) (nat_lt live (2 * count_of vote all)) refl is
  where
    go : (winner_of live all votes ≡ Some a → live < 2 * count_for a all) → (b : Bool) → nat_lt live (2 * count_of vote all) ≡ b → cond b vote (winner_of live all votes) ≡ Some a → live < 2 * count_for a all
    go rest true less e =
        let count : count_of vote all ≡ count_for a all = ap (λ v. count_of v all) e in
        let less' : live < 2 * count_of vote all = grind (arith, nat_tests) in
        omega (arith, count, less')
    go rest false less e = rest e

pub two-winners : (g : model.Group) (a : Arrival) → 2 ≤ live_count g.replicas → won g ≡ Some a → 2 ≤ length (winners g.budget a g.replicas)
two-winners g a many is =
    let most = most-of (live_count g.replicas) a (votes_of g) (votes_of g) is in
    let count : count_for a (votes_of g) ≡ length (winners g.budget a g.replicas) = count-winners g.budget a g.replicas in
    omega (arith, most, count, many)

-- ---- an open gate

pub opens : (g : model.Group) (a : Arrival) (old new : code.Group) (votes : List (Option Arrival)) (s1 s2 s3 s4 s5 : List Seat) (gate : ℕ) (over : Option GateAnswer) (changed : Bool) (table : Table) (patched : List Patched) (retired : List Retired) (got : GateAnswer)
    → IsGroup g old → votes ≡ votes_of g → 2 ≤ length (winners g.budget a g.replicas) → s1 ≡ old.seats.items → s2 ≡ old.seats.items → s3 ≡ old.seats.items → s4 ≡ old.seats.items → gate ≡ old.gates + 1
    → ((budget : ℕ) (rs : List Replica) → SeatsAre budget rs s1 → votes ≡ map (vote_of budget) rs → over ≡ end_at a (winners budget a rs))
    → ((budget tag : ℕ) (rs : List Replica) → SeatsAre budget rs s2 → HaveTag tag s2 → votes ≡ map (vote_of budget) rs → 2 ≤ length (winners budget a rs)
    → CuresWhere (any_signalled (winners budget a rs)) gate (map (image_of tag) (winners budget a rs)) (record { table = old.patches; patched = old.patched.items }) (record { table = table; patched = patched }))
    → (changed ≡ false → table ≡ old.patches) → IsBelow old.patches table
    → ((budget : ℕ) (rs : List Replica) → SeatsAre budget rs s3 → votes ≡ map (vote_of budget) rs → retired ≡ old.retired.items ++ losers_from budget a gate 0 rs)
    → ((budget : ℕ) (rs : List Replica) (t : Table) → SeatsAre budget rs s4 → AllByRecursion (GoesBy t) rs → IsBelow t table → (changed ≡ false → table ≡ t) → votes ≡ map (vote_of budget) rs → SeatsAre budget (map (passed budget a table) rs) s5)
    → AreSameSeats s4 s5
    → new.seats.items ≡ s5 → new.patches ≡ table → new.patched.items ≡ patched → new.retired.items ≡ retired → new.over ≡ over → new.gates ≡ counted_gates over old.gates → got ≡ answer_of over
    → (to : model.Group) × IsOpened g a got to × IsGroup to new
opens g a old new votes s1 s2 s3 s4 s5 gate over changed table patched retired got is are two e1 e2 e3 e4 more ends cures unchanged below losers settled same seats' patches' patched' retired' over' gates' gets =
    let cured : Cured = record { table = table; patched = patched } in
    let from : List Seat → Type 0 = λ ss. SeatsAre g.budget g.replicas ss in
    let end : over ≡ end_at a (winners g.budget a g.replicas) = ends g.budget g.replicas (subst from (sym e1) is.seats) are in
    let number : gate ≡ g.gates + 1 = more ∙ ap (λ n. n + 1) is.gates in
    let cure = cures g.budget g.tag g.replicas (subst from (sym e2) is.seats) (subst (HaveTag g.tag) (sym e2) is.tags) are two in
    let cure' : CuresWhere (any_signalled (winners g.budget a g.replicas)) (g.gates + 1) (map (image_of g.tag) (winners g.budget a g.replicas)) (record { table = g.table; patched = g.patched }) cured =
    subst (λ (n : ℕ). CuresWhere (any_signalled (winners g.budget a g.replicas)) n (map (image_of g.tag) (winners g.budget a g.replicas)) (record { table = g.table; patched = g.patched }) cured) number
    (subst (λ (x : Cured). CuresWhere (any_signalled (winners g.budget a g.replicas)) gate (map (image_of g.tag) (winners g.budget a g.replicas)) x cured) (λ k. record { table = is.table k; patched = is.patched k }) cure) in (
      opened g a cured,
      record { cured = cured; cures = cure'; is = refl; answer = gets ∙ ap answer_of end },
      record {
        seats = subst (λ (ss : List Seat). SeatsAre g.budget (map (passed g.budget a table) g.replicas) ss) (sym seats')
            (settled g.budget g.replicas g.table (subst from (sym e4) is.seats) is.tables (subst (λ (t : Table). IsBelow t table) is.table below) (λ no. unchanged no ∙ is.table) are);
        tags = subst (HaveTag g.tag) (sym seats') (tags-same g.tag s4 s5 same (subst (HaveTag g.tag) (sym e4) is.tags));
        table = patches';
        tables = all-go-on g.budget a table g.replicas;
        gates = gates' ∙ (λ k. counted_gates (end k) (is.gates k));
        retired = retired' ∙ losers g.budget g.replicas (subst from (sym e3) is.seats) are ∙ (λ k. is.retired k ++ losers_from g.budget a (number k) 0 g.replicas);
        patched = patched';
        over = over' ∙ end;
        many = subst (λ n. 2 ≤ n) (sym (live-winners g.budget a table g.replicas)) two;
      },
    )

-- ---- a vote

pub has-won : (g : model.Group) (w : Option Arrival) (live : ℕ) (votes shown : List (Option Arrival)) → live ≡ live_count g.replicas → shown ≡ votes → votes ≡ votes_of g → winner_of live shown shown ≡ w → won g ≡ w
has-won g w live votes shown is e are wins = (λ k. winner_of (sym is k) (sym (e ∙ are) k) (sym (e ∙ are) k)) ∙ wins

pub decides-won : (g : model.Group) (a : Arrival) (result : Result GateAnswer RunRefusal) (new : code.Group) → won g ≡ Some a → IfOk result (λ got. (to : model.Group) × IsOpened g a got to × IsGroup to new) → IfOk result (λ got. (to : model.Group) × DecidesBy (won g) g got to × IsGroup to new)
decides-won g a (Err refused) new is opened = tt
decides-won g a (Ok got) new is opened = (opened.0, subst (λ (w : Option Arrival). DecidesBy w g got opened.0) (sym is) opened.1, opened.2)

pub decides-lost : (g : model.Group) (old new : code.Group) (largest live : ℕ) → IsGroup g old → won g ≡ None → largest ≡ largest_of (votes_of g) (votes_of g) → live ≡ live_count g.replicas
    → new.seats.items ≡ old.seats.items → new.patches ≡ old.patches → new.gates ≡ old.gates → new.retired.items ≡ old.retired.items → new.patched.items ≡ old.patched.items → new.over ≡ Some (answer.Lost largest live)
    → (to : model.Group) × DecidesBy (won g) g (answer.Lost largest live) to × IsGroup to new
decides-lost g old new largest live is none most count seats patches gates retired patched over =
    let lost' : answer.Lost largest live ≡ lost g = (λ k. answer.Lost (most k) (count k)) in (
      record g { over = Some (lost g) },
      subst (λ (w : Option Arrival). DecidesBy w g (answer.Lost largest live) (record g { over = Some (lost g) })) (sym none) (lost', refl),
      record {
        seats = subst (λ (ss : List Seat). SeatsAre g.budget g.replicas ss) (sym seats) is.seats;
        tags = subst (HaveTag g.tag) (sym seats) is.tags;
        table = patches ∙ is.table;
        tables = is.tables;
        gates = gates ∙ is.gates;
        retired = retired ∙ is.retired;
        patched = patched ∙ is.patched;
        over = over ∙ ap (λ (x : GateAnswer). Some x) lost';
        many = is.many;
      },
    )

-- ---- the gate

pub gates-over : (g : model.Group) (group : code.Group) (over : GateAnswer) → IsGroup g group → group.over ≡ Some over → (to : model.Group) × Gates g over to × IsGroup to group
gates-over g group over is ended = (g, subst (λ o. GatesFrom o g over g) (sym (sym is.over ∙ ended)) (refl, refl), is)

pub gates-waiting : (g : model.Group) (group : code.Group) (shown : List Seat) (i : ℕ) → IsGroup g group → group.over ≡ None → shown ≡ group.seats.items → ((budget : ℕ) (rs : List Replica) → SeatsAre budget rs shown → Some i ≡ missing_from budget 0 rs)
    → (to : model.Group) × Gates g (answer.Waiting i) to × IsGroup to group
gates-waiting g group shown i is going e told =
    let missing = told g.budget g.replicas (subst (λ (ss : List Seat). SeatsAre g.budget g.replicas ss) (sym e) is.seats) in
    (g, subst (λ o. GatesFrom o g (answer.Waiting i) g) (sym (sym is.over ∙ going)) (subst (λ m. WaitsOrDecides m g (answer.Waiting i) g) missing (refl, refl)), is)

pub gates-decided : (g : model.Group) (group new : code.Group) (shown : List Seat) (got : GateAnswer) → IsGroup g group → group.over ≡ None → shown ≡ group.seats.items → ((budget : ℕ) (rs : List Replica) → SeatsAre budget rs shown → None ≡ missing_from budget 0 rs)
    → ((to : model.Group) × DecidesBy (won g) g got to × IsGroup to new) → (to : model.Group) × Gates g got to × IsGroup to new
gates-decided g group new shown got is going e told decided =
    let missing = told g.budget g.replicas (subst (λ (ss : List Seat). SeatsAre g.budget g.replicas ss) (sym e) is.seats) in
    (decided.0, subst (λ o. GatesFrom o g got decided.0) (sym (sym is.over ∙ going)) (subst (λ m. WaitsOrDecides m g got decided.0) missing decided.1), decided.2)
