-- The seats of a new group.
use Rattle.std.proofs.Common.{◌≡◌, ◌+◌, ◌≤◌, ℕ, suc, List, [], ◌∷◌, ◌++◌, length, map, None, refl, sym, ◌∙◌, ap, subst, arith}
use Rattle.std.specs.List.{AllByRecursion, range_with_len}
use Rattle.std.proofs.lemmas.List.FromFn.{length-range_with_len, map-range_with_len_more}
use Rattle.infinite_heap.specs.Loaded.{Loaded}
use Rattle.rv_machine.specs.declared.settings.Settings.{Settings}
use Rattle.replicate.specs.declared.group.Group as code
use Rattle.replicate.specs.declared.seat.Seat.{Seat}
use Rattle.replicate.specs.Gates.{live_count}
use Rattle.replicate.specs.GroupStands.{GoesBy, HaveTag, IsGroup}
use Rattle.replicate.specs.Replicas.{Replica}
use Rattle.replicate.specs.Rounds.{replica_at, started}
use Rattle.replicate.specs.Seats.{IsSeat}
use Rattle.replicate.specs.Standings.{SeatsAre}

pub all-more : {A : Type 0} (P : A → Type 0) (xs : List A) (x : A) → P x → AllByRecursion P xs → AllByRecursion P (xs ++ x ∷ [])
all-more P [] x is all = (is, tt)
all-more P (y ∷ ys) x is all = (all.0, all-more P ys x is all.1)

seats-more : (budget : ℕ) (rs : List Replica) (seats : List Seat) (r : Replica) (seat : Seat) → IsSeat r seat → seat.budget ≡ budget → SeatsAre budget rs seats → SeatsAre budget (rs ++ r ∷ []) (seats ++ seat ∷ [])
seats-more budget [] [] r seat is same so = (is, same, tt)
seats-more budget [] (s ∷ ss) r seat is same so = absurd so
seats-more budget (x ∷ xs) [] r seat is same so = absurd so
seats-more budget (x ∷ xs) (s ∷ ss) r seat is same so = (so.0, so.1, seats-more budget xs ss r seat is same so.2)

pub started-more : (budget i : ℕ) (f : ℕ → Replica) (seats new : List Seat) (seat : Seat) → IsSeat (f i) seat → seat.budget ≡ budget → new ≡ seats ++ seat ∷ [] → SeatsAre budget (map f (range_with_len 0 i)) seats → SeatsAre budget (map f (range_with_len 0 (i + 1))) new
started-more budget i f seats new seat is same more so =
    let here : 0 + i ≡ i = omega arith in
    let next : map f (range_with_len 0 (i + 1)) ≡ map f (range_with_len 0 i) ++ f i ∷ [] = map-range_with_len_more f 0 i i here in
    subst (λ ss. SeatsAre budget (map f (range_with_len 0 (i + 1))) ss) (sym more) (subst (λ rs. SeatsAre budget rs (seats ++ seat ∷ [])) (sym next) (seats-more budget (map f (range_with_len 0 i)) seats (f i) seat is same so))

all-go : (program : Loaded) (args : List (List ℕ)) (settings : Settings) (ns : List ℕ) → AllByRecursion (GoesBy settings.patches) (map (replica_at program args settings) ns)
all-go program args settings [] = tt
all-go program args settings (n ∷ ns) = (λ live. refl, all-go program args settings ns)

all-live : (program : Loaded) (args : List (List ℕ)) (settings : Settings) (ns : List ℕ) → live_count (map (replica_at program args settings) ns) ≡ length ns
all-live program args settings [] = refl
all-live program args settings (n ∷ ns) = ap suc (all-live program args settings ns)

pub group-started : (program : Loaded) (args : List (List ℕ)) (settings : Settings) (budget count : ℕ) (group : code.Group) → 3 ≤ count
    → SeatsAre budget (map (replica_at program args settings) (range_with_len 0 count)) group.seats.items → HaveTag program.tag group.seats.items → group.patches ≡ settings.patches → group.gates ≡ 0 → group.retired.items ≡ [] → group.patched.items ≡ [] → group.over ≡ None
    → IsGroup (started program args settings budget count) group
group-started program args settings budget count group least seats tags table gates retired patched over =
    let live = all-live program args settings (range_with_len 0 count) ∙ length-range_with_len 0 count in
    record {
      seats = seats;
      tags = tags;
      table = table;
      tables = all-go program args settings (range_with_len 0 count);
      gates = gates;
      retired = retired;
      patched = patched;
      over = over;
      many = subst (λ n. 2 ≤ n) (sym live) (omega (arith, least));
    }
