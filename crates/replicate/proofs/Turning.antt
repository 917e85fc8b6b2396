-- A turn of one of many seats.
use Rattle.std.proofs.Common.{◌≡◌, ◌<◌, ◌≤◌, ℕ, zero, suc, Bool, false, true, cond, not, ◌||◌, max, List, [], ◌∷◌, length, slice_index_or, slice_set, Option, None, Some, is_some, Result, Ok, Err, IfOk, OnOk, refl, sym, ◌∙◌, ap, subst, arith}
use Rattle.std.proofs.lemmas.Bool.{true≢false}
use Rattle.std.specs.List.{AllByRecursion}
use Rattle.ex_io.specs.Tape.{Track}
use Rattle.patch_table.specs.Table.{Table}
use Rattle.exact_heap.specs.Placing.{Rules}
use Rattle.rv_machine.specs.Guest.{Guest}
use Rattle.rv_machine.specs.Shape.{IsGuestShaped}
use Rattle.rv_machine.specs.Stands.{tag_in}
use Rattle.replicate.specs.Gates.{live_count}
use Rattle.replicate.specs.GroupStands.{GoesBy, HaveTag, IsGroup}
use Rattle.replicate.specs.Groups as model
use Rattle.replicate.specs.declared.group.Group as code
use Rattle.rv_machine.specs.Core.{Goes, Faults, Reads, Prints, Exits, Stays}
use Rattle.rv_machine.specs.HeapCalls.{GuestNext, Carries, Returns, Lacks, guest_next}
use Rattle.layout_run.specs.Runs.{RefusesInput}
use Rattle.layout_run.specs.declared.ran.RunRefusal.{RunRefusal}
use Rattle.layout_run.specs.declared.ran.RunRefusal.TheVariants as why
use Rattle.replicate.proofs.Onward.{onward-zero, onward-suc}
use Rattle.replicate.specs.Groups.{lead_of, moved, turned, with_changed}
use Rattle.replicate.specs.Limits.{MeetsLimit, MeetsLimitAt}
use Rattle.replicate.specs.Replicas.{Replica, attempted, has_arrived, onward}
use Rattle.replicate.specs.Seats.{IsSeat, ReadsOn}
use Rattle.replicate.specs.Standings.{AreKept, IsAnswered, SeatsAre, is_settled, is_settled_at, place_at}
use Rattle.replicate.specs.declared.seat.Seat.{Seat}

-- ---- one seat is changed

pub turned-seats : (budget : ℕ) (change : Replica → Replica) (i : ℕ) (rs : List Replica) (seats : List Seat) (d new : Seat) (there : Bool) → i < length seats
    → ((r : Replica) → IsSeat r (slice_index_or seats i d) → (slice_index_or seats i d).budget ≡ budget → IsSeat (change r) new × (new.budget ≡ budget) × (there ≡ is_settled budget (change r)))
    → SeatsAre budget rs seats → SeatsAre budget (with_changed change i rs) (slice_set seats i new) × (there ≡ is_settled_at budget i (with_changed change i rs))
turned-seats budget change i [] [] d new there within leads so = absurd (omega (arith, within))
turned-seats budget change i [] (s ∷ ss) d new there within leads so = absurd so
turned-seats budget change i (r ∷ rs) [] d new there within leads so = absurd so
turned-seats budget change zero (r ∷ rs) (s ∷ ss) d new there within leads so = let known = leads r so.0 so.1 in ((known.0, known.1, so.2), known.2)
turned-seats budget change (suc i) (r ∷ rs) (s ∷ ss) d new there within leads so =
    let rest = turned-seats budget change i rs ss d new there (omega (arith, within)) leads so.2 in
    ((so.0, so.1, rest.0), rest.1)

-- ---- a retired one stays

moved-retired : (input : List ℕ) (budget n : ℕ) (r : Replica) → r.live ≡ false → moved input budget n r ≡ r
moved-retired input budget n r is = ap (λ b. cond b (onward input budget n r) r) is

settled-retired : (budget : ℕ) (r : Replica) → r.live ≡ false → true ≡ is_settled budget r
settled-retired budget r is = sym (ap (λ b. not b || has_arrived budget r) is)

pub retired-turned : (input : List ℕ) (budget n i : ℕ) (rs : List Replica) (seats : List Seat) (d : Seat) → i < length seats → (slice_index_or seats i d).live ≡ false
    → SeatsAre budget rs seats → SeatsAre budget (with_changed (moved input budget n) i rs) (slice_set seats i (slice_index_or seats i d)) × (true ≡ is_settled_at budget i (with_changed (moved input budget n) i rs))
retired-turned input budget n i rs seats d within off so =
    turned-seats budget (moved input budget n) i rs seats d (slice_index_or seats i d) true within (λ r is same.
    let gone : r.live ≡ false = sym is.living ∙ off in
    subst (λ (x : Replica). IsSeat x (slice_index_or seats i d) × ((slice_index_or seats i d).budget ≡ budget) × (true ≡ is_settled budget x)) (sym (moved-retired input budget n r gone)) (is, same, settled-retired budget r gone)) so

-- ---- a live one goes on

attempted-live : (input : List ℕ) (r : Replica) (n : GuestNext) → (attempted input r n).live ≡ r.live
attempted-live input r (Carries (Goes core)) = refl
attempted-live input r (Carries (Faults kind a)) = refl
attempted-live input r (Carries (Reads a l)) = refl
attempted-live input r (Carries (Prints fd a l bytes core)) = refl
attempted-live input r (Carries (Exits code core)) = refl
attempted-live input r (Carries (Stays e)) = refl
attempted-live input r (Returns to) = refl
attempted-live input r (Lacks used wanted to) = refl

either-live : (b : Bool) (x r : Replica) → x.live ≡ r.live → (cond b r x).live ≡ r.live
either-live true x r is = refl
either-live false x r is = is

onward-live : (input : List ℕ) (budget n : ℕ) (r : Replica) → (onward input budget n r).live ≡ r.live
onward-live input budget zero r = ap (λ (x : Replica). x.live) (onward-zero input budget r)
onward-live input budget (suc n) r =
    let at : Replica = onward input budget n r in
    ap (λ (x : Replica). x.live) (onward-suc input budget n r) ∙ either-live (has_arrived budget at) (attempted input at (guest_next at.flat.guest)) at (attempted-live input at (guest_next at.flat.guest)) ∙ onward-live input budget n r

moved-living : (input : List ℕ) (budget n : ℕ) (r : Replica) → r.live ≡ true → moved input budget n r ≡ onward input budget n r
moved-living input budget n r is = ap (λ b. cond b (onward input budget n r) r) is

settled-living : (budget : ℕ) (r : Replica) → r.live ≡ true → is_settled budget r ≡ has_arrived budget r
settled-living budget r is = ap (λ b. not b || has_arrived budget r) is

pub living-turned : (input : List ℕ) (budget n i : ℕ) (rs : List Replica) (seats : List Seat) (d new : Seat) (result : Result Bool RunRefusal) → i < length seats → (slice_index_or seats i d).live ≡ true → new.budget ≡ (slice_index_or seats i d).budget
    → ((r : Replica) → IsSeat r (slice_index_or seats i d) → IfOk result (λ there. IsSeat (onward input (slice_index_or seats i d).budget n r) new × (there ≡ has_arrived (slice_index_or seats i d).budget (onward input (slice_index_or seats i d).budget n r))))
    → SeatsAre budget rs seats → IfOk result (λ there. SeatsAre budget (with_changed (moved input budget n) i rs) (slice_set seats i new) × (there ≡ is_settled_at budget i (with_changed (moved input budget n) i rs)))
living-turned input budget n i rs seats d new (Err refused) within on kept leads so = tt
living-turned input budget n i rs seats d new (Ok there) within on kept leads so =
    turned-seats budget (moved input budget n) i rs seats d new there within (λ r is same.
    let live : r.live ≡ true = sym is.living ∙ on in
    let went = subst (λ b. IsSeat (onward input b n r) new × (there ≡ has_arrived b (onward input b n r))) same (leads r is) in
    let settled = settled-living budget (onward input budget n r) (onward-live input budget n r ∙ live) in
    subst (λ (x : Replica). IsSeat x new × (new.budget ≡ budget) × (there ≡ is_settled budget x)) (sym (moved-living input budget n r live)) (went.0, kept ∙ same, went.1 ∙ sym settled)) so

-- ---- the tape

known-set : (i : ℕ) (seats : List Seat) (new : Seat) (track track' : Track) → track.high ≤ track'.high → IsAnswered track' new → AllByRecursion (IsAnswered track) seats → AllByRecursion (IsAnswered track') (slice_set seats i new)
known-set i [] new track track' grows is all = tt
known-set zero (s ∷ ss) new track track' grows is all = (is, known-all ss track track' grows all.1)
  where
    known-all : (ss : List Seat) (track track' : Track) → track.high ≤ track'.high → AllByRecursion (IsAnswered track) ss → AllByRecursion (IsAnswered track') ss
    known-all [] track track' grows all = tt
    known-all (s ∷ ss) track track' grows all = let here = all.0 in (omega (arith, here, grows), known-all ss track track' grows all.1)
known-set (suc i) (s ∷ ss) new track track' grows is all = let here = all.0 in (omega (arith, here, grows), known-set i ss new track track' grows is all.1)

known-at : (i : ℕ) (seats : List Seat) (d : Seat) (track : Track) → i < length seats → AllByRecursion (IsAnswered track) seats → IsAnswered track (slice_index_or seats i d)
known-at i [] d track within all = absurd (omega (arith, within))
known-at zero (s ∷ ss) d track within all = all.0
known-at (suc i) (s ∷ ss) d track within all = known-at i ss d track (omega (arith, within)) all.1

place-set : (i : ℕ) (seats : List Seat) (new : Seat) → i < length seats → place_at i (slice_set seats i new) ≡ new.place
place-set i [] new within = absurd (omega (arith, within))
place-set zero (s ∷ ss) new within = refl
place-set (suc i) (s ∷ ss) new within = place-set i ss new (omega (arith, within))

pub kept-turned : (i : ℕ) (seats : List Seat) (new : Seat) (result : Result Bool RunRefusal) (track track' : Track) (left left' : Option (List ℕ)) → AreKept track seats → OnOk result (ReadsOn track track' left left' new.place) → OnOk result (AreKept track' (slice_set seats i new))
kept-turned i seats new (Err refused) track track' left left' kept reads = tt
kept-turned i seats new (Ok there) track track' left left' kept reads =
    let high = reads.high in
    record { keep = reads.kept.keep; going = reads.kept.going; known = known-set i seats new track track' (omega (arith, high)) reads.kept.known kept.known }

pub high-turned : (i : ℕ) (seats : List Seat) (new : Seat) (result : Result Bool RunRefusal) (track track' : Track) (left left' : Option (List ℕ)) → i < length seats → OnOk result (ReadsOn track track' left left' new.place) → OnOk result (track'.high ≡ max track.high (place_at i (slice_set seats i new)))
high-turned i seats new (Err refused) track track' left left' within reads = tt
high-turned i seats new (Ok there) track track' left left' within reads = reads.high ∙ ap (max track.high) (sym (place-set i seats new within))

pub high-retired : (i : ℕ) (seats : List Seat) (d : Seat) (track : Track) → i < length seats → AreKept track seats → track.high ≡ max track.high (place_at i (slice_set seats i (slice_index_or seats i d)))
high-retired i seats d track within kept =
    let known = known-at i seats d track within kept.known in
    let place = place-set i seats (slice_index_or seats i d) within in
    omega (arith, known, place)

-- ---- a turn that is refused the input

pub meets-at : (input : List ℕ) (budget n i : ℕ) (rs : List Replica) (seats : List Seat) (d : Seat) → i < length seats → (slice_index_or seats i d).live ≡ true → ((r : Replica) → IsSeat r (slice_index_or seats i d) → MeetsLimit input (slice_index_or seats i d).budget n r) → SeatsAre budget rs seats → MeetsLimitAt input budget n i rs
meets-at input budget n i [] [] d within live leads so = absurd (omega (arith, within))
meets-at input budget n i [] (s ∷ ss) d within live leads so = absurd so
meets-at input budget n i (r ∷ rs) [] d within live leads so = absurd so
meets-at input budget n zero (r ∷ rs) (s ∷ ss) d within live leads so = (sym so.0.living ∙ live, subst (λ b. MeetsLimit input b n r) so.1 (leads r so.0))
meets-at input budget n (suc i) (r ∷ rs) (s ∷ ss) d within live leads so = meets-at input budget n i rs ss d (omega (arith, within)) live leads so.2

pub refused-turned : {P Q : Type 0} (result : Result Bool RunRefusal) (track : Track) → (P → Q) → RefusesInput result track P → RefusesInput result track Q
refused-turned (Ok there) track leads is = tt
refused-turned (Err why.Input) track leads is = (is.0, leads is.1)
refused-turned (Err why.Memory) track leads is = tt
refused-turned (Err why.Source) track leads is = tt
refused-turned (Err why.Out) track leads is = tt
refused-turned (Err why.Err) track leads is = tt

-- ---- one seat is asked

pub settled-at : (budget i : ℕ) (rs : List Replica) (seats : List Seat) (d : Seat) (there : Bool) → i < length seats → ((r : Replica) → IsSeat r (slice_index_or seats i d) → (slice_index_or seats i d).budget ≡ budget → there ≡ is_settled budget r) → SeatsAre budget rs seats → there ≡ is_settled_at budget i rs
settled-at budget i [] [] d there within leads so = absurd (omega (arith, within))
settled-at budget i [] (s ∷ ss) d there within leads so = absurd so
settled-at budget i (r ∷ rs) [] d there within leads so = absurd so
settled-at budget zero (r ∷ rs) (s ∷ ss) d there within leads so = leads r so.0 so.1
settled-at budget (suc i) (r ∷ rs) (s ∷ ss) d there within leads so = settled-at budget i rs ss d there (omega (arith, within)) leads so.2

pub retired-settled : (budget i : ℕ) (rs : List Replica) (seats : List Seat) (s : Seat) → i < length seats → s ≡ slice_index_or seats i s → s.live ≡ false → SeatsAre budget rs seats → not s.live ≡ is_settled_at budget i rs
retired-settled budget i rs seats s within at off so =
    settled-at budget i rs seats s (not s.live) within (λ r is same.
    let here = subst (IsSeat r) (sym at) is in
    ap not off ∙ settled-retired budget r (sym here.living ∙ off)) so

pub living-settled : (budget i : ℕ) (rs : List Replica) (seats : List Seat) (s : Seat) (there : Bool) → i < length seats → s ≡ slice_index_or seats i s → s.live ≡ true → ((r : Replica) → IsSeat r s → there ≡ has_arrived s.budget r) → SeatsAre budget rs seats → there ≡ is_settled_at budget i rs
living-settled budget i rs seats s there within at on told so =
    settled-at budget i rs seats s there within (λ r is same.
    let here = subst (IsSeat r) (sym at) is in
    told r here ∙ ap (λ b. has_arrived b r) (ap (λ (x : Seat). x.budget) at ∙ same) ∙ sym (settled-living budget r (sym here.living ∙ on))) so

-- ---- the program's tag

tags-set : (tag i : ℕ) (seats : List Seat) (new : Seat) → tag_in new.machine ≡ tag → HaveTag tag seats → HaveTag tag (slice_set seats i new)
tags-set tag i [] new is have = tt
tags-set tag zero (s ∷ ss) new is have = (is, have.1)
tags-set tag (suc i) (s ∷ ss) new is have = (have.0, tags-set tag i ss new is have.1)

tag-at : (tag i : ℕ) (seats : List Seat) (d : Seat) → i < length seats → HaveTag tag seats → tag_in (slice_index_or seats i d).machine ≡ tag
tag-at tag i [] d within have = absurd (omega (arith, within))
tag-at tag zero (s ∷ ss) d within have = have.0
tag-at tag (suc i) (s ∷ ss) d within have = tag-at tag i ss d (omega (arith, within)) have.1

pub tags-retired : (tag i : ℕ) (seats : List Seat) (d : Seat) → i < length seats → HaveTag tag seats → HaveTag tag (slice_set seats i (slice_index_or seats i d))
tags-retired tag i seats d within have = tags-set tag i seats (slice_index_or seats i d) (tag-at tag i seats d within have) have

pub tags-turned : (tag i : ℕ) (seats : List Seat) (d new : Seat) (result : Result Bool RunRefusal) → i < length seats → OnOk result (tag_in new.machine ≡ tag_in (slice_index_or seats i d).machine) → HaveTag tag seats → OnOk result (HaveTag tag (slice_set seats i new))
tags-turned tag i seats d new (Err refused) within same have = tt
tags-turned tag i seats d new (Ok there) within same have = tags-set tag i seats new (same ∙ tag-at tag i seats d within have) have

-- ---- the patches that a replica goes by

attempted-rules : (input : List ℕ) (r : Replica) (n : GuestNext) → IsGuestShaped r.flat.guest n → (attempted input r n).flat.guest.rules ≡ r.flat.guest.rules
attempted-rules input r (Carries (Goes core)) shape = refl
attempted-rules input r (Carries (Faults kind a)) shape = refl
attempted-rules input r (Carries (Reads a l)) shape = refl
attempted-rules input r (Carries (Prints fd a l bytes core)) shape = refl
attempted-rules input r (Carries (Exits code core)) shape = refl
attempted-rules input r (Carries (Stays e)) shape = refl
attempted-rules input r (Returns to) shape = shape.2
attempted-rules input r (Lacks used wanted to) shape = shape.2

either-rules : (b : Bool) (x r : Replica) → x.flat.guest.rules ≡ r.flat.guest.rules → (cond b r x).flat.guest.rules ≡ r.flat.guest.rules
either-rules true x r is = refl
either-rules false x r is = is

onward-rules : (shaped : (g : Guest) → IsGuestShaped g (guest_next g)) (input : List ℕ) (budget n : ℕ) (r : Replica) → (onward input budget n r).flat.guest.rules ≡ r.flat.guest.rules
onward-rules shaped input budget zero r = ap (λ (x : Replica). x.flat.guest.rules) (onward-zero input budget r)
onward-rules shaped input budget (suc n) r =
    let at : Replica = onward input budget n r in
    ap (λ (x : Replica). x.flat.guest.rules) (onward-suc input budget n r) ∙ either-rules (has_arrived budget at) (attempted input at (guest_next at.flat.guest)) at (attempted-rules input at (guest_next at.flat.guest) (shaped at.flat.guest)) ∙ onward-rules shaped input budget n r

either-way : (b : Bool) (x r : Replica) → x.live ≡ r.live → (cond b x r).live ≡ r.live
either-way true x r is = is
either-way false x r is = refl

either-goes : (b : Bool) (x r : Replica) → x.flat.guest.rules ≡ r.flat.guest.rules → (cond b x r).flat.guest.rules ≡ r.flat.guest.rules
either-goes true x r is = is
either-goes false x r is = refl

pub moved-live : (input : List ℕ) (budget n : ℕ) (r : Replica) → (moved input budget n r).live ≡ r.live
moved-live input budget n r = either-way r.live (onward input budget n r) r (onward-live input budget n r)

moved-goes : (shaped : (g : Guest) → IsGuestShaped g (guest_next g)) (table : Table) (input : List ℕ) (budget n : ℕ) (r : Replica) → GoesBy table r → GoesBy table (moved input budget n r)
moved-goes shaped table input budget n r goes live = ap (λ (k : Rules). k.patches) (either-goes r.live (onward input budget n r) r (onward-rules shaped input budget n r)) ∙ goes (sym (moved-live input budget n r) ∙ live)

changed-goes : (table : Table) (change : Replica → Replica) (i : ℕ) (rs : List Replica) → ((r : Replica) → GoesBy table r → GoesBy table (change r)) → AllByRecursion (GoesBy table) rs → AllByRecursion (GoesBy table) (with_changed change i rs)
changed-goes table change i [] each all = tt
changed-goes table change zero (r ∷ rs) each all = (each r all.0, all.1)
changed-goes table change (suc i) (r ∷ rs) each all = (all.0, changed-goes table change i rs each all.1)

count-of : (b c : Bool) (n m : ℕ) → b ≡ c → n ≡ m → cond b (suc n) n ≡ cond c (suc m) m
count-of b c n m is same = (λ k. cond (is k) (suc (same k)) (same k))

changed-count : (change : Replica → Replica) (i : ℕ) (rs : List Replica) → ((r : Replica) → (change r).live ≡ r.live) → live_count (with_changed change i rs) ≡ live_count rs
changed-count change i [] each = refl
changed-count change zero (r ∷ rs) each = count-of (change r).live r.live (live_count rs) (live_count rs) (each r) refl
changed-count change (suc i) (r ∷ rs) each = count-of r.live r.live (live_count (with_changed change i rs)) (live_count rs) refl (changed-count change i rs each)

-- ---- the group

abbrev with_turn : (input : List ℕ) → (i n : ℕ) → model.Group → model.Group
with_turn input i n g = record g { replicas = with_changed (moved input g.budget n) i g.replicas }

turned-on : (input : List ℕ) (i n : ℕ) (g : model.Group) → g.over ≡ None → turned input i n g ≡ with_turn input i n g
turned-on input i n g is = ap (λ o. cond (is_some o) g (with_turn input i n g)) is

pub group-turned : (shaped : (g : Guest) → IsGuestShaped g (guest_next g)) (input : List ℕ) (i n : ℕ) (g : model.Group) (old : code.Group) (seats' : List Seat) (there : Bool) (new : code.Group) → IsGroup g old → old.over ≡ None
    → SeatsAre g.budget (with_changed (moved input g.budget n) i g.replicas) seats' × (there ≡ is_settled_at g.budget i (with_changed (moved input g.budget n) i g.replicas)) → HaveTag g.tag seats'
    → new.seats.items ≡ seats' → new.patches ≡ old.patches → new.gates ≡ old.gates → new.retired.items ≡ old.retired.items → new.patched.items ≡ old.patched.items → new.over ≡ old.over
    → IsGroup (turned input i n g) new × (there ≡ is_settled_at g.budget i (turned input i n g).replicas)
group-turned shaped input i n g old seats' there new is going seats tags items table gates retired patched over =
    subst (λ (to : model.Group). IsGroup to new × (there ≡ is_settled_at g.budget i to.replicas)) (sym (turned-on input i n g (sym is.over ∙ going))) (
      record {
        seats = subst (λ ss. SeatsAre g.budget (with_changed (moved input g.budget n) i g.replicas) ss) (sym items) seats.0;
        tags = subst (HaveTag g.tag) (sym items) tags;
        table = table ∙ is.table;
        tables = changed-goes g.table (moved input g.budget n) i g.replicas (moved-goes shaped g.table input g.budget n) is.tables;
        gates = gates ∙ is.gates;
        retired = retired ∙ is.retired;
        patched = patched ∙ is.patched;
        over = over ∙ is.over;
        many = subst (λ k. 2 ≤ k) (sym (changed-count (moved input g.budget n) i g.replicas (moved-live input g.budget n))) is.many;
      },
      seats.1,
    )

pub lead-turned : (input : List ℕ) (i n : ℕ) (g : model.Group) (old raised : ℕ) (seats : List Seat) → g.over ≡ None → SeatsAre g.budget (with_changed (moved input g.budget n) i g.replicas) seats → ((budget : ℕ) (rs : List Replica) → SeatsAre budget rs seats → raised ≡ max old (lead_of budget rs))
    → raised ≡ max old (lead_of g.budget (turned input i n g).replicas)
lead-turned input i n g old raised seats going so told =
    told g.budget (with_changed (moved input g.budget n) i g.replicas) so ∙ ap (λ (to : model.Group). max old (lead_of g.budget to.replicas)) (sym (turned-on input i n g going))

pub none-of : {T : Type 0} (o : Option T) → is_some o ≡ false → o ≡ None
none-of None is = refl
none-of (Some x) is = absurd (true≢false is)
