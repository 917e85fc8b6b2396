-- What images of winners call for.
use Rattle.std.proofs.Common.{◌≡◌, ◌≤◌, ℕ, Bool, true, List, length, map, Option, None, Some, Result, Ok, Err, OnOk, inl, inr, refl, sym, ◌∙◌, ap, subst}
use Rattle.std.specs.Prelude.{MatchOption}
use Rattle.std.specs.declared.alloc.AllocError.{AllocError}
use Rattle.std.proofs.lemmas.List.{length-map}
use Rattle.culprits.specs.declared.isolated.Isolated.{Isolated}
use Rattle.culprits.specs.Isolated.{IsIsolatedFrom, found_table}
use Rattle.dangling_isolator.specs.Danglings.{AreDanglings}
use Rattle.heap_image.specs.Agreement.{AreComparable, AreMixed}
use Rattle.heap_image.specs.Snapshot.{Snapshot}
use Rattle.overflow_isolator.specs.Overflows.{AreOverflowsOf, AreUnderflowsOf}
use Rattle.patch_table.specs.Table.{IsBelow, Table, join}
use Rattle.replicate.specs.Gates.{Cured, CuresWhere, IsListed, image_of}
use Rattle.replicate.specs.Replicas.{Replica}

abbrev pub IsFound : (images : List Snapshot) → (old : Table) → Isolated → Type 0
IsFound images old isolated = AreComparable images × IsIsolatedFrom (AreOverflowsOf images) (AreUnderflowsOf images) (AreDanglings images) old isolated

pub mixed-of : (images : List Snapshot) (old : Table) (o : Option Isolated) (tag : ℕ) (rs : List Replica) → o ≡ None → MatchOption o (2 ≤ length images → AreMixed images) (IsFound images old) → images ≡ map (image_of tag) rs → 2 ≤ length rs → AreMixed (map (image_of tag) rs)
mixed-of images old o tag rs none told are two =
    let mixed : 2 ≤ length images → AreMixed images = subst (λ (p : Option Isolated). MatchOption p (2 ≤ length images → AreMixed images) (IsFound images old)) none told in
    subst AreMixed are (mixed (subst (λ n. 2 ≤ n) (sym (ap length are ∙ length-map rs (image_of tag))) two))

pub found-of : (images : List Snapshot) (old : Table) (o : Option Isolated) (isolated : Isolated) → o ≡ Some isolated → MatchOption o (2 ≤ length images → AreMixed images) (IsFound images old) → IsFound images old isolated
found-of images old o isolated some told = subst (λ (p : Option Isolated). MatchOption p (2 ≤ length images → AreMixed images) (IsFound images old)) some told

pub cures-mixed : (signalled : Bool) (gate : ℕ) (shown : List Snapshot) (old : Cured) → signalled ≡ true → AreMixed shown → CuresWhere signalled gate shown old old
cures-mixed signalled gate shown old is mixed = subst (λ b. CuresWhere b gate shown old old) (sym is) (inl (mixed, refl))

pub cures-joined : (result : Result Bool AllocError) (signalled : Bool) (gate : ℕ) (images shown : List Snapshot) (isolated : Isolated) (old new : Cured) → signalled ≡ true → IsFound images old.table isolated → images ≡ shown → OnOk result (new.table ≡ isolated.patches) → OnOk result (IsListed gate isolated old new)
    → OnOk result (CuresWhere signalled gate shown old new)
cures-joined (Err refused) signalled gate images shown isolated old new is found are table listed = tt
cures-joined (Ok changed) signalled gate images shown isolated old new is found are table listed =
    let found' = subst (λ (xs : List Snapshot). IsFound xs old.table isolated) are found in
    subst (λ b. CuresWhere b gate shown old new) (sym is) (inr (record { isolated = isolated; comparable = found'.0; found = found'.1; table = table; listed = listed }))

pub raised-above : (result : Result Bool AllocError) (images : List Snapshot) (isolated : Isolated) (old new : Table) → ((a b : Table) → IsBelow a (join a b) × IsBelow b (join a b)) → IsFound images old isolated → OnOk result (new ≡ isolated.patches) → OnOk result (IsBelow old new)
raised-above (Err refused) images isolated old new above found table = tt
raised-above (Ok changed) images isolated old new above found table =
    let joined = found.1.joined.patches in
    let all : Table = found_table found.1.overflows found.1.underflows found.1.danglings in
    subst (λ (t : Table). IsBelow old t) (sym (table ∙ joined)) (above old all).0
