use Rattle.std.proofs.Common.{◌+◌, ◌<◌, refl, sym, subst}
use Rattle.std.specs.List.{AllZip}
use Rattle.overflow_isolator.specs.Windows.{IsWindowOf}
use Rattle.overflow_isolator.proofs.Greatest.{no_overflow, no_overflow_shared, an_overflow}
use Rattle.overflow_isolator.proofs.Windows.{zip_length}
use Rattle.overflow_isolator.proofs.greatest_overflow.overflow_of_row.Goals as goal

pub nearest-requires : goal.nearest-requires
nearest-requires c =
    let told = rw c.in-Some.is at c.in_ok-windows_of.ensures in
    rw c.deref.ensures.value (subst (λ n. 0 < n) (zip_length (IsWindowOf c.args.object (c.args.row.now.size + 65536)) c.args.images.now c.in-Some.windows.items told.1) c.requires.some)

pub returns-in-None-nearest : goal.returns-in-None-nearest
returns-in-None-nearest c =
    let told = rw c.in-Some.is at c.in_ok-windows_of.ensures in
    let zip = subst (AllZip (IsWindowOf c.args.object (c.args.row.now.size + 65536)) c.args.images.now) (sym c.deref.ensures.value) told.1 in
    no_overflow c.args.images.now c.args.object c.args.row.now c.requires.told c.deref.result.now zip c.in-None-nearest.ensures

pub returns : goal.returns
returns c =
    let told = rw c.in-Some.is at c.in_ok-windows_of.ensures in
    let zip = subst (AllZip (IsWindowOf c.args.object (c.args.row.now.size + 65536)) c.args.images.now) (sym c.deref.ensures.value) told.1 in
    (refl, an_overflow c.args.images.now c.args.object c.args.row.now c.requires.told c.deref.result.now c.in-Some-nearest.distance told.0 zip c.in-Some-nearest.ensures)

pub returns-in-None : goal.returns-in-None
returns-in-None c =
    let told = rw c.in-None.is at c.in_ok-windows_of.ensures in
    no_overflow_shared c.args.images.now c.args.object c.args.row.now c.requires.told told
