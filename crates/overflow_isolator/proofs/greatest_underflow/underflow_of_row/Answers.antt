use Rattle.std.proofs.Common.{◌<◌, refl, sym, subst}
use Rattle.std.specs.List.{AllZip}
use Rattle.overflow_isolator.specs.Windows.{IsWindowOf}
use Rattle.overflow_isolator.proofs.Greatest.{no_underflow, no_underflow_shared, an_underflow}
use Rattle.overflow_isolator.proofs.Windows.{zip_length}
use Rattle.overflow_isolator.proofs.greatest_underflow.underflow_of_row.Goals as goal

pub farthest-requires : goal.farthest-requires
farthest-requires c =
    let told = rw c.in-Some.is at c.in_ok-windows_of.ensures in
    rw c.deref.ensures.value (subst (λ n. 0 < n) (zip_length (IsWindowOf c.args.object (0)) c.args.images.now c.in-Some.windows.items told.1) c.requires.some)

pub returns-in-None-farthest : goal.returns-in-None-farthest
returns-in-None-farthest c =
    let told = rw c.in-Some.is at c.in_ok-windows_of.ensures in
    let zip = subst (AllZip (IsWindowOf c.args.object (0)) c.args.images.now) (sym c.deref.ensures.value) told.1 in
    no_underflow c.args.images.now c.args.object c.args.row.now c.requires.told c.deref.result.now zip c.in-None-farthest.ensures

pub returns : goal.returns
returns c =
    let told = rw c.in-Some.is at c.in_ok-windows_of.ensures in
    let zip = subst (AllZip (IsWindowOf c.args.object (0)) c.args.images.now) (sym c.deref.ensures.value) told.1 in
    (refl, an_underflow c.args.images.now c.args.object c.args.row.now c.requires.told c.deref.result.now c.in-Some-farthest.extent told.0 zip c.in-Some-farthest.ensures)

pub returns-in-None : goal.returns-in-None
returns-in-None c =
    let told = rw c.in-None.is at c.in_ok-windows_of.ensures in
    no_underflow_shared c.args.images.now c.args.object c.args.row.now c.requires.told told
