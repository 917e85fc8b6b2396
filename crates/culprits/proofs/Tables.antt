-- What was found goes into a table, one by one.
use Rattle.std.proofs.Common.{◌≡◌, ℕ, ◌+◌, ◌-◌, ◌<◌, ◌≤◌, length, get_or, drop, List, refl, sym, ap, ◌∙◌}
use Rattle.patch_table.specs.Table.{Table, raised}
use Rattle.culprits.specs.declared.found.Overflow.{Overflow}
use Rattle.culprits.specs.declared.found.Underflow.{Underflow}
use Rattle.culprits.specs.declared.found.Dangling.{Dangling}
use Rattle.culprits.specs.Isolated.{deferral_for, deferred, front_for, fronted, padded}
use Rattle.culprits.proofs.Lists.{put_all, put_next}

abbrev pub with_pad : Table → Overflow → Table
with_pad table f = record table { pads = raised table.pads f.site (f.extent - f.size) }

abbrev pub with_front : Table → Underflow → Table
with_front table f = record table { fronts = raised table.fronts f.site (front_for f.extent) }

abbrev pub with_deferral : Table → Dangling → Table
with_deferral table d = record table { defers = raised table.defers (d.site, d.free_site) (deferral_for d) }

pub pads-next : (xs : List Overflow) (i : ℕ) (d : Overflow) (t n s : Table) → i < length xs → n ≡ with_pad t (get_or xs i d) → padded t (drop i xs) ≡ padded s xs → padded n (drop (i + 1) xs) ≡ padded s xs
pads-next xs i d t n s lt is h = put_next padded with_pad (λ t x xs. refl) xs i d t n lt is ∙ h

pub pads-all : (xs : List Overflow) (i : ℕ) (t s : Table) → length xs ≤ i → padded t (drop i xs) ≡ padded s xs → t ≡ padded s xs
pads-all xs i t s past h = sym (put_all padded with_pad (λ t x xs. refl) (λ t. refl) xs i t past) ∙ h

pub fronts-next : (xs : List Underflow) (i : ℕ) (d : Underflow) (t n s : Table) (front : ℕ) → i < length xs → front ≡ front_for (get_or xs i d).extent → n ≡ record t { fronts = raised t.fronts (get_or xs i d).site front } → fronted t (drop i xs) ≡ fronted s xs → fronted n (drop (i + 1) xs) ≡ fronted s xs
fronts-next xs i d t n s front lt is made h = put_next fronted with_front (λ t x xs. refl) xs i d t n lt (made ∙ ap (λ k. record t { fronts = raised t.fronts (get_or xs i d).site k }) is) ∙ h

pub fronts-all : (xs : List Underflow) (i : ℕ) (t s : Table) → length xs ≤ i → fronted t (drop i xs) ≡ fronted s xs → t ≡ fronted s xs
fronts-all xs i t s past h = sym (put_all fronted with_front (λ t x xs. refl) (λ t. refl) xs i t past) ∙ h

pub defers-next : (xs : List Dangling) (i : ℕ) (d : Dangling) (t n s : Table) (defer : ℕ) → i < length xs → defer ≡ deferral_for (get_or xs i d) → n ≡ record t { defers = raised t.defers ((get_or xs i d).site, (get_or xs i d).free_site) defer } → deferred t (drop i xs) ≡ deferred s xs → deferred n (drop (i + 1) xs) ≡ deferred s xs
defers-next xs i d t n s defer lt is made h = put_next deferred with_deferral (λ t x xs. refl) xs i d t n lt (made ∙ ap (λ k. record t { defers = raised t.defers ((get_or xs i d).site, (get_or xs i d).free_site) k }) is) ∙ h

pub defers-all : (xs : List Dangling) (i : ℕ) (t s : Table) → length xs ≤ i → deferred t (drop i xs) ≡ deferred s xs → t ≡ deferred s xs
defers-all xs i t s past h = sym (put_all deferred with_deferral (λ t x xs. refl) (λ t. refl) xs i t past) ∙ h
