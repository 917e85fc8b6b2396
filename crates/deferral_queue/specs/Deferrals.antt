-- What a queue of deferred frees holds.
use Rattle.std.specs.Prelude.{ℕ, List, [], ◌∷◌, if◌then◌else◌}
use Rattle.deferral_queue.specs.declared.Due.{Due}
use Rattle.deferral_queue.specs.Order.{is_before}

-- the deferred frees, the first to be released first, and how many more there is room for
pub record Deferrals : Type 0 where
  pub dues : List Due
  pub spare : ℕ

-- one more, behind all that come before it
abbrev pub insert_due : Due → List Due → List Due
insert_due x [] = x ∷ []
insert_due x (y ∷ ys) = if is_before y x then y ∷ insert_due x ys else x ∷ y ∷ ys

-- a list of them in order
abbrev pub sorted_dues : List Due → List Due
sorted_dues [] = []
sorted_dues (x ∷ xs) = insert_due x (sorted_dues xs)
