-- Reading fields from the front of bytes, up to the first that is cut off or breaks its rule
-- (docs/images.md, "Refusals").
use Rattle.std.specs.Prelude.{◌≡◌, ℕ, zero, suc, ◌-◌, ◌==◌, List, [], ◌∷◌, ◌++◌, length, take, drop, Bool, true, false, Result, Ok, Err, nat_lt, if◌then◌else◌}
use Rattle.std.specs.List.{starts_with}
use Rattle.heap_image.specs.declared.refusal.ImageRefusal.{ImageRefusal}
use Rattle.heap_image.specs.declared.refusal.ImageRefusal.TheVariants as why
use Rattle.heap_image.specs.declared.version.Version.{Version}
use Rattle.heap_image.specs.declared.version.Version.TheVariants.{One, Two}
use Rattle.heap_image.specs.declared.version.TheConstants.{MARK_ONE, MARK_TWO}
use Rattle.heap_image.specs.Fields.{Size, Word, size_len, number_in}

infixl 10 ◌>>=◌
abbrev pub ◌>>=◌ : {A B : Type 0} → Result A ImageRefusal → (A → Result B ImageRefusal) → Result B ImageRefusal
(Ok x) >>= f = f x
(Err e) >>= f = Err e

abbrev pub Fails : {Y : Type 0} → ImageRefusal → Result Y ImageRefusal → Type 0
Fails why.Head read = read ≡ Err why.Head
Fails why.Short read = read ≡ Err why.Short
Fails (why.Bad at) read = read ≡ Err (why.Bad at)
Fails why.Tail read = read ≡ Err why.Tail
Fails why.Memory read = Unit {0}

-- what a function returned, seen by a view, is what reading gives, unless it wanted memory
abbrev pub Gives : {X Y : Type 0} → (X → Y) → Result X ImageRefusal → Result Y ImageRefusal → Type 0
Gives view (Ok x) read = read ≡ Ok (view x)
Gives view (Err e) read = Fails e read

-- a number, and the bytes behind it
unfoldable pub number_at : Size → List ℕ → Result (ℕ × List ℕ) ImageRefusal
number_at size bytes =
    if nat_lt (length bytes) (size_len size) then Err why.Short
    else Ok (number_in size (take (size_len size) bytes), drop (size_len size) bytes)

-- so many bytes, and the bytes behind them
unfoldable pub part_at : ℕ → List ℕ → Result (List ℕ × List ℕ) ImageRefusal
part_at n bytes = if nat_lt (length bytes) n then Err why.Short else Ok (take n bytes, drop n bytes)

-- A field begins where these bytes do, and all bytes are `whole`.
unfoldable pub rule : (whole : ℕ) → List ℕ → (kept : Bool) → Result (Unit {0}) ImageRefusal
rule whole bytes true = Ok tt
rule whole bytes false = Err (why.Bad (whole - length bytes))

-- the mark, and the bytes behind it
unfoldable pub mark_at : List ℕ → Result (Version × List ℕ) ImageRefusal
mark_at bytes =
    if starts_with (λ a b. a == b) bytes MARK_TWO then Ok (Two, drop 8 bytes)
    else (if starts_with (λ a b. a == b) bytes MARK_ONE then Ok (One, drop 8 bytes) else Err why.Head)

-- ---- formats

-- numbers one after the other, each with a rule, and what they make
pub data Format (A : Type 0) : Type 0 where
  gives : A → Format A
  number : Size → (keeps : ℕ → Bool) → (next : ℕ → Format A) → Format A

unfoldable pub read_at : {A : Type 0} → (whole : ℕ) → Format A → List ℕ → Result (A × List ℕ) ImageRefusal
read_at whole (gives x) bytes = Ok (x, bytes)
read_at whole (number size keeps next) bytes =
    number_at size bytes >>= λ n. rule whole bytes (keeps n.0) >>= λ kept. read_at whole (next n.0) n.1

-- items one after the other, whose rules look at those before them
unfoldable pub items_at : {X : Type 0} → (whole : ℕ) → (List X → Format X) → (earlier : List X) → (count : ℕ) → List ℕ → Result (List X × List ℕ) ImageRefusal
items_at whole item earlier zero bytes = Ok (earlier, bytes)
items_at whole item earlier (suc n) bytes =
    read_at whole (item earlier) bytes >>= λ x. items_at whole item (earlier ++ x.0 ∷ []) n x.1

-- items behind their number
unfoldable pub counted_at : {X : Type 0} → (whole : ℕ) → (List X → Format X) → List ℕ → Result (List X × List ℕ) ImageRefusal
counted_at whole item bytes = number_at Word bytes >>= λ count. items_at whole item [] count.0 count.1
