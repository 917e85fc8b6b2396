-- The lines of a patch text, by its version (docs/patches.md, "The text").
use Rattle.std.specs.Prelude.{◌≡◌, ◌≢◌, ℕ, ◌<◌, ◌≤◌, ◌^◌, ◌%◌, ◌-◌, min, List, [], ◌∷◌, ◌++◌, length, slice_index}
use Rattle.std.specs.Str.Parse.{IsNumeral, digits_value}
use Rattle.hex_text.specs.Hex.{hex_of}
use Rattle.patch_table.specs.Ranges.{greatest_pad, front_unit, greatest_front, deferrals_below}
use Rattle.patch_table.specs.declared.line.Key.{Key}
use Rattle.patch_table.specs.declared.line.Key.TheVariants.{Pad, Front, Defer}
use Rattle.patch_table.specs.declared.line.Line.{Line}
use Rattle.patch_table.specs.declared.line.Version.{Version}
use Rattle.patch_table.specs.declared.line.Version.TheVariants.{One, Two}

-- a site in eight digits, a space, and what follows
abbrev pub field : ℕ → List ℕ → List ℕ
field site rest = hex_of 8 site ++ 32 ∷ rest

-- decimal digits without a leading zero, unless they are 0
pub record IsNumber (digits : List ℕ) : Type 0 where
  pub numeral : IsNumeral 10 digits
  pub shortest : slice_index digits 0 ≡ 48 → length digits ≡ 1

-- a line before its line feed: `pad SITE N`, `front SITE N` or `defer SITE SITE N`
abbrev pub words_of : Key → List ℕ → List ℕ
words_of (Pad site) digits = 112 ∷ 97 ∷ 100 ∷ 32 ∷ field site digits
words_of (Front site) digits = 102 ∷ 114 ∷ 111 ∷ 110 ∷ 116 ∷ 32 ∷ field site digits
words_of (Defer alloc_site free_site) digits = 100 ∷ 101 ∷ 102 ∷ 101 ∷ 114 ∷ 32 ∷ field alloc_site (field free_site digits)

abbrev pub line_of : Key → List ℕ → List ℕ
line_of key digits = words_of key digits ++ 10 ∷ []

-- sites are 32-bit numbers
abbrev pub IsKey : Key → Type 0
IsKey (Pad site) = site < 2 ^ 32
IsKey (Front site) = site < 2 ^ 32
IsKey (Defer alloc_site free_site) = (alloc_site < 2 ^ 32) × (free_site < 2 ^ 32)

-- version 1 has no fronts
abbrev pub Allows : Version → Key → Type 0
Allows One (Pad site) = Unit {0}
Allows One (Front site) = ⊥
Allows One (Defer alloc_site free_site) = Unit {0}
Allows Two key = Unit {0}

-- a text that is one line of the version, about this key and with this number
pub record IsLine (version : Version) (text : List ℕ) (key : Key) (n : ℕ) : Type 0 where
  pub digits : List ℕ
  pub number : IsNumber digits
  pub value : n ≡ digits_value 10 digits
  pub named : IsKey key
  pub allowed : Allows version key
  pub spelled : text ≡ line_of key digits

-- the range of a line's number
abbrev pub InLimit : Key → ℕ → Type 0
InLimit (Pad site) n = (1 ≤ n) × (n ≤ greatest_pad)
InLimit (Front site) n = (front_unit ≤ n) × (n ≤ greatest_front) × (n % front_unit ≡ 0)
InLimit (Defer alloc_site free_site) n = (1 ≤ n) × (n < deferrals_below)

-- ---- what the parts of the reader find

-- the words of a line, whose number is kept up to 2^64 - 1
pub record IsWords (version : Version) (words : List ℕ) (line : Line) : Type 0 where
  pub digits : List ℕ
  pub number : IsNumber digits
  pub kept : line.number ≡ min (digits_value 10 digits) (2 ^ 64 - 1)
  pub key : IsKey line.key
  pub allowed : Allows version line.key
  pub are : words ≡ words_of line.key digits

abbrev pub NoWords : Version → List ℕ → Type 0
NoWords version words = (key : Key) (digits : List ℕ) → Allows version key → IsNumber digits → words ≢ words_of key digits

-- a text that begins with a line
pub record BeginsLine (version : Version) (text : List ℕ) (line : Line) (rest : List ℕ) : Type 0 where
  pub digits : List ℕ
  pub number : IsNumber digits
  pub kept : line.number ≡ min (digits_value 10 digits) (2 ^ 64 - 1)
  pub key : IsKey line.key
  pub allowed : Allows version line.key
  pub is : text ≡ line_of line.key digits ++ rest

-- a text that begins with no line
abbrev pub NoLine : Version → List ℕ → Type 0
NoLine version text = (key : Key) (digits rest : List ℕ) → Allows version key → IsNumber digits → text ≢ line_of key digits ++ rest

-- a site and a number, and nothing else
pub record IsSiteLine (bytes : List ℕ) (site number : ℕ) : Type 0 where
  pub digits : List ℕ
  pub numeral : IsNumber digits
  pub kept : number ≡ min (digits_value 10 digits) (2 ^ 64 - 1)
  pub small : site < 2 ^ 32
  pub are : bytes ≡ field site digits

-- two sites and a number, and nothing else
pub record IsPairLine (bytes : List ℕ) (alloc_site free_site number : ℕ) : Type 0 where
  pub digits : List ℕ
  pub numeral : IsNumber digits
  pub kept : number ≡ min (digits_value 10 digits) (2 ^ 64 - 1)
  pub small : (alloc_site < 2 ^ 32) × (free_site < 2 ^ 32)
  pub are : bytes ≡ field alloc_site (field free_site digits)
