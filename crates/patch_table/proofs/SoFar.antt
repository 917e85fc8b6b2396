-- What the reader has read: the front of its text is a text of the grammar.
use Rattle.std.proofs.Common.{◌≡◌, ℕ, ◌+◌, ◌<◌, List, [], ◌++◌, length, refl, sym, ap, subst, ◌∙◌, append_assoc, arith, Err}
use Rattle.std.specs.Str.Parse.{digits_value}
use Rattle.std.proofs.lemmas.List.{append-nil}
use Rattle.patch_table.specs.Table.{Table, no_patches}
use Rattle.patch_table.specs.Spelling.{head_of}
use Rattle.patch_table.specs.Line.{IsLine, InLimit, line_of, BeginsLine, NoLine}
use Rattle.patch_table.specs.Grammar.{Rises, with_line, IsText, next_line, BreaksAt, IsNoLine, Answers, Takes}
use Rattle.patch_table.specs.declared.line.Line.{Line}
use Rattle.patch_table.specs.declared.reading.PatchRefusal.{PatchRefusal}
use Rattle.patch_table.specs.declared.reading.PatchRefusal.TheVariants as why
use Rattle.patch_table.specs.declared.line.Version.{Version}
use Rattle.patch_table.specs.declared.line.Version.TheVariants.{One, Two}
use Rattle.patch_table.proofs.Texts.{limit_same, limit_small, next_number}

-- the text up to its n-th line is a text of the table
pub record IsSoFar (version : Version) (text : List ℕ) (table : Table) (n : ℕ) (rest : List ℕ) : Type 0 where
  pub before : List ℕ
  pub so_far : IsText version before table
  pub whole : text ≡ before ++ rest
  pub place : n ≡ next_line before

second_line : (version : Version) → 2 ≡ next_line (head_of version)
second_line One = refl
second_line Two = refl

pub at_start : (version : Version) (text rest : List ℕ) (table : Table) → text ≡ head_of version ++ rest → table ≡ no_patches → IsSoFar version text table 2 rest
at_start version text rest table e is = record { before = head_of version; so_far = subst (IsText version (head_of version)) (sym is) IsText.head; whole = e; place = second_line version }

pub at_end : (version : Version) (text : List ℕ) (table : Table) (n : ℕ) (rest : List ℕ) → IsSoFar version text table n rest → rest ≡ [] → IsText version text table
at_end version text table n rest f e = subst (λ x. IsText version x table) (sym (f.whole ∙ ap (λ r. f.before ++ r) e ∙ append-nil f.before)) f.so_far

pub no_line : (version : Version) (text : List ℕ) (table : Table) (n : ℕ) (rest : List ℕ) → IsSoFar version text table n rest → 0 < length rest → NoLine version rest → BreaksAt text n IsNoLine
no_line version text table n rest f some none = record {
  version = version;
  table = table;
  before = f.before;
  rest = rest;
  so_far = f.so_far;
  whole = f.whole;
  place = f.place;
  breaks = record { some = some; none = λ line key m more is e. none key is.digits more is.allowed is.number (e ∙ ap (λ l. l ++ more) is.spelled) };
}

-- the line that the reader found, with its own number
read_line : (version : Version) (rest next : List ℕ) (line : Line) → (b : BeginsLine version rest line next) → IsLine version (line_of line.key b.digits) line.key (digits_value 10 b.digits)
read_line version rest next line b = record { digits = b.digits; number = b.number; value = refl; named = b.key; allowed = b.allowed; spelled = refl }

pub goes_on : (version : Version) (text rest next : List ℕ) (table : Table) (n : ℕ) (line : Line) → IsSoFar version text table n rest → BeginsLine version rest line next → InLimit line.key line.number → Rises table line.key
    → IsSoFar version text (with_line table line.key line.number) (n + 1) next
goes_on version text rest next table n line f b limit rises =
    let value = digits_value 10 b.digits in
    let words = line_of line.key b.digits in
    let own : InLimit line.key value = (limit_same line.key value line.number b.kept).0 limit in
    let small = limit_small line.key value own in
    let number : line.number ≡ value = omega (arith, b.kept, small) in
    let is : IsLine version words line.key line.number = record { digits = b.digits; number = b.number; value = number; named = b.key; allowed = b.allowed; spelled = refl } in
    record {
      before = f.before ++ words;
      so_far = IsText.next words line.key line.number f.so_far is limit rises;
      whole = f.whole ∙ ap (λ r. f.before ++ r) b.is ∙ sym (append_assoc f.before words next);
      place = omega (arith, f.place, next_number version f.before words line.key line.number is);
    }

pub refused : (version : Version) (e : PatchRefusal) (text rest next : List ℕ) (table new : Table) (line : Line) (n : ℕ) → IsSoFar version text table n rest → BeginsLine version rest line next → Takes table line n (Err e) new → Answers text (Err e)
refused version why.Head text rest next table new line n f b h = absurd h
refused version (why.Line m) text rest next table new line n f b h = absurd h
refused version (why.Limit m) text rest next table new line n f b h = record {
  version = version;
  table = table;
  before = f.before;
  rest = rest;
  so_far = f.so_far;
  whole = f.whole;
  place = h.0 ∙ f.place;
  breaks = record {
    line = line_of line.key b.digits;
    key = line.key;
    value = digits_value 10 b.digits;
    more = next;
    parts = b.is;
    is_line = read_line version rest next line b;
    beyond = λ l. h.1 ((limit_same line.key (digits_value 10 b.digits) line.number b.kept).1 l);
  };
}
refused version (why.Order m) text rest next table new line n f b h = record {
  version = version;
  table = table;
  before = f.before;
  rest = rest;
  so_far = f.so_far;
  whole = f.whole;
  place = h.0 ∙ f.place;
  breaks = record {
    line = line_of line.key b.digits;
    key = line.key;
    value = digits_value 10 b.digits;
    more = next;
    parts = b.is;
    is_line = read_line version rest next line b;
    within = (limit_same line.key (digits_value 10 b.digits) line.number b.kept).0 h.1;
    falls = h.2;
  };
}
refused version why.Memory text rest next table new line n f b h = tt
