-- Each word keeps the count of the argument list.
use Rattle.std.proofs.Common.{◌≡◌, ℕ, zero, suc, ◌+◌, ◌-◌, ◌<◌, ◌≤◌, ◌^◌, Bool, true, false, cond, ◌&&◌, ◌==◌, nat_lt, nat_le, List, [], ◌∷◌, ◌++◌, length, drop, Option, None, Some, Result, Ok, Err, unwrap_or, IfOk, is_some, codes, append_assoc, refl, sym, ◌∙◌, ap, subst, arith, lit<}
use Rattle.std.proofs.lemmas.Bool.Decides.{nat_tests}
use Rattle.std.proofs.lemmas.List.{append-nil, drop-append-le, drop_all, length-append, get_or_push, get_or_append_left}
use Rattle.std.specs.Str.{bytes_eq}
use Rattle.infinite_heap.specs.Start.{string_block, IsWithin}
use Rattle.layout_run.specs.Whole.{most_steps}
use Rattle.exterm_cli.specs.Number.{number_of}
use Rattle.exterm_cli.specs.Words.{refuse, flag_of, is_guest, is_numbered, most_names, allows, has, with_flag, flagged, in_range, or_value, file_at, valued, with_string, with_name, numbered, named, begins_with_dash, before_last, after_last, free_word, unexpected, expected, word_read, begun, guest_words, repair_to, command_of, finished, verb_of, and_then, words_read, with_verb, words_of}
use Rattle.exterm_cli.specs.Counted.{word, CountsNone, CountsList, CountsBehind, CountsNames, CountsFor, Early, IsRead, IsGiven, GivesGuest}
use Rattle.exterm_cli.specs.declared.words.Command.{Command}
use Rattle.exterm_cli.specs.declared.words.Flag.{Flag}
use Rattle.exterm_cli.specs.declared.words.Flag.TheVariants as flag
use Rattle.exterm_cli.specs.declared.words.Kind.TheVariants as kind
use Rattle.exterm_cli.specs.declared.words.Options.{Options}
use Rattle.exterm_cli.specs.declared.words.Reading.{Reading}
use Rattle.exterm_cli.specs.declared.words.Refusal.{Refusal}
use Rattle.exterm_cli.specs.declared.words.Verb.{Verb}
use Rattle.exterm_cli.specs.declared.words.Verb.TheVariants as verb

abbrev pub OkIs : (Reading → Type 0) → Result Reading Refusal → Type 0
OkIs P r = IfOk r P

abbrev pub OkCommand : (Command → Type 0) → Result Command Refusal → Type 0
OkCommand P r = IfOk r P

-- a choice, each side under its test
pub choice : (P : Result Reading Refusal → Type 0) (b : Bool) (x y : Result Reading Refusal) → (b ≡ true → P x) → (b ≡ false → P y) → P (cond b x y)
choice P true x y one two = one refl
choice P false x y one two = two refl

-- no name yet: nothing is counted, for either kind of command
none-of : (words : List (List ℕ)) (r : Reading) (g : Bool) → r.names ≡ 0 → CountsFor words r g → CountsNone r
none-of words r false zero' counts = counts
none-of words r true zero' counts = subst (λ n. CountsNames words r n) zero' counts

all-none : (words : List (List ℕ)) (r : Reading) (g : Bool) → r.names ≡ 0 → CountsNone r → CountsFor words r g
all-none words r false zero' none = none
all-none words r true zero' none = subst (λ n. CountsNames words r n) (sym zero') none

module _ (words : List (List ℕ)) (w : List ℕ) where
  -- options alone have changed
  kept-options : (r : Reading) (o : Options) → r.names ≡ 0 → CountsFor words r (is_guest r.verb) → IsRead (words ++ w ∷ []) (record r { options = o; expects = None })
  kept-options r o zero' counts =
      let none = none-of words r (is_guest r.verb) zero' counts in
      record { early = tt; counts = all-none (words ++ w ∷ []) (record r { options = o; expects = None }) (is_guest r.verb) zero' (record { guest = none.guest; strings = none.strings; bytes = none.bytes }) }

  kept-value : {A : Type 0} (r : Reading) (place : ℕ) (a : Option A) (o : A → Options) → r.names ≡ 0 → CountsFor words r (is_guest r.verb) → OkIs (IsRead (words ++ w ∷ [])) (or_value r place a o)
  kept-value r place None o zero' counts = tt
  kept-value r place (Some a) o zero' counts = kept-options r (o a) zero' counts

  kept-valued : (r : Reading) (place : ℕ) (f : Flag) → r.names ≡ 0 → CountsFor words r (is_guest r.verb) → OkIs (IsRead (words ++ w ∷ [])) (valued r place w f)
  kept-valued r place flag.Seed zero' counts = kept-value r place (number_of (2 ^ 64) w) _ zero' counts
  kept-valued r place flag.Steps zero' counts = kept-value r place (in_range 1 most_steps (number_of (2 ^ 64) w)) _ zero' counts
  kept-valued r place flag.Images zero' counts = kept-value r place (in_range 2 16 (number_of (2 ^ 64) w)) _ zero' counts
  kept-valued r place flag.Replicas zero' counts = kept-value r place (in_range 3 9 (number_of (2 ^ 64) w)) _ zero' counts
  kept-valued r place flag.Quantum zero' counts = kept-value r place (in_range 1 1000000 (number_of (2 ^ 64) w)) _ zero' counts
  kept-valued r place flag.Patches zero' counts = kept-value r place (file_at place w) _ zero' counts
  kept-valued r place flag.Image zero' counts = kept-value r place (file_at place w) _ zero' counts
  kept-valued r place flag.Out zero' counts = kept-value r place (file_at place w) _ zero' counts
  kept-valued r place flag.Zero zero' counts = tt

  -- a word before any name
  kept-flagged : (r : Reading) (place : ℕ) (f : Option Flag) → r.names ≡ 0 → r.expects ≡ None → CountsFor words r (is_guest r.verb) → OkIs (IsRead (words ++ w ∷ [])) (flagged r place f)
  kept-flagged r place None zero' plain counts = tt
  kept-flagged r place (Some f) zero' plain counts =
      choice (OkIs (IsRead (words ++ w ∷ []))) (allows r.verb f) _ _
      (λ _. choice (OkIs (IsRead (words ++ w ∷ []))) (has r.options f) (refuse place kind.Repeat) (Ok (with_flag r f)) (λ _. tt) (λ _. set f))
      (λ _. tt)
    where
      none : CountsNone r
      none = none-of words r (is_guest r.verb) zero' counts

      awaits : (e : Option Flag) → Early e r.names → IsRead (words ++ w ∷ []) (record r { expects = e })
      awaits e early = record { early = early; counts = all-none (words ++ w ∷ []) (record r { expects = e }) (is_guest r.verb) zero' (record { guest = none.guest; strings = none.strings; bytes = none.bytes }) }

      set : (f : Flag) → IsRead (words ++ w ∷ []) (with_flag r f)
      set flag.Zero = record { early = subst (λ e. Early e r.names) (sym plain) tt; counts = all-none (words ++ w ∷ []) (record r { options = record r.options { zero = true } }) (is_guest r.verb) zero' (record { guest = none.guest; strings = none.strings; bytes = none.bytes }) }
      set flag.Seed = awaits (Some flag.Seed) zero'
      set flag.Steps = awaits (Some flag.Steps) zero'
      set flag.Patches = awaits (Some flag.Patches) zero'
      set flag.Image = awaits (Some flag.Image) zero'
      set flag.Images = awaits (Some flag.Images) zero'
      set flag.Replicas = awaits (Some flag.Replicas) zero'
      set flag.Quantum = awaits (Some flag.Quantum) zero'
      set flag.Out = awaits (Some flag.Out) zero'

  -- a name of a command without a guest
  kept-name : (r : Reading) (n : ℕ) (place : ℕ) → is_guest r.verb ≡ false → r.expects ≡ None → CountsFor words r (is_guest r.verb) → IsRead (words ++ w ∷ []) (record (with_name r place) { number = n })
  kept-name r n place other plain counts =
      elim (r.names == 0) as (λ b. IsRead (words ++ w ∷ []) (record (cond b (record r { first = place - 1; names = 1 }) (record r { names = r.names + 1 })) { number = n })) [
        | true ↦ record { early = subst (λ e. Early e 1) (sym plain) tt; counts = subst (λ g. CountsFor (words ++ w ∷ []) (record r { first = place - 1; names = 1; number = n }) g) (sym other) (record { guest = none.guest; strings = none.strings; bytes = none.bytes }) }
        | false ↦ record { early = subst (λ e. Early e (r.names + 1)) (sym plain) tt; counts = subst (λ g. CountsFor (words ++ w ∷ []) (record r { names = r.names + 1; number = n }) g) (sym other) (record { guest = none.guest; strings = none.strings; bytes = none.bytes }) }
      ]
    where
      none : CountsNone r
      none = subst (λ g. CountsFor words r g) other counts

  kept-plain-name : (r : Reading) (place : ℕ) → is_guest r.verb ≡ false → r.expects ≡ None → CountsFor words r (is_guest r.verb) → IsRead (words ++ w ∷ []) (with_name r place)
  kept-plain-name r place other plain counts =
      elim (r.names == 0) as (λ b. IsRead (words ++ w ∷ []) (cond b (record r { first = place - 1; names = 1 }) (record r { names = r.names + 1 }))) [
        | true ↦ record { early = subst (λ e. Early e 1) (sym plain) tt; counts = subst (λ g. CountsFor (words ++ w ∷ []) (record r { first = place - 1; names = 1 }) g) (sym other) (record { guest = none.guest; strings = none.strings; bytes = none.bytes }) }
        | false ↦ record { early = subst (λ e. Early e (r.names + 1)) (sym plain) tt; counts = subst (λ g. CountsFor (words ++ w ∷ []) (record r { names = r.names + 1 }) g) (sym other) (record { guest = none.guest; strings = none.strings; bytes = none.bytes }) }
      ]
    where
      none : CountsNone r
      none = subst (λ g. CountsFor words r g) other counts

  kept-numbered : (r : Reading) (place : ℕ) (n : Option ℕ) → is_guest r.verb ≡ false → r.expects ≡ None → CountsFor words r (is_guest r.verb) → OkIs (IsRead (words ++ w ∷ [])) (numbered r place n)
  kept-numbered r place None other plain counts = tt
  kept-numbered r place (Some n) other plain counts = kept-name r n place other plain counts

  not-guest : (v : Verb) → is_numbered v ≡ true → is_guest v ≡ false
  not-guest verb.Make is = refl
  not-guest verb.Trial is = refl
  not-guest verb.Run is = absurd (cc)
  not-guest verb.Repair is = absurd (cc)
  not-guest verb.Replicate is = absurd (cc)
  not-guest verb.Merge is = absurd (cc)
  not-guest verb.Isolate is = absurd (cc)
  not-guest verb.Show is = absurd (cc)
  not-guest verb.Judge is = absurd (cc)

  -- the word behind all others
  last-word : word (words ++ w ∷ []) (length words) ≡ w
  last-word = get_or_push words w [] (length words) refl

  earlier-word : (at : ℕ) → at < length words → word (words ++ w ∷ []) at ≡ word words at
  earlier-word at less = get_or_append_left words (w ∷ []) [] at less

  -- a guest's name
  kept-guest-name : (r : Reading) → is_guest r.verb ≡ true → r.names ≡ 0 → r.expects ≡ None → CountsFor words r (is_guest r.verb) → OkIs (IsRead (words ++ w ∷ [])) (with_string (with_name r (length words + 1)) (length words + 1) w)
  kept-guest-name r guest zero' plain counts =
      let here : with_name r (length words + 1) ≡ record r { first = length words + 1 - 1; names = 1 } = ap (λ b. cond b (record r { first = length words + 1 - 1; names = 1 }) (record r { names = r.names + 1 })) (ap (λ n. n == 0) zero') in
      subst (λ (s : Reading). OkIs (IsRead (words ++ w ∷ [])) (with_string s (length words + 1) w)) (sym here)
      (choice (OkIs (IsRead (words ++ w ∷ []))) (nat_le (r.strings + 1) 1024 && nat_le (r.bytes + length w + 1) 65536) _ _ (λ fits. read fits) (λ _. tt))
    where
      none : CountsNone r
      none = none-of words r (is_guest r.verb) zero' counts

      at : length words + 1 - 1 ≡ length words
      at = omega arith

      read : (nat_le (r.strings + 1) 1024 && nat_le (r.bytes + length w + 1) 65536) ≡ true → IsRead (words ++ w ∷ []) (record r { first = length words + 1 - 1; names = 1; strings = r.strings + 1; bytes = r.bytes + length w + 1 })
      read fits = record {
        early = subst (λ e. Early e 1) (sym plain) tt;
        counts = subst (λ g. CountsFor (words ++ w ∷ []) (record r { first = length words + 1 - 1; names = 1; strings = r.strings + 1; bytes = r.bytes + length w + 1 }) g) (sym guest)
            (subst (λ g. CountsBehind (words ++ w ∷ []) (record r { first = length words + 1 - 1; names = 1; strings = r.strings + 1; bytes = r.bytes + length w + 1 }) g) (sym none.guest) (record {
              first = rw (at, length-append words (w ∷ [])) (omega arith);
              one = refl;
              strings = rw none.strings refl;
              bytes = rw (none.bytes, at, last-word) (omega arith);
              few = grind (arith, nat_tests);
              short = grind (arith, nat_tests);
            }));
      }

  kept-named : (r : Reading) → r.names < most_names r.verb → r.expects ≡ None → CountsFor words r (is_guest r.verb) → OkIs (IsRead (words ++ w ∷ [])) (named r (length words + 1) w)
  kept-named r less plain counts =
      choice (OkIs (IsRead (words ++ w ∷ []))) (length w == 0) _ _ (λ _. tt)
      (λ _. choice (OkIs (IsRead (words ++ w ∷ []))) (is_numbered r.verb) _ _
      (λ number. kept-numbered r (length words + 1) (in_range 0 4294967295 (number_of (2 ^ 64) w)) (not-guest r.verb number) plain counts)
      (λ _. choice (OkIs (IsRead (words ++ w ∷ []))) (is_guest r.verb) _ _
      (λ guest. kept-guest-name r guest (first-of r.verb guest less) plain counts)
      (λ other. kept-plain-name r (length words + 1) other plain counts)))
    where
      first-of : (v : Verb) → is_guest v ≡ true → r.names < most_names v → r.names ≡ 0
      first-of verb.Run is lt = omega arith
      first-of verb.Repair is lt = omega arith
      first-of verb.Replicate is lt = omega arith
      first-of verb.Judge is lt = omega arith
      first-of verb.Merge is lt = absurd (cc)
      first-of verb.Isolate is lt = absurd (cc)
      first-of verb.Show is lt = omega arith
      first-of verb.Make is lt = omega arith
      first-of verb.Trial is lt = omega arith

  kept-before : (r : Reading) → r.names < most_names r.verb → r.expects ≡ None → CountsFor words r (is_guest r.verb) → OkIs (IsRead (words ++ w ∷ [])) (before_last r (length words + 1) w)
  kept-before r less plain counts =
      choice (OkIs (IsRead (words ++ w ∷ []))) (begins_with_dash w) _ _
      (λ _. choice (OkIs (IsRead (words ++ w ∷ []))) (r.names == 0) _ _
      (λ is. let zero' : r.names ≡ 0 = grind (arith, nat_tests) in kept-flagged r (length words + 1) (flag_of w) zero' plain counts)
      (λ _. tt))
      (λ _. kept-named r less plain counts)

  -- the first guest word is the next one
  kept-after : (r : Reading) (names : ℕ) → r.names ≡ suc names → r.guest ≡ None → r.expects ≡ None → CountsFor words r (is_guest r.verb) → OkIs (IsRead (words ++ w ∷ [])) (after_last r (length words + 1) w)
  kept-after r names more none plain counts =
      choice (OkIs (IsRead (words ++ w ∷ []))) (is_guest r.verb && bytes_eq w (codes "--")) _ _ (λ is. begins (both (is_guest r.verb) (bytes_eq w (codes "--")) is)) (λ _. tt)
    where
      both : (a b : Bool) → (a && b) ≡ true → a ≡ true
      both true b is = refl
      both false b is = is

      begins : is_guest r.verb ≡ true → IsRead (words ++ w ∷ []) (record r { guest = Some (length words + 1) })
      begins guest =
          let list : CountsList words r [] = subst (λ g. CountsBehind words r g) none (subst (λ n. CountsNames words r n) more (subst (λ g. CountsFor words r g) guest counts)) in
          let all : drop (length words + 1) (words ++ w ∷ []) ≡ [] = drop_all (length words + 1) (words ++ w ∷ []) (rw (length-append words (w ∷ [])) (omega arith)) in
          let now : CountsList (words ++ w ∷ []) (record r { guest = Some (length words + 1) }) [] = record {
            first = rw (length-append words (w ∷ [])) (omega (arith, list.first));
            one = list.one;
            strings = list.strings;
            bytes = rw (earlier-word r.first list.first) list.bytes;
            few = list.few;
            short = list.short;
          } in
          record {
            early = subst (λ e. Early e r.names) (sym plain) tt;
            counts = subst (λ g. CountsFor (words ++ w ∷ []) (record r { guest = Some (length words + 1) }) g) (sym guest)
                (subst (λ n. CountsNames (words ++ w ∷ []) (record r { guest = Some (length words + 1) }) n) (sym more)
                (rw (length-append words (w ∷ [])) (omega arith), subst (λ own. CountsList (words ++ w ∷ []) (record r { guest = Some (length words + 1) }) own) (sym all) now));
          }

  -- one more guest word
  kept-string : (r : Reading) (from names : ℕ) → r.guest ≡ Some from → r.names ≡ suc names → is_guest r.verb ≡ true → r.expects ≡ None → CountsFor words r (is_guest r.verb) → OkIs (IsRead (words ++ w ∷ [])) (with_string r (length words + 1) w)
  kept-string r from names behind more guest plain counts =
      choice (OkIs (IsRead (words ++ w ∷ []))) (nat_le (r.strings + 1) 1024 && nat_le (r.bytes + length w + 1) 65536) _ _ read (λ _. tt)
    where
      known : (from ≤ length words) × CountsList words r (drop from words)
      known = subst (λ g. CountsBehind words r g) behind (subst (λ n. CountsNames words r n) more (subst (λ g. CountsFor words r g) guest counts))

      own : drop from (words ++ w ∷ []) ≡ drop from words ++ w ∷ []
      own = drop-append-le from words (w ∷ []) known.0

      block : (texts : List (List ℕ)) → length (string_block (texts ++ w ∷ [])) ≡ length (string_block texts) + length w + 1
      block [] = rw (length-append (w ++ 0 ∷ []) [], length-append w (0 ∷ [])) (omega arith)
      block (text ∷ texts) = rw (length-append (text ++ 0 ∷ []) (string_block (texts ++ w ∷ [])), length-append (text ++ 0 ∷ []) (string_block texts), block texts) (omega arith)

      read : (nat_le (r.strings + 1) 1024 && nat_le (r.bytes + length w + 1) 65536) ≡ true → IsRead (words ++ w ∷ []) (record r { strings = r.strings + 1; bytes = r.bytes + length w + 1 })
      read fits =
          let now : CountsList (words ++ w ∷ []) (record r { strings = r.strings + 1; bytes = r.bytes + length w + 1 }) (drop from words ++ w ∷ []) = record {
            first = rw (length-append words (w ∷ [])) (omega (arith, known.1.first));
            one = known.1.one;
            strings = rw (length-append (drop from words) (w ∷ []), known.1.strings) (omega arith);
            bytes = rw (earlier-word r.first known.1.first, block (drop from words), known.1.bytes) (omega arith);
            few = grind (arith, nat_tests);
            short = grind (arith, nat_tests);
          } in
          record {
            early = subst (λ e. Early e r.names) (sym plain) tt;
            counts = subst (λ g. CountsFor (words ++ w ∷ []) (record r { strings = r.strings + 1; bytes = r.bytes + length w + 1 }) g) (sym guest)
                (subst (λ n. CountsNames (words ++ w ∷ []) (record r { strings = r.strings + 1; bytes = r.bytes + length w + 1 }) n) (sym more)
                (subst (λ g. CountsBehind (words ++ w ∷ []) (record r { strings = r.strings + 1; bytes = r.bytes + length w + 1 }) g) (sym behind)
                (rw (length-append words (w ∷ [])) (omega (arith, known.0)), subst (λ o. CountsList (words ++ w ∷ []) (record r { strings = r.strings + 1; bytes = r.bytes + length w + 1 }) o) (sym own) now)));
          }

  -- a word that no option waits for
  kept-free : (r : Reading) → r.guest ≡ None → r.expects ≡ None → CountsFor words r (is_guest r.verb) → OkIs (IsRead (words ++ w ∷ [])) (free_word r (length words + 1) w)
  kept-free r none plain counts =
      choice (OkIs (IsRead (words ++ w ∷ []))) (nat_lt r.names (most_names r.verb)) _ _
      (λ less. kept-before r (grind (arith, nat_tests)) plain counts)
      (λ not. behind r.names refl (grind (arith, nat_tests)))
    where
      some : (v : Verb) → 0 < most_names v
      some verb.Run = lit< tt
      some verb.Repair = lit< tt
      some verb.Replicate = lit< tt
      some verb.Merge = lit< tt
      some verb.Isolate = lit< tt
      some verb.Show = lit< tt
      some verb.Make = lit< tt
      some verb.Trial = lit< tt
      some verb.Judge = lit< tt

      behind : (n : ℕ) → r.names ≡ n → most_names r.verb ≤ n → OkIs (IsRead (words ++ w ∷ [])) (after_last r (length words + 1) w)
      behind zero is le = let s = some r.verb in absurd (omega (arith, s, le))
      behind (suc n) is le = kept-after r n is none plain counts

  kept-behind : (r : Reading) (g : Option ℕ) → r.guest ≡ g → r.expects ≡ None → CountsFor words r (is_guest r.verb) → OkIs (IsRead (words ++ w ∷ [])) (unexpected r (length words + 1) w g)
  kept-behind r None none plain counts = kept-free r none plain counts
  kept-behind r (Some from) some plain counts = go (is_guest r.verb) refl
    where
      named' : (n : ℕ) → r.names ≡ n → is_guest r.verb ≡ true → OkIs (IsRead (words ++ w ∷ [])) (with_string r (length words + 1) w)
      named' zero is guest =
          let no = none-of words r (is_guest r.verb) is counts in
          let bad : Some from ≡ None = sym some ∙ no.guest in
          absurd (cc)
      named' (suc n) is guest = kept-string r from n some is guest plain counts

      go : (g : Bool) → is_guest r.verb ≡ g → OkIs (IsRead (words ++ w ∷ [])) (with_string r (length words + 1) w)
      go true is = named' r.names refl is
      go false is =
          let no : CountsNone r = subst (λ g. CountsFor words r g) is counts in
          let bad : Some from ≡ None = sym some ∙ no.guest in
          absurd (cc)

  kept-expected : (r : Reading) (f : Option Flag) → r.expects ≡ f → IsRead words r → OkIs (IsRead (words ++ w ∷ [])) (expected r (length words + 1) w f)
  kept-expected r (Some f) is read = kept-valued r (length words + 1) f (subst (λ e. Early e r.names) is read.early) read.counts
  kept-expected r None is read = kept-behind r r.guest refl is read.counts

  -- each word keeps what is known
  pub kept-word : (r : Reading) → IsRead words r → OkIs (IsRead (words ++ w ∷ [])) (word_read r (length words + 1) w)
  kept-word r read = kept-expected r r.expects refl read

-- nothing is counted behind the command
pub begun-read : (command : List ℕ) (v : Verb) → IsRead (command ∷ []) (begun v)
begun-read command v = record { early = tt; counts = all-none (command ∷ []) (begun v) (is_guest v) refl (record { guest = refl; strings = refl; bytes = refl }) }

given-list : (words : List (List ℕ)) (r : Reading) (own : List (List ℕ)) → CountsList words r own → IsWithin (word words r.first ∷ own)
given-list words r own list = record {
  few = omega (arith, list.strings, list.few);
  short = rw (length-append (word words r.first ++ 0 ∷ []) (string_block own), length-append (word words r.first) (0 ∷ [])) (omega (arith, list.bytes, list.short));
}

given-behind : (words : List (List ℕ)) (r : Reading) (g : Option ℕ) → CountsBehind words r g → IsGiven words (record (guest_words r (length words)) { guest = unwrap_or g (length words) })
given-behind words r None list = (list.first, subst (λ own. IsWithin (word words r.first ∷ own)) (sym (drop_all (length words) words (omega arith))) (given-list words r [] list))
given-behind words r (Some from) list = (list.1.first, given-list words r (drop from words) list.1)

-- a guest that is asked for may be given its words
pub gives-guest : (words : List (List ℕ)) (r : Reading) (names : ℕ) → IsRead words r → r.names ≡ suc names → OkCommand (GivesGuest words) (command_of r (length words) r.verb)
gives-guest words r names read more = go r.verb refl
  where
    given : is_guest r.verb ≡ true → IsGiven words (guest_words r (length words))
    given is = given-behind words r r.guest (subst (λ n. CountsNames words r n) more (subst (λ g. CountsFor words r g) is read.counts))

    repair : (out : Option ℕ) → is_guest r.verb ≡ true → OkCommand (GivesGuest words) (repair_to r (length words) out)
    repair None is = tt
    repair (Some out) is = given is

    go : (v : Verb) → r.verb ≡ v → OkCommand (GivesGuest words) (command_of r (length words) v)
    go verb.Run is = given (ap is_guest is)
    go verb.Repair is = repair r.options.out (ap is_guest is)
    go verb.Replicate is = given (ap is_guest is)
    go verb.Judge is = given (ap is_guest is)
    go verb.Merge is = tt
    go verb.Isolate is = tt
    go verb.Show is = tt
    go verb.Make is = tt
    go verb.Trial is = tt

-- what the words ask for may be given
pub finished-gives : (words : List (List ℕ)) (r : Reading) → IsRead words r → IfOk (finished (length words) r) (GivesGuest words)
finished-gives words r read =
    elim (is_some r.expects) as (λ b. IfOk (cond b (refuse (length words + 1) kind.Value) (cond (r.names == 0) (refuse (length words + 1) kind.Missing) (command_of r (length words) r.verb))) (GivesGuest words)) [
      | true ↦ tt
      | false ↦ go r.names refl
    ]
  where
    go : (n : ℕ) → r.names ≡ n → IfOk (cond (r.names == 0) (refuse (length words + 1) kind.Missing) (command_of r (length words) r.verb)) (GivesGuest words)
    go zero is = rw is tt
    go (suc n) is = elim (r.names == 0) as (λ b. IfOk (cond b (refuse (length words + 1) kind.Missing) (command_of r (length words) r.verb)) (GivesGuest words)) [ true ↦ tt | false ↦ gives-guest words r n read is ]

-- a list of words keeps what is known
next-all : (words : List (List ℕ)) (w : List ℕ) (rest : List (List ℕ)) (next : Result Reading Refusal) → ((s : Reading) → IsRead (words ++ w ∷ []) s → IfOk (words_read s (length (words ++ w ∷ []) + 1) rest) (IsRead ((words ++ w ∷ []) ++ rest))) → IfOk next (IsRead (words ++ w ∷ [])) → IfOk (and_then next (λ s. words_read s (length words + 1 + 1) rest)) (IsRead (words ++ w ∷ rest))
next-all words w rest (Err refused) more known = tt
next-all words w rest (Ok s) more known =
    let long : length (words ++ w ∷ []) + 1 ≡ length words + 1 + 1 = rw (length-append words (w ∷ [])) (omega arith) in
    let all : (words ++ w ∷ []) ++ rest ≡ words ++ w ∷ rest = append_assoc words (w ∷ []) rest in
    subst (λ ws. IfOk (words_read s (length words + 1 + 1) rest) (IsRead ws)) all (subst (λ n. IfOk (words_read s n rest) (IsRead ((words ++ w ∷ []) ++ rest))) long (more s known))

read-all : (words rest : List (List ℕ)) (r : Reading) → IsRead words r → IfOk (words_read r (length words + 1) rest) (IsRead (words ++ rest))
read-all words [] r read = subst (λ ws. IsRead ws r) (sym (append-nil words)) read
read-all words (w ∷ rest) r read = next-all words w rest (word_read r (length words + 1) w) (λ s known. read-all (words ++ w ∷ []) rest s known) (kept-word words w r read)

-- a command line that is accepted gives its guest what it may be given
pub words-give : (words : List (List ℕ)) → IfOk (words_of words) (GivesGuest words)
words-give [] = tt
words-give (command ∷ words) = with (verb_of command)
  where
    ends : (v : Verb) (reading : Result Reading Refusal) → IfOk reading (IsRead (command ∷ words)) → IfOk (and_then reading (finished (length words + 1))) (GivesGuest (command ∷ words))
    ends v (Err refused) known = tt
    ends v (Ok r) known = subst (λ n. IfOk (finished n r) (GivesGuest (command ∷ words))) (omega arith) (finished-gives (command ∷ words) r known)

    with : (v : Option Verb) → IfOk (with_verb words v) (GivesGuest (command ∷ words))
    with None = tt
    with (Some v) = ends v (words_read (begun v) 2 words) (read-all (command ∷ []) words (begun v) (begun-read command v))
