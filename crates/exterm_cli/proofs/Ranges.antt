-- The steps and images that are asked for are within their limits, and the names and the patch file are among the words so far.
use Rattle.std.proofs.Common.{◌≡◌, ℕ, ◌+◌, ◌-◌, ◌<◌, ◌≤◌, ◌^◌, Bool, true, false, cond, ◌&&◌, ◌==◌, nat_lt, nat_le, List, [], ◌∷◌, length, Option, None, Some, Result, Ok, Err, IfOk, IfSome, is_some, unwrap_or, codes, refl, sym, subst, arith, lit<, lit≤}
use Rattle.std.proofs.lemmas.Bool.Decides.{nat_tests}
use Rattle.std.specs.Str.{bytes_eq}
use Rattle.layout_run.specs.Whole.{most_steps}
use Rattle.exterm_cli.specs.Number.{number_of}
use Rattle.exterm_cli.specs.Words.{refuse, flag_of, is_guest, is_numbered, most_names, allows, has, with_flag, flagged, in_range, or_value, file_at, valued, with_string, with_name, numbered, named, begins_with_dash, before_last, after_last, unexpected, expected, word_read, begun, repair_to, command_of, finished, verb_of, and_then, words_read, with_verb, words_of, usual_steps}
use Rattle.exterm_cli.specs.Counted.{AreFew, AreReplicas, Lasts, LastsGuest, LiesIn, TakesSteps}
use Rattle.exterm_cli.specs.declared.words.Command.{Command}
use Rattle.exterm_cli.specs.declared.words.Flag.{Flag}
use Rattle.exterm_cli.specs.declared.words.Flag.TheVariants as flag
use Rattle.exterm_cli.specs.declared.words.Kind.TheVariants as kind
use Rattle.exterm_cli.specs.declared.words.Options.{Options}
use Rattle.exterm_cli.specs.declared.words.Reading.{Reading}
use Rattle.exterm_cli.specs.declared.words.Refusal.{Refusal}
use Rattle.exterm_cli.specs.declared.words.Verb.{Verb}
use Rattle.exterm_cli.specs.declared.words.Verb.TheVariants as verb
use Rattle.exterm_cli.proofs.Counts.{OkIs, choice}

-- what is known before the word of that number
pub record Ranges (place : ℕ) (r : Reading) : Type 0 where
  pub steps : Lasts r.options.steps
  pub images : AreFew r.options.images
  pub replicas : AreReplicas r.options.replicas
  pub quantum : TakesSteps r.options.quantum
  pub names : r.first + r.names < place
  pub patches : IfSome r.options.patches (λ at. at + 1 < place)

-- a place among the words is among more of them
among : (patches : Option ℕ) (place more : ℕ) → place ≤ more → IfSome patches (λ at. at + 1 < place) → IfSome patches (λ at. at + 1 < more)
among None place more le known = tt
among (Some at) place more le known = omega (arith, le, known)

one-more : (patches : Option ℕ) (place : ℕ) → IfSome patches (λ at. at + 1 < place) → IfSome patches (λ at. at + 1 < place + 1)
one-more patches place known = among patches place (place + 1) (omega arith) known

-- the same before the next word, where steps, names and the patch file are as they were
later : (r s : Reading) (place : ℕ) → Ranges place r → s.options.steps ≡ r.options.steps → s.first ≡ r.first → s.names ≡ r.names → s.options.patches ≡ r.options.patches → s.options.images ≡ r.options.images → s.options.replicas ≡ r.options.replicas → s.options.quantum ≡ r.options.quantum → Ranges (place + 1) s
later r s place known steps first names patches images replicas quantum = record {
  steps = subst Lasts (sym steps) known.steps;
  images = subst AreFew (sym images) known.images;
  replicas = subst AreReplicas (sym replicas) known.replicas;
  quantum = subst TakesSteps (sym quantum) known.quantum;
  names = rw (first, names) (omega (arith, known.names));
  patches = subst (λ p. IfSome p (λ at. at + 1 < place + 1)) (sym patches) (one-more r.options.patches place known.patches);
}

in-range : (o : Option ℕ) → Lasts (in_range 1 most_steps o)
in-range None = tt
in-range (Some n) = go (nat_le 1 n && nat_le n most_steps) refl
  where
    go : (b : Bool) → (nat_le 1 n && nat_le n most_steps) ≡ b → Lasts (cond b (Some n) None)
    go true fits = grind (arith, nat_tests)
    go false fits = tt

few-in-range : (o : Option ℕ) → AreFew (in_range 2 16 o)
few-in-range None = tt
few-in-range (Some n) = go (nat_le 2 n && nat_le n 16) refl
  where
    go : (b : Bool) → (nat_le 2 n && nat_le n 16) ≡ b → AreFew (cond b (Some n) None)
    go true fits = (grind (arith, nat_tests), grind (arith, nat_tests))
    go false fits = tt

replicas-in-range : (o : Option ℕ) → AreReplicas (in_range 3 9 o)
replicas-in-range None = tt
replicas-in-range (Some n) = go (nat_le 3 n && nat_le n 9) refl
  where
    go : (b : Bool) → (nat_le 3 n && nat_le n 9) ≡ b → AreReplicas (cond b (Some n) None)
    go true fits = (grind (arith, nat_tests), grind (arith, nat_tests))
    go false fits = tt

steps-in-range : (o : Option ℕ) → TakesSteps (in_range 1 1000000 o)
steps-in-range None = tt
steps-in-range (Some n) = go (nat_le 1 n && nat_le n 1000000) refl
  where
    go : (b : Bool) → (nat_le 1 n && nat_le n 1000000) ≡ b → TakesSteps (cond b (Some n) None)
    go true fits = grind (arith, nat_tests)
    go false fits = tt

module _ (r : Reading) (place : ℕ) (known : Ranges place r) where
  steps-value : (a : Option ℕ) → Lasts a → OkIs (Ranges (place + 1)) (or_value r place a (λ n. record r.options { steps = Some n }))
  steps-value None fits = tt
  steps-value (Some n) fits = record { steps = fits; images = known.images; replicas = known.replicas; quantum = known.quantum; names = omega (arith, known.names); patches = one-more r.options.patches place known.patches }

  images-value : (a : Option ℕ) → AreFew a → OkIs (Ranges (place + 1)) (or_value r place a (λ n. record r.options { images = Some n }))
  images-value None fits = tt
  images-value (Some n) fits = record { steps = known.steps; images = fits; replicas = known.replicas; quantum = known.quantum; names = omega (arith, known.names); patches = one-more r.options.patches place known.patches }

  patches-value : (w : List ℕ) → OkIs (Ranges (place + 1)) (or_value r place (file_at place w) (λ at. record r.options { patches = Some at }))
  patches-value w = elim (length w == 0) as (λ b. OkIs (Ranges (place + 1)) (or_value r place (cond b None (Some (place - 1))) (λ at. record r.options { patches = Some at }))) [
    | true ↦ tt
    | false ↦ record { steps = known.steps; images = known.images; replicas = known.replicas; quantum = known.quantum; names = omega (arith, known.names); patches = omega (arith, known.names) }
  ]

  other-value : {A : Type 0} (a : Option A) (o : A → Options) → ((x : A) → (o x).steps ≡ r.options.steps) → ((x : A) → (o x).patches ≡ r.options.patches) → ((x : A) → (o x).images ≡ r.options.images) → ((x : A) → (o x).replicas ≡ r.options.replicas) → ((x : A) → (o x).quantum ≡ r.options.quantum) → OkIs (Ranges (place + 1)) (or_value r place a o)
  other-value None o kept same also too last = tt
  other-value (Some x) o kept same also too last = later r (record r { options = o x; expects = None }) place known (kept x) refl refl (same x) (also x) (too x) (last x)

  replicas-value : (a : Option ℕ) → AreReplicas a → OkIs (Ranges (place + 1)) (or_value r place a (λ n. record r.options { replicas = Some n }))
  replicas-value None fits = tt
  replicas-value (Some n) fits = record { steps = known.steps; images = known.images; replicas = fits; quantum = known.quantum; names = omega (arith, known.names); patches = one-more r.options.patches place known.patches }

  quantum-value : (a : Option ℕ) → TakesSteps a → OkIs (Ranges (place + 1)) (or_value r place a (λ n. record r.options { quantum = Some n }))
  quantum-value None fits = tt
  quantum-value (Some n) fits = record { steps = known.steps; images = known.images; replicas = known.replicas; quantum = fits; names = omega (arith, known.names); patches = one-more r.options.patches place known.patches }

  kept-valued : (w : List ℕ) (f : Flag) → OkIs (Ranges (place + 1)) (valued r place w f)
  kept-valued w flag.Seed = other-value (number_of (2 ^ 64) w) _ (λ x. refl) (λ x. refl) (λ x. refl) (λ x. refl) (λ x. refl)
  kept-valued w flag.Steps = steps-value (in_range 1 most_steps (number_of (2 ^ 64) w)) (in-range (number_of (2 ^ 64) w))
  kept-valued w flag.Images = images-value (in_range 2 16 (number_of (2 ^ 64) w)) (few-in-range (number_of (2 ^ 64) w))
  kept-valued w flag.Replicas = replicas-value (in_range 3 9 (number_of (2 ^ 64) w)) (replicas-in-range (number_of (2 ^ 64) w))
  kept-valued w flag.Quantum = quantum-value (in_range 1 1000000 (number_of (2 ^ 64) w)) (steps-in-range (number_of (2 ^ 64) w))
  kept-valued w flag.Patches = patches-value w
  kept-valued w flag.Image = other-value (file_at place w) _ (λ x. refl) (λ x. refl) (λ x. refl) (λ x. refl) (λ x. refl)
  kept-valued w flag.Out = other-value (file_at place w) _ (λ x. refl) (λ x. refl) (λ x. refl) (λ x. refl) (λ x. refl)
  kept-valued w flag.Zero = tt

  set : (f : Flag) → Ranges (place + 1) (with_flag r f)
  set flag.Zero = later r (record r { options = record r.options { zero = true } }) place known refl refl refl refl refl refl refl
  set flag.Seed = later r (record r { expects = Some flag.Seed }) place known refl refl refl refl refl refl refl
  set flag.Steps = later r (record r { expects = Some flag.Steps }) place known refl refl refl refl refl refl refl
  set flag.Patches = later r (record r { expects = Some flag.Patches }) place known refl refl refl refl refl refl refl
  set flag.Image = later r (record r { expects = Some flag.Image }) place known refl refl refl refl refl refl refl
  set flag.Images = later r (record r { expects = Some flag.Images }) place known refl refl refl refl refl refl refl
  set flag.Replicas = later r (record r { expects = Some flag.Replicas }) place known refl refl refl refl refl refl refl
  set flag.Quantum = later r (record r { expects = Some flag.Quantum }) place known refl refl refl refl refl refl refl
  set flag.Out = later r (record r { expects = Some flag.Out }) place known refl refl refl refl refl refl refl

  kept-flagged : (f : Option Flag) → OkIs (Ranges (place + 1)) (flagged r place f)
  kept-flagged None = tt
  kept-flagged (Some f) =
      choice (OkIs (Ranges (place + 1))) (allows r.verb f) _ _
      (λ _. choice (OkIs (Ranges (place + 1))) (has r.options f) (refuse place kind.Repeat) (Ok (with_flag r f)) (λ _. tt) (λ _. set f))
      (λ _. tt)

  kept-name : Ranges (place + 1) (with_name r place)
  kept-name = elim (r.names == 0) as (λ b. Ranges (place + 1) (cond b (record r { first = place - 1; names = 1 }) (record r { names = r.names + 1 }))) [
    | true ↦ record { steps = known.steps; images = known.images; replicas = known.replicas; quantum = known.quantum; names = omega (arith, known.names); patches = one-more r.options.patches place known.patches }
    | false ↦ record { steps = known.steps; images = known.images; replicas = known.replicas; quantum = known.quantum; names = omega (arith, known.names); patches = one-more r.options.patches place known.patches }
  ]

  kept-numbered : (n : Option ℕ) → OkIs (Ranges (place + 1)) (numbered r place n)
  kept-numbered None = tt
  kept-numbered (Some n) = record { steps = kept-name.steps; images = kept-name.images; replicas = kept-name.replicas; quantum = kept-name.quantum; names = kept-name.names; patches = kept-name.patches }

  kept-after : (w : List ℕ) → OkIs (Ranges (place + 1)) (after_last r place w)
  kept-after w = choice (OkIs (Ranges (place + 1))) (is_guest r.verb && bytes_eq w (codes "--")) _ _ (λ _. later r (record r { guest = Some place }) place known refl refl refl refl refl refl refl) (λ _. tt)

-- one more string counted
with-string : (r : Reading) (place : ℕ) (w : List ℕ) → Ranges (place + 1) r → OkIs (Ranges (place + 1)) (with_string r place w)
with-string r place w known = choice (OkIs (Ranges (place + 1))) (nat_le (r.strings + 1) 1024 && nat_le (r.bytes + length w + 1) 65536) _ _ (λ _. record { steps = known.steps; images = known.images; replicas = known.replicas; quantum = known.quantum; names = known.names; patches = known.patches }) (λ _. tt)

one-later : (r : Reading) (place : ℕ) → Ranges place r → Ranges (place + 1) r
one-later r place known = later r r place known refl refl refl refl refl refl refl

kept-named : (r : Reading) (place : ℕ) (w : List ℕ) → Ranges place r → OkIs (Ranges (place + 1)) (named r place w)
kept-named r place w known =
    choice (OkIs (Ranges (place + 1))) (length w == 0) _ _ (λ _. tt)
    (λ _. choice (OkIs (Ranges (place + 1))) (is_numbered r.verb) _ _
    (λ _. kept-numbered r place known (in_range 0 4294967295 (number_of (2 ^ 64) w)))
    (λ _. choice (OkIs (Ranges (place + 1))) (is_guest r.verb) _ _
    (λ _. with-string (with_name r place) place w (kept-name r place known))
    (λ _. kept-name r place known)))

kept-before : (r : Reading) (place : ℕ) (w : List ℕ) → Ranges place r → OkIs (Ranges (place + 1)) (before_last r place w)
kept-before r place w known =
    choice (OkIs (Ranges (place + 1))) (begins_with_dash w) _ _
    (λ _. choice (OkIs (Ranges (place + 1))) (r.names == 0) _ _ (λ _. kept-flagged r place known (flag_of w)) (λ _. tt))
    (λ _. kept-named r place w known)

kept-free : (r : Reading) (place : ℕ) (w : List ℕ) (g : Option ℕ) → Ranges place r → OkIs (Ranges (place + 1)) (unexpected r place w g)
kept-free r place w (Some from) known = with-string r place w (one-later r place known)
kept-free r place w None known = choice (OkIs (Ranges (place + 1))) (nat_lt r.names (most_names r.verb)) _ _ (λ _. kept-before r place w known) (λ _. kept-after r place known w)

kept-word : (r : Reading) (place : ℕ) (w : List ℕ) (f : Option Flag) → Ranges place r → OkIs (Ranges (place + 1)) (expected r place w f)
kept-word r place w (Some f) known = kept-valued r place known w f
kept-word r place w None known = kept-free r place w r.guest known

next-all : (place : ℕ) (rest : List (List ℕ)) (end : ℕ) (next : Result Reading Refusal) → ((s : Reading) → Ranges (place + 1) s → OkIs (Ranges end) (words_read s (place + 1) rest)) → OkIs (Ranges (place + 1)) next → OkIs (Ranges end) (and_then next (λ s. words_read s (place + 1) rest))
next-all place rest end (Err refused) more known = tt
next-all place rest end (Ok s) more known = more s known

kept-words : (r : Reading) (place : ℕ) (words : List (List ℕ)) → Ranges place r → OkIs (Ranges (place + length words)) (words_read r place words)
kept-words r place [] known = record { steps = known.steps; images = known.images; replicas = known.replicas; quantum = known.quantum; names = omega (arith, known.names); patches = among r.options.patches place (place + 0) (omega arith) known.patches }
kept-words r place (w ∷ rest) known =
    let long : place + 1 + length rest ≡ place + length (w ∷ rest) = omega arith in
    next-all place rest (place + length (w ∷ rest)) (word_read r place w) (λ s more. subst (λ end. OkIs (Ranges end) (words_read s (place + 1) rest)) long (kept-words s (place + 1) rest more)) (kept-word r place w r.expects known)

-- ---- what the words ask for

-- the steps of a guest, and the names of files
pub record IsInRange (end : ℕ) (c : Command) : Type 0 where
  pub lasts : LastsGuest c
  pub lies : LiesIn end c

given : (steps : Option ℕ) → Lasts steps → unwrap_or steps usual_steps ≤ most_steps
given None known = lit≤ tt
given (Some n) known = known

few-given : (images : Option ℕ) → AreFew images → (2 ≤ unwrap_or images 3) × (unwrap_or images 3 ≤ 16)
few-given None known = (lit≤ tt, lit≤ tt)
few-given (Some n) known = known

replicas-given : (replicas : Option ℕ) → AreReplicas replicas → (3 ≤ unwrap_or replicas 3) × (unwrap_or replicas 3 ≤ 9)
replicas-given None known = (lit≤ tt, lit≤ tt)
replicas-given (Some n) known = known

quantum-given : (quantum : Option ℕ) → TakesSteps quantum → 1 ≤ unwrap_or quantum 1000
quantum-given None known = lit≤ tt
quantum-given (Some n) known = known

module _ (r : Reading) (end : ℕ) (known : Ranges (end + 1) r) (some : 0 < r.names) where
  asked : unwrap_or r.options.steps usual_steps ≤ most_steps
  asked = given r.options.steps known.steps

  inside : (patches : Option ℕ) → IfSome patches (λ at. at + 1 < end + 1) → IfSome patches (λ at. at < end)
  inside None known' = tt
  inside (Some at) known' = omega (arith, known')

  patched : IfSome r.options.patches (λ at. at < end)
  patched = inside r.options.patches known.patches

  repaired : (out : Option ℕ) → IfOk (repair_to r end out) (IsInRange end)
  repaired None = tt
  repaired (Some out) = let few = few-given r.options.images known.images in record { lasts = (asked, few.0, few.1); lies = patched }

  command-in-range : (v : Verb) → IfOk (command_of r end v) (IsInRange end)
  command-in-range verb.Run = record { lasts = asked; lies = patched }
  command-in-range verb.Repair = repaired r.options.out
  command-in-range verb.Replicate =
      let some = replicas-given r.options.replicas known.replicas in record { lasts = (asked, (some.0, some.1), quantum-given r.options.quantum known.quantum); lies = patched }
  command-in-range verb.Judge = record { lasts = asked; lies = patched }
  command-in-range verb.Merge = record { lasts = tt; lies = omega (arith, known.names) }
  command-in-range verb.Isolate = record { lasts = tt; lies = omega (arith, known.names) }
  command-in-range verb.Show = record { lasts = tt; lies = omega (arith, known.names, some) }
  command-in-range verb.Make = record { lasts = tt; lies = tt }
  command-in-range verb.Trial = record { lasts = tt; lies = tt }

finished-in-range : (end : ℕ) (r : Reading) → Ranges (end + 1) r → IfOk (finished end r) (IsInRange end)
finished-in-range end r known =
    elim (is_some r.expects) as (λ b. IfOk (cond b (refuse (end + 1) kind.Value) (cond (r.names == 0) (refuse (end + 1) kind.Missing) (command_of r end r.verb))) (IsInRange end)) [
      | true ↦ tt
      | false ↦ go (r.names == 0) refl
    ]
  where
    go : (b : Bool) → (r.names == 0) ≡ b → IfOk (cond b (refuse (end + 1) kind.Missing) (command_of r end r.verb)) (IsInRange end)
    go true is = tt
    go false is = command-in-range r end known (grind (arith, nat_tests)) r.verb

-- a command line that is accepted asks for no more steps, and for names that it has
pub words-in-range : (words : List (List ℕ)) → IfOk (words_of words) (IsInRange (length words))
words-in-range [] = tt
words-in-range (command ∷ words) = with (verb_of command)
  where
    ends : (reading : Result Reading Refusal) → OkIs (Ranges (2 + length words)) reading → IfOk (and_then reading (finished (length words + 1))) (IsInRange (length (command ∷ words)))
    ends (Err refused) known = tt
    ends (Ok r) known =
        let end : length words + 1 ≡ length (command ∷ words) = omega arith in
        let all : 2 + length words ≡ length words + 1 + 1 = omega arith in
        subst (λ n. IfOk (finished (length words + 1) r) (IsInRange n)) end (finished-in-range (length words + 1) r (subst (λ n. Ranges n r) all known))

    with : (v : Option Verb) → IfOk (with_verb words v) (IsInRange (length (command ∷ words)))
    with None = tt
    with (Some v) = ends (words_read (begun v) 2 words) (kept-words (begun v) 2 words (record { steps = tt; images = tt; replicas = tt; quantum = tt; names = lit< tt; patches = tt }))
