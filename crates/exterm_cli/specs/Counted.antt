-- The argument list of a guest, as far as its words are read.
use Rattle.std.specs.Prelude.{◌≡◌, ℕ, zero, suc, Bool, ◌+◌, ◌≤◌, ◌<◌, true, false, List, [], ◌∷◌, length, drop, slice_index_or, Option, None, Some, IfSome}
use Rattle.infinite_heap.specs.Start.{string_block, IsWithin}
use Rattle.layout_run.specs.Whole.{most_steps}
use Rattle.exterm_cli.specs.Words.{is_guest}
use Rattle.exterm_cli.specs.declared.words.Command.{Command}
use Rattle.exterm_cli.specs.declared.words.Command.TheVariants as command
use Rattle.exterm_cli.specs.declared.words.GuestWords.{GuestWords}
use Rattle.exterm_cli.specs.declared.words.Flag.{Flag}
use Rattle.exterm_cli.specs.declared.words.Reading.{Reading}

-- the word at an index
abbrev pub word : List (List ℕ) → ℕ → List ℕ
word words at = slice_index_or words at []

-- a guest's name and its own words
abbrev pub args_of : List (List ℕ) → GuestWords → List (List ℕ)
args_of words g = word words g.elf ∷ drop g.guest words

-- no word of the argument list so far
pub record CountsNone (r : Reading) : Type 0 where
  pub guest : r.guest ≡ None
  pub strings : r.strings ≡ 0
  pub bytes : r.bytes ≡ 0

-- the strings and bytes that were counted are those of the argument list in the words so far
pub record CountsList (words : List (List ℕ)) (r : Reading) (own : List (List ℕ)) : Type 0 where
  pub first : r.first < length words
  pub one : r.names ≡ 1
  pub strings : r.strings ≡ length own + 1
  pub bytes : r.bytes ≡ length (string_block own) + length (word words r.first) + 1
  pub few : r.strings ≤ 1024
  pub short : r.bytes ≤ 65536

abbrev pub CountsBehind : List (List ℕ) → Reading → Option ℕ → Type 0
CountsBehind words r None = CountsList words r []
CountsBehind words r (Some from) = (from ≤ length words) × CountsList words r (drop from words)

abbrev pub CountsNames : List (List ℕ) → Reading → ℕ → Type 0
CountsNames words r zero = CountsNone r
CountsNames words r (suc names) = CountsBehind words r r.guest

abbrev pub CountsFor : List (List ℕ) → Reading → Bool → Type 0
CountsFor words r true = CountsNames words r r.names
CountsFor words r false = CountsNone r

-- an option's value is expected only before the first name
abbrev pub Early : Option Flag → ℕ → Type 0
Early None names = Unit {0}
Early (Some flag) names = names ≡ 0

-- what is known once these words are read
pub record IsRead (words : List (List ℕ)) (r : Reading) : Type 0 where
  pub early : Early r.expects r.names
  pub counts : CountsFor words r (is_guest r.verb)

-- a guest that is asked for may be given its words
abbrev pub IsGiven : List (List ℕ) → GuestWords → Type 0
IsGiven words g = (g.elf < length words) × IsWithin (args_of words g)

abbrev pub GivesGuest : List (List ℕ) → Command → Type 0
GivesGuest words (command.Run g image) = IsGiven words g
GivesGuest words (command.Repair g images out) = IsGiven words g
GivesGuest words (command.Replicate g replicas quantum out) = IsGiven words g
GivesGuest words (command.Judge g) = IsGiven words g
GivesGuest words other = Unit {0}

abbrev pub Lasts : Option ℕ → Type 0
Lasts None = Unit {0}
Lasts (Some steps) = steps ≤ most_steps

-- so many images can be taken
abbrev pub AreFew : Option ℕ → Type 0
AreFew None = Unit {0}
AreFew (Some images) = (2 ≤ images) × (images ≤ 16)

-- so many replicas can vote
abbrev pub AreReplicas : Option ℕ → Type 0
AreReplicas None = Unit {0}
AreReplicas (Some replicas) = (3 ≤ replicas) × (replicas ≤ 9)

-- a turn takes a step at least
abbrev pub TakesSteps : Option ℕ → Type 0
TakesSteps None = Unit {0}
TakesSteps (Some quantum) = 1 ≤ quantum

abbrev pub LastsGuest : Command → Type 0
LastsGuest (command.Run g image) = g.steps ≤ most_steps
LastsGuest (command.Repair g images out) = (g.steps ≤ most_steps) × (2 ≤ images) × (images ≤ 16)
LastsGuest (command.Replicate g replicas quantum out) = (g.steps ≤ most_steps) × AreReplicas (Some replicas) × (1 ≤ quantum)
LastsGuest (command.Judge g) = g.steps ≤ most_steps
LastsGuest other = Unit {0}

-- a guest's patch file is among this many words
abbrev pub LiesGuest : ℕ → GuestWords → Type 0
LiesGuest end g = IfSome g.patches (λ at. at < end)

-- the names of a command's files are among this many words
abbrev pub LiesIn : ℕ → Command → Type 0
LiesIn end (command.Run g image) = LiesGuest end g
LiesIn end (command.Repair g images out) = LiesGuest end g
LiesIn end (command.Replicate g replicas quantum out) = LiesGuest end g
LiesIn end (command.Judge g) = LiesGuest end g
LiesIn end (command.Merge f) = f.first + f.count ≤ end
LiesIn end (command.Isolate f) = f.first + f.count ≤ end
LiesIn end (command.Show at) = at < end
LiesIn end other = Unit {0}
