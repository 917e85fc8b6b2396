-- Words and files lead to one stage.
use Rattle.std.proofs.Common.{◌≡◌, ◌⊎◌, Bool, true, false, inl, inr, ℕ, zero, suc, ◌+◌, List, [], ◌∷◌, length, Option, None, Some, Result, Ok, Err, refl, sym, ◌∙◌, ap, subst}
use Rattle.ex_io.specs.Files.{FileMap}
use Rattle.heap_image.specs.Reading.{AnswersFrom, Front, IsAnswer, front_at, image_at}
use Rattle.heap_image.specs.Snapshot.{Snapshot}
use Rattle.heap_image.specs.Versions.{IsTextOf, text_version}
use Rattle.heap_image.specs.declared.refusal.ImageRefusal.{ImageRefusal}
use Rattle.heap_image.specs.declared.version.Version.{Version as ImageVersion}
use Rattle.heap_image.specs.declared.version.Version.TheVariants as images
use Rattle.infinite_heap.specs.Elf.{program_of}
use Rattle.infinite_heap.specs.ElfHeaders.{has_magic}
use Rattle.infinite_heap.specs.Loaded.{Loaded}
use Rattle.patch_table.specs.Grammar.{Answers, IsAnswered, IsPatchText, IsRefused, IsText, WantsMemory, read, refused}
use Rattle.patch_table.specs.Table.{Table, no_patches}
use Rattle.patch_table.specs.declared.line.Version.{Version}
use Rattle.patch_table.specs.declared.line.Version.TheVariants.{One, Two}
use Rattle.patch_table.specs.declared.reading.PatchRefusal.{PatchRefusal}
use Rattle.patch_table.specs.declared.reading.PatchRefusal.TheVariants as why
use Rattle.exterm_cli.specs.Accepted.{AcceptsLoaded, guest_with}
use Rattle.iterate.specs.Reruns.{Job}
use Rattle.exterm_cli.specs.Isolate.{LeadsIsolate, isolating}
use Rattle.exterm_cli.specs.Leads.{Leads, LeadsCommand}
use Rattle.exterm_cli.specs.Made.{make_stage, trial_stage}
use Rattle.exterm_cli.specs.Merge.{LeadsMerge, merged}
use Rattle.exterm_cli.specs.Plan.{Plan, Settles, Stage}
use Rattle.exterm_cli.specs.Refusals.{no_image_in, no_patches_in, unbuilt, wrong_words}
use Rattle.exterm_cli.specs.Counted.{word}
use Rattle.exterm_cli.specs.Repair.{LeadsRepair, repairing}
use Rattle.exterm_cli.specs.Replicate.{LeadsReplicate, replicating}
use Rattle.exterm_cli.specs.Run.{LeadsRun, running, word_named}
use Rattle.exterm_cli.specs.Show.{LeadsShow, ShowsAs, ShowsFile, imaged, listed}
use Rattle.exterm_cli.specs.Taking.{Follows, ReadsFiles, ReadsImage, ReadsPatches, ReadsTable, ReadsTaken, loaded, program_in, taken_word}
use Rattle.exterm_cli.specs.Words.{words_of}
use Rattle.exterm_cli.specs.declared.words.Command.{Command}
use Rattle.exterm_cli.specs.declared.words.Command.TheVariants as command
use Rattle.exterm_cli.specs.declared.words.FileWords.{FileWords}
use Rattle.exterm_cli.specs.declared.words.GuestWords.{GuestWords}
use Rattle.exterm_cli.specs.declared.words.Refusal.{Refusal}

abbrev pub EachAnswered : Type 0
EachAnswered = (text : List ℕ) → IsAnswered text

abbrev pub OneAnswer : Type 0
OneAnswer = (text : List ℕ) (a b : Result Table PatchRefusal) → Answers text a → Answers text b → WantsMemory a ⊎ (WantsMemory b ⊎ (a ≡ b))

abbrev pub OneVersion : Type 0
OneVersion = (version other : Version) (text : List ℕ) (a b : Table) → IsText version text a → IsText other text b → version ≡ other

one-is-no-two : One ≡ Two → ⊥
one-is-no-two same = absurd cc

abbrev read-as : Table → Result Table PatchRefusal
read-as table = Ok table

abbrev refused-as : PatchRefusal → Result Table PatchRefusal
refused-as e = Err e

-- ---- files are read as something, and as one thing, where each file is

abbrev ReadsEach : {T : Type 0} → (Reads : ℕ → List ℕ → Result T Plan → Type 0) → Type 0
ReadsEach Reads = (k : ℕ) (file : List ℕ) → (read : Result _ Plan) × Reads k file read

abbrev ReadsOnce : {T : Type 0} → (Reads : ℕ → List ℕ → Result T Plan → Type 0) → Type 0
ReadsOnce Reads = (k : ℕ) (file : List ℕ) (one other : Result _ Plan) → Reads k file one → Reads k file other → one ≡ other

module _ {T : Type 0} (Reads : ℕ → List ℕ → Result T Plan → Type 0) where
  taken-reads : ReadsEach Reads → (k : ℕ) (taken : Result (List ℕ) Plan) → (read : Result T Plan) × ReadsTaken Reads k taken read
  taken-reads each k (Ok file) = each k file
  taken-reads each k (Err plan) = (Err plan, refl)

  taken-once : ReadsOnce Reads → (k : ℕ) (taken : Result (List ℕ) Plan) (one other : Result T Plan) → ReadsTaken Reads k taken one → ReadsTaken Reads k taken other → one ≡ other
  taken-once once k (Ok file) one other is also = once k file one other is also
  taken-once once k (Err plan) one other is also = is ∙ sym also

  module _ (words : List (List ℕ)) (files : FileMap) where
    files-next : (count at k : ℕ) → ((first : Result T Plan) × ReadsTaken Reads k (taken_word words files at) first) → ((rest : Result (List T) Plan) × ReadsFiles Reads words files count (at + 1) (k + 1) rest) → (read : Result (List T) Plan) × ReadsFiles Reads words files (suc count) at k read
    files-next count at k (Err plan, reads) rest = (Err plan, (Err plan, reads, refl))
    files-next count at k (Ok first, reads) (Ok others, rest) = (Ok (first ∷ others), (Ok first, reads, (refl, rest)))
    files-next count at k (Ok first, reads) (Err plan, rest) = (Err plan, (Ok first, reads, rest))

    pub files-read : ReadsEach Reads → (count at k : ℕ) → (read : Result (List T) Plan) × ReadsFiles Reads words files count at k read
    files-read each zero at k = (Ok [], refl)
    files-read each (suc count) at k = files-next count at k (taken-reads each k (taken_word words files at)) (files-read each count (at + 1) (k + 1))

  follows-once : (Rest : Result (List T) Plan → Type 0) → ((one other : Result (List T) Plan) → Rest one → Rest other → one ≡ other) → (first : Result T Plan) (one other : Result (List T) Plan) → Follows Rest first one → Follows Rest first other → one ≡ other
  follows-once Rest once (Err plan) one other is also = is ∙ sym also
  follows-once Rest once (Ok first) (Ok []) other is also = absurd is
  follows-once Rest once (Ok first) one (Ok []) is also = absurd also
  follows-once Rest once (Ok first) (Ok (x ∷ xs)) (Ok (y ∷ ys)) is also = let same = once (Ok xs) (Ok ys) is.1 also.1 in let one = is.0 in let other = also.0 in cc
  follows-once Rest once (Ok first) (Ok (x ∷ xs)) (Err plan) is also = let same = once (Ok xs) (Err plan) is.1 also in absurd cc
  follows-once Rest once (Ok first) (Err plan) (Ok (y ∷ ys)) is also = let same = once (Err plan) (Ok ys) is also.1 in absurd cc
  follows-once Rest once (Ok first) (Err plan) (Err other) is also = once (Err plan) (Err other) is also

  module _ (words : List (List ℕ)) (files : FileMap) where
    pub files-once : ReadsOnce Reads → (count at k : ℕ) (one other : Result (List T) Plan) → ReadsFiles Reads words files count at k one → ReadsFiles Reads words files count at k other → one ≡ other
    files-once once zero at k one other is also = is ∙ sym also
    files-once once (suc count) at k one other (first, reads, rest) (second, others, more) =
        let same = taken-once once k (taken_word words files at) second first others reads in
        follows-once (ReadsFiles Reads words files count (at + 1) (k + 1)) (files-once once count (at + 1) (k + 1)) first one other rest
        (subst (λ f. Follows (ReadsFiles Reads words files count (at + 1) (k + 1)) f other) same more)

-- ---- a text has one answer

module _ (one : OneAnswer) where
  is-answer : (text : List ℕ) (e : PatchRefusal) → IsRefused text e → Answers text (Err e)
  is-answer text why.Head is = is
  is-answer text (why.Line n) is = is
  is-answer text (why.Limit n) is = is
  is-answer text (why.Order n) is = is
  is-answer text why.Memory is = absurd is

  no-memory : (text : List ℕ) (e : PatchRefusal) → IsRefused text e → WantsMemory (Err e) → ⊥
  no-memory text why.Head is wants = absurd cc
  no-memory text (why.Line n) is wants = absurd cc
  no-memory text (why.Limit n) is wants = absurd cc
  no-memory text (why.Order n) is wants = absurd cc
  no-memory text why.Memory is wants = is

  same-table : (t u : Table) → WantsMemory (read-as t) ⊎ (WantsMemory (read-as u) ⊎ (read-as t ≡ read-as u)) → t ≡ u
  same-table t u (inl wants) = absurd cc
  same-table t u (inr (inl wants)) = absurd cc
  same-table t u (inr (inr same)) = cc

  not-both : (text : List ℕ) (t : Table) (e : PatchRefusal) → IsPatchText text t → IsRefused text e → ⊥
  not-both text t e is refused' = go (one text (Ok t) (Err e) is (is-answer text e refused'))
    where
      go : WantsMemory (read-as t) ⊎ (WantsMemory (refused-as e) ⊎ (read-as t ≡ refused-as e)) → ⊥
      go (inl wants) = absurd cc
      go (inr (inl wants)) = no-memory text e refused' wants
      go (inr (inr same)) = absurd cc

  same-refusal : (text : List ℕ) (e f : PatchRefusal) → IsRefused text e → IsRefused text f → e ≡ f
  same-refusal text e f is js = go (one text (Err e) (Err f) (is-answer text e is) (is-answer text f js))
    where
      go : WantsMemory (refused-as e) ⊎ (WantsMemory (refused-as f) ⊎ (refused-as e ≡ refused-as f)) → e ≡ f
      go (inl wants) = absurd (no-memory text e is wants)
      go (inr (inl wants)) = absurd (no-memory text f js wants)
      go (inr (inr same)) = cc

  text-once : ReadsOnce ReadsTable
  text-once k text (Ok t) (Ok u) reads also = ap Ok (same-table t u (one text (Ok t) (Ok u) reads also))
  text-once k text (Ok t) (Err plan) reads (e, is, told) = absurd (not-both text t e reads is)
  text-once k text (Err plan) (Ok u) (e, is, told) also = absurd (not-both text u e also is)
  text-once k text (Err plan) (Err other) (e, is, told) (f, js, also) = ap Err (told ∙ ap (no_patches_in k) (same-refusal text e f is js) ∙ sym also)

  -- ---- and so have bytes

  one-table : (version : ImageVersion) (text : List ℕ) (t u : Table) → IsTextOf version text t → IsTextOf version text u → t ≡ u
  one-table version text t u is also = same-table t u (one text (Ok t) (Ok u) (text_version version, is) (text_version version, also))

  same-image : (whole : ℕ) (f : Front) (a b : Result Snapshot ImageRefusal) (t u : Option Table) → IsAnswer f.version f.text t → IsAnswer f.version f.text u → a ≡ image_at whole f t → b ≡ image_at whole f u → a ≡ b
  same-image whole f a b None None is also d e = d ∙ sym e
  same-image whole f a b None (Some u) is also d e = absurd (is u also)
  same-image whole f a b (Some t) None is also d e = absurd (also t is)
  same-image whole f a b (Some t) (Some u) is also d e = d ∙ ap (λ v. image_at whole f (Some v)) (one-table f.version f.text t u is also) ∙ sym e

  same-from : (whole : ℕ) (r : Result Front ImageRefusal) (a b : Result Snapshot ImageRefusal) → AnswersFrom whole r a → AnswersFrom whole r b → a ≡ b
  same-from whole (Err e) a b is also = is ∙ sym also
  same-from whole (Ok f) a b is also = same-image whole f a b is.0 also.0 is.1 also.1 is.2 also.2

  image-once : ReadsOnce ReadsImage
  image-once k bytes (Ok s) (Ok t) is also = let same = same-from (length bytes) (front_at bytes) (Ok s) (Ok t) is also in cc
  image-once k bytes (Ok s) (Err plan) is also = let same = same-from (length bytes) (front_at bytes) (Ok s) (Err also.0) is also.1 in absurd cc
  image-once k bytes (Err plan) (Ok t) is also = let same = same-from (length bytes) (front_at bytes) (Err is.0) (Ok t) is.1 also in absurd cc
  image-once k bytes (Err plan) (Err other) is also = let same = same-from (length bytes) (front_at bytes) (Err is.0) (Err also.0) is.1 also.1 in let told = is.2 in let more = also.2 in cc

-- ---- each line of words leads somewhere

module _ (each : EachAnswered) (one : OneAnswer) (same : OneVersion) where
  text-reads : (k : ℕ) (text : List ℕ) → IsAnswered text → (r : Result Table Plan) × ReadsTable k text r
  text-reads k text (read table is) = (Ok table, is)
  text-reads k text (refused refusal is) = (Err (no_patches_in k refusal), (refusal, is, refl))

  each-text : ReadsEach ReadsTable
  each-text k text = text-reads k text (each text)

  patches-read : (words : List (List ℕ)) (files : FileMap) (patches : Option ℕ) → (r : Result Table Plan) × ReadsPatches words files patches r
  patches-read words files None = (Ok no_patches, refl)
  patches-read words files (Some at) = taken-reads ReadsTable each-text 1 (taken_word words files at)

  loaded-accepts : (words : List (List ℕ)) (files : FileMap) (g : GuestWords) (r : Result Loaded Plan) → (accepted : Result Job Plan) × AcceptsLoaded words files g r accepted
  loaded-accepts words files g (Ok program) = let read = patches-read words files g.patches in (guest_with words g program read.0, (read.0, read.1, refl))
  loaded-accepts words files g (Err plan) = (Err plan, refl)

  run-leads : (words : List (List ℕ)) (files : FileMap) (g : GuestWords) (image : Option ℕ) → (s : Stage) × LeadsRun words files g image s
  run-leads words files g image = let a = loaded-accepts words files g (program_in (taken_word words files g.elf)) in (running (word_named words image) a.0, (a.0, a.1, refl))

  -- a text as the table of an image of this version, where it is one
  of-version : (want : ImageVersion) (have : Version) (text : List ℕ) (table : Table) → IsText have text table → (found : Option Table) × IsAnswer want text found
  of-version images.One One text table is = (Some table, is)
  of-version images.Two Two text table is = (Some table, is)
  of-version images.One Two text table is = (None, λ other also. absurd (one-is-no-two (same One Two text other table also is)))
  of-version images.Two One text table is = (None, λ other also. absurd (one-is-no-two (same One Two text table other is also)))

  text-of : (want : ImageVersion) (text : List ℕ) → IsAnswered text → (found : Option Table) × IsAnswer want text found
  text-of want text (read table (version, is)) = of-version want version text table is
  text-of want text (refused refusal is) = (None, λ table also. not-both one text table refusal (text_version want, also) is)

  from-front : (whole : ℕ) (r : Result Front ImageRefusal) → (result : Result Snapshot ImageRefusal) × AnswersFrom whole r result
  from-front whole (Err e) = (Err e, refl)
  from-front whole (Ok f) = let found = text-of f.version f.text (each f.text) in (image_at whole f found.0, (found.0, found.1, refl))

  image-reads : (k : ℕ) (bytes : List ℕ) → ((result : Result Snapshot ImageRefusal) × AnswersFrom (length bytes) (front_at bytes) result) → (read : Result Snapshot Plan) × ReadsImage k bytes read
  image-reads k bytes (Ok image, is) = (Ok image, is)
  image-reads k bytes (Err e, is) = (Err (no_image_in k e), (e, is, refl))

  each-image : ReadsEach ReadsImage
  each-image k bytes = image-reads k bytes (from-front (length bytes) (front_at bytes))

  shows-as : (elf : Bool) (words : List (List ℕ)) (file : List ℕ) → (plan : Plan) × ShowsAs elf words file plan
  shows-as true words file = (listed words (loaded (program_of file)), refl)
  shows-as false words file = let read = each-image 1 file in (imaged words read.0, (read.0, read.1, refl))

  shows-file : (words : List (List ℕ)) (taken : Result (List ℕ) Plan) → (plan : Plan) × ShowsFile words taken plan
  shows-file words (Ok file) = shows-as (has_magic file) words file
  shows-file words (Err plan) = (plan, refl)

  show-leads : (words : List (List ℕ)) (files : FileMap) (at : ℕ) → (s : Stage) × LeadsShow words files at s
  show-leads words files at = let shown = shows-file words (taken_word words files at) in (Settles shown.0, (shown.0, shown.1, refl))

  repair-leads : (words : List (List ℕ)) (files : FileMap) (g : GuestWords) (images to : ℕ) → (s : Stage) × LeadsRepair words files g images to s
  repair-leads words files g images to = let a = loaded-accepts words files g (program_in (taken_word words files g.elf)) in (repairing images (word words to) a.0, (a.0, a.1, refl))

  replicate-leads : (words : List (List ℕ)) (files : FileMap) (g : GuestWords) (replicas : ℕ) (to : Option ℕ) → (s : Stage) × LeadsReplicate words files g replicas to s
  replicate-leads words files g replicas to = let a = loaded-accepts words files g (program_in (taken_word words files g.elf)) in (replicating replicas (word_named words to) a.0, (a.0, a.1, refl))

  merge-leads : (words : List (List ℕ)) (files : FileMap) (f : FileWords) → (s : Stage) × LeadsMerge words files f s
  merge-leads words files f = let read = files-read ReadsTable words files each-text f.count f.first 1 in (Settles (merged words f.out read.0), (read.0, read.1, refl))

  isolate-leads : (words : List (List ℕ)) (files : FileMap) (f : FileWords) → (s : Stage) × LeadsIsolate words files f s
  isolate-leads words files f = let read = files-read ReadsImage words files each-image f.count f.first 1 in (isolating (word_named words f.out) read.0, (read.0, read.1, refl))

  command-leads : (words : List (List ℕ)) (files : FileMap) (c : Result Command Refusal) → (s : Stage) × LeadsCommand words files c s
  command-leads words files (Err refusal) = (Settles (wrong_words refusal), refl)
  command-leads words files (Ok (command.Run g image)) = run-leads words files g image
  command-leads words files (Ok (command.Show at)) = show-leads words files at
  command-leads words files (Ok (command.Merge f)) = merge-leads words files f
  command-leads words files (Ok (command.Repair g images to)) = repair-leads words files g images to
  command-leads words files (Ok (command.Replicate g replicas quantum out)) = replicate-leads words files g replicas out
  command-leads words files (Ok (command.Isolate f)) = isolate-leads words files f
  command-leads words files (Ok (command.Make n out)) = (make_stage words n out, refl)
  command-leads words files (Ok (command.Trial n seed)) = (trial_stage n seed, refl)
  command-leads words files (Ok (command.Judge g)) = (Settles unbuilt, refl)

  pub leads : (words : List (List ℕ)) (files : FileMap) → (s : Stage) × Leads words files s
  leads words files = command-leads words files (words_of words)

-- ---- and nowhere else

module _ (one : OneAnswer) where
  patches-once : (words : List (List ℕ)) (files : FileMap) (patches : Option ℕ) (r s : Result Table Plan) → ReadsPatches words files patches r → ReadsPatches words files patches s → r ≡ s
  patches-once words files None r s reads also = reads ∙ sym also
  patches-once words files (Some at) r s reads also = taken-once ReadsTable (text-once one) 1 (taken_word words files at) r s reads also

  loaded-once : (words : List (List ℕ)) (files : FileMap) (g : GuestWords) (r : Result Loaded Plan) (a b : Result Job Plan) → AcceptsLoaded words files g r a → AcceptsLoaded words files g r b → a ≡ b
  loaded-once words files g (Ok program) a b (r, reads, is) (q, others, also) = is ∙ ap (guest_with words g program) (patches-once words files g.patches r q reads others) ∙ sym also
  loaded-once words files g (Err plan) a b is also = is ∙ sym also

  run-once : (words : List (List ℕ)) (files : FileMap) (g : GuestWords) (image : Option ℕ) (s t : Stage) → LeadsRun words files g image s → LeadsRun words files g image t → s ≡ t
  run-once words files g image s t (a, accepts, is) (b, others, also) = is ∙ ap (running (word_named words image)) (loaded-once words files g (program_in (taken_word words files g.elf)) a b accepts others) ∙ sym also

  repair-once : (words : List (List ℕ)) (files : FileMap) (g : GuestWords) (images to : ℕ) (s t : Stage) → LeadsRepair words files g images to s → LeadsRepair words files g images to t → s ≡ t
  repair-once words files g images to s t (a, accepts, is) (b, others, also) = is ∙ ap (repairing images (word words to)) (loaded-once words files g (program_in (taken_word words files g.elf)) a b accepts others) ∙ sym also

  replicate-once : (words : List (List ℕ)) (files : FileMap) (g : GuestWords) (replicas : ℕ) (to : Option ℕ) (s t : Stage) → LeadsReplicate words files g replicas to s → LeadsReplicate words files g replicas to t → s ≡ t
  replicate-once words files g replicas to s t (a, accepts, is) (b, others, also) = is ∙ ap (replicating replicas (word_named words to)) (loaded-once words files g (program_in (taken_word words files g.elf)) a b accepts others) ∙ sym also

  merge-once : (words : List (List ℕ)) (files : FileMap) (f : FileWords) (s t : Stage) → LeadsMerge words files f s → LeadsMerge words files f t → s ≡ t
  merge-once words files f s t (m, reads, is) (n, others, also) =
      is ∙ ap (λ x. Settles (merged words f.out x)) (files-once ReadsTable words files (text-once one) f.count f.first 1 m n reads others) ∙ sym also

  isolate-once : (words : List (List ℕ)) (files : FileMap) (f : FileWords) (s t : Stage) → LeadsIsolate words files f s → LeadsIsolate words files f t → s ≡ t
  isolate-once words files f s t (m, reads, is) (n, others, also) =
      is ∙ ap (isolating (word_named words f.out)) (files-once ReadsImage words files (image-once one) f.count f.first 1 m n reads others) ∙ sym also

  shows-once : (elf : Bool) (words : List (List ℕ)) (file : List ℕ) (p q : Plan) → ShowsAs elf words file p → ShowsAs elf words file q → p ≡ q
  shows-once true words file p q is also = is ∙ sym also
  shows-once false words file p q (r, reads, is) (o, others, also) = is ∙ ap (imaged words) (image-once one 1 file r o reads others) ∙ sym also

  file-once : (words : List (List ℕ)) (taken : Result (List ℕ) Plan) (p q : Plan) → ShowsFile words taken p → ShowsFile words taken q → p ≡ q
  file-once words (Ok file) p q is also = shows-once (has_magic file) words file p q is also
  file-once words (Err plan) p q is also = is ∙ sym also

  show-once : (words : List (List ℕ)) (files : FileMap) (at : ℕ) (s t : Stage) → LeadsShow words files at s → LeadsShow words files at t → s ≡ t
  show-once words files at s t (p, shows, is) (q, others, also) = is ∙ ap Settles (file-once words (taken_word words files at) p q shows others) ∙ sym also

  command-once : (words : List (List ℕ)) (files : FileMap) (c : Result Command Refusal) (s t : Stage) → LeadsCommand words files c s → LeadsCommand words files c t → s ≡ t
  command-once words files (Err refusal) s t is also = is ∙ sym also
  command-once words files (Ok (command.Run g image)) s t is also = run-once words files g image s t is also
  command-once words files (Ok (command.Show at)) s t is also = show-once words files at s t is also
  command-once words files (Ok (command.Merge f)) s t is also = merge-once words files f s t is also
  command-once words files (Ok (command.Repair g images to)) s t is also = repair-once words files g images to s t is also
  command-once words files (Ok (command.Replicate g replicas quantum out)) s t is also = replicate-once words files g replicas out s t is also
  command-once words files (Ok (command.Isolate f)) s t is also = isolate-once words files f s t is also
  command-once words files (Ok (command.Make n out)) s t is also = is ∙ sym also
  command-once words files (Ok (command.Trial n seed)) s t is also = is ∙ sym also
  command-once words files (Ok (command.Judge g)) s t is also = is ∙ sym also

  pub leads-once : (words : List (List ℕ)) (files : FileMap) (s t : Stage) → Leads words files s → Leads words files t → s ≡ t
  leads-once words files s t is also = command-once words files (words_of words) s t is also
