-- Files that are read one after the other.
use Rattle.std.proofs.Common.{◌≡◌, ◌<◌, ◌≤◌, ℕ, suc, ◌+◌, ◌-◌, List, [], ◌∷◌, ◌++◌, Option, None, Some, Result, Ok, Err, IfSome, refl, sym, subst, append_assoc, arith}
use Rattle.std.proofs.lemmas.List.{append-nil}
use Rattle.ex_io.specs.Files.{FileMap}
use Rattle.exterm_cli.specs.Parts.{IsPlanned, told as tells}
use Rattle.exterm_cli.specs.Plan.{Plan}
use Rattle.exterm_cli.specs.Taking.{ReadsFiles, ReadsTaken, taken_word}
use Rattle.exterm_cli.specs.declared.cut.Stop.{Stop}
use Rattle.exterm_cli.specs.declared.cut.Stop.TheVariants as stop
use Rattle.exterm_cli.specs.declared.words.FileWords.{FileWords}

-- these, and then what the rest is read as
abbrev pub behind : {T : Type 0} → List T → Result (List T) Plan → Result (List T) Plan
behind items (Ok others) = Ok (items ++ others)
behind items (Err plan) = Err plan

-- The first `i` files were read as these: whatever the rest is read as, all files are read as these and that.
pub record HasRead {T : Type 0} (Reads : ℕ → List ℕ → Result T Plan → Type 0) (words : List (List ℕ)) (files : FileMap) (f : FileWords) (i : ℕ) (items : List T) : Type 0 where
  pub rest : (read : Result (List T) Plan) → ReadsFiles Reads words files (f.count - i) (f.first + i) (i + 1) read → ReadsFiles Reads words files f.count f.first 1 (behind items read)

module _ {T : Type 0} (Reads : ℕ → List ℕ → Result T Plan → Type 0) (words : List (List ℕ)) (f : FileWords) (told : FileMap) where
  none-behind : (read : Result (List T) Plan) → behind [] read ≡ read
  none-behind (Ok others) = refl
  none-behind (Err plan) = refl

  pub reads-begin : HasRead Reads words told f 0 []
  reads-begin = record {
    rest = λ read reads.
        let count : f.count - 0 ≡ f.count = omega arith in
        let first : f.first + 0 ≡ f.first = omega arith in
        subst (ReadsFiles Reads words told f.count f.first 1) (sym (none-behind read))
        (subst (λ n. ReadsFiles Reads words told n f.first 1 read) count (subst (λ at. ReadsFiles Reads words told (f.count - 0) at 1 read) first reads));
  }

  pub reads-end : (i : ℕ) (items : List T) → f.count ≤ i → HasRead Reads words told f i items → ReadsFiles Reads words told f.count f.first 1 (Ok items)
  reads-end i items all so =
      let none : 0 ≡ f.count - i = omega (arith, all) in
      subst (λ xs. ReadsFiles Reads words told f.count f.first 1 (Ok xs)) (append-nil items) (so.rest (Ok []) (subst (λ n. ReadsFiles Reads words told n (f.first + i) (i + 1) (Ok [])) none refl))

  module _ (i : ℕ) (less : i < f.count) (items : List T) (so : HasRead Reads words told f i items) where
    left : suc (f.count - (i + 1)) ≡ f.count - i
    left = omega (arith, less)

    place : f.first + (i + 1) ≡ f.first + i + 1
    place = omega arith

    abbrev Here : Result T Plan → Type 0
    Here read = ReadsTaken Reads (i + 1) (taken_word words told (f.first + i)) read

    -- one file more
    go : (next : T) → Here (Ok next) → (read : Result (List T) Plan) → ReadsFiles Reads words told (f.count - (i + 1)) (f.first + i + 1) (i + 1 + 1) read → ReadsFiles Reads words told f.count f.first 1 (behind (items ++ (next ∷ [])) read)
    go next here (Ok others) reads =
        subst (λ xs. ReadsFiles Reads words told f.count f.first 1 (Ok xs)) (sym (append_assoc items (next ∷ []) others))
        (so.rest (Ok (next ∷ others)) (subst (λ n. ReadsFiles Reads words told n (f.first + i) (i + 1) (Ok (next ∷ others))) left (Ok next, here, (refl, reads))))
    go next here (Err plan) reads = so.rest (Err plan) (subst (λ n. ReadsFiles Reads words told n (f.first + i) (i + 1) (Err plan)) left (Ok next, here, reads))

    pub reads-next : (next : T) → Here (Ok next) → HasRead Reads words told f (i + 1) (items ++ (next ∷ []))
    reads-next next here = record { rest = λ read reads. go next here read (subst (λ at. ReadsFiles Reads words told (f.count - (i + 1)) at (i + 1 + 1) read) place reads) }

    -- one was refused
    refused-here : (plan : Plan) → Here (Err plan) → ReadsFiles Reads words told f.count f.first 1 (Err plan)
    refused-here plan here = so.rest (Err plan) (subst (λ n. ReadsFiles Reads words told n (f.first + i) (i + 1) (Err plan)) left (Err plan, here, refl))

    pub reads-stop : {A B C : Type 0} (one : A → T) (meant : B → C) (Planned : Result C Plan → Type 0) → ((plan : Plan) → ReadsFiles Reads words told f.count f.first 1 (Err plan) → Planned (Err plan)) → (stop : Stop) → IsPlanned one Here (Err stop) → IsPlanned meant Planned (Err stop)
    reads-stop one meant Planned each (stop.Refused verdict) here = each (tells verdict) (refused-here (tells verdict) here)
    reads-stop one meant Planned each (stop.CutShort cause) here = tt

-- ---- for what may be told

pub record SoRead {T : Type 0} (Reads : ℕ → List ℕ → Result T Plan → Type 0) (words : List (List ℕ)) (files : Option FileMap) (f : FileWords) (i : ℕ) (items : List T) : Type 0 where
  pub has : IfSome files (λ told. HasRead Reads words told f i items)

module _ {T : Type 0} (Reads : ℕ → List ℕ → Result T Plan → Type 0) (words : List (List ℕ)) (f : FileWords) where
  pub so-read-begins : (files : Option FileMap) (items : List T) → items ≡ [] → SoRead Reads words files f 0 items
  so-read-begins None items none = record { has = tt }
  so-read-begins (Some told) items none = record { has = subst (HasRead Reads words told f 0) (sym none) (reads-begin Reads words f told) }

  pub so-read-ends : (i : ℕ) (files : Option FileMap) (items : List T) → f.count ≤ i → SoRead Reads words files f i items → IfSome files (λ told. ReadsFiles Reads words told f.count f.first 1 (Ok items))
  so-read-ends i None items all so = tt
  so-read-ends i (Some told) items all so = reads-end Reads words f told i items all so.has

  module _ (i : ℕ) (less : i < f.count) where
    pub so-read-next : (files now : Option FileMap) (items new : List T) (next : T) → now ≡ files → IfSome now (λ told. ReadsTaken Reads (i + 1) (taken_word words told (f.first + i)) (Ok next)) → new ≡ items ++ (next ∷ []) → SoRead Reads words files f i items → SoRead Reads words files f (i + 1) new
    so-read-next None now items new next same here is so = record { has = tt }
    so-read-next (Some told) now items new next same here is so = record {
      has = subst (HasRead Reads words told f (i + 1)) (sym is) (reads-next Reads words f told i less items so.has next (subst (λ files. IfSome files (λ told. ReadsTaken Reads (i + 1) (taken_word words told (f.first + i)) (Ok next))) same here));
    }

    pub so-read-stops : {A B : Type 0} (one : A → T) (meant : B → List T) (files now : Option FileMap) (items : List T) (stop : Stop) → now ≡ files → IfSome now (λ told. IsPlanned one (ReadsTaken Reads (i + 1) (taken_word words told (f.first + i))) (Err stop)) → SoRead Reads words files f i items → IfSome files (λ told. IsPlanned meant (ReadsFiles Reads words told f.count f.first 1) (Err stop))
    so-read-stops one meant None now items stop same here so = tt
    so-read-stops one meant (Some told) now items stop same here so =
        reads-stop Reads words f told i less items so.has one meant (ReadsFiles Reads words told f.count f.first 1) (λ plan reads. reads) stop
        (subst (λ files. IfSome files (λ told. IsPlanned one (ReadsTaken Reads (i + 1) (taken_word words told (f.first + i))) (Err stop))) same here)
