-- Which object is owned at the address that a value of the infinite heap stands for: the same one wherever the objects lie.
use Rattle.std.proofs.Common.{◌≡◌, ℕ, refl, ap, sym, ◌∙◌, subst, Bool, true, false, cond, arith, nat_eq, [], ◌∷◌, Option, None, Some}
use Rattle.std.specs.Option.{option_map}
use Rattle.std.proofs.lemmas.Bool.{eqb-true, ne_eqb}
use Rattle.infinite_heap.specs.declared.access.AccessKind.TheVariants as kind
use Rattle.infinite_heap.specs.declared.fault.Why.TheVariants as why
use Rattle.infinite_heap.specs.declared.value.Value.{Value}
use Rattle.infinite_heap.specs.declared.value.Value.TheVariants.{Num, Ptr, Mix, Low}
use Rattle.infinite_heap.specs.InfiniteHeap.{inf_back, inf_free_object, inf_free, inf_realloc_object, inf_realloc, inf_malloc}
use Rattle.infinite_heap.specs.InfiniteState as inf
use Rattle.infinite_heap.specs.InfiniteState.{InfState, InfStep, records_of, access}
use Rattle.infinite_heap.specs.Layout.{Layout, IsPlace, Stands, AllHarmless}
use Rattle.infinite_heap.specs.Mapped.{Mapping}
use Rattle.infinite_heap.specs.Objects.{Freed, object_at}
use Rattle.infinite_heap.specs.Region.{in_region}
use Rattle.exact_heap.specs.History.{History}
use Rattle.exact_heap.specs.Lawful.{IsLawful}
use Rattle.exact_heap.specs.Owners.{owner_of}
use Rattle.rv_machine.specs.Guest.{Guest}
use Rattle.rv_machine.specs.Matches.{StateMatches}
use Rattle.rv_machine.specs.Objects.{layout_of, ObjectsMatch}
use Rattle.rv_machine.specs.Stored.{IsClearStep}
use Rattle.simulation.specs.Agreement.{HeapsAreLaidOut}
use Rattle.simulation.proofs.Owned.{OwnerFacts, pointed, owned_at, none_at, none_inside, none_outside}

-- a guest stands for the state
pub record StandsBy (p : Mapping) (s : InfState) (g : Guest) : Type 0 where
  pub lawful : IsLawful g.history
  pub objects : ObjectsMatch g.history s.objects
  pub state : StateMatches (layout_of g.history) p s g.core

-- the number of the object that is owned at an address
abbrev pub number_in : History → (address : ℕ) → Option ℕ
number_in h address = option_map (λ w. w.number) (owner_of h.objects address)

-- ---- by values

-- the object that a free of a value is of
abbrev unfreed : ℕ → Option Freed → Option ℕ
unfreed o None = Some o
unfreed o (Some freed) = None

abbrev pub number_of : InfState → Value → Option ℕ
number_of s (Ptr o d) = cond (nat_eq d 0) (unfreed o (object_at s.objects o).freed) None
number_of s v = None

-- where a free is clear and harmless, the object is owned at the address that the value stands for
pub freed_number : HeapsAreLaidOut → OwnerFacts → (p : Mapping) (s : InfState) (g : Guest) → StandsBy p s g → (back : ℕ) (v : Value) (x : ℕ) → Stands (layout_of g.history) v x
    → IsClearStep (inf_free s back v) → AllHarmless (layout_of g.history) (records_of (inf_free s back v)) → number_in g.history x ≡ number_of s v
freed_number laid owners p s g w back (Num n) x is c u = at (in_region n) refl c
  where
    at : (b : Bool) → in_region n ≡ b → IsClearStep (cond b (inf.Blurs why.Freed []) (inf.Goes (inf_back s back) [])) → number_in g.history x ≡ None
    at true e t = absurd t
    at false e t = ap (option_map (λ w. w.number)) (none_outside laid owners g.history w.lawful x (ap in_region is ∙ e))
freed_number laid owners p s g w back (Ptr o d) x q c u = at (nat_eq d 0) refl u
  where
    l : Layout
    l = layout_of g.history

    at_freed : IsPlace l o 0 x → (f : Option Freed) → (object_at s.objects o).freed ≡ f → AllHarmless l (records_of (inf_free_object s back o f)) → number_in g.history x ≡ unfreed o f
    at_freed here None is u = ap (option_map (λ w. w.number)) (owned_at laid owners g.history s.objects w.lawful w.objects o x here is (pointed laid g.history w.lawful o q.known))
    at_freed here (Some f) is u = ap (option_map (λ w. w.number)) (none_at laid owners g.history w.lawful o x here u.0)

    at : (b : Bool) → nat_eq d 0 ≡ b → AllHarmless l (records_of (cond b (inf_free_object s back o (object_at s.objects o).freed) (inf.Goes (inf_back s back) (access s kind.Touch o d 1 ∷ [])))) → number_in g.history x ≡ cond b (unfreed o (object_at s.objects o).freed) None
    at true e u = at_freed (subst (λ (k : ℕ). IsPlace l o k x) (eqb-true d 0 e) q) (object_at s.objects o).freed refl u
    at false e u = ap (option_map (λ w. w.number)) (none_inside laid owners g.history w.lawful o d x q e u.0)
freed_number laid owners p s g w back (Mix a b c d) x is t u = absurd t
freed_number laid owners p s g w back (Low b) x is t u = absurd t

-- a realloc that is clear is of such a value, and its free would record nothing
pub realloc_frees : (s : InfState) (zeroed : Bool) (back : ℕ) (v size : Value) → IsClearStep (inf_realloc s zeroed back v size) → IsClearStep (inf_free s back v) × ((l : Layout) → AllHarmless l (records_of (inf_free s back v)))
realloc_frees s zeroed back (Num n) size c = at (nat_eq n 0) refl c
  where
    at : (b : Bool) → nat_eq n 0 ≡ b → IsClearStep (cond b (inf_malloc s zeroed back size) (inf.Blurs why.Realloc [])) → IsClearStep (inf_free s back (Num n)) × ((l : Layout) → AllHarmless l (records_of (inf_free s back (Num n))))
    at true e t =
        let off : in_region n ≡ false = ap in_region (eqb-true n 0 e) in
        subst (λ (b : Bool). IsClearStep (cond b (inf.Blurs why.Freed []) (inf.Goes (inf_back s back) [])) × ((l : Layout) → AllHarmless l (records_of (cond b (inf.Blurs why.Freed []) (inf.Goes (inf_back s back) []))))) (sym off) (tt, λ l. tt)
    at false e t = absurd t
realloc_frees s zeroed back (Ptr o d) size c = at (nat_eq d 0) c
  where
    at_freed : (f : Option Freed) → IsClearStep (inf_realloc_object s zeroed back o size f) → IsClearStep (inf_free_object s back o f) × ((l : Layout) → AllHarmless l (records_of (inf_free_object s back o f)))
    at_freed None t = (tt, λ l. tt)
    at_freed (Some f) t = absurd t

    at : (b : Bool) → IsClearStep (cond b (inf_realloc_object s zeroed back o size (object_at s.objects o).freed) (inf.Blurs why.Realloc []))
        → IsClearStep (cond b (inf_free_object s back o (object_at s.objects o).freed) (inf.Goes (inf_back s back) (access s kind.Touch o d 1 ∷ [])))
        × ((l : Layout) → AllHarmless l (records_of (cond b (inf_free_object s back o (object_at s.objects o).freed) (inf.Goes (inf_back s back) (access s kind.Touch o d 1 ∷ [])))))
    at true t = at_freed (object_at s.objects o).freed t
    at false t = absurd t
realloc_frees s zeroed back (Mix a b c d) size t = absurd t
realloc_frees s zeroed back (Low b) size t = absurd t

abbrev pub is_null : Value → Bool
is_null (Num n) = nat_eq n 0
is_null v = false

-- and is 0 exactly where the value is
pub realloc_null : HeapsAreLaidOut → (p : Mapping) (s : InfState) (g : Guest) → StandsBy p s g → (zeroed : Bool) (back : ℕ) (v size : Value) (x : ℕ) → Stands (layout_of g.history) v x → IsClearStep (inf_realloc s zeroed back v size) → nat_eq x 0 ≡ is_null v
realloc_null laid p s g w zeroed back (Num n) size x is c = ap (λ (k : ℕ). nat_eq k 0) is
realloc_null laid p s g w zeroed back (Ptr o d) size x q c = at (nat_eq d 0) refl c
  where
    at : (b : Bool) → nat_eq d 0 ≡ b → IsClearStep (cond b (inf_realloc_object s zeroed back o size (object_at s.objects o).freed) (inf.Blurs why.Realloc [])) → nat_eq x 0 ≡ false
    at true e t = ne_eqb x 0 (λ z. omega (arith, q.is, z, eqb-true d 0 e, (laid g.history w.lawful).aligned.below o q.known, (laid g.history w.lawful).aligned.above o q.known))
    at false e t = absurd t
realloc_null laid p s g w zeroed back (Mix a b c d) size x is t = absurd t
realloc_null laid p s g w zeroed back (Low b) size x is t = absurd t
