-- The bytes that a format spells are read as what they spell, and what is read is spelled so.
use Rattle.std.proofs.Common.{◌≡◌, ℕ, ◌<◌, true, List, [], ◌++◌, Ok, refl, sym, ap, subst, ◌∙◌, append_assoc}
use Rattle.heap_image.specs.Fields.{size_limit, number_bytes}
use Rattle.heap_image.specs.Steps.{◌>>=◌, number_at, rule, Format, gives, number, read_at}
use Rattle.heap_image.proofs.Numbers.{IsBytes, bind_ok, ok_is, rule_ok, rule_kept, Takes, Takes-then, number_takes, number_again}

-- the bytes of a format's fields, which make this
abbrev pub Spells : {A : Type 0} → Format A → List ℕ → A → Type 0
Spells (gives y) text x = (text ≡ []) × (y ≡ x)
Spells (number size keeps next) text x = (n : ℕ) × (rest : List ℕ) × (n < size_limit size) × (keeps n ≡ true) × (text ≡ number_bytes size n ++ rest) × Spells (next n) rest x

pub record Read {A : Type 0} (f : Format A) (bytes : List ℕ) (x : A × List ℕ) : Type 0 where
  pub text : List ℕ
  pub takes : Takes bytes text x.1
  pub spells : Spells f text x.0

pub read_takes : {A : Type 0} (f : Format A) (whole : ℕ) (bytes : List ℕ) (x : A × List ℕ) → IsBytes bytes → read_at whole f bytes ≡ Ok x → Read f bytes x
unfolding read_at
read_takes {A = A} (gives y) whole bytes x fits e =
    let made : A × List ℕ = (y, bytes) in
    let is : made ≡ x = ok_is made x e in
    subst (λ (z : A × List ℕ). Read (gives y) bytes z) is (record { text = []; takes = record { parts = refl; rest_fits = fits }; spells = (refl, refl) })
read_takes {A = A} (number size keeps next) whole bytes x fits e =
    let a = bind_ok (number_at size bytes) (λ (n : ℕ × List ℕ). rule whole bytes (keeps n.0) >>= λ kept. read_at whole (next n.0) n.1) x e in
    let b = bind_ok (rule whole bytes (keeps a.0.0)) (λ kept. read_at whole (next a.0.0) a.0.1) x a.2 in
    let t = number_takes size bytes a.0 fits a.1 in
    let r = read_takes (next a.0.0) whole a.0.1 x t.0.rest_fits b.2 in
    record {
      text = number_bytes size a.0.0 ++ r.text;
      takes = Takes-then bytes (number_bytes size a.0.0) a.0.1 r.text x.1 t.0 r.takes;
      spells = (a.0.0, r.text, t.1, rule_ok whole bytes (keeps a.0.0) b.0 b.1, refl, r.spells);
    }

pub read_again : {A : Type 0} (f : Format A) (whole : ℕ) (text : List ℕ) (x : A) (rest : List ℕ) → Spells f text x → read_at whole f (text ++ rest) ≡ Ok (x, rest)
unfolding read_at
read_again {A = A} (gives y) whole text x rest s =
    let Q : List ℕ → A → Type 0 = λ t z. read_at whole (gives y) (t ++ rest) ≡ Ok (z, rest) in
    subst (λ (t : List ℕ). Q t x) (sym s.0) (subst (λ (z : A). Q [] z) s.1 refl)
read_again (number size keeps next) whole text x rest s =
    let whole_text : text ++ rest ≡ number_bytes size s.0 ++ (s.1 ++ rest) = ap (λ (t : List ℕ). t ++ rest) s.4 ∙ append_assoc (number_bytes size s.0) s.1 rest in
    let first = number_again size s.0 (s.1 ++ rest) s.2 in
    let kept = rule_kept whole (number_bytes size s.0 ++ (s.1 ++ rest)) (keeps s.0) s.3 in
    let others = read_again (next s.0) whole s.1 x rest s.5 in
    rw (whole_text, first, kept) others
