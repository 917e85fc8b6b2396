-- A table within the limits has a text: line by line, in the order of its entries.
use Rattle.std.proofs.Common.{◌≡◌, ℕ, List, [], ◌∷◌, ◌++◌, sym, ap, subst, ◌∙◌, append_assoc, arith}
use Rattle.std.specs.Prelude.{T}
use Rattle.std.specs.Ordering.{nat_cmp}
use Rattle.std.specs.Cmp.{nat_cmp_total}
use Rattle.std.specs.List.{AllByRecursion}
use Rattle.std.specs.Fmt.{decimal}
use Rattle.std.specs.FinMap.{FinMap, entries, entries_sorted, same_entries_map, is_sorted}
use Rattle.std.proofs.lemmas.List.{append-nil}
use Rattle.patch_table.specs.Table.{Table, no_patches, pair_cmp}
use Rattle.patch_table.specs.Limits.{IsPad, IsFront, IsDefer, InLimits}
use Rattle.patch_table.specs.Line.{Allows, line_of}
use Rattle.patch_table.specs.Grammar.{AllBelow, with_line, IsText}
use Rattle.patch_table.specs.Spelling.{head_of, spelling, IsSpelled}
use Rattle.patch_table.specs.declared.line.Key.TheVariants.{Pad, Front, Defer}
use Rattle.patch_table.specs.declared.line.Version.{Version}
use Rattle.patch_table.specs.declared.line.Version.TheVariants.{One, Two}
use Rattle.patch_table.proofs.Trees.{pairs_total}
use Rattle.patch_table.proofs.Order.{before_below}
use Rattle.patch_table.proofs.Fits.{raised_at_end}
use Rattle.patch_table.proofs.Texts.{nothing, is_line_of, text_is_spelling}

-- some text of a table with these entries
record Grown (version : Version) (pads fronts : List (ℕ × ℕ)) (defers : List ((ℕ × ℕ) × ℕ)) : Type 0 where
  text : List ℕ
  table : Table
  is_text : IsText version text table
  has_pads : entries table.pads ≡ pads
  has_fronts : entries table.fronts ≡ fronts
  has_defers : entries table.defers ≡ defers

allows_pad : (version : Version) (site : ℕ) → Allows version (Pad site)
allows_pad One site = tt
allows_pad Two site = tt

allows_defer : (version : Version) (a b : ℕ) → Allows version (Defer a b)
allows_defer One a b = tt
allows_defer Two a b = tt

one_pad : (version : Version) (before : List (ℕ × ℕ)) (e : ℕ × ℕ) → AllBelow nat_cmp before e.0 → IsPad e → Grown version before [] [] → Grown version (before ++ e ∷ []) [] []
one_pad version before e below fits g =
    let above : AllBelow nat_cmp (entries g.table.pads) e.0 = subst (λ es. AllBelow nat_cmp es e.0) (sym g.has_pads) below in
    record {
      text = g.text ++ line_of (Pad e.0) (decimal e.1);
      table = with_line g.table (Pad e.0) e.1;
      is_text = IsText.next (line_of (Pad e.0) (decimal e.1)) (Pad e.0) e.1 g.is_text (is_line_of version (Pad e.0) e.1 fits.0 (allows_pad version e.0) (omega (arith, fits.2))) (fits.1, fits.2) (g.has_fronts, g.has_defers, above);
      has_pads = raised_at_end nat_cmp nat_cmp_total g.table.pads e.0 e.1 above ∙ ap (λ es. es ++ e ∷ []) g.has_pads;
      has_fronts = g.has_fronts;
      has_defers = g.has_defers;
    }

all_pads : (version : Version) (before rest : List (ℕ × ℕ)) → T (is_sorted nat_cmp (before ++ rest)) → AllByRecursion IsPad rest → Grown version before [] [] → Grown version (before ++ rest) [] []
all_pads version before [] sorted fits g = subst (λ es. Grown version es [] []) (sym (append-nil before)) g
all_pads version before (e ∷ rest) sorted fits g =
    let moved : (before ++ e ∷ []) ++ rest ≡ before ++ e ∷ rest = append_assoc before (e ∷ []) rest in
    subst (λ es. Grown version es [] []) moved (all_pads version (before ++ e ∷ []) rest (subst (λ es. T (is_sorted nat_cmp es)) (sym moved) sorted) fits.1 (one_pad version before e (before_below nat_cmp before e rest sorted) fits.0 g))

one_front : (pads before : List (ℕ × ℕ)) (e : ℕ × ℕ) → AllBelow nat_cmp before e.0 → IsFront e → Grown Two pads before [] → Grown Two pads (before ++ e ∷ []) []
one_front pads before e below fits g =
    let above : AllBelow nat_cmp (entries g.table.fronts) e.0 = subst (λ es. AllBelow nat_cmp es e.0) (sym g.has_fronts) below in
    record {
      text = g.text ++ line_of (Front e.0) (decimal e.1);
      table = with_line g.table (Front e.0) e.1;
      is_text = IsText.next (line_of (Front e.0) (decimal e.1)) (Front e.0) e.1 g.is_text (is_line_of Two (Front e.0) e.1 fits.0 tt (omega (arith, fits.2))) (fits.1, fits.2, fits.3) (g.has_defers, above);
      has_pads = g.has_pads;
      has_fronts = raised_at_end nat_cmp nat_cmp_total g.table.fronts e.0 e.1 above ∙ ap (λ es. es ++ e ∷ []) g.has_fronts;
      has_defers = g.has_defers;
    }

all_fronts : (pads before rest : List (ℕ × ℕ)) → T (is_sorted nat_cmp (before ++ rest)) → AllByRecursion IsFront rest → Grown Two pads before [] → Grown Two pads (before ++ rest) []
all_fronts pads before [] sorted fits g = subst (λ es. Grown Two pads es []) (sym (append-nil before)) g
all_fronts pads before (e ∷ rest) sorted fits g =
    let moved : (before ++ e ∷ []) ++ rest ≡ before ++ e ∷ rest = append_assoc before (e ∷ []) rest in
    subst (λ es. Grown Two pads es []) moved (all_fronts pads (before ++ e ∷ []) rest (subst (λ es. T (is_sorted nat_cmp es)) (sym moved) sorted) fits.1 (one_front pads before e (before_below nat_cmp before e rest sorted) fits.0 g))

one_defer : (version : Version) (pads fronts : List (ℕ × ℕ)) (before : List ((ℕ × ℕ) × ℕ)) (e : (ℕ × ℕ) × ℕ) → AllBelow pair_cmp before e.0 → IsDefer e → Grown version pads fronts before → Grown version pads fronts (before ++ e ∷ [])
one_defer version pads fronts before e below fits g =
    let above : AllBelow pair_cmp (entries g.table.defers) e.0 = subst (λ es. AllBelow pair_cmp es e.0) (sym g.has_defers) below in
    record {
      text = g.text ++ line_of (Defer e.0.0 e.0.1) (decimal e.1);
      table = with_line g.table (Defer e.0.0 e.0.1) e.1;
      is_text = IsText.next (line_of (Defer e.0.0 e.0.1) (decimal e.1)) (Defer e.0.0 e.0.1) e.1 g.is_text (is_line_of version (Defer e.0.0 e.0.1) e.1 (fits.0, fits.1) (allows_defer version e.0.0 e.0.1) fits.3) (fits.2, fits.3) above;
      has_pads = g.has_pads;
      has_fronts = g.has_fronts;
      has_defers = raised_at_end pair_cmp pairs_total g.table.defers e.0 e.1 above ∙ ap (λ es. es ++ e ∷ []) g.has_defers;
    }

all_defers : (version : Version) (pads fronts : List (ℕ × ℕ)) (before rest : List ((ℕ × ℕ) × ℕ)) → T (is_sorted pair_cmp (before ++ rest)) → AllByRecursion IsDefer rest → Grown version pads fronts before → Grown version pads fronts (before ++ rest)
all_defers version pads fronts before [] sorted fits g = subst (Grown version pads fronts) (sym (append-nil before)) g
all_defers version pads fronts before (e ∷ rest) sorted fits g =
    let moved : (before ++ e ∷ []) ++ rest ≡ before ++ e ∷ rest = append_assoc before (e ∷ []) rest in
    subst (Grown version pads fronts) moved (all_defers version pads fronts (before ++ e ∷ []) rest (subst (λ es. T (is_sorted pair_cmp es)) (sym moved) sorted) fits.1 (one_defer version pads fronts before e (before_below pair_cmp before e rest sorted) fits.0 g))

-- the fronts that the version can spell
grown_fronts : (version : Version) (table : Table) → IsSpelled version table → InLimits table → Grown version (entries table.pads) [] [] → Grown version (entries table.pads) (entries table.fronts) []
grown_fronts One table none fits g = subst (λ es. Grown One (entries table.pads) es []) (sym (ap (λ (m : FinMap nat_cmp ℕ). entries m) none ∙ nothing nat_cmp ℕ)) g
grown_fronts Two table some fits g = all_fronts (entries table.pads) [] (entries table.fronts) (entries_sorted table.fronts) fits.fronts g

pub spelling_is_text : (version : Version) (table : Table) → IsSpelled version table → InLimits table → IsText version (spelling version table) table
spelling_is_text version table spelled fits =
    let none : Grown version [] [] [] = record { text = head_of version; table = no_patches; is_text = IsText.head; has_pads = nothing nat_cmp ℕ; has_fronts = nothing nat_cmp ℕ; has_defers = nothing pair_cmp ℕ } in
    let fronts = grown_fronts version table spelled fits (all_pads version [] (entries table.pads) (entries_sorted table.pads) fits.pads none) in
    let g = all_defers version (entries table.pads) (entries table.fronts) [] (entries table.defers) (entries_sorted table.defers) fits.defers fronts in
    let p = same_entries_map g.table.pads table.pads g.has_pads in
    let f = same_entries_map g.table.fronts table.fronts g.has_fronts in
    let d = same_entries_map g.table.defers table.defers g.has_defers in
    let same : g.table ≡ table = λ i. record { pads = p i; fronts = f i; defers = d i } in
    let text : g.text ≡ spelling version table = (text_is_spelling g.is_text).2 ∙ ap (spelling version) same in
    subst (λ x. IsText version x table) text (subst (IsText version g.text) same g.is_text)
