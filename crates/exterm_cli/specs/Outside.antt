-- What the outside shows of itself at a moment, and what its faults cause.
use Rattle.std.specs.Prelude.{◌≡◌, ℕ, List, Option, Result, Ok, Err}
use Rattle.ex_io.specs.Causes.{Rose}
use Rattle.ex_io.specs.Files.{FileMap}
use Rattle.layout_run.specs.Outside.{Held}
use Rattle.exterm_cli.specs.declared.cut.Cut.{Cut}
use Rattle.exterm_cli.specs.declared.cut.Cut.TheVariants as why

-- how often each object has failed
pub record Faults : Type 0 where
  pub input : ℕ
  pub out : ℕ
  pub err : ℕ
  pub files : ℕ

abbrev pub faults : (input out err files : ℕ) → Faults
faults input out err files = record { input = input; out = out; err = err; files = files }

pub record Seen : Type 0 where
  pub held : Held
  pub files : Option FileMap
  -- of the input
  pub left : Option (List ℕ)
  pub faults : Faults

abbrev pub seen : Held → Option FileMap → (left : Option (List ℕ)) → Faults → Seen
seen held files left faults = record { held = held; files = files; left = left; faults = faults }

-- no count rose
pub record NoFault (before after : Faults) : Type 0 where
  pub input : after.input ≡ before.input
  pub out : after.out ≡ before.out
  pub err : after.err ≡ before.err
  pub files : after.files ≡ before.files

-- the count of the object that is the cause rose; want of memory raises none
abbrev pub Causes : Cut → Faults → Faults → Type 0
Causes why.Memory before after = Unit {0}
Causes why.Input before after = Rose before.input after.input
Causes why.Output before after = Rose before.out after.out
Causes why.Error before after = Rose before.err after.err
Causes why.File before after = Rose before.files after.files

-- the same of a part of a call, in which the count of err rises at no other cause
abbrev pub RaisesAs : {T : Type 0} → Result T Cut → Faults → Faults → Type 0
RaisesAs (Ok done) before after = NoFault before after
RaisesAs (Err why.Error) before after = Causes why.Error before after
RaisesAs (Err cause) before after = Causes cause before after × (after.err ≡ before.err)
