use Rattle.std.proofs.Common.{◌≡◌, ◌∷◌, ◌-◌, max, Ok, IfSome, length, map, string_bytes}
use Rattle.std.specs.List.{range_with_len}
use Rattle.ex_io.specs.Tape.{input}
use Rattle.infinite_heap.specs.Elf.{program_of}
use Rattle.infinite_heap.specs.Loaded.{Loaded}
use Rattle.iterate.specs.Parts.{InputIsSame, IsWhole, job_of}
use Rattle.iterate.specs.Reruns.{highest, rerun, rerun_image}
use Rattle.iterate.proofs.repairing.images_from.Given as goal

abbrev pub invariant-loop-i : goal.invariant-loop-i
invariant-loop-i g l = record {
  whole : IsWhole l.tape;
  same : InputIsSame l.fn.tape l.tape (g.S.Source.left l.fn.input) (g.S.Source.left l.input);
  faults : g.S.Source.faults l.input ≡ g.S.Source.faults l.fn.input;
  place : l.place ≡ l.fn.first.place;
  count : length l.images.items ≡ l.i;
  images : IfSome (input l.fn.tape (g.S.Source.left l.fn.input)) (λ bytes. (program : Loaded) → program_of l.fn.file ≡ Ok program
      → l.images.items ≡ l.fn.first ∷ map (rerun_image (job_of program (map string_bytes l.fn.args) l.fn.settings l.fn.budget) bytes l.fn.first.place) (range_with_len 1 (l.i - 1)));
  high : IfSome (input l.fn.tape (g.S.Source.left l.fn.input)) (λ bytes. (program : Loaded) → program_of l.fn.file ≡ Ok program
      → l.tape.high ≡ max l.fn.tape.high (highest (map (λ i. (rerun (job_of program (map string_bytes l.fn.args) l.fn.settings l.fn.budget) bytes l.fn.first.place i).place) (range_with_len 1 (l.i - 1)))));
}
