use Rattle.std.proofs.Common.{rules, ◌≡◌, ℕ, List, None, string_bytes, ap, subst, ◌∙◌}
use Rattle.ex_io.specs.Files.{IsPlace, entries_of, find_file, with_file}
use Rattle.ex_io.proofs.Kept.{File, IsPlace-name, kept-added, kept-replaced}
use Rattle.ex_io.proofs.memory.put_file.Goals as goal

pub returns-in-Some-clause-ok : goal.returns-in-Some-clause-ok
returns-in-Some-clause-ok c =
    let files = c.args.files.now.items in
    let name = c.args.name.now in
    let place : IsPlace (entries_of files) name c.in-Some.place = subst (λ (fs : List File). IsPlace (entries_of fs) name c.in-Some.place) c.deref.ensures.value c.in-Some.ensures.first in
    let kept : c.in_ok-kept.kept.items ≡ c.args.bytes.now = search rules in
    let named : string_bytes c.index_mut.result.now.0 ≡ name = IsPlace-name files name c.in-Some.place c.index_mut.result.now place c.index_mut.ensures.value in
    kept-replaced files name c.in-Some.place (c.index_mut.result.now.0, c.in_ok-kept.kept) place named ∙ ap (λ (bytes : List ℕ). with_file (find_file (entries_of files)) name bytes) kept

pub returns-in_ok-push-in-None-clause-ok : goal.returns-in_ok-push-in-None-clause-ok
returns-in_ok-push-in-None-clause-ok c =
    let files = c.args.files.now.items in
    let name = c.args.name.now in
    let none : find_file (entries_of files) name ≡ None = subst (λ (fs : List File). find_file (entries_of fs) name ≡ None) c.deref.ensures.value c.in-None.ensures.first in
    let kept : c.in_ok-kept.kept.items ≡ c.args.bytes.now = search rules in
    ap (λ (fs : List File). find_file (entries_of fs)) c.in_ok-push-in-None.ensures.items
    ∙ kept-added files name (c.in_ok-from_str-in-None.field-0, c.in_ok-kept.kept) none c.in_ok-from_str-in-None.ensures.ok
    ∙ ap (λ (bytes : List ℕ). with_file (find_file (entries_of files)) name bytes) kept
