use Rattle.std.proofs.Common.{◌∙◌, sym}
use Rattle.elf_load.proofs.Refusals as refusal
use Rattle.elf_load.proofs.loading.check_head.Goals as goal

pub returns-then-file-lt-HEADER_BYTES : goal.returns-then-file-lt-HEADER_BYTES
returns-then-file-lt-HEADER_BYTES c = refusal.short c.args.file.now (refusal.is_cut c.args.file.now c.if-file-lt-HEADER_BYTES.true)

pub returns-then-not-has_magic : goal.returns-then-not-has_magic
returns-then-not-has_magic c = refusal.magic c.args.file.now (refusal.is_long c.args.file.now c.if-file-lt-HEADER_BYTES.false) (sym c.has_magic.ensures ∙ c.if-not-has_magic.true)

pub returns-then-not-has_class : goal.returns-then-not-has_class
returns-then-not-has_class c =
    refusal.class c.args.file.now (refusal.is_long c.args.file.now c.if-file-lt-HEADER_BYTES.false) (sym c.has_magic.ensures ∙ c.if-not-has_magic.false) (sym c.has_class.ensures ∙ c.if-not-has_class.true)

pub returns-then-not-has_kind : goal.returns-then-not-has_kind
returns-then-not-has_kind c =
    refusal.kind c.args.file.now (refusal.is_long c.args.file.now c.if-file-lt-HEADER_BYTES.false) (sym c.has_magic.ensures ∙ c.if-not-has_magic.false) (sym c.has_class.ensures ∙ c.if-not-has_class.false)
    (sym c.has_kind.ensures ∙ c.if-not-has_kind.true)

pub returns-then-not-has_machine : goal.returns-then-not-has_machine
returns-then-not-has_machine c =
    refusal.machine c.args.file.now (refusal.is_long c.args.file.now c.if-file-lt-HEADER_BYTES.false) (sym c.has_magic.ensures ∙ c.if-not-has_magic.false) (sym c.has_class.ensures ∙ c.if-not-has_class.false)
    (sym c.has_kind.ensures ∙ c.if-not-has_kind.false) (sym c.has_machine.ensures ∙ c.if-not-has_machine.true)

pub returns-then-not-has_flags : goal.returns-then-not-has_flags
returns-then-not-has_flags c =
    refusal.flags c.args.file.now (refusal.is_long c.args.file.now c.if-file-lt-HEADER_BYTES.false) (sym c.has_magic.ensures ∙ c.if-not-has_magic.false) (sym c.has_class.ensures ∙ c.if-not-has_class.false)
    (sym c.has_kind.ensures ∙ c.if-not-has_kind.false) (sym c.has_machine.ensures ∙ c.if-not-has_machine.false) (sym c.has_flags.ensures ∙ c.if-not-has_flags.true)
