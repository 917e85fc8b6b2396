use Rattle.std.proofs.Common.{inl, inr}
use Rattle.heap_image.proofs.patches.any_patches.Goals as goal

pub returns-in-Err-Head : goal.returns-in-Err-Head
returns-in-Err-Head c = λ table is. let kind = c.in-Err-Head.field-0-is in elim (c.in-Err-Head.ensures.accepts table is) [ inl e ↦ absurd cc | inr e ↦ absurd cc ]

pub returns-in-Err-Line : goal.returns-in-Err-Line
returns-in-Err-Line c = λ table is. let kind = c.in-Err-Line.field-0-is in elim (c.in-Err-Line.ensures.accepts table is) [ inl e ↦ absurd cc | inr e ↦ absurd cc ]

pub returns-in-Err-Limit : goal.returns-in-Err-Limit
returns-in-Err-Limit c = λ table is. let kind = c.in-Err-Limit.field-0-is in elim (c.in-Err-Limit.ensures.accepts table is) [ inl e ↦ absurd cc | inr e ↦ absurd cc ]

pub returns-in-Err-Order : goal.returns-in-Err-Order
returns-in-Err-Order c = λ table is. let kind = c.in-Err-Order.field-0-is in elim (c.in-Err-Order.ensures.accepts table is) [ inl e ↦ absurd cc | inr e ↦ absurd cc ]
