use Rattle.std.proofs.Common.{◌≡◌, ℕ, ◌/◌, List, [], ◌∷◌, ◌++◌, length, rules, get_or, ◌^◌, arith, ap, ◌∙◌, refl}
use Rattle.miniheap.specs.declared.places.Row.{Row}
use Rattle.miniheap.proofs.PlaceLemmas.{rows_are}
use Rattle.miniheap.proofs.GrowLemmas.{Adds, rows_added, number_fits, members_fit, slots_fit}
use Rattle.miniheap.proofs.places.Places.add.Goals as goal

pub overflow_cast-number : goal.overflow_cast-number
overflow_cast-number c =
    let e : c.len-number.result ≡ length c.self.inside.rows.items = search rules in
    record { fits = omega (arith, e, number_fits c.self.inside c.args.self.now (rows_are c.self.inside c.self.invariant c.args.self.now c.self.view_is)) }

pub overflow_add-self-2 : goal.overflow_add-self-2
overflow_add-self-2 c = record { fits = members_fit c.self.inside c.args.self.now (rows_are c.self.inside c.self.invariant c.args.self.now c.self.view_is) c.args.class c.requires.low c.requires.high }

pub overflow_add-self-3 : goal.overflow_add-self-3
overflow_add-self-3 c =
    record { fits = slots_fit c.self.inside c.args.self.now (rows_are c.self.inside c.self.invariant c.args.self.now c.self.view_is) c.args.class c.args.bytes c.requires.low c.requires.high c.requires.bytes c.requires.room }

pub invariant_of-self-2 : goal.invariant_of-self-2
invariant_of-self-2 c =
    let row : Row = record { class = c.args.class; base = c.self.inside.end; slots = c.args.bytes / 2 ^ c.args.class; first = get_or c.self.inside.tally.slots c.args.class 0; prev = get_or c.self.inside.tally.last c.args.class 0 } in
    let adds : Adds c.self.inside c.args.self.now c.args.class c.args.bytes row = record {
      low = c.requires.low;
      high = c.requires.high;
      bytes_are = c.requires.bytes;
      room = c.requires.room;
      class_is = refl;
      base_is = refl;
      slots_are = refl;
      first_is = refl;
      prev_is = refl;
    } in
    let classes : c.push-2.new.self.items ≡ c.self.inside.classes.items ++ c.args.class ∷ [] = c.in_ok-push-2.ensures.items ∙ ap (λ (x : List ℕ). x ++ c.args.class ∷ []) c.in_ok-reserve.ensures.items in
    let rows : c.push.new.self.items ≡ c.self.inside.rows.items ++ row ∷ [] = c.in_ok-push.ensures.items ∙ ap (λ (x : List Row). x ++ row ∷ []) c.in_ok-reserve-2.ensures.items in
    let number : c.len-number.result ≡ length c.self.inside.rows.items = search rules in
    let members_23 : length c.self.inside.tally.members ≡ 23 = search rules in
    let last_23 : length c.self.inside.tally.last ≡ 23 = search rules in
    let slots_23 : length c.self.inside.tally.slots ≡ 23 = search rules in
    rows_added c.self.inside c.args.self.now (rows_are c.self.inside c.self.invariant c.args.self.now c.self.view_is) c.self.view_is c.args.class c.args.bytes c.len-number.result row adds c.push-2.new.self.items c.push.new.self.items classes rows number members_23 last_23 slots_23
