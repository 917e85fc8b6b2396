use Rattle.std.proofs.Common.{rules, arith, ◌∙◌, ◌≡◌, ap, sym, refl}
use Rattle.std.proofs.lemmas.List.{with_items_is}
use Rattle.rv_memory.specs.Access.{bytes_in, bytes_of}
use Rattle.rv_memory.proofs.Bytes.{over-number, whole-some}
use Rattle.rv_memory.proofs.Loads.{some_bytes}
use Rattle.rv_memory.proofs.range.Range.write.Goals as goal

pub returns-in-One : goal.returns-in-One
returns-in-One c =
    let some = some_bytes c.args.width in
    let whole = whole-some c.args.self.now (omega (arith, some)) in
    let is : c.to_le_bytes.result ≡ bytes_of 1 c.args.value = search rules in
    over-number c.args.self.now _ c.put.new.bytes c.to_le_bytes.result c.args.at c.args.value c.args.width (record {
      from = refl;
      len = refl;
      writable = refl;
      runs = refl;
      items = with_items_is c.args.self.now.bytes c.put.new.bytes (search rules);
      size = search rules;
      whole = whole;
    }) (is ∙ ap (λ w. bytes_of (bytes_in w) c.args.value) (sym c.in-One.is)) (omega (arith, whole)) (rw c.deref_mut.ensures.value at c.put.ensures.each)

pub returns-in-Two : goal.returns-in-Two
returns-in-Two c =
    let some = some_bytes c.args.width in
    let whole = whole-some c.args.self.now (omega (arith, some)) in
    let is : c.to_le_bytes-in-Two.result ≡ bytes_of 2 c.args.value = search rules in
    over-number c.args.self.now _ c.put-in-Two.new.bytes c.to_le_bytes-in-Two.result c.args.at c.args.value c.args.width (record {
      from = refl;
      len = refl;
      writable = refl;
      runs = refl;
      items = with_items_is c.args.self.now.bytes c.put-in-Two.new.bytes (search rules);
      size = search rules;
      whole = whole;
    }) (is ∙ ap (λ w. bytes_of (bytes_in w) c.args.value) (sym c.in-Two.is)) (omega (arith, whole)) (rw c.deref_mut-in-Two.ensures.value at c.put-in-Two.ensures.each)

pub returns-in-Four : goal.returns-in-Four
returns-in-Four c =
    let some = some_bytes c.args.width in
    let whole = whole-some c.args.self.now (omega (arith, some)) in
    let is : c.to_le_bytes-in-Four.result ≡ bytes_of 4 c.args.value = search rules in
    over-number c.args.self.now _ c.put-in-Four.new.bytes c.to_le_bytes-in-Four.result c.args.at c.args.value c.args.width (record {
      from = refl;
      len = refl;
      writable = refl;
      runs = refl;
      items = with_items_is c.args.self.now.bytes c.put-in-Four.new.bytes (search rules);
      size = search rules;
      whole = whole;
    }) (is ∙ ap (λ w. bytes_of (bytes_in w) c.args.value) (sym c.in-Four.is)) (omega (arith, whole)) (rw c.deref_mut-in-Four.ensures.value at c.put-in-Four.ensures.each)
