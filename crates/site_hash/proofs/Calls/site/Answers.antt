use Rattle.std.proofs.Common.{◌≡◌, ap, sym, ◌∙◌, arith, slice_index, unwrap_or}
use Rattle.std.proofs.lemmas.Option.{unwrap_or-slice_get}
use Rattle.infinite_heap.specs.CallSite.{site_of, hashed}
use Rattle.site_hash.proofs.Hashes.{hash_of, hash_of_more}
use Rattle.site_hash.proofs.Calls.site.Goals as goal

pub loop-nth-preserved : goal.loop-nth-preserved
loop-nth-preserved c =
    let address : c.from.result ≡ slice_index c.self.inside.addresses.items c.loop-nth.nth =
    c.from.ensures ∙ c.unwrap_or-address.ensures ∙ ap (λ o. unwrap_or o 0) (c.copied.ensures ∙ c.get.ensures) ∙ unwrap_or-slice_get c.self.inside.addresses.items c.loop-nth.nth 0 in
    record {
      fits = omega arith;
      so_far = ap (λ a. hashed c.loop-nth.hash a) address ∙ ap (λ h. hashed h (slice_index c.self.inside.addresses.items c.loop-nth.nth)) c.loop-nth.invariant.so_far
          ∙ sym (hash_of_more c.self.inside.addresses.items c.loop-nth.nth);
    }

pub returns : goal.returns
unfolding site_of
returns c =
    let last : c.loop-nth.nth ≡ 5 = omega arith in
    c.loop-nth.invariant.so_far ∙ ap (hash_of c.self.inside.addresses.items) last ∙ ap (λ calls. hash_of calls 5) c.self.view_is
