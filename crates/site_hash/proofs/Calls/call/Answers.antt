use Rattle.std.proofs.Common.{◌∷◌, take, ap, ◌∙◌}
use Rattle.infinite_heap.specs.Calls.{push}
use Rattle.site_hash.proofs.Calls.call.Goals as goal

pub returns : goal.returns
returns c =
    ap (λ b. b.items) c.push_front.ensures.items ∙ ap (λ n. take n (c.args.link ∷ c.self.inside.addresses.items)) c.self.invariant ∙ ap (push c.args.link) c.self.view_is
