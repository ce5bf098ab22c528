use Rattle.std.proofs.Common.{arith}
use Rattle.std.proofs.lemmas.Option.{slice_get_within}
use Rattle.x64_layout.proofs.Growth.{begun}
use Rattle.x64_layout.proofs.least.begin.Goals as goal

pub returns : goal.returns
returns c = begun c.args.spans.now c.loop-n.lens (search arith) (λ k s is. c.loop-n.invariant k s (omega (arith, slice_get_within c.args.spans.now k s is)) is)
