use mathlib.Core.Path.{◌≡◌, sym, ap, ◌∙◌}
use Rattle.model.specs.declared.Origin.TheVariants.{Capability as ofCapability}
use Rattle.model.specs.State.{origin_at}
use Rattle.tree.proofs.Ascent.{end_up}
use Rattle.tree.proofs.lineage.+root_of.Goals as goal

pub returns-in-Capability-clause-by_index : goal.returns-in-Capability-clause-by_index
returns-in-Capability-clause-by_index t c =
    let cs = c.args.capabilities.now in
    let up : origin_at cs c.args.n ≡ ofCapability c.in-Capability.k = ap (origin_at cs) (sym c.from.ensures) ∙ c.in-Capability.is in
    end_up (origin_at cs) c.args.n c.in-Capability.k up c.if-k-n.true c.root_of.result c.root_of.ensures.by_index
