use mathlib.Core.Path.{◌≡◌, sym, ap, ◌∙◌}
use mathlib.Core.Bool.{false}
use Prim.Native.Nat.{ℕ}
use lib.Dec.{eqb}
use borrow.Author.Tests.{ne_eqb}
use Rattle.model.specs.declared.Origin.TheVariants.{Capability as ofCapability}
use Rattle.model.specs.State.{capability_at, origin_at}
use Rattle.tree.proofs.Ascent.{has_up, has_ended}
use Rattle.tree.proofs.lineage.+created.Goals as goal

pub returns-in-Capability : goal.returns-in-Capability
returns-in-Capability t c =
    let a = c.args in
    let cs = a.capabilities.now in
    let made = λ (k : ℕ). eqb (capability_at cs k).creator a.user in
    let other : made a.n ≡ false = ap made (sym c.from.ensures) ∙ ap (λ (x : ℕ). eqb x a.user) (sym c.from-2.ensures) ∙ ne_eqb _ _ c.if-from-user.false in
    let up : origin_at cs a.n ≡ ofCapability c.in-Capability.k = ap (origin_at cs) (sym c.from.ensures) ∙ c.in-Capability.is in
    has_up (origin_at cs) made a.n other c.in-Capability.k up c.if-k-n.true c.created.result c.created.ensures

pub returns-in-Capability-2 : goal.returns-in-Capability-2
returns-in-Capability-2 t c =
    let a = c.args in
    let cs = a.capabilities.now in
    let made = λ (k : ℕ). eqb (capability_at cs k).creator a.user in
    let other : made a.n ≡ false = ap made (sym c.from.ensures) ∙ ap (λ (x : ℕ). eqb x a.user) (sym c.from-2.ensures) ∙ ne_eqb _ _ c.if-from-user.false in
    let up : origin_at cs a.n ≡ ofCapability c.in-Capability.k = ap (origin_at cs) (sym c.from.ensures) ∙ c.in-Capability.is in
    has_ended (origin_at cs) made a.n other c.in-Capability.k up c.if-k-n.false
